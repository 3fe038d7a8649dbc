-- A code is lawful where it passes the tests, and only there.
use Rattle.std.proofs.Common.{◌≡◌, ℕ, ◌+◌, List, length}
use Rattle.tdl_stack.specs.declared.instr.Instr.{Instr}
use Rattle.tdl_stack.specs.Lawful.{CodeShape, IsLawful}
use Rattle.tdl_stack.specs.Judging.{Sound}
use Rattle.tdl_stack.specs.Spanning.{Stand, AreInnermost, LandBefore}
use Rattle.tdl_stack.specs.Counting.{no_count, Counts}
use Rattle.tdl_stack.proofs.Soundness.{Rules, sound-rules}
use Rattle.tdl_stack.proofs.Standing.{stand-rules, rules-stand, rules-land}
use Rattle.tdl_stack.proofs.Counted.{counts-depth, counts-cost, rules-counts}

-- the rules and the count together
rules-lawful : (code : List Instr) (shape : CodeShape) → Rules code shape → Counts no_count code → IsLawful code shape
rules-lawful code shape r counts = record {
  suits = r.suits;
  exist = r.exist;
  supplied = r.supplied;
  room = r.room;
  within = r.within;
  nested = r.nested;
  outside = r.outside;
  empty_before = r.empty_before;
  empty_after = r.empty_after;
  depth = counts-depth code r.nested counts;
  repeat = r.repeat;
  cost = counts-cost code r.nested counts;
  end = r.end;
}

-- the rules alone
lawful-rules : (code : List Instr) (shape : CodeShape) → IsLawful code shape → Rules code shape
lawful-rules code shape l = record {
  suits = l.suits;
  exist = l.exist;
  supplied = l.supplied;
  room = l.room;
  within = l.within;
  nested = l.nested;
  outside = l.outside;
  empty_before = l.empty_before;
  empty_after = l.empty_after;
  repeat = l.repeat;
  end = l.end;
}

-- what is sound and can be counted is lawful
pub checked-lawful : (code : List Instr) (shape : CodeShape) → Sound shape 0 code → Counts no_count code →
    IsLawful code shape
checked-lawful code shape sound counts = rules-lawful code shape (sound-rules shape code sound) counts

-- what passes the tests is lawful
pub tested-lawful : (code : List Instr) (shape : CodeShape) (bodies : List ℕ) → length bodies ≡ length code + 1 →
    AreInnermost code bodies → Stand shape 0 code → LandBefore code (length code) → Counts no_count code →
    IsLawful code shape
tested-lawful code shape bodies count are stand land counts =
    rules-lawful code shape (stand-rules shape code bodies count are stand land) counts

-- what is lawful passes the first
pub lawful-stand : (code : List Instr) (shape : CodeShape) → IsLawful code shape → Stand shape 0 code
lawful-stand code shape l = rules-stand shape code (lawful-rules code shape l)

-- and the second
pub lawful-land : (code : List Instr) (shape : CodeShape) → IsLawful code shape → LandBefore code (length code)
lawful-land code shape l = rules-land shape code (lawful-rules code shape l)

-- and the third
pub lawful-counts : (code : List Instr) (shape : CodeShape) → IsLawful code shape → Counts no_count code
lawful-counts code shape l = rules-counts code l.nested l.depth l.cost
