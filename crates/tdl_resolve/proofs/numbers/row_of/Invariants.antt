use Rattle.std.proofs.Common.{◌≡◌, ℕ, ◌<◌, Some, length, slice_get}
use Rattle.tdl_resolve.specs.Counting.{counts_at}
use Rattle.tdl_resolve.proofs.numbers.row_of.Given as goal

abbrev pub invariant-loop-decl : goal.invariant-loop-decl
invariant-loop-decl l = record {
  counted : l.all ≡ counts_at l.decls l.decl-index;
  many : length l.before ≡ l.decl-index;
  noted : (k : ℕ) → k < l.decl-index → slice_get l.before k ≡ Some (counts_at l.decls k);
}
