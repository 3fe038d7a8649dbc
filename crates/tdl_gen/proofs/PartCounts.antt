-- The declared count of a node is the sum of its parts' counts, module by module.
use Rattle.std.proofs.Common.{◌≡◌, ℕ, suc, ◌+◌, List, [], ◌∷◌, ◌++◌, map, Bool, true, false, not, ◌&&◌, arith, refl}
use Rattle.std.specs.Prelude.{if◌then◌else◌, sum}
use Rattle.std.specs.List.{fold}
use Rattle.tdl_base.specs.Lists.{joined, numbered}
use Rattle.tdl_mode.specs.declared.program.Program.{Program}
use Rattle.tdl_mode.specs.declared.program.Module.{Module}
use Rattle.tdl_deploy.specs.declared.placement.Placement.{Placement}
use Rattle.tdl_deploy.specs.declared.schedule.Schedule.{Schedule}
use Rattle.tdl_deploy.specs.Placed.{hosts, imports}
use Rattle.tdl_image.specs.declared.stub.Stub.{Stub}
use Rattle.tdl_gen.specs.Tables.{stub_of}
use Rattle.tdl_gen.specs.Counts.{module_count, stub_count, declared_of, part_count}

-- a sum from a number on is the number and the sum
pub fold-from : (a : ℕ) (ns : List ℕ) → fold ◌+◌ a ns ≡ a + sum ns
fold-from a [] = omega arith
fold-from a (n ∷ ns) = let f = fold-from (a + n) ns in let g = fold-from (0 + n) ns in omega (arith, f, g)

module _ (p : Program) (pl : Placement) (s : Schedule) (node : ℕ) where
  -- the counts of the modules from number n on that the node hosts
  abbrev hosted_counts : ℕ → List Module → List ℕ
  hosted_counts n ms = joined (numbered n (λ k m. if hosts pl node k then module_count m ∷ [] else []) ms)

  -- the stubs of the modules from number n on
  abbrev stubs_from : ℕ → List Module → List Stub
  stubs_from n ms =
      joined (numbered n (λ k m. if not (hosts pl node k) && imports p pl node k then stub_of p pl s k m ∷ [] else [])
      ms)

  -- the counts of the parts, by module, are those of the hosted modules and those of the stubs
  counts-split : (n : ℕ) (ms : List Module) →
      sum (hosted_counts n ms) + sum (map stub_count (stubs_from n ms)) ≡ sum (numbered n (part_count p pl s node) ms)
  counts-split n [] = refl
  counts-split n (m ∷ ms) = by_test (counts-split (suc n) ms) (hosts pl node n) (imports p pl node n)
    where
      by_test : sum (hosted_counts (suc n) ms) + sum (map stub_count (stubs_from (suc n) ms))
          ≡ sum (numbered (suc n) (part_count p pl s node) ms) → (hosted imported : Bool) →
          sum ((if hosted then module_count m ∷ [] else []) ++ hosted_counts (suc n) ms)
          + sum (map stub_count
          ((if not hosted && imported then stub_of p pl s n m ∷ [] else []) ++ stubs_from (suc n) ms))
          ≡ sum ((if hosted then module_count m else (if imported then stub_count (stub_of p pl s n m) else 0))
          ∷ numbered (suc n) (part_count p pl s node) ms)
      by_test rest true imported =
          let a = fold-from (0 + module_count m) (hosted_counts (suc n) ms) in
          let b = fold-from (0 + module_count m) (numbered (suc n) (part_count p pl s node) ms) in
          omega (arith, a, b, rest)
      by_test rest false true =
          let c : ℕ = stub_count (stub_of p pl s n m) in
          let a = fold-from (0 + c) (map stub_count (stubs_from (suc n) ms)) in
          let b = fold-from (0 + c) (numbered (suc n) (part_count p pl s node) ms) in
          omega (arith, a, b, rest)
      by_test rest false false =
          let b = fold-from (0 + 0) (numbered (suc n) (part_count p pl s node) ms) in
          omega (arith, b, rest)

-- the declared count is the sum of the counts of the parts
pub declared-parts : (program : Program) (placement : Placement) (schedule : Schedule) (node : ℕ) →
    declared_of program placement schedule node
    ≡ sum (numbered 0 (part_count program placement schedule node) program.modules)
declared-parts program placement schedule node = counts-split program placement schedule node 0 program.modules
