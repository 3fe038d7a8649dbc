-- The parts of a node of the compiler's bundle are, in order, the modules that it hosts or sees.
use Rattle.std.proofs.Common.{◌≡◌, ℕ, suc, ◌<◌, List, [], ◌∷◌, ◌++◌, map, Bool, true, false, not, ◌&&◌, nat_le, refl, ap, ◌∙◌, arith}
use Rattle.std.specs.Prelude.{if◌then◌else◌}
use Rattle.std.proofs.lemmas.Bool.Decides.{nat_tests}
use Rattle.tdl_base.specs.Lists.{joined, numbered, inserted}
use Rattle.tdl_mode.specs.declared.program.Program.{Program}
use Rattle.tdl_mode.specs.declared.program.Module.{Module}
use Rattle.tdl_deploy.specs.declared.placement.Placement.{Placement}
use Rattle.tdl_deploy.specs.declared.placement.PlacedNode.{PlacedNode}
use Rattle.tdl_deploy.specs.declared.schedule.Schedule.{Schedule}
use Rattle.tdl_deploy.specs.Placed.{hosts, imports}
use Rattle.tdl_verify.specs.States.{Part, part_number, host_first, stub_first, placed_all, node_first, is_part_before}
use Rattle.tdl_gen.specs.Tables.{hosted_of, stub_of}
use Rattle.tdl_gen.specs.Realises.{image_of, part_at}

-- all these parts have greater numbers
abbrev Above : ℕ → List Part → Type 0
Above k [] = Unit {0}
Above k (p ∷ ps) = (k < part_number p) × Above k ps

-- a part of a lower number than all others is placed first
in_front : (p : Part) (ps : List Part) → Above (part_number p) ps → inserted is_part_before p ps ≡ p ∷ ps
in_front p [] a = refl
in_front p (q ∷ qs) a = let e : is_part_before p q ≡ true = less (part_number p) (part_number q) a.0 in
    ap (λ b. if b then (p ∷ q ∷ qs) else q ∷ inserted is_part_before p qs) e
  where
    less : (a b : ℕ) → a < b → nat_le a b ≡ true
    less a b h = grind (arith, nat_tests, h)

-- parts of greater numbers are placed after a part
placed_all-first : (q : Part) (ps qs : List Part) → Above (part_number q) ps →
    placed_all ps (q ∷ qs) ≡ q ∷ placed_all ps qs
placed_all-first q [] qs a = refl
placed_all-first q (p ∷ ps) qs a =
    let e : is_part_before p q ≡ false = less (part_number p) (part_number q) a.0 in
    ap (inserted is_part_before p) (placed_all-first q ps qs a.1)
    ∙ ap (λ b. if b then (p ∷ q ∷ placed_all ps qs) else q ∷ inserted is_part_before p (placed_all ps qs)) e
  where
    less : (a b : ℕ) → b < a → nat_le a b ≡ false
    less a b h = grind (arith, nat_tests, h)

module _ (p : Program) (pl : Placement) (s : Schedule) (node : ℕ) where
  -- a module's part where it is hosted
  abbrev host_at : ℕ → Module → Part
  host_at k m = host_first (hosted_of s k m)

  -- a module's part where it is not hosted but imported
  abbrev stub_at : ℕ → Module → Part
  stub_at k m = stub_first (stub_of p pl s k m)

  -- the hosted parts from number n on
  abbrev hosts_from : ℕ → List Module → List Part
  hosts_from n ms = map host_first (joined (numbered n (λ k m. if hosts pl node k then hosted_of s k m ∷ [] else [])
      ms))

  -- the stubs from number n on
  abbrev stubs_from : ℕ → List Module → List Part
  stubs_from n ms = map stub_first (joined (numbered n
      (λ k m. if not (hosts pl node k) && imports p pl node k then stub_of p pl s k m ∷ [] else []) ms))

  -- the hosted parts from a number on have greater numbers than those below it
  hosts-above : (j n : ℕ) (ms : List Module) → j < n → Above j (hosts_from n ms)
  hosts-above j n [] lt = tt
  hosts-above j n (m ∷ ms) lt = by_test (hosts-above j (suc n) ms (omega (arith, lt))) (hosts pl node n)
    where
      by_test : Above j (hosts_from (suc n) ms) → (b : Bool) →
          Above j (map host_first ((if b then hosted_of s n m ∷ [] else [])
          ++ joined (numbered (suc n) (λ k m. if hosts pl node k then hosted_of s k m ∷ [] else []) ms)))
      by_test rest true = (lt, rest)
      by_test rest false = rest

  -- all parts from a number on have greater numbers than those below it
  parts-above : (j n : ℕ) (ms : List Module) → j < n → Above j (joined (numbered n (part_at p pl s node) ms))
  parts-above j n [] lt = tt
  parts-above j n (m ∷ ms) lt = by_test (parts-above j (suc n) ms (omega (arith, lt))) (hosts pl node n)
      (imports p pl node n)
    where
      by_test : Above j (joined (numbered (suc n) (part_at p pl s node) ms)) → (b c : Bool) →
          Above j ((if b then host_at n m ∷ [] else (if c then stub_at n m ∷ [] else []))
          ++ joined (numbered (suc n) (part_at p pl s node) ms))
      by_test rest true c = (lt, rest)
      by_test rest false true = (lt, rest)
      by_test rest false false = rest

  -- the stubs placed among the hosts are the parts in order of their modules
  in_order : (n : ℕ) (ms : List Module) → placed_all (hosts_from n ms) (stubs_from n ms) ≡
      joined (numbered n (part_at p pl s node) ms)
  in_order n [] = refl
  in_order n (m ∷ ms) = by_test (in_order (suc n) ms) (hosts pl node n) (imports p pl node n)
    where
      by_test : placed_all (hosts_from (suc n) ms) (stubs_from (suc n) ms)
          ≡ joined (numbered (suc n) (part_at p pl s node) ms) →
          (b c : Bool) →
          placed_all (map host_first ((if b then hosted_of s n m ∷ [] else [])
          ++ joined (numbered (suc n) (λ k m. if hosts pl node k then hosted_of s k m ∷ [] else []) ms)))
          (map stub_first ((if not b && c then stub_of p pl s n m ∷ [] else [])
          ++ joined (numbered (suc n) (λ k m. if not (hosts pl node k) && imports p pl node k then stub_of p pl s
          k m ∷ [] else []) ms)))
          ≡ (if b then host_at n m ∷ [] else (if c then stub_at n m ∷ [] else []))
          ++ joined (numbered (suc n) (part_at p pl s node) ms)
      by_test rest true c = ap (inserted is_part_before (host_at n m)) rest
          ∙ in_front (host_at n m) (joined (numbered (suc n) (part_at p pl s node) ms))
          (parts-above n (suc n) ms (omega arith))
      by_test rest false true = placed_all-first (stub_at n m) (hosts_from (suc n) ms) (stubs_from (suc n) ms)
          (hosts-above n (suc n) ms (omega arith)) ∙ ap (λ ps. stub_at n m ∷ ps) rest
      by_test rest false false = rest

  -- the parts of a node are, in order, the modules that it hosts or sees
  pub parts-are : (n : PlacedNode) →
      (node_first (image_of p pl s node n)).parts ≡ joined (numbered 0 (part_at p pl s node) p.modules)
  parts-are n = in_order 0 p.modules
