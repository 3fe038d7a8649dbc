-- All modules on one node.
use Rattle.std.proofs.Common.{◌≡◌, ℕ, zero, suc, ◌+◌, ◌<◌, ◌==◌, Bool, true, false, ◌||◌, List, [], ◌∷◌, length, refl, sym, ap, ◌∙◌, arith}
use Rattle.std.proofs.lemmas.Bool.Decides.{nat_tests}
use Rattle.tdl_base.specs.Lists.{numbered}
use Rattle.tdl_base.specs.declared.numbers.ModuleId.{ModuleId}
use Rattle.tdl_base.proofs.Tests.{eq_self}
use Rattle.tdl_mode.specs.Imports.{is_among}
use Rattle.tdl_mode.specs.declared.program.Program.{Program}
use Rattle.tdl_mode.specs.declared.program.Module.{Module}
use Rattle.tdl_deploy.specs.Named.{one_node}
use Rattle.tdl_deploy.specs.Passes.{WellPlaced}
use Rattle.tdl_deploy.specs.Placed.{hosts}
use Rattle.tdl_place.proofs.Numbered.{has_item, any-place}

-- a number among those of a list is one of its places
numbered_below : (m k : ℕ) (xs : List Module) →
    is_among m (numbered k (λ i (d : Module). record { 0 = i }) xs) ≡ true → m < k + length xs
numbered_below m k [] among = absurd cc
numbered_below m k (x ∷ xs) among = by_test (k == m) refl (numbered_below m (suc k) xs)
  where
    by_test : (b : Bool) → (k == m) ≡ b →
        (is_among m (numbered (suc k) (λ i (d : Module). record { 0 = i }) xs) ≡ true → m < suc k + length xs) →
        m < k + length (x ∷ xs)
    by_test true e more = let same : k ≡ m = grind (arith, nat_tests) in omega (arith, same)
    by_test false e more =
        let less =
        more (sym (ap (λ (b : Bool). b || is_among m (numbered (suc k) (λ i (d : Module). record { 0 = i }) xs)) e)
        ∙ among) in
        omega (arith, less)

-- only the first node hosts a module, and it is there
hosts_only : (program : Program) (n m : ℕ) → hosts (one_node program) n m ≡ true →
    (n ≡ 0) × (m < length program.modules)
hosts_only program zero m h = let less = numbered_below m 0 program.modules h in (refl, omega (arith, less))
hosts_only program (suc n) m h = absurd (cc h)

-- one node is a lawful placement
pub one_node_placed : (program : Program) → WellPlaced program (one_node program)
one_node_placed program = record {
  hosted = λ m below.
      let has = has_item program.modules m below in (
        0,
        any-place (λ (i : ModuleId). i.0 == m) (λ k (d : Module). record { 0 = k }) m program.modules has.item
            has.at (eq_self m),
      );
  once = λ m n k here there. (hosts_only program n m here).0 ∙ sym (hosts_only program k m there).0;
  there = λ m n here. (hosts_only program n m here).1;
}
