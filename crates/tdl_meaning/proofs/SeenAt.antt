-- What each module sees: what the node does that hosts it.
use Rattle.std.proofs.Common.{◌≡◌, ℕ, zero, suc, ◌+◌, ℤ, List, [], ◌∷◌, Bool, true, false, Some, refl, ap, sym, ◌∙◌, arith}
use Rattle.std.specs.Prelude.{slice_get, if◌then◌else◌}
use Rattle.tdl_base.specs.declared.numbers.PortKey.{PortKey}
use Rattle.tdl_deploy.specs.Placed.{hosts}
use Rattle.tdl_verify.specs.States.{Part, NodeNow}
use Rattle.std.proofs.lemmas.Option.{same_Some}
use Rattle.tdl_meaning.specs.Accepted.{Accepted}
use Rattle.tdl_meaning.specs.SystemStands.{seen_at}

-- `sees` is what a node of these parts sees
module _ (given : Accepted) (sees : List Part → PortKey → ℤ) where
  -- it is what any node does that hosts the module, since there is one
  pub seen_at-is : (k i : ℕ) (nodes : List NodeNow) (n : NodeNow) → slice_get nodes i ≡ Some n → (kk : ℕ) →
      hosts given.placement (k + i) kk ≡ true → seen_at given sees k nodes kk ≡ sees n.parts
  seen_at-is k i [] n at kk h = absurd (cc at)
  seen_at-is k zero (m ∷ more) n at kk h =
      let z : k + 0 ≡ k = omega arith in
      let here : hosts given.placement k kk ≡ true = ap (λ c. hosts given.placement c kk) (sym z) ∙ h in
      ap (λ b. if b then sees m.parts else seen_at given sees (suc k) more kk) here
      ∙ ap (λ (q : NodeNow). sees q.parts) (same_Some m n at)
  seen_at-is k (suc i) (m ∷ more) n at kk h =
      let s : k + suc i ≡ suc k + i = omega arith in
      by_test (seen_at-is (suc k) i more n at kk (ap (λ c. hosts given.placement c kk) (sym s) ∙ h))
      (hosts given.placement k kk) refl
    where
      by_test : seen_at given sees (suc k) more kk ≡ sees n.parts → (b : Bool) → hosts given.placement k kk ≡ b →
          (if b then sees m.parts else seen_at given sees (suc k) more kk) ≡ sees n.parts
      by_test rest true e = let q = given.well_placed.once kk k (k + suc i) e h in absurd (omega (arith, q))
      by_test rest false e = rest
