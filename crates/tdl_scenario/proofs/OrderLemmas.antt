-- What the test of an order needs of its definition.
use Rattle.std.proofs.Common.{◌≡◌, ◌<◌, ◌==◌, ◌&&◌, ℕ, zero, suc, Bool, true, false, List, length, count_by, refl, sym, ap, ◌∙◌, subst, arith}
use Rattle.std.proofs.lemmas.Bool.Decides.{nat_tests}
use Rattle.tdl_base.specs.declared.numbers.NodeId.{NodeId}
use Rattle.tdl_scenario.specs.Rules.{all_below, names_each}

-- what is not true with another
and_false : (b c : Bool) → c ≡ false → (b && c) ≡ false
and_false true c e = e
and_false false c e = refl

-- a number that is below the next one and is not this one
below : (k n : ℕ) → k < suc n → (k == n) ≡ false → k < n
below k n lt apart = grind (arith, nat_tests)

-- numbers that pass the test are the same
same : (k n : ℕ) → (k == n) ≡ true → k ≡ n
same k n e = grind (arith, nat_tests)

-- a number that does not pass
not_all : (p : ℕ → Bool) (k n : ℕ) → k < n → p k ≡ false → all_below p n ≡ false
not_all p k zero lt fails = absurd (omega (arith, lt))
not_all p k (suc n) lt fails = by_last (k == n) refl (not_all p k n)
  where
    by_last : (b : Bool) → (k == n) ≡ b → (k < n → p k ≡ false → all_below p n ≡ false) →
        all_below p (suc n) ≡ false
    by_last true e more =
        and_false (all_below p n) (p n) (subst (λ (m : ℕ). p m ≡ false) (same k n e) fails)
    by_last false e more = rw (more (below k n lt e) fails) refl

-- a node that stands in an order more than once, or not at all
pub not_each : (nodes k count : ℕ) (order : List NodeId) → k < nodes → count ≡ count_by (λ
    (n : NodeId). n.0 == k) order →
    (count == 1) ≡ false → false ≡ names_each nodes order
not_each nodes k count order lt is fails =
    sym (and_false (length order == nodes) (all_below (λ j. count_by (λ (n : NodeId). n.0 == j) order == 1) nodes)
    (not_all (λ j. count_by (λ (n : NodeId). n.0 == j) order == 1) k nodes lt (ap (λ (m : ℕ). m == 1) (sym is)
    ∙ fails)))
