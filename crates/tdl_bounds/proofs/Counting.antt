-- The count of occurrences, over lists one after another, and what it passes.
use Rattle.std.proofs.Common.{◌≡◌, ℕ, ◌<◌, ◌≤◌, ◌+◌, ◌-◌, nat_lt, true, List, [], ◌∷◌, ◌++◌, length, get_or, slice_get, drop, Some, inl, inr, refl, sym, ap, ◌∙◌, arith}
use Rattle.std.proofs.lemmas.Bool.{cases_Bool}
use Rattle.std.proofs.lemmas.Bool.Decides.{nat_tests}
use Rattle.std.proofs.lemmas.List.{drop_more, drop_all}
use Rattle.std.proofs.lemmas.Option.{slice_get_within, get_or_from_slice_get}
use Rattle.tdl_base.specs.declared.limits.TheConstants.{OCCURRENCES}
use Rattle.tdl_bounds.specs.Occurrences.{capped, next, after, passed}
use Rattle.tdl_bounds.specs.declared.occurrences.Counted.{Counted}
use Rattle.tdl_bounds.specs.declared.occurrences.Counted.TheVariants.{Left, Passed}
use Rattle.tdl_rules.specs.declared.fault.Fault.{Fault}
use Rattle.tdl_rules.specs.BoundRules.{passes}
use Rattle.tdl_rules.specs.Lists.{each}

-- ---- one list after another

-- the activities of one list, then of another
after-append : (now : Counted) (xs ys : List (Fault × ℕ)) → after now (xs ++ ys) ≡ after (after now xs) ys
after-append now [] ys = refl
after-append now (x ∷ xs) ys = after-append (next now x) xs ys

-- one more item of a loop
pub after_more : {A : Type 0} (f : A → List (Fault × ℕ)) (all now new : Counted) (xs : List A) (k : ℕ) (x : A) →
    k < length xs → x ≡ get_or xs k x → all ≡ after now (each f (drop k xs)) → new ≡ after now (f x) →
    all ≡ after new (each f (drop (k + 1) xs))
after_more f all now new xs k x inside here before step =
    let rest = each f (drop (k + 1) xs) in
    before
    ∙ ap (λ (z : List _). after now (each f z))
    (drop_more xs k x inside ∙ ap (λ (z : _). z ∷ drop (k + 1) xs) (sym here))
    ∙ after-append now (f x) rest ∙ ap (λ (z : Counted). after z rest) (sym step)

-- one more item of a loop over numbers
pub after_next : {A : Type 0} (f : A → List (Fault × ℕ)) (all now new : Counted) (xs : List A) (k : ℕ) (x : A) →
    slice_get xs k ≡ Some x → all ≡ after now (each f (drop k xs)) → new ≡ after now (f x) →
    all ≡ after new (each f (drop (k + 1) xs))
after_next f all now new xs k x here before step =
    after_more f all now new xs k x (slice_get_within xs k x here) (sym (get_or_from_slice_get xs k x x here)) before
    step

-- all items
pub after_all : {A : Type 0} (f : A → List (Fault × ℕ)) (all now : Counted) (xs : List A) (k : ℕ) →
    length xs ≤ k → all ≡ after now (each f (drop k xs)) → now ≡ all
after_all f all now xs k past before = sym (before ∙ ap (λ (z : List _). after now (each f z)) (drop_all k xs past))

-- ---- what is passed

-- once passed, nothing more is counted
after-passed : (f : Fault) (xs : List (Fault × ℕ)) → after (Passed f) xs ≡ Passed f
after-passed f [] = refl
after-passed f (x ∷ xs) = after-passed f xs

-- the count passes where the sum does
passed-passes : (n : ℕ) (xs : List (Fault × ℕ)) → n ≤ OCCURRENCES → passed (after (Left n) xs) ≡ passes n xs
passed-passes n [] small = refl
passed-passes n (x ∷ xs) small =
    elim (cases_Bool (nat_lt n x.1)) [
      | inl t ↦
          let capped_too : nat_lt n (capped x.1) ≡ true = grind (arith, nat_tests) in
          rw (t, capped_too) (ap passed (after-passed x.0 xs))
      | inr f ↦
          let whole : capped x.1 ≡ x.1 = grind (arith, nat_tests) in
          let left : n - x.1 ≤ OCCURRENCES = omega (arith, small) in
          rw (whole, f) (passed-passes (n - x.1) xs left)
    ]

-- the count has not passed
pub not_passed : (n : ℕ) (counted : Counted) (xs : List (Fault × ℕ)) → counted ≡ after (Left OCCURRENCES) xs →
    counted ≡ Left n → passes OCCURRENCES xs ≡ []
not_passed n counted xs so left =
    sym (passed-passes OCCURRENCES xs (omega arith)) ∙ ap passed (sym so ∙ left)

-- the count has passed
pub has_passed : (f : Fault) (counted : Counted) (xs : List (Fault × ℕ)) → counted ≡ after (Left OCCURRENCES) xs →
    counted ≡ Passed f → passes OCCURRENCES xs ≡ f ∷ []
has_passed f counted xs so at =
    sym (passed-passes OCCURRENCES xs (omega arith)) ∙ ap passed (sym so ∙ at)
