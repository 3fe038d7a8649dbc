-- Where no item of a list clashes with an earlier one, no two do.
use Rattle.std.proofs.Common.{◌≡◌, ℕ, zero, suc, ◌<◌, List, [], ◌∷◌, ◌++◌, Bool, true, false, Some, refl, ap, sym, ◌∙◌, arith, take, append_assoc, append-nil}
use Rattle.std.specs.Prelude.{slice_get, if◌then◌else◌, unwrap_or}
use Rattle.std.specs.List.{list_any}
use Rattle.std.proofs.lemmas.Bool.{both_ways, false_from_ne_true}
use Rattle.tdl_base.proofs.Finding.{passing-any}
use Rattle.tdl_rules.specs.Lists.{clashes, clashes_after}

-- where no item passes, that of a place does not
pub none-passing : {A : Type 0} (p : A → Bool) (xs : List A) (n : ℕ) (a : A) →
    list_any p xs ≡ false → slice_get xs n ≡ Some a → p a ≡ false
none-passing p xs n a none at = false_from_ne_true (p a) (λ e. both_ways (list_any p xs) none (passing-any p xs n a at e))

-- the item of a place, in the list up to a later place
taken-at : {A : Type 0} (xs : List A) (m n : ℕ) (a : A) → m < n → slice_get xs m ≡ Some a → slice_get (take n xs) m ≡ Some a
taken-at [] m n a lt at = absurd (cc at)
taken-at (x ∷ xs) m zero a lt at = absurd (omega (arith, lt))
taken-at (x ∷ xs) zero (suc n) a lt at = at
taken-at (x ∷ xs) (suc m) (suc n) a lt at = taken-at xs m n a (omega (arith, lt)) at

-- where no item clashes with one before it, none before the item of a place does
none_before : {A : Type 0} (clash : A → A → Bool) (before xs : List A) (n : ℕ) (b : A) →
    clashes_after clash before xs ≡ [] → slice_get xs n ≡ Some b →
    list_any (λ y. clash y b) (before ++ take n xs) ≡ false
none_before clash before [] n b none at = absurd (cc at)
none_before clash before (x ∷ xs) n b none at =
    by_test (none_before clash (before ++ x ∷ []) xs) (list_any (λ y. clash y x) before) refl none n at
  where
    by_test : ((n : ℕ) (b : _) → clashes_after clash (before ++ x ∷ []) xs ≡ [] → slice_get xs n ≡ Some b →
        list_any (λ y. clash y b) ((before ++ x ∷ []) ++ take n xs) ≡ false) →
        (t : Bool) → list_any (λ y. clash y x) before ≡ t →
        (if t then x ∷ clashes_after clash (before ++ x ∷ []) xs else clashes_after clash (before ++ x ∷ []) xs) ≡ [] →
        (n : ℕ) → slice_get (x ∷ xs) n ≡ Some b → list_any (λ y. clash y b) (before ++ take n (x ∷ xs)) ≡ false
    by_test rest true e none n at = absurd (cc none)
    by_test rest false e none zero at =
        ap (λ zs. list_any (λ y. clash y b) zs) (append-nil before)
        ∙ ap (λ o. list_any (λ y. clash y (unwrap_or o b)) before) (sym at) ∙ e
    by_test rest false e none (suc n) at =
        ap (λ zs. list_any (λ y. clash y b) zs) (sym (append_assoc before (x ∷ []) (take n xs))) ∙ rest n b none at

-- where no item clashes with an earlier one, those of two places do not
pub no-clash : {A : Type 0} (clash : A → A → Bool) (xs : List A) (m n : ℕ) (a b : A) → clashes clash xs ≡ [] →
    m < n → slice_get xs m ≡ Some a → slice_get xs n ≡ Some b → clash a b ≡ false
no-clash clash xs m n a b none lt at at' =
    none-passing (λ y. clash y b) (take n xs) m a (none_before clash [] xs n b none at') (taken-at xs m n a lt at)
