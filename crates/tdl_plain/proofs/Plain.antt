-- Texts that differ.
use Rattle.std.proofs.Common.{◌≡◌, ◌≢◌, ℕ, true, not, List, sym, ◌∙◌, bytes_eq}
use Rattle.std.proofs.lemmas.Bool.{false≢true, not-true, not_from_false, false_from_ne_true}
use Rattle.std.proofs.lemmas.Slice.Eq.{bytes_eq-Decides}

-- texts that the test tells apart differ
pub differ : (xs ys : List ℕ) → not (bytes_eq xs ys) ≡ true → xs ≢ ys
differ xs ys apart e = false≢true (sym (not-true (bytes_eq xs ys) apart) ∙ (bytes_eq-Decides xs ys).1 e)

-- and the test tells texts apart that differ
pub told : (xs ys : List ℕ) → xs ≢ ys → not (bytes_eq xs ys) ≡ true
told xs ys ne =
    not_from_false (bytes_eq xs ys) (false_from_ne_true (bytes_eq xs ys) (λ same. ne ((bytes_eq-Decides xs ys).0 same)))
