-- What stands at a place of a list, and of a numbered one.
use Rattle.std.proofs.Common.{◌≡◌, ℕ, zero, suc, ◌+◌, ◌<◌, Bool, true, List, [], ◌∷◌, length, Some, slice_get, refl, ap, ◌∙◌, arith}
use Rattle.std.specs.List.{list_any}
use Rattle.tdl_base.specs.Lists.{numbered}
use Rattle.tdl_base.proofs.Among.{any-numbered}

-- an item of a list at a place
pub record HasItem {X : Type 0} (xs : List X) (n : ℕ) : Type 0 where
  pub item : X
  pub at : slice_get xs n ≡ Some item

-- a place within a list has an item
pub has_item : {X : Type 0} (xs : List X) (n : ℕ) → n < length xs → HasItem xs n
has_item [] n below = absurd (omega (arith, below))
has_item (x ∷ xs) zero below = record { item = x; at = refl }
has_item (x ∷ xs) (suc n) below =
    let less : n < length xs = omega (arith, below) in
    let more = has_item xs n less in
    record { item = more.item; at = more.at }

-- what is made of the item of a number is among what is made of all, the first of which has the number 0
pub any-place : {A B : Type 0} (p : B → Bool) (f : ℕ → A → B) (n : ℕ) (xs : List A) (x : A) →
    slice_get xs n ≡ Some x → p (f n x) ≡ true → list_any p (numbered 0 f xs) ≡ true
any-place p f n xs x at h =
    let first : 0 + n ≡ n = omega arith in any-numbered p f 0 n xs x at (ap (λ i. p (f i x)) first ∙ h)
