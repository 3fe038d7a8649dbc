-- Places in mapped lists.
use Rattle.std.proofs.Common.{◌≡◌, ℕ, zero, suc, List, [], ◌∷◌, map, Some, refl, ap, sym, ◌∙◌}
use Rattle.std.specs.Prelude.{slice_get, option_map}
use Rattle.std.proofs.lemmas.Option.{same_Some, slice_get-map}

-- the item that an item of a mapped list comes from
pub record MapAt {A B : Type 0} (f : A → B) (xs : List A) (n : ℕ) (b : B) : Type 0 where
  pub item : A
  pub at : slice_get xs n ≡ Some item
  pub is : b ≡ f item

-- each item of a mapped list comes from the item at its place
pub map-at : {A B : Type 0} (f : A → B) (xs : List A) (n : ℕ) (b : B) → slice_get (map f xs) n ≡ Some b → MapAt f xs n b
map-at f [] n b at = absurd (cc at)
map-at f (x ∷ xs) zero b at = record { item = x; at = refl; is = sym (same_Some (f x) b at) }
map-at f (x ∷ xs) (suc n) b at =
    let r = map-at f xs n b at in
    record { item = r.item; at = r.at; is = r.is }

-- the item at a place is mapped to that place
pub map-to : {A B : Type 0} (f : A → B) (xs : List A) (n : ℕ) (a : A) → slice_get xs n ≡ Some a →
    slice_get (map f xs) n ≡ Some (f a)
map-to f xs n a at = slice_get-map f xs n ∙ ap (option_map f) at
