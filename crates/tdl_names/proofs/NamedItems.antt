-- Items found by their names.
use Rattle.std.proofs.Common.{◌≡◌, ℕ, List, [], ◌∷◌, map, Option, Some, option_map, slice_get, refl, sym, ap, ◌∙◌}
use Rattle.tdl_tree.specs.declared.names.Id.{Id}
use Rattle.tdl_rules.specs.Lists.{place_of, with_number, first_named}

-- the texts of the names of items
texts_of_names : {A : Type 0} (f : A → Id) (xs : List A) → map (λ (x : A). (f x).text) xs ≡ map (λ (id : Id). id.text) (map f xs)
texts_of_names f [] = refl
texts_of_names f (x ∷ xs) = ap (λ (z : List _). (f x).text ∷ z) (texts_of_names f xs)

-- the place that a table of the items' names gives
pub named : {A : Type 0} (f : A → Id) (name : List ℕ) (xs : List A) (names : List Id) (place : Option ℕ) → names ≡ map f xs →
    place ≡ place_of name (map (λ (id : Id). id.text) names) → with_number xs place ≡ first_named (λ (x : A). (f x).text) name xs
named f name xs names place same e =
    ap (with_number xs) (e ∙ ap (place_of name) (ap (map (λ (id : Id). id.text)) same ∙ sym (texts_of_names f xs)))

-- and the item there
pub named_at : {A : Type 0} (f : A → Id) (name : List ℕ) (xs : List A) (names : List Id) (k : ℕ) (item : Option A) → names ≡ map f xs →
    Some k ≡ place_of name (map (λ (id : Id). id.text) names) → item ≡ slice_get xs k →
    option_map (λ (x : A). (k, x)) item ≡ first_named (λ (x : A). (f x).text) name xs
named_at f name xs names k item same e there = ap (option_map (λ (x : _). (k, x))) there ∙ named f name xs names (Some k) same e
