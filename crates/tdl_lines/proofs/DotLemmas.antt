-- What the cutting of words at dots needs of their parts.
use Rattle.std.proofs.Common.{◌≡◌, ℕ, Bool, true, false, ◌==◌, List, [], ◌∷◌, ◌++◌, None, refl, sym, ap, ◌∙◌}
use Rattle.tdl_lines.specs.DottedWords.{parts_from, parts_of, pair_in}

-- two parts before those of a word are no pair
pub no_pair : (a b front bs : List ℕ) → pair_in (a ∷ b ∷ parts_from front bs) ≡ None
no_pair a b front [] = refl
no_pair a b front (c ∷ cs) = by_dot (c == 46) refl (no_pair a b (front ++ c ∷ []) cs)
  where
    by_dot : (t : Bool) → (c == 46) ≡ t → pair_in (a ∷ b ∷ parts_from (front ++ c ∷ []) cs) ≡ None →
        pair_in (a ∷ b ∷ parts_from front (c ∷ cs)) ≡ None
    by_dot true e more = rw e refl
    by_dot false e more = rw e more

-- a word that is cut twice is no pair
pub cut_twice : (word a b rest more : List ℕ) → parts_of word ≡ a ∷ parts_of rest → parts_of rest ≡ b ∷ parts_of more →
    None ≡ pair_in (parts_of word)
cut_twice word a b rest more first second =
    sym (ap pair_in first ∙ ap (λ (parts : List (List ℕ)). pair_in (a ∷ parts)) second ∙ no_pair a b [] more)
