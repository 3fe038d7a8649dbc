-- The text of rows, cut and joined.
use Rattle.std.proofs.Common.{◌≡◌, ℕ, zero, suc, List, [], ◌∷◌, ◌++◌, take, drop, refl, ap, sym, ◌∙◌, append-nil, append_assoc}
use Rattle.std.proofs.lemmas.Grind.{flat_map-append}
use Rattle.std.proofs.lemmas.List.{take-append-drop}
use Rattle.tdl_trace.specs.declared.names.Names.{Names}
use Rattle.tdl_trace.specs.Shown.{Shown}
use Rattle.tdl_trace.specs.Lines.{line_of, line_at, text_of}

pub text_of-none : (names : Names) → text_of names [] ≡ []
unfolding text_of
text_of-none names = refl

pub text_of-append : (names : Names) (rows more : List Shown) →
    text_of names (rows ++ more) ≡ text_of names rows ++ text_of names more
unfolding text_of
text_of-append names rows more = flat_map-append (line_of names) rows more

-- the lines of the first i rows and the line of row i
pub text_of-next : (names : Names) (rows : List Shown) (i : ℕ) →
    text_of names (take (suc i) rows) ≡ text_of names (take i rows) ++ line_at names rows i
unfolding text_of
text_of-next names [] zero = refl
text_of-next names [] (suc i) = refl
text_of-next names (row ∷ rows) zero = append-nil (line_of names row)
text_of-next names (row ∷ rows) (suc i) =
    ap (λ t. line_of names row ++ t) (text_of-next names rows i)
    ∙ sym (append_assoc (line_of names row) (text_of names (take i rows)) (line_at names rows i))

-- all lines, from those of the first i rows on
pub text_of-take : (names : Names) (rows : List Shown) (i : ℕ) →
    text_of names rows ≡ text_of names (take i rows) ++ text_of names (drop i rows)
unfolding text_of
text_of-take names rows i =
    ap (text_of names) (sym (take-append-drop i rows)) ∙ text_of-append names (take i rows) (drop i rows)
