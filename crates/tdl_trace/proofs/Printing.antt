-- What a sink holds while the lines of rows are put into it.
use Rattle.std.proofs.Common.{ℕ, suc, ◌+◌, List, ◌++◌, take, drop, Option, ap, sym, ◌∙◌, subst, add-one}
use Rattle.std.specs.declared.result.Result.{Result}
use Rattle.std.specs.declared.result.Result.TheVariants.{Ok, Err}
use Rattle.std.specs.Result.{OnErr}
use Rattle.tdl_io.specs.Outside.{Appends, AppendsPart}
use Rattle.tdl_trace.specs.declared.names.Names.{Names}
use Rattle.tdl_trace.specs.Shown.{Shown}
use Rattle.tdl_trace.specs.Lines.{line_at, text_of}
use Rattle.tdl_trace.proofs.Texts.{text_of-next, text_of-take}
use Rattle.tdl_io.proofs.Appending.{appends_more, part_more, part_wider}

-- a fact that is known, at an error
pub on_err : {T E P : Type 0} (r : Result T E) → P → OnErr r P
on_err (Ok x) p = tt
on_err (Err e) p = p

-- one more line
pub line_put : (names : Names) (rows : List Shown) (i : ℕ) (a b c : Option (List ℕ)) →
    Appends a b (text_of names (take i rows)) → Appends b c (line_at names rows i) →
    Appends a c (text_of names (take (i + 1) rows))
line_put names rows i a b c h g =
    subst (λ (t : List ℕ). Appends a c t) (sym (text_of-next names rows i)
    ∙ ap (λ n. text_of names (take n rows)) (sym (add-one i)))
    (appends_more a b c _ _ h g)

-- a line that fails
pub line_fails : (names : Names) (rows : List Shown) (i : ℕ) (a b c : Option (List ℕ)) →
    Appends a b (text_of names (take i rows)) → AppendsPart b c (line_at names rows i) →
    AppendsPart a c (text_of names rows)
line_fails names rows i a b c h g =
    subst (λ (t : List ℕ). AppendsPart a c t)
    (ap (λ (t : List ℕ). t ++ text_of names (drop (suc i) rows)) (sym (text_of-next names rows i))
    ∙ sym (text_of-take names rows (suc i)))
    (part_wider a c _ (text_of names (drop (suc i) rows)) (part_more a b c _ _ h g))
