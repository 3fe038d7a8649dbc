-- The words of a call, read one after the other.
use Rattle.std.proofs.Common.{◌≡◌, ◌<◌, ◌≤◌, ◌-◌, ℕ, List, [], ◌∷◌, length, get_or, take, drop, nat_eq, true, false, ap, subst, sym, refl, ◌∙◌, arith, Option, Some, None}
use Rattle.std.proofs.lemmas.List.{take_rest, drop-map}
use Rattle.std.specs.Prelude.{String, option_and_then}
use Rattle.std.specs.String.{string_bytes}
use Rattle.std.specs.declared.alloc.Global.{Global}
use Rattle.tdl_words.specs.declared.words.Command.{Command}
use Rattle.tdl_words.specs.declared.words.Options.{Options}
use Rattle.tdl_words.specs.declared.words.Rule.{Rule}
use Rattle.tdl_words.specs.Words.{texts, command_of, are_options, files_in, is_count, takes, follows, call_by, call_in}

-- fewer than two words are options where there is none
pub are_options-short : (allowed : Options) (words : List (String Global)) → length words < 2 →
    nat_eq (length words) 0 ≡ are_options allowed (texts words)
are_options-short allowed [] short = refl
are_options-short allowed (word ∷ []) short = refl
are_options-short allowed (word ∷ other ∷ rest) short = absurd (omega (arith, short))

-- where the files' names are as many as they may be, what is left are options
pub follows-counted : (rule : Rule) (words : List (String Global)) (files : ℕ) → files ≡ files_in (texts words) →
    is_count rule.most files ≡ true → takes rule (texts (drop files words)) ≡ follows rule (texts words)
unfolding follows
follows-counted rule words files is count =
    sym (rw (sym is, count) (ap (takes rule) (drop-map string_bytes files words)))

-- otherwise the words do not follow
pub follows-uncounted : (rule : Rule) (words : List (String Global)) (files : ℕ) → files ≡ files_in (texts words) →
    is_count rule.most files ≡ false → false ≡ follows rule (texts words)
unfolding follows
follows-uncounted rule words files is count = rw (sym is, count) refl

-- what the words ask for, where the first names a command
pub call_of-named : (words : List (String Global)) (first : String Global) (command : Command) → 1 ≤ length words →
    first ≡ get_or words 0 first →
    Some command ≡ command_of (string_bytes first) →
    call_by command (texts words) (texts (take (length words - 1) (drop 1 words))) ≡ call_in (texts words)
call_of-named [] first command some is named = absurd (omega (arith, some))
call_of-named (word ∷ rest) first command some is named =
    ap (λ (ws : List (String Global)). call_by command (texts (word ∷ rest)) (texts ws)) (take_rest (word ∷ rest) 1)
    ∙ ap (λ (o : Option Command). option_and_then (λ (k : Command). call_by k (texts (word ∷ rest)) (texts rest)) o)
    (subst (λ (w : String Global). Some command ≡ command_of (string_bytes w)) is named)

-- the words ask for nothing, where the first names no command
pub call_of-unnamed : (words : List (String Global)) (first : String Global) → 1 ≤ length words →
    first ≡ get_or words 0 first →
    None ≡ command_of (string_bytes first) → None ≡ call_in (texts words)
call_of-unnamed [] first some is named = absurd (omega (arith, some))
call_of-unnamed (word ∷ rest) first some is named =
    ap (λ (o : Option Command). option_and_then (λ (k : Command). call_by k (texts (word ∷ rest)) (texts rest)) o)
    (subst (λ (w : String Global). None ≡ command_of (string_bytes w)) is named)
