-- What functions return where they read.
use Rattle.std.specs.Prelude.{◌≡◌, List, Result, Ok, Err}
use Rattle.tdl_tree.specs.declared.words.Word.{Word}
use Rattle.tdl_grammar.specs.Parsing.{Outcome}
use Rattle.tdl_parse.specs.declared.fail.Fail.{Fail}
use Rattle.tdl_parse.specs.declared.fail.Fail.TheVariants as fails

-- the fault, unless memory ran out
abbrev pub Fails : {A : Type 0} → Fail → Outcome Word A → Type 0
Fails fails.Memory read = Unit {0}
Fails (fails.At words) read = read ≡ Err words.now

-- what is returned, as `view` sees it, is what was read, unless memory ran out
abbrev pub Gives : {X A : Type 0} → (X → A × List Word) → Result X Fail → Outcome Word A → Type 0
Gives view (Ok x) read = read ≡ Ok (view x)
Gives view (Err e) read = Fails e read

-- the fault of a whole text, unless memory ran out
abbrev pub EndsAt : {A : Type 0} → Fail → Result A (List Word) → Type 0
EndsAt fails.Memory read = Unit {0}
EndsAt (fails.At words) read = read ≡ Err words.now

-- what is returned is what was read of a whole text, unless memory ran out
abbrev pub Ends : {A : Type 0} → Result A Fail → Result A (List Word) → Type 0
Ends (Ok x) read = read ≡ Ok x
Ends (Err e) read = EndsAt e read
