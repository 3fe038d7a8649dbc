-- A call names no more sources than a command takes.
use Rattle.std.proofs.Common.{◌≡◌, ◌≤◌, ◌<◌, ℕ, List, [], ◌∷◌, Bool, true, false, not, ◌&&◌, refl, subst, arith, Option, Some, None}
use Rattle.std.specs.Prelude.{nat_lt, option_and_then, if◌then◌else◌}
use Rattle.tdl_base.specs.declared.limits.TheConstants.{SOURCES}
use Rattle.tdl_words.specs.declared.words.Call.{Call}
use Rattle.tdl_words.specs.declared.words.Command.{Command}
use Rattle.tdl_words.specs.declared.words.Command.TheVariants.{Compile, Run, Exec}
use Rattle.tdl_words.specs.declared.words.Rule.{Rule}
use Rattle.tdl_words.specs.Words.{Words, command_of, rule_of, files_in, is_count, takes, follows, call_at, call_by, call_in, source_count}

-- the first of two that both hold
first_holds : (a b : Bool) → (a && b) ≡ true → a ≡ true
first_holds true b h = refl
first_holds false b h = cc h

second_holds : (a b : Bool) → (a && b) ≡ true → b ≡ true
second_holds true b h = h
second_holds false b h = cc h

-- what is the same where it is there
some_is : (a b : ℕ) → Some a ≡ Some b → a ≡ b
some_is a b h = cc h

some_call : (a b : Call) → Some b ≡ Some a → a ≡ b
some_call a b h = cc h

-- a count that is taken is not above the most
not_above : (most n : ℕ) → is_count most n ≡ true → n ≤ most
not_above most n h = search (arith, second_holds (nat_lt 0 n) (not (nat_lt most n)) h)

-- where words follow a command, their files are not too many
few_follow : (rule : Rule) (rest : Words) → follows rule rest ≡ true → files_in rest ≤ rule.most
unfolding follows
few_follow rule rest h = not_above rule.most (files_in rest) (first_holds (is_count rule.most (files_in rest)) _ h)

-- so it is of the sources that the call names
few_at : (command : Command) (words rest : Words) (n : ℕ) → follows (rule_of command) rest ≡ true →
    source_count (call_at command words rest) ≡ Some n → n ≤ SOURCES
few_at Compile words rest n h is = subst (λ k. k ≤ SOURCES) (some_is (files_in rest) n is) (few_follow (rule_of Compile) rest h)
few_at Run words rest n h is = subst (λ k. k ≤ SOURCES) (some_is (files_in rest) n is) (few_follow (rule_of Run) rest h)
few_at Exec words rest n h is = cc is

few_by : (command : Command) (words rest : Words) (call : Call) (n : ℕ) (b : Bool) → follows (rule_of command) rest ≡ b →
    (if b then Some (call_at command words rest) else None) ≡ Some call → source_count call ≡ Some n → n ≤ SOURCES
few_by command words rest call n true h called is =
    few_at command words rest n h (subst (λ c. source_count c ≡ Some n) (some_call call _ called) is)
few_by command words rest call n false h called is = cc called

-- the words of a call
few_named : (named : Option Command) (words rest : Words) (call : Call) (n : ℕ) →
    option_and_then (λ command. call_by command words rest) named ≡ Some call → source_count call ≡ Some n →
    n ≤ SOURCES
few_named None words rest call n called is = cc called
few_named (Some command) words rest call n called is =
    few_by command words rest call n (follows (rule_of command) rest) refl called is

pub few_sources : (words : Words) (call : Call) (n : ℕ) → call_in words ≡ Some call → source_count call ≡ Some n →
    n ≤ SOURCES
few_sources [] call n called is = cc called
few_sources (word ∷ rest) call n called is = few_named (command_of word) (word ∷ rest) rest call n called is
