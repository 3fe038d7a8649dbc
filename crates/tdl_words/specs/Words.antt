-- The words of a call.
use Rattle.std.specs.Prelude.{String, ℕ, ◌+◌, ◌≤◌, IsTrue, length, zero, suc, Bool, true, false, not, ◌&&◌, ◌||◌, ◌==◌, nat_lt, List, [], ◌∷◌, map, drop, slice_get, option_and_then, unwrap_or, codes, bytes_eq, if◌then◌else◌, Option, Some, None}
use Rattle.std.specs.List.{list_any, AllByRecursion}
use Rattle.std.specs.String.{string_bytes}
use Rattle.std.specs.declared.alloc.Global.{Global}
use Rattle.tdl_base.specs.declared.limits.TheConstants.{SOURCES}
use Rattle.tdl_words.specs.declared.words.Call.{Call}
use Rattle.tdl_words.specs.declared.words.Call.TheVariants as call
use Rattle.tdl_words.specs.declared.words.Command.{Command}
use Rattle.tdl_words.specs.declared.words.Command.TheVariants.{Compile, Run, Exec}
use Rattle.tdl_words.specs.declared.words.Options.{Options}
use Rattle.tdl_words.specs.declared.words.Rule.{Rule}

-- the words of a call, each as its bytes
abbrev pub Words : Type 0
Words = List (List ℕ)

-- the bytes of each word
abbrev pub texts : List (String Global) → Words
texts words = map string_bytes words

-- word k, from 0
abbrev pub word_at : Words → ℕ → List ℕ
word_at words k = unwrap_or (slice_get words k) []

-- the n words from word k on
abbrev pub words_from : Words → (k n : ℕ) → Words
words_from words k zero = []
words_from words k (suc n) = word_at words k ∷ words_from words (suc k) n

-- a file's name is not empty and does not begin with `-`
abbrev pub is_file : List ℕ → Bool
is_file [] = false
is_file (c ∷ cs) = not (c == 45)

-- these are the names of sources, as many as a call takes
pub record AreSources (files : Words) : Type 0 where
  pub some : 1 ≤ length files
  pub most : length files ≤ SOURCES
  pub named : AllByRecursion (λ file. IsTrue (is_file file)) files

-- a word is one of the words
abbrev pub has_word : List ℕ → Words → Bool
has_word word words = list_any (λ each. bytes_eq each word) words

-- ---- the table of the commands

-- the command that a word is
abbrev pub command_of : List ℕ → Option Command
command_of word =
    if bytes_eq word (codes "compile") then Some Compile
    else if bytes_eq word (codes "run") then Some Run
    else if bytes_eq word (codes "exec") then Some Exec
    else None

-- how many files a command takes at most, and which options must and may stand after them
abbrev pub rule_of : Command → Rule
rule_of Compile =
    record {
      most = SOURCES;
      required = record { out = true; scenario = false };
      allowed =
          record { out = true; scenario = false };
    }
rule_of Run =
    record {
      most = SOURCES;
      required = record { out = true; scenario = true };
      allowed =
          record { out = true; scenario = true };
    }
rule_of Exec =
    record {
      most = 1;
      required = record { out = false; scenario = true };
      allowed =
          record { out = false; scenario = true };
    }

-- ---- the words after the command

-- a word is one of these options
abbrev pub is_option : Options → List ℕ → Bool
is_option options word =
    (options.out && bytes_eq word (codes "--out")) || (options.scenario && bytes_eq word (codes "--scen"))

-- each of these options is one of the words
abbrev pub has_options : Options → Words → Bool
has_options options words =
    (not options.out || has_word (codes "--out") words) && (not options.scenario || has_word (codes "--scen") words)

-- the words are options in any order, each allowed, with a file's name after it, and none of them twice
abbrev pub are_options : Options → Words → Bool
are_options allowed [] = true
are_options allowed (option ∷ []) = false
are_options allowed (option ∷ value ∷ rest) =
    is_option allowed option && is_file value && not (has_word option rest) && are_options allowed rest

-- how many files' names stand before all other words
abbrev pub files_in : Words → ℕ
files_in [] = 0
files_in (word ∷ rest) = if is_file word then suc (files_in rest) else 0

-- there is a file, and there are no more than so many
abbrev pub is_count : (most files : ℕ) → Bool
is_count most files = nat_lt 0 files && not (nat_lt most files)

-- the words are options that this rule allows, and those that it requires are among them
abbrev pub takes : Rule → Words → Bool
takes rule words = are_options rule.allowed words && has_options rule.required words

-- the words may stand after a command of this rule: files' names, and then options
unfoldable pub follows : Rule → Words → Bool
follows rule words = is_count rule.most (files_in words) && takes rule (drop (files_in words) words)

-- the place after the first of the words that is this option, the words beginning at place k; 0 where there is none
abbrev pub place_after : List ℕ → ℕ → Words → ℕ
place_after option k [] = 0
place_after option k (word ∷ rest) = if bytes_eq word option then k + 1 else place_after option (k + 1) rest

-- what a command asks for, by the words after it: how many sources, and the places of its options' files
abbrev pub call_at : Command → Words → Words → Call
call_at Compile words rest = call.Compile (files_in rest) (place_after (codes "--out") 0 words)
call_at Run words rest =
    call.Run (files_in rest) (place_after (codes "--out") 0 words) (place_after (codes "--scen") 0 words)
call_at Exec words rest = call.Exec (place_after (codes "--scen") 0 words)

-- what the words of a command ask for
abbrev pub call_by : Command → Words → Words → Option Call
call_by command words rest = if follows (rule_of command) rest then Some (call_at command words rest) else None

-- what the words ask for; none where they are not those of a command
abbrev pub call_in : Words → Option Call
call_in [] = None
call_in (word ∷ rest) = option_and_then (λ command. call_by command (word ∷ rest) rest) (command_of word)

-- how many sources a call names, from word 1 on; none where it names a bundle
abbrev pub source_count : Call → Option ℕ
source_count (call.Compile sources out) = Some sources
source_count (call.Run sources out scenario) = Some sources
source_count (call.Exec scenario) = None

-- the word of the file that a call saves
abbrev pub out_word : Call → Option ℕ
out_word (call.Compile sources out) = Some out
out_word (call.Run sources out scenario) = Some out
out_word (call.Exec scenario) = None

-- the word of the scenario that a call reads
abbrev pub scenario_word : Call → Option ℕ
scenario_word (call.Compile sources out) = None
scenario_word (call.Run sources out scenario) = Some scenario
scenario_word (call.Exec scenario) = Some scenario
