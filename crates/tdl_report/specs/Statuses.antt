-- What a status is outside the program: the exit status and the line on the error sink.
use Rattle.std.specs.Prelude.{ℕ, List, [], ◌++◌, codes}
use Rattle.std.specs.Fmt.{decimal}
use Rattle.tdl_words.specs.Words.{Words, word_at}
use Rattle.tdl_report.specs.declared.status.Status.{Status}
use Rattle.tdl_report.specs.declared.status.Status.TheVariants.{Ok, Usage, LoadFailed, TooLong, BadToken, BadSyntax, BadProgram, BadScenario, WriteFailed, SaveFailed, BadBundle, NoMemory, BadForm}

-- the exit status
abbrev pub code_of : Status → ℕ
code_of Ok = 0
code_of Usage = 1
code_of (LoadFailed w) = 2
code_of (TooLong w) = 3
code_of (BadToken w line col) = 4
code_of (BadSyntax w line col) = 5
code_of (BadProgram w rule line col) = 6
code_of (BadScenario rule line) = 10
code_of (BadBundle rule at) = 11
code_of WriteFailed = 13
code_of (SaveFailed w) = 14
code_of NoMemory = 16
code_of (BadForm w) = 17

-- a line that names a file
abbrev pub named_line : List ℕ → List ℕ → List ℕ
named_line text name = text ++ name ++ codes "\n"

-- a line that names a place in a file, by its line and its column
abbrev pub place_line : List ℕ → List ℕ → (line col : ℕ) → List ℕ
place_line text name line col = text ++ name ++ codes ":" ++ decimal line ++ codes ":" ++ decimal col ++ codes "\n"

-- a line that names a rule of programs and a place in a source
abbrev pub program_line : (rule : ℕ) → List ℕ → (line col : ℕ) → List ℕ
program_line rule name line col = place_line (codes "tdl: program C" ++ decimal rule ++ codes " at ") name line col

-- a line that names a rule, and a number after some words
abbrev pub rule_line : List ℕ → (rule : ℕ) → List ℕ → (number : ℕ) → List ℕ
rule_line text rule words number = text ++ decimal rule ++ words ++ decimal number ++ codes "\n"

-- the line that a status puts on the error sink; Ok puts none
abbrev pub error_line : Words → Status → List ℕ
error_line words Ok = []
error_line words Usage = codes "tdl: usage\n"
error_line words (LoadFailed w) = named_line (codes "tdl: cannot load ") (word_at words w)
error_line words (TooLong w) = named_line (codes "tdl: too long ") (word_at words w)
error_line words (BadToken w line col) = place_line (codes "tdl: token at ") (word_at words w) line col
error_line words (BadSyntax w line col) = place_line (codes "tdl: syntax at ") (word_at words w) line col
error_line words (BadProgram w rule line col) = program_line rule (word_at words w) line col
error_line words WriteFailed = codes "tdl: cannot write\n"
error_line words (SaveFailed w) = named_line (codes "tdl: cannot save ") (word_at words w)
error_line words (BadScenario rule line) = rule_line (codes "tdl: scenario N") rule (codes " line ") line
error_line words (BadBundle rule at) = rule_line (codes "tdl: bundle B") rule (codes " at ") at
error_line words NoMemory = codes "tdl: no memory\n"
error_line words (BadForm w) = named_line (codes "tdl: form ") (word_at words w)
