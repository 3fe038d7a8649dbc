-- What one load, one reading of its bytes, one save and the printing of a call say.
use Rattle.std.specs.Prelude.{◌≡◌, ℕ, List, [], ⊤, Some}
use Rattle.tdl_io.specs.Outside.{Rose, HasNamedCause, IsLonger, AppendsPart}
use Rattle.tdl_mode.specs.declared.program.Program.{Program}
use Rattle.tdl_rules.specs.Faults.{faults}
use Rattle.tdl_scan.specs.Tokens.{IsTokenFault}
use Rattle.tdl_tree.specs.declared.declarations.Tree.{Tree}
use Rattle.tdl_decode.specs.BundleGrammar.{IsBundleFault}
use Rattle.tdl_words.specs.Words.{Words, word_at}
use Rattle.tdl_report.specs.declared.status.Status.{Status}
use Rattle.tdl_report.specs.declared.status.Status.TheVariants.{LoadFailed, TooLong, BadToken, BadSyntax, BadProgram, WriteFailed, SaveFailed, BadBundle, NoMemory, BadForm}
use Rattle.tdl_report.specs.Calls.{FilesCall, SinkCall, IsUnchanged}
use Rattle.tdl_top.specs.Sources.{HasSyntaxFault, SayProgram, HaveFault}
use Rattle.tdl_top.specs.Refused.{SourceRefused, SourcesRefused, IsAskedFirst, IsFailedLoad}

-- what a refusal of a load of the file at word w says, at this limit
abbrev pub LoadSays : FilesCall → Words → (w limit : ℕ) → Status → Type 0
LoadSays files words w limit (LoadFailed v) = (v ≡ w) × IsFailedLoad files words w
LoadSays files words w limit (TooLong v) = (v ≡ w) × IsLonger files.before.holds (word_at words w) limit
LoadSays files words w limit NoMemory = ⊤
LoadSays files words w limit status = ⊥

-- what a refusal of the scan of the source at word w says
abbrev pub ScanSays : (w : ℕ) → List ℕ → Status → Type 0
ScanSays w bytes (BadToken v line col) = (v ≡ w) × IsTokenFault bytes line col
ScanSays w bytes NoMemory = ⊤
ScanSays w bytes status = ⊥

-- what a refusal of its tokens says
abbrev pub ParseSays : (w : ℕ) → List ℕ → Status → Type 0
ParseSays w bytes (BadSyntax v line col) = (v ≡ w) × HasSyntaxFault bytes line col
ParseSays w bytes NoMemory = ⊤
ParseSays w bytes status = ⊥

-- what a refusal of that source says, where so many bytes are left for it and those after it
abbrev pub SourceSays : FilesCall → Words → (w left : ℕ) → Status → Type 0
SourceSays files words w left (LoadFailed v) = (v ≡ w) × IsFailedLoad files words w
SourceSays files words w left (TooLong v) = SourceRefused files.before.holds (TooLong v) (word_at words w) left w
SourceSays files words w left (BadToken v line col) =
    SourceRefused files.before.holds (BadToken v line col) (word_at words w) left w
SourceSays files words w left (BadSyntax v line col) =
    SourceRefused files.before.holds (BadSyntax v line col) (word_at words w) left w
SourceSays files words w left NoMemory = ⊤
SourceSays files words w left status = ⊥

-- what a refusal of one of the n sources from word 1 on says
abbrev pub SourcesSay : FilesCall → Words → (n : ℕ) → Status → Type 0
SourcesSay files words n (LoadFailed v) = IsAskedFirst files.before.holds words (Some n) v × IsFailedLoad files words v
SourcesSay files words n (TooLong v) = SourcesRefused files.before.holds words n (TooLong v)
SourcesSay files words n (BadToken v line col) = SourcesRefused files.before.holds words n (BadToken v line col)
SourcesSay files words n (BadSyntax v line col) = SourcesRefused files.before.holds words n (BadSyntax v line col)
SourcesSay files words n NoMemory = ⊤
SourcesSay files words n status = ⊥

-- what a refusal of the trees of all sources for the rules says
abbrev pub RulesSay : List Tree → Status → Type 0
RulesSay trees (BadProgram w rule line col) = HaveFault trees w rule line col
RulesSay trees NoMemory = ⊤
RulesSay trees status = ⊥

-- what a refusal of the trees of all sources says
abbrev pub FormSays : List Tree → Status → Type 0
FormSays trees (BadProgram w rule line col) = HaveFault trees w rule line col
FormSays trees (BadForm w) =
    (w ≡ 1) × (faults trees ≡ []) × ((program : Program) → SayProgram trees program → ⊥)
FormSays trees NoMemory = ⊤
FormSays trees status = ⊥

-- what a refusal of the bytes of a bundle says
abbrev pub DecodeSays : List ℕ → Status → Type 0
DecodeSays bytes (BadBundle rule at) = IsBundleFault bytes rule at
DecodeSays bytes NoMemory = ⊤
DecodeSays bytes status = ⊥

-- what a refusal of a save of a name says, at this word
abbrev pub SaveSays : FilesCall → List ℕ → ℕ → Status → Type 0
SaveSays files name at (SaveFailed w) =
    (w ≡ at) × Rose files.before.faults files.after.faults
    × HasNamedCause files.before.failed_saves files.after.failed_saves name
SaveSays files name at NoMemory = IsUnchanged files
SaveSays files name at status = ⊥

-- what a fault of the printing of a text says
abbrev pub PrintSays : SinkCall → List ℕ → Status → Type 0
PrintSays out text WriteFailed =
    Rose out.before.faults out.after.faults × AppendsPart out.before.contents out.after.contents text
PrintSays out text NoMemory = AppendsPart out.before.contents out.after.contents text
PrintSays out text status = ⊥
