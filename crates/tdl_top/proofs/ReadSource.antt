-- What the reading of one source says, from what its steps say.
use Rattle.std.proofs.Common.{◌≡◌, ◌-◌, ℕ, List, length, ap, subst, Option}
use Rattle.tdl_io.specs.Outside.{Held, IsLonger}
use Rattle.tdl_tree.specs.declared.declarations.Tree.{Tree}
use Rattle.tdl_words.specs.Words.{Words, word_at}
use Rattle.tdl_report.specs.declared.status.Status.{Status}
use Rattle.tdl_report.specs.declared.status.Status.TheVariants.{LoadFailed, TooLong, BadToken, BadSyntax, NoMemory}
use Rattle.tdl_report.specs.Calls.{FilesCall}
use Rattle.tdl_top.specs.Sources.{HasTree, IsRead, IsGood, limit_of}
use Rattle.tdl_top.specs.Loads.{LoadSays, ScanSays, ParseSays, SourceSays}

-- what its load refuses
pub load_source : (files : FilesCall) (words : Words) (w left limit : ℕ) (s : Status) → limit ≡ limit_of left →
    LoadSays files words w limit s → SourceSays files words w left s
load_source files words w left limit (LoadFailed v) is says = says
load_source files words w left limit (TooLong v) is says =
    (says.0, subst (λ (l : ℕ). IsLonger files.before.holds (word_at words w) l) is says.1)
load_source files words w left limit NoMemory is says = tt
load_source files words w left limit s is says = absurd says

module _ (files : FilesCall) (words : Words) (w left limit : ℕ) (bytes : List ℕ) (is : limit ≡ limit_of left)
    (read : IsRead files.before.holds (word_at words w) limit bytes) where
  read_here : IsRead files.before.holds (word_at words w) (limit_of left) bytes
  read_here = subst (λ (l : ℕ). IsRead files.before.holds (word_at words w) l bytes) is read

  -- what its scan refuses
  pub scan_source : (s : Status) → ScanSays w bytes s → SourceSays files words w left s
  scan_source (BadToken v line col) says =
      (says.0, record { bytes = bytes; read = read_here; holds_of = says.1 })
  scan_source NoMemory says = tt
  scan_source s says = absurd says

  -- what its tokens are refused for
  pub parse_source : (s : Status) → ParseSays w bytes s → SourceSays files words w left s
  parse_source (BadSyntax v line col) says =
      (says.0, record { bytes = bytes; read = read_here; holds_of = says.1 })
  parse_source NoMemory says = tt
  parse_source s says = absurd says

-- where all went well it is good
pub good_source : (holds : Option Held) (name : List ℕ) (left limit count : ℕ) (bytes : List ℕ) (tree : Tree) →
    limit ≡ limit_of left → count ≡ length bytes → IsRead holds name limit bytes → HasTree bytes tree →
    IsGood holds name left tree (left - count)
good_source holds name left limit count bytes tree is counted read spelled = record {
  bytes = bytes;
  read = subst (λ (l : ℕ). IsRead holds name l bytes) is read;
  spelled = spelled;
  leaves = ap (λ (n : ℕ). left - n) counted;
}
