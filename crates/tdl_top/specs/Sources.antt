-- What a source is, how sources are read one after the other, what program they say, and which rule they break first.
use Rattle.std.specs.Prelude.{◌≡◌, ◌≤◌, ◌<◌, ◌-◌, ◌⊎◌, ℕ, suc, min, List, [], ◌∷◌, length, ⊤, Option, All}
use Rattle.tdl_base.specs.declared.limits.TheConstants.{SOURCE_BYTES}
use Rattle.tdl_io.specs.Outside.{Held, Reads}
use Rattle.tdl_mode.specs.declared.program.Program.{Program}
use Rattle.tdl_scan.specs.declared.token.Token.{Token}
use Rattle.tdl_scan.specs.Tokens.{IsTokensOf}
use Rattle.tdl_tree.specs.declared.declarations.Tree.{Tree}
use Rattle.tdl_tree.specs.Sentences.{Sentence}
use Rattle.tdl_parse.specs.Words.{words_of}
use Rattle.tdl_parse.specs.Faults.{IsFaultAt}
use Rattle.tdl_rules.specs.Earliest.{IsFirst}
use Rattle.tdl_rules.specs.Faults.{faults}
use Rattle.tdl_plain.specs.Says.{Says}

-- ---- one source

-- the source's tokens spell this tree
pub record HasTree (source : List ℕ) (tree : Tree) : Type 0 where
  pub tokens : List Token
  pub scanned : IsTokensOf tokens source
  pub spelled : Sentence tree (words_of source tokens)

-- a token of the source is out of place, or it ends too early, at this place
pub record HasSyntaxFault (source : List ℕ) (line col : ℕ) : Type 0 where
  pub tokens : List Token
  pub scanned : IsTokensOf tokens source
  pub fault : IsFaultAt source tokens line col

-- these bytes were read as the file of a name, within the limit
pub record IsRead (holds : Option Held) (name : List ℕ) (limit : ℕ) (bytes : List ℕ) : Type 0 where
  pub reads : Reads holds name bytes
  pub within : length bytes ≤ limit
  pub in_range : All (λ b. b < 256) bytes

-- ---- sources, one after the other

-- the greatest length of a source, where so many bytes are left for it and those after it
abbrev pub limit_of : ℕ → ℕ
limit_of left = min SOURCE_BYTES left

-- the source of a name was read within its limit and has this tree, and so many bytes are left after it
pub record IsGood (holds : Option Held) (name : List ℕ) (left : ℕ) (tree : Tree) (rest : ℕ) : Type 0 where
  pub bytes : List ℕ
  pub read : IsRead holds name (limit_of left) bytes
  pub spelled : HasTree bytes tree
  pub leaves : rest ≡ left - length bytes

-- the sources of these names are good, one after the other, and have these trees
abbrev pub HaveTrees : Option Held → (names : List (List ℕ)) → (left : ℕ) → List Tree → Type 0
HaveTrees holds [] left [] = ⊤
HaveTrees holds [] left (tree ∷ trees) = ⊥
HaveTrees holds (name ∷ names) left [] = ⊥
HaveTrees holds (name ∷ names) left (tree ∷ trees) =
    (rest : ℕ) × IsGood holds name left tree rest × HaveTrees holds names rest trees

-- of one of the sources this holds, of its name, of what is left for it and of its word, and those before it are good;
-- the first name stands at word w
abbrev pub AtSource : Option Held → (List ℕ → ℕ → ℕ → Type 0) → (names : List (List ℕ)) → (left w : ℕ) → Type 0
AtSource holds P [] left w = ⊥
AtSource holds P (name ∷ names) left w =
    P name left w
    ⊎ ((tree : Tree) × (rest : ℕ) × IsGood holds name left tree rest × AtSource holds P names rest (suc w))

-- ---- the program

-- the trees of all sources say this program: they break no rule, there is one tree, and it says it
pub record SayProgram (trees : List Tree) (program : Program) : Type 0 where
  pub obey : faults trees ≡ []
  pub tree : Tree
  pub only : trees ≡ tree ∷ []
  pub says : Says tree program

-- of all places at which the trees break a rule this is the first; the first source stands at word 1
pub record HaveFault (trees : List Tree) (w rule line col : ℕ) : Type 0 where
  pub file : ℕ
  pub word : w ≡ suc file
  pub first : IsFirst (record { rule = rule; file = file; line = line; col = col }) (faults trees)
