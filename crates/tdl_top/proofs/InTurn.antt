-- Sources that are read one after the other.
use Rattle.std.proofs.Common.{◌≡◌, ℕ, zero, suc, List, [], ◌∷◌, ◌++◌, All, length, ap, refl, subst, sym, inl, inr, append_assoc, append-nil, Option}
use Rattle.std.proofs.lemmas.List.Elements.{All-nil, All-cons}
use Rattle.tdl_base.specs.declared.limits.TheConstants.{ALL_SOURCES_BYTES}
use Rattle.tdl_io.specs.Outside.{Held}
use Rattle.tdl_io.specs.Told.{FilesTold}
use Rattle.tdl_tree.specs.declared.declarations.Tree.{Tree}
use Rattle.tdl_size.specs.Sized.{IsSized}
use Rattle.tdl_size.proofs.Identifiers.{tree_sized}
use Rattle.tdl_words.specs.Words.{Words, word_at, words_from}
use Rattle.tdl_report.specs.declared.status.Status.{Status}
use Rattle.tdl_report.specs.declared.status.Status.TheVariants.{LoadFailed, TooLong, BadToken, BadSyntax, NoMemory}
use Rattle.tdl_report.specs.Calls.{FilesCall, OnlyLoads}
use Rattle.tdl_top.specs.Sources.{IsGood, HaveTrees, AtSource}
use Rattle.tdl_top.specs.Taken.{AreRead}
use Rattle.tdl_top.specs.Refused.{SourceRefused, AmongSources, IsFailedLoad}
use Rattle.tdl_top.specs.Loads.{SourceSays, SourcesSay}
use Rattle.tdl_top.proofs.InputsSay.{failed_earlier}

-- of n sources those before word w are good and have these trees, and m more are to be read, within what is left: what
-- holds of these holds among all
pub record AreReadTo (holds : Option Held) (words : Words) (n w m left : ℕ) (trees : List Tree) : Type 0 where
  pub good : (later : List Tree) → HaveTrees holds (words_from words w m) left later →
      AreRead holds words n (trees ++ later)
  pub refused : (s : Status) → AtSource holds (SourceRefused holds s) (words_from words w m) left w →
      AmongSources holds words n (SourceRefused holds s)
  pub asked : (v : ℕ) → AtSource holds (λ name rest at. v ≡ at) (words_from words w m) left w →
      AmongSources holds words n (λ name rest at. v ≡ at)

-- none was read
pub none_read : (holds : Option Held) (words : Words) (n m : ℕ) → m ≡ n →
    AreReadTo holds words n 1 m ALL_SOURCES_BYTES []
none_read holds words n m e = record {
  good = λ later have. subst (λ (k : ℕ). HaveTrees holds (words_from words 1 k) ALL_SOURCES_BYTES later) e have;
  refused = λ s at. subst
      (λ (k : ℕ). AtSource holds (SourceRefused holds s) (words_from words 1 k) ALL_SOURCES_BYTES 1) e at;
  asked = λ v at. subst
      (λ (k : ℕ). AtSource holds (λ name rest w. v ≡ w) (words_from words 1 k) ALL_SOURCES_BYTES 1) e at;
}

module _ (holds : Option Held) (words : Words) (n w k left : ℕ) (trees : List Tree) where
  one_more : (tree : Tree) (rest : ℕ) → AreReadTo holds words n w (suc k) left trees →
      IsGood holds (word_at words w) left tree rest →
      AreReadTo holds words n (suc w) k rest (trees ++ tree ∷ [])
  one_more tree rest so_far good = record {
    good = λ later have. subst (AreRead holds words n) (sym (append_assoc trees (tree ∷ []) later))
        (so_far.good (tree ∷ later) (rest, good, have));
    refused = λ s at. so_far.refused s (inr (tree, rest, good, at));
    asked = λ v at. so_far.asked v (inr (tree, rest, good, at));
  }

-- one more was read
pub one_more_read : (holds : Option Held) (words : Words) (n w m v k left rest : ℕ) (trees now : List Tree)
    (tree : Tree) →
    m ≡ suc k → v ≡ suc w → now ≡ trees ++ tree ∷ [] → AreReadTo holds words n w m left trees →
    IsGood holds (word_at words w) left tree rest → AreReadTo holds words n v k rest now
one_more_read holds words n w m v k left rest trees now tree more next added so_far good =
    subst (λ (ts : List Tree). AreReadTo holds words n v k rest ts) (sym added)
    (subst (λ (at : ℕ). AreReadTo holds words n at k rest (trees ++ tree ∷ [])) (sym next)
    (one_more holds words n w k left trees tree rest
    (subst (λ (j : ℕ). AreReadTo holds words n w j left trees) more so_far) good))

-- all were read
pub all_read : (holds : Option Held) (words : Words) (n w m left : ℕ) (trees : List Tree) → m ≡ 0 →
    AreReadTo holds words n w m left trees → AreRead holds words n trees
all_read holds words n w m left trees none so_far =
    let end : AreReadTo holds words n w 0 left trees =
    subst (λ (j : ℕ). AreReadTo holds words n w j left trees) none so_far in
    subst (AreRead holds words n) (append-nil trees) (end.good [] tt)

-- as many trees as sources
trees_count : (holds : Option Held) (words : Words) (k n left : ℕ) (trees : List Tree) →
    HaveTrees holds (words_from words k n) left trees → length trees ≡ n
trees_count holds words k zero left [] have = refl
trees_count holds words k zero left (tree ∷ trees) have = absurd have
trees_count holds words k (suc n) left [] have = absurd have
trees_count holds words k (suc n) left (tree ∷ trees) have =
    ap suc (trees_count holds words (suc k) n have.0 trees have.2)

-- of so many sources there are so many trees
pub read_count : (holds : Option Held) (words : Words) (n : ℕ) (trees : List Tree) → AreRead holds words n trees →
    length trees ≡ n
read_count holds words n trees read = trees_count holds words 1 n ALL_SOURCES_BYTES trees read

-- each tree is within the limits of the grammar
trees_sized : (holds : Option Held) (words : Words) (k n left : ℕ) (trees : List Tree) →
    HaveTrees holds (words_from words k n) left trees → All IsSized trees
trees_sized holds words k zero left [] have = All-nil IsSized
trees_sized holds words k zero left (tree ∷ trees) have = absurd have
trees_sized holds words k (suc n) left [] have = absurd have
trees_sized holds words k (suc n) left (tree ∷ trees) have =
    let spelled = have.1.spelled in
    All-cons IsSized tree trees (tree_sized have.1.bytes spelled.tokens tree spelled.scanned spelled.spelled)
    (trees_sized holds words (suc k) n have.0 trees have.2)

-- so are all trees that were read
pub read_sized : (holds : Option Held) (words : Words) (n : ℕ) (trees : List Tree) → AreRead holds words n trees →
    All IsSized trees
read_sized holds words n trees read = trees_sized holds words 1 n ALL_SOURCES_BYTES trees read

-- ---- one of them is refused

module _ (a b c : FilesTold) (words : Words) (n w k left : ℕ) (trees : List Tree)
    (loads : OnlyLoads (record { before = a; after = b })) (so_far : AreReadTo a.holds words n w (suc k) left trees)
  where
    here : (s : Status) → SourceRefused b.holds s (word_at words w) left w →
        AmongSources a.holds words n (SourceRefused a.holds s)
    here s x = so_far.refused s
        (inl (subst (λ (h : Option Held). SourceRefused h s (word_at words w) left w) loads.held x))

    -- what a source is refused for, after those before it were read
    refused_here : (s : Status) → SourceSays (record { before = b; after = c }) words w left s →
        SourcesSay (record { before = a; after = c }) words n s
    refused_here (LoadFailed v) x = (
      so_far.asked v (inl x.0),
      failed_earlier a b c words v loads
          (subst (λ (j : ℕ). IsFailedLoad (record { before = b; after = c }) words j) (sym x.0) x.1),
    )
    refused_here (TooLong v) x = here (TooLong v) x
    refused_here (BadToken v line col) x = here (BadToken v line col) x
    refused_here (BadSyntax v line col) x = here (BadSyntax v line col) x
    refused_here NoMemory x = tt
    refused_here s x = absurd x

-- the same where more than none is to be read
pub source_refused : (a b c : FilesTold) (words : Words) (n w m k left : ℕ) (trees : List Tree) (s : Status) →
    m ≡ suc k → OnlyLoads (record { before = a; after = b }) → AreReadTo a.holds words n w m left trees →
    SourceSays (record { before = b; after = c }) words w left s →
    SourcesSay (record { before = a; after = c }) words n s
source_refused a b c words n w m k left trees s more loads so_far says =
    refused_here a b c words n w k left trees loads
    (subst (λ (j : ℕ). AreReadTo a.holds words n w j left trees) more so_far) s says

-- a source that was good after loads was good before them
pub good_since : (a b : FilesTold) (name : List ℕ) (left rest : ℕ) (tree : Tree) →
    OnlyLoads (record { before = a; after = b }) → IsGood b.holds name left tree rest →
    IsGood a.holds name left tree rest
good_since a b name left rest tree loads good =
    subst (λ (h : Option Held). IsGood h name left tree rest) loads.held good
