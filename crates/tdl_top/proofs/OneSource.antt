-- A source has one tree at most or one fault, and trees say one program at most.
use Rattle.std.proofs.Common.{◌≡◌, ℕ, suc, List, [], Contains, get_or, ap, sym, ◌∙◌, subst, arith}
use Rattle.tdl_mode.specs.declared.program.Program.{Program}
use Rattle.tdl_scan.specs.declared.token.Token.{Token}
use Rattle.tdl_scan.proofs.Found.{one_list}
use Rattle.tdl_scan.specs.declared.place.SourcePlace.{SourcePlace}
use Rattle.tdl_tree.specs.declared.declarations.Tree.{Tree}
use Rattle.tdl_tree.specs.Sentences.{Sentence}
use Rattle.tdl_tree.proofs.Faulty.{one_fault}
use Rattle.tdl_parse.specs.Words.{words_of}
use Rattle.tdl_parse.specs.Faults.{IsFaultAt, place_of}
use Rattle.tdl_parse.proofs.Sentences.{one_tree}
use Rattle.tdl_parse.proofs.SyntaxFaults.{sentence_no_fault}
use Rattle.tdl_rules.specs.declared.fault.Fault.{Fault}
use Rattle.tdl_rules.specs.Faults.{faults}
use Rattle.tdl_rules.proofs.Firsts.{first-same}
use Rattle.tdl_plain.specs.Says.{Says}
use Rattle.tdl_plain.proofs.Unique.{says_unique}
use Rattle.tdl_top.specs.Sources.{HasTree, HasSyntaxFault, SayProgram, HaveFault}

-- two trees of one source are one
pub tree_once : (source : List ℕ) (a b : Tree) → HasTree source a → HasTree source b → a ≡ b
tree_once source a b x y =
    one_tree a b (words_of source y.tokens)
    (subst (λ (tokens : List Token). Sentence a (words_of source tokens))
    (one_list source x.tokens y.tokens x.scanned y.scanned) x.spelled) y.spelled

-- two programs of the same trees are one
pub program_once : (trees : List Tree) (p q : Program) → SayProgram trees p → SayProgram trees q → p ≡ q
program_once trees p q x y =
    let same : x.tree ≡ y.tree = ap (λ (ts : List Tree). get_or ts 0 x.tree) (sym x.only ∙ y.only) in
    says_unique p q y.tree (subst (λ (tree : Tree). Says tree p) same x.says) y.says

-- two first faults of the same trees are one
pub fault_once : (trees : List Tree) (w r l c v s m d : ℕ) → HaveFault trees w r l c → HaveFault trees v s m d →
    (w ≡ v) × (r ≡ s) × (l ≡ m) × (c ≡ d)
fault_once trees w r l c v s m d x y =
    let same : record { rule = r; file = x.file; line = l; col = c } ≡ record { rule = s; file = y.file; line = m; col = d } =
    first-same (record { rule = r; file = x.file; line = l; col = c })
    (record { rule = s; file = y.file; line = m; col = d }) (faults trees) x.first y.first in (
      x.word ∙ ap (λ (f : Fault). suc f.file) same ∙ sym y.word,
      ap (λ (f : Fault). f.rule) same,
      ap (λ (f : Fault). f.line) same,
      ap (λ (f : Fault). f.col) same,
    )

-- trees that break no rule have no first fault
pub no_fault : (trees : List Tree) (w r l c : ℕ) → faults trees ≡ [] → HaveFault trees w r l c → ⊥
no_fault trees w r l c none x =
    none_within (record { rule = r; file = x.file; line = l; col = c }) (faults trees) none x.first.within
  where
    none_within : (f : Fault) (fs : List Fault) → fs ≡ [] → Contains fs f → ⊥
    none_within f fs none within = let there = subst (λ (gs : List Fault). Contains gs f) none within in
        omega (arith, there.1)

-- two faults of one source's tokens stand at one place
pub syntax_once : (source : List ℕ) (l c m d : ℕ) → HasSyntaxFault source l c → HasSyntaxFault source m d →
    (l ≡ m) × (c ≡ d)
syntax_once source l c m d x y =
    let fault = subst (λ (tokens : List Token). IsFaultAt source tokens l c)
    (one_list source x.tokens y.tokens x.scanned y.scanned) x.fault in
    let rest = one_fault (words_of source y.tokens) fault.rest y.fault.rest fault.fault y.fault.fault in
    let place : record { line = l; col = c } ≡ record { line = m; col = d } =
    fault.place ∙ ap (place_of source) rest ∙ sym y.fault.place in
    (ap (λ (p : SourcePlace). p.line) place, ap (λ (p : SourcePlace). p.col) place)

-- a source that has a tree has no such fault
pub syntax_tree : (source : List ℕ) (l c : ℕ) (tree : Tree) → HasSyntaxFault source l c → HasTree source tree → ⊥
syntax_tree source l c tree x y =
    let spelled = subst (λ (tokens : List Token). Sentence tree (words_of source tokens))
    (one_list source y.tokens x.tokens y.scanned x.scanned) y.spelled in
    sentence_no_fault (words_of source x.tokens) x.fault.rest tree spelled x.fault.fault
