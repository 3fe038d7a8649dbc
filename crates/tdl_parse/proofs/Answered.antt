-- What the words of a source are answered with.
use Rattle.std.proofs.Common.{◌≡◌, List, [], ◌∷◌, Ok, Err, refl, ap, ◌∙◌, sym}
use Rattle.tdl_grammar.specs.Parsing.{Outcome, all}
use Rattle.tdl_tree.specs.declared.words.Word.{Word}
use Rattle.tdl_tree.specs.declared.declarations.Tree.{Tree}
use Rattle.tdl_tree.specs.Sentences.{Sentence}
use Rattle.tdl_parse.specs.ReadingDeclarations.{limited}
use Rattle.tdl_parse.proofs.Sentences.{limited_spelled, limited_read}

-- a tree with no word after it
all_ok : (o : Outcome Word Tree) (tree : Tree) → all o ≡ Ok tree → o ≡ Ok (tree, [])
all_ok (Ok (found, [])) tree e =
    let same : found ≡ tree = cc e in ap (λ (z : Tree). let o : Outcome Word Tree = Ok (z, []) in o) same
all_ok (Ok (found, word ∷ rest)) tree e = absurd (cc e)
all_ok (Err rest) tree e = absurd (cc e)

-- a tree that is answered is spelled
pub answered_spelled : (words : List Word) (tree : Tree) → all (limited words) ≡ Ok tree → Sentence tree words
answered_spelled words tree e = limited_spelled words tree (all_ok (limited words) tree e)

-- a tree that is spelled is answered
answered : (words : List Word) (tree : Tree) → Sentence tree words → all (limited words) ≡ Ok tree
answered words tree spelled = rw (limited_read words tree spelled) refl

-- only one tree is spelled
pub answered_only : (words : List Word) (found tree : Tree) → all (limited words) ≡ Ok found → Sentence tree words →
    found ≡ tree
answered_only words found tree e spelled = let other = sym e ∙ answered words tree spelled in cc other

-- where there is a fault, no tree is spelled
pub fault_spells_none : (words rest : List Word) (tree : Tree) → all (limited words) ≡ Err rest → Sentence tree words →
    ⊥
fault_spells_none words rest tree e spelled = let other = sym e ∙ answered words tree spelled in cc other
