-- A list of words has one fault at most; what is within the limits.
use Rattle.std.proofs.Common.{◌≡◌, ◌∙◌, ◌⊎◌, inl, inr, ◌≤◌, arith, true, List, [], ◌∷◌, ◌++◌, refl, sym, ap, subst}
use Rattle.tdl_base.specs.declared.limits.TheConstants.{EXPRESSION_TOKENS}
use Rattle.tdl_grammar.specs.Counting.{counted}
use Rattle.tdl_tree.specs.declared.words.Word.{Word}
use Rattle.tdl_tree.specs.declared.words.WordKind.{WordKind}
use Rattle.tdl_tree.specs.declared.words.WordKind.TheVariants as k
use Rattle.tdl_tree.specs.declared.expressions.ExprTree.{ExprTree}
use Rattle.tdl_tree.specs.declared.statements.StmtTree.{StmtTree}
use Rattle.tdl_tree.specs.Kinds.{is}
use Rattle.tdl_tree.specs.Words.{Text}
use Rattle.tdl_tree.specs.Statements.{block}
use Rattle.tdl_tree.specs.Faults.{is_written, outermost_written, block_written, IsOutOfPlace, IsSyntaxFault}

-- two fronts of one list end at the same word, or one of them has the word at which the other ends
compare : (front rest front' rest' : List Word) → front ++ rest ≡ front' ++ rest' →
    (rest ≡ rest') ⊎ (((word : Word) × (after : List Word) × (end : List Word) × (front' ≡ front ++ word ∷ after) ×
    (rest ≡ word ∷ end)) ⊎
    ((word : Word) × (after : List Word) × (end : List Word) × (front ≡ front' ++ word ∷ after) ×
    (rest' ≡ word ∷ end)))
compare [] rest [] rest' e = inl e
compare [] rest (w ∷ ws) rest' e = inr (inl (w, ws, ws ++ rest', refl, e))
compare (v ∷ vs) rest [] rest' e = inr (inr (v, vs, vs ++ rest, refl, sym e))
compare (v ∷ vs) rest (w ∷ ws) rest' e =
    let head : v ≡ w = cc e in
    let tail : vs ++ rest ≡ ws ++ rest' = cc e in
    elim (compare vs rest ws rest' tail) [
      | inl h ↦ inl h
      | inr h ↦ elim h [
        | inl k ↦ inr (inl (
          k.0,
          k.1,
          k.2,
          ap (λ (z : List Word). w ∷ z) k.3 ∙
              ap (λ (z : Word). z ∷ (vs ++ k.0 ∷ k.1)) (sym head),
          k.4,
        ))
        | inr k ↦ inr (inr (
          k.0,
          k.1,
          k.2,
          ap (λ (z : List Word). v ∷ z) k.3 ∙
              ap (λ (z : Word). z ∷ (ws ++ k.0 ∷ k.1)) head,
          k.4,
        ))
      ]
    ]

-- one fault at most
pub one_fault : (words rest rest' : List Word) → IsSyntaxFault words rest → IsSyntaxFault words rest' → rest ≡ rest'
one_fault words rest rest' x y =
    elim (compare x.front rest y.front rest' (sym x.parts ∙ y.parts)) [
      | inl h ↦ h
      | inr h ↦ elim h [
        | inl k ↦ absurd (y.in_place x.front k.1 k.0 k.3 (x.out_of_place k.0 k.2 k.4))
        | inr k ↦ absurd (x.in_place y.front k.1 k.0 k.3 (y.out_of_place k.0 k.2 k.4))
      ]
    ]

-- ---- what is within the limits

-- a word of the first line
abbrev written : WordKind → Word
written kind = record { kind = kind; text = []; line = 1; col = 1 }

-- a word that could still be written
abbrev unwritten : WordKind → Word
unwritten kind = record { kind = kind; text = []; line = 0; col = 0 }

-- an outermost expression has at most so many words that are written
expression_limit : (tree : ExprTree) (words : List Word) → outermost_written tree words →
    counted is_written words ≤ EXPRESSION_TOKENS
expression_limit tree words text = text.1

-- a block inside the most that may stand in one another has no word that is written
no_written_block : (E : Text ExprTree) (tree : List StmtTree) (more : List Word) →
    ¬ block_written 0 E tree (written k.LeftBrace ∷ more)
unfolding block_written
no_written_block E tree more text = let most = text.1 in absurd (omega (arith, most))

-- but it may go on with words that are not
unwritten_block : (E : Text ExprTree) → block_written 0 E [] (unwritten k.LeftBrace ∷ unwritten k.RightBrace ∷ [])
unfolding block_written block
unwritten_block E = (
  (
    1,
    (
      (unwritten k.LeftBrace, []),
      (
        unwritten k.LeftBrace ∷ [],
        unwritten k.RightBrace ∷ [],
        (refl, refl),
        (
          (
            [],
            unwritten k.RightBrace,
          ),
          (
            [],
            unwritten k.RightBrace ∷ [],
            refl,
            (refl, refl),
            refl,
          ),
          refl,
        ),
        refl,
      ),
      refl,
    ),
  ),
  omega arith,
)

-- a source begins with its first word
begins_module : (first word : Word) (front back more : List Word) → is k.Module first ≡ true → front ≡ first ∷ [] →
    word ∷ more ≡ front ++ back → is k.Module word ≡ true
begins_module first word front back more h e parts =
    let same : first ≡ word = (let d = parts ∙ ap (λ (z : List Word). z ++ back) e in cc d) in
    subst (λ (z : Word). is k.Module z ≡ true) same h

-- a source does not begin with a brace
brace_out_of_place : IsOutOfPlace [] (written k.LeftBrace)
brace_out_of_place tree more none text =
    let start = text.1.1 in
    absurd (let e = begins_module text.1.0.0
    (written k.LeftBrace) start.0 start.1 more start.2.0 start.2.1 start.4 in cc e)
