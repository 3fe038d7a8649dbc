-- What is told of the tokens of a source that have no tree.
use Rattle.std.proofs.Common.{◌≡◌, ◌∙◌, ◌+◌, ◌==◌, arith, ℕ, suc, true, List, [], ◌∷◌, ◌++◌, length, Option, Some, None, Ok, Err, refl, sym, ap, subst}
use Rattle.std.specs.List.{count_by}
use Rattle.tdl_grammar.proofs.Whole.{all_ok}
use Rattle.tdl_scan.specs.declared.place.SourcePlace.{SourcePlace}
use Rattle.tdl_scan.specs.declared.token.Token.{Token}
use Rattle.tdl_scan.specs.declared.token.TokenKind.{TokenKind}
use Rattle.tdl_scan.specs.Lexemes.{kind_of}
use Rattle.tdl_scan.specs.Places.{place_after}
use Rattle.tdl_scan.specs.Tokens.{token_at, token_list, tokens_after, IsTokensOf}
use Rattle.tdl_tree.specs.declared.words.Word.{Word}
use Rattle.tdl_tree.specs.declared.declarations.Tree.{Tree}
use Rattle.tdl_tree.specs.Faults.{is_line, is_written}
use Rattle.tdl_tree.proofs.Faulty.{one_fault}
use Rattle.tdl_parse.specs.declared.fail.SyntaxError.TheVariants.{BadSyntax}
use Rattle.tdl_parse.specs.ReadingDeclarations.{limited}
use Rattle.tdl_parse.specs.Words.{word_of, words_of}
use Rattle.tdl_parse.specs.Faults.{place_of, syntax_at, IsFaultAt}
use Rattle.tdl_parse.proofs.Sentences.{limited_spelled}
use Rattle.tdl_parse.proofs.SyntaxFaults.{Written, answer, answer_fault, sentence_no_fault}

-- a word that is written, before others
word_written : (word : Word) (words : List Word) → is_written word ≡ true → Written words → Written (word ∷ words)
word_written word words e all = rw e (ap suc all)

-- lines are counted from 1
line_from_one : (n : ℕ) → is_line (1 + n) ≡ true
line_from_one n = let e : suc n ≡ 1 + n = omega arith in subst (λ (z : ℕ). is_line z ≡ true) e refl

-- a word at the place after some bytes is written
one_written : (source front piece : List ℕ) (kind : Option TokenKind) (more : List Token) →
    Written (words_of source more) →
    Written (words_of source (token_list (place_after front) (length front) (length piece) kind ++ more))
one_written source front piece None more all = all
one_written source front piece (Some kind) more all =
    word_written (word_of source (token_at (place_after front) (length front) (length piece) kind))
    (words_of source more)
    (line_from_one (count_by (λ c. c == 10) front)) all

-- so all words are
all_written : (source front : List ℕ) (pieces : List (List ℕ)) → Written (words_of source (tokens_after front pieces))
all_written source front [] = refl
all_written source front (piece ∷ pieces) =
    one_written source front piece (kind_of piece) (tokens_after (front ++ piece) pieces) (all_written source
    (front ++ piece) pieces)

-- the words of a source are written
words_written : (source : List ℕ) (tokens : List Token) → IsTokensOf tokens source → Written (words_of source tokens)
words_written source tokens is = subst (λ (z : List Token). Written (words_of source z)) (sym is.among)
    (all_written source [] is.pieces)

-- one error tells one place
place_is : (line col : ℕ) (place : SourcePlace) → BadSyntax line col ≡ syntax_at place →
    record { line = line; col = col } ≡ place
place_is line col place e =
    let lines : line ≡ place.line = cc e in
    let cols : col ≡ place.col = cc e in
    λ i. record { line = lines i; col = cols i }

-- what is told is the fault
pub told_fault : (source : List ℕ) (tokens : List Token) (rest : List Word) (line col : ℕ) →
    IsTokensOf tokens source →
    answer (words_of source tokens) ≡ Err rest → BadSyntax line col ≡ syntax_at (place_of source rest) →
    IsFaultAt source tokens line col
told_fault source tokens rest line col is e told = record {
  rest = rest;
  fault = answer_fault (words_of source tokens) rest (words_written source tokens is) e;
  place = place_is line col (place_of source rest) told;
}

-- the fault is what is told
pub fault_told : (source : List ℕ) (tokens : List Token) (rest : List Word) (line col : ℕ) →
    IsTokensOf tokens source →
    answer (words_of source tokens) ≡ Err rest → IsFaultAt source tokens line col →
    syntax_at (place_of source rest) ≡ BadSyntax line col
fault_told source tokens rest line col is e x =
    let same : x.rest ≡ rest = one_fault (words_of source tokens) x.rest rest x.fault (answer_fault
    (words_of source tokens) rest (words_written source tokens is) e) in
    ap syntax_at (sym (x.place ∙ ap (place_of source) same))

-- where there is a tree, there is no fault
pub tree_no_fault : (source : List ℕ) (tokens : List Token) (tree : Tree) (line col : ℕ) →
    answer (words_of source tokens) ≡ Ok tree → IsFaultAt source tokens line col → ⊥
tree_no_fault source tokens tree line col e x =
    sentence_no_fault (words_of source tokens) x.rest tree (limited_spelled (words_of source tokens) tree (all_ok
    (limited (words_of source tokens)) tree e)) x.fault
