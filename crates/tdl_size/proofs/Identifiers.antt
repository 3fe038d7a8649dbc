-- A word of a source that is a name is an identifier.
use Rattle.std.proofs.Common.{◌≡◌, ℕ, Bool, true, false, List, [], ◌∷◌, All, refl}
use Rattle.std.specs.Prelude.{not, if◌then◌else◌, bytes_eq}
use Rattle.std.specs.List.{list_all}
use Rattle.std.proofs.lemmas.Bool.{and_parts}
use Rattle.std.proofs.lemmas.List.Elements.{All-map, All-weaker}
use denote.Enum.Bare.{sameb}
use Rattle.tdl_scan.specs.declared.token.Token.{Token}
use Rattle.tdl_scan.specs.declared.token.TokenKind.{TokenKind}
use Rattle.tdl_scan.specs.declared.token.TokenKind.TheVariants.{Id, Number, Sign}
use Rattle.tdl_scan.specs.Lexemes.{signs, is_sign, IsOfKind}
use Rattle.tdl_scan.specs.Tokens.{IsTokensOf, IsInSource}
use Rattle.tdl_scan.proofs.Lexemes.{among}
use Rattle.tdl_scan.proofs.Spans.{tokens_in_source}
use Rattle.tdl_base.specs.Letters.{is_digit}
use Rattle.tdl_tree.specs.contracts.words.WordKind.{the_type}
use Rattle.tdl_tree.specs.declared.declarations.Tree.{Tree}
use Rattle.tdl_tree.specs.declared.words.WordKind.{WordKind}
use Rattle.tdl_tree.specs.declared.words.WordKind.TheVariants as k
use Rattle.tdl_tree.specs.Kinds.{table, free_kind, kind_among, kind_of}
use Rattle.tdl_tree.specs.Sentences.{Sentence}
use Rattle.tdl_parse.specs.Words.{word_of, words_of}
use Rattle.tdl_size.specs.Sized.{IsIdentifier, IsSized}
use Rattle.tdl_size.proofs.Declarations.{IsNamed, sentence_sized}

-- the kind is that of a name
abbrev is_name : WordKind → Bool
is_name kind = sameb the_type kind k.Name

-- where neither the table nor the kind besides it names, no text is a name
among_no_name : (entries : List (List ℕ × WordKind)) (other : WordKind) (text : List ℕ) →
    list_all (λ entry. not (is_name entry.1)) entries ≡ true → not (is_name other) ≡ true →
    not (is_name (kind_among entries other text)) ≡ true
among_no_name [] other text all besides = besides
among_no_name (entry ∷ more) other text all besides =
    let parts = and_parts (not (is_name entry.1)) (list_all (λ entry. not (is_name entry.1)) more) all in
    by_test (bytes_eq entry.0 text) parts.0 (among_no_name more other text parts.1 besides)
  where
    by_test : (b : Bool) → not (is_name entry.1) ≡ true → not (is_name (kind_among more other text)) ≡ true →
        not (is_name (if b then entry.1 else kind_among more other text)) ≡ true
    by_test true here later = here
    by_test false here later = later

-- no entry of the table is a name
table_without_names : list_all (λ entry. not (is_name entry.1)) table ≡ true
table_without_names = refl

-- a number is none
number_no_name : (text : List ℕ) → IsOfKind Number text → not (is_name (kind_of text)) ≡ true
unfolding kind_of
number_no_name [] h = absurd (cc h)
number_no_name (c ∷ cs) h =
    let digit : is_digit c ≡ true = (and_parts (is_digit c) (list_all is_digit cs) h).0 in
    among_no_name table (free_kind (c ∷ cs)) (c ∷ cs) table_without_names (rw digit refl)

-- nor is a sign
sign_no_name : (text : List ℕ) → IsOfKind Sign text → not (is_name (kind_of text)) ≡ true
unfolding kind_of is_sign
sign_no_name text h = among (λ (t : List ℕ). not (is_name (kind_of t))) signs text refl h

-- so a name is an identifier
named : (kind : TokenKind) (text : List ℕ) → IsOfKind kind text → is_name (kind_of text) ≡ true → IsIdentifier text
named Id text h name = h
named Number text h name = let none = number_no_name text h in absurd (cc (rw name at none))
named Sign text h name = let none = sign_no_name text h in absurd (cc (rw name at none))

-- each word of a source is, where it is a name
words_named : (source : List ℕ) (tokens : List Token) → IsTokensOf tokens source →
    All IsNamed (words_of source tokens)
words_named source tokens is =
    All-map IsNamed (word_of source) tokens
    (All-weaker (IsInSource source) (λ (token : Token). IsNamed (word_of source token))
    (λ token inside name. named token.kind _ inside.kind name) tokens (tokens_in_source source tokens is))

-- so the tree that the tokens spell is sized
pub tree_sized : (source : List ℕ) (tokens : List Token) (tree : Tree) →
    IsTokensOf tokens source → Sentence tree (words_of source tokens) → IsSized tree
tree_sized source tokens tree scanned spelled =
    sentence_sized tree (words_of source tokens) (words_named source tokens scanned) spelled
