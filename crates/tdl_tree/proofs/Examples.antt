-- Small sentences, each with its tree.
use Rattle.std.proofs.Common.{◌≡◌, ℕ, Bool, List, [], ◌∷◌, None, codes, drop, refl, sym, inl, inr}
use Rattle.std.proofs.lemmas.List.{append-nil}
use Rattle.tdl_grammar.specs.Grammar.{chain}
use Rattle.tdl_tree.specs.declared.words.Word.{Word}
use Rattle.tdl_tree.specs.declared.words.WordKind.{WordKind}
use Rattle.tdl_tree.specs.declared.words.WordKind.TheVariants as k
use Rattle.tdl_tree.specs.declared.names.Id.{Id}
use Rattle.tdl_tree.specs.declared.expressions.ExprTree.{ExprTree}
use Rattle.tdl_tree.specs.declared.expressions.ExprNode.TheVariants as node
use Rattle.tdl_tree.specs.declared.declarations.Tree.{Tree}
use Rattle.tdl_tree.specs.Kinds.{kind_of, is}
use Rattle.tdl_tree.specs.Words.{Text}
use Rattle.tdl_tree.specs.Names.{id_of}
use Rattle.tdl_tree.specs.Expressions.{plain, unary, prod, sum, rel, conj, expr, joins, is_sum_sign, is_product_sign}
use Rattle.tdl_tree.specs.Sentences.{Sentence}

-- ---- kinds of texts

-- a reserved word is of its own kind
kind_of-module : kind_of (codes "module") ≡ k.Module
unfolding kind_of
kind_of-module = refl

-- a sign of two bytes
kind_of-less_equal : kind_of (codes "<=") ≡ k.LessEqual
unfolding kind_of
kind_of-less_equal = refl

-- a unit is a name
kind_of-us : kind_of (codes "us") ≡ k.Name
unfolding kind_of
kind_of-us = refl

-- digits are a number
kind_of-digits : kind_of (codes "007") ≡ k.Number
unfolding kind_of
kind_of-digits = refl

-- ---- a source with nothing in it

-- a word of the first line
abbrev word : WordKind → List ℕ → ℕ → Word
word kind text col = record { kind = kind; text = text; line = 1; col = col }

-- module P { }
abbrev nothing : List Word
nothing =
    word k.Module (codes "module") 1 ∷ word k.Name (codes "P") 8 ∷ word k.LeftBrace (codes "{") 10 ∷
    word k.RightBrace (codes "}") 12 ∷ []

abbrev name_p : Id
name_p = record { text = codes "P"; line = 1; col = 8 }

abbrev nothing_tree : Tree
nothing_tree = record { name = name_p; imports = []; decls = [] }

-- it spells the module without imports and declarations
nothing_spells : Sentence nothing_tree nothing
nothing_spells = (
  0,
  (
    (name_p, ([], [])),
    (
      (word k.Module (codes "module") 1, (name_p, ([], []))),
      (
        word k.Module (codes "module") 1 ∷ [],
        drop 1 nothing,
        (refl, refl),
        (
          word k.Name (codes "P") 8 ∷ [],
          drop 2 nothing,
          (word k.Name (codes "P") 8, (refl, refl), refl),
          (
            (word k.LeftBrace (codes "{") 10, ([], [])),
            (
              word k.LeftBrace (codes "{") 10 ∷ [],
              drop 3 nothing,
              (refl, refl),
              (
                [],
                drop 3 nothing,
                refl,
                (([], word k.RightBrace (codes "}") 12), ([], drop 3 nothing, refl, (refl, refl), refl), refl),
                refl,
              ),
              refl,
            ),
            refl,
          ),
          refl,
        ),
        refl,
      ),
      refl,
    ),
    refl,
  ),
)

-- ---- expressions

-- an operand with no operator after it
chain_one : {A : Type 0} (op : Word → Bool) (f : A → Word → A → A) (L : Text A) (a : A) (words : List Word) →
    L a words → chain op f L a words
chain_one op f L a words l = ((a, []), (words, [], l, refl, sym (append-nil words)), refl)

-- a sum as an expression
expr_of_sum : (n : ℕ) (a : ExprTree) (words : List Word) → sum (unary n) a words → expr n a words
expr_of_sum n a words l =
    chain_one (is k.OrOr) joins (conj (unary n)) a words
    (chain_one (is k.AndAnd) joins (rel (unary n)) a words
    ((a, None), (words, [], l, refl, sym (append-nil words)), refl))

-- a name of one letter at a column
abbrev letter : List ℕ → ℕ → Word
letter text col = word k.Name text col

abbrev named : List ℕ → ℕ → ExprTree
named text col = record { line = 1; col = col; node = node.Name (id_of (letter text col) ∷ []) }

-- a letter is a name
plain_letter : (text : List ℕ) (col : ℕ) → plain (named text col) (letter text col ∷ [])
plain_letter text col =
    inr (inr (inr (
      (id_of (letter text col), None),
      (letter text col ∷ [], [], (letter text col, (refl, refl), refl), refl, refl),
      refl,
    )))

-- a letter as a product of one operand
prod_letter : (text : List ℕ) (col : ℕ) → prod (unary 0) (named text col) (letter text col ∷ [])
unfolding unary
prod_letter text col = chain_one is_product_sign joins plain (named text col) (letter text col ∷ []) (plain_letter text col)

abbrev minus : ℕ → Word
minus col = word k.Minus (codes "-") col

-- `a - b - c` is `(a - b) - c`, at the place of `a`
minus_joins_left : expr 0
    (joins (joins (named (codes "a") 1) (minus 3) (named (codes "b") 5)) (minus 7) (named (codes "c") 9))
    (letter (codes "a") 1 ∷ minus 3 ∷ letter (codes "b") 5 ∷ minus 7 ∷ letter (codes "c") 9 ∷ [])
unfolding is_sum_sign unary
minus_joins_left =
    expr_of_sum 0 _ _ (
      (named (codes "a") 1, (minus 3, named (codes "b") 5) ∷ (minus 7, named (codes "c") 9) ∷ []),
      (
        letter (codes "a") 1 ∷ [],
        minus 3 ∷ letter (codes "b") 5 ∷ minus 7 ∷ letter (codes "c") 9 ∷ [],
        prod_letter (codes "a") 1,
        (
          minus 3 ∷ letter (codes "b") 5 ∷ [],
          minus 7 ∷ letter (codes "c") 9 ∷ [],
          (minus 3 ∷ [], letter (codes "b") 5 ∷ [], (refl, refl), prod_letter (codes "b") 5, refl),
          (
            minus 7 ∷ letter (codes "c") 9 ∷ [],
            [],
            (minus 7 ∷ [], letter (codes "c") 9 ∷ [], (refl, refl), prod_letter (codes "c") 9, refl),
            refl,
            refl,
          ),
          refl,
        ),
        refl,
      ),
      refl,
    )

-- `(a)` stands at its parenthesis
parenthesis_is_the_place : expr 1
    (record { line = 1; col = 1; node = node.Name (id_of (letter (codes "a") 2) ∷ []) })
    (word k.LeftParenthesis (codes "(") 1 ∷ letter (codes "a") 2 ∷ word k.RightParenthesis (codes ")") 3 ∷ [])
unfolding unary
parenthesis_is_the_place =
    expr_of_sum 1 _ _
    (chain_one is_sum_sign joins (prod (unary 1)) _ _
    (chain_one is_product_sign joins (unary 1) _ _
    (inr (inl (
      (word k.LeftParenthesis (codes "(") 1, named (codes "a") 2),
      (
        word k.LeftParenthesis (codes "(") 1 ∷ [],
        letter (codes "a") 2 ∷ word k.RightParenthesis (codes ")") 3 ∷ [],
        (refl, refl),
        (
          (named (codes "a") 2, word k.RightParenthesis (codes ")") 3),
          (
            letter (codes "a") 2 ∷ [],
            word k.RightParenthesis (codes ")") 3 ∷ [],
            expr_of_sum 0 _ _ (chain_one is_sum_sign joins (prod (unary 0)) _ _ (prod_letter (codes "a") 2)),
            (refl, refl),
            refl,
          ),
          refl,
        ),
        refl,
      ),
      refl,
    )))))
