-- How names, numbers, times, literals and kinds are read.
use Rattle.std.specs.Prelude.{ℕ, Bool, true, false, List, codes}
use Rattle.tdl_base.specs.declared.kinds.Kind.{Kind}
use Rattle.tdl_base.specs.declared.kinds.Kind.TheVariants as kinds
use Rattle.tdl_grammar.specs.Grammar.{second}
use Rattle.tdl_grammar.specs.Parsing.{P, one, both, made, either, many}
use Rattle.tdl_tree.specs.declared.words.Word.{Word}
use Rattle.tdl_tree.specs.declared.words.WordKind.{WordKind}
use Rattle.tdl_tree.specs.declared.words.WordKind.TheVariants as k
use Rattle.tdl_tree.specs.declared.names.Id.{Id}
use Rattle.tdl_tree.specs.declared.names.Num.{Num}
use Rattle.tdl_tree.specs.declared.names.Lit.{Lit}
use Rattle.tdl_tree.specs.declared.names.Time.{Time}
use Rattle.tdl_tree.specs.declared.names.Unit.{Unit}
use Rattle.tdl_tree.specs.declared.names.Unit.TheVariants as units
use Rattle.tdl_tree.specs.Kinds.{is}
use Rattle.tdl_tree.specs.Words.{first, is_named}
use Rattle.tdl_tree.specs.Names.{id_of, num_of, time_of, minus_of, plain_of, truth_of}

-- a tree and the words after it, or the words from the fault on
abbrev pub Parser : Type 0 → Type 0
Parser A = P Word A

-- a word of this kind that stands for a
abbrev pub says : {A : Type 0} → WordKind → A → Parser A
says kind a = made (λ _. a) (one (is kind))

-- a word of this kind, then p
abbrev pub after : {A : Type 0} → WordKind → Parser A → Parser A
after kind p = made second (both (one (is kind)) p)

-- p, then a word of this kind
abbrev pub before : {A : Type 0} → WordKind → Parser A → Parser A
before kind p = made first (both p (one (is kind)))

-- p as often as the next word begins it, then a word of this kind
abbrev pub all_before : {A : Type 0} → (Word → Bool) → WordKind → Parser A → Parser (List A)
all_before starts kind p = made first (both (many starts p) (one (is kind)))

unfoldable pub id : Parser Id
id = made id_of (one (is k.Name))

unfoldable pub number : Parser Num
number = made num_of (one (is k.Number))

abbrev pub unit_name : List ℕ → Unit → Parser Unit
unit_name text a = made (λ _. a) (one (is_named text))

unfoldable pub unit : Parser Unit
unit =
    either (is_named (codes "us")) (unit_name (codes "us") units.Us)
    (either (is_named (codes "ms")) (unit_name (codes "ms") units.Ms) (unit_name (codes "s") units.S))

unfoldable pub time : Parser Time
time = made time_of (both number unit)

unfoldable pub literal : Parser Lit
literal =
    either (is k.Minus) (made minus_of (both (one (is k.Minus)) number))
    (either (is k.Number) (made plain_of number)
    (either (is k.True) (made (truth_of true) (one (is k.True))) (made (truth_of false) (one (is k.False)))))

unfoldable pub kind : Parser Kind
kind =
    either (is k.Boolean) (says k.Boolean kinds.Boolean)
    (either (is k.Byte) (says k.Byte kinds.Byte)
    (either (is k.Short) (says k.Short kinds.Short)
    (either (is k.Int) (says k.Int kinds.Int) (says k.Long kinds.Long))))
