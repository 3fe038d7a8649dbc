-- Modes and their activities.
use Rattle.std.specs.Prelude.{Bool, List, [], Option, None, Some}
use Rattle.tdl_grammar.specs.Grammar.{one, both, made, either, optional, separated}
use Rattle.tdl_tree.specs.declared.words.Word.{Word}
use Rattle.tdl_tree.specs.declared.words.WordKind.TheVariants as k
use Rattle.tdl_tree.specs.declared.names.Id.{Id}
use Rattle.tdl_tree.specs.declared.names.Num.{Num}
use Rattle.tdl_tree.specs.declared.names.Time.{Time}
use Rattle.tdl_tree.specs.declared.expressions.ExprTree.{ExprTree}
use Rattle.tdl_tree.specs.declared.activities.Act.{Act}
use Rattle.tdl_tree.specs.declared.activities.ActKind.{ActKind}
use Rattle.tdl_tree.specs.declared.activities.ActKind.TheVariants as acts
use Rattle.tdl_tree.specs.declared.activities.Slots.{Slots}
use Rattle.tdl_tree.specs.declared.declarations.Decl.{Decl}
use Rattle.tdl_tree.specs.declared.declarations.Decl.TheVariants as decl
use Rattle.tdl_tree.specs.Kinds.{is}
use Rattle.tdl_tree.specs.Words.{Text, says, after, before, all_before}
use Rattle.tdl_tree.specs.Names.{id, number, time}

abbrev pub slots_of : Num × Option Num → Slots
slots_of x = record { first = x.0; last = x.1 }

-- range = number [ "-" number ]
abbrev pub range : Text Slots
range = made slots_of (both number (optional (after k.Minus number)))

-- how often, and in which slots: none where none are written
abbrev pub freq_of : Num × Option (List Slots) → Num × List Slots
freq_of (n, None) = (n, [])
freq_of (n, Some slots) = (n, slots)

-- freq = "[" "freq" "=" number [ "," "slots" "=" range { "," range } ] "]"
abbrev pub freq : Text (Num × List Slots)
freq =
    made freq_of
    (after k.LeftBracket (after k.Freq (after k.Equals
    (before k.RightBracket
    (both number (optional (after k.Comma (after k.Slots (after k.Equals (separated (is k.Comma) range))))))))))

-- [ expr { "," expr } ] ")"
abbrev pub arguments : Text ExprTree → Text (List ExprTree)
arguments expr = either (says k.RightParenthesis []) (before k.RightParenthesis (separated (is k.Comma) expr))

abbrev pub task_of : Id × List ExprTree → ActKind
task_of x = acts.Task x.0 x.1

abbrev pub update_of : Id × ExprTree → ActKind
update_of x = acts.Update x.0 x.1

-- "task" freq id "(" [ expr { "," expr } ] ")" | "update" freq id ":=" expr | "switch" freq "to" id
abbrev pub deed : Text ExprTree → Text (Word × ((Num × List Slots) × ActKind))
deed expr =
    either (both (one (is k.Task)) (both freq (made task_of (both id (after k.LeftParenthesis (arguments expr))))))
    (either (both (one (is k.Update)) (both freq (made update_of (both id (after k.Becomes expr)))))
    (both (one (is k.Switch)) (both freq (made acts.Switch (after k.To id)))))

abbrev pub act_of : (Word × ((Num × List Slots) × ActKind)) × Option ExprTree → Act
act_of x = record {
  line = x.0.0.line;
  col = x.0.0.col;
  freq = x.0.1.0.0;
  slots = x.0.1.0.1;
  what = x.0.1.1;
  guard = x.1;
}

-- act = deed [ "if" expr ] ";"
abbrev pub act : Text ExprTree → Text Act
act expr = made act_of (before k.Semicolon (both (deed expr) (optional (after k.If expr))))

abbrev pub mode_of : Bool → Id × (Time × List Act) → Decl
mode_of start x = decl.Mode start x.0 x.1.0 x.1.1

-- mode = [ "start" ] "mode" id "[" "period" "=" time "]" "{" { act } "}", after the `start`
abbrev pub mode : Bool → Text ExprTree → Text Decl
mode start expr =
    made (mode_of start)
    (after k.Mode
    (both id
    (both (after k.LeftBracket (after k.Period (after k.Equals (before k.RightBracket time))))
    (after k.LeftBrace (all_before k.RightBrace (act expr))))))
