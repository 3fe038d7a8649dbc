-- How modes and their activities are read.
use Rattle.std.specs.Prelude.{Bool, ◌||◌, List, []}
use Rattle.tdl_grammar.specs.Parsing.{one, both, made, either, follow, separated}
use Rattle.tdl_tree.specs.declared.words.Word.{Word}
use Rattle.tdl_tree.specs.declared.words.WordKind.TheVariants as k
use Rattle.tdl_tree.specs.declared.names.Num.{Num}
use Rattle.tdl_tree.specs.declared.names.Time.{Time}
use Rattle.tdl_tree.specs.declared.expressions.ExprTree.{ExprTree}
use Rattle.tdl_tree.specs.declared.activities.Act.{Act}
use Rattle.tdl_tree.specs.declared.activities.ActKind.{ActKind}
use Rattle.tdl_tree.specs.declared.activities.ActKind.TheVariants as acts
use Rattle.tdl_tree.specs.declared.activities.Slots.{Slots}
use Rattle.tdl_tree.specs.declared.declarations.Decl.{Decl}
use Rattle.tdl_tree.specs.Kinds.{is}
use Rattle.tdl_tree.specs.Activities.{slots_of, freq_of, task_of, update_of, act_of, mode_of}
use Rattle.tdl_parse.specs.Reading.{Parser, says, after, before, all_before, id, number, time}

unfoldable pub range : Parser Slots
range = made slots_of (follow (is k.Minus) number (after k.Minus number))

unfoldable pub slots : Parser (List Slots)
slots = after k.Comma (after k.Slots (after k.Equals (separated (is k.Comma) range)))

unfoldable pub freq : Parser (Num × List Slots)
freq =
    made freq_of
    (after k.LeftBracket (after k.Freq (after k.Equals
    (before k.RightBracket (follow (is k.Comma) number slots)))))

unfoldable pub arguments : Parser ExprTree → Parser (List ExprTree)
arguments expr =
    either (is k.RightParenthesis) (says k.RightParenthesis [])
    (before k.RightParenthesis (separated (is k.Comma) expr))

unfoldable pub invocation : Parser ExprTree → Parser ActKind
invocation expr = made task_of (both id (after k.LeftParenthesis (arguments expr)))

unfoldable pub update : Parser ExprTree → Parser ActKind
update expr = made update_of (both id (after k.Becomes expr))

unfoldable pub switch : Parser ActKind
switch = made acts.Switch (after k.To id)

unfoldable pub deed : Parser ExprTree → Parser (Word × ((Num × List Slots) × ActKind))
deed expr =
    either (is k.Task) (both (one (is k.Task)) (both freq (invocation expr)))
    (either (is k.Update) (both (one (is k.Update)) (both freq (update expr)))
    (both (one (is k.Switch)) (both freq switch)))

-- the words that begin an activity
unfoldable pub begins_act : Word → Bool
begins_act word = is k.Task word || is k.Update word || is k.Switch word

unfoldable pub act : Parser ExprTree → Parser Act
act expr = made act_of (before k.Semicolon (follow (is k.If) (deed expr) (after k.If expr)))

unfoldable pub period : Parser Time
period = after k.LeftBracket (after k.Period (after k.Equals (before k.RightBracket time)))

unfoldable pub acts_of_mode : Parser ExprTree → Parser (List Act)
acts_of_mode expr = after k.LeftBrace (all_before begins_act k.RightBrace (act expr))

unfoldable pub mode : Bool → Parser ExprTree → Parser Decl
mode start expr = made (mode_of start) (after k.Mode (both id (both period (acts_of_mode expr))))
