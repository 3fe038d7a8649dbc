-- Modes and their activities are read well.
use Rattle.std.proofs.Common.{Bool, ◌||◌, List, [], refl}
use Rattle.tdl_grammar.specs.Grammar as G
use Rattle.tdl_grammar.specs.Parsing.{one, both, maybe, follow, separated}
use Rattle.tdl_grammar.specs.Goodness.{Good, never, any}
use Rattle.tdl_grammar.proofs.Goods.{good_both, good_after, good_made, good_either, good_widen, nullable_maybe}
use Rattle.tdl_grammar.proofs.Chains.{good_separated}
use Rattle.tdl_tree.specs.declared.words.Word.{Word}
use Rattle.tdl_tree.specs.declared.words.WordKind.TheVariants as k
use Rattle.tdl_tree.specs.declared.names.Time.{Time}
use Rattle.tdl_tree.specs.declared.activities.Act.{Act}
use Rattle.tdl_tree.specs.declared.expressions.ExprTree.{ExprTree}
use Rattle.tdl_tree.specs.declared.activities.ActKind.TheVariants as acts
use Rattle.tdl_tree.specs.declared.activities.ActKind.{ActKind}
use Rattle.tdl_tree.specs.declared.activities.Slots.{Slots}
use Rattle.tdl_tree.specs.Kinds.{is}
use Rattle.tdl_tree.specs.Words as W
use Rattle.tdl_tree.specs.Words.{Text}
use Rattle.tdl_tree.specs.Names as N
use Rattle.tdl_tree.specs.Expressions.{is_comparison, is_sum_sign, is_product_sign}
use Rattle.tdl_tree.specs.Activities as A
use Rattle.tdl_parse.specs.Reading.{Parser, says, after, before, all_before, id, number, time}
use Rattle.tdl_parse.specs.ReadingExpressions.{goes_on}
use Rattle.tdl_parse.specs.ReadingActivities as R
use Rattle.tdl_parse.specs.ReadingActivities.{begins_act}
use Rattle.tdl_parse.proofs.WordTests.{word_of, apart, within}
use Rattle.tdl_parse.proofs.GoodWords as words
use Rattle.tdl_parse.proofs.GoodWords.{never_apart, good_word}
use Rattle.tdl_parse.proofs.GoodNames.{good_id, good_number, good_time}
use Rattle.tdl_parse.proofs.GoodExpressions.{begins_expr}

good_range : Good R.range A.range A.range (is k.Number) (any never (any (is k.Minus) never))
unfolding R.range
good_range =
    good_made A.slots_of (follow (is k.Minus) number (after k.Minus number)) _ _ (is k.Number) _
    (good_after number (maybe (is k.Minus) (after k.Minus number)) N.number N.number _ _ (is k.Number) never
    (is k.Minus) _ (never_apart (is k.Minus)) good_number
    (nullable_maybe (after k.Minus number) _ _ (is k.Minus) never
    (words.good_after k.Minus refl number N.number N.number (is k.Number) never good_number)))

abbrev pub slots_text : Text (List Slots)
slots_text = W.after k.Comma (W.after k.Slots (W.after k.Equals (G.separated (is k.Comma) A.range)))

-- on what slots go on
abbrev in_slots : Word → Bool
in_slots word = is k.Minus word || is k.Comma word

good_slots : Good R.slots slots_text slots_text (is k.Comma) in_slots
unfolding R.slots
good_slots =
    good_widen _ _ _ (is k.Comma) (any (any never (any (is k.Minus) never)) (any (is k.Comma) (any never (any
    (is k.Minus) never)))) (is k.Comma) in_slots (λ w e. e) (within _ _ (λ w. refl) (λ w. refl) refl)
    (words.good_after k.Comma refl (after k.Slots (after k.Equals (separated (is k.Comma) R.range))) _ _ (is k.Slots) _
    (words.good_after k.Slots refl (after k.Equals (separated (is k.Comma) R.range)) _ _ (is k.Equals) _
    (words.good_after k.Equals refl (separated (is k.Comma) R.range) _ _ (is k.Number) _
    (good_separated (is k.Comma) (word_of k.Comma) refl R.range A.range A.range (is k.Number) (any never (any
    (is k.Minus) never)) (apart _ _ (λ w. refl) (λ w. refl) refl) good_range))))

pub good_freq : Good R.freq A.freq A.freq (is k.LeftBracket) never
unfolding R.freq
good_freq =
    good_made A.freq_of (after k.LeftBracket (after k.Freq (after k.Equals (before k.RightBracket (follow
    (is k.Comma) number R.slots))))) _ _ (is k.LeftBracket) never
    (words.good_after k.LeftBracket refl (after k.Freq (after k.Equals (before k.RightBracket (follow
    (is k.Comma) number R.slots)))) _ _ (is k.Freq) never
    (words.good_after k.Freq refl (after k.Equals (before k.RightBracket (follow (is k.Comma) number R.slots))) _ _
    (is k.Equals) never
    (words.good_after k.Equals refl (before k.RightBracket (follow (is k.Comma) number R.slots)) _ _ (is k.Number) never
    (words.good_before_word k.RightBracket refl (follow (is k.Comma) number R.slots) _ _ (is k.Number) (any never
    (any (is k.Comma) in_slots)) (apart _ _ (λ w. refl) (λ w. refl) refl)
    (good_after number (maybe (is k.Comma) R.slots) N.number N.number _ _ (is k.Number) never (is k.Comma) _
    (never_apart (is k.Comma)) good_number
    (nullable_maybe R.slots slots_text slots_text (is k.Comma) in_slots good_slots))))))

-- what begins arguments
abbrev pub begins_arguments : Word → Bool
begins_arguments = any (is k.RightParenthesis) begins_expr

good_arguments : (e : Parser ExprTree) (E E' : Text ExprTree) → Good e E E' begins_expr goes_on →
    Good (R.arguments e) (A.arguments E) (A.arguments E') begins_arguments (any never never)
unfolding R.arguments goes_on is_comparison is_sum_sign is_product_sign
good_arguments e E E' x =
    good_either (says k.RightParenthesis []) (before k.RightParenthesis (separated (is k.Comma) e)) _ _ _ _
    (is k.RightParenthesis) never begins_expr never (apart _ _ (λ w. refl) (λ w. refl) refl)
    (words.good_says k.RightParenthesis refl [])
    (words.good_before_word k.RightParenthesis refl (separated (is k.Comma) e) _ _ begins_expr (any goes_on (any
    (is k.Comma) goes_on)) (apart _ _ (λ w. refl) (λ w. refl) refl)
    (good_separated (is k.Comma) (word_of k.Comma) refl e E E' begins_expr goes_on (apart _ _ (λ w. refl)
    (λ w. refl) refl) x))

abbrev pub invocation_text : Text ExprTree → Text ActKind
invocation_text E = G.made A.task_of (G.both N.id (W.after k.LeftParenthesis (A.arguments E)))

good_invocation : (e : Parser ExprTree) (E E' : Text ExprTree) → Good e E E' begins_expr goes_on →
    Good (R.invocation e) (invocation_text E) (invocation_text E') (is k.Name) (any never never)
unfolding R.invocation
good_invocation e E E' x =
    good_made A.task_of (both id (after k.LeftParenthesis (R.arguments e))) _ _ (is k.Name) _
    (good_both id (after k.LeftParenthesis (R.arguments e)) N.id N.id _ _ (is k.Name) never (is k.LeftParenthesis) _
    (never_apart (is k.LeftParenthesis)) good_id
    (words.good_after k.LeftParenthesis refl (R.arguments e) (A.arguments E) (A.arguments E') begins_arguments
    (any never never) (good_arguments e E E' x)))

abbrev pub update_text : Text ExprTree → Text ActKind
update_text E = G.made A.update_of (G.both N.id (W.after k.Becomes E))

good_update : (e : Parser ExprTree) (E E' : Text ExprTree) → Good e E E' begins_expr goes_on →
    Good (R.update e) (update_text E) (update_text E') (is k.Name) goes_on
unfolding R.update
good_update e E E' x =
    good_made A.update_of (both id (after k.Becomes e)) _ _ (is k.Name) goes_on
    (good_both id (after k.Becomes e) N.id N.id _ _ (is k.Name) never (is k.Becomes) goes_on (never_apart
    (is k.Becomes)) good_id
    (words.good_after k.Becomes refl e E E' begins_expr goes_on x))

abbrev pub switch_text : Text ActKind
switch_text = G.made acts.Switch (W.after k.To N.id)

pub good_switch : Good R.switch switch_text switch_text (is k.To) never
unfolding R.switch
good_switch = good_made acts.Switch (after k.To id) _ _ (is k.To) never (words.good_after k.To refl id N.id N.id
    (is k.Name) never good_id)

good_deed : (e : Parser ExprTree) (E E' : Text ExprTree) → Good e E E' begins_expr goes_on →
    Good (R.deed e) (A.deed E) (A.deed E') begins_act goes_on
unfolding R.deed begins_act goes_on is_comparison is_sum_sign is_product_sign
good_deed e E E' x =
    good_widen _ _ _ (any (is k.Task) (any (is k.Update) (is k.Switch))) (any (any never never)
    (any goes_on never)) begins_act goes_on (within _ _ (λ w. refl) (λ w. refl) refl) (within _ _ (λ w. refl)
    (λ w. refl) refl)
    (good_either _ _ _ _ _ _ (is k.Task) (any never never) _ _ (apart _ _ (λ w. refl) (λ w. refl) refl)
    (good_both (one (is k.Task)) (both R.freq (R.invocation e)) (G.one (is k.Task)) (G.one (is k.Task)) _ _
    (is k.Task) never (is k.LeftBracket) _ (never_apart (is k.LeftBracket)) (good_word k.Task refl)
    (good_both R.freq (R.invocation e) A.freq A.freq (invocation_text E) (invocation_text E')
    (is k.LeftBracket) never (is k.Name) (any never never) (never_apart (is k.Name)) good_freq
    (good_invocation e E E' x)))
    (good_either _ _ _ _ _ _ (is k.Update) goes_on (is k.Switch) never (apart _ _ (λ w. refl) (λ w. refl) refl)
    (good_both (one (is k.Update)) (both R.freq (R.update e)) (G.one (is k.Update)) (G.one (is k.Update)) _ _
    (is k.Update) never (is k.LeftBracket) _ (never_apart (is k.LeftBracket)) (good_word k.Update refl)
    (good_both R.freq (R.update e) A.freq A.freq (update_text E) (update_text E') (is k.LeftBracket) never
    (is k.Name) goes_on (never_apart (is k.Name)) good_freq (good_update e E E' x)))
    (good_both (one (is k.Switch)) (both R.freq R.switch) (G.one (is k.Switch)) (G.one (is k.Switch)) _ _
    (is k.Switch) never (is k.LeftBracket) _ (never_apart (is k.LeftBracket)) (good_word k.Switch refl)
    (good_both R.freq R.switch A.freq A.freq switch_text switch_text (is k.LeftBracket) never (is k.To) never
    (never_apart (is k.To)) good_freq good_switch))))

pub good_act : (e : Parser ExprTree) (E E' : Text ExprTree) → Good e E E' begins_expr goes_on →
    Good (R.act e) (A.act E) (A.act E') begins_act never
unfolding R.act goes_on is_comparison is_sum_sign is_product_sign
good_act e E E' x =
    good_made A.act_of (before k.Semicolon (follow (is k.If) (R.deed e) (after k.If e))) _ _ begins_act never
    (words.good_before_word k.Semicolon refl (follow (is k.If) (R.deed e) (after k.If e)) _ _ begins_act
    (any goes_on (any (is k.If) goes_on)) (apart _ _ (λ w. refl) (λ w. refl) refl)
    (good_after (R.deed e) (maybe (is k.If) (after k.If e)) (A.deed E) (A.deed E') _ _ begins_act goes_on (is k.If)
    _ (apart _ _ (λ w. refl) (λ w. refl) refl) (good_deed e E E' x)
    (nullable_maybe (after k.If e) _ _ (is k.If) goes_on (words.good_after k.If refl e E E' begins_expr goes_on x))))

abbrev pub period_text : Text Time
period_text = W.after k.LeftBracket (W.after k.Period (W.after k.Equals (W.before k.RightBracket N.time)))

pub good_period : Good R.period period_text period_text (is k.LeftBracket) never
unfolding R.period
good_period =
    words.good_after k.LeftBracket refl (after k.Period (after k.Equals (before k.RightBracket time))) _ _
    (is k.Period) never
    (words.good_after k.Period refl (after k.Equals (before k.RightBracket time)) _ _ (is k.Equals) never
    (words.good_after k.Equals refl (before k.RightBracket time) _ _ (is k.Number) never
    (words.good_before_word k.RightBracket refl time N.time N.time (is k.Number) never (never_apart
    (is k.RightBracket)) good_time)))

abbrev pub acts_text : Text ExprTree → Text (List Act)
acts_text E = W.after k.LeftBrace (W.all_before k.RightBrace (A.act E))

good_acts : (e : Parser ExprTree) (E E' : Text ExprTree) → Good e E E' begins_expr goes_on →
    Good (R.acts_of_mode e) (acts_text E) (acts_text E') (is k.LeftBrace) never
unfolding R.acts_of_mode begins_act
good_acts e E E' x =
    words.good_after k.LeftBrace refl (all_before begins_act k.RightBrace (R.act e)) _ _ (any begins_act
    (is k.RightBrace)) never
    (words.good_all_before k.RightBrace refl (R.act e) (A.act E) (A.act E') begins_act never
    (never_apart begins_act) (apart _ _ (λ w. refl) (λ w. refl) refl) (good_act e E E' x))

-- a mode, over expressions
pub good_mode : (start : Bool) (e : Parser ExprTree) (E E' : Text ExprTree) → Good e E E' begins_expr goes_on →
    Good (R.mode start e) (A.mode start E) (A.mode start E') (is k.Mode) never
unfolding R.mode
good_mode start e E E' x =
    good_made (A.mode_of start) (after k.Mode (both id (both R.period (R.acts_of_mode e)))) _ _ (is k.Mode) never
    (words.good_after k.Mode refl (both id (both R.period (R.acts_of_mode e))) _ _ (is k.Name) never
    (good_both id (both R.period (R.acts_of_mode e)) N.id N.id _ _ (is k.Name) never (is k.LeftBracket) never
    (never_apart (is k.LeftBracket)) good_id
    (good_both R.period (R.acts_of_mode e) period_text period_text (acts_text E) (acts_text E')
    (is k.LeftBracket) never (is k.LeftBrace) never (never_apart (is k.LeftBrace)) good_period
    (good_acts e E E' x))))
