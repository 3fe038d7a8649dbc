-- Names, numbers, times, literals and kinds are read well.
use Rattle.std.proofs.Common.{◌≡◌, ℕ, Bool, true, false, cond, ◌&&◌, List, codes, bytes_eq, refl, sym, subst}
use Rattle.std.proofs.lemmas.Slice.Eq.{bytes_eq-Decides}
use Rattle.tdl_grammar.specs.Grammar as G
use Rattle.tdl_grammar.specs.Parsing.{one, both}
use Rattle.tdl_grammar.specs.Goodness.{Good, Apart, Within, never, any}
use Rattle.tdl_grammar.proofs.Goods.{good_one, good_both, good_made, good_either, good_widen}
use Rattle.tdl_tree.specs.declared.words.Word.{Word}
use Rattle.tdl_tree.specs.declared.words.WordKind.TheVariants as k
use Rattle.tdl_tree.specs.declared.names.Unit.{Unit}
use Rattle.tdl_tree.specs.declared.names.Unit.TheVariants as units
use Rattle.tdl_base.specs.declared.kinds.Kind.TheVariants as kinds
use Rattle.tdl_tree.specs.Kinds.{is}
use Rattle.tdl_tree.specs.Words.{is_named}
use Rattle.tdl_tree.specs.Names as N
use Rattle.tdl_parse.specs.Reading as R
use Rattle.tdl_parse.proofs.WordTests.{apart, within}
use Rattle.tdl_parse.proofs.GoodWords.{never_apart, good_word, good_says}

pub good_id : Good R.id N.id N.id (is k.Name) never
unfolding R.id
good_id = good_made N.id_of (one (is k.Name)) _ _ (is k.Name) never (good_word k.Name refl)

pub good_number : Good R.number N.number N.number (is k.Number) never
unfolding R.number
good_number = good_made N.num_of (one (is k.Number)) _ _ (is k.Number) never (good_word k.Number refl)

-- ---- units

both_hold : (b c : Bool) → b && c ≡ true → (b ≡ true) × (c ≡ true)
both_hold true true e = (refl, refl)
both_hold true false e = absurd (cc e)
both_hold false c e = absurd (cc e)

no_second : (b c : Bool) → c ≡ false → b && c ≡ false
no_second true c e = e
no_second false c e = refl

-- one text, one name
named_apart : (text other : List ℕ) → bytes_eq other text ≡ false → Apart (is_named text) (is_named other)
named_apart text other differ word e =
    let same : word.text ≡ other = (bytes_eq-Decides word.text other).0 (both_hold (is k.Name word)
    (bytes_eq word.text other) e).1 in
    no_second (is k.Name word) (bytes_eq word.text text) (subst (λ (z : List ℕ). bytes_eq z text ≡ false)
    (sym same) differ)

apart_any : (g s s' : Word → Bool) → Apart g s → Apart g s' → Apart g (any s s')
apart_any g s s' x y word e = either_apart (s word) (s' word) (g word) (x word) (y word) e
  where
    either_apart : (b c d : Bool) → (b ≡ true → d ≡ false) → (c ≡ true → d ≡ false) → cond b true c ≡ true → d ≡ false
    either_apart true c d x y e = x refl
    either_apart false c d x y e = y e

named_within : (text : List ℕ) → Within (is_named text) (is k.Name)
named_within text word e = (both_hold (is k.Name word) (bytes_eq word.text text) e).0

abbrev pub name_word : List ℕ → Word
name_word text = record { kind = k.Name; text = text; line = 0; col = 0 }

good_unit_name : (text : List ℕ) (a : Unit) → is_named text (name_word text) ≡ true → Good (R.unit_name text a)
    (N.unit_name text a) (N.unit_name text a) (is_named text) never
good_unit_name text a e = good_made (λ _. a) (one (is_named text)) _ _ (is_named text) never (good_one
    (is_named text) (name_word text) e)

abbrev pub us : List ℕ
us = codes "us"

abbrev pub ms : List ℕ
ms = codes "ms"

abbrev pub s : List ℕ
s = codes "s"

units_within : Within (any (is_named us) (any (is_named ms) (is_named s))) (is k.Name)
units_within word e = among (is_named us word) (is_named ms word) (is_named s word) (is k.Name word)
    (named_within us word) (named_within ms word) (named_within s word) e
  where
    among : (a b c d : Bool) → (a ≡ true → d ≡ true) → (b ≡ true → d ≡ true) → (c ≡ true → d ≡ true) →
        cond a true (cond b true c) ≡ true → d ≡ true
    among true b c d x y z e = x refl
    among false true c d x y z e = y refl
    among false false c d x y z e = z e

abbrev pub unit_text : G.Lang Word Unit
unit_text = G.either (N.unit_name us units.Us) (G.either (N.unit_name ms units.Ms) (N.unit_name s units.S))

pub good_unit : Good R.unit unit_text unit_text (is k.Name) never
unfolding R.unit
good_unit =
    good_widen _ _ _ (any (is_named us) (any (is_named ms) (is_named s))) (any never (any never never))
    (is k.Name) never units_within (within _ _ (λ w. refl) (λ w. refl) refl)
    (good_either (R.unit_name us units.Us) _ _ _ _ _ (is_named us) never (any (is_named ms) (is_named s))
    (any never never)
    (apart_any (is_named us) (is_named ms) (is_named s) (named_apart us ms refl) (named_apart us s refl))
    (good_unit_name us units.Us refl)
    (good_either (R.unit_name ms units.Ms) (R.unit_name s units.S) _ _ _ _ (is_named ms) never (is_named s) never
    (named_apart ms s refl)
    (good_unit_name ms units.Ms refl) (good_unit_name s units.S refl)))

pub good_time : Good R.time N.time N.time (is k.Number) never
unfolding R.time
good_time =
    good_made N.time_of (both R.number R.unit) _ _ (is k.Number) never
    (good_both R.number R.unit N.number N.number unit_text unit_text (is k.Number) never (is k.Name) never
    (never_apart (is k.Name)) good_number good_unit)

-- ---- literals and kinds

-- what begins a literal
abbrev pub begins_literal : Word → Bool
begins_literal = any (is k.Minus) (any (is k.Number) (any (is k.True) (is k.False)))

pub good_literal : Good R.literal N.literal N.literal begins_literal never
unfolding R.literal
good_literal =
    good_widen _ _ _ begins_literal (any never (any never (any never never))) begins_literal never (λ w e. e)
    (within _ _ (λ w. refl) (λ w. refl) refl)
    (good_either _ _ _ _ _ _ (is k.Minus) never _ _ (apart _ _ (λ w. refl) (λ w. refl) refl)
    (good_made N.minus_of (both (one (is k.Minus)) R.number) _ _ (is k.Minus) never
    (good_both (one (is k.Minus)) R.number (G.one (is k.Minus)) (G.one (is k.Minus)) N.number N.number
    (is k.Minus) never (is k.Number) never (never_apart (is k.Number)) (good_word k.Minus refl) good_number))
    (good_either _ _ _ _ _ _ (is k.Number) never _ _ (apart _ _ (λ w. refl) (λ w. refl) refl)
    (good_made N.plain_of R.number _ _ (is k.Number) never good_number)
    (good_either _ _ _ _ _ _ (is k.True) never (is k.False) never (apart _ _ (λ w. refl) (λ w. refl) refl)
    (good_made (N.truth_of true) (one (is k.True)) _ _ (is k.True) never (good_word k.True refl))
    (good_made (N.truth_of false) (one (is k.False)) _ _ (is k.False) never (good_word k.False refl)))))

-- what begins a kind
abbrev pub begins_kind : Word → Bool
begins_kind = any (is k.Boolean) (any (is k.Byte) (any (is k.Short) (any (is k.Int) (is k.Long))))

pub good_kind : Good R.kind N.kind N.kind begins_kind never
unfolding R.kind
good_kind =
    good_widen _ _ _ begins_kind (any never (any never (any never (any never never)))) begins_kind never (λ w e. e)
    (within _ _ (λ w. refl) (λ w. refl) refl)
    (good_either _ _ _ _ _ _ (is k.Boolean) never _ _ (apart _ _ (λ w. refl) (λ w. refl) refl)
    (good_says k.Boolean refl kinds.Boolean)
    (good_either _ _ _ _ _ _ (is k.Byte) never _ _ (apart _ _ (λ w. refl) (λ w. refl) refl)
    (good_says k.Byte refl kinds.Byte)
    (good_either _ _ _ _ _ _ (is k.Short) never _ _ (apart _ _ (λ w. refl) (λ w. refl) refl)
    (good_says k.Short refl kinds.Short)
    (good_either _ _ _ _ _ _ (is k.Int) never (is k.Long) never (apart _ _ (λ w. refl) (λ w. refl) refl)
    (good_says k.Int refl kinds.Int) (good_says k.Long refl kinds.Long)))))
