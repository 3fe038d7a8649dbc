-- Names, numbers, times, literals and kinds that end too early go on by words that are not written.
use Rattle.std.proofs.Common.{◌≡◌, ℕ, Bool, true, false, List, refl}
use Rattle.tdl_base.specs.declared.kinds.Kind.TheVariants as kinds
use Rattle.tdl_grammar.specs.Grammar as G
use Rattle.tdl_grammar.specs.Parsing.{one}
use Rattle.tdl_grammar.proofs.Ending.{Ends, ends_one, ends_both, ends_made, ends_either}
use Rattle.tdl_grammar.proofs.EndingMany.{ends_many}
use Rattle.tdl_tree.specs.declared.words.Word.{Word}
use Rattle.tdl_tree.specs.declared.words.WordKind.{WordKind}
use Rattle.tdl_tree.specs.declared.words.WordKind.TheVariants as k
use Rattle.tdl_tree.specs.declared.names.Unit.{Unit}
use Rattle.tdl_tree.specs.declared.names.Unit.TheVariants as units
use Rattle.tdl_tree.specs.Kinds.{is}
use Rattle.tdl_tree.specs.Words as W
use Rattle.tdl_tree.specs.Words.{Text, first, is_named}
use Rattle.tdl_tree.specs.Names as N
use Rattle.tdl_tree.specs.Faults.{is_written}
use Rattle.tdl_parse.specs.Reading as R
use Rattle.tdl_parse.specs.Reading.{Parser}
use Rattle.tdl_parse.proofs.WordTests.{word_of}
use Rattle.tdl_parse.proofs.GoodNames.{name_word, us, ms, s, unit_text}

-- where what p reads ends too early, it goes on by words that are not written
abbrev pub EndsWell : {A : Type 0} → Parser A → Text A → Type 0
EndsWell p L = Ends is_written p L

-- a word of a kind
pub ends_word : (kind : WordKind) → is kind (word_of kind) ≡ true → EndsWell (one (is kind)) (G.one (is kind))
ends_word kind e = ends_one (is kind) (word_of kind) e refl

-- a word of a kind that stands for a
pub ends_says : {A : Type 0} (kind : WordKind) → is kind (word_of kind) ≡ true → (a : A) →
    EndsWell (R.says kind a) (W.says kind a)
ends_says kind e a = ends_made (λ _. a) (ends_word kind e)

-- a word, then p
pub ends_after : {A : Type 0} (kind : WordKind) → is kind (word_of kind) ≡ true → {p : Parser A} {L : Text A} →
    EndsWell p L → EndsWell (R.after kind p) (W.after kind L)
ends_after {A} kind e {p} {L} x = ends_made G.second (ends_both (ends_word kind e) x)

-- p, then a word
pub ends_before : {A : Type 0} (kind : WordKind) → is kind (word_of kind) ≡ true → {p : Parser A} {L : Text A} →
    EndsWell p L → EndsWell (R.before kind p) (W.before kind L)
ends_before {A} kind e {p} {L} x = ends_made first (ends_both x (ends_word kind e))

-- any number of p, then a word
pub ends_all_before : {A : Type 0} (starts : Word → Bool) (kind : WordKind) → is kind (word_of kind) ≡ true →
    {p : Parser A} {L : Text A} → EndsWell p L → EndsWell (R.all_before starts kind p) (W.all_before kind L)
ends_all_before {A} starts kind e {p} {L} x = ends_made first (ends_both (ends_many x) (ends_word kind e))

pub ends_id : EndsWell R.id N.id
unfolding R.id
ends_id = ends_made N.id_of (ends_word k.Name refl)

pub ends_number : EndsWell R.number N.number
unfolding R.number
ends_number = ends_made N.num_of (ends_word k.Number refl)

ends_unit_name : (text : List ℕ) (a : Unit) → is_named text (name_word text) ≡ true →
    EndsWell (R.unit_name text a) (N.unit_name text a)
ends_unit_name text a e = ends_made (λ _. a) (ends_one (is_named text) (name_word text) e refl)

ends_unit : EndsWell R.unit unit_text
unfolding R.unit
ends_unit = ends_either (ends_unit_name us units.Us refl) (ends_either (ends_unit_name ms units.Ms refl)
    (ends_unit_name s units.S refl))

pub ends_time : EndsWell R.time N.time
unfolding R.time
ends_time = ends_made N.time_of (ends_both ends_number ends_unit)

pub ends_literal : EndsWell R.literal N.literal
unfolding R.literal
ends_literal =
    ends_either (ends_made N.minus_of (ends_both (ends_word k.Minus refl) ends_number))
    (ends_either (ends_made N.plain_of ends_number)
    (ends_either (ends_made (N.truth_of true) (ends_word k.True refl)) (ends_made (N.truth_of false)
    (ends_word k.False refl))))

pub ends_kind : EndsWell R.kind N.kind
unfolding R.kind
ends_kind =
    ends_either (ends_says k.Boolean refl kinds.Boolean)
    (ends_either (ends_says k.Byte refl kinds.Byte)
    (ends_either (ends_says k.Short refl kinds.Short)
    (ends_either (ends_says k.Int refl kinds.Int) (ends_says k.Long refl kinds.Long))))
