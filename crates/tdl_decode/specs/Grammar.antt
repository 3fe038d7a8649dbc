-- Grammars of bytes: what they spell, and where bytes break them first.
use Rattle.std.specs.Prelude.{◌≡◌, ℕ, zero, suc, ℤ, ◌<◌, ◌≤◌, ◌⊎◌, List, [], ◌∷◌, ◌++◌, length, take, map, All}
use Rattle.std.specs.Int.{Width, byte_len, from_be_bytes, to_be_bytes, cast_signed, w8, w16, w32, w64}
use Rattle.std.specs.List.Sorted.{IsStrictlyIncreasing}
use Rattle.tdl_base.specs.Bytes.{long}
use Rattle.tdl_base.specs.Numbers.{IsOfKind}
use Rattle.tdl_base.specs.declared.kinds.Kind.{Kind}
use Rattle.tdl_image.specs.Identifiers.{IsIdentifier}
use Rattle.tdl_image.specs.Spelling.{byte, string, short_list, long_list}
use Rattle.tdl_image.specs.Spellable.{IsShortList, IsLongList}

-- bytes first break a rule, at a place that has so many bytes left from it on
abbrev pub Breaks : Type 1
Breaks = List ℕ → ℕ → ℕ → Type 0

-- a grammar: how each thing is spelled that can be, and where bytes first break it
pub record Grammar (X : Type 0) : Type 1 where
  pub spelling : X → List ℕ
  pub spellable : X → Type 0
  pub breaks : Breaks

-- the thing stands whole and lawful at the front of the bytes, before the rest
pub record Reads {X : Type 0} (grammar : Grammar X) (x : X) (bytes rest : List ℕ) : Type 0 where
  pub lawful : grammar.spellable x
  pub front : bytes ≡ grammar.spelling x ++ rest

-- ---- fields

-- a field: rule 2 at the end of bytes that end within it, or the rule given at its first byte where it is whole but wrong
abbrev pub field : ℕ → (List ℕ → Type 0) → (List ℕ → Type 0) → Breaks
field given IsCut IsWrong bytes rule left =
    (IsCut bytes × (rule ≡ 2) × (left ≡ 0)) ⊎ (IsWrong bytes × (rule ≡ given) × (left ≡ length bytes))

-- the bytes end within a field of the width
abbrev pub IsCutNumber : Width → List ℕ → Type 0
IsCutNumber w bytes = length bytes < byte_len w

-- they begin with a whole number that is below the least or above the most
abbrev pub IsWrongNumber : Width → ℕ → ℕ → List ℕ → Type 0
IsWrongNumber w least most bytes =
    (byte_len w ≤ length bytes) × ((from_be_bytes w bytes < least) ⊎ (most < from_be_bytes w bytes))

-- a number of the width, from the least to the most
abbrev pub number : Width → ℕ → ℕ → ℕ → Grammar ℕ
number w given least most = record {
  spelling = to_be_bytes w;
  spellable = λ n. (least ≤ n) × (n ≤ most);
  breaks = field given (IsCutNumber w) (IsWrongNumber w least most);
}

-- a number of one byte, of two and of four
abbrev pub byte_from_to : ℕ → ℕ → Grammar ℕ
byte_from_to least most = record {
  spelling = byte;
  spellable = λ n. (least ≤ n) × (n ≤ most);
  breaks = field 4 (IsCutNumber w8) (IsWrongNumber w8 least most);
}

abbrev pub short_from_to : ℕ → ℕ → Grammar ℕ
short_from_to least most = number w16 4 least most

abbrev pub word_from_to : ℕ → ℕ → Grammar ℕ
word_from_to least most = number w32 4 least most

-- any number of two bytes, and of four
abbrev pub any_short : Grammar ℕ
any_short = short_from_to 0 65535

abbrev pub any_word : Grammar ℕ
any_word = word_from_to 0 4294967295

-- the bytes begin with eight that are no number of the kind
abbrev pub IsWrongLong : Kind → List ℕ → Type 0
IsWrongLong kind bytes =
    (byte_len w64 ≤ length bytes) × ¬ (IsOfKind kind (cast_signed w64 (from_be_bytes w64 bytes)))

-- a signed number of eight bytes, of the kind
abbrev pub long_of : Kind → Grammar ℤ
long_of kind = record {
  spelling = long;
  spellable = IsOfKind kind;
  breaks = field 4 (IsCutNumber w64) (IsWrongLong kind);
}

-- the bytes end within a string
abbrev pub IsCutString : List ℕ → Type 0
IsCutString [] = Unit {0}
IsCutString (count ∷ bytes) = length bytes < count

-- they begin with a whole string that is no identifier
abbrev pub IsWrongString : List ℕ → Type 0
IsWrongString [] = ⊥
IsWrongString (count ∷ bytes) = (count ≤ length bytes) × ¬ (IsIdentifier (take count bytes))

-- a string that is an identifier
abbrev pub identifier : Grammar (List ℕ)
identifier = record { spelling = string; spellable = IsIdentifier; breaks = field 4 IsCutString IsWrongString }

-- ---- one after another

-- nothing that could be broken
abbrev pub nothing : Breaks
nothing bytes rule left = ⊥

-- one thing and what comes after it, which may depend on the thing: the first is broken, or it is read and the second is broken behind it
infixr 4 ◌▷=◌
abbrev pub ◌▷=◌ : {X : Type 0} → Grammar X → (X → Breaks) → Breaks
(first ▷= second) bytes rule left =
    first.breaks bytes rule left
    ⊎ ((x : _) × (rest : List ℕ) × Reads first x bytes rest × second x rest rule left)

-- the same where what comes after does not depend on it
infixr 4 ◌▷◌
abbrev pub ◌▷◌ : {X : Type 0} → Grammar X → Breaks → Breaks
first ▷ second = first ▷= (λ x. second)

-- ---- lists

-- so many items, each after the one before
abbrev pub items : {X : Type 0} → Grammar X → ℕ → Breaks
items item zero = nothing
items item (suc n) = item ▷ items item n

-- a list with a count of two bytes
abbrev pub listed : {X : Type 0} → Grammar X → Grammar (List X)
listed item = record {
  spelling = short_list item.spelling;
  spellable = λ xs. IsShortList xs × All item.spellable xs;
  breaks = any_short ▷= items item;
}

-- a list with a count of four bytes
abbrev pub long_listed : {X : Type 0} → Grammar X → Grammar (List X)
long_listed item = record {
  spelling = long_list item.spelling;
  spellable = λ xs. IsLongList xs × All item.spellable xs;
  breaks = any_word ▷= items item;
}

-- so many items, the number of the first at least so much, and of each further one above that of the one before
abbrev pub ascending_items : {X : Type 0} → (ℕ → Grammar X) → (X → ℕ) → ℕ → ℕ → Breaks
ascending_items item number_of least zero = nothing
ascending_items item number_of least (suc n) =
    item least ▷= (λ x. ascending_items item number_of (suc (number_of x)) n)

-- a list with a count of two bytes whose items have ascending numbers; an item may be asked for with a least number
abbrev pub ascending : {X : Type 0} → (ℕ → Grammar X) → (X → ℕ) → Grammar (List X)
ascending item number_of = record {
  spelling = short_list ((item 0).spelling);
  spellable = λ xs. IsShortList xs × All ((item 0).spellable) xs × IsStrictlyIncreasing (map number_of xs);
  breaks = any_short ▷= ascending_items item number_of 0;
}
