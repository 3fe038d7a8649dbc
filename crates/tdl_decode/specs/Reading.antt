-- What reading gives at the front of bytes: fields and lists.
use Rattle.std.specs.Prelude.{◌≡◌, ℕ, zero, suc, ℤ, Bool, ◌&&◌, nat_lt, nat_le, if◌then◌else◌, List, [], ◌∷◌, length, take, drop, Result, Ok, Err}
use Rattle.std.specs.Int.{Width, byte_len, from_be_bytes, cast_signed, w8, w16, w32, w64}
use Rattle.std.specs.Ordering.{int_eq}
use Rattle.tdl_base.specs.Numbers.{narrowed}
use Rattle.tdl_base.specs.declared.kinds.Kind.{Kind}
use Rattle.tdl_base.specs.Letters.{is_word}
use Rattle.tdl_base.specs.declared.limits.TheConstants.{IDENTIFIER_BYTES}
use Rattle.tdl_decode.specs.declared.flaw.Flaw.{Flaw}
use Rattle.tdl_decode.specs.declared.flaw.Flaw.TheVariants.{NoMemory, Broken}

-- a thing and the bytes after it; or the rule that is broken, and how many bytes are left where it is
abbrev pub Read : Type 0 → Type 0
Read X = Result (X × List ℕ) (ℕ × ℕ)

-- what a function gave in place of a thing is what reading gives, or memory was wanting
abbrev pub Fails : {Y : Type 0} → Flaw → Result Y (ℕ × ℕ) → Type 0
Fails NoMemory read = Unit {0}
Fails (Broken rule left) read = read ≡ Err (rule, left)

-- what a function gave, seen by the view, is what reading gives, or memory was wanting
abbrev pub Gives : {X Y : Type 0} → (X → Y) → Result X Flaw → Result Y (ℕ × ℕ) → Type 0
Gives view (Ok x) read = read ≡ Ok (view x)
Gives view (Err flaw) read = Fails flaw read

-- one thing, and what is read after it
infixr 2 ◌>>=◌
abbrev pub ◌>>=◌ : {A B : Type 0} → Read A → (A → List ℕ → Result B (ℕ × ℕ)) → Result B (ℕ × ℕ)
(Ok read) >>= next = next read.0 read.1
(Err flaw) >>= next = Err flaw

-- ---- fields

-- a number of the width, from the least to the most
unfoldable pub number_in : Width → ℕ → ℕ → ℕ → List ℕ → Read ℕ
number_in w given least most bytes =
    if nat_lt (length bytes) (byte_len w) then Err (2, 0)
    else if nat_le least (from_be_bytes w bytes) && nat_le (from_be_bytes w bytes) most
    then Ok (from_be_bytes w bytes, drop (byte_len w) bytes)
    else Err (given, length bytes)

-- a number of one byte, of two and of four
abbrev pub byte_in : ℕ → ℕ → List ℕ → Read ℕ
byte_in least most = number_in w8 4 least most

abbrev pub short_in : ℕ → ℕ → List ℕ → Read ℕ
short_in least most = number_in w16 4 least most

abbrev pub word_in : ℕ → ℕ → List ℕ → Read ℕ
word_in least most = number_in w32 4 least most

-- any number of two bytes, and of four
abbrev pub any_short_in : List ℕ → Read ℕ
any_short_in = short_in 0 65535

abbrev pub any_word_in : List ℕ → Read ℕ
any_word_in = word_in 0 4294967295

-- whether the number is of the kind
abbrev pub is_of_kind : Kind → ℤ → Bool
is_of_kind kind v = int_eq (narrowed kind v) v

-- a signed number of eight bytes, of the kind
unfoldable pub long_in : Kind → List ℕ → Read ℤ
long_in kind bytes =
    if nat_lt (length bytes) (byte_len w64) then Err (2, 0)
    else if is_of_kind kind (cast_signed w64 (from_be_bytes w64 bytes))
    then Ok (cast_signed w64 (from_be_bytes w64 bytes), drop (byte_len w64) bytes)
    else Err (4, length bytes)

-- whether the bytes are an identifier
abbrev pub is_identifier : List ℕ → Bool
is_identifier name = is_word name && nat_le (length name) IDENTIFIER_BYTES

-- a string that is an identifier
unfoldable pub string_in : List ℕ → Read (List ℕ)
string_in [] = Err (2, 0)
string_in (count ∷ bytes) =
    if nat_lt (length bytes) count then Err (2, 0)
    else if is_identifier (take count bytes) then Ok (take count bytes, drop count bytes)
    else Err (4, suc (length bytes))

-- ---- lists

-- so many items, each read so
unfoldable pub items_in : {X : Type 0} → (List ℕ → Read X) → ℕ → List ℕ → Read (List X)
items_in item zero bytes = Ok ([], bytes)
items_in item (suc n) bytes =
    item bytes >>= λ x bytes.
    items_in item n bytes >>= λ xs bytes.
    Ok (x ∷ xs, bytes)

-- a list with a count of two bytes
abbrev pub listed_in : {X : Type 0} → (List ℕ → Read X) → List ℕ → Read (List X)
listed_in item bytes = any_short_in bytes >>= items_in item

-- a list with a count of four bytes
abbrev pub long_listed_in : {X : Type 0} → (List ℕ → Read X) → List ℕ → Read (List X)
long_listed_in item bytes = any_word_in bytes >>= items_in item

-- so many items with ascending numbers, the first at least so much
unfoldable pub ascending_items_in : {X : Type 0} → (ℕ → List ℕ → Read X) → (X → ℕ) → ℕ → ℕ → List ℕ → Read (List X)
ascending_items_in item number_of least zero bytes = Ok ([], bytes)
ascending_items_in item number_of least (suc n) bytes =
    item least bytes >>= λ x bytes.
    ascending_items_in item number_of (suc (number_of x)) n bytes >>= λ xs bytes.
    Ok (x ∷ xs, bytes)

-- a list with a count of two bytes whose items have ascending numbers
abbrev pub ascending_in : {X : Type 0} → (ℕ → List ℕ → Read X) → (X → ℕ) → List ℕ → Read (List X)
ascending_in item number_of bytes = any_short_in bytes >>= ascending_items_in item number_of 0
