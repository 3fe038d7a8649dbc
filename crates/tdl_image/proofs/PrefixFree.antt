-- No spelling of a list, a name or a kind begins another one.
use Rattle.std.proofs.Common.{◌≡◌, ℕ, ℤ, Bool, true, false, List, [], ◌∷◌, ◌++◌, length, take, drop, get_or, refl, sym, ap, ◌∙◌, inl, inr, arith, All}
use Rattle.std.specs.List.{flat_map}
use Rattle.std.proofs.Math.Seq.{take-append_seam, drop-append_seam}
use Rattle.std.proofs.lemmas.Int.{ints}
use Rattle.tdl_base.specs.Bytes.{FitsLong, IsPrefixFree}
use Rattle.tdl_base.specs.Numbers.{IsOfKind}
use Rattle.tdl_base.specs.declared.kinds.Kind.{Kind}
use Rattle.tdl_base.specs.declared.kinds.Kind.TheVariants.{Boolean, Byte, Short, Int, Long}
use Rattle.tdl_base.proofs.PrefixFree.{short-prefix_free, word-prefix_free, items_tell}
use Rattle.tdl_image.specs.Identifiers.{IsIdentifier}
use Rattle.tdl_image.specs.Spelling.{byte, string, short_list, long_list, kind_number, kind_bytes, resource_number}
use Rattle.tdl_image.specs.Spellable.{IsShortList, IsLongList}

-- the first byte
abbrev first : List ℕ → ℕ
first bytes = get_or bytes 0 0

-- whatever it is
abbrev pub Any : {X : Type 0} → X → Type 0
Any x = Unit {0}

-- of each item nothing is asked
pub any : {X : Type 0} (xs : List X) → All Any xs
any xs k d within = tt

-- a byte
pub byte-prefix_free : IsPrefixFree Any byte
byte-prefix_free = record { tell = λ m n r s p q e. (ap first e, ap (drop 1) e) }

-- a string, by the count of its bytes
pub string-prefix_free : IsPrefixFree IsIdentifier string
string-prefix_free = record {
  tell = λ a b r s p q e.
      let len : length a ≡ length b = ap first e in
      let others : a ++ r ≡ b ++ s = ap (drop 1) e in (
        sym (take-append_seam a r) ∙ ap (take (length a)) others ∙ ap (λ n. take n (b ++ s)) len ∙ take-append_seam b s,
        sym (drop-append_seam a r) ∙ ap (drop (length a)) others ∙ ap (λ n. drop n (b ++ s)) len ∙ drop-append_seam b s,
      );
}

-- a short list
pub short_list-prefix_free : {X : Type 0} {P : X → Type 0} {item : X → List ℕ} → IsPrefixFree P item →
    IsPrefixFree (λ xs. IsShortList xs × All P xs) (short_list item)
short_list-prefix_free {item = item} free = record {
  tell = λ xs ys r s p q e.
      let count =
      short-prefix_free.tell (length xs) (length ys) (flat_map item xs ++ r) (flat_map item ys ++ s) p.0 q.0 e in
      items_tell free xs ys r s count.0 p.1 q.1 count.1;
}

-- a long list
pub long_list-prefix_free : {X : Type 0} {P : X → Type 0} {item : X → List ℕ} → IsPrefixFree P item →
    IsPrefixFree (λ xs. IsLongList xs × All P xs) (long_list item)
long_list-prefix_free {item = item} free = record {
  tell = λ xs ys r s p q e.
      let count =
      word-prefix_free.tell (length xs) (length ys) (flat_map item xs ++ r) (flat_map item ys ++ s) p.0 q.0 e in
      items_tell free xs ys r s count.0 p.1 q.1 count.1;
}

-- the kind of a byte
abbrev kind_of : ℕ → Kind
kind_of byte = get_or (Boolean ∷ Byte ∷ Short ∷ Int ∷ Long ∷ []) byte Boolean

-- is the one that the byte spells
kind_again : (kind : Kind) → kind_of (kind_number kind) ≡ kind
kind_again Boolean = refl
kind_again Byte = refl
kind_again Short = refl
kind_again Int = refl
kind_again Long = refl

-- a kind
pub kind-prefix_free : IsPrefixFree Any kind_bytes
kind-prefix_free = record {
  tell = λ j k r s p q e. (sym (kind_again j) ∙ ap (λ bytes. kind_of (first bytes)) e ∙ kind_again k, ap (drop 1) e);
}

-- a resource is the one that its number says
bus_again : (bus : Bool) → get_or (false ∷ true ∷ []) (resource_number bus) false ≡ bus
bus_again false = refl
bus_again true = refl

-- a resource
pub resource-prefix_free : IsPrefixFree Any (λ bus. byte (resource_number bus))
resource-prefix_free = record {
  tell = λ a b r s p q e. (
    sym (bus_again a) ∙ ap (λ bytes. get_or (false ∷ true ∷ []) (first bytes) false) e
        ∙ bus_again b,
    ap (drop 1) e,
  );
}

-- a number of a kind fits eight bytes
pub of_kind_fits : (kind : Kind) (v : ℤ) → IsOfKind kind v → FitsLong v
of_kind_fits Boolean v (inl zero) = rw zero (omega (arith, ints), omega (arith, ints))
of_kind_fits Boolean v (inr one) = rw one (omega (arith, ints), omega (arith, ints))
of_kind_fits Byte v fits = (omega (arith, ints, fits.0), omega (arith, ints, fits.1))
of_kind_fits Short v fits = (omega (arith, ints, fits.0), omega (arith, ints, fits.1))
of_kind_fits Int v fits = (omega (arith, ints, fits.0), omega (arith, ints, fits.1))
of_kind_fits Long v fits = fits
