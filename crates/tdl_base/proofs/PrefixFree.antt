-- Spellings that no other one begins: numbers, lists, and the parts of a thing in turn.
use Rattle.std.proofs.Common.{◌≡◌, ℕ, ℤ, pos, negsuc, ◌^◌, ◌<◌, List, [], ◌∷◌, ◌++◌, length, drop, refl, sym, ap, ◌∙◌, arith, append_assoc, All}
use Rattle.std.specs.List.{flat_map}
use Rattle.std.specs.Int.{w16, w32, w64, from_be_bytes, cast_signed, cast_unsigned}
use Rattle.std.proofs.lemmas.Nat.{from_be_bytes-to_be_bytes_2, from_be_bytes-to_be_bytes_4, from_be_bytes-to_be_bytes_8}
use Rattle.std.proofs.lemmas.Int.{to_z-of_z, ints}
use Rattle.std.proofs.lemmas.List.Elements.{All-head, All-tail}
use Rattle.tdl_base.specs.Bytes.{short, word, long, FitsShort, FitsWord, FitsLong, Tells, IsPrefixFree}

-- a number of two bytes
pub short-prefix_free : IsPrefixFree FitsShort short
short-prefix_free = record {
  tell = λ m n r s fits also e. (
    sym (from_be_bytes-to_be_bytes_2 m fits) ∙ ap (from_be_bytes w16) e ∙ from_be_bytes-to_be_bytes_2 n also,
    ap (drop 2) e,
  );
}

-- a number of four bytes
pub word-prefix_free : IsPrefixFree FitsWord word
word-prefix_free = record {
  tell = λ m n r s fits also e. (
    sym (from_be_bytes-to_be_bytes_4 m fits) ∙ ap (from_be_bytes w32) e ∙ from_be_bytes-to_be_bytes_4 n also,
    ap (drop 4) e,
  );
}

-- a signed number is read again from its bits
signed_again : (v : ℤ) → FitsLong v → cast_signed w64 (cast_unsigned w64 v) ≡ v
signed_again (pos n) fits = to_z-of_z w64 (pos n) (record { sfits = omega (arith, ints, fits.0, fits.1) })
signed_again (negsuc n) fits = to_z-of_z w64 (negsuc n) (record { sfits = omega (arith, ints, fits.0, fits.1) })

-- the bits of a signed number
bits_fit : (v : ℤ) → FitsLong v → cast_unsigned w64 v < 2 ^ 64
bits_fit (pos n) fits = omega (arith, ints, fits.0, fits.1)
bits_fit (negsuc n) fits = omega (arith, ints, fits.0, fits.1)

-- a signed number of eight bytes
pub long-prefix_free : IsPrefixFree FitsLong long
long-prefix_free = record {
  tell = λ u v r s fits also e. (
    sym (signed_again u fits) ∙ ap (cast_signed w64) (
        sym (from_be_bytes-to_be_bytes_8 (cast_unsigned w64 u) (bits_fit u fits))
        ∙ ap (from_be_bytes w64) e
        ∙ from_be_bytes-to_be_bytes_8 (cast_unsigned w64 v) (bits_fit v also)
        ) ∙ signed_again v also,
    ap (drop 8) e,
  );
}

-- one part of a thing
pub part : {X A : Type 0} {P : X → Type 0} {fits : A → Type 0} {spelling : A → List ℕ}
    (part_of : X → A) → IsPrefixFree fits spelling → ((x : X) → P x → fits (part_of x)) →
    Tells P (λ x. spelling (part_of x)) (λ x y. part_of x ≡ part_of y)
part part_of free holds = record {
  tell = λ x y r s p q e. free.tell (part_of x) (part_of y) r s (holds x p) (holds y q) e;
}

-- two spellings in turn
pub in_turn : {X : Type 0} {P : X → Type 0} {first second : X → List ℕ} {Q R : X → X → Type 0} →
    Tells P first Q → Tells P second R → Tells P (λ x. first x ++ second x) (λ x y. Q x y × R x y)
in_turn {first = first} {second = second} before after = record {
  tell = λ x y r s p q e.
      let one =
      before.tell x y (second x ++ r) (second y ++ s) p q (sym (append_assoc (first x) (second x) r) ∙ e
      ∙ append_assoc (first y) (second y) s) in
      let two = after.tell x y r s p q one.1 in
      ((one.0, two.0), two.1);
}

-- what is told may be told otherwise
pub told_as : {X : Type 0} {P : X → Type 0} {spelling : X → List ℕ} {Q R : X → X → Type 0} →
    Tells P spelling Q → ((x y : X) → Q x y → R x y) → Tells P spelling R
told_as tells as_r = record {
  tell = λ x y r s p q e. let told = tells.tell x y r s p q e in (as_r x y told.0, told.1);
}

-- as many items one after the other
pub items_tell : {X : Type 0} {P : X → Type 0} {spelling : X → List ℕ} → IsPrefixFree P spelling →
    (xs ys : List X) (r s : List ℕ) → length xs ≡ length ys → All P xs → All P ys →
    flat_map spelling xs ++ r ≡ flat_map spelling ys ++ s → (xs ≡ ys) × (r ≡ s)
items_tell free [] [] r s same p q e = (refl, e)
items_tell free [] (y ∷ ys) r s same p q e = absurd (omega (arith, same))
items_tell free (x ∷ xs) [] r s same p q e = absurd (omega (arith, same))
items_tell {P = P} {spelling = spelling} free (x ∷ xs) (y ∷ ys) r s same p q e =
    let one =
    free.tell x y (flat_map spelling xs ++ r) (flat_map spelling ys ++ s) (All-head P x xs p) (All-head P y ys q)
    (sym (append_assoc (spelling x) (flat_map spelling xs) r) ∙ e
    ∙ append_assoc (spelling y) (flat_map spelling ys) s) in
    let rest = items_tell free xs ys r s (omega (arith, same)) (All-tail P x xs p) (All-tail P y ys q) one.1 in
    (λ i. one.0 i ∷ rest.0 i, rest.1)
