-- Signed numbers, strings and the four letters are read exactly.
use Rattle.std.proofs.Common.{◌≡◌, ℕ, suc, ℤ, pos, negsuc, ◌^◌, ◌<◌, ◌≤◌, true, false, nat_lt, bytes_eq, List, [], ◌∷◌, ◌++◌, length, take, drop, codes, Ok, inl, inr, refl, sym, ap, subst, ◌∙◌, arith, rules, FitsSigned}
use Rattle.std.specs.Prelude.{IfOk}
use Rattle.std.specs.Int.{w8, w16, w32, w64, from_be_bytes, to_be_bytes, cast_signed, cast_unsigned}
use Rattle.std.proofs.lemmas.Bool.{cases_lt, false≢true, false_from_ne_true}
use Rattle.std.proofs.lemmas.Bool.Decides.{Decides-int_eq}
use Rattle.std.proofs.lemmas.Int.{ints, to_z-of_z, of_z-to_z, int_wrap_fits}
use Rattle.std.proofs.lemmas.List.{length-append, take-append-drop, length-take, get_or-take, get_or_past}
use Rattle.std.proofs.lemmas.Nat.{be_bytes_8, from_be_bytes-to_be_bytes_8}
use Rattle.std.proofs.lemmas.Slice.Eq.{bytes_eq-Decides}
use Rattle.std.proofs.Math.Seq.{take-append_seam, drop-append_seam}
use Rattle.tdl_base.specs.Bytes.{long, FitsLong}
use Rattle.tdl_base.specs.Numbers.{narrowed, IsOfKind}
use Rattle.tdl_base.specs.declared.kinds.Kind.{Kind}
use Rattle.tdl_base.specs.declared.kinds.Kind.TheVariants.{Boolean, Byte, Short, Int, Long}
use Rattle.tdl_base.proofs.NumbersInBytes.{AreBytes, enough}
use Rattle.tdl_base.proofs.NumberLaws.{narrowed_of_kind}
use Rattle.tdl_image.specs.Identifiers.{IsIdentifier}
use Rattle.tdl_image.specs.Spelling.{string}
use Rattle.tdl_image.proofs.PrefixFree.{of_kind_fits}
use Rattle.tdl_decode.specs.Grammar.{Reads, field, IsCutNumber, IsWrongLong, long_of, IsCutString, IsWrongString, identifier}
use Rattle.tdl_decode.specs.BundleGrammar.{magic, IsWrongMagic}
use Rattle.tdl_decode.specs.Reading.{is_of_kind, long_in, string_in}
use Rattle.tdl_decode.specs.BundleReading.{magic_in}
use Rattle.tdl_decode.proofs.Exact.{Exact, Faults, field_faults}
use Rattle.tdl_decode.proofs.Identifiers.{identifier_is, identifier_from}
use Rattle.tdl_decode.proofs.NumberFields.{field_sound, too_few, is_fewer, is_enough}

-- a number of the kind is its own narrowed number
kept : (kind : Kind) (v : ℤ) → IsOfKind kind v → narrowed kind v ≡ v
kept Boolean v (inl none) = subst (λ v. narrowed Boolean v ≡ v) (sym none) refl
kept Boolean v (inr one) = subst (λ v. narrowed Boolean v ≡ v) (sym one) refl
kept Byte v of_kind = let fits : FitsSigned w8 v = search rules in int_wrap_fits w8 v fits
kept Short v of_kind = let fits : FitsSigned w16 v = search rules in int_wrap_fits w16 v fits
kept Int v of_kind = let fits : FitsSigned w32 v = search rules in int_wrap_fits w32 v fits
kept Long v of_kind = let fits : FitsSigned w64 v = search rules in int_wrap_fits w64 v fits

-- a number of the kind is its own narrowed number
kind_from : (kind : Kind) (v : ℤ) → is_of_kind kind v ≡ true → IsOfKind kind v
kind_from kind v e = subst (IsOfKind kind) ((Decides-int_eq (narrowed kind v) v).0 e) (narrowed_of_kind kind v)

kind_is : (kind : Kind) (v : ℤ) → IsOfKind kind v → is_of_kind kind v ≡ true
kind_is kind v of_kind = (Decides-int_eq (narrowed kind v) v).1 (kept kind v of_kind)

-- where the test fails the number is none of the kind
no_kind : (kind : Kind) (v : ℤ) → is_of_kind kind v ≡ false → ¬ (IsOfKind kind v)
no_kind kind v e of_kind = false≢true (sym e ∙ kind_is kind v of_kind)

kind_fails : (kind : Kind) (v : ℤ) → ¬ (IsOfKind kind v) → is_of_kind kind v ≡ false
kind_fails kind v none = false_from_ne_true (is_of_kind kind v) (λ e. none (kind_from kind v e))

-- a signed number is read again from its bits
signed_again : (v : ℤ) → FitsLong v → cast_signed w64 (cast_unsigned w64 v) ≡ v
signed_again (pos n) fits = to_z-of_z w64 (pos n) (record { sfits = omega (arith, ints, fits.0, fits.1) })
signed_again (negsuc n) fits = to_z-of_z w64 (negsuc n) (record { sfits = omega (arith, ints, fits.0, fits.1) })

-- the bits of a signed number
bits_fit : (v : ℤ) → FitsLong v → cast_unsigned w64 v < 2 ^ 64
bits_fit (pos n) fits = omega (arith, ints, fits.0, fits.1)
bits_fit (negsuc n) fits = omega (arith, ints, fits.0, fits.1)

-- eight bytes are those of their number
eight_back : (bytes : List ℕ) → length bytes ≡ 8 → AreBytes bytes →
    to_be_bytes w64 (cast_unsigned w64 (cast_signed w64 (from_be_bytes w64 bytes))) ≡ bytes
eight_back bytes len small =
    let fits : from_be_bytes w64 bytes < 2 ^ 64 =
    omega (arith, small 0, small 1, small 2, small 3, small 4, small 5, small 6, small 7) in
    be_bytes_8 bytes _ len small (of_z-to_z w64 (from_be_bytes w64 bytes) fits)

-- the first bytes are bytes
first_small : (n : ℕ) (bytes : List ℕ) → AreBytes bytes → AreBytes (take n bytes)
first_small n bytes small k =
    elim (cases_lt k n) [
      | inl lt ↦ rw (get_or-take n bytes k 0 lt) (small k)
      | inr le ↦ rw (get_or_past (take n bytes) k 0 (omega (arith, length-take n bytes))) (omega arith)
    ]

-- a signed number of eight bytes is at the front
long_back : (bytes : List ℕ) → 8 ≤ length bytes → AreBytes bytes →
    bytes ≡ long (cast_signed w64 (from_be_bytes w64 bytes)) ++ drop 8 bytes
long_back [] long small = absurd (omega arith)
long_back (a ∷ []) long small = absurd (omega arith)
long_back (a ∷ b ∷ []) long small = absurd (omega arith)
long_back (a ∷ b ∷ c ∷ []) long small = absurd (omega arith)
long_back (a ∷ b ∷ c ∷ d ∷ []) long small = absurd (omega arith)
long_back (a ∷ b ∷ c ∷ d ∷ e ∷ []) long small = absurd (omega arith)
long_back (a ∷ b ∷ c ∷ d ∷ e ∷ f ∷ []) long small = absurd (omega arith)
long_back (a ∷ b ∷ c ∷ d ∷ e ∷ f ∷ g ∷ []) long small = absurd (omega arith)
long_back (a ∷ b ∷ c ∷ d ∷ e ∷ f ∷ g ∷ h ∷ more) long small =
    ap (λ s. s ++ more)
    (sym (eight_back (a ∷ b ∷ c ∷ d ∷ e ∷ f ∷ g ∷ h ∷ []) refl
    (first_small 8 (a ∷ b ∷ c ∷ d ∷ e ∷ f ∷ g ∷ h ∷ more) small)))

-- a signed number of the kind is read exactly
pub long-exact : (kind : Kind) → Exact (long_of kind) (long_in kind)
unfolding long_in
long-exact kind = record {
  sound = λ bytes small.
      field_sound (λ r. Reads (long_of kind) r.0 bytes r.1) (nat_lt (length bytes) 8) _
      (cast_signed w64 (from_be_bytes w64 bytes), drop 8 bytes) 4 (length bytes)
      (λ cut good. record {
        lawful = kind_from kind (cast_signed w64 (from_be_bytes w64 bytes)) good;
        front = long_back bytes (is_enough _ _ cut) small;
      });
  again = again;
  faults = λ bytes small.
      field_faults 4 (IsCutNumber w64) (IsWrongLong kind) bytes (nat_lt (length bytes) 8) _ _
      (λ e. is_fewer _ _ e)
      (λ cut bad. (is_enough _ _ cut, no_kind kind (cast_signed w64 (from_be_bytes w64 bytes)) bad))
      (λ cut. too_few _ _ cut)
      (λ wrong. (enough _ _ wrong.0, kind_fails kind (cast_signed w64 (from_be_bytes w64 bytes)) wrong.1));
}
  where
    again : (v : ℤ) (rest : List ℕ) → IsOfKind kind v → long_in kind (long v ++ rest) ≡ Ok (v, rest)
    again v rest of_kind =
        let fits = of_kind_fits kind v of_kind in
        let same = ap (cast_signed w64) (from_be_bytes-to_be_bytes_8 (cast_unsigned w64 v) (bits_fit v fits)) ∙ signed_again v fits in
        rw (enough (length (long v ++ rest)) 8 (omega arith), same, kind_is kind v of_kind) refl

-- a string is at the front
string_back : (count : ℕ) (bytes : List ℕ) → count ≤ length bytes →
    count ∷ bytes ≡ string (take count bytes) ++ drop count bytes
string_back count bytes long =
    let len : length (take count bytes) ≡ count = omega (arith, length-take count bytes) in
    rw len (ap (λ s. count ∷ s) (sym (take-append-drop count bytes)))

-- a string that is an identifier is read exactly
pub string-exact : Exact identifier string_in
unfolding string_in
string-exact = record { sound = sound; again = again; faults = faults }
  where
    sound : (bytes : List ℕ) → AreBytes bytes → IfOk (string_in bytes) (λ r. Reads identifier r.0 bytes r.1)
    sound [] small = tt
    sound (count ∷ bytes) small =
        field_sound (λ r. Reads identifier r.0 (count ∷ bytes) r.1) (nat_lt (length bytes) count) _
        (take count bytes, drop count bytes) 4 (suc (length bytes))
        (λ cut good. record {
          lawful = identifier_is (take count bytes) good;
          front = string_back count bytes (is_enough _ _ cut);
        })

    again : (name rest : List ℕ) → IsIdentifier name → string_in (string name ++ rest) ≡ Ok (name, rest)
    again name rest lawful =
        let long : length name ≤ length (name ++ rest) = omega (arith, length-append name rest) in
        rw (enough _ _ long, take-append_seam name rest, drop-append_seam name rest, identifier_from name lawful) refl

    faults : (bytes : List ℕ) → AreBytes bytes → Faults (field 4 IsCutString IsWrongString) bytes (string_in bytes)
    faults [] small =
        field_faults 4 IsCutString IsWrongString [] true true ([], []) (λ e. tt) (λ e f. absurd (false≢true (sym e)))
        (λ cut. refl) (λ wrong. absurd wrong)
    faults (count ∷ bytes) small =
        field_faults 4 IsCutString IsWrongString (count ∷ bytes) (nat_lt (length bytes) count) _ _
        (λ e. is_fewer _ _ e)
        (λ cut bad. (is_enough _ _ cut, λ lawful. false≢true (sym bad ∙ identifier_from (take count bytes) lawful)))
        (λ cut. too_few _ _ cut)
        (λ wrong. (enough _ _ wrong.0, false_from_ne_true _ (λ e. wrong.1 (identifier_is (take count bytes) e))))

-- the four letters are read exactly
pub magic-exact : Exact magic magic_in
unfolding magic_in
magic-exact = record {
  sound = λ bytes small.
      field_sound (λ r. Reads magic r.0 bytes r.1) (nat_lt (length bytes) 4) _ (tt, drop 4 bytes) 1 (length bytes)
      (λ cut good. record { lawful = tt; front = front bytes good });
  again = λ u rest lawful. rw (enough (length (codes "TDLB" ++ rest)) 4 (omega arith)) refl;
  faults = λ bytes small.
      field_faults 1 (λ bytes. length bytes < 4) IsWrongMagic bytes (nat_lt (length bytes) 4) _ _
      (λ e. is_fewer _ _ e)
      (λ cut bad. (is_enough _ _ cut, λ same. false≢true (sym bad ∙ (bytes_eq-Decides (take 4 bytes) (codes "TDLB")).1 same)))
      (λ cut. too_few _ _ cut)
      (λ wrong. (
        enough _ _ wrong.0,
        false_from_ne_true _ (λ e. wrong.1 ((bytes_eq-Decides (take 4 bytes) (codes "TDLB")).0 e)),
      ));
}
  where
    front : (bytes : List ℕ) → bytes_eq (take 4 bytes) (codes "TDLB") ≡ true → bytes ≡ codes "TDLB" ++ drop 4 bytes
    front bytes good =
        sym (take-append-drop 4 bytes) ∙ ap (λ s. s ++ drop 4 bytes) ((bytes_eq-Decides (take 4 bytes) (codes "TDLB")).0 good)
