-- What the lengths of words, numbers and signs cut off is the first token.
use Rattle.std.proofs.Common.{◌≡◌, ℕ, suc, ◌≤◌, ◌<◌, Bool, true, false, ◌||◌, List, [], ◌∷◌, ◌++◌, length, take, drop, get_or, nat_le, sym, refl, ap, ◌∙◌, subst, inl, inr, arith, Some, None, take-append-drop, leb-true, le-leb}
use Rattle.std.specs.List.{list_all, prefix_len}
use Rattle.std.proofs.lemmas.Bool.{and_parts, and_from, or_cases, or_left, or_right, false≢true}
use Rattle.std.proofs.lemmas.List.Sums.{prefix_len-le-length}
use Rattle.std.proofs.lemmas.List.Folds.{length-prefix_len}
use Rattle.tdl_base.specs.Letters.{is_digit, is_letter, is_name_byte, is_word}
use Rattle.tdl_scan.specs.Lexemes.{is_identifier, is_number, is_sign, is_lexeme, is_token}
use Rattle.tdl_scan.specs.Pieces.{IsFirst}
use Rattle.tdl_scan.specs.Lengths.{IsTokenLength, begins_sign}
use Rattle.tdl_scan.proofs.Lexemes.{prefix_cases, run_passes, sign_short, first_longest, longest_unique, token_lexeme, letter_no_digit, letter_name, name_no_sign, letter_lexeme, digit_lexeme, other_lexeme, run_longest}

-- no bytes are no token
pub empty_no_token : is_token [] ≡ false
unfolding is_sign
empty_no_token = refl

-- a run with its first byte is one longer
pub run_longer : (p : ℕ → Bool) (c : ℕ) (cs : List ℕ) → p c ≡ true → prefix_len p (c ∷ cs) ≡ suc (prefix_len p cs)
run_longer p c cs passes =
    elim (prefix_cases p c cs) [
      | inl more ↦ more.1
      | inr stops ↦ absurd (false≢true (sym stops.0 ∙ passes))
    ]

-- the run of identifier bytes after a letter is the first token where it is not too long
pub word_some : (bytes : List ℕ) (n : ℕ) → is_letter (get_or bytes 0 0) ≡ true → n ≡ prefix_len is_name_byte bytes →
    n ≤ 64 → IsTokenLength (Some n) bytes
word_some [] n letter e within = absurd (false≢true letter)
word_some (c ∷ cs) n letter e within =
    let k : ℕ = prefix_len is_name_byte cs in
    let run : List ℕ = c ∷ take k cs in
    let whole = run_longest is_name_byte c cs (letter_lexeme c letter) in
    let within_bytes : n ≤ length (c ∷ cs) = omega (arith, prefix_len-le-length is_name_byte (c ∷ cs)) in
    let count : n ≡ suc k = e ∙ run_longer is_name_byte c cs (letter_name c letter) in
    let long : length run ≤ 64 = omega (arith, length-prefix_len is_name_byte cs) in
    let word : is_word run ≡ true =
    and_from (is_letter c) (list_all is_name_byte (take k cs)) letter (run_passes is_name_byte cs) in
    let name : is_identifier run ≡ true =
    and_from (is_word run) (nat_le (length run) 64) word (le-leb (length run) 64 long) in
    let first : IsFirst run (drop k cs) = record {
      token = or_left (is_identifier run || is_number run) (is_sign run)
          (or_left (is_identifier run) (is_number run) name);
      longest = whole.longest;
    } in
    (within_bytes, subst (λ (m : ℕ). IsFirst (take m (c ∷ cs)) (drop m (c ∷ cs))) (sym count) first)

-- a token that begins with a letter has at most 64 bytes
letter_token : (c : ℕ) (cs : List ℕ) → is_letter c ≡ true → is_token (c ∷ cs) ≡ true → length (c ∷ cs) ≤ 64
letter_token c cs letter h =
    elim (or_cases (is_identifier (c ∷ cs) || is_number (c ∷ cs)) (is_sign (c ∷ cs)) h) [
      | inl shorter ↦ elim (or_cases (is_identifier (c ∷ cs)) (is_number (c ∷ cs)) shorter) [
        | inl name ↦ leb-true (length (c ∷ cs)) 64 (and_parts (is_word (c ∷ cs)) (nat_le (length (c ∷ cs)) 64) name).1
        | inr number ↦ absurd
            (false≢true (sym (letter_no_digit c letter) ∙ (and_parts (is_digit c) (list_all is_digit cs) number).0))
      ]
      | inr sign ↦ absurd (false≢true (sym (name_no_sign c cs (letter_name c letter)) ∙ sign))
    ]

-- where it is too long, no token is first
pub word_none : (bytes : List ℕ) → is_letter (get_or bytes 0 0) ≡ true → 64 < prefix_len is_name_byte bytes →
    IsTokenLength None bytes
word_none [] letter over = absurd (false≢true letter)
word_none (c ∷ cs) letter over = λ t rest e first.
    let k : ℕ = prefix_len is_name_byte cs in
    let run : List ℕ = c ∷ take k cs in
    let whole = run_longest is_name_byte c cs (letter_lexeme c letter) in
    let parts : t ++ rest ≡ run ++ drop k cs = sym e ∙ ap (λ (z : List ℕ). c ∷ z) (sym (take-append-drop k cs)) in
    let same : t ≡ run = (longest_unique t rest run (drop k cs) (first_longest t rest first) whole parts).0 in
    let short : length run ≤ 64 = letter_token c (take k cs) letter (ap is_token (sym same) ∙ first.token) in
    omega (arith, length-prefix_len is_name_byte cs, run_longer is_name_byte c cs (letter_name c letter))

-- the run of digits is the first token
pub number_some : (bytes : List ℕ) (n : ℕ) → is_digit (get_or bytes 0 0) ≡ true → n ≡ prefix_len is_digit bytes →
    IsTokenLength (Some n) bytes
number_some [] n digit e = absurd (false≢true digit)
number_some (c ∷ cs) n digit e =
    let k : ℕ = prefix_len is_digit cs in
    let run : List ℕ = c ∷ take k cs in
    let whole = run_longest is_digit c cs (digit_lexeme c digit) in
    let within_bytes : n ≤ length (c ∷ cs) = omega (arith, prefix_len-le-length is_digit (c ∷ cs)) in
    let count : n ≡ suc k = e ∙ run_longer is_digit c cs digit in
    let number : is_number run ≡ true =
    and_from (is_digit c) (list_all is_digit (take k cs)) digit (run_passes is_digit cs) in
    let first : IsFirst run (drop k cs) = record {
      token = or_left (is_identifier run || is_number run) (is_sign run)
          (or_right (is_identifier run) (is_number run) number);
      longest = whole.longest;
    } in
    (within_bytes, subst (λ (m : ℕ). IsFirst (take m (c ∷ cs)) (drop m (c ∷ cs))) (sym count) first)

-- the bytes begin with neither a letter nor a digit
pub record IsOther (bytes : List ℕ) : Type 0 where
  pub no_letter : is_letter (get_or bytes 0 0) ≡ false
  pub no_digit : is_digit (get_or bytes 0 0) ≡ false

-- there a lexeme is a sign
other_sign : (bytes : List ℕ) → IsOther bytes → (c : ℕ) (cs rest : List ℕ) → bytes ≡ c ∷ rest →
    is_lexeme (c ∷ cs) ≡ true → is_sign (c ∷ cs) ≡ true
other_sign bytes other c cs rest e h =
    let no_letter : is_letter c ≡ false = ap (λ (z : List ℕ). is_letter (get_or z 0 0)) (sym e) ∙ other.no_letter in
    let no_digit : is_digit c ≡ false = ap (λ (z : List ℕ). is_digit (get_or z 0 0)) (sym e) ∙ other.no_digit in
    sym (other_lexeme c no_letter no_digit cs) ∙ h

-- a sign of two bytes has no more
sign_end : (c d : ℕ) (more : List ℕ) → is_sign (c ∷ d ∷ more) ≡ true → more ≡ []
sign_end c d [] h = refl
sign_end c d (m ∷ ms) h = let short = sign_short (c ∷ d ∷ m ∷ ms) h in absurd (omega arith)

-- a sign of two bytes at the front is the first token
pub sign_two : (bytes : List ℕ) → IsOther bytes → begins_sign 2 bytes ≡ true → IsTokenLength (Some 2) bytes
sign_two [] other h = absurd (false≢true h)
sign_two (c ∷ []) other h = absurd (false≢true h)
sign_two (c ∷ d ∷ cs) other h =
    let t : List ℕ = c ∷ d ∷ [] in
    let sign : is_sign t ≡ true = (and_parts (nat_le 2 (length (c ∷ d ∷ cs))) (is_sign t) h).1 in
    let within : 2 ≤ length (c ∷ d ∷ cs) =
    leb-true 2 (length (c ∷ d ∷ cs)) (and_parts (nat_le 2 (length (c ∷ d ∷ cs))) (is_sign t) h).0 in
    let first : IsFirst t cs = record {
      token = or_right (is_identifier t || is_number t) (is_sign t) sign;
      longest =
          λ more after e longer. sign_end c d more (other_sign (c ∷ d ∷ cs) other c (d ∷ more) (d ∷ cs) refl longer);
    } in
    (within, first)

-- a sign of one byte is longest where it does not begin one of two
one_end : (bytes : List ℕ) → IsOther bytes → begins_sign 2 bytes ≡ false → (c : ℕ) (cs more after : List ℕ) →
    bytes ≡ c ∷ cs → cs ≡ more ++ after → is_lexeme (c ∷ more) ≡ true → more ≡ []
one_end bytes other no_two c cs [] after e parts h = refl
one_end bytes other no_two c cs (m ∷ []) after e parts h =
    let sign = other_sign bytes other c (m ∷ []) cs e h in
    let here : bytes ≡ c ∷ m ∷ after = e ∙ ap (λ (z : List ℕ). c ∷ z) parts in
    let two : begins_sign 2 (c ∷ m ∷ after) ≡ true =
    and_from (nat_le 2 (length (c ∷ m ∷ after))) (is_sign (c ∷ m ∷ []))
    (le-leb 2 (length (c ∷ m ∷ after)) (omega arith)) sign in
    absurd (false≢true (sym no_two ∙ ap (begins_sign 2) here ∙ two))
one_end bytes other no_two c cs (m ∷ n ∷ ns) after e parts h =
    let short = sign_short (c ∷ m ∷ n ∷ ns) (other_sign bytes other c (m ∷ n ∷ ns) cs e h) in absurd (omega arith)

-- a sign of one byte at the front is the first token where no sign of two is there
pub sign_one : (bytes : List ℕ) → IsOther bytes → begins_sign 2 bytes ≡ false → begins_sign 1 bytes ≡ true →
    IsTokenLength (Some 1) bytes
sign_one [] other no_two h = absurd (false≢true h)
sign_one (c ∷ cs) other no_two h =
    let t : List ℕ = c ∷ [] in
    let sign : is_sign t ≡ true = (and_parts (nat_le 1 (length (c ∷ cs))) (is_sign t) h).1 in
    let within : 1 ≤ length (c ∷ cs) =
    leb-true 1 (length (c ∷ cs)) (and_parts (nat_le 1 (length (c ∷ cs))) (is_sign t) h).0 in
    let first : IsFirst t cs = record {
      token = or_right (is_identifier t || is_number t) (is_sign t) sign;
      longest = λ more after e longer. one_end (c ∷ cs) other no_two c cs more after refl e longer;
    } in
    (within, first)

-- where neither is there, no token is first
pub sign_none : (bytes : List ℕ) → IsOther bytes → begins_sign 2 bytes ≡ false → begins_sign 1 bytes ≡ false →
    IsTokenLength None bytes
sign_none bytes other no_two no_one [] rest e first = false≢true (sym empty_no_token ∙ first.token)
sign_none bytes other no_two no_one (c ∷ []) rest e first =
    let sign = other_sign bytes other c [] rest e (token_lexeme (c ∷ []) first.token) in
    let one : begins_sign 1 (c ∷ rest) ≡ true =
    and_from (nat_le 1 (length (c ∷ rest))) (is_sign (c ∷ [])) (le-leb 1 (length (c ∷ rest)) (omega arith)) sign in
    false≢true (sym no_one ∙ ap (begins_sign 1) e ∙ one)
sign_none bytes other no_two no_one (c ∷ d ∷ []) rest e first =
    let sign = other_sign bytes other c (d ∷ []) (d ∷ rest) e (token_lexeme (c ∷ d ∷ []) first.token) in
    let two : begins_sign 2 (c ∷ d ∷ rest) ≡ true =
    and_from (nat_le 2 (length (c ∷ d ∷ rest))) (is_sign (c ∷ d ∷ [])) (le-leb 2 (length (c ∷ d ∷ rest)) (omega arith))
    sign in
    false≢true (sym no_two ∙ ap (begins_sign 2) e ∙ two)
sign_none bytes other no_two no_one (c ∷ d ∷ m ∷ ms) rest e first =
    let sign =
    other_sign bytes other c (d ∷ m ∷ ms) (d ∷ m ∷ (ms ++ rest)) e (token_lexeme (c ∷ d ∷ m ∷ ms) first.token) in
    let short = sign_short (c ∷ d ∷ m ∷ ms) sign in omega arith
