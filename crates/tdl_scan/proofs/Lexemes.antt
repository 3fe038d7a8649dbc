-- Lexemes, and the longest one that begins somewhere.
use Rattle.std.proofs.Common.{◌≡◌, ℕ, suc, ◌+◌, ◌≤◌, Bool, true, false, cond, ◌||◌, List, [], ◌∷◌, ◌++◌, length, take, drop, nat_le, sym, refl, ap, ◌∙◌, inl, inr, ◌⊎◌, arith, append-nil, bytes_eq, leb-true, ◌==◌}
use Rattle.std.specs.List.{list_all, list_any, prefix_len}
use Rattle.std.proofs.lemmas.Bool.{and_parts, or_cases, or_left, or_right, cases_Bool, false_from_ne_true, false≢true}
use Rattle.std.proofs.Math.Bool.{or-false}
use Rattle.std.proofs.lemmas.Bool.Decides.{nat_tests}
use Rattle.std.proofs.lemmas.List.Folds.{list_all-append}
use Rattle.std.proofs.lemmas.Slice.Eq.{bytes_eq-Decides}
use Rattle.tdl_base.specs.Letters.{is_digit, is_letter, is_name_byte, is_word}
use Rattle.tdl_scan.specs.Lexemes.{is_blank, is_identifier, is_number, signs, is_sign, is_lexeme, is_token}
use Rattle.tdl_scan.specs.Pieces.{IsFirst}

-- `zs ++ ws` cut further on than `xs ++ ys`
abbrev pub Longer : List ℕ → List ℕ → List ℕ → List ℕ → Type 0
Longer xs ys zs ws = (mid : List ℕ) × (zs ≡ xs ++ mid) × (ys ≡ mid ++ ws)

-- of two cuts of one list, one is further on
fronts : (xs ys zs ws : List ℕ) → xs ++ ys ≡ zs ++ ws → Longer xs ys zs ws ⊎ Longer zs ws xs ys
fronts [] ys zs ws e = inl (zs, refl, e)
fronts (x ∷ xs) ys [] ws e = inr (x ∷ xs, refl, sym e)
fronts (x ∷ xs) ys (z ∷ zs) ws e =
    let tails : xs ++ ys ≡ zs ++ ws = cc in
    let heads : x ≡ z = cc in
    elim (fronts xs ys zs ws tails) [
      | inl m ↦ let same : z ∷ zs ≡ x ∷ (xs ++ m.0) = cc (m.1) in inl (m.0, same, m.2)
      | inr m ↦ let same : x ∷ xs ≡ z ∷ (zs ++ m.0) = cc (m.1) in inr (m.0, same, m.2)
    ]

-- the first element passes and is counted, or it ends the run
pub prefix_cases : (p : ℕ → Bool) (x : ℕ) (xs : List ℕ) →
    ((p x ≡ true) × (prefix_len p (x ∷ xs) ≡ suc (prefix_len p xs))) ⊎ ((p x ≡ false) × (prefix_len p (x ∷ xs) ≡ 0))
prefix_cases p x xs =
    elim (cases_Bool (p x)) [
      | inl t ↦ let more : 1 + prefix_len p xs ≡ suc (prefix_len p xs) = omega arith in inl (t, rw t more)
      | inr f ↦ inr (f, rw f refl)
    ]

-- each element of the run passes
pub run_passes : (p : ℕ → Bool) (xs : List ℕ) → list_all p (take (prefix_len p xs) xs) ≡ true
run_passes p [] = refl
run_passes p (x ∷ xs) =
    elim (prefix_cases p x xs) [
      | inl h ↦ rw (h.1, h.0) (run_passes p xs)
      | inr h ↦ rw h.1 refl
    ]

-- nothing that stands after the run goes on with it
pub run_stops : (p : ℕ → Bool) (xs more after : List ℕ) → drop (prefix_len p xs) xs ≡ more ++ after →
    list_all p more ≡ true → more ≡ []
run_stops p xs [] after e h = refl
run_stops p [] (m ∷ ms) after e h = absurd cc
run_stops p (x ∷ xs) (m ∷ ms) after e h =
    elim (prefix_cases p x xs) [
      | inl c ↦ run_stops p xs (m ∷ ms) after (rw c.1 at e) h
      | inr c ↦
          let begun : x ∷ xs ≡ m ∷ (ms ++ after) = rw c.1 at e in
          let same : x ≡ m = cc in
          let passes : p m ≡ true = (and_parts (p m) (list_all p ms) h).0 in
          absurd (cc (ap p same, passes, c.0))
    ]

-- what holds of each word of a list holds of one of them
pub among : (holds : List ℕ → Bool) (words : List (List ℕ)) (t : List ℕ) → list_all holds words ≡ true →
    list_any (λ (w : List ℕ). bytes_eq w t) words ≡ true → holds t ≡ true
among holds [] t all any = absurd cc
among holds (w ∷ ws) t all any =
    let parts = and_parts (holds w) (list_all holds ws) all in
    elim (or_cases (bytes_eq w t) (list_any (λ (v : List ℕ). bytes_eq v t) ws) any) [
      | inl same ↦ ap holds (sym ((bytes_eq-Decides w t).0 same)) ∙ parts.0
      | inr more ↦ among holds ws t parts.1 more
    ]

-- begins with a byte that is neither a blank nor a byte of an identifier
abbrev pub begins_apart : List ℕ → Bool
begins_apart [] = false
begins_apart (c ∷ cs) = cond (is_blank c) false (cond (is_name_byte c) false true)

-- a sign has one byte or two
pub sign_short : (t : List ℕ) → is_sign t ≡ true → length t ≤ 2
unfolding is_sign
sign_short t h = leb-true (length t) 2 (among (λ w. nat_le (length w) 2) signs t refl h)

-- and no sign has none
pub sign_some : (t : List ℕ) → is_sign t ≡ true → 1 ≤ length t
unfolding is_sign
sign_some t h = leb-true 1 (length t) (among (λ w. nat_le 1 (length w)) signs t refl h)

-- a sign begins with neither a blank nor a byte of an identifier
pub sign_apart : (t : List ℕ) → is_sign t ≡ true → begins_apart t ≡ true
unfolding is_sign
sign_apart t h = among begins_apart signs t refl h

-- a lexeme that no longer one begins with, in front of these bytes
pub record IsLongest (t rest : List ℕ) : Type 0 where
  pub lexeme : is_lexeme t ≡ true
  pub longest : (more after : List ℕ) → rest ≡ more ++ after → is_lexeme (t ++ more) ≡ true → more ≡ []

-- a token is a lexeme
pub token_lexeme : (t : List ℕ) → is_token t ≡ true → is_lexeme t ≡ true
token_lexeme t h =
    elim (or_cases (is_identifier t || is_number t) (is_sign t) h) [
      | inl shorter ↦ or_left (is_word t || is_number t) (is_sign t)
          (elim (or_cases (is_identifier t) (is_number t) shorter) [
            | inl name ↦ or_left (is_word t) (is_number t) (and_parts (is_word t) (nat_le (length t) 64) name).0
            | inr number ↦ or_right (is_word t) (is_number t) number
          ])
      | inr sign ↦ or_right (is_word t || is_number t) (is_sign t) sign
    ]

-- the first token is the longest lexeme
pub first_longest : (t rest : List ℕ) → IsFirst t rest → IsLongest t rest
first_longest t rest first = record { lexeme = token_lexeme t first.token; longest = first.longest }

-- two cuts of one list are one, where neither goes on
pub same_cut : (t rest u other : List ℕ) → t ++ rest ≡ u ++ other →
    ((mid : List ℕ) → u ≡ t ++ mid → rest ≡ mid ++ other → mid ≡ []) →
    ((mid : List ℕ) → t ≡ u ++ mid → other ≡ mid ++ rest → mid ≡ []) → (t ≡ u) × (rest ≡ other)
same_cut t rest u other e first second =
    elim (fronts t rest u other e) [
      | inl m ↦
          let nil : m.0 ≡ [] = first m.0 m.1 m.2 in
          (sym (m.1 ∙ ap (λ (z : List ℕ). t ++ z) nil ∙ append-nil t), m.2 ∙ ap (λ (z : List ℕ). z ++ other) nil)
      | inr m ↦
          let nil : m.0 ≡ [] = second m.0 m.1 m.2 in
          (m.1 ∙ ap (λ (z : List ℕ). u ++ z) nil ∙ append-nil u, sym (m.2 ∙ ap (λ (z : List ℕ). z ++ rest) nil))
    ]

-- there is one longest lexeme at most
pub longest_unique : (t rest u other : List ℕ) → IsLongest t rest → IsLongest u other → t ++ rest ≡ u ++ other →
    (t ≡ u) × (rest ≡ other)
longest_unique t rest u other x y e =
    same_cut t rest u other e
    (λ mid cut after. x.longest mid other after (ap is_lexeme (sym cut) ∙ y.lexeme))
    (λ mid cut after. y.longest mid rest after (ap is_lexeme (sym cut) ∙ x.lexeme))

-- a letter is no digit
pub letter_no_digit : (c : ℕ) → is_letter c ≡ true → is_digit c ≡ false
letter_no_digit c letter = grind (arith, nat_tests)

-- an identifier byte is no blank
pub name_no_blank : (c : ℕ) → is_name_byte c ≡ true → is_blank c ≡ false
name_no_blank c name = grind (arith, nat_tests)

-- a letter is an identifier byte
pub letter_name : (c : ℕ) → is_letter c ≡ true → is_name_byte c ≡ true
letter_name c letter = rw letter refl

-- a digit is an identifier byte
pub digit_name : (c : ℕ) → is_digit c ≡ true → is_name_byte c ≡ true
digit_name c digit = or_left (is_letter c || is_digit c) (c == 95) (or_right (is_letter c) (is_digit c) digit)

-- what begins as an identifier goes on is no sign
pub name_no_sign : (c : ℕ) (cs : List ℕ) → is_name_byte c ≡ true → is_sign (c ∷ cs) ≡ false
name_no_sign c cs name =
    false_from_ne_true (is_sign (c ∷ cs)) (λ sign.
    let apart = rw (name_no_blank c name, name) at (sign_apart (c ∷ cs) sign) in false≢true apart)

-- after a letter a lexeme has bytes of an identifier alone
pub letter_lexeme : (c : ℕ) → is_letter c ≡ true → (cs : List ℕ) → is_lexeme (c ∷ cs) ≡ list_all is_name_byte cs
letter_lexeme c letter cs =
    rw (letter, letter_no_digit c letter, name_no_sign c cs (letter_name c letter))
    (or-false (list_all is_name_byte cs || false) ∙ or-false (list_all is_name_byte cs))

-- after a digit a lexeme has digits alone
pub digit_lexeme : (c : ℕ) → is_digit c ≡ true → (cs : List ℕ) → is_lexeme (c ∷ cs) ≡ list_all is_digit cs
digit_lexeme c digit cs =
    let no_letter : is_letter c ≡ false =
    false_from_ne_true (is_letter c) (λ letter. false≢true (sym (letter_no_digit c letter) ∙ digit)) in
    rw (no_letter, digit, name_no_sign c cs (digit_name c digit)) (or-false (list_all is_digit cs))

-- what begins with neither is a lexeme where it is a sign
pub other_lexeme : (c : ℕ) → is_letter c ≡ false → is_digit c ≡ false → (cs : List ℕ) →
    is_lexeme (c ∷ cs) ≡ is_sign (c ∷ cs)
other_lexeme c no_letter no_digit cs = rw (no_letter, no_digit) refl

-- the run after the first byte makes a lexeme, the longest there, where just that makes a lexeme longer
pub run_longest : (p : ℕ → Bool) (c : ℕ) (cs : List ℕ) → ((xs : List ℕ) → is_lexeme (c ∷ xs) ≡ list_all p xs) →
    IsLongest (c ∷ take (prefix_len p cs) cs) (drop (prefix_len p cs) cs)
run_longest p c cs lexeme = record {
  lexeme = lexeme (take (prefix_len p cs) cs) ∙ run_passes p cs;
  longest = λ more after e h.
      let run : List ℕ = take (prefix_len p cs) cs in
      let passes : list_all p (run ++ more) ≡ true = sym (lexeme (run ++ more)) ∙ h in
      run_stops p cs more after e
      (and_parts (list_all p run) (list_all p more) (sym (list_all-append p run more) ∙ passes)).1;
}
