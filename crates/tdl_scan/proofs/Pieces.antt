-- A piece has one length, which the scanner finds.
use Rattle.std.proofs.Common.{◌≡◌, ℕ, suc, ◌≤◌, ◌<◌, true, false, ◌||◌, ◌==◌, List, [], ◌∷◌, ◌++◌, length, take, drop, sym, refl, ap, ◌∙◌, subst, inl, inr, ◌⊎◌, arith, Option, Some, None, take-append-drop}
use Rattle.std.specs.List.{list_all, prefix_len}
use Rattle.std.proofs.lemmas.Bool.{and_parts, or_cases, cases_Bool, false≢true}
use Rattle.std.proofs.lemmas.Bool.Decides.{nat_tests}
use Rattle.std.proofs.lemmas.List.Sums.{prefix_len-le-length}
use Rattle.std.proofs.lemmas.List.Folds.{list_all-append}
use Rattle.tdl_base.specs.Letters.{is_digit, is_letter, is_name_byte, is_word}
use Rattle.tdl_scan.specs.Lexemes.{is_blank, is_number, is_sign, is_lexeme, is_token}
use Rattle.tdl_scan.specs.Pieces.{is_no_end, opens_blank, opens_comment, IsEndOfLine, IsBlank, IsComment, IsToken, IsPiece}
use Rattle.tdl_scan.specs.Lengths.{IsTokenLength, IsPieceLength}
use Rattle.tdl_scan.proofs.Lexemes.{same_cut, prefix_cases, run_passes, first_longest, longest_unique, token_lexeme, letter_name, digit_name, name_no_blank, sign_apart}
use Rattle.tdl_scan.proofs.Cutting.{empty_no_token, run_longer}

-- no lexeme begins with a blank
lexeme_no_blank : (c : ℕ) (cs : List ℕ) → is_lexeme (c ∷ cs) ≡ true → is_blank c ≡ false
lexeme_no_blank c cs h =
    elim (or_cases (is_word (c ∷ cs) || is_number (c ∷ cs)) (is_sign (c ∷ cs)) h) [
      | inl shorter ↦ elim (or_cases (is_word (c ∷ cs)) (is_number (c ∷ cs)) shorter) [
        | inl word ↦ name_no_blank c (letter_name c (and_parts (is_letter c) (list_all is_name_byte cs) word).0)
        | inr number ↦ name_no_blank c (digit_name c (and_parts (is_digit c) (list_all is_digit cs) number).0)
      ]
      | inr sign ↦ elim (cases_Bool (is_blank c)) [
        | inl blank ↦ absurd (false≢true (rw blank at (sign_apart (c ∷ cs) sign)))
        | inr other ↦ other
      ]
    ]

-- a slash does not end a line
slash_no_end : (c : ℕ) → (c == 47) ≡ true → is_no_end c ≡ true
slash_no_end c h = grind (arith, nat_tests)

-- a slash is no blank
slash_no_blank : (c : ℕ) → (c == 47) ≡ true → is_blank c ≡ false
slash_no_blank c h = grind (arith, nat_tests)

-- what is no other byte is the line feed
end_is : (c : ℕ) → is_no_end c ≡ false → c ≡ 10
end_is c h = grind (arith, nat_tests)

-- after the run of other bytes the line ends
run_ends : (xs : List ℕ) → IsEndOfLine (drop (prefix_len is_no_end xs) xs)
run_ends [] = tt
run_ends (x ∷ xs) =
    elim (prefix_cases is_no_end x xs) [
      | inl h ↦ rw h.1 (run_ends xs)
      | inr h ↦ rw h.1 (end_is x h.0)
    ]

-- where a comment opens, it goes on to the end of the line
pub comment_some : (bytes : List ℕ) (n : ℕ) → opens_comment bytes ≡ true → n ≡ prefix_len is_no_end bytes →
    IsPieceLength (Some n) bytes
comment_some [] n h e = absurd (false≢true h)
comment_some (c ∷ []) n h e = absurd (false≢true h)
comment_some (c ∷ d ∷ cs) n h e =
    let slashes = and_parts (c == 47) (d == 47) h in
    let k : ℕ = prefix_len is_no_end (c ∷ d ∷ cs) in
    let count : k ≡ suc (suc (prefix_len is_no_end cs)) =
    run_longer is_no_end c (d ∷ cs) (slash_no_end c slashes.0)
    ∙ ap suc (run_longer is_no_end d cs (slash_no_end d slashes.1)) in
    let within : k ≤ length (c ∷ d ∷ cs) = prefix_len-le-length is_no_end (c ∷ d ∷ cs) in
    let opened : opens_comment (take k (c ∷ d ∷ cs)) ≡ true =
    subst (λ (m : ℕ). opens_comment (take m (c ∷ d ∷ cs)) ≡ true) (sym count) h in
    let comment : IsComment (take k (c ∷ d ∷ cs)) (drop k (c ∷ d ∷ cs)) = record {
      opened = opened;
      one_line = run_passes is_no_end (c ∷ d ∷ cs);
      ended = run_ends (c ∷ d ∷ cs);
    } in
    subst (λ (m : ℕ). IsPieceLength (Some m) (c ∷ d ∷ cs)) (sym e) (within, inr (inl comment))

-- where a blank opens, it is a piece
pub blank_some : (bytes : List ℕ) → opens_blank bytes ≡ true → IsPieceLength (Some 1) bytes
blank_some [] h = absurd (false≢true h)
blank_some (c ∷ cs) h = (omega arith, inl (h, refl))

-- a blank opens where one stands
blank_opens : (t rest : List ℕ) → IsBlank t → opens_blank (t ++ rest) ≡ true
blank_opens [] rest b = absurd b
blank_opens (c ∷ cs) rest b = b.0

-- a comment opens where one stands
comment_opens : (t rest : List ℕ) → opens_comment t ≡ true → opens_comment (t ++ rest) ≡ true
comment_opens [] rest h = absurd (false≢true h)
comment_opens (c ∷ []) rest h = absurd (false≢true h)
comment_opens (c ∷ d ∷ cs) rest h = h

-- no blank opens there
comment_no_blank : (bytes : List ℕ) → opens_comment bytes ≡ true → opens_blank bytes ≡ false
comment_no_blank [] h = refl
comment_no_blank (c ∷ []) h = absurd (false≢true h)
comment_no_blank (c ∷ d ∷ cs) h = slash_no_blank c (and_parts (c == 47) (d == 47) h).0

-- and none where a token stands
token_no_blank : (t rest : List ℕ) → is_token t ≡ true → opens_blank (t ++ rest) ≡ false
token_no_blank [] rest h = absurd (false≢true (sym empty_no_token ∙ h))
token_no_blank (c ∷ cs) rest h = lexeme_no_blank c cs (token_lexeme (c ∷ cs) h)

-- where neither a blank nor a comment opens, the piece is the token
pub token_piece : (bytes : List ℕ) (r : Option ℕ) → opens_blank bytes ≡ false → opens_comment bytes ≡ false →
    IsTokenLength r bytes → IsPieceLength r bytes
token_piece bytes None no_blank no_comment none = λ t rest e piece.
    elim piece [
      | inl blank ↦ false≢true (sym no_blank ∙ ap opens_blank e ∙ blank_opens t rest blank)
      | inr more ↦ elim more [
        | inl comment ↦ false≢true (sym no_comment ∙ ap opens_comment e ∙ comment_opens t rest comment.opened)
        | inr token ↦ none t rest e token.first
      ]
    ]
token_piece bytes (Some n) no_blank no_comment some =
    (some.0, inr (inr (record { no_comment = ap opens_comment (take-append-drop n bytes) ∙ no_comment; first = some.1 })))

-- a piece has a byte at least
pub piece_some : (t rest : List ℕ) → IsPiece t rest → 0 < length t
piece_some (c ∷ cs) rest piece = omega arith
piece_some [] rest piece =
    elim piece [
      | inl blank ↦ absurd blank
      | inr more ↦ elim more [
        | inl comment ↦ absurd (false≢true comment.opened)
        | inr token ↦ absurd (false≢true (sym empty_no_token ∙ token.first.token))
      ]
    ]

-- nothing that ends no line stands where the line ends
no_more : (mid after rest : List ℕ) → IsEndOfLine rest → rest ≡ mid ++ after → list_all is_no_end mid ≡ true → mid ≡ []
no_more [] after rest ended e h = refl
no_more (m ∷ ms) after rest ended e h =
    let feed : m ≡ 10 = subst IsEndOfLine e ended in
    absurd (false≢true (ap is_no_end (sym feed) ∙ (and_parts (is_no_end m) (list_all is_no_end ms) h).0))

-- the end of what passes passes
back_passes : (whole front mid : List ℕ) → whole ≡ front ++ mid → list_all is_no_end whole ≡ true →
    list_all is_no_end mid ≡ true
back_passes whole front mid e h =
    (and_parts (list_all is_no_end front) (list_all is_no_end mid)
    (sym (list_all-append is_no_end front mid) ∙ ap (list_all is_no_end) (sym e) ∙ h)).1

-- there is one comment at most
comment_unique : (t rest u other : List ℕ) → IsComment t rest → IsComment u other → t ++ rest ≡ u ++ other →
    (t ≡ u) × (rest ≡ other)
comment_unique t rest u other x y e =
    same_cut t rest u other e
    (λ mid cut after. no_more mid other rest x.ended after (back_passes u t mid cut y.one_line))
    (λ mid cut after. no_more mid rest other y.ended after (back_passes t u mid cut x.one_line))

-- there is one blank at most
blank_unique : (t rest u other : List ℕ) → IsBlank t → IsBlank u → t ++ rest ≡ u ++ other → (t ≡ u) × (rest ≡ other)
blank_unique [] rest u other x y e = absurd x
blank_unique (c ∷ cs) rest [] other x y e = absurd y
blank_unique (c ∷ cs) rest (d ∷ ds) other x y e =
    let first : c ≡ d = cc in
    let tails : cs ++ rest ≡ ds ++ other = cc in (
      ap (λ (z : ℕ). z ∷ cs) first ∙ ap (λ (z : List ℕ). d ∷ z) (x.1 ∙ sym y.1),
      ap (λ (z : List ℕ). z ++ rest) (sym x.1) ∙ tails ∙ ap (λ (z : List ℕ). z ++ other) y.1,
    )

-- a blank is no comment and no token
blank_apart : (t rest u other : List ℕ) → IsBlank t → IsComment u other ⊎ IsToken u other → t ++ rest ≡ u ++ other → ⊥
blank_apart t rest u other blank more e =
    let here : opens_blank (u ++ other) ≡ true = ap opens_blank (sym e) ∙ blank_opens t rest blank in
    elim more [
      | inl comment ↦
          false≢true (sym (comment_no_blank (u ++ other) (comment_opens u other comment.opened)) ∙ here)
      | inr token ↦ false≢true (sym (token_no_blank u other token.first.token) ∙ here)
    ]

-- a comment is no token
comment_apart : (t rest u other : List ℕ) → IsComment t rest → IsToken u other → t ++ rest ≡ u ++ other → ⊥
comment_apart t rest u other comment token e =
    false≢true (sym token.no_comment ∙ ap opens_comment (sym e) ∙ comment_opens t rest comment.opened)

-- there is one comment or token at most
other_unique : (t rest u other : List ℕ) → IsComment t rest ⊎ IsToken t rest → IsComment u other ⊎ IsToken u other →
    t ++ rest ≡ u ++ other → (t ≡ u) × (rest ≡ other)
other_unique t rest u other (inl x) (inl y) e = comment_unique t rest u other x y e
other_unique t rest u other (inl x) (inr y) e = absurd (comment_apart t rest u other x y e)
other_unique t rest u other (inr x) (inl y) e = absurd (comment_apart u other t rest y x (sym e))
other_unique t rest u other (inr x) (inr y) e =
    longest_unique t rest u other (first_longest t rest x.first) (first_longest u other y.first) e

-- one piece at most begins the bytes
pub piece_unique : (t rest u other : List ℕ) → IsPiece t rest → IsPiece u other → t ++ rest ≡ u ++ other →
    (t ≡ u) × (rest ≡ other)
piece_unique t rest u other (inl x) (inl y) e = blank_unique t rest u other x y e
piece_unique t rest u other (inl x) (inr y) e = absurd (blank_apart t rest u other x y e)
piece_unique t rest u other (inr x) (inl y) e = absurd (blank_apart u other t rest y x (sym e))
piece_unique t rest u other (inr x) (inr y) e = other_unique t rest u other x y e
