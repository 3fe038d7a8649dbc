-- Words of printable bytes: their lines are cut into them again.
use Rattle.std.proofs.Common.{◌≡◌, ◌<◌, ◌+◌, ℕ, Bool, true, false, ◌==◌, ◌&&◌, List, [], ◌∷◌, ◌++◌, length, map, refl, sym, ap, ◌∙◌, append-nil, append_assoc, arith}
use Rattle.std.specs.Prelude.{nat_le, if◌then◌else◌}
use Rattle.std.specs.List.{list_all}
use Rattle.std.proofs.lemmas.Bool.{and_parts, and_from}
use Rattle.std.proofs.lemmas.Bool.Decides.{nat_tests}
use Rattle.std.proofs.lemmas.List.Folds.{list_all-append}
use Rattle.tdl_scen.specs.Lines.{with_piece, without_cr, lines_from, lines_of, is_space_or_tab, words_from, words_of, is_skipped, is_text_byte, is_text}
use Rattle.tdl_lines.specs.declared.said.Said.{Said}
use Rattle.tdl_lines.specs.SaidLines.{NumberedLine, said_from, words_said}
use Rattle.tdl_sched.specs.ScheduleText.{spaced}

-- a printable byte that is no blank
abbrev pub is_plain_byte : ℕ → Bool
is_plain_byte b = nat_le 33 b && nat_le b 126

-- a word of such bytes
pub record IsPlain (word : List ℕ) : Type 0 where
  pub some : 0 < length word
  pub bytes : list_all is_plain_byte word ≡ true

-- such words
abbrev pub ArePlain : List (List ℕ) → Type 0
ArePlain [] = Unit {0}
ArePlain (word ∷ words) = IsPlain word × ArePlain words

-- a printable byte is no blank
no_blank : (b : ℕ) → is_plain_byte b ≡ true → is_space_or_tab b ≡ false
no_blank b plain = grind (arith, nat_tests)

-- a printable byte is text
text_byte : (b : ℕ) → is_plain_byte b ≡ true → is_text_byte b ≡ true
text_byte b plain = grind (arith, nat_tests)

-- text has no LF
no_lf : (b : ℕ) → is_text_byte b ≡ true → (b == 10) ≡ false
no_lf b text = grind (arith, nat_tests)

-- text has no CR
no_cr : (b : ℕ) → is_text_byte b ≡ true → (b == 13) ≡ false
no_cr b text = grind (arith, nat_tests)

-- a test that each item passes, where it passes another
pub all_weaker : (p q : ℕ → Bool) → ((b : ℕ) → p b ≡ true → q b ≡ true) → (bs : List ℕ) → list_all p bs ≡ true →
    list_all q bs ≡ true
all_weaker p q weaker [] all = refl
all_weaker p q weaker (b ∷ bs) all =
    let both = and_parts (p b) (list_all p bs) all in
    and_from (q b) (list_all q bs) (weaker b both.0) (all_weaker p q weaker bs both.1)

-- a word is read to its end
words_from-plain : (front word rest : List ℕ) → list_all is_plain_byte word ≡ true →
    words_from front (word ++ rest) ≡ words_from (front ++ word) rest
words_from-plain front [] rest all = ap (λ (f : List ℕ). words_from f rest) (sym (append-nil front))
words_from-plain front (b ∷ bs) rest all =
    let both = and_parts (is_plain_byte b) (list_all is_plain_byte bs) all in
    one_byte (is_space_or_tab b) (no_blank b both.0)
    ∙ words_from-plain (front ++ b ∷ []) bs rest both.1
    ∙ ap (λ (f : List ℕ). words_from f rest) (append_assoc front (b ∷ []) bs)
  where
    one_byte : (t : Bool) → t ≡ false →
        (if t then with_piece front (words_from [] (bs ++ rest)) else words_from (front ++ b ∷ []) (bs ++ rest))
        ≡ words_from (front ++ b ∷ []) (bs ++ rest)
    one_byte true e = absurd cc
    one_byte false e = refl

-- a word is a piece
piece-some : (word : List ℕ) (more : List (List ℕ)) → 0 < length word → with_piece word more ≡ word ∷ more
piece-some [] more some = absurd (omega (arith, some))
piece-some (b ∷ bs) more some = refl

-- words with one space between them are cut into these words
pub words_of-spaced : (words : List (List ℕ)) → ArePlain words → words_of (spaced words) ≡ words
words_of-spaced [] plain = refl
words_of-spaced (word ∷ []) plain =
    ap (words_from []) (sym (append-nil word)) ∙ words_from-plain [] word [] plain.0.bytes
    ∙ piece-some word [] plain.0.some
words_of-spaced (word ∷ next ∷ words) plain =
    words_from-plain [] word (32 ∷ spaced (next ∷ words)) plain.0.bytes
    ∙ piece-some word (words_of (spaced (next ∷ words))) plain.0.some
    ∙ ap (λ (ws : List (List ℕ)). word ∷ ws) (words_of-spaced (next ∷ words) plain.1)

-- they are text
pub spaced-text : (words : List (List ℕ)) → ArePlain words → is_text (spaced words) ≡ true
spaced-text [] plain = refl
spaced-text (word ∷ []) plain = all_weaker is_plain_byte is_text_byte text_byte word plain.0.bytes
spaced-text (word ∷ next ∷ words) plain =
    list_all-append is_text_byte word (32 ∷ spaced (next ∷ words))
    ∙ and_from (is_text word) (is_text (spaced (next ∷ words)))
    (all_weaker is_plain_byte is_text_byte text_byte word plain.0.bytes) (spaced-text (next ∷ words) plain.1)

-- text ends in no CR
without_cr-text : (line : List ℕ) → is_text line ≡ true → without_cr line ≡ line
without_cr-text [] text = refl
without_cr-text (b ∷ []) text =
    let other : (b == 13) ≡ false = no_cr b (and_parts (is_text_byte b) true text).0 in
    rw other refl
without_cr-text (b ∷ c ∷ cs) text =
    ap (λ (bs : List ℕ). b ∷ bs) (without_cr-text (c ∷ cs) (and_parts (is_text_byte b) (is_text (c ∷ cs)) text).1)

-- a line of text is read to its LF
lines_from-text : (front line rest : List ℕ) → is_text line ≡ true →
    lines_from front (line ++ 10 ∷ rest) ≡ without_cr (front ++ line) ∷ lines_of rest
lines_from-text front [] rest text =
    ap (λ (f : List ℕ). without_cr f ∷ lines_of rest) (sym (append-nil front))
lines_from-text front (b ∷ bs) rest text =
    let both = and_parts (is_text_byte b) (is_text bs) text in
    one_byte (b == 10) (no_lf b both.0)
    ∙ lines_from-text (front ++ b ∷ []) bs rest both.1
    ∙ ap (λ (f : List ℕ). without_cr f ∷ lines_of rest) (append_assoc front (b ∷ []) bs)
  where
    one_byte : (t : Bool) → t ≡ false →
        (if t then without_cr front ∷ lines_from [] (bs ++ 10 ∷ rest)
        else lines_from (front ++ b ∷ []) (bs ++ 10 ∷ rest))
        ≡ lines_from (front ++ b ∷ []) (bs ++ 10 ∷ rest)
    one_byte true e = absurd cc
    one_byte false e = refl

-- a line of text and what follows it
lines_of-text : (line rest : List ℕ) → is_text line ≡ true → lines_of (line ++ 10 ∷ rest) ≡ line ∷ lines_of rest
lines_of-text line rest text =
    lines_from-text [] line rest text ∙ ap (λ (l : List ℕ). l ∷ lines_of rest) (without_cr-text line text)

-- what the lines of these bytes say, the first of them with the number k
abbrev pub said_by : {X : Type 0} → (List (List ℕ) → X) → ℕ → List (List ℕ) → List (Said X)
said_by f k lines =
    map (λ (line : NumberedLine). record { line = line.number; what = f (words_said line.text) }) (said_from k lines)

-- a line that is not skipped
said-line : {X : Type 0} (f : List (List ℕ) → X) (k : ℕ) (line : List ℕ) (words lines : List (List ℕ)) →
    words_of line ≡ words → is_skipped words ≡ false → is_text line ≡ true →
    said_by f k (line ∷ lines) ≡ record { line = k; what = f words } ∷ said_by f (k + 1) lines
said-line f k line words lines cut kept text = rw (cut, kept, text, cut) refl

-- words that are no comment, in a line of their own
pub said-spaced : {X : Type 0} (f : List (List ℕ) → X) (k : ℕ) (words : List (List ℕ)) (rest : List ℕ) →
    ArePlain words → is_skipped words ≡ false →
    said_by f k (lines_of (spaced words ++ 10 ∷ rest))
    ≡ record { line = k; what = f words } ∷ said_by f (k + 1) (lines_of rest)
said-spaced f k words rest plain kept =
    let text = spaced-text words plain in
    ap (said_by f k) (lines_of-text (spaced words) rest text)
    ∙ said-line f k (spaced words) words (lines_of rest) (words_of-spaced words plain) kept text
