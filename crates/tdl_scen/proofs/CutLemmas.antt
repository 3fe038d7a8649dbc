-- What the cutters need of the definitions of lines and words.
use Rattle.std.proofs.Common.{arith, suc, ◌<◌, length, get_or, drop, drop-cons, ◌≡◌, ℕ, Bool, true, false, ◌==◌, List, [], ◌∷◌, ◌++◌, refl, ap, sym, ◌∙◌}
use Rattle.std.proofs.lemmas.Bool.Decides.{nat_tests}
use Rattle.tdl_scen.specs.Lines.{without_cr, words_from, words_of, is_space_or_tab, is_skipped}

-- a CR at the end goes
pub without_cr-cr : (front : List ℕ) → without_cr (front ++ 13 ∷ []) ≡ front
without_cr-cr [] = refl
without_cr-cr (b ∷ []) = refl
without_cr-cr (b ∷ c ∷ cs) = ap (λ (rest : List ℕ). b ∷ rest) (without_cr-cr (c ∷ cs))

-- any other last byte stays
pub without_cr-other : (front : List ℕ) (last : ℕ) → (last == 13) ≡ false →
    without_cr (front ++ last ∷ []) ≡ front ++ last ∷ []
without_cr-other [] last other = rw other refl
without_cr-other (b ∷ []) last other = rw other refl
without_cr-other (b ∷ c ∷ cs) last other = ap (λ (rest : List ℕ). b ∷ rest) (without_cr-other (c ∷ cs) last other)

-- a line that is cut before its last byte, a CR
pub before_cr-cr : (line front : List ℕ) (last : ℕ) → line ≡ front ++ last ∷ [] → last ≡ 13 → front ≡ without_cr line
before_cr-cr line front last cut cr =
    sym (ap without_cr cut ∙ ap (λ (b : ℕ). without_cr (front ++ b ∷ [])) cr ∙ without_cr-cr front)

-- a line that is cut before its last byte, no CR
pub before_cr-other : (line front : List ℕ) (last : ℕ) → line ≡ front ++ last ∷ [] → (last == 13) ≡ false →
    line ≡ without_cr line
before_cr-other line front last cut other = cut ∙ sym (ap without_cr cut ∙ without_cr-other front last other)

-- a line whose first word begins with this byte
pub first_word : (b : ℕ) (front rest : List ℕ) → is_skipped (words_from (b ∷ front) rest) ≡ is_skipped ((b ∷ []) ∷ [])
first_word b front [] = refl
first_word b front (c ∷ rest) = by_blank (is_space_or_tab c) refl (first_word b (front ++ c ∷ []) rest)
  where
    by_blank : (t : Bool) → is_space_or_tab c ≡ t →
        is_skipped (words_from (b ∷ front ++ c ∷ []) rest) ≡ is_skipped ((b ∷ []) ∷ []) →
        is_skipped (words_from (b ∷ front) (c ∷ rest)) ≡ is_skipped ((b ∷ []) ∷ [])
    by_blank true e more = rw e refl
    by_blank false e more = rw e more

-- a line that begins with another byte
pub byte_first : (b : ℕ) (rest : List ℕ) → is_space_or_tab b ≡ false →
    is_skipped (words_of (b ∷ rest)) ≡ is_skipped ((b ∷ []) ∷ [])
byte_first b rest e = rw e (first_word b [] rest)

-- a comment's first byte
pub hash : (b : ℕ) → (b == 35) ≡ is_skipped ((b ∷ []) ∷ [])
hash b = grind (arith, nat_tests)

-- a line from the place of its first byte that is no blank
pub from_first : (line : List ℕ) (i : ℕ) → i < length line → is_space_or_tab (get_or line i 0) ≡ false →
    words_of (drop i line) ≡ words_of line →
    (get_or line i 0 == 35) ≡ is_skipped (words_of line)
from_first line i lt e same =
    hash (get_or line i 0)
    ∙ sym (byte_first (get_or line i 0) (drop (suc i) line) e)
    ∙ ap (λ (l : List ℕ). is_skipped (words_of l)) (sym (drop-cons line i 0 lt))
    ∙ ap is_skipped same
