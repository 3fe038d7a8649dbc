-- Lists are read exactly where their items are.
use Rattle.std.proofs.Common.{◌≡◌, ℕ, zero, suc, List, [], ◌∷◌, ◌++◌, length, Ok, refl, sym, ap, ◌∙◌, append_assoc, arith, All}
use Rattle.std.specs.List.{flat_map}
use Rattle.std.proofs.lemmas.List.Elements.{All-cons, All-head, All-tail}
use Rattle.tdl_base.specs.Bytes.{short, word}
use Rattle.tdl_decode.specs.Grammar.{Grammar, Reads, items, listed, long_listed}
use Rattle.tdl_decode.specs.Reading.{Read, items_in, listed_in, long_listed_in}
use Rattle.tdl_decode.proofs.Exact.{Exact, faults_then, faults_none, kept_faults, sound_then, again_then, kept_sound}
use Rattle.tdl_decode.proofs.NumberFields.{any_short-exact, any_word-exact}

-- so many items
abbrev pub some_items : {X : Type 0} → Grammar X → ℕ → Grammar (List X)
some_items item n = record {
  spelling = flat_map item.spelling;
  spellable = λ xs. (length xs ≡ n) × All item.spellable xs;
  breaks = items item n;
}

-- are read exactly
pub items-exact : {X : Type 0} {G : Grammar X} {p : List ℕ → Read X} → Exact G p → (n : ℕ) →
    Exact (some_items G n) (items_in p n)
unfolding items_in
items-exact {X = X} {G = G} {p = p} exact zero = record {
  sound = λ bytes small. record { lawful = (refl, λ k d within. absurd (omega arith)); front = refl };
  again = again;
  faults = λ bytes small. faults_none _ bytes;
}
  where
    again : (xs : List X) (rest : List ℕ) → (length xs ≡ 0) × All G.spellable xs →
        items_in p zero (flat_map G.spelling xs ++ rest) ≡ Ok (xs, rest)
    again [] rest lawful = refl
    again (x ∷ xs) rest lawful = absurd (omega (arith, lawful.0))
items-exact {X = X} {G = G} {p = p} exact (suc n) = record {
  sound = λ bytes small.
      sound_then (some_items G (suc n)) (λ b. b) _ exact
      (λ x m lawful small.
      sound_then (some_items G (suc n)) (λ b. G.spelling x ++ b) _ (items-exact exact n)
      (λ xs rest others small. record {
        lawful = (ap suc others.0, All-cons G.spellable x xs lawful others.1);
        front = sym (append_assoc (G.spelling x) (flat_map G.spelling xs) rest);
      }) m small) bytes small;
  again = again (items-exact exact n);
  faults = λ bytes small.
      faults_then exact
      (λ x m small. kept_faults (λ xs rest. (x ∷ xs, rest)) ((items-exact exact n).faults m small)) bytes small;
}
  where
    again : Exact (some_items G n) (items_in p n) → (xs : List X) (rest : List ℕ) →
        (length xs ≡ suc n) × All G.spellable xs → items_in p (suc n) (flat_map G.spelling xs ++ rest) ≡ Ok (xs, rest)
    again others [] rest lawful = absurd (omega (arith, lawful.0))
    again others (x ∷ xs) rest lawful =
        ap (items_in p (suc n)) (append_assoc (G.spelling x) (flat_map G.spelling xs) rest)
        ∙ again_then _ exact x (flat_map G.spelling xs ++ rest) (All-head G.spellable x xs lawful.1)
        ∙ again_then _ others xs rest (omega (arith, lawful.0), All-tail G.spellable x xs lawful.1)

-- a list with a count of two bytes
pub listed-exact : {X : Type 0} {G : Grammar X} {p : List ℕ → Read X} → Exact G p → Exact (listed G) (listed_in p)
listed-exact {X = X} {G = G} {p = p} exact = record {
  sound = λ bytes small.
      sound_then (listed G) (λ b. b) _ any_short-exact
      (λ n m lawful small.
      kept_sound (items-exact exact n) (λ r. Reads (listed G) r.0 (short n ++ m) r.1) m small
      (λ xs rest others front. record {
        lawful = (omega (arith, others.0, lawful.1), others.1);
        front = ap (λ b. short n ++ b) front ∙ sym (append_assoc (short n) (flat_map G.spelling xs) rest)
            ∙ ap (λ k. (short k ++ flat_map G.spelling xs) ++ rest) (sym others.0);
      })) bytes small;
  again = λ xs rest lawful.
      ap (listed_in p) (append_assoc (short (length xs)) (flat_map G.spelling xs) rest)
      ∙ again_then (items_in p) any_short-exact (length xs) (flat_map G.spelling xs ++ rest)
      (omega arith, omega (arith, lawful.0))
      ∙ (items-exact exact (length xs)).again xs rest (refl, lawful.1);
  faults = λ bytes small. faults_then any_short-exact (λ n m small. (items-exact exact n).faults m small) bytes small;
}

-- a list with a count of four bytes
pub long_listed-exact : {X : Type 0} {G : Grammar X} {p : List ℕ → Read X} → Exact G p →
    Exact (long_listed G) (long_listed_in p)
long_listed-exact {X = X} {G = G} {p = p} exact = record {
  sound = λ bytes small.
      sound_then (long_listed G) (λ b. b) _ any_word-exact
      (λ n m lawful small.
      kept_sound (items-exact exact n) (λ r. Reads (long_listed G) r.0 (word n ++ m) r.1) m small
      (λ xs rest others front. record {
        lawful = (omega (arith, others.0, lawful.1), others.1);
        front = ap (λ b. word n ++ b) front ∙ sym (append_assoc (word n) (flat_map G.spelling xs) rest)
            ∙ ap (λ k. (word k ++ flat_map G.spelling xs) ++ rest) (sym others.0);
      })) bytes small;
  again = λ xs rest lawful.
      ap (long_listed_in p) (append_assoc (word (length xs)) (flat_map G.spelling xs) rest)
      ∙ again_then (items_in p) any_word-exact (length xs) (flat_map G.spelling xs ++ rest)
      (omega arith, omega (arith, lawful.0))
      ∙ (items-exact exact (length xs)).again xs rest (refl, lawful.1);
  faults = λ bytes small. faults_then any_word-exact (λ n m small. (items-exact exact n).faults m small) bytes small;
}
