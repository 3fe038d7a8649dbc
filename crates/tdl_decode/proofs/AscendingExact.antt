-- Lists whose items have ascending numbers are read exactly where their items are.
use Rattle.std.proofs.Common.{◌≡◌, ℕ, zero, suc, ◌<◌, ◌≤◌, List, [], ◌∷◌, ◌++◌, length, map, Ok, refl, sym, ap, ◌∙◌, append_assoc, arith, add-one, All}
use Rattle.std.specs.List.{flat_map}
use Rattle.std.specs.List.Sorted.{IsStrictlyIncreasing}
use Rattle.std.proofs.lemmas.List.Elements.{All-cons, All-head, All-tail}
use Rattle.tdl_base.specs.Bytes.{short}
use Rattle.tdl_decode.specs.Grammar.{Grammar, Reads, ascending_items, ascending}
use Rattle.tdl_decode.specs.Reading.{Read, ascending_items_in, ascending_in}
use Rattle.tdl_decode.proofs.Exact.{Exact, faults_then, faults_none, kept_faults, sound_then, again_then, kept_sound}
use Rattle.tdl_decode.proofs.NumberFields.{any_short-exact}

-- the first number is at least so much, and each further one above the one before
abbrev pub Rises : {X : Type 0} → (X → ℕ) → ℕ → List X → Type 0
Rises number_of least [] = Unit {0}
Rises number_of least (x ∷ xs) = (least ≤ number_of x) × Rises number_of (suc (number_of x)) xs

-- numbers that rise are strictly increasing
increasing : {X : Type 0} (number_of : X → ℕ) (least : ℕ) (xs : List X) → Rises number_of least xs →
    IsStrictlyIncreasing (map number_of xs)
increasing number_of least [] rises k within = absurd (omega arith)
increasing number_of least (x ∷ []) rises k within = absurd (omega arith)
increasing number_of least (x ∷ y ∷ ys) rises zero within = rises.1.0
increasing number_of least (x ∷ y ∷ ys) rises (suc k) within =
    rw add-one
    (let more = increasing number_of (suc (number_of x)) (y ∷ ys) rises.1 k (omega (arith, within)) in rw add-one at more)

-- and strictly increasing numbers rise
rising : {X : Type 0} (number_of : X → ℕ) (least : ℕ) (x : X) (xs : List X) → least ≤ number_of x →
    IsStrictlyIncreasing (map number_of (x ∷ xs)) → Rises number_of least (x ∷ xs)
rising number_of least x [] low up = (low, tt)
rising number_of least x (y ∷ ys) low up =
    let next : number_of x < number_of y = up 0 (omega arith) in
    let more : IsStrictlyIncreasing (map number_of (y ∷ ys)) =
    λ k within. let at = up (suc k) (omega (arith, within)) in rw add-one (rw add-one at at) in
    (low, rising number_of (suc (number_of x)) y ys (omega arith) more)

risen : {X : Type 0} (number_of : X → ℕ) (xs : List X) → IsStrictlyIncreasing (map number_of xs) → Rises number_of 0 xs
risen number_of [] up = tt
risen number_of (x ∷ xs) up = rising number_of 0 x xs (omega arith) up

-- what is asked of an item with a least number is what is asked of any, and that its number is at least so much
pub record IsNumbered {X : Type 0} (item : ℕ → Grammar X) (number_of : X → ℕ) : Type 0 where
  pub spelled : (least : ℕ) → (item least).spelling ≡ (item 0).spelling
  pub above : (least : ℕ) (x : X) → (item least).spellable x → (item 0).spellable x × (least ≤ number_of x)
  pub from : (least : ℕ) (x : X) → (item 0).spellable x → least ≤ number_of x → (item least).spellable x

-- so many items with ascending numbers
abbrev pub some_ascending : {X : Type 0} → (ℕ → Grammar X) → (X → ℕ) → ℕ → ℕ → Grammar (List X)
some_ascending item number_of least n = record {
  spelling = flat_map ((item 0).spelling);
  spellable = λ xs. (length xs ≡ n) × All ((item 0).spellable) xs × Rises number_of least xs;
  breaks = ascending_items item number_of least n;
}

-- are read exactly
pub ascending_items-exact : {X : Type 0} {G : ℕ → Grammar X} {number_of : X → ℕ} {p : ℕ → List ℕ → Read X} →
    IsNumbered G number_of → ((least : ℕ) → Exact (G least) (p least)) → (n least : ℕ) →
    Exact (some_ascending G number_of least n) (ascending_items_in p number_of least n)
unfolding ascending_items_in
ascending_items-exact {X = X} {G = G} {number_of = number_of} {p = p} numbered exact zero least = record {
  sound = λ bytes small. record { lawful = (refl, λ k d within. absurd (omega arith), tt); front = refl };
  again = again;
  faults = λ bytes small. faults_none _ bytes;
}
  where
    again : (xs : List X) (rest : List ℕ) → (some_ascending G number_of least zero).spellable xs →
        ascending_items_in p number_of least zero (flat_map ((G 0).spelling) xs ++ rest) ≡ Ok (xs, rest)
    again [] rest lawful = refl
    again (x ∷ xs) rest lawful = absurd (omega (arith, lawful.0))
ascending_items-exact {X = X} {G = G} {number_of = number_of} {p = p} numbered exact (suc n) least = record {
  sound = λ bytes small.
      sound_then (some_ascending G number_of least (suc n)) (λ b. b) _ (exact least)
      (λ x m lawful small.
      sound_then (some_ascending G number_of least (suc n)) (λ b. (G least).spelling x ++ b) _ (ascending_items-exact numbered exact n (suc (number_of x)))
      (λ xs rest others small. record {
        lawful = (
          ap suc others.0,
          All-cons ((G 0).spellable) x xs (numbered.above least x lawful).0 others.1,
          ((numbered.above least x lawful).1, others.2),
        );
        front = ap (λ spelling. spelling x ++ (flat_map ((G 0).spelling) xs ++ rest)) (numbered.spelled least)
            ∙ sym (append_assoc ((G 0).spelling x) (flat_map ((G 0).spelling) xs) rest);
      }) m small) bytes small;
  again = again (λ least. ascending_items-exact numbered exact n least);
  faults = λ bytes small.
      faults_then (exact least)
      (λ x m small. kept_faults (λ xs rest. (x ∷ xs, rest))
      ((ascending_items-exact numbered exact n (suc (number_of x))).faults m small)) bytes small;
}
  where
    again : ((least : ℕ) → Exact (some_ascending G number_of least n) (ascending_items_in p number_of least n)) →
        (xs : List X) (rest : List ℕ) → (some_ascending G number_of least (suc n)).spellable xs →
        ascending_items_in p number_of least (suc n) (flat_map ((G 0).spelling) xs ++ rest) ≡ Ok (xs, rest)
    again others [] rest lawful = absurd (omega (arith, lawful.0))
    again others (x ∷ xs) rest lawful =
        ap (ascending_items_in p number_of least (suc n))
        (append_assoc ((G 0).spelling x) (flat_map ((G 0).spelling) xs) rest
        ∙ ap (λ spelling. spelling x ++ (flat_map ((G 0).spelling) xs ++ rest)) (sym (numbered.spelled least)))
        ∙ again_then _ (exact least) x (flat_map ((G 0).spelling) xs ++ rest)
        (numbered.from least x (All-head ((G 0).spellable) x xs lawful.1) lawful.2.0)
        ∙ again_then _ (others (suc (number_of x))) xs rest
        (omega (arith, lawful.0), All-tail ((G 0).spellable) x xs lawful.1, lawful.2.1)

-- a list whose items have ascending numbers
pub ascending-exact : {X : Type 0} {G : ℕ → Grammar X} {number_of : X → ℕ} {p : ℕ → List ℕ → Read X} →
    IsNumbered G number_of → ((least : ℕ) → Exact (G least) (p least)) →
    Exact (ascending G number_of) (ascending_in p number_of)
ascending-exact {X = X} {G = G} {number_of = number_of} {p = p} numbered exact = record {
  sound = λ bytes small.
      sound_then (ascending G number_of) (λ b. b) _ any_short-exact
      (λ n m lawful small.
      kept_sound (ascending_items-exact numbered exact n 0)
      (λ r. Reads (ascending G number_of) r.0 (short n ++ m) r.1) m small
      (λ xs rest others front. record {
        lawful = (omega (arith, others.0, lawful.1), others.1, increasing number_of 0 xs others.2);
        front = ap (λ b. short n ++ b) front ∙ sym (append_assoc (short n) (flat_map ((G 0).spelling) xs) rest)
            ∙ ap (λ k. (short k ++ flat_map ((G 0).spelling) xs) ++ rest) (sym others.0);
      })) bytes small;
  again = λ xs rest lawful.
      ap (ascending_in p number_of) (append_assoc (short (length xs)) (flat_map ((G 0).spelling) xs) rest)
      ∙ again_then (ascending_items_in p number_of 0) any_short-exact (length xs)
      (flat_map ((G 0).spelling) xs ++ rest) (omega arith, omega (arith, lawful.0))
      ∙ (ascending_items-exact numbered exact (length xs) 0).again xs rest (refl, lawful.1, risen number_of xs lawful.2);
  faults = λ bytes small.
      faults_then any_short-exact (λ n m small. (ascending_items-exact numbered exact n 0).faults m small) bytes small;
}
