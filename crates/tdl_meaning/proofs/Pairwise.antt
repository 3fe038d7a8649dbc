-- Something of each item of a list, and of each two: it stays when the windows of a schedule are put in order, and
-- bounds how many pass a test.
use Rattle.std.proofs.Common.{◌≡◌, ℕ, suc, ◌<◌, ◌≤◌, List, [], ◌∷◌, map, length, Bool, true, false, Some, filter, refl, ap, arith}
use Rattle.std.specs.Prelude.{slice_get, if◌then◌else◌}
use Rattle.tdl_image.specs.declared.hosted.ImageWindow.{ImageWindow}
use Rattle.tdl_base.specs.Lists.{inserted}
use Rattle.tdl_gen.specs.Tables.{is_before, ordered_from}
use Rattle.tdl_meaning.specs.AllItems.{Every}
use Rattle.tdl_meaning.proofs.Every.{all-at}
use Rattle.tdl_meaning.proofs.FilterCounts.{filter-none}

-- what is made of each item that passes has P, if P holds of what is made of such an item
pub every-made : {A B : Type 0} (P : B → Type 0) (f : A → B) (p : A → Bool) (xs : List A) →
    ((n : ℕ) (a : A) → slice_get xs n ≡ Some a → p a ≡ true → P (f a)) → Every P (map f (filter p xs))
every-made P f p [] h = tt
every-made P f p (x ∷ xs) h = by_test (every-made P f p xs (λ n a at. h (suc n) a at)) (p x) refl
  where
    by_test : Every P (map f (filter p xs)) → (t : Bool) → p x ≡ t →
        Every P (map f (if t then x ∷ filter p xs else filter p xs))
    by_test rest true e = (h 0 x refl e, rest)
    by_test rest false e = rest

-- something of each item is another that follows from it
pub every-mapped : {A : Type 0} (P Q : A → Type 0) (vs : List A) → ((v : A) → P v → Q v) → Every P vs → Every Q vs
every-mapped P Q [] h e = tt
every-mapped P Q (v ∷ vs) h e = (h v e.0, every-mapped P Q vs h e.1)

-- what passes a test has what all have, and passes
pub every-kept : {A : Type 0} (P : A → Type 0) (q : A → Bool) (vs : List A) → Every P vs →
    Every (λ v. P v × (q v ≡ true)) (filter q vs)
every-kept P q [] e = tt
every-kept P q (v ∷ vs) e = by_test (every-kept P q vs e.1) (q v) refl
  where
    by_test : Every (λ v. P v × (q v ≡ true)) (filter q vs) → (t : Bool) → q v ≡ t →
        Every (λ v. P v × (q v ≡ true)) (if t then v ∷ filter q vs else filter q vs)
    by_test rest true h = ((e.0, h), rest)
    by_test rest false h = rest

-- something of each two items, the first of them in front of the second
abbrev pub Pairwise : {A : Type 0} → (A → A → Type 0) → List A → Type 0
Pairwise P [] = Unit {0}
Pairwise P (a ∷ l) = Every (P a) l × Pairwise P l

-- what is made of two items that pass has P, if P holds of what is made of two such items
pub pairwise-made : {A B : Type 0} (P : B → B → Type 0) (f : A → B) (p : A → Bool) (xs : List A) →
    ((q r : ℕ) (a b : A) → q < r → slice_get xs q ≡ Some a → slice_get xs r ≡ Some b → p a ≡ true → p b ≡ true →
    P (f a) (f b)) → Pairwise P (map f (filter p xs))
pairwise-made P f p [] h = tt
pairwise-made P f p (x ∷ xs) h = by_test (pairwise-made P f p xs
    (λ q r a b lt. h (suc q) (suc r) a b (omega (arith, lt)))) (p x) refl
  where
    by_test : Pairwise P (map f (filter p xs)) → (t : Bool) → p x ≡ t →
        Pairwise P (map f (if t then x ∷ filter p xs else filter p xs))
    by_test rest true e = (every-made (P (f x)) f p xs (λ n a at pa. h 0 (suc n) x a (omega arith) refl at e pa), rest)
    by_test rest false e = rest

-- something of each window stays when one more is put in its place
every-placed : (P : ImageWindow → Type 0) (w : ImageWindow) (vs : List ImageWindow) → P w → Every P vs →
    Every P (inserted is_before w vs)
every-placed P w [] h e = (h, tt)
every-placed P w (v ∷ vs) h e = by_test (every-placed P w vs h e.1) (is_before w v)
  where
    by_test : Every P (inserted is_before w vs) → (t : Bool) →
        Every P (if t then w ∷ v ∷ vs else v ∷ inserted is_before w vs)
    by_test rest true = (h, e)
    by_test rest false = (e.0, rest)

-- something of each window stays when they are put in order
pub every-ordered : (P : ImageWindow → Type 0) (done ws : List ImageWindow) → Every P done → Every P ws →
    Every P (ordered_from done ws)
every-ordered P done [] d e = d
every-ordered P done (w ∷ ws) d e = every-ordered P (inserted is_before w done) ws (every-placed P w done e.0 d) e.1

-- something of two windows, whichever of them is the first
module _ (P : ImageWindow → ImageWindow → Type 0) (turned : (a b : ImageWindow) → P a b → P b a) where
  -- it stays when one more is put in its place
  pairwise-placed : (w : ImageWindow) (vs : List ImageWindow) → Every (P w) vs → Pairwise P vs →
      Pairwise P (inserted is_before w vs)
  pairwise-placed w [] e p = (tt, tt)
  pairwise-placed w (v ∷ vs) e p = by_test (pairwise-placed w vs e.1 p.1) (is_before w v)
    where
      by_test : Pairwise P (inserted is_before w vs) → (t : Bool) →
          Pairwise P (if t then w ∷ v ∷ vs else v ∷ inserted is_before w vs)
      by_test rest true = (e, p)
      by_test rest false = (every-placed (P v) w vs (turned w v e.0) p.0, rest)

  -- it holds of each window to come with all that are placed, after one more is placed
  crossed : (w : ImageWindow) (done ws : List ImageWindow) → Every (P w) ws → Every (λ v. Every (P v) done) ws →
      Every (λ v. Every (P v) (inserted is_before w done)) ws
  crossed w done [] e d = tt
  crossed w done (v ∷ ws) e d = (every-placed (P v) w done (turned w v e.0) d.0, crossed w done ws e.1 d.1)

  -- it stays when the windows are put among those that are in order
  pairwise-ordered : (done ws : List ImageWindow) → Pairwise P done → Every (λ v. Every (P v) done) ws → Pairwise P ws →
      Pairwise P (ordered_from done ws)
  pairwise-ordered done [] d c p = d
  pairwise-ordered done (w ∷ ws) d c p = pairwise-ordered (inserted is_before w done) ws (pairwise-placed w done c.0 d)
      (crossed w done ws p.0 c.1) p.1

  -- it holds of each window with none
  nothing_done : (ws : List ImageWindow) → Every (λ v. Every (P v) []) ws
  nothing_done [] = tt
  nothing_done (w ∷ ws) = (tt, nothing_done ws)

  -- it stays when the windows are put in order
  pub pairwise-all : (ws : List ImageWindow) → Pairwise P ws → Pairwise P (ordered_from [] ws)
  pairwise-all ws p = pairwise-ordered [] ws tt (nothing_done ws) p

-- where no two items pass both, at most one is left
pub filter-few : {A : Type 0} (p : A → Bool) (xs : List A) → Pairwise (λ a b. p a ≡ true → p b ≡ true → ⊥) xs →
    length (filter p xs) ≤ 1
filter-few p [] e = omega arith
filter-few p (x ∷ xs) e = by_test (filter-few p xs e.1) (p x) refl
  where
    by_test : length (filter p xs) ≤ 1 → (t : Bool) → p x ≡ t → length (if t then x ∷ filter p xs else filter p xs) ≤ 1
    by_test rest true q =
        let none : filter p xs ≡ [] = filter-none p xs (all-at (λ b. p b ≡ true → ⊥) xs
        (every-mapped (λ b. p x ≡ true → p b ≡ true → ⊥) (λ b. p b ≡ true → ⊥) xs (λ b h. h q) e.0)) in
        let l : length (filter p xs) ≡ 0 = ap length none in
        omega (arith, l)
    by_test rest false q = rest
