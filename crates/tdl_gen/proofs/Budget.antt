-- The declared count of a module is enough for its blocks at any offset.
use Rattle.std.proofs.Common.{◌≡◌, ℕ, ◌+◌, ◌<◌, ◌≤◌, max, List, [], ◌∷◌, map, Bool, true, false, ◌||◌, ◌==◌, nat_lt, nat_le, Some, filter, refl, ap, sym, ◌∙◌, arith}
use Rattle.std.specs.Prelude.{slice_get, if◌then◌else◌}
use Rattle.std.specs.List.{list_any}
use Rattle.std.proofs.lemmas.Bool.{eqb-true, or_left, or_right}
use Rattle.std.proofs.lemmas.Bool.Decides.{nat_tests}
use Rattle.tdl_mode.specs.declared.program.Module.{Module}
use Rattle.tdl_mode.specs.declared.program.Mode.{Mode}
use Rattle.tdl_mode.specs.Offsets.{offset_list, offsets, is_offset}
use Rattle.tdl_gen.specs.BlockNames.{BlockName}
use Rattle.tdl_gen.specs.Counts.{greatest, length_of, before_starts, at_offsets, has_ends, has_starts, module_count}
use Rattle.tdl_gen.proofs.BlockPlaces.{any-joined, any-ascending}

-- a number that some number reaches is at most the greatest
pub below_greatest : (n : ℕ) (l : List ℕ) → list_any (λ c. nat_le n c) l ≡ true → n ≤ greatest l
below_greatest n [] h = absurd (cc h)
below_greatest n (c ∷ l) h = by_test (below_greatest n l) (nat_le n c) refl
  where
    le : (n c g : ℕ) → nat_le n c ≡ true → n ≤ max c g
    le n c g e = grind (arith, nat_tests, e)

    by_test : (list_any (λ c. nat_le n c) l ≡ true → n ≤ greatest l) → (t : Bool) → nat_le n c ≡ t →
        n ≤ max c (greatest l)
    by_test rest true e = le n c (greatest l) e
    by_test rest false e = let r = rest (sym (ap (λ v. v || list_any (λ c. nat_le n c) l) e) ∙ h) in omega (arith, r)

-- what is made of an item that is there and passes is among what is made of those that pass
any-kept : (q : ℕ → Bool) (p : ℕ → Bool) (g : ℕ → ℕ) (o : ℕ) (xs : List ℕ) → p o ≡ true → q (g o) ≡ true →
    list_any (λ x. x == o) xs ≡ true → list_any q (map g (filter p xs)) ≡ true
any-kept q p g o [] hp hq h = absurd (cc h)
any-kept q p g o (x ∷ xs) hp hq h = by_test (any-kept q p g o xs hp hq) (x == o) refl (p x) refl
  where
    by_test : (list_any (λ x. x == o) xs ≡ true → list_any q (map g (filter p xs)) ≡ true) → (t : Bool) →
        (x == o) ≡ t → (s : Bool) → p x ≡ s → list_any q (map g (if s then x ∷ filter p xs else filter p xs)) ≡ true
    by_test rest true e true f = or_left (q (g x)) _ (ap (λ n. q (g n)) (eqb-true x o e) ∙ hq)
    by_test rest true e false f = absurd (cc (f, ap p (eqb-true x o e), hp))
    by_test rest false e true f = or_right (q (g x)) _ (rest (sym (ap (λ v. v || list_any (λ x. x == o) xs) e) ∙ h))
    by_test rest false e false f = rest (sym (ap (λ v. v || list_any (λ x. x == o) xs) e) ∙ h)

-- a number is at most itself
le_self : (n : ℕ) → nat_le n n ≡ true
le_self n = grind (arith, nat_tests)

-- the number of an offset of a mode that passes is at most the greatest of all such numbers
pub at_most : (passes : Mode → ℕ → Bool) (f : ℕ → ℕ → ℕ) (m : Module) (k o : ℕ) (mode : Mode) →
    slice_get m.modes k ≡ Some mode → is_offset mode o ≡ true → passes mode o ≡ true →
    f k o ≤ greatest (at_offsets passes f m)
at_most passes f m k o mode at off pass =
    let e : 0 + k ≡ k = omega arith in
    below_greatest (f k o) (at_offsets passes f m)
    (any-joined (λ c. nat_le (f k o) c) (λ k mode. map (f k) (filter (passes mode) (offsets mode))) 0 k m.modes mode at
    (ap (λ j. list_any (λ c. nat_le (f k o) c) (map (f j) (filter (passes mode) (offsets mode)))) e
    ∙ any-kept (λ c. nat_le (f k o) c) (passes mode) (f k) o (offsets mode) pass (le_self (f k o))
    (any-ascending (λ p. p == o) (offset_list mode) ∙ off)))

-- the blocks of phases 1 to 3 at an offset above 0, and of phase 4 at an offset below the period
pub enough : (m : Module) (k o j p : ℕ) (mode mode' : Mode) → slice_get m.modes k ≡ Some mode →
    is_offset mode o ≡ true → 0 < o → slice_get m.modes j ≡ Some mode' → is_offset mode' p ≡ true → p < mode'.period.0 →
    length_of m (BlockName.Ends k o) + length_of m (BlockName.Updates k o) + length_of m
    (BlockName.Switches k o) + length_of m (BlockName.Starts j p) ≤ module_count m
enough m k o j p mode mode' at off above at' off' below =
    let a = at_most has_ends (before_starts m) m k o mode at off (lt 0 o above) in
    let b = at_most has_starts (λ k o. length_of m (BlockName.Starts k o)) m j p mode' at' off'
    (lt p mode'.period.0 below) in
    omega (arith, a, b)
  where
    lt : (a b : ℕ) → a < b → nat_lt a b ≡ true
    lt a b h = grind (arith, nat_tests, h)
