-- The block of a name stands at the name's number.
use Rattle.std.proofs.Common.{◌≡◌, ℕ, ◌+◌, ◌<◌, Bool, true, false, ◌||◌, ◌&&◌, ◌==◌, nat_lt, List, [], ◌∷◌, map, Some, refl, ap, ap₂, sym, ◌∙◌, arith}
use Rattle.std.specs.Prelude.{slice_get, flat_map, if◌then◌else◌}
use Rattle.std.specs.List.{list_any}
use Rattle.std.proofs.lemmas.Bool.{eqb-true, or_left, or_right, and_parts, and_from}
use Rattle.std.proofs.Math.Bool.{or_self_left}
use Rattle.std.proofs.lemmas.Bool.Decides.{nat_tests}
use Rattle.std.proofs.lemmas.List.Folds.{list_any-append}
use Rattle.tdl_base.specs.Lists.{inserted}
use Rattle.tdl_mode.specs.declared.program.Module.{Module}
use Rattle.tdl_mode.specs.declared.program.Mode.{Mode}
use Rattle.tdl_mode.specs.Offsets.{ascending, offset_list, offsets, is_offset}
use Rattle.tdl_gen.specs.BlockNames.{BlockName, names_at, block_names, is_same, place, block_number}
use Rattle.tdl_gen.specs.Blocks.{block_of, blocks_of, mode_block}
pub use Rattle.tdl_base.proofs.Among.{any-joined}
use Rattle.tdl_base.proofs.Among.{any-flat_map}
use Rattle.tdl_base.proofs.Tests.{eq_self}

-- what is made of two pairs of numbers that are the same is equal
pair_is : (A : Type 0) (f : ℕ → ℕ → A) (m k o p : ℕ) → (m == k && o == p) ≡ true → f m o ≡ f k p
pair_is A f m k o p h = let both = and_parts (m == k) (o == p) h in ap₂ f (eqb-true m k both.0) (eqb-true o p both.1)

-- a name is the same as itself
pub is_same-self : (a : BlockName) → is_same a a ≡ true
is_same-self BlockName.Boot = refl
is_same-self (BlockName.Ends k o) = and_from (k == k) (o == o) (eq_self k) (eq_self o)
is_same-self (BlockName.Updates k o) = and_from (k == k) (o == o) (eq_self k) (eq_self o)
is_same-self (BlockName.Switches k o) = and_from (k == k) (o == o) (eq_self k) (eq_self o)
is_same-self (BlockName.Starts k o) = and_from (k == k) (o == o) (eq_self k) (eq_self o)

-- names that are the same are equal
pub is_same-is : (a b : BlockName) → is_same a b ≡ true → a ≡ b
is_same-is BlockName.Boot BlockName.Boot h = refl
is_same-is (BlockName.Ends m o) (BlockName.Ends k p) h = pair_is BlockName BlockName.Ends m k o p h
is_same-is (BlockName.Updates m o) (BlockName.Updates k p) h = pair_is BlockName BlockName.Updates m k o p h
is_same-is (BlockName.Switches m o) (BlockName.Switches k p) h = pair_is BlockName BlockName.Switches m k o p h
is_same-is (BlockName.Starts m o) (BlockName.Starts k p) h = pair_is BlockName BlockName.Starts m k o p h
is_same-is a b h = absurd (cc h)

-- ---- what stands at a name's place

-- what is made of a name that is among these stands at its place
pub named : {A B : Type 0} (same : A → A → Bool) → ((a b : A) → same a b ≡ true → a ≡ b) →
    (f : A → B) (a : A) (l : List A) → list_any (same a) l ≡ true →
    slice_get (map f l) (place same a l) ≡ Some (f a)
named same is f a [] h = absurd (cc h)
named same is f a (b ∷ bs) h = by_test (named same is f a bs) (same a b) refl
  where
    by_test : (list_any (same a) bs ≡ true → slice_get (map f bs) (place same a bs) ≡ Some (f a)) → (t : Bool) →
        same a b ≡ t →
        slice_get (map f (b ∷ bs)) (place same a (b ∷ bs)) ≡ Some (f a)
    by_test rest true e = rw e (ap (λ c. Some (f c)) (sym (is a b e)))
    by_test rest false e = rw e (rest (sym (ap (λ t. t || list_any (same a) bs) e) ∙ h))

-- ---- what is among lists

-- the first two of three tests change places
swap_or : (a b c : Bool) → (a || (b || c)) ≡ (b || (a || c))
swap_or true true c = refl
swap_or true false c = refl
swap_or false b c = refl

-- an item that passes is among items with one inserted where it is that one or among them
pub any-inserted : {A : Type 0} (before : A → A → Bool) (q : A → Bool) (x : A) (ys : List A) →
    list_any q (inserted before x ys) ≡ (q x || list_any q ys)
any-inserted before q x [] = refl
any-inserted before q x (y ∷ ys) = by_order (any-inserted before q x ys) (before x y)
  where
    by_order : list_any q (inserted before x ys) ≡ (q x || list_any q ys) → (first : Bool) →
        list_any q (if first then x ∷ y ∷ ys else y ∷ inserted before x ys) ≡ (q x || (q y || list_any q ys))
    by_order rest true = refl
    by_order rest false = ap (λ b. q y || b) rest ∙ swap_or (q y) (q x) (list_any q ys)

-- a number that is among others changes nothing of what passes among them
any-there : (q : ℕ → Bool) (o : ℕ) (os : List ℕ) → list_any (λ p. p == o) os ≡ true →
    (q o || list_any q os) ≡ list_any q os
any-there q o [] there = cc
any-there q o (p ∷ ps) there = by_first (any-there q o ps) (p == o) refl there
  where
    by_first : (list_any (λ n. n == o) ps ≡ true → (q o || list_any q ps) ≡ list_any q ps) → (same : Bool) →
        (p == o) ≡ same → (same || list_any (λ n. n == o) ps) ≡ true →
        (q o || (q p || list_any q ps)) ≡ (q p || list_any q ps)
    by_first rest true is h = let same : p ≡ o = eqb-true p o is in
        ap (λ n. q n || (q p || list_any q ps)) (sym same) ∙ or_self_left (q p) (list_any q ps)
    by_first rest false is h = swap_or (q o) (q p) (list_any q ps) ∙ ap (λ b. q p || b) (rest h)

-- an offset that passes is among ascending offsets where it is among them in any order
pub any-ascending : (q : ℕ → Bool) (os : List ℕ) → list_any q (ascending os) ≡ list_any q os
any-ascending q [] = refl
any-ascending q (o ∷ os) = by_there (any-ascending q os) (list_any (λ p. p == o) os) refl
  where
    by_there : list_any q (ascending os) ≡ list_any q os → (there : Bool) → list_any (λ p. p == o) os ≡ there →
        list_any q (if there then ascending os else inserted nat_lt o (ascending os)) ≡ (q o || list_any q os)
    by_there rest true e = rest ∙ sym (any-there q o os e)
    by_there rest false e = any-inserted nat_lt q o (ascending os) ∙ ap (λ b. q o || b) rest

-- ---- the blocks of a module

-- a name of an offset of a mode is among the names
pub is_named : (m : Module) (k o : ℕ) (mode : Mode) (name : BlockName) → slice_get m.modes k ≡ Some mode →
    is_offset mode o ≡ true →
    list_any (is_same name) (names_at k mode o) ≡ true → list_any (is_same name) (block_names m) ≡ true
is_named m k o mode name at here among =
    or_right (is_same name BlockName.Boot) _
    (any-joined (is_same name) (λ k mode. flat_map (names_at k mode) (offsets mode)) 0 k m.modes mode at
    (let e : 0 + k ≡ k = omega arith in
    ap (λ i. list_any (is_same name) (flat_map (names_at i mode) (offsets mode))) e
    ∙ any-flat_map (λ p. p == o) (is_same name) (names_at k mode)
    (λ p e. ap (λ q. list_any (is_same name) (names_at k mode q)) (eqb-true p o e) ∙ among) (offsets mode)
    (any-ascending (λ p. p == o) (offset_list mode) ∙ here)))

-- the block of a name that is among the names is found at its number
pub block_found : (m : Module) (name : BlockName) → list_any (is_same name) (block_names m) ≡ true →
    slice_get (blocks_of m) (block_number m name) ≡ Some (block_of m name)
block_found m name h = named is_same is_same-is (block_of m) name (block_names m) h

module _ (m : Module) (k o : ℕ) (mode : Mode) (at : slice_get m.modes k ≡ Some mode) (here : is_offset mode o ≡ true)
  where
    -- the test of an offset above 0
    above : 0 < o → nat_lt 0 o ≡ true
    above h = grind (arith, nat_tests, h)

    -- the block of a name of this offset
    found : (name : BlockName) → block_of m name ≡ mode_block m (slice_get m.modes k) name →
        list_any (is_same name) (names_at k mode o) ≡ true →
        slice_get (blocks_of m) (block_number m name) ≡ Some (mode_block m (Some mode) name)
    found name is among =
        block_found m name (is_named m k o mode name at here among)
        ∙ ap Some (is ∙ ap (λ d. mode_block m d name) at)

    -- the block that ends jobs
    pub ends_found : 0 < o → slice_get (blocks_of m) (block_number m (BlockName.Ends k o)) ≡
        Some (mode_block m (Some mode) (BlockName.Ends k o))
    ends_found h =
        let name : BlockName = BlockName.Ends k o in
        found name refl (rw (above h) (or_left (is_same name name) _ (is_same-self name)))

    -- the block of the updates
    pub updates_found : 0 < o → slice_get (blocks_of m) (block_number m (BlockName.Updates k o)) ≡
        Some (mode_block m (Some mode) (BlockName.Updates k o))
    updates_found h =
        let name : BlockName = BlockName.Updates k o in
        found name refl (rw (above h) (or_left (is_same name name) _ (is_same-self name)))

    -- the block of the switches
    pub switches_found : 0 < o → slice_get (blocks_of m) (block_number m (BlockName.Switches k o)) ≡
        Some (mode_block m (Some mode) (BlockName.Switches k o))
    switches_found h =
        let name : BlockName = BlockName.Switches k o in
        found name refl (rw (above h) (or_left (is_same name name) _ (is_same-self name)))

    -- the block of the starts, at an offset below the period
    pub starts_found : o < mode.period.0 → slice_get (blocks_of m) (block_number m (BlockName.Starts k o)) ≡
        Some (mode_block m (Some mode) (BlockName.Starts k o))
    starts_found h =
        let name : BlockName = BlockName.Starts k o in
        let below : nat_lt o mode.period.0 ≡ true = grind (arith, nat_tests, h) in
        let first : List BlockName =
        if nat_lt 0 o then BlockName.Ends k o ∷ BlockName.Updates k o ∷ BlockName.Switches k o ∷ [] else [] in
        found name refl (list_any-append (is_same name) first _
        ∙ or_right (list_any (is_same name) first) _ (rw below (or_left (is_same name name) false (is_same-self name))))
