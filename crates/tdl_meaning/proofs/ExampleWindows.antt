-- The placement of the three modules is lawful, and their windows do not clash.
use Rattle.std.proofs.Common.{◌≡◌, ◌⊎◌, inl, inr, ℕ, zero, suc, ◌<◌, length, true, false, ◌==◌, refl, sym, ◌∙◌, arith}
use Rattle.std.specs.Prelude.{◌%◌}
use Rattle.std.proofs.lemmas.Bool.{eq-eqb}
use Rattle.tdl_deploy.specs.declared.schedule.Window.{Window}
use Rattle.tdl_deploy.specs.Placed.{hosts}
use Rattle.tdl_deploy.specs.Passes.{is_bus, Clear, ApartModulo, WellPlaced}
use Rattle.tdl_meaning.specs.ExampleThree.{three_modules, on_nodes, turns_taken}
use Rattle.tdl_meaning.proofs.ExamplePlaces.{◌▸◌, EachTwo}
use Rattle.tdl_meaning.proofs.ExampleModes.{one_import, one_of_two}
use Rattle.tdl_meaning.proofs.ExampleGrains.{meter_apart_watch, meter_apart_panel}

-- ---- the placement

-- the node of each module
node_of : (m : ℕ) → m < length three_modules.modules → (n : ℕ) × (hosts on_nodes n m ≡ true)
node_of zero lt = (0, refl)
node_of (suc zero) lt = (1, refl)
node_of (suc (suc zero)) lt = (0, refl)
node_of (suc (suc (suc m))) lt = absurd (omega (arith, lt))

-- modules 0 and 2 stand on node 0, and module 1 on node 1
at_home : (m n : ℕ) → hosts on_nodes n m ≡ true → (m < 3) × (n ≡ m % 2)
at_home m zero h = by_two (one_of_two m 0 2 h)
  where
    by_two : (m ≡ 0) ⊎ (m ≡ 2) → (m < 3) × (0 ≡ m % 2)
    by_two (inl e) = (omega (arith, e), omega (arith, e))
    by_two (inr e) = (omega (arith, e), omega (arith, e))
at_home m (suc zero) h = let e = one_import m 1 h in (omega (arith, e), omega (arith, e))
at_home m (suc (suc n)) h = absurd (cc h)

-- each module stands on one node
pub three_placed : WellPlaced three_modules on_nodes
three_placed = record {
  hosted = node_of;
  once = λ m n k h g. (at_home m n h).1 ∙ sym ((at_home m k g).1);
  there = λ m n h. (at_home m n h).0;
}

-- ---- premises that fail

-- a processor window is said to be of the bus
no_bus : {Y : Type 0} → false ≡ true → Y
no_bus e = absurd (cc e)

-- a bus window is said to be of the processor
no_cpu : {Y : Type 0} → true ≡ false → Y
no_cpu e = absurd (cc e)

-- the second premise fails, and not the first
then : {X Y Z : Type 0} → (X → Y) → Z → X → Y
then fails z x = fails x

-- windows of one module are said to be of two
same : {X Y Z : Type 0} → X → Z → true ≡ false → Y
same x z e = absurd (cc e)

-- windows of two modules are said to be of one
other_module : {X Y Z : Type 0} (m k : ℕ) → (m == k) ≡ false → X → m ≡ k → Z → Y
other_module m k differ x e z = absurd (cc (sym (eq-eqb m k e) ∙ differ))

-- windows of two modes are said to be of one
other_mode : {X Y Z : Type 0} (m k : ℕ) → (m == k) ≡ false → X → Z → m ≡ k → Y
other_mode m k differ x z e = absurd (cc (sym (eq-eqb m k e) ∙ differ))

-- a module of an even number and one of an odd number are said to stand on one node
other_node : {X Y Z W : Type 0} (m k : ℕ) → (m % 2 ≡ k % 2 → ⊥) →
    X → Y → Z → (node : ℕ) → hosts on_nodes node m ≡ true → hosts on_nodes node k ≡ true → W
other_node m k differ x y z node h g = absurd (differ (sym ((at_home m node h).1) ∙ (at_home k node g).1))

-- ---- the windows, two by two: each with those after it

-- where two windows are of one resource, module and mode, they do not overlap
abbrev pub Disjoint : Window → Window → Type 0
Disjoint v w = is_bus v.resource ≡ is_bus w.resource → v.module.0 ≡ w.module.0 → v.mode.0 ≡ w.mode.0 → Clear v w

-- each two windows are so
pub all_disjoint : EachTwo Disjoint turns_taken.windows
all_disjoint =
    ((λ a b c. inl (omega arith)) ▸ no_bus ▸ other_mode 0 1 refl ▸ other_mode 0 1 refl ▸ no_bus
    ▸ other_module 0 1 refl ▸ no_bus ▸ other_module 0 2 refl ▸ tt)
    ▸ (no_bus ▸ other_mode 0 1 refl ▸ other_mode 0 1 refl ▸ no_bus ▸ other_module 0 1 refl ▸ no_bus
    ▸ other_module 0 2 refl ▸ tt)
    ▸ (no_cpu ▸ no_cpu ▸ other_mode 0 1 refl ▸ no_cpu ▸ other_module 0 1 refl ▸ no_cpu ▸ tt)
    ▸ ((λ a b c. inl (omega arith)) ▸ no_bus ▸ other_module 0 1 refl ▸ no_bus ▸ other_module 0 2 refl ▸ tt)
    ▸ (no_bus ▸ other_module 0 1 refl ▸ no_bus ▸ other_module 0 2 refl ▸ tt)
    ▸ (no_cpu ▸ other_module 0 1 refl ▸ no_cpu ▸ tt)
    ▸ (no_bus ▸ other_module 1 2 refl ▸ tt)
    ▸ (no_cpu ▸ tt)
    ▸ tt
    ▸ tt

-- where two windows are of two modules and of the processor of one node, they do not meet
abbrev pub ApartOnNode : Window → Window → Type 0
ApartOnNode v w =
    is_bus v.resource ≡ false → is_bus w.resource ≡ false → (v.module.0 == w.module.0) ≡ false → (node : ℕ) →
    hosts on_nodes node v.module.0 ≡ true → hosts on_nodes node w.module.0 ≡ true → ApartModulo three_modules v w

-- each two windows are so
pub all_apart_on_nodes : EachTwo ApartOnNode turns_taken.windows
all_apart_on_nodes =
    (same ▸ then no_cpu ▸ same ▸ same ▸ then no_cpu ▸ other_node 0 1 (λ e. absurd (cc e)) ▸ then no_cpu
    ▸ (λ a b c node d e. meter_apart_watch _ _ refl refl
    (λ m. omega (arith, m.y_from, m.y_below, m.z_from, m.z_below, m.same)))
    ▸ tt)
    ▸ (then no_cpu ▸ same ▸ same ▸ then no_cpu ▸ other_node 0 1 (λ e. absurd (cc e)) ▸ then no_cpu
    ▸ (λ a b c node d e. meter_apart_watch _ _ refl refl
    (λ m. omega (arith, m.y_from, m.y_below, m.z_from, m.z_below, m.same)))
    ▸ tt)
    ▸ (no_cpu ▸ no_cpu ▸ no_cpu ▸ no_cpu ▸ no_cpu ▸ no_cpu ▸ tt)
    ▸ (same ▸ then no_cpu ▸ other_node 0 1 (λ e. absurd (cc e)) ▸ then no_cpu
    ▸ (λ a b c node d e. meter_apart_watch _ _ refl refl
    (λ m. omega (arith, m.y_from, m.y_below, m.z_from, m.z_below, m.same)))
    ▸ tt)
    ▸ (then no_cpu ▸ other_node 0 1 (λ e. absurd (cc e)) ▸ then no_cpu
    ▸ (λ a b c node d e. meter_apart_watch _ _ refl refl
    (λ m. omega (arith, m.y_from, m.y_below, m.z_from, m.z_below, m.same)))
    ▸ tt)
    ▸ (no_cpu ▸ no_cpu ▸ no_cpu ▸ tt)
    ▸ (then no_cpu ▸ other_node 1 2 (λ e. absurd (cc e)) ▸ tt)
    ▸ (no_cpu ▸ tt)
    ▸ tt
    ▸ tt

-- where two windows are of two modules and of the bus, they do not meet
abbrev pub ApartOnBus : Window → Window → Type 0
ApartOnBus v w =
    is_bus v.resource ≡ true → is_bus w.resource ≡ true → (v.module.0 == w.module.0) ≡ false →
    ApartModulo three_modules v w

-- each two windows are so
pub all_apart_on_bus : EachTwo ApartOnBus turns_taken.windows
all_apart_on_bus =
    (no_bus ▸ no_bus ▸ no_bus ▸ no_bus ▸ no_bus ▸ no_bus ▸ no_bus ▸ no_bus ▸ tt)
    ▸ (no_bus ▸ no_bus ▸ no_bus ▸ no_bus ▸ no_bus ▸ no_bus ▸ no_bus ▸ tt)
    ▸ (then no_bus ▸ then no_bus ▸ same ▸ then no_bus
    ▸ (λ a b c. meter_apart_panel _ _ refl refl (λ m. omega (arith, m.y_from, m.y_below, m.z_from, m.z_below, m.same)))
    ▸ then no_bus ▸ tt)
    ▸ (no_bus ▸ no_bus ▸ no_bus ▸ no_bus ▸ no_bus ▸ tt)
    ▸ (no_bus ▸ no_bus ▸ no_bus ▸ no_bus ▸ tt)
    ▸ (then no_bus
    ▸ (λ a b c. meter_apart_panel _ _ refl refl (λ m. omega (arith, m.y_from, m.y_below, m.z_from, m.z_below, m.same)))
    ▸ then no_bus ▸ tt)
    ▸ (no_bus ▸ no_bus ▸ tt)
    ▸ (then no_bus ▸ tt)
    ▸ tt
    ▸ tt
