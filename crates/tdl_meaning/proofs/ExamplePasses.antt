-- The schedule of the three modules passes its test.
use Rattle.std.proofs.Common.{List, [], ◌∷◌, ◌≡◌, ℕ, suc, ◌+◌, ◌<◌, ◌≤◌, length, true, false, Some, filter, refl, ap, sym, ◌∙◌, subst, arith}
use Rattle.std.specs.Prelude.{slice_get, unwrap_or, sum, map, if◌then◌else◌}
use Rattle.tdl_mode.specs.declared.program.Module.{Module}
use Rattle.tdl_mode.specs.declared.program.Mode.{Mode}
use Rattle.tdl_mode.specs.declared.program.Task.{Task}
use Rattle.tdl_mode.specs.declared.program.Invocation.{Invocation}
use Rattle.tdl_mode.specs.States.{invocation_of}
use Rattle.tdl_deploy.specs.declared.schedule.Window.{Window}
use Rattle.tdl_deploy.specs.Placed.{is_remote, duration_of}
use Rattle.tdl_deploy.specs.Passes.{is_bus, is_cpu_of, is_bus_of, deadline, Invoked, Passes}
use Rattle.tdl_meaning.specs.ExampleThree.{count_task, quick_mode, slow_mode, meter, gather_task, gathering_mode, panel, check_task, checking_mode, watch, three_modules, on_nodes, turns_taken}
use Rattle.tdl_meaning.proofs.ExamplePlaces.{◌▸◌, Each, from_each, from_each_number, from_each_two}
use Rattle.tdl_meaning.proofs.ExampleWindows.{Disjoint, ApartOnNode, ApartOnBus, all_disjoint, all_apart_on_nodes, all_apart_on_bus}

-- ---- the invocations of the program

-- what is said of invocation n of mode k of module m and its task
abbrev Said : Type 1
Said = (m k n : ℕ) → Invocation → Task → Type 0

-- it holds of the task of an invocation
abbrev OfTask : Said → Module → (m k n : ℕ) → Invocation → Type 0
OfTask P owner m k n i = Each (λ t task. i.task.0 ≡ t → P m k n i task) owner.tasks

-- it holds of each invocation of a mode
abbrev OfMode : Said → Module → (m k : ℕ) → Mode → Type 0
OfMode P owner m k mode = Each (λ n. OfTask P owner m k (suc n)) mode.invocations

-- it holds of each invocation of a module
abbrev OfModule : Said → ℕ → Module → Type 0
OfModule P m owner = Each (λ k. OfMode P owner m k) owner.modes

-- it holds of each invocation
abbrev OfEach : Said → Type 0
OfEach P = Each (OfModule P) three_modules.modules

-- it holds of each that is there
of_each : (P : Said) → OfEach P → (m k n : ℕ) (i : Invoked three_modules m k n) → P m k n i.invocation i.task
of_each P all m k n i =
    from_each (λ t task. i.invocation.task.0 ≡ t → P m k n i.invocation task) i.owner.tasks of_invocation
    i.invocation.task.0 i.task i.task_at refl
  where
    of_module : OfModule P m i.owner
    of_module = from_each (OfModule P) three_modules.modules all m i.owner i.owner_at

    of_mode : OfMode P i.owner m k i.mode
    of_mode = from_each (λ j. OfMode P i.owner m j) i.owner.modes of_module k i.mode i.mode_at

    of_invocation : OfTask P i.owner m k n i.invocation
    of_invocation =
        from_each_number (λ j. OfTask P i.owner m k j) i.mode.invocations of_mode n i.invocation i.invocation_at

-- ---- the windows, one by one

-- what holds of the invocation of a window holds of all that are said to be it
same_invoked : (m k n : ℕ) (P : Invocation → Task → Type 0) (i j : Invoked three_modules m k n) →
    P i.invocation i.task → P j.invocation j.task
same_invoked m k n P i j h = subst (λ a. a) (λ l. P (invocation_is l) (task_is l)) h
  where
    some : {A : Type 0} (a b : A) → Some a ≡ Some b → a ≡ b
    some a b e = ap (λ o. unwrap_or o a) e

    owner_is : i.owner ≡ j.owner
    owner_is = some i.owner j.owner (sym i.owner_at ∙ j.owner_at)

    mode_is : i.mode ≡ j.mode
    mode_is = some i.mode j.mode (sym i.mode_at ∙ ap (λ (o : Module). slice_get o.modes k) owner_is ∙ j.mode_at)

    invocation_is : i.invocation ≡ j.invocation
    invocation_is =
        some i.invocation j.invocation
        (sym i.invocation_at ∙ ap (λ (d : Mode). invocation_of d.invocations n) mode_is ∙ j.invocation_at)

    task_is : i.task ≡ j.task
    task_is =
        some i.task j.task
        (sym i.task_at
        ∙ ap (λ (o : Module). slice_get o.tasks i.invocation.task.0) owner_is
        ∙ ap (λ (a : Invocation). slice_get j.owner.tasks a.task.0) invocation_is
        ∙ j.task_at)

-- the first invocation of a mode
abbrev first_of : (m k : ℕ) (owner : Module) (mode : Mode) (i : Invocation) (task : Task) →
    slice_get three_modules.modules m ≡ Some owner → slice_get owner.modes k ≡ Some mode →
    invocation_of mode.invocations 1 ≡ Some i → slice_get owner.tasks i.task.0 ≡ Some task → Invoked three_modules m k 1
first_of m k owner mode i task o d v t = record {
  owner = owner;
  mode = mode;
  invocation = i;
  task = task;
  owner_at = o;
  mode_at = d;
  invocation_at = v;
  task_at = t;
}

-- that of the meter's quick mode
abbrev counts : Invoked three_modules 0 0 1
counts = first_of 0 0 meter quick_mode _ count_task refl refl refl refl

-- that of its slow mode
abbrev counts_slowly : Invoked three_modules 0 1 1
counts_slowly = first_of 0 1 meter slow_mode _ count_task refl refl refl refl

-- that of the panel
abbrev gathers : Invoked three_modules 1 0 1
gathers = first_of 1 0 panel gathering_mode _ gather_task refl refl refl refl

-- that of the watch
abbrev checks : Invoked three_modules 2 0 1
checks = first_of 2 0 watch checking_mode _ check_task refl refl refl refl

-- each window with its invocation
abbrev all_invoked : Each (λ q (w : Window). Invoked three_modules w.module.0 w.mode.0 w.invocation)
    turns_taken.windows
all_invoked =
    counts ▸ counts ▸ counts ▸ counts_slowly ▸ counts_slowly ▸ counts_slowly ▸ gathers ▸ gathers ▸ checks ▸ tt

-- each lasts
all_last : Each (λ q (w : Window). 0 < w.length) turns_taken.windows
all_last =
    omega arith ▸ omega arith ▸ omega arith ▸ omega arith ▸ omega arith ▸ omega arith ▸ omega arith ▸ omega arith
    ▸ omega arith ▸ tt

-- what is said of a window, its invocation and its task
abbrev OfWindow : Type 1
OfWindow = Window → Invocation → Task → Type 0

-- each of these windows has its invocation
abbrev AllInvoked : List Window → Type 0
AllInvoked = Each (λ q (w : Window). Invoked three_modules w.module.0 w.mode.0 w.invocation)

-- P holds of each window with the invocation that it has
abbrev EachWith : OfWindow → (ws : List Window) → AllInvoked ws → Type 0
EachWith P [] is = Unit {0}
EachWith P (w ∷ ws) is = P w (is.0).invocation (is.0).task × EachWith P ws is.1

-- P holds of a window with all that is said to be its invocation
abbrev Always : OfWindow → Window → Type 0
Always P w = (i : Invoked three_modules w.module.0 w.mode.0 w.invocation) → P w i.invocation i.task

-- so it does where it holds with the one it has
each_with : (P : OfWindow) (ws : List Window) (is : AllInvoked ws) → EachWith P ws is → Each (λ q w. Always P w) ws
each_with P [] is all = tt
each_with P (w ∷ ws) is all = (
  (λ j. same_invoked w.module.0 w.mode.0 w.invocation (P w) is.0 j all.0),
  each_with P ws is.1 all.1,
)

-- a processor window lies between the start and the deadline of an invocation
abbrev InTime : OfWindow
InTime w i t = is_bus w.resource ≡ false → (i.s.0 ≤ w.offset)
    × (w.offset + w.length ≤ deadline turns_taken w.module.0 w.mode.0 w.invocation i.e.0)

-- a bus window lies within an invocation and is as long as the frame of its task
abbrev Carries : OfWindow
Carries w i t = is_bus w.resource ≡ true → (i.s.0 ≤ w.offset) × (w.offset + w.length ≤ i.e.0)
    × (duration_of on_nodes t ≤ w.length)

-- processor windows are in time
all_in_time : EachWith InTime turns_taken.windows all_invoked
all_in_time =
    (λ e. (omega arith, omega arith))
    ▸ (λ e. (omega arith, omega arith))
    ▸ (λ e. absurd (cc e))
    ▸ (λ e. (omega arith, omega arith))
    ▸ (λ e. (omega arith, omega arith))
    ▸ (λ e. absurd (cc e))
    ▸ (λ e. (omega arith, omega arith))
    ▸ (λ e. absurd (cc e))
    ▸ (λ e. (omega arith, omega arith))
    ▸ tt

-- bus windows carry their frames
all_carry : EachWith Carries turns_taken.windows all_invoked
all_carry =
    (λ e. absurd (cc e))
    ▸ (λ e. absurd (cc e))
    ▸ (λ e. (omega arith, omega arith, omega arith))
    ▸ (λ e. absurd (cc e))
    ▸ (λ e. absurd (cc e))
    ▸ (λ e. (omega arith, omega arith, omega arith))
    ▸ (λ e. absurd (cc e))
    ▸ (λ e. (omega arith, omega arith, omega arith))
    ▸ (λ e. absurd (cc e))
    ▸ tt

-- ---- the invocations, one by one

-- the processor windows of an invocation last its worst case
abbrev IsEnough : Said
IsEnough m k n i t = t.worst.0 ≤ sum (map (λ (w : Window). w.length) (filter (is_cpu_of m k n) turns_taken.windows))

-- those of each do
all_enough : OfEach IsEnough
all_enough =
    ((((λ e. omega arith) ▸ tt) ▸ tt) ▸ (((λ e. omega arith) ▸ tt) ▸ tt) ▸ tt)
    ▸ ((((λ e. omega arith) ▸ tt) ▸ tt) ▸ tt)
    ▸ ((((λ e. omega arith) ▸ tt) ▸ tt) ▸ tt)
    ▸ tt

-- a remote invocation has one bus window, another has none
abbrev HasOneBus : Said
HasOneBus m k n i t =
    length (filter (is_bus_of m k n) turns_taken.windows) ≡ (if is_remote three_modules on_nodes m t then 1 else 0)

-- each has as many
all_one_bus : OfEach HasOneBus
all_one_bus =
    ((((λ e. refl) ▸ tt) ▸ tt) ▸ (((λ e. refl) ▸ tt) ▸ tt) ▸ tt)
    ▸ ((((λ e. refl) ▸ tt) ▸ tt) ▸ tt)
    ▸ ((((λ e. refl) ▸ tt) ▸ tt) ▸ tt)
    ▸ tt

-- ---- the test

-- the schedule passes
pub three_passes : Passes three_modules on_nodes turns_taken
three_passes = record {
  invoked = from_each (λ q w. Invoked three_modules w.module.0 w.mode.0 w.invocation) turns_taken.windows all_invoked;
  lengths = from_each (λ q w. 0 < w.length) turns_taken.windows all_last;
  within = λ q w at cpu i. from_each (λ q w. Always InTime w) turns_taken.windows
      (each_with InTime turns_taken.windows all_invoked all_in_time) q w at i cpu;
  enough = of_each IsEnough all_enough;
  one_bus = of_each HasOneBus all_one_bus;
  on_bus = λ q w at bus i. from_each (λ q w. Always Carries w) turns_taken.windows
      (each_with Carries turns_taken.windows all_invoked all_carry) q w at i bus;
  apart = from_each_two Disjoint turns_taken.windows all_disjoint;
  cpu_apart = λ q r node v w lt at bt a b c.
      from_each_two ApartOnNode turns_taken.windows all_apart_on_nodes q r v w lt at bt a b c node;
  bus_apart = from_each_two ApartOnBus turns_taken.windows all_apart_on_bus;
}
