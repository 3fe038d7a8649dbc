-- A lawful placement, and a schedule that passes its test, as facts by place.
use Rattle.std.specs.Prelude.{◌≡◌, ◌⊎◌, ℕ, ◌+◌, ◌≤◌, ◌<◌, ◌%◌, Bool, true, false, ◌&&◌, ◌==◌, length, filter, find, sum, map, Some, option_map, unwrap_or, slice_get, if◌then◌else◌}
use Rattle.std.specs.Int.{IsGcd}
use Rattle.tdl_mode.specs.declared.program.Program.{Program}
use Rattle.tdl_mode.specs.declared.program.Module.{Module}
use Rattle.tdl_mode.specs.declared.program.Mode.{Mode}
use Rattle.tdl_mode.specs.declared.program.Task.{Task}
use Rattle.tdl_mode.specs.declared.program.Invocation.{Invocation}
use Rattle.tdl_mode.specs.States.{invocation_of}
use Rattle.tdl_mode.specs.Grains.{IsGrain}
use Rattle.tdl_deploy.specs.declared.placement.Placement.{Placement}
use Rattle.tdl_deploy.specs.declared.schedule.Schedule.{Schedule}
use Rattle.tdl_deploy.specs.declared.schedule.Window.{Window}
use Rattle.tdl_deploy.specs.declared.schedule.Resource.{Resource}
use Rattle.tdl_deploy.specs.declared.schedule.Resource.TheVariants.{Cpu, Bus}
use Rattle.tdl_deploy.specs.Placed.{hosts, is_remote, duration_of}

-- ---- a placement

-- every module stands on exactly one node, and no other number does; what the rules say of the nodes' names, of a
-- module that one node lists twice and of the bus is no part of it
pub record WellPlaced (program : Program) (placement : Placement) : Type 0 where
  pub hosted : (m : ℕ) → m < length program.modules → (n : ℕ) × (hosts placement n m ≡ true)
  pub once : (m n k : ℕ) → hosts placement n m ≡ true → hosts placement k m ≡ true → n ≡ k
  pub there : (m n : ℕ) → hosts placement n m ≡ true → m < length program.modules

-- ---- windows

-- a resource is the bus
abbrev pub is_bus : Resource → Bool
is_bus Cpu = false
is_bus Bus = true

-- the invocation of a number of a mode of a module, with its task
pub record Invoked (program : Program) (m k n : ℕ) : Type 0 where
  pub owner : Module
  pub mode : Mode
  pub invocation : Invocation
  pub task : Task
  pub owner_at : slice_get program.modules m ≡ Some owner
  pub mode_at : slice_get owner.modes k ≡ Some mode
  pub invocation_at : invocation_of mode.invocations n ≡ Some invocation
  pub task_at : slice_get owner.tasks invocation.task.0 ≡ Some task

-- a window is of invocation n of mode k of module m
abbrev pub is_of : ℕ → ℕ → ℕ → Window → Bool
is_of m k n w = w.module.0 == m && (w.mode.0 == k && w.invocation == n)

-- it is its processor window
abbrev pub is_cpu_of : ℕ → ℕ → ℕ → Window → Bool
is_cpu_of m k n w = (if is_bus w.resource then false else true) && is_of m k n w

-- it is its bus window
abbrev pub is_bus_of : ℕ → ℕ → ℕ → Window → Bool
is_bus_of m k n w = is_bus w.resource && is_of m k n w

-- when an invocation has to be done: where its first listed bus window starts; without one, where it ends
abbrev pub deadline : Schedule → ℕ → ℕ → ℕ → ℕ → ℕ
deadline schedule m k n e = unwrap_or (option_map (λ w. w.offset) (find (is_bus_of m k n) schedule.windows)) e

-- the one ends before the other begins, or where it begins
abbrev pub Clear : Window → Window → Type 0
Clear v w = (v.offset + v.length ≤ w.offset) ⊎ (w.offset + w.length ≤ v.offset)

-- two windows meet modulo d: a microsecond of the one and a microsecond of the other are congruent
pub record Meets (v w : Window) (d : ℕ) : Type 0 where
  pub y : ℕ
  pub z : ℕ
  pub y_from : v.offset ≤ y
  pub y_below : y < v.offset + v.length
  pub z_from : w.offset ≤ z
  pub z_below : z < w.offset + w.length
  pub same : y % d ≡ z % d

-- two windows do not meet modulo the greatest common divisor of the grains of their modules
pub record ApartModulo (program : Program) (v w : Window) : Type 0 where
  pub left : Module
  pub right : Module
  pub left_at : slice_get program.modules v.module.0 ≡ Some left
  pub right_at : slice_get program.modules w.module.0 ≡ Some right
  pub grain : ℕ
  pub grain' : ℕ
  pub both : ℕ
  pub is_grain : IsGrain left grain
  pub is_grain' : IsGrain right grain'
  pub is_both : IsGcd grain grain' both
  pub apart : Meets v w both → ⊥

-- ---- a schedule

-- a schedule that passes its test, beside a well-formed program; the number of its windows is no part of it
pub record Passes (program : Program) (placement : Placement) (schedule : Schedule) : Type 0 where
  -- each window is of an invocation that is there, and lasts
  pub invoked : (q : ℕ) (w : Window) → slice_get schedule.windows q ≡ Some w →
      Invoked program w.module.0 w.mode.0 w.invocation
  pub lengths : (q : ℕ) (w : Window) → slice_get schedule.windows q ≡ Some w → 0 < w.length
  -- a processor window lies between its invocation's start and deadline
  pub within : (q : ℕ) (w : Window) → slice_get schedule.windows q ≡ Some w → is_bus w.resource ≡ false →
      (i : Invoked program w.module.0 w.mode.0 w.invocation) →
      (i.invocation.s.0 ≤ w.offset)
      × (w.offset + w.length ≤ deadline schedule w.module.0 w.mode.0 w.invocation i.invocation.e.0)
  -- an invocation's processor windows together last at least its worst case
  pub enough : (m k n : ℕ) (i : Invoked program m k n) →
      i.task.worst.0 ≤ sum (map (λ w. w.length) (filter (is_cpu_of m k n) schedule.windows))
  -- a remote invocation has one bus window, another has none
  pub one_bus : (m k n : ℕ) (i : Invoked program m k n) →
      length (filter (is_bus_of m k n) schedule.windows) ≡ (if is_remote program placement m i.task then 1 else 0)
  -- a bus window stays inside its invocation, and its length holds the frame
  pub on_bus : (q : ℕ) (w : Window) → slice_get schedule.windows q ≡ Some w → is_bus w.resource ≡ true →
      (i : Invoked program w.module.0 w.mode.0 w.invocation) →
      (i.invocation.s.0 ≤ w.offset) × (w.offset + w.length ≤ i.invocation.e.0)
      × (duration_of placement i.task ≤ w.length)
  -- one module's windows in one mode and on one resource are clear of each other
  pub apart : (q r : ℕ) (v w : Window) → q < r → slice_get schedule.windows q ≡ Some v →
      slice_get schedule.windows r ≡ Some w →
      is_bus v.resource ≡ is_bus w.resource → v.module.0 ≡ w.module.0 → v.mode.0 ≡ w.mode.0 → Clear v w
  -- on one node, processor windows of different modules never meet
  pub cpu_apart : (q r node : ℕ) (v w : Window) → q < r → slice_get schedule.windows q ≡ Some v →
      slice_get schedule.windows r ≡ Some w →
      is_bus v.resource ≡ false → is_bus w.resource ≡ false → (v.module.0 == w.module.0) ≡ false →
      hosts placement node v.module.0 ≡ true → hosts placement node w.module.0 ≡ true → ApartModulo program v w
  -- bus windows of two modules do not meet
  pub bus_apart : (q r : ℕ) (v w : Window) → q < r → slice_get schedule.windows q ≡ Some v →
      slice_get schedule.windows r ≡ Some w →
      is_bus v.resource ≡ true → is_bus w.resource ≡ true → (v.module.0 == w.module.0) ≡ false → ApartModulo program v w
