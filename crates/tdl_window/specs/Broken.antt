-- The rules of schedules, each as a test of a window, of an invocation or of two windows.
use Rattle.std.specs.Prelude.{ℕ, ◌+◌, ◌^◌, ◌==◌, nat_le, nat_lt, Bool, false, not, ◌&&◌, ◌||◌, List, length, map, filter, sum, Option, option_map, option_and_then, unwrap_or, slice_get, if◌then◌else◌}
use Rattle.std.specs.List.{list_any}
use Rattle.tdl_mode.specs.declared.program.Program.{Program}
use Rattle.tdl_mode.specs.declared.program.Module.{Module}
use Rattle.tdl_mode.specs.declared.program.Invocation.{Invocation}
use Rattle.tdl_mode.specs.Imports.{is_among}
use Rattle.tdl_mode.specs.States.{invocation_of}
use Rattle.tdl_deploy.specs.declared.placement.Placement.{Placement}
use Rattle.tdl_deploy.specs.declared.schedule.Schedule.{Schedule}
use Rattle.tdl_deploy.specs.declared.schedule.Window.{Window}
use Rattle.tdl_deploy.specs.AtRelease.{worst_case_of}
use Rattle.tdl_deploy.specs.Passes.{is_bus, is_cpu_of, is_bus_of, deadline}
use Rattle.tdl_deploy.specs.Placed.{is_remote, duration_of}
use Rattle.tdl_window.specs.GrainOf.{gcd}
use Rattle.tdl_window.specs.Meeting.{meet}

-- ---- windows

-- S2: it has no microsecond
abbrev pub lasts_no_time : Window → Bool
lasts_no_time w = w.length == 0

-- the module and the invocation of a window
abbrev pub called : Program → Window → Option (Module × Invocation)
called program w =
    option_and_then (λ owner. option_and_then (λ mode. option_map (λ i. (owner, i))
    (invocation_of mode.invocations w.invocation)) (slice_get owner.modes w.mode.0))
    (slice_get program.modules w.«module».0)

-- the window lies between a and b
abbrev pub lies_in : ℕ → ℕ → Window → Bool
lies_in a b w = nat_le a w.offset && nat_le (w.offset + w.length) b

-- S3: a processor window does not lie between its invocation's start and its deadline
abbrev pub is_untimely : Program → Schedule → Window → Bool
is_untimely program schedule w =
    not (is_bus w.resource) && unwrap_or (option_map (λ c. not (lies_in c.1.s.0 (due c.1) w)) (called program w)) false
  where
    due : Invocation → ℕ
    due i = deadline schedule w.«module».0 w.mode.0 w.invocation i.e.0

-- more bytes than any frame has
abbrev pub many_bytes : ℕ
many_bytes = 2 ^ 68

-- what a frame of the task of an invocation takes of the bus
abbrev pub frame_time : Placement → Module → Invocation → ℕ
frame_time placement owner i = unwrap_or (option_map (duration_of placement) (slice_get owner.tasks i.task.0)) 0

-- S6: a bus window does not lie between its invocation's start and end, or is shorter than the frame
abbrev pub holds_no_frame : Program → Placement → Window → Bool
holds_no_frame program placement w =
    is_bus w.resource && unwrap_or (option_map (λ c. not (is_held c.0 c.1)) (called program w)) false
  where
    is_held : Module → Invocation → Bool
    is_held owner i = lies_in i.s.0 i.e.0 w && nat_le (frame_time placement owner i) w.length

-- ---- invocations

-- the microseconds that processor windows give to invocation n of mode k of module m
abbrev pub time_given : List Window → ℕ → ℕ → ℕ → ℕ
time_given windows m k n = sum (map (λ w. w.length) (filter (is_cpu_of m k n) windows))

-- S4: that is less than the worst case
abbrev pub lacks_time : List Window → ℕ → Module → ℕ → ℕ → Invocation → Bool
lacks_time windows m owner k n i = nat_lt (time_given windows m k n) (worst_case_of owner i.task.0)

-- how many bus windows an invocation of a task has to have: one where the task is remote
abbrev pub buses_due : Program → Placement → ℕ → Module → Invocation → ℕ
buses_due program placement m owner i =
    if unwrap_or (option_map (is_remote program placement m) (slice_get owner.tasks i.task.0)) false then 1 else 0

-- S5: it has another number of them
abbrev pub has_other_buses : Program → Placement → List Window → ℕ → Module → ℕ → ℕ → Invocation → Bool
has_other_buses program placement windows m owner k n i =
    not (length (filter (is_bus_of m k n) windows) == buses_due program placement m owner i)

-- ---- pairs of windows

-- both are of the bus, or both of a processor
abbrev pub same_resource : Window → Window → Bool
same_resource v w = if is_bus v.resource then is_bus w.resource else not (is_bus w.resource)

-- one of them ends where the other begins, or before
unfoldable pub are_clear : Window → Window → Bool
are_clear v w = nat_le (v.offset + v.length) w.offset || nat_le (w.offset + w.length) v.offset

-- S7: windows of one resource, module and mode overlap
abbrev pub overlap : Window → Window → Bool
overlap v w =
    same_resource v w && (v.«module».0 == w.«module».0 && (v.mode.0 == w.mode.0 && not (are_clear v w)))

-- some node hosts the modules of both
abbrev pub share_node : Placement → Window → Window → Bool
share_node placement v w =
    list_any (λ n. is_among v.«module».0 n.modules && is_among w.«module».0 n.modules) placement.nodes

-- the grain of module m, 0 where there is none
abbrev pub grain_at : List ℕ → ℕ → ℕ
grain_at grains m = unwrap_or (slice_get grains m) 0

-- windows of two modules meet modulo the greatest common divisor of their grains
abbrev pub meet_apart : List ℕ → Window → Window → Bool
meet_apart grains v w =
    not (v.«module».0 == w.«module».0)
    && meet (gcd (grain_at grains v.«module».0) (grain_at grains w.«module».0)) v w

-- S8: processor windows of two modules on one node do so
abbrev pub meet_on_node : Placement → List ℕ → Window → Window → Bool
meet_on_node placement grains v w =
    not (is_bus v.resource) && (not (is_bus w.resource) && (meet_apart grains v w && share_node placement v w))

-- S9: bus windows of two modules do so
abbrev pub meet_on_bus : List ℕ → Window → Window → Bool
meet_on_bus grains v w = is_bus v.resource && (is_bus w.resource && meet_apart grains v w)
