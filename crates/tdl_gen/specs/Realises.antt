-- What it is that a bundle realises a program.
use Rattle.tdl_deploy.specs.Placed.{hosts, imports}
use Rattle.tdl_mode.specs.declared.program.Module.{Module}
use Rattle.std.specs.Prelude.{◌≡◌, ◌≤◌, ◌<◌, ℕ, List, map, filter, Option, Some, option_map, option_and_then, slice_get, [], ◌∷◌, if◌then◌else◌}
use Rattle.tdl_base.specs.Lists.{numbered}
use Rattle.tdl_mode.specs.declared.program.Program.{Program}
use Rattle.tdl_base.specs.Sensed.{Course}
use Rattle.tdl_deploy.specs.declared.placement.Placement.{Placement}
use Rattle.tdl_deploy.specs.declared.placement.PlacedNode.{PlacedNode}
use Rattle.tdl_deploy.specs.declared.schedule.Schedule.{Schedule}
use Rattle.tdl_deploy.specs.Rows.{logical_rows}
use Rattle.tdl_image.specs.declared.bundle.Bundle.{Bundle}
use Rattle.tdl_image.specs.declared.bundle.Image.{Image}
use Rattle.tdl_trace.specs.Shown.{Shown}
use Rattle.tdl_verify.specs.States.{Times, Part, host_first, stub_first}
use Rattle.tdl_verify.specs.Runs.{Run, IsAlive, machine_run, no_loss, is_plain}
use Rattle.tdl_gen.specs.Tables.{hosted_on, stubs_on, hosted_of, stub_of}
use Rattle.tdl_gen.specs.Counts.{declared_of}

-- the image of a node
abbrev pub image_of : Program → Placement → Schedule → ℕ → PlacedNode → Image
image_of program placement schedule node n = record {
  node = n.name;
  declared = declared_of program placement schedule node;
  hosted = hosted_on program placement schedule node;
  stubs = stubs_on program placement schedule node;
}

-- what a module is on a node before instant 0: hosted, a stub, or nothing
abbrev pub part_at : Program → Placement → Schedule → ℕ → ℕ → Module → List Part
part_at program placement schedule node k m =
    if hosts placement node k then host_first (hosted_of schedule k m) ∷ []
    else (if imports program placement node k then stub_first (stub_of program placement schedule k m) ∷ [] else [])

-- the bundle of a program, a placement and a schedule
unfoldable pub bundle_of : Program → Placement → Schedule → Bundle
bundle_of program placement schedule =
    record { images = numbered 0 (image_of program placement schedule) placement.nodes }

-- a bundle without its counts
abbrev pub without_counts : Bundle → Bundle
without_counts bundle = record { images = map (λ (i : Image). record i { declared = 0 }) bundle.images }

-- each image holds exactly the tables of its node
abbrev pub HasTables : Bundle → Program → Placement → Schedule → Type 0
HasTables bundle program placement schedule =
    without_counts bundle ≡ without_counts (bundle_of program placement schedule)

-- each image's declared count is that of its node
abbrev pub HasCounts : Bundle → Program → Placement → Schedule → Type 0
HasCounts bundle program placement schedule =
    map (λ (i : Image). i.declared) bundle.images
    ≡ numbered 0 (λ node n. declared_of program placement schedule node) placement.nodes

-- the worst case of task t of module m, where there is one
abbrev pub worst_at : Program → ℕ → ℕ → Option ℕ
worst_at program m t =
    option_map (λ u. u.worst.0) (option_and_then (λ d. slice_get d.tasks t) (slice_get program.modules m))

-- each job takes at least a microsecond and at most its task's worst case
abbrev pub IsWithinWorst : Program → Times → Type 0
IsWithinWorst program times = (m t k w : ℕ) → worst_at program m t ≡ Some w → (0 < times m t k) × (times m t k ≤ w)

-- the rows of a run, without the log
abbrev pub rows_of : Run → List Shown
rows_of r = filter is_plain r.rows

-- the run of a bundle has no trap and shows exactly the logical rows
pub record IsRunOf (bundle : Bundle) (program : Program) (placement : Placement) (horizon : ℕ) (course : Course)
    (times : Times)
    : Type 0 where
  pub alive : IsAlive (machine_run bundle horizon course times no_loss).now
  pub rows : rows_of (machine_run bundle horizon course times no_loss) ≡ logical_rows program placement course horizon

-- the same under every course and all times within the worst cases, up to every horizon
abbrev pub HasMeaning : Bundle → Program → Placement → Type 0
HasMeaning bundle program placement =
    (horizon : ℕ) (course : Course) (times : Times) → IsWithinWorst program times →
    IsRunOf bundle program placement horizon course times

-- the bundle realises the program: its tables, its counts and its meaning
pub record Realises (bundle : Bundle) (program : Program) (placement : Placement) (schedule : Schedule) : Type 0 where
  pub tables : HasTables bundle program placement schedule
  pub counts : HasCounts bundle program placement schedule
  pub meaning : HasMeaning bundle program placement
