-- The due receive entries of a stub at one instant: how many they are, and what their blocks take.
use Rattle.std.specs.Prelude.{◌≡◌, ℕ, ◌+◌, ◌≤◌, ℤ, true, List, [], ◌∷◌, ◌++◌, map, Some, None, slice_get, if◌then◌else◌}
use Rattle.tdl_trace.specs.Shown.{Shown}
use Rattle.tdl_mode.specs.declared.program.Module.{Module}
use Rattle.tdl_mode.specs.declared.program.Mode.{Mode}
use Rattle.tdl_mode.specs.declared.program.Invocation.{Invocation}
use Rattle.tdl_mode.specs.States.{invocation_of}
use Rattle.tdl_deploy.specs.declared.schedule.Schedule.{Schedule}
use Rattle.tdl_image.specs.declared.stub.Stub.{Stub}
use Rattle.tdl_image.specs.declared.stub.Receive.{Receive}
use Rattle.tdl_verify.specs.Covered.{unit}
use Rattle.tdl_verify.specs.States.{EntryNow, StubNow}
use Rattle.tdl_verify.specs.Turns.{is_at, output_rows, replaced_in}
use Rattle.tdl_gen.specs.Tables.{bus_end, take_block}

-- each entry has a block of its own, which takes it
abbrev pub OwnBlocks : Stub → Type 0
OwnBlocks p = (n : ℕ) (e : Receive) → slice_get p.entries n ≡ Some e → slice_get p.blocks e.block ≡ Some (take_block n)

-- the entries that are due are of mode k
abbrev pub OfMode : ℕ → ℕ → List Receive → List EntryNow → Type 0
OfMode x k (e ∷ es) (now ∷ more) = (is_at x now.due ≡ true → e.mode ≡ k) × OfMode x k es more
OfMode x k es more = Unit {0}

-- how many are due
abbrev pub due_count : ℕ → List EntryNow → ℕ
due_count x [] = 0
due_count x (now ∷ more) = unit (is_at x now.due) + due_count x more

-- an entry whose block was run
abbrev pub freed : EntryNow → EntryNow
freed now = record now { due = None }

-- an entry after phase 1
abbrev pub left_at : ℕ → EntryNow → EntryNow
left_at x now = if is_at x now.due then freed now else now

-- the stub's outputs after the due entries
abbrev pub taken_outputs : ℕ → Stub → List Receive → List EntryNow → List (List ℤ) → List (List ℤ)
taken_outputs x p (e ∷ es) (now ∷ more) outputs =
    taken_outputs x p es more (if is_at x now.due then replaced_in e.task now.copy p.tasks outputs else outputs)
taken_outputs x p es more outputs = outputs

-- the rows of the due entries
abbrev pub taken_rows : ℕ → ℕ → Stub → List Receive → List EntryNow → List Shown
taken_rows x node p (e ∷ es) (now ∷ more) =
    (if is_at x now.due then output_rows x node p.number.0 e.task now.copy else []) ++ taken_rows x node p es more
taken_rows x node p es more = []

-- the stub after phase 1
abbrev pub taken : ℕ → Stub → StubNow → StubNow
taken x p s = record { outputs = taken_outputs x p p.entries s.entries s.outputs; entries = map (left_at x) s.entries }

-- an entry is of an invocation of its mode, and is due at the end of that invocation where its frame arrives at the end
-- of the bus window; its block takes it
pub record IsDueAtEnd (s : Schedule) (k : ℕ) (m : Module) (stub : Stub) (r : ℕ) (e : Receive) : Type 0 where
  pub mode : Mode
  pub mode_at : slice_get m.modes e.mode ≡ Some mode
  pub invocation : Invocation
  pub at : invocation_of mode.invocations e.invocation ≡ Some invocation
  pub task : invocation.task.0 ≡ e.task
  pub ends : bus_end s k e.mode e.invocation ≤ invocation.e.0 →
      bus_end s k e.mode e.invocation + e.delta ≡ invocation.e.0
  pub block : slice_get stub.blocks e.block ≡ Some (take_block r)
