-- The tables of a bundle, as far as the bus needs them: windows that send, entries that receive.
use Rattle.tdl_verify.specs.Laws.{is_numbered}
use Rattle.tdl_gen.specs.Takes.{OwnBlocks}
use Rattle.std.specs.Prelude.{List, Some, length, slice_get, true, ℕ, ◌+◌, ◌<◌, ◌≡◌, ◌≤◌}
use Rattle.tdl_gen.specs.Tables.{windows_of}
use Rattle.tdl_image.specs.declared.hosted.Hosted.{Hosted}
use Rattle.tdl_image.specs.declared.hosted.ImageWindow.{ImageWindow}
use Rattle.tdl_image.specs.declared.stub.Receive.{Receive}
use Rattle.tdl_image.specs.declared.stub.Stub.{Stub}
use Rattle.tdl_meaning.specs.Accepted.{Accepted}
use Rattle.tdl_deploy.specs.AtRelease.{worst_case_of}
use Rattle.tdl_mode.specs.States.{invocation_of}
use Rattle.tdl_mode.specs.declared.program.Invocation.{Invocation}
use Rattle.tdl_mode.specs.declared.program.Mode.{Mode}
use Rattle.tdl_mode.specs.declared.program.Module.{Module}
use Rattle.tdl_verify.specs.Bus.{task_of}
use Rattle.tdl_verify.specs.Covered.{covered_by}

-- a bus window that lies inside its invocation, where the processor windows before it cover the worst case
pub record WellWindow (m : Module) (h : Hosted) (w : ImageWindow) : Type 0 where
  pub mode : Mode
  pub mode_at : slice_get m.modes w.mode ≡ Some mode
  pub invocation : Invocation
  pub at : invocation_of mode.invocations w.invocation ≡ Some invocation
  pub after : invocation.s.0 < w.offset
  pub within : w.offset + w.length ≤ invocation.e.0
  pub lasts : 0 < w.length
  pub full : worst_case_of m invocation.task.0 ≤ covered_by w.mode w.invocation w.offset h.windows
  pub task : task_of h w.mode w.invocation ≡ invocation.task.0
  pub there : invocation.task.0 < length m.tasks

-- an entry's task is its invocation's, and the entry waits from the end of each bus window of its invocation to the
-- invocation's end
abbrev pub WellReceive : Module → List ImageWindow → Receive → Type 0
WellReceive m ws e =
    (mode : Mode) (i : Invocation) (n : ℕ) (w : ImageWindow) → slice_get m.modes e.mode ≡ Some mode →
    invocation_of mode.invocations e.invocation ≡ Some i → slice_get ws n ≡ Some w → w.bus ≡ true →
    w.mode ≡ e.mode → w.invocation ≡ e.invocation → (i.task.0 ≡ e.task) × (w.offset + w.length + e.delta ≡ i.e.0)

-- the bus window of an entry: it lasts, and begins after its invocation's start
pub record Sender (m : Module) (ws : List ImageWindow) (e : Receive) : Type 0 where
  pub place : ℕ
  pub window : ImageWindow
  pub at : slice_get ws place ≡ Some window
  pub bus : window.bus ≡ true
  pub mode' : window.mode ≡ e.mode
  pub invocation : window.invocation ≡ e.invocation
  pub lasts : 0 < window.length
  pub begins : (mode : Mode) (i : Invocation) → slice_get m.modes e.mode ≡ Some mode →
      invocation_of mode.invocations e.invocation ≡ Some i → i.s.0 < window.offset

-- an entry for invocation q of mode k, of task t
pub record EntryFor (p : Stub) (k q t : ℕ) : Type 0 where
  pub place : ℕ
  pub entry : Receive
  pub at : slice_get p.entries place ≡ Some entry
  pub mode' : entry.mode ≡ k
  pub invocation : entry.invocation ≡ q
  pub task : entry.task ≡ t

-- each invocation of a task of the stub has an entry
abbrev pub AllReceived : Module → Stub → Type 0
AllReceived m p = (k q : ℕ) (mode : Mode) (i : Invocation) → slice_get m.modes k ≡ Some mode →
    invocation_of mode.invocations q ≡ Some i → is_numbered i.task.0 p.tasks ≡ true → EntryFor p k q i.task.0

module _ (given : Accepted) where
  -- the tables of a hosted module, as far as the bus needs them
  pub record HostTables (h : Hosted) : Type 0 where
    pub definition : Module
    pub there : slice_get given.program.modules h.number.0 ≡ Some definition
    pub windows : h.windows ≡ windows_of given.schedule h.number.0
    pub wells : (n : ℕ) (w : ImageWindow) → slice_get h.windows n ≡ Some w → w.bus ≡ true → WellWindow definition h w

  -- the tables of a stub, as far as the bus needs them
  pub record StubTables (q : Stub) : Type 0 where
    pub definition : Module
    pub there : slice_get given.program.modules q.number.0 ≡ Some definition
    pub receive : (n : ℕ) (e : Receive) → slice_get q.entries n ≡ Some e →
        WellReceive definition (windows_of given.schedule q.number.0) e
    pub sender : (n : ℕ) (e : Receive) → slice_get q.entries n ≡ Some e →
        Sender definition (windows_of given.schedule q.number.0) e
    pub own : OwnBlocks q
    pub all : AllReceived definition q
