-- The frames of bus windows: what is on the bus, and what a lost frame takes.
use Rattle.std.specs.Prelude.{List, Option, Some, [], false, slice_get, true, ℕ, ℤ, ◌+◌, ◌<◌, ◌∷◌, ◌≡◌, ◌≤◌}
use Rattle.tdl_frame.specs.Frames.{Member}
use Rattle.tdl_gen.specs.Tables.{windows_of}
use Rattle.tdl_image.specs.declared.hosted.ImageWindow.{ImageWindow}
use Rattle.tdl_meaning.specs.Accepted.{Accepted}
use Rattle.tdl_meaning.specs.Entries.{ActiveJob, job_end, made_by}
use Rattle.tdl_mode.specs.States.{ModuleState, invocation_of}
use Rattle.tdl_mode.specs.declared.program.Invocation.{Invocation}
use Rattle.tdl_mode.specs.declared.program.Mode.{Mode}
use Rattle.tdl_mode.specs.declared.program.Module.{Module}
use Rattle.tdl_verify.specs.Bus.{Flight}
use Rattle.tdl_verify.specs.Runs.{Lost}

-- the active job of invocation n of task t, whose result these values are
pub record Executed (m : Module) (x : ℕ) (r : ModuleState) (t n : ℕ) (values : List ℤ) : Type 0 where
  pub job : ActiveJob m x r t
  pub invocation : job.job.invocation ≡ n
  pub values' : values ≡ made_by m x r t job

-- a frame on the bus before x is that of bus window w of module kk, which lies inside its invocation: it has one
-- member, executed with the result of the invocation's job, or not executed where there is no such job
pub record Carries (m : Module) (kk x : ℕ) (r : ModuleState) (w : ImageWindow) (f : Flight) : Type 0 where
  pub mode' : w.mode ≡ r.mode
  pub mode : Mode
  pub mode_at : slice_get m.modes r.mode ≡ Some mode
  pub invocation : Invocation
  pub at : invocation_of mode.invocations w.invocation ≡ Some invocation
  pub after : invocation.s.0 < w.offset
  pub within : w.offset + w.length ≤ invocation.e.0
  pub from : f.sent_at ≡ r.base + w.offset
  pub until : f.until ≡ r.base + w.offset + w.length
  pub begun : f.sent_at < x
  pub open' : x ≤ f.until
  pub member : Member
  pub frame : f.frame ≡ record { owner = kk; mode = w.mode; members = member ∷ [] }
  pub number : member.invocation ≡ w.invocation
  pub executed : member.executed ≡ true → Executed m x r invocation.task.0 w.invocation member.values
  pub idle : member.executed ≡ false → (a : ActiveJob m x r invocation.task.0) → a.job.invocation ≡ w.invocation → ⊥

-- the flight f carries the frame of one of the bus windows of module kk
pub record Flies (m : Module) (kk : ℕ) (ws : List ImageWindow) (x : ℕ) (r : ModuleState) (f : Flight) : Type 0 where
  pub place : ℕ
  pub window : ImageWindow
  pub at : slice_get ws place ≡ Some window
  pub bus : window.bus ≡ true
  pub carries : Carries m kk x r window f

-- the frame of bus window w of module kk is on the bus
pub record Under (m : Module) (kk : ℕ) (x : ℕ) (r : ModuleState) (w : ImageWindow) (flight : Option Flight) :
    Type 0 where
  pub frame : Flight
  pub is : flight ≡ Some frame
  pub carries : Carries m kk x r w frame

-- each bus window of module kk that is under way before x has its frame on the bus
abbrev pub UnderWay : Module → ℕ → List ImageWindow → ℕ → ModuleState → Option Flight → Type 0
UnderWay m kk ws x r flight = (n : ℕ) (w : ImageWindow) → slice_get ws n ≡ Some w → w.bus ≡ true → w.mode ≡ r.mode →
    r.base + w.offset < x → x ≤ r.base + w.offset + w.length → Under m kk x r w flight

-- a frame of module kk that is lost where it arrives takes the commit of its job
abbrev pub Loses : Lost → (ℕ → Type 0) → Module → ℕ → ℕ → ModuleState → Option Flight → Type 0
Loses lost gone m kk x r flight =
    (f : Flight) (w : ImageWindow) (t : ℕ) (a : ActiveJob m x r t) → flight ≡ Some f → f.until ≡ x →
    lost f.number f.sent_at f.until ≡ true → Carries m kk x r w f → a.job.invocation ≡ w.invocation →
    gone (job_end m x r t a)

module _ (given : Accepted) where
  -- a flight is the frame of a bus window of some module
  pub record FlightFact (x : ℕ) (logic : ℕ → ModuleState) (f : Flight) : Type 0 where
    pub owner : ℕ
    pub definition : Module
    pub there : slice_get given.program.modules owner ≡ Some definition
    pub is : f.frame.owner ≡ owner
    pub flies : Flies definition owner (windows_of given.schedule owner) x (logic owner) f

  -- the bus before x: each flight is the frame of a bus window, and each bus window under way has its frame
  pub record BusFacts (x : ℕ) (logic : ℕ → ModuleState) (flight : Option Flight) : Type 0 where
    pub flies : (f : Flight) → flight ≡ Some f → FlightFact x logic f
    pub under : (kk : ℕ) (m : Module) → slice_get given.program.modules kk ≡ Some m →
        UnderWay m kk (windows_of given.schedule kk) x (logic kk) flight

  module _ (gone : ℕ → ℕ → Type 0) (x : ℕ) (logic : ℕ → ModuleState) where
    -- a lost frame takes the commits of its job
    abbrev pub LosesAt : Lost → Option Flight → Type 0
    LosesAt lost flight = (kk : ℕ) (m : Module) → slice_get given.program.modules kk ≡ Some m →
        Loses lost (gone kk) m kk x (logic kk) flight
