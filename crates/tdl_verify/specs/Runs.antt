-- The run of a bundle: all nodes, their processors and the bus, in every microsecond.
use Rattle.std.specs.Prelude.{ℕ, zero, suc, Bool, true, false, ◌==◌, List, [], ◌∷◌, ◌++◌, map, filter, Option, Some, None, if◌then◌else◌}
use Rattle.tdl_trace.specs.declared.why.Why.{Why}
use Rattle.tdl_trace.specs.declared.why.Why.TheVariants as why
use Rattle.tdl_trace.specs.Shown.{Shown}
use Rattle.tdl_frame.specs.Frames.{Member, Frame, frame_bytes}
use Rattle.tdl_image.specs.declared.bundle.Bundle.{Bundle}
use Rattle.tdl_base.specs.Sensed.{Sensed}
use Rattle.tdl_verify.specs.States.{NodeNow, Times, node_first}
use Rattle.tdl_verify.specs.Turns.{Spot, Turned, turn}
use Rattle.tdl_verify.specs.Micros.{micro, ran_rows, closed}
use Rattle.tdl_verify.specs.Bus.{Flight, Start, node_start, node_received}

-- all nodes, the frame on the bus or none, and how many frames were sent
pub record System : Type 0 where
  pub nodes : List NodeNow
  pub flight : Option Flight
  pub sent : ℕ

-- a frame that was sent: its number and its frame
pub record Sending : Type 0 where
  pub number : ℕ
  pub at : ℕ
  pub until : ℕ
  pub frame : Frame

-- what a run has come to: a system, or a trap on a node
pub data Now : Type 0 where
  Alive : System → Now
  Dead : (node at : ℕ) → Why → Now

-- a run that has no trap so far
abbrev pub IsAlive : Now → Type 0
IsAlive (Now.Alive s) = Unit {0}
IsAlive (Now.Dead node at reason) = ⊥

-- a run so far: its rows, its frames, and what it has come to
pub record Run : Type 0 where
  pub rows : List Shown
  pub sendings : List Sending
  pub now : Now

-- which frames are lost, by number, start and end
abbrev pub Lost : Type 0
Lost = ℕ → ℕ → ℕ → Bool

-- no frame is lost
abbrev pub no_loss : Lost
no_loss number at until = false

-- ---- arrival

-- the nodes after a frame whose end is reached was handed over, unless it is lost
abbrev pub landed : ℕ → Lost → List NodeNow → Option Flight → List NodeNow
landed x lost nodes None = nodes
landed x lost nodes (Some f) =
    if f.until == x then (if lost f.number f.sent_at f.until then nodes else map (node_received x f.frame) nodes)
    else nodes

-- a frame whose end is reached is on the bus no longer, lost or not
abbrev pub still_flying : ℕ → Option Flight → Option Flight
still_flying x None = None
still_flying x (Some f) = if f.until == x then None else Some f

-- ---- the E-machines, node by node

-- the turns of nodes: the nodes and their rows, or the trap of one
pub data Turns : Type 0 where
  All : List NodeNow → List Shown → Turns
  Stuck : (node : ℕ) → Why → Turns

-- a node's turn, and those of the nodes after it
abbrev pub and_turn : ℕ → NodeNow → Turned → Turns → Turns
and_turn k n (Turned.Trapped reason) rest = Turns.Stuck k reason
and_turn k n (Turned.Finished parts rows) (Turns.All nodes others) =
    Turns.All (record n { parts = parts } ∷ nodes) (rows ++ others)
and_turn k n (Turned.Finished parts rows) (Turns.Stuck j reason) = Turns.Stuck j reason

-- the turns of all nodes, and the trap of the least node where one traps
abbrev pub all_turns : ℕ → Sensed → Times → ℕ → List NodeNow → Turns
all_turns x sensed times k [] = Turns.All [] []
all_turns x sensed times k (n ∷ more) =
    and_turn k n (turn n.declared x k sensed times Spot.Between n.parts []) (all_turns x sensed times (suc k) more)

-- ---- the frames that leave, node by node

-- what nodes send: what is on the bus then, how many frames were sent, rows and frames; or the trap of one
pub data Sends : Type 0 where
  Sent : Option Flight → ℕ → List Shown → List Sending → Sends
  Refused : (node : ℕ) → Why → Sends

-- the invocation of a frame: that of its first member
abbrev pub frame_invocation : Frame → ℕ
frame_invocation f = first_invocation f.members
  where
    first_invocation : List Member → ℕ
    first_invocation [] = 0
    first_invocation (m ∷ ms) = m.invocation

-- the bus takes one frame at a time: a start of any kind while it is occupied is a clash
abbrev pub put_on : ℕ → ℕ → Start → Option Flight → ℕ → Sends
put_on x k Start.Nothing flight count = Sends.Sent flight count [] []
put_on x k start (Some f) count = Sends.Refused k why.Clash
put_on x k Start.Two None count = Sends.Refused k why.Clash
put_on x k Start.Late None count = Sends.Refused k why.Late
put_on x k (Start.Sends frame until) None count =
    Sends.Sent (Some (record { number = suc count; sent_at = x; until = until; frame = frame })) (suc count)
    (Shown.Send x k frame.owner frame.mode (frame_invocation frame) (frame_bytes frame) ∷ [])
    (record { number = suc count; at = x; until = until; frame = frame } ∷ [])

-- what was sent so far, and what the nodes after it send
abbrev pub and_sends : Sends → (Option Flight → ℕ → Sends) → Sends
and_sends (Sends.Refused node reason) next = Sends.Refused node reason
and_sends (Sends.Sent flight count rows sendings) next = with_first (next flight count)
  where
    with_first : Sends → Sends
    with_first (Sends.Sent f c others later) = Sends.Sent f c (rows ++ others) (sendings ++ later)
    with_first (Sends.Refused node reason) = Sends.Refused node reason

-- the sends of all nodes, from node k on, with what is on the bus and how many were sent
abbrev pub all_sends : ℕ → ℕ → List NodeNow → Option Flight → ℕ → Sends
all_sends x k [] flight count = Sends.Sent flight count [] []
all_sends x k (n ∷ more) flight count =
    and_sends (put_on x k (node_start x n) flight count) (λ f c. all_sends x (suc k) more f c)

-- ---- one instant

-- a run that ends with a trap
abbrev pub dead : ℕ → ℕ → Why → Run
dead node at reason = record { rows = []; sendings = []; now = Now.Dead node at reason }

-- instant x of a system, after these rows of stretches that ended
unfoldable pub instant : ℕ → Sensed → Times → Lost → List Shown → System → Run
instant x sensed times lost ran s = after_turns (all_turns x sensed times 0 (landed x lost s.nodes s.flight))
  where
    after_sends : List NodeNow → List Shown → Sends → Run
    after_sends nodes rows (Sends.Refused node reason) = dead node x reason
    after_sends nodes rows (Sends.Sent flight count sent sendings) = record {
      rows = ran ++ rows ++ sent;
      sendings = sendings;
      now = Now.Alive (record { nodes = nodes; flight = flight; sent = count });
    }

    after_turns : Turns → Run
    after_turns (Turns.Stuck node reason) = dead node x reason
    after_turns (Turns.All nodes rows) = after_sends nodes rows (all_sends x 0 nodes (still_flying x s.flight) s.sent)

-- ---- one microsecond of all processors

-- a microsecond of nodes: the nodes after it, or one on which two windows are live
pub data Micros : Type 0 where
  Walked : List NodeNow → Micros
  Clashed : (node : ℕ) → Micros

-- a node's microsecond, and those of the nodes after it
abbrev pub and_micros : ℕ → Option NodeNow → Micros → Micros
and_micros k None rest = Micros.Clashed k
and_micros k (Some n) (Micros.Walked others) = Micros.Walked (n ∷ others)
and_micros k (Some n) (Micros.Clashed node) = Micros.Clashed node

-- the microsecond x of all nodes, and the least node that clashes where one does
abbrev pub all_micros : ℕ → ℕ → List NodeNow → Micros
all_micros x k [] = Micros.Walked []
all_micros x k (n ∷ more) = and_micros k (micro x n) (all_micros x (suc k) more)

-- the rows of the stretches that end at x, node by node
abbrev pub all_ran : ℕ → ℕ → ℕ → List NodeNow → List Shown
all_ran horizon x k [] = []
all_ran horizon x k (n ∷ more) = ran_rows horizon x k n ++ all_ran horizon x (suc k) more

-- the microsecond x and the instant after it
unfoldable pub next_instant : ℕ → ℕ → Sensed → Times → Lost → System → Run
next_instant horizon x sensed times lost s = after_micros (all_micros x 0 s.nodes)
  where
    after_micros : Micros → Run
    after_micros (Micros.Clashed node) = dead node (suc x) why.Clash
    after_micros (Micros.Walked nodes) =
        instant (suc x) sensed times lost (all_ran horizon (suc x) 0 nodes)
        (record s { nodes = map (closed horizon (suc x)) nodes })

-- ---- the run

-- the nodes before instant 0
abbrev pub system_first : Bundle → System
system_first b = record { nodes = map node_first b.images; flight = None; sent = 0 }

-- a run and one more step of it; a dead run stays as it is
abbrev pub gone_on : (System → Run) → Run → Run
gone_on next r = by_now r.now
  where
    and_then : Run → Run
    and_then more = record { rows = r.rows ++ more.rows; sendings = r.sendings ++ more.sendings; now = more.now }

    by_now : Now → Run
    by_now (Now.Dead node at reason) = r
    by_now (Now.Alive s) = and_then (next s)

-- the run up to instant x, on the way to the horizon
unfoldable pub run_to : Bundle → ℕ → (ℕ → Sensed) → Times → Lost → ℕ → Run
run_to b horizon course times lost zero = instant 0 (course 0) times lost [] (system_first b)
run_to b horizon course times lost (suc x) =
    gone_on (next_instant horizon x (course (suc x)) times lost) (run_to b horizon course times lost x)

-- the run up to the horizon
abbrev pub machine_run : Bundle → ℕ → (ℕ → Sensed) → Times → Lost → Run
machine_run b horizon course times lost = run_to b horizon course times lost horizon

-- the trap line of a run that is dead
abbrev pub trap_rows : Now → List Shown
trap_rows (Now.Alive s) = []
trap_rows (Now.Dead node at reason) = Shown.Trap at node reason ∷ []

-- a row that is shown without a log
abbrev pub is_plain : Shown → Bool
is_plain (Shown.Step at node m b index op p q) = false
is_plain (Shown.Send at node m mode invocation frame) = false
is_plain (Shown.Ran at node m t from) = false
is_plain row = true

-- all rows of a run, with the log lines; and those without
abbrev pub logged_rows : Run → List Shown
logged_rows r = r.rows ++ trap_rows r.now

-- the rows of a run without the log
abbrev pub plain_rows : Run → List Shown
plain_rows r = filter is_plain (logged_rows r)
