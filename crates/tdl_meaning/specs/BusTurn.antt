-- The bus at one instant, whatever is lost: what stubs take after delivery, and what is sent after the turns.
use Rattle.tdl_gen.specs.Takes.{taken}
use Rattle.tdl_verify.specs.Laws.{is_numbered}
use Rattle.std.specs.Prelude.{◌≡◌, ℕ, suc, List, [], filter, true, Option, Some, slice_get, ◌⊎◌}
use Rattle.tdl_mode.specs.States.{TaskState, ModuleState}
use Rattle.tdl_mode.specs.Phases.{has_ended, task_after}
use Rattle.tdl_trace.specs.Shown.{Shown}
use Rattle.tdl_image.specs.declared.stub.Stub.{Stub}
use Rattle.tdl_verify.specs.States.{StubNow, NodeNow, stub_outputs}
use Rattle.tdl_verify.specs.Bus.{Flight}
use Rattle.tdl_verify.specs.Runs.{Sending, Sends, still_flying, all_sends, is_plain}
use Rattle.tdl_meaning.specs.Accepted.{Accepted}
use Rattle.tdl_meaning.specs.BusFrames.{BusFacts}

-- after phase 1 of x task n of a stub has what its job commits at x; or it has what it had, and then no job of it ends
-- at x, or the commit is gone
abbrev pub TookTask : (gone : ℕ → Type 0) (x : ℕ) → ModuleState → Stub → StubNow → ℕ → TaskState → Type 0
TookTask gone x r q t n u =
    ((has_ended r x u ≡ true) × (stub_outputs n q.tasks (taken x q t).outputs ≡ (task_after r x u).outputs))
    ⊎ ((stub_outputs n q.tasks (taken x q t).outputs ≡ stub_outputs n q.tasks t.outputs)
    × (has_ended r x u ≡ true → gone x))

-- so it is of each task of the stub: it has the outputs of the last commit that is not gone
abbrev pub Took : (gone : ℕ → Type 0) (x : ℕ) → ModuleState → Stub → StubNow → Type 0
Took gone x r q t = (n : ℕ) (u : TaskState) → is_numbered n q.tasks ≡ true → slice_get r.tasks n ≡ Some u →
    TookTask gone x r q t n u

-- the nodes send at x without a trap: no window that starts finds its job at work, at most one starts, and none while
-- a frame flies; the frame on the bus after x is then that of a bus window, with the result of its job
pub record SendsDone (given : Accepted) (x : ℕ) (logic : ℕ → ModuleState) (flight : Option Flight)
    (nodes : List NodeNow) (count : ℕ) : Type 0 where
  pub flight' : Option Flight
  pub count' : ℕ
  pub rows : List Shown
  pub sendings : List Sending
  pub is : all_sends x 0 nodes (still_flying x flight) count ≡ Sends.Sent flight' count' rows sendings
  pub shown : filter is_plain rows ≡ []
  pub facts : BusFacts given (suc x) logic flight'
