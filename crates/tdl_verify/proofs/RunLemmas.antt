-- Rows of stretches, and runs that go on or have ended.
use Rattle.std.proofs.Common.{◌≡◌, ℕ, List, [], ◌∷◌, ◌++◌, filter, Bool, true, false, Option, Some, None, refl}
use Rattle.std.specs.Prelude.{option_map, unwrap_or, if◌then◌else◌}
use Rattle.tdl_trace.specs.declared.why.Why.{Why}
use Rattle.tdl_trace.specs.Shown.{Shown}
use Rattle.tdl_verify.specs.States.{NodeNow, Stretch}
use Rattle.tdl_verify.specs.Micros.{is_ended, ran_rows}
use Rattle.tdl_verify.specs.Runs.{System, Run, Now, gone_on, is_plain}

-- the row of a node's stretch that ends is a log row
pub ran_rows-plain : (horizon x k : ℕ) (n : NodeNow) → filter is_plain (ran_rows horizon x k n) ≡ []
ran_rows-plain horizon x k n = by_running n.running
  where
    by_end : (b : Bool) (r : Stretch) →
        filter is_plain (if b then Shown.Ran x k r.owner r.task r.from ∷ [] else []) ≡ []
    by_end true r = refl
    by_end false r = refl

    ran : Stretch → List Shown
    ran r = if is_ended horizon x n.parts r then Shown.Ran x k r.owner r.task r.from ∷ [] else []

    by_running : (o : Option Stretch) → filter is_plain (unwrap_or (option_map ran o) []) ≡ []
    by_running None = refl
    by_running (Some r) = by_end (is_ended horizon x n.parts r) r

-- what a run comes to from a system that is alive
pub gone_on-alive : (next : System → Run) (r : Run) (s : System) → r.now ≡ Now.Alive s →
    gone_on next r
    ≡ record { rows = r.rows ++ (next s).rows; sendings = r.sendings ++ (next s).sendings; now = (next s).now }
gone_on-alive next r s e = rw e refl

-- a run that has trapped stays as it is
pub gone_on-dead : (next : System → Run) (r : Run) (node at : ℕ) (reason : Why) → r.now ≡ Now.Dead node at reason →
    gone_on next r ≡ r
gone_on-dead next r node at reason e = rw e refl
