use Rattle.std.proofs.Common.{◌≡◌, ℕ, List, Some, ap, ◌∙◌, arith}
use Rattle.std.specs.Prelude.{slice_get}
use Rattle.tdl_deploy.specs.declared.schedule.Window.{Window}
use Rattle.tdl_sched.specs.ReadSchedule.{windows_in}
use Rattle.tdl_sched.specs.ScheduleRules.{faults_of}
use Rattle.tdl_sched.proofs.WindowsRead.{IsGood, said_by-text, faults_after-reserving, windows_in-reserving, text-short}
use Rattle.tdl_sched.proofs.laws.reads_back.Goals as goal

pub returns : goal.returns
returns c = λ program schedule named is range.
    let ws = schedule.windows in
    let good : (q : ℕ) (w : Window) → slice_get ws q ≡ Some w → IsGood program w = λ q w at. record {
      there = is.there q w at;
      range = range q w at;
    } in
    let text = said_by-text program 1 ws named good in
    record {
      short = omega (arith, text-short program ws named good, is.few);
      lawful = ap faults_of text ∙ faults_after-reserving 0 1 ws (omega (arith, is.few));
      said = ap (λ (vs : List Window). record { windows = vs }) (ap windows_in text ∙ windows_in-reserving 1 ws);
    }
