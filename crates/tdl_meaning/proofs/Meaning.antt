-- The meaning of the compiler's bundle, for all programs, placements and schedules that are accepted.
use Rattle.std.proofs.Common.{◌≡◌, ℕ, zero, suc, ◌++◌, filter, refl, ap, ap₂, ◌∙◌}
use Rattle.std.proofs.lemmas.List.Elements.{filter-append}
use Rattle.tdl_deploy.specs.Rows.{logical_rows}
use Rattle.tdl_image.specs.declared.bundle.Bundle.{Bundle}
use Rattle.tdl_verify.specs.Runs.{Run, run_to, no_loss, is_plain}
use Rattle.tdl_gen.specs.Realises.{HasTables, HasCounts, HasMeaning}
use Rattle.tdl_meaning.proofs.InstantZero.{never_traps}
use Rattle.tdl_meaning.proofs.RowsAtZero.{rows_first}
use Rattle.tdl_verify.proofs.RunLemmas.{gone_on-alive}
use Rattle.tdl_meaning.proofs.RunSteps.{step, no_losses, no_takes}
use Rattle.tdl_meaning.specs.Conditions.{Conditions, Losses, NoneGone}
use Rattle.tdl_meaning.specs.SystemStands.{TakesAlong, Step, run_next}
use Rattle.tdl_meaning.proofs.RunInState.{Right, right_along, stubs_here}
use Rattle.tdl_meaning.proofs.InstantRows.{nodes_right}
use Rattle.tdl_meaning.specs.Accepted.{Accepted}

module _ (given : Accepted) (b : Bundle) (tables : HasTables b given.program given.placement given.schedule)
    (counts : HasCounts b given.program given.placement given.schedule) (run : Conditions given)
    (losses : Losses) (safe : NoneGone losses) (lose : TakesAlong given run losses b) where
  -- the bundle's run up to x
  abbrev ran : ℕ → Run
  ran = run_to b run.horizon run.course run.times losses.lost

  -- the plain rows of a run in which no commit is gone are the logical ones, up to each instant
  pub rows_right : (x : ℕ) → filter is_plain (ran x).rows ≡ logical_rows given.program given.placement run.course x
  unfolding run_to logical_rows
  rows_right zero = rows_first given run.course run.times run.within run.horizon losses.lost b tables counts
  rows_right (suc x) =
      let a : Right given run losses safe x (ran x) = right_along given run losses safe b tables counts lose x in
      let st : Step given run losses x a.logic a.sys = step given run losses x a.logic a.sys a.stands
      (lose x a.logic a.sys a.is a.stands) in
      let f = run_next given run losses x in
      ap (λ (r : Run). filter is_plain r.rows) (gone_on-alive f (ran x) a.sys a.is)
      ∙ filter-append is_plain (ran x).rows (f a.sys).rows
      ∙ ap₂ (λ c d. c ++ d) (rows_right x) (st.shown ∙ nodes_right given run losses safe x a.logic a.sys st
      a.also.0 (stubs_here given run losses safe x a.logic a.sys st a.also.1))

-- a bundle with the compiler's tables and counts has no trap and shows exactly the logical rows
pub meaning : (given : Accepted) (bundle : Bundle) → HasTables bundle given.program given.placement given.schedule →
    HasCounts bundle given.program given.placement given.schedule → HasMeaning bundle given.program given.placement
meaning given bundle tables counts horizon course times within =
    let run : Conditions given = record { horizon = horizon; course = course; times = times; within = within } in
    record {
      alive = never_traps given bundle tables counts horizon course times within no_loss;
      rows = rows_right given bundle tables counts run no_losses (λ kk at. refl)
          (λ x logic s is stands. no_takes given (suc x) logic s.flight) horizon;
    }
