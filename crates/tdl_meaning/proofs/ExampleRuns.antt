-- By the general law the bundle of the three modules means their program: its run shows the rows that were counted out.
use Rattle.std.proofs.Common.{◌≡◌, ◌<◌, ◌≤◌, ◌++◌, Option, Some, None, refl, ap, ◌∙◌, arith}
use Rattle.std.specs.Prelude.{slice_get, unwrap_or, option_map, option_and_then}
use Rattle.tdl_mode.specs.declared.program.Program.{Program}
use Rattle.tdl_mode.specs.declared.program.Module.{Module}
use Rattle.tdl_mode.specs.declared.program.Task.{Task}
use Rattle.tdl_mode.specs.WellFormed.{WellFormed}
use Rattle.tdl_image.specs.declared.bundle.Bundle.{Bundle}
use Rattle.tdl_verify.specs.States.{Times}
use Rattle.tdl_verify.specs.Runs.{machine_run, no_loss}
use Rattle.tdl_gen.specs.Realises.{bundle_of, HasMeaning, IsWithinWorst, worst_at, rows_of}
use Rattle.tdl_meaning.specs.Accepted.{Accepted}
use Rattle.tdl_meaning.specs.ExampleThree.{three_modules, on_nodes, turns_taken, always_one, first_shown, second_shown}
use Rattle.tdl_meaning.proofs.Meaning.{meaning}
use Rattle.tdl_meaning.proofs.ExampleWellFormed.{three_form}
use Rattle.tdl_meaning.proofs.ExampleWindows.{three_placed}
use Rattle.tdl_meaning.proofs.ExamplePasses.{three_passes}
use Rattle.tdl_meaning.proofs.ExampleRows.{three_rows}

-- the three modules, their nodes and their windows are accepted
abbrev pub three_accepted : Accepted
three_accepted = record {
  program = three_modules;
  placement = on_nodes;
  schedule = turns_taken;
  well_formed = three_form;
  well_placed = three_placed;
  passes = three_passes;
}

-- the compiler's bundle of the three modules
abbrev pub three_bundle : Bundle
three_bundle = bundle_of three_modules on_nodes turns_taken

-- it has its own tables and counts, so the law speaks of it
pub three_meaning : HasMeaning three_bundle three_modules on_nodes
unfolding bundle_of
three_meaning = meaning three_accepted three_bundle refl refl

-- its run up to 10 us, where all jobs keep to their worst cases and all sensors show 1
pub three_runs : (times : Times) → IsWithinWorst three_modules times →
    rows_of (machine_run three_bundle 10 always_one times no_loss) ≡ first_shown ++ second_shown
three_runs times within = (three_meaning 10 always_one times within).rows ∙ three_rows

-- each job takes its task's worst case
abbrev pub at_worst : Program → Times
at_worst p m t k = unwrap_or (worst_at p m t) 1

-- these are such times, in every well-formed program
pub at_worst-within : (program : Program) → WellFormed program → IsWithinWorst program (at_worst program)
at_worst-within program form m t k w worst = by_module (slice_get program.modules m) refl worst
  where
    by_module : (o : Option Module) → slice_get program.modules m ≡ o →
        option_map (λ (u : Task). u.worst.0) (option_and_then (λ (d : Module). slice_get d.tasks t) o) ≡ Some w →
        (0 < at_worst program m t k) × (at_worst program m t k ≤ w)
    by_module None at e = absurd (cc e)
    by_module (Some d) at e = by_task (slice_get d.tasks t) refl e
      where
        by_task : (o : Option Task) → slice_get d.tasks t ≡ o → option_map (λ (u : Task). u.worst.0) o ≡ Some w →
            (0 < at_worst program m t k) × (at_worst program m t k ≤ w)
        by_task None it e = absurd (cc e)
        by_task (Some u) it e =
            let is : at_worst program m t k ≡ w = ap (λ o. unwrap_or o 1) worst in
            let takes : u.worst.0 ≡ w = ap (λ o. unwrap_or o w) e in
            let lasts : 0 < u.worst.0 = (form.modules m d at).worsts t u it in
            (omega (arith, is, takes, lasts), omega (arith, is))

-- so there is such a run
pub three_runs-at_worst :
    rows_of (machine_run three_bundle 10 always_one (at_worst three_modules) no_loss) ≡ first_shown ++ second_shown
three_runs-at_worst = three_runs (at_worst three_modules) (at_worst-within three_modules three_form)
