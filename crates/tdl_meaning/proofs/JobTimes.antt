-- The execution times of the jobs of each module are within its worst cases.
use Rattle.std.proofs.Common.{◌≡◌, ℕ, Some, ap, ◌∙◌, arith}
use Rattle.std.specs.Prelude.{slice_get, unwrap_or, option_map, option_and_then}
use Rattle.tdl_mode.specs.declared.program.Program.{Program}
use Rattle.tdl_mode.specs.declared.program.Module.{Module}
use Rattle.tdl_mode.specs.declared.program.Task.{Task}
use Rattle.tdl_verify.specs.States.{Times}
use Rattle.tdl_gen.specs.Realises.{worst_at, IsWithinWorst}
use Rattle.tdl_meaning.proofs.PhaseFour.{Timely}
use Rattle.tdl_deploy.specs.AtRelease.{worst_case_of}

-- where all times are within the worst cases, those of each module are
pub timely_all : (program : Program) (times : Times) → IsWithinWorst program times → (n : ℕ) (m : Module) →
    slice_get program.modules n ≡ Some m → Timely times n m
timely_all program times within n m at t c task there =
    let is : worst_at program n t ≡ Some task.worst.0 =
    ap (λ o. option_map (λ (u : Task). u.worst.0) (option_and_then (λ (d : Module). slice_get d.tasks t) o)) at
    ∙ ap (option_map (λ (u : Task). u.worst.0)) there in
    let time = within n t c task.worst.0 is in
    let most = time.1 in
    let worst : worst_case_of m t ≡ task.worst.0 =
    ap (λ o. unwrap_or (option_map (λ (u : Task). u.worst.0) o) 0) there in
    (time.0, omega (arith, most, worst))
