-- The compiler's hosted modules have the tables that the bus needs.
use Rattle.std.proofs.Common.{◌≡◌, ℕ, zero, suc, ◌+◌, Some, refl, ap, ◌∙◌, arith}
use Rattle.std.specs.Prelude.{slice_get}
use Rattle.tdl_mode.specs.declared.program.Module.{Module}
use Rattle.tdl_mode.specs.declared.program.Mode.{Mode}
use Rattle.tdl_mode.specs.declared.program.Invocation.{Invocation}
use Rattle.tdl_mode.specs.States.{invocation_of}
use Rattle.tdl_verify.specs.Bus.{task_of}
use Rattle.tdl_gen.specs.Tables.{hosted_of}
use Rattle.tdl_gen.proofs.TablePlaces.{call_found}
use Rattle.tdl_gen.proofs.ReleasePlaces.{task_of-is}
use Rattle.tdl_meaning.proofs.HostWindowTables.{well_window}
use Rattle.tdl_meaning.specs.Accepted.{Accepted}
use Rattle.tdl_meaning.specs.BusTables.{HostTables}

module _ (given : Accepted) where
  -- the task of an invocation, as the bus looks it up
  task_is : (kk : ℕ) (m : Module) → slice_get given.program.modules kk ≡ Some m →
      (mode : Mode) (i : Invocation) (k n : ℕ) → slice_get m.modes k ≡ Some mode →
      invocation_of mode.invocations n ≡ Some i → task_of (hosted_of given.schedule kk m) k n ≡ i.task.0
  task_is kk m there mode i k zero at ni = absurd (cc ni)
  task_is kk m there mode i k (suc n) at ni =
      let well = (given.well_formed.modules kk m there).modes k mode at in
      let one : suc n ≡ 1 + n = omega arith in
      ap (task_of (hosted_of given.schedule kk m) k) one
      ∙ task_of-is m (hosted_of given.schedule kk m) k n mode i at ni refl _
      (call_found m k mode at n i ni (λ q j jt ja. let c = well.calls q n j i jt ni ja in (c.0, c.1)))

  -- the compiler's tables of a hosted module are right
  pub host_tables : (gone : ℕ → ℕ → Type 0) (kk : ℕ) (m : Module) → slice_get given.program.modules kk ≡ Some m →
      HostTables given (hosted_of given.schedule kk m)
  host_tables gone kk m there = record {
    definition = m;
    there = there;
    windows = refl;
    wells = well_window given kk m there (given.well_formed.modules kk m there) (hosted_of given.schedule kk m) refl
        (task_is kk m there);
  }
