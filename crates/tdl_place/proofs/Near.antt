-- Where no invocation is remote.
use Rattle.std.proofs.Common.{◌≡◌, ℕ, zero, suc, Bool, true, false, option_map, unwrap_or, slice_get, Option, Some, refl, sym, ap, ◌∙◌, true≢false}
use Rattle.tdl_base.proofs.Finding.{passing-any}
use Rattle.tdl_mode.specs.States.{invocation_of}
use Rattle.tdl_mode.specs.declared.program.Program.{Program}
use Rattle.tdl_mode.specs.declared.program.Module.{Module}
use Rattle.tdl_mode.specs.declared.program.Mode.{Mode}
use Rattle.tdl_mode.specs.declared.program.Task.{Task}
use Rattle.tdl_mode.specs.declared.program.Invocation.{Invocation}
use Rattle.tdl_deploy.specs.Passes.{Invoked}
use Rattle.tdl_deploy.specs.Placed.{is_remote}
use Rattle.tdl_deploy.specs.declared.placement.Placement.{Placement}
use Rattle.tdl_place.specs.PlacementRules.{invokes, mode_invokes, has_remote}
use Rattle.tdl_place.proofs.Numbered.{any-place}

-- an invocation of a mode that passes
mode_has : (p : Task → Bool) (owner : Module) (mode : Mode) (n : ℕ) (i : Invocation) (t : Task) →
    invocation_of mode.invocations n ≡ Some i → slice_get owner.tasks i.task.0 ≡ Some t → p t ≡ true →
    mode_invokes p owner mode ≡ true
mode_has p owner mode zero i t at is passes = absurd cc
mode_has p owner mode (suc n) i t at is passes =
    passing-any (λ (i : Invocation). unwrap_or (option_map p (slice_get owner.tasks i.task.0)) false)
    mode.invocations n i at (ap (λ (o : Option Task). unwrap_or (option_map p o) false) is ∙ passes)

-- an invocation of the program that is remote
remote_has : (program : Program) (placement : Placement) (m k n : ℕ) (i : Invoked program m k n) →
    is_remote program placement m i.task ≡ true → has_remote program placement ≡ true
remote_has program placement m k n i remote =
    any-place (λ b. b) (λ m (owner : Module). invokes (is_remote program placement m) owner) m program.modules
    i.owner i.owner_at
    (passing-any (mode_invokes (is_remote program placement m) i.owner) i.owner.modes k i.mode i.mode_at
    (mode_has (is_remote program placement m) i.owner i.mode n i.invocation i.task i.invocation_at i.task_at remote))

-- where none is remote, this one is not
pub none_remote : (program : Program) (placement : Placement) → has_remote program placement ≡ false →
    (m k n : ℕ) (i : Invoked program m k n) → is_remote program placement m i.task ≡ false
none_remote program placement none m k n i = by_test (is_remote program placement m i.task) refl
  where
    by_test : (b : Bool) → is_remote program placement m i.task ≡ b → b ≡ false
    by_test true e = absurd (true≢false (sym (remote_has program placement m k n i e) ∙ none))
    by_test false e = refl
