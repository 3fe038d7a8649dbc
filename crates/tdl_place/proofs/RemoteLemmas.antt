-- Which invocations of a module are remote.
use Rattle.std.proofs.Common.{◌≡◌, ℕ, Bool, true, false, ◌&&◌, ◌||◌, List, [], ◌∷◌, Option, Some, None, option_map, unwrap_or, slice_get, refl, sym, ap, ap₂, ◌∙◌}
use Rattle.std.specs.List.{list_any}
use Rattle.tdl_mode.specs.declared.program.Program.{Program}
use Rattle.tdl_mode.specs.declared.program.Module.{Module}
use Rattle.tdl_mode.specs.declared.program.Task.{Task}
use Rattle.tdl_mode.specs.declared.program.Invocation.{Invocation}
use Rattle.tdl_deploy.specs.Placed.{is_remote}
use Rattle.tdl_deploy.specs.declared.placement.Placement.{Placement}
use Rattle.tdl_place.specs.Importers.{imports_afar}
use Rattle.tdl_place.specs.PlacementRules.{invokes, mode_invokes}

-- two tests that answer alike
any-same : {A : Type 0} (p q : A → Bool) → ((a : A) → p a ≡ q a) → (xs : List A) → list_any p xs ≡ list_any q xs
any-same p q e [] = refl
any-same p q e (x ∷ xs) = ap₂ (λ s t. s || t) (e x) (any-same p q e xs)

-- a test that nothing passes
any-none : {A : Type 0} (p : A → Bool) → ((a : A) → p a ≡ false) → (xs : List A) → list_any p xs ≡ false
any-none p e [] = refl
any-none p e (x ∷ xs) = ap₂ (λ s t. s || t) (e x) (any-none p e xs)

-- tasks that are tested alike are invoked alike
invokes-same : (p q : Task → Bool) → ((t : Task) → p t ≡ q t) → (owner : Module) → invokes p owner ≡ invokes q owner
invokes-same p q e owner =
    any-same (mode_invokes p owner) (mode_invokes q owner)
    (λ mode. any-same _ _ (λ (i : Invocation). by_task (slice_get owner.tasks i.task.0)) mode.invocations) owner.modes
  where
    by_task : (o : Option Task) → unwrap_or (option_map p o) false ≡ unwrap_or (option_map q o) false
    by_task None = refl
    by_task (Some t) = e t

-- a task that is not there is not invoked
invokes-none : (p : Task → Bool) → ((t : Task) → p t ≡ false) → (owner : Module) → invokes p owner ≡ false
invokes-none p e owner =
    any-none (mode_invokes p owner)
    (λ mode. any-none _ (λ (i : Invocation). by_task (slice_get owner.tasks i.task.0)) mode.invocations) owner.modes
  where
    by_task : (o : Option Task) → unwrap_or (option_map p o) false ≡ false
    by_task None = refl
    by_task (Some t) = e t

-- a test with what holds, and with what does not
and_true : (b : Bool) → (b && true) ≡ b
and_true true = refl
and_true false = refl

-- with false on the right
and_false : (b : Bool) → (b && false) ≡ false
and_false true = refl
and_false false = refl

-- the public tasks of a module are remote where it is imported afar
pub invokes-remote : (program : Program) (placement : Placement) (m : ℕ) (owner : Module) (afar : Bool) →
    afar ≡ list_any (imports_afar program m) placement.nodes →
    invokes (is_remote program placement m) owner ≡ (afar && invokes (λ (t : Task). t.public) owner)
invokes-remote program placement m owner true e =
    invokes-same (is_remote program placement m) (λ (t : Task). t.public)
    (λ t. ap (λ (b : Bool). t.public && b) (sym e) ∙ and_true t.public) owner
invokes-remote program placement m owner false e =
    invokes-none (is_remote program placement m)
    (λ t. ap (λ (b : Bool). t.public && b) (sym e) ∙ and_false t.public) owner
