-- The port rows of a node, module by module, are those of the logical instant.
use Rattle.std.proofs.Common.{◌≡◌, ℕ, suc, ◌+◌, List, [], ◌∷◌, ◌++◌, length, Bool, true, false, ◌&&◌, ◌||◌, Some, refl, ap, ap₂, sym, ◌∙◌, subst, arith}
use Rattle.std.specs.Prelude.{slice_get, if◌then◌else◌}
use Rattle.tdl_base.specs.Lists.{numbered, joined}
use Rattle.tdl_mode.specs.declared.program.Program.{Program}
use Rattle.tdl_mode.specs.declared.program.Module.{Module}
use Rattle.tdl_mode.specs.States.{ModuleState, State, TaskState}
use Rattle.tdl_trace.specs.Shown.{Shown}
use Rattle.tdl_deploy.specs.declared.placement.Placement.{Placement}
use Rattle.tdl_deploy.specs.Placed.{hosts, imports, sees}
use Rattle.tdl_deploy.specs.Rows.{port_rows, task_port_rows, module_port_rows}
use Rattle.tdl_mode.specs.Phases.{has_ended, task_after}
use Rattle.std.proofs.Math.Bool.{and-false}
use Rattle.tdl_meaning.proofs.PartRows.{of_module, beside}

-- a module that the node neither hosts nor imports shows nothing there
unseen_rows : (program : Program) (placement : Placement) (node x i : ℕ) (r : ModuleState) →
    hosts placement node i ≡ false →
    imports program placement node i ≡ false → (n : ℕ) (us : List TaskState) →
    joined (numbered n (task_port_rows program placement node x i r) us) ≡ []
unseen_rows program placement node x i r away far n [] = refl
unseen_rows program placement node x i r away far n (u ∷ us) =
    ap₂ (λ a b. a ++ b) none (unseen_rows program placement node x i r away far (suc n) us)
  where
    unseen : sees program placement node i u.definition ≡ false
    unseen = ap₂ (λ a b. a || (u.definition.public && b)) away far ∙ and-false u.definition.public

    either : Bool → List Shown → List Shown
    either b l = if b then l else []

    if_none : (b : Bool) → either b [] ≡ []
    if_none true = refl
    if_none false = refl

    none : task_port_rows program placement node x i r n u ≡ []
    none = ap (λ b. if has_ended r x u then (if b then numbered 0 (λ o v. Shown.Port x node i n o v)
        (task_after r x u).outputs else []) else []) unseen ∙ if_none (has_ended r x u)

-- where each module's rows are its port rows, those of the modules that have a part are all port rows of the node
pub ports_right : (program : Program) (placement : Placement) (node x : ℕ) (rows : ℕ → List Shown) (state : State) →
    length program.modules ≡ length state →
    ((k : ℕ) (m : Module) (r : ModuleState) → slice_get program.modules k ≡ Some m → slice_get state k ≡ Some r →
    rows k ≡ module_port_rows program placement node x k r) →
    joined (numbered 0 (λ k m. of_module program placement node rows rows k) program.modules)
    ≡ port_rows program placement node x state
ports_right program placement node x rows state size h =
    beside (of_module program placement node rows rows) (module_port_rows program placement node x) 0 program.modules
    state size (λ k m r there at.
    let z : k ≡ 0 + k = omega arith in
    subst (λ j. of_module program placement node rows rows j ≡ module_port_rows program placement node x j r) z
    (one k r (h k m r there at)))
  where
    one : (k : ℕ) (r : ModuleState) → rows k ≡ module_port_rows program placement node x k r →
        of_module program placement node rows rows k ≡ module_port_rows program placement node x k r
    one k r e = by_test (hosts placement node k) refl (imports program placement node k) refl
      where
        by_test : (a : Bool) → hosts placement node k ≡ a → (b : Bool) → imports program placement node k ≡ b →
            (if a then rows k else (if b then rows k else [])) ≡ module_port_rows program placement node x k r
        by_test true h b i = e
        by_test false h true i = e
        by_test false h false i = sym (unseen_rows program placement node x k r h i 0 r.tasks)
