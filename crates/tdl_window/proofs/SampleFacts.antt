-- Programs and windows that tests make: their invocations are there, and they are few.
use Rattle.std.proofs.Common.{◌≡◌, ℕ, zero, suc, ◌≤◌, [], ◌∷◌, length, Some, ap, ap₂, sym, ◌∙◌, subst, arith}
use Rattle.std.specs.Prelude.{slice_get}
use Rattle.std.proofs.lemmas.Option.{same_Some}
use Rattle.tdl_mode.specs.declared.program.Program.{Program}
use Rattle.tdl_mode.specs.declared.program.Module.{Module}
use Rattle.tdl_mode.specs.declared.program.Mode.{Mode}
use Rattle.tdl_mode.specs.declared.program.Task.{Task}
use Rattle.tdl_deploy.specs.Passes.{Invoked}
use Rattle.tdl_base.specs.declared.limits.TheConstants.{OCCURRENCES}
use Rattle.tdl_window.specs.Granted.{IsSmall}
use Rattle.tdl_window.specs.Samples.{InvokesFirst, HasCall, HasTwo}

-- a module of one mode that invokes its one task
pub has_call : (m : Module) (mode : Mode) (task : Task) → m.modes ≡ mode ∷ [] → m.tasks ≡ task ∷ [] →
    InvokesFirst mode → HasCall m
has_call m mode task modes tasks first = record {
  mode = mode;
  invocation = first.invocation;
  task = task;
  mode_at = ap (λ ms. slice_get ms 0) modes;
  invocation_at = ap (λ is. slice_get is 0) first.alone;
  task_at = ap₂ slice_get tasks first.task;
  small = record {
    modes = let one : length m.modes ≡ 1 = ap length modes in omega (arith, one);
    invocations = λ k other at. few k other (ap (λ ms. slice_get ms k) (sym modes) ∙ at);
  };
}
  where
    few : (k : ℕ) (other : Mode) → slice_get (mode ∷ []) k ≡ Some other → length other.invocations ≤ OCCURRENCES
    few zero other at =
        let same : length other.invocations ≡ 1 =
        ap (λ (x : Mode). length x.invocations) (sym (same_Some mode other at)) ∙ ap length first.alone in
        omega (arith, same)
    few (suc k) other at = absurd (cc at)

-- the invocation of a module by its number
invoked_at : (program : Program) (m : ℕ) (a : Module) → slice_get program.modules m ≡ Some a → HasCall a →
    Invoked program m 0 1
invoked_at program m a at call = record {
  owner = a;
  mode = call.mode;
  invocation = call.invocation;
  task = call.task;
  owner_at = at;
  mode_at = call.mode_at;
  invocation_at = call.invocation_at;
  task_at = call.task_at;
}

-- two such modules
pub has_two : (program : Program) (a b : Module) → program.modules ≡ a ∷ b ∷ [] → HasCall a → HasCall b → HasTwo program
has_two program a b modules one two = record {
  first = invoked_at program 0 a (ap (λ ms. slice_get ms 0) modules) one;
  second = invoked_at program 1 b (ap (λ ms. slice_get ms 1) modules) two;
  small = record {
    modules = let both : length program.modules ≡ 2 = ap length modules in omega (arith, both);
    each = λ m owner at. small m owner (ap (λ ms. slice_get ms m) (sym modules) ∙ at);
  };
}
  where
    small : (m : ℕ) (owner : Module) → slice_get (a ∷ b ∷ []) m ≡ Some owner → IsSmall owner
    small zero owner at = subst IsSmall (same_Some a owner at) one.small
    small (suc zero) owner at = subst IsSmall (same_Some b owner at) two.small
    small (suc (suc m)) owner at = absurd (cc at)
