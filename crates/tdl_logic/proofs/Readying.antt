-- What a well-formed program gives to its instants.
use Rattle.std.proofs.Common.{◌≡◌, ◌≤◌, ℕ, zero, suc, List, [], ◌∷◌, length, map, Option, Some, None, slice_get, refl, ap, ap₂, subst, sym, ◌∙◌, arith}
use Rattle.std.specs.Prelude.{option_map, unwrap_or}
use Rattle.std.specs.List.{All}
use Rattle.std.proofs.lemmas.List.Elements.{All-head, All-tail}
use Rattle.std.proofs.lemmas.Option.{same_Some}
use Rattle.tdl_base.specs.Sensed.{Sensed}
use Rattle.tdl_mode.specs.declared.program.Program.{Program}
use Rattle.tdl_mode.specs.declared.program.Module.{Module}
use Rattle.tdl_mode.specs.declared.program.Mode.{Mode}
use Rattle.tdl_mode.specs.declared.program.Task.{Task}
use Rattle.tdl_mode.specs.declared.program.Invocation.{Invocation}
use Rattle.tdl_mode.specs.States.{TaskState, State}
use Rattle.tdl_mode.specs.Phases.{phase_one, phase_two, phase_three, phase_four}
use Rattle.tdl_mode.specs.Instants.{entered, begun, begun_task, for_all, logical}
use Rattle.tdl_mode.specs.WellFormed.{WellFormed, WellInvocation}
use Rattle.tdl_logic.specs.declared.module_now.ModuleNow.{ModuleNow}
use Rattle.tdl_logic.specs.Facts.{IsReady}
use Rattle.tdl_logic.specs.Releases.{definitions_of, HasArguments}
use Rattle.tdl_logic.specs.Rooms.{HasInputs, HasInputsOf}
use Rattle.tdl_logic.specs.Runs.{Run, phases_after, state_after, with_instant}
use Rattle.tdl_base.specs.declared.numbers.Us.{Us}
use Rattle.tdl_deploy.specs.declared.placement.Placement.{Placement}
use Rattle.tdl_logic.specs.Wholes.{all_standing, entered_now, AllHaveArguments}
use Rattle.tdl_logic.proofs.Placing.{mapped-there}

-- what holds of all items holds of one
all-at : {A : Type 0} (P : A → Type 0) (xs : List A) (k : ℕ) (x : A) → All P xs → slice_get xs k ≡ Some x → P x
all-at P [] k x h e = absurd cc
all-at P (y ∷ ys) zero x h e = let same : y ≡ x = cc in subst P same (All-head P y ys h)
all-at P (y ∷ ys) (suc k) x h e = all-at P ys k x (All-tail P y ys h) e

-- an invocation of a present mode, as the rules say of it
well-invocation : (p : Program) (k : ℕ) (m : Module) (now : ModuleNow) (q : ℕ) (i : Invocation) → WellFormed p →
    slice_get p.modules k ≡ Some m → (o : Option Mode) → slice_get m.modes now.cycle.mode.0 ≡ o →
    slice_get (unwrap_or (option_map (λ mode. mode.invocations) o) []) q ≡ Some i →
    (mode : Mode) × WellInvocation p k m mode i
well-invocation p k m now q i well em None eo at = absurd cc
well-invocation p k m now q i well em (Some mode) eo at =
    (mode, ((well.modules k m em).modes now.cycle.mode.0 mode eo).invocations (suc q) i at)

-- each invocation of a present mode has its arguments
pub arguments-ready : (p : Program) (nows : List ModuleNow) (all : List (List TaskState)) (n : ℕ)
    (reached : Option ℕ) → IsReady p nows all n reached → (ns : List ModuleNow) →
    AllHaveArguments p.modules ns all n
arguments-ready p nows all n reached ready ns k m now em en q i at = (count, fits)
  where
    found : (mode : Mode) × WellInvocation p k m mode i
    found = well-invocation p k m now q i ready.well em (slice_get m.modes now.cycle.mode.0) refl at

    count : HasArguments i k all
    count tasks task own here =
        let same : m.tasks ≡ tasks =
        same_Some m.tasks tasks
        (sym (mapped-there (λ d. d.tasks) p.modules k m em) ∙ ap (λ ds. slice_get ds k) (sym ready.own) ∙ own) in
        let is : found.1.definition ≡ task =
        same_Some found.1.definition task
        (sym found.1.task ∙ ap (λ ts. slice_get ts i.task.0) same ∙ here) in
        found.1.inputs ∙ ap (λ (t : Task). length t.inputs) is

    fits : length i.args ≤ n
    fits =
        let le : length found.1.definition.inputs ≤ n =
        all-at (HasInputs n) m.tasks i.task.0 found.1.definition (all-at (HasInputsOf n) p.modules k m ready.room em)
        found.1.task in
        omega (arith, le, found.1.inputs)

-- the same of what equals them
pub arguments-for : (p : Program) (nows : List ModuleNow) (all all' : List (List TaskState)) (n n' : ℕ)
    (reached : Option ℕ) (ms : List Module) → IsReady p nows all n reached → ms ≡ p.modules → all' ≡ all → n' ≡ n →
    (ns : List ModuleNow) → AllHaveArguments ms ns all' n'
arguments-for p nows all all' n n' reached ms ready em ea en ns =
    subst (λ (x : List Module). AllHaveArguments x ns all' n') (sym em)
    (subst (λ (x : List (List TaskState)). AllHaveArguments p.modules ns x n') (sym ea)
    (subst (λ (x : ℕ). AllHaveArguments p.modules ns all x) (sym en) (arguments-ready p nows all n reached ready ns)))

-- all modules before the first instant
pub entered-all : (ms : List Module) →
    all_standing ms (map entered_now ms) (map (λ m. map begun_task m.tasks) ms) ≡ map entered ms
entered-all [] = refl
entered-all (m ∷ ms) = ap (λ ss. entered m ∷ ss) (entered-all ms)

-- the tasks before it
begun-tasks : (ts : List Task) → map (λ u. u.definition) (map begun_task ts) ≡ ts
begun-tasks [] = refl
begun-tasks (t ∷ ts) = ap (λ us. t ∷ us) (begun-tasks ts)

pub begun-definitions : (ms : List Module) →
    definitions_of (map (λ m. map begun_task m.tasks) ms) ≡ map (λ m. m.tasks) ms
begun-definitions [] = refl
begun-definitions (m ∷ ms) = ap₂ (λ ts more. ts ∷ more) (begun-tasks m.tasks) (begun-definitions ms)

-- the four phases of all modules are an instant
pub logical-is : (x : ℕ) (sensed : Sensed) (state : State) →
    for_all (phase_four x) sensed
    (for_all (phase_three x) sensed (for_all (phase_two x) sensed (map (phase_one x) state)))
    ≡ logical x sensed state
unfolding logical
logical-is x sensed state = refl

-- the fourth alone is the first
pub begun-is : (p : Program) (x : ℕ) (sensed : Sensed) → x ≡ 0 →
    for_all (phase_four x) sensed (map entered p.modules) ≡ begun p sensed
unfolding begun
begun-is p x sensed e = ap (λ n. for_all (phase_four n) sensed (map entered p.modules)) e

-- the execution after an instant
pub stepped : (p : Program) (placement : Placement) (reached : Option Us) (nows : List ModuleNow)
    (all : List (List TaskState)) (n x : ℕ) (sensed : Sensed) (after : State) (old : Run) →
    record {
      program = p;
      placement = placement;
      reached = option_map (λ at. at.0) reached;
      state = all_standing p.modules nows all;
    } ≡ old →
    IsReady p nows all n (option_map (λ at. at.0) reached) → (old.reached ≡ None → x ≡ 0) →
    after ≡ phases_after reached x sensed (all_standing p.modules nows all) →
    record { program = p; placement = placement; reached = Some x; state = after } ≡ with_instant x sensed old
stepped p placement reached nows all n x sensed after old view ready first is =
    ap (λ s. record { program = p; placement = placement; reached = Some x; state = s })
    (is ∙ by_reached reached ready (λ none. first (sym (ap (λ (r : Run). r.reached) view) ∙ none)))
    ∙ ap (with_instant x sensed) view
  where
    by_reached : (r : Option Us) → IsReady p nows all n (option_map (λ at. at.0) r) →
        (option_map (λ at. at.0) r ≡ None → x ≡ 0) →
        phases_after r x sensed (all_standing p.modules nows all)
        ≡ state_after x sensed p (option_map (λ at. at.0) r) (all_standing p.modules nows all)
    by_reached None ready' zero_is =
        ap (for_all (phase_four x) sensed) (ready'.first refl) ∙ begun-is p x sensed (zero_is refl)
    by_reached (Some y) ready' zero_is = refl
