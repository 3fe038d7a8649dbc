-- An instant of all modules is, module by module, the instant of that module alone.
use Rattle.std.proofs.Common.{◌≡◌, ℕ, zero, suc, ℤ, pos, [], ◌∷◌, map, Bool, true, false, Option, Some, None, refl, ap, ◌∙◌}
use Rattle.std.specs.Prelude.{slice_get, option_map, unwrap_or, if◌then◌else◌}
use Rattle.tdl_base.specs.Lists.{numbered}
use Rattle.tdl_base.specs.declared.numbers.PortKey.{PortKey}
use Rattle.tdl_body.specs.Values.{Look}
use Rattle.tdl_base.specs.Sensed.{Sensed}
use Rattle.tdl_mode.specs.States.{ModuleState, State, outputs_in, output_at, look_of}
use Rattle.tdl_mode.specs.Phases.{phase_one, phase_two, phase_three, phase_four, switched, switch_target, is_over}
use Rattle.tdl_mode.specs.Instants.{logical, alone}
use Rattle.tdl_mode.specs.Laws.{IsModuleByModule}
use Rattle.tdl_base.proofs.NumberedLists.{numbered-numbered, numbered-map, numbered-same}

-- what is done to each module, by its number
abbrev Step : Type 0
Step = ℕ → ModuleState → ModuleState

-- a step that leaves the tasks of every module
abbrev KeepsTasks : Step → Type 0
KeepsTasks f = (k : ℕ) (m : ModuleState) → (f k m).tasks ≡ m.tasks

-- the output of a key that was looked up, 0 where there is no such module
abbrev output_of : Option ModuleState → ℕ → ℕ → ℤ
output_of found t o = unwrap_or (option_map (λ m. output_at m.tasks t o) found) (pos 0)

-- a step that leaves the tasks leaves the output of each key
output_of-kept : (f : Step) → KeepsTasks f → (n i t o : ℕ) (state : State) →
    output_of (slice_get (numbered n f state) i) t o ≡ output_of (slice_get state i) t o
output_of-kept f kept n i t o [] = refl
output_of-kept f kept n zero t o (m ∷ ms) = ap (λ ts. output_at ts t o) (kept n m)
output_of-kept f kept n (suc i) t o (m ∷ ms) = output_of-kept f kept (suc n) i t o ms

-- so it leaves all outputs
outputs_in-kept : (f : Step) → KeepsTasks f → (state : State) → outputs_in (numbered 0 f state) ≡ outputs_in state
outputs_in-kept f kept state = λ i. λ key. output_of-kept f kept 0 key.module.0 key.task.0 key.output state i

-- a switch, or the next cycle, leaves the tasks
pub switched-tasks : (x : ℕ) (m : ModuleState) (target : Option ℕ) → (switched x m target).tasks ≡ m.tasks
switched-tasks x m (Some target) = refl
switched-tasks x m None = by_case (is_over m x)
  where
    by_case : (b : Bool) → (if b then record m { base = x } else m).tasks ≡ m.tasks
    by_case true = refl
    by_case false = refl

-- the instant of all modules, module by module
pub logical-alone : (x : ℕ) (sensed : Sensed) (state : State) → IsModuleByModule x sensed state
unfolding logical alone
logical-alone x sensed state = see_two ∙ see_three ∙ one_pass ∙ look_once
  where
    step : (Look → ModuleState → ModuleState) → (PortKey → ℤ) → Step
    step phase s k m = phase (look_of k m.tasks sensed s) m

    one : State
    one = map (phase_one x) state

    seen : PortKey → ℤ
    seen = outputs_in one

    two : State
    two = numbered 0 (step (phase_two x) seen) one

    three : State
    three = numbered 0 (step (phase_three x) seen) two

    kept_two : outputs_in two ≡ seen
    kept_two = outputs_in-kept (step (phase_two x) seen) (λ k m. refl) one

    keeps_three : KeepsTasks (step (phase_three x) seen)
    keeps_three k m = switched-tasks x m (switch_target m x (look_of k m.tasks sensed seen))

    kept_three : outputs_in three ≡ seen
    kept_three = outputs_in-kept (step (phase_three x) seen) keeps_three two ∙ kept_two

    phases : Step
    phases k m = step (phase_four x) seen k (step (phase_three x) seen k (step (phase_two x) seen k (phase_one x m)))

    see_two : logical x sensed state ≡ numbered 0 (step (phase_four x) (outputs_in three)) three
    see_two =
        ap (λ s. numbered 0 (step (phase_four x) (outputs_in (numbered 0 (step (phase_three x) s) two)))
        (numbered 0 (step (phase_three x) s) two)) kept_two

    see_three : numbered 0 (step (phase_four x) (outputs_in three)) three ≡ numbered 0 (step (phase_four x) seen) three
    see_three = ap (λ s. numbered 0 (step (phase_four x) s) three) kept_three

    one_pass : numbered 0 (step (phase_four x) seen) three ≡ numbered 0 phases state
    one_pass =
        numbered-numbered (step (phase_four x) seen) (step (phase_three x) seen) 0 two
        ∙ numbered-numbered (λ k m. step (phase_four x) seen k (step (phase_three x) seen k m))
        (step (phase_two x) seen) 0 one
        ∙ numbered-map (λ k m. step (phase_four x) seen k (step (phase_three x) seen k (step (phase_two x) seen k m)))
        (phase_one x) 0 state

    look_once : numbered 0 phases state ≡ numbered 0 (λ k m. alone k x sensed seen m) state
    look_once =
        numbered-same phases (λ k m. alone k x sensed seen m)
        (λ k m. let n : ModuleState = step (phase_two x) seen k (phase_one x m) in
        ap (λ ts. phase_four x (look_of k ts sensed seen) (step (phase_three x) seen k n)) (keeps_three k n)) 0 state
