-- The logical state has an item for each module.
use Rattle.std.proofs.Common.{◌≡◌, ℕ, zero, suc, List, [], ◌∷◌, map, length, refl, ap, sym, ◌∙◌}
use Rattle.std.proofs.lemmas.List.{length-map}
use Rattle.tdl_base.specs.Lists.{numbered}
use Rattle.tdl_mode.specs.declared.program.Program.{Program}
use Rattle.tdl_base.specs.Sensed.{Sensed, Course}
use Rattle.tdl_mode.specs.States.{State, outputs_in}
use Rattle.tdl_mode.specs.Phases.{phase_one, phase_four}
use Rattle.tdl_mode.specs.Instants.{entered, begun, alone, logical, state_at, look_in}
use Rattle.tdl_mode.proofs.ModuleByModule.{logical-alone}

-- numbering keeps the length
pub length-numbered : {A B : Type 0} (f : ℕ → A → B) (n : ℕ) (xs : List A) → length (numbered n f xs) ≡ length xs
length-numbered f n [] = refl
length-numbered f n (x ∷ xs) = ap suc (length-numbered f (suc n) xs)

-- an instant leaves the number of states
length-logical : (x : ℕ) (sensed : Sensed) (state : State) → length (logical x sensed state) ≡ length state
length-logical x sensed state =
    ap length (logical-alone x sensed state)
    ∙ length-numbered (λ k m. alone k x sensed (outputs_in (map (phase_one x) state)) m) 0 state

-- it has one for each module of the program at any instant
pub state_size : (p : Program) (course : Course) (x : ℕ) → length p.modules ≡ length (state_at p course x)
unfolding state_at begun
state_size p course zero =
    let state : State = map entered p.modules in
    sym (length-numbered (λ k r. phase_four 0 (look_in state (course 0) k r) r) 0 state ∙ length-map p.modules entered)
state_size p course (suc x) =
    state_size p course x ∙ sym (length-logical (suc x) (course (suc x)) (state_at p course x))
