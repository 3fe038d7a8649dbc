-- After instant 0 the machine's state of a module is the program's, where it sees what the program's modules put out.
use Rattle.std.proofs.Common.{◌≡◌, ℕ, ◌+◌, ℤ, map, Bool, true, false, ◌==◌, Some, refl, ap, sym, ◌∙◌, arith}
use Rattle.std.specs.Prelude.{slice_get, option_map, if◌then◌else◌}
use Rattle.std.proofs.lemmas.Option.{slice_get-map}
use Rattle.tdl_base.specs.declared.numbers.PortKey.{PortKey}
use Rattle.tdl_mode.specs.declared.program.Module.{Module}
use Rattle.tdl_base.specs.Sensed.{Course}
use Rattle.tdl_mode.specs.States.{State, look_of, outputs_in, output_at}
use Rattle.tdl_mode.specs.Phases.{phase_four}
use Rattle.tdl_mode.specs.Instants.{entered, begun, state_at, look_in}
use Rattle.tdl_verify.specs.States.{Times}
use Rattle.tdl_gen.specs.Realises.{IsWithinWorst}
use Rattle.tdl_mode.specs.WellFormed.{ReadsPort}
use Rattle.tdl_mode.proofs.Seeing.{releases_same}
use Rattle.tdl_meaning.proofs.ItemPlaces.{numbered-at}
use Rattle.tdl_meaning.proofs.NodesBoot.{start_of}
use Rattle.tdl_meaning.proofs.InstantZero.{first_seen, first_logic}
use Rattle.tdl_meaning.specs.Accepted.{Accepted}

module _ (given : Accepted) (course : Course) (times : Times) (within : IsWithinWorst given.program times) where
  -- what each module sees at instant 0
  abbrev seen : ℕ → PortKey → ℤ
  seen = first_seen given course times within

  -- what the program's modules put out at their beginning
  abbrev out : PortKey → ℤ
  out = outputs_in (map entered given.program.modules)

  -- where a module sees what the program's put out, its state is the program's
  pub agree_first : (kk : ℕ) (m : Module) → slice_get given.program.modules kk ≡ Some m →
      ((key : PortKey) → ReadsPort given.program kk m key → (key.module.0 == kk) ≡ false → seen kk key ≡ out key) →
      slice_get (state_at given.program course 0) kk ≡ Some (first_logic given course times within kk)
  unfolding state_at begun
  agree_first kk m there h =
      let z : 0 + kk ≡ kk = omega arith in
      let state : State = map entered given.program.modules in
      let at : slice_get state kk ≡ Some (entered m) =
      slice_get-map entered given.program.modules kk ∙ ap (option_map entered) there in
      numbered-at (λ k r. phase_four 0 (look_in state (course 0) k r) r) 0 state kk (entered m) at
      ∙ ap (λ k. Some (phase_four 0 (look_in state (course 0) k (entered m)) (entered m))) z
      ∙ ap Some (sym (releases_same given.program kk m (given.well_formed.modules kk m there)
      (look_of kk (entered m).tasks (course 0) (seen kk)) (look_of kk (entered m).tasks (course 0) out) refl
      (λ key reads. by_own key reads (key.module.0 == kk) refl) 0 (entered m) refl))
      ∙ ap (λ o. Some (start_of given (course 0) times within seen kk o)) (sym there)
    where
      by_own : (key : PortKey) → ReadsPort given.program kk m key → (b : Bool) → (key.module.0 == kk) ≡ b →
          (if key.module.0 == kk then output_at (entered m).tasks key.task.0 key.output else seen kk key)
          ≡ (if key.module.0 == kk then output_at (entered m).tasks key.task.0 key.output else out key)
      by_own key reads true e =
          let o : ℤ = output_at (entered m).tasks key.task.0 key.output in
          ap (λ b. if b then o else seen kk key) e ∙ sym (ap (λ b. if b then o else out key) e)
      by_own key reads false e =
          let o : ℤ = output_at (entered m).tasks key.task.0 key.output in
          ap (λ b. if b then o else seen kk key) e ∙ h key reads e ∙ sym (ap (λ b. if b then o else out key) e)
