-- The updates of the block of phase 2 are those of the logical phase 2, and their rows those of the actuators.
use Rattle.std.proofs.Common.{◌≡◌, ℕ, ℤ, List, ◌&&◌, ◌==◌, Option, Some, None, filter, refl, ap, sym, ◌∙◌}
use Rattle.std.specs.Prelude.{slice_get, option_map, unwrap_or, find}
use Rattle.std.proofs.lemmas.Option.{slice_get-map}
use Rattle.tdl_base.specs.Lists.{joined, numbered}
use Rattle.tdl_base.specs.Numbers.{narrowed}
use Rattle.tdl_base.specs.declared.kinds.Kind.{Kind}
use Rattle.tdl_base.specs.declared.kinds.Kind.TheVariants.{Long}
use Rattle.tdl_body.specs.Values.{Look, value_of, holds}
use Rattle.tdl_mode.specs.declared.program.Module.{Module}
use Rattle.tdl_mode.specs.declared.program.Mode.{Mode}
use Rattle.tdl_mode.specs.declared.program.PortDef.{PortDef}
use Rattle.tdl_mode.specs.declared.program.Update.{Update}
use Rattle.tdl_mode.specs.States.{ModuleState}
use Rattle.tdl_mode.specs.Phases.{update_value, phase_two}
use Rattle.tdl_trace.specs.Shown.{Shown}
use Rattle.std.specs.Option.{option_to_list}
use Rattle.tdl_image.specs.declared.hosted.Hosted.{Hosted}
use Rattle.tdl_base.specs.Sensed.{Sensed}
use Rattle.tdl_verify.specs.States.{Part, Times}
use Rattle.tdl_image.specs.declared.bundle.Initial.{Initial}
use Rattle.tdl_gen.specs.Tables.{initials}
use Rattle.tdl_base.proofs.NumberedLists.{numbered-same}
use Rattle.tdl_gen.proofs.UpdateBlocks.{value_taken, updated, all_rows}
use Rattle.tdl_meaning.proofs.PhasesAtOffset.{AtOffset, update_value-is}

module _ (x node : ℕ) (sensed : Sensed) (times : Times) (h : Hosted) (b : ℕ) (front back : List Part) (m : Module)
    (same : h.actuators ≡ initials m.actuators) (k o : ℕ) (mode : Mode) (is : slice_get m.modes k ≡ Some mode)
    (look : Look) where
  -- the updates of actuator a at offset o
  abbrev here : ℕ → List Update
  here a = filter (λ u. u.actuator == a && u.at.0 == o) mode.updates

  -- the kind of an actuator on the node is that of the module's definition
  kind-same : (a : ℕ) → unwrap_or (option_map (λ p. p.kind) (slice_get h.actuators a)) Long
      ≡ unwrap_or (option_map (λ (p : PortDef). p.kind) (slice_get m.actuators a)) Long
  kind-same a = ap (λ (ps : List Initial). kind_in (slice_get ps a)) same
      ∙ ap kind_in (slice_get-map made m.actuators a) ∙ through (slice_get m.actuators a)
    where
      kind_in : Option Initial → Kind
      kind_in q = unwrap_or (option_map (λ (p : Initial). p.kind) q) Long

      made : PortDef → Initial
      made p = record { kind = p.kind; name = p.name; initial = p.initial }

      through : (q : Option PortDef) → kind_in (option_map made q)
          ≡ unwrap_or (option_map (λ (p : PortDef). p.kind) q) Long
      through None = refl
      through (Some p) = refl

  -- the value that the block of phase 2 takes for an actuator is that of phase 2
  value-same : (r : ModuleState) → AtOffset m k o x mode is r → (a : ℕ) →
      value_taken x node sensed times h b front back m k look a (here a) ≡ update_value r x look a
  value-same r stands a =
      ap (λ (kind : Kind). option_map (λ (u : Update). narrowed kind (value_of u.value look))
      (find (λ (u : Update). holds u.guard look) (here a))) (kind-same a)
      ∙ sym (update_value-is m k o x mode is r stands look a)

  -- the actuators after the block of phase 2 are those after phase 2
  pub updated-is : (r : ModuleState) → AtOffset m k o x mode is r →
      updated x node sensed times h b front back m k look here 0 r.actuators ≡ (phase_two x look r).actuators
  updated-is r stands =
      numbered-same (λ a v. unwrap_or (value_taken x node sensed times h b front back m k look a (here a)) v)
      (λ a v. unwrap_or (update_value r x look a) v)
      (λ a v. ap (λ (o : Option ℤ). unwrap_or o v) (value-same r stands a)) 0 r.actuators

  -- the rows of the block of phase 2 are those of the actuators that phase 2 updates
  pub act_rows-are : (r : ModuleState) → AtOffset m k o x mode is r →
      all_rows x node sensed times h b front back m k look here 0 r.actuators
      ≡ joined (numbered 0 (λ a old. option_to_list (option_map (λ v. Shown.Act x node h.number.0 a v)
      (update_value r x look a))) r.actuators)
  act_rows-are r stands =
      ap joined (numbered-same
      (λ a v. option_to_list (option_map (λ w. Shown.Act x node h.number.0 a w)
      (value_taken x node sensed times h b front back m k look a (here a))))
      (λ a old. option_to_list (option_map (λ v. Shown.Act x node h.number.0 a v) (update_value r x look a)))
      (λ a v. ap (λ (o : Option ℤ). option_to_list (option_map (λ w. Shown.Act x node h.number.0 a w) o))
      (value-same r stands a)) 0 r.actuators)
