-- Where the cycles of a module begin.
use Prim.Native.Nat.{◌∣◌}
use Rattle.std.proofs.Common.{◌≡◌, ◌⊎◌, inl, inr, ℕ, ◌+◌, ℤ, [], Bool, true, false, ◌&&◌, ◌==◌, Option, Some, None, refl, ap, sym, ◌∙◌, subst}
use Rattle.std.specs.Prelude.{option_map, unwrap_or, if◌then◌else◌, find}
use Rattle.std.proofs.lemmas.Bool.{eqb-true, eq-eqb, and_parts}
use Rattle.std.proofs.Math.Nat.{dvd-add}
use Rattle.tdl_base.specs.declared.numbers.PortKey.{PortKey}
use Rattle.tdl_body.specs.Values.{Look, holds}
use Rattle.tdl_mode.specs.declared.program.Mode.{Mode}
use Rattle.tdl_mode.specs.declared.program.Switch.{Switch}
use Rattle.tdl_base.specs.Sensed.{Sensed}
use Rattle.tdl_mode.specs.States.{ModuleState, present, look_of}
use Rattle.tdl_mode.specs.Phases.{phase_one, phase_two, switch_target, switches_now, is_over, switched}
use Rattle.tdl_mode.specs.Instants.{alone}
use Rattle.tdl_mode.specs.Grains.{DividesCycles}
use Rattle.tdl_mode.specs.Laws.{SwitchAt, MayEnd, StaysOrTurns}
use Rattle.tdl_base.proofs.Finding.{found_by}

-- ---- phase 3 at x of a module m

module _ (x : ℕ) (m : ModuleState) (look : Look) where
  -- the switch stands at x, and its guard holds
  abbrev is_taken : Switch → Bool
  is_taken w = m.base + w.at.0 == x && holds w.guard look

  -- the switch that is taken stands at x
  taken_at : (mode : Mode) (w : Switch) → find is_taken mode.switches ≡ Some w → SwitchAt m.base x mode
  taken_at mode w found =
      let here = found_by is_taken mode.switches w found in
      record {
        place = here.place;
        switch = w;
        there = here.at;
        at = eqb-true (m.base + w.at.0) x (and_parts (m.base + w.at.0 == x) (holds w.guard look) here.passes).0;
      }

  -- where a switch is taken, a cycle may end
  may_switch : (w : Switch) → find is_taken (switches_now m) ≡ Some w → MayEnd x m
  may_switch w found = by_mode (present m) refl found
    where
      by_mode : (o : Option Mode) → present m ≡ o →
          find is_taken (unwrap_or (option_map (λ mode. mode.switches) o) []) ≡ Some w → MayEnd x m
      by_mode None now found = absurd (cc found)
      by_mode (Some mode) now found = record { mode = mode; now = now; ends = inr (taken_at mode w found) }

  -- where the period is over, a cycle may end
  may_be_over : is_over m x ≡ true → MayEnd x m
  may_be_over over = by_mode (present m) refl over
    where
      by_mode : (o : Option Mode) → present m ≡ o →
          unwrap_or (option_map (λ mode. m.base + mode.period.0 == x) o) false ≡ true → MayEnd x m
      by_mode None now over = absurd (cc over)
      by_mode (Some mode) now over =
          record { mode = mode; now = now; ends = inl (eqb-true (m.base + mode.period.0) x over) }

  -- the module stays in its cycle, or the next begins at x
  switched-turns : StaysOrTurns x m (switched x m (switch_target m x look))
  switched-turns = by_switch (find is_taken (switches_now m)) refl
    where
      by_over : (over : Bool) → is_over m x ≡ over → StaysOrTurns x m (if over then record m { base = x } else m)
      by_over true over = inr (refl, may_be_over over)
      by_over false over = inl (refl, refl)

      by_switch : (o : Option Switch) → find is_taken (switches_now m) ≡ o →
          StaysOrTurns x m (switched x m (option_map (λ w. w.target.0) o))
      by_switch None found = by_over (is_over m x) refl
      by_switch (Some w) found = inr (refl, may_switch w found)

  -- where the period is over, the next cycle begins at x
  switched-over : (mode : Mode) → present m ≡ Some mode → m.base + mode.period.0 ≡ x →
      (target : Option ℕ) → (switched x m target).base ≡ x
  switched-over mode now ends (Some target) = refl
  switched-over mode now ends None = ap (λ over. (if over then record m { base = x } else m).base) over
    where
      over : is_over m x ≡ true
      over =
          ap (λ o. unwrap_or (option_map (λ (mode : Mode). m.base + mode.period.0 == x) o) false) now
          ∙ eq-eqb (m.base + mode.period.0) x ends

-- ---- the whole instant

module _ (k x : ℕ) (sensed : Sensed) (seen : PortKey → ℤ) (m : ModuleState) where
  -- the module stays in its cycle, or the next begins at x
  pub alone-turns : StaysOrTurns x m (alone k x sensed seen m)
  unfolding alone
  alone-turns =
      let look : Look = look_of k (phase_one x m).tasks sensed seen in
      by_end (switched-turns x (phase_two x look (phase_one x m)) look)
    where
      updated : ModuleState
      updated = phase_two x (look_of k (phase_one x m).tasks sensed seen) (phase_one x m)

      by_end : StaysOrTurns x updated (alone k x sensed seen m) → StaysOrTurns x m (alone k x sensed seen m)
      by_end (inl stays) = inl stays
      by_end (inr (turns, may)) = inr (turns, record { mode = may.mode; now = may.now; ends = may.ends })

  -- where the period is over, the next cycle begins at x
  pub alone-over : (mode : Mode) → present m ≡ Some mode → m.base + mode.period.0 ≡ x →
      (alone k x sensed seen m).base ≡ x
  unfolding alone
  alone-over mode now ends =
      let look : Look = look_of k (phase_one x m).tasks sensed seen in
      let updated : ModuleState = phase_two x look (phase_one x m) in
      switched-over x updated look mode now ends (switch_target updated x look)

  -- what divides every period and every switch's offset, and the base, divides the base after
  pub alone-divided : (d : ℕ) → DividesCycles d m.definition → d ∣ m.base → d ∣ (alone k x sensed seen m).base
  alone-divided d cycles divides = by_end alone-turns
    where
      by_ends : (mode : Mode) → present m ≡ Some mode → (m.base + mode.period.0 ≡ x) ⊎ SwitchAt m.base x mode → d ∣ x
      by_ends mode now (inl over) =
          subst (λ b. d ∣ b) over (dvd-add d {b = m.base} {c = mode.period.0} divides (cycles.periods m.mode mode now))
      by_ends mode now (inr w) =
          subst (λ b. d ∣ b) w.at
          (dvd-add d {b = m.base} {c = w.switch.at.0} divides
          (cycles.switches m.mode w.place mode w.switch now w.there))

      by_end : StaysOrTurns x m (alone k x sensed seen m) → d ∣ (alone k x sensed seen m).base
      by_end (inl stays) = subst (λ b. d ∣ b) (sym stays.1) divides
      by_end (inr (turns, may)) = subst (λ b. d ∣ b) (sym turns) (by_ends may.mode may.now may.ends)
