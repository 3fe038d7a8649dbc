-- What is sensed in a scenario that is lawful for a plain bundle is in order, since the bundle has one sensor.
use Rattle.std.proofs.Common.{◌≡◌, ◌<◌, ℕ, zero, suc, List, [], ◌∷◌, All, Some, ap, sym, ◌∙◌, subst, arith}
use Rattle.std.specs.Prelude.{slice_get, slice_index_or}
use Rattle.std.proofs.lemmas.List.Elements.{All-head, All-tail}
use Rattle.std.proofs.lemmas.Option.{same_Some}
use Rattle.tdl_base.specs.declared.numbers.ModuleId.{ModuleId}
use Rattle.tdl_trace.specs.declared.names.ModuleNames.{ModuleNames}
use Rattle.tdl_trace.specs.declared.names.Named.{Named}
use Rattle.tdl_scen.specs.declared.entries.Scenario.{Scenario}
use Rattle.tdl_scen.specs.declared.entries.Sense.{Sense}
use Rattle.tdl_scen.specs.Senses.{AreInOrder}
use Rattle.tdl_scenario.specs.LawfulScenario.{AreRising, IsLawful, IsSensed}
use Rattle.tdl_verify.specs.Texts.{hosted_names}
use Rattle.tdl_plain.specs.declared.form.Form.{Form}
use Rattle.tdl_make.specs.PlainBundle.{plain_hosted}
use Rattle.tdl_make.proofs.PlainText.{plain_names}

module _ (f : Form) where
  -- the one module of the names has the number 0
  only_module : (place : ℕ) (home : ModuleNames) → slice_get (plain_names f).modules place ≡ Some home →
      home.number.0 ≡ 0
  only_module zero home is = ap (λ (n : ModuleNames). n.number.0) (sym (same_Some _ home is))
  only_module (suc place) home is = absurd (cc is)

  -- and one sensor, of the number 0
  only_sensor : (place k : ℕ) (home : ModuleNames) (sensor : Named) →
      slice_get (plain_names f).modules place ≡ Some home → slice_get home.sensors k ≡ Some sensor → k ≡ 0
  only_sensor zero k home sensor is at =
      by_place k (subst (λ (n : ModuleNames). slice_get n.sensors k ≡ Some sensor) (sym (same_Some _ home is)) at)
    where
      by_place : (k : ℕ) → slice_get (hosted_names 0 (plain_hosted f)).sensors k ≡ Some sensor → k ≡ 0
      by_place zero at = omega arith
      by_place (suc k) at = absurd (cc at)
  only_sensor (suc place) k home sensor is at = absurd (cc is)

  -- an entry is of that sensor
  of_module : (e : Sense) → IsSensed (plain_names f) e → e.module.0 ≡ 0
  of_module e s =
      ap (λ (m : ModuleId). m.0) (sym s.within.number) ∙ only_module s.within.place s.home s.within.is

  of_sensor : (e : Sense) → IsSensed (plain_names f) e → e.sensor ≡ 0
  of_sensor e s = only_sensor s.within.place e.sensor s.home s.sensor s.within.is s.is

  -- so entries of which those of each sensor rise are in order
  in_order : (senses : List Sense) → All (IsSensed (plain_names f)) senses → AreRising senses → AreInOrder senses
  in_order [] are rising i j d le within = absurd (omega (arith, within))
  in_order (e ∷ more) are rising zero zero d le within = omega arith
  in_order (e ∷ more) are rising zero (suc j) d le within =
      let later = slice_index_or more j d in
      let own = All-head (IsSensed (plain_names f)) e more are in
      let other : IsSensed (plain_names f) later = are (suc j) d within in
      let below : e.at.0 < later.at.0 = rising.0 j d (omega (arith, within))
      (of_module later other ∙ sym (of_module e own)) (of_sensor later other ∙ sym (of_sensor e own)) in
      omega (arith, below)
  in_order (e ∷ more) are rising (suc i) zero d le within = absurd (omega (arith, le))
  in_order (e ∷ more) are rising (suc i) (suc j) d le within =
      in_order more (All-tail (IsSensed (plain_names f)) e more are) rising.1 i j d (omega (arith, le))
      (omega (arith, within))

  -- what is sensed in a lawful scenario is in order
  pub sensed_in_order : (s : Scenario) → IsLawful (plain_names f) s → AreInOrder s.senses
  sensed_in_order s lawful = in_order s.senses lawful.senses lawful.rising
