use Rattle.std.proofs.Common.{ℕ, List, [], ap, inr, subst}
use Rattle.tdl_lines.specs.Faults.{IsFirst}
use Rattle.tdl_scenario.specs.declared.error.ScenError.{ScenError}
use Rattle.tdl_scenario.specs.ReadScenario.{TellsFirst}
use Rattle.tdl_scenario.specs.Rules.{scenario_faults}
use Rattle.tdl_trace.specs.declared.names.Names.{Names}
use Rattle.tdl_verify.specs.Texts.{bundle_names}
use Rattle.tdl_top.specs.Inputs.{IsScenarioOf}
use Rattle.tdl_top.proofs.inputs.read_scenario.Goals as goal

pub returns-in-Ok-clause-ok : goal.returns-in-Ok-clause-ok
returns-in-Ok-clause-ok g c = record {
  bytes = c.in_ok-bytes.bytes.items;
  read = c.in_ok-bytes.ensures.ok;
  says = subst (λ (names : Names). IsScenarioOf names c.in_ok-bytes.bytes.items c.in-Ok.scenario) c.in_ok-names.ensures
      (subst (λ (bytes : List ℕ). IsScenarioOf c.in_ok-names.names bytes c.in-Ok.scenario) c.deref.ensures.value
      (record { lawful = c.in-Ok.ensures.lawful; said = c.in-Ok.ensures.said }));
}

pub returns-in-Err-BadScenario-clause-refused : goal.returns-in-Err-BadScenario-clause-refused
returns-in-Err-BadScenario-clause-refused g c = λ call word has.
    let fault = c.in-Err-BadScenario.fault in
    let first : IsFirst fault (scenario_faults c.in_ok-names.names [] c.deref.result.now) =
    subst (λ (e : ScenError). TellsFirst e (scenario_faults c.in_ok-names.names [] c.deref.result.now))
    c.in-Err-BadScenario.field-0-is c.in-Err-BadScenario.ensures.err in
    inr (record {
      bundle = c.args.bundle.now;
      has = has;
      is = record {
        word = c.args.at;
        asked = word;
        bytes = c.in_ok-bytes.bytes.items;
        read = c.in_ok-bytes.ensures.ok;
        first = subst (λ (names : Names). IsFirst fault (scenario_faults names [] c.in_ok-bytes.bytes.items))
            c.in_ok-names.ensures
            (subst (λ (bytes : List ℕ). IsFirst fault (scenario_faults c.in_ok-names.names [] bytes))
            c.deref.ensures.value first);
      };
    })
