-- The run of a plain bundle by its machine, as it is printed.
use Rattle.std.proofs.Common.{◌≡◌, ◌<◌, ◌≤◌, ℕ, List, All, subst, sym, ◌∙◌, ap}
use Rattle.std.proofs.lemmas.List.Elements.{All-weaker}
use Rattle.tdl_trace.specs.declared.names.Names.{Names}
use Rattle.tdl_trace.specs.Lines.{text_of}
use Rattle.tdl_scen.specs.declared.entries.Scenario.{Scenario}
use Rattle.tdl_scen.specs.declared.entries.Sense.{Sense}
use Rattle.tdl_scen.specs.declared.entries.TaskTimes.{TaskTimes}
use Rattle.tdl_scen.specs.Senses.{AreInOrder}
use Rattle.tdl_scen.specs.Scenario.{course_of}
use Rattle.tdl_scenario.specs.LawfulScenario.{AreTimes, IsLawful}
use Rattle.tdl_image.specs.declared.bundle.Bundle.{Bundle}
use Rattle.tdl_verify.specs.States.{Times}
use Rattle.tdl_verify.specs.Runs.{IsAlive, machine_run, plain_rows, no_loss}
use Rattle.tdl_verify.specs.Texts.{bundle_names, bundle_text, times_in}
use Rattle.tdl_make.specs.PlainBundle.{IsPlainBundle}
use Rattle.tdl_make.proofs.PlainScenarios.{sensed_in_order}
use Rattle.tdl_host.specs.Lasting.{AreLasting}
use Rattle.tdl_trace.specs.declared.why.Why.{Why}
use Rattle.tdl_node.specs.declared.fault.NodeFault.{NodeFault}
use Rattle.tdl_node.specs.declared.fault.NodeFault.TheVariants.{Trapped}
use Rattle.tdl_node.specs.Steps.{IsTrapFault}
use Rattle.tdl_top.proofs.Done.{bundle_alive}

-- the text that a machine of these names, entries and times prints is that of the bundle's run
pub same_text : (b : Bundle) (s : Scenario) (names : Names) (senses : List Sense) (times : Times) →
    names ≡ bundle_names b → senses ≡ s.senses → times ≡ times_in b s →
    text_of names (plain_rows (machine_run b s.horizon.0 (course_of senses) times no_loss)) ≡ bundle_text b s
same_text b s names senses times e g h =
    ap (λ (n : Names). text_of n (plain_rows (machine_run b s.horizon.0 (course_of senses) times no_loss))) e
    ∙ ap (λ (l : List Sense). text_of (bundle_names b)
    (plain_rows (machine_run b s.horizon.0 (course_of l) times no_loss))) g
    ∙ ap (λ (t : Times). text_of (bundle_names b)
    (plain_rows (machine_run b s.horizon.0 (course_of s.senses) t no_loss))) h

-- that run has no trap
pub same_alive : (b : Bundle) (s : Scenario) (senses : List Sense) (times : Times) → IsPlainBundle b →
    IsLawful (bundle_names b) s →
    senses ≡ s.senses → times ≡ times_in b s →
    IsAlive (machine_run b s.horizon.0 (course_of senses) times no_loss).now
same_alive b s senses times plain fits g h =
    subst (λ (l : List Sense). IsAlive (machine_run b s.horizon.0 (course_of l) times no_loss).now) (sym g)
    (subst (λ (t : Times). IsAlive (machine_run b s.horizon.0 (course_of s.senses) t no_loss).now) (sym h)
    (bundle_alive b s plain fits))

-- so its machine does not stop at a trap
pub no_trap : (b : Bundle) (s : Scenario) (senses : List Sense) (times : Times) (f : NodeFault) (reason : Why) →
    IsPlainBundle b → IsLawful (bundle_names b) s → senses ≡ s.senses → times ≡ times_in b s →
    f ≡ Trapped reason →
    IsTrapFault (λ (r : Why). IsAlive (machine_run b s.horizon.0 (course_of senses) times no_loss).now → ⊥) f → ⊥
no_trap b s senses times f reason plain fits g h e says =
    subst (λ (q : NodeFault). IsTrapFault
    (λ (r : Why). IsAlive (machine_run b s.horizon.0 (course_of senses) times no_loss).now → ⊥) q) e says
    (same_alive b s senses times plain fits g h)

-- what is sensed in a scenario that is lawful for a plain bundle is in order
pub in_order : (b : Bundle) (s : Scenario) → IsPlainBundle b → IsLawful (bundle_names b) s → AreInOrder s.senses
in_order b s plain fits =
    sensed_in_order plain.form s (subst (λ (c : Bundle). IsLawful (bundle_names c) s) plain.is fits)

-- lawful times all last
pub lasting : (names : Names) (times : List TaskTimes) → All (AreTimes names) times → AreLasting times
lasting names times are =
    All-weaker (AreTimes names) (λ (entry : TaskTimes). All (λ (time : ℕ). 0 < time) entry.times)
    (λ entry own. All-weaker (λ (time : ℕ). (1 ≤ time) × (time ≤ own.task.worst.0)) (λ (time : ℕ). 0 < time)
    (λ time within. within.0) entry.times own.times) times are
