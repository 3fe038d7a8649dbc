use Rattle.std.proofs.Common.{rules, ◌≡◌, Some, None, FitsSigned, w64, to_z, of_z, ap, sym, ◌∙◌}
use Rattle.std.specs.Prelude.{unwrap_or}
use Rattle.std.proofs.lemmas.Int.{to_z-of_z}
use Rattle.tdl_mode.specs.Phases.{update_value}
use Rattle.tdl_logic.specs.Looks.{shown}
use Rattle.tdl_logic.specs.Standing.{bare}
use Rattle.tdl_logic.proofs.Passing.{changed_at-same, set-changed}
use Rattle.tdl_logic.proofs.update.update_at.Goals as goal

pub returns-in-Some : goal.returns-in-Some
returns-in-Some c =
    let fits : FitsSigned w64 c.in-Some.v = search rules in
    let taken = update_value (bare c.args.moment.now) c.args.moment.now.at.0 (shown c.args.seen.now) c.args.actuator in
    let is : taken ≡ Some c.in-Some.v = sym c.update_value.ensures ∙ c.in-Some.is in
    c.set.ensures
    ∙ set-changed c.args.actuator (λ v. unwrap_or taken v) (to_z w64 (of_z w64 c.in-Some.v)) c.args.actuators.now
    (λ x. ap (λ o. unwrap_or o x) is ∙ sym (to_z-of_z w64 c.in-Some.v fits))

pub returns-in_default : goal.returns-in_default
returns-in_default c =
    let taken = update_value (bare c.args.moment.now) c.args.moment.now.at.0 (shown c.args.seen.now) c.args.actuator in
    let is : taken ≡ None = sym c.update_value.ensures ∙ c.in_default.is in
    sym (changed_at-same c.args.actuator (λ v. unwrap_or taken v) c.args.actuators.now
    (λ x. ap (λ o. unwrap_or o x) is))
