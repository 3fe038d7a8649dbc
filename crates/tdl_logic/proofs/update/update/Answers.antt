use Rattle.std.proofs.Common.{◌≡◌, ℕ, ℤ, length, ap, ◌∙◌, arith}
use Rattle.std.specs.Prelude.{unwrap_or}
use Rattle.tdl_mode.specs.Phases.{update_value}
use Rattle.tdl_logic.specs.Looks.{shown}
use Rattle.tdl_logic.specs.Standing.{bare}
use Rattle.tdl_logic.proofs.Passing.{done-all, done-more, length-done}
use Rattle.tdl_logic.proofs.update.update.Goals as goal

pub update_at-requires : goal.update_at-requires
update_at-requires c =
    let f : ℕ → ℤ → ℤ = λ a v. unwrap_or (update_value (bare c.args.moment.now) c.args.moment.now.at.0
    (shown c.args.seen.now) a) v in
    let count : length c.loop-actuator.actuators ≡ length c.args.actuators.now =
    ap length c.loop-actuator.invariant ∙ length-done c.loop-actuator.actuator f c.args.actuators.now in
    omega (arith, count, c.len-actuator-end.ensures, c.loop-actuator-test.true)

pub loop-actuator-preserved : goal.loop-actuator-preserved
loop-actuator-preserved c =
    let f : ℕ → ℤ → ℤ = λ a v. unwrap_or (update_value (bare c.args.moment.now) c.args.moment.now.at.0
    (shown c.args.seen.now) a) v in
    done-more c.loop-actuator.actuator f c.args.actuators.now c.loop-actuator.actuators c.update_at.new.actuators
    c.loop-actuator.invariant c.update_at.ensures

pub returns : goal.returns
returns c =
    let f : ℕ → ℤ → ℤ = λ a v. unwrap_or (update_value (bare c.args.moment.now) c.args.moment.now.at.0
    (shown c.args.seen.now) a) v in
    c.loop-actuator.invariant
    ∙ done-all c.loop-actuator.actuator f c.args.actuators.now
    (omega (arith, c.len-actuator-end.ensures, c.loop-actuator-test.false))
