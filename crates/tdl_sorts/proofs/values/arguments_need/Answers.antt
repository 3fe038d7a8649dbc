use Rattle.std.proofs.Common.{◌∙◌, sym, ap, drop, Bool}
use Rattle.tdl_rules.specs.Earliest.{earliest}
use Rattle.tdl_rules.specs.Naming.{inputs}
use Rattle.tdl_rules.specs.SortRules.{needs}
use Rattle.tdl_sorts.proofs.ArgumentsLeft.{no_input, one_input, no_argument, no_port}
use Rattle.tdl_sorts.proofs.values.arguments_need.Goals.{then-is_input+in-len1-up, else-is_input}
use Rattle.tdl_sorts.proofs.values.arguments_need.Goals as goal

pub loop-port-preserved : goal.loop-port-preserved
loop-port-preserved c =
    let scope = c.args.scope.now in
    let args = c.loop-port.rest.now in
    let ports = c.args.ports.now in
    let best = c.loop-port.best in
    let port = c.port-item.result in
    elim c.if-is_input.branch [
      | then-is_input+in-len1-up w ↦
          rw (w.best-is, w.rest-is)
          (one_input scope args w.argument-item.result ports c.loop-port.port-index port best w.needs.new.best
          c.loop-port-test.true c.port-item.is (sym c.is_input.ensures ∙ w.if-is_input.true) w.in-len1-up.len_at_least
          w.argument-item.is
          (w.needs.ensures ∙ ap (λ (b : Bool). earliest best (needs scope w.argument-item.result b)) w.is_truth.ensures)
          ∙ c.loop-port.invariant)
      | else-is_input w ↦
          rw (w.best-is, w.rest-is)
          (no_input scope args ports c.loop-port.port-index port best c.loop-port-test.true c.port-item.is
          (sym c.is_input.ensures ∙ w.if-is_input.false)
          ∙ c.loop-port.invariant)
    ]

pub returns-in_default : goal.returns-in_default
returns-in_default c =
    sym (no_argument c.args.scope.now c.loop-port.rest.now (inputs (drop c.loop-port.port-index c.args.ports.now))
    c.loop-port.best c.in_default.len_below)
    ∙ c.loop-port.invariant

pub returns : goal.returns
returns c =
    sym (no_port c.args.scope.now c.loop-port.rest.now c.args.ports.now c.loop-port.port-index c.loop-port.best
    c.loop-port-test.false)
    ∙ c.loop-port.invariant
