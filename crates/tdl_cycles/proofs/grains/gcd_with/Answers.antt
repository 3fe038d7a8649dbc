use Rattle.std.proofs.Common.{◌+◌, ◌<◌, ◌≤◌, arith, length}
use Prim.Native.Nat.{◌∣◌}
use Rattle.tdl_mode.specs.declared.program.Switch.{Switch}
use Rattle.tdl_cycles.proofs.Dividing.{EachOfFirst, with_number, with_more, each-more, each-fewer, each-all, all-each}
use Rattle.tdl_cycles.proofs.grains.gcd_with.Goals as goal

pub loop-switch-init : goal.loop-switch-init
loop-switch-init c =
    let first = with_number c.args.number c.args.mode.now.period.0 c.gcd-divisor.result c.gcd-divisor.ensures in
    record {
      common = λ d on. let both = first.common d on in (both.0, (both.1, λ k w below at. absurd (omega (arith, below))));
      greatest = λ d on divides. first.greatest d on divides.0;
    }

pub loop-switch-preserved : goal.loop-switch-preserved
loop-switch-preserved c =
    let i = c.loop-switch.switch-index in
    let items = c.as_slice-switch-items.result.now in
    let w = c.switch-item.result in
    let within : i < length items = omega arith in
    let period = c.args.mode.now.period.0 in
    with_more c.args.number c.loop-switch.divisor c.gcd-divisor-in-loop-switch.result
    (λ d. (d ∣ period) × EachOfFirst (λ (v : Switch). d ∣ v.at.0) i items) (λ d. d ∣ w.at.0)
    (λ d. (d ∣ period) × EachOfFirst (λ (v : Switch). d ∣ v.at.0) (i + 1) items)
    c.loop-switch.invariant
    (with_number c.loop-switch.divisor w.at.0 c.gcd-divisor-in-loop-switch.result c.gcd-divisor-in-loop-switch.ensures)
    (λ d one two. (one.0, each-more (λ (v : Switch). d ∣ v.at.0) items i w within c.switch-item.is one.1 two))
    (λ d both.
    let parts = each-fewer (λ (v : Switch). d ∣ v.at.0) items i w within c.switch-item.is both.1 in
    ((both.0, parts.0), parts.1))

pub returns : goal.returns
returns c =
    let ws = c.args.mode.now.switches in
    let items = c.as_slice-switch-items.result.now in
    let n = c.loop-switch.switch-index in
    let loop = c.loop-switch.invariant in
    let done : length items ≤ n = omega arith in
    record {
      common = λ d on.
          let both = loop.common d on in
          let each = each-all (λ (w : Switch). d ∣ w.at.0) ws items n c.as_slice-switch-items.ensures done both.1.1 in
          (both.0, (both.1.0, each));
      greatest = λ d on divides.
          let first = all-each (λ (w : Switch). d ∣ w.at.0) ws items n c.as_slice-switch-items.ensures divides.1 in
          loop.greatest d on (divides.0, first);
    }
