use Rattle.std.proofs.Common.{◌+◌, ◌<◌, ◌≤◌, arith, length}
use Rattle.std.proofs.lemmas.Nat.Gcd.{dvd_refl, dvd-zero}
use Rattle.tdl_mode.specs.Grains.{DividesCycles}
use Rattle.tdl_cycles.specs.Divisors.{DividesMode}
use Rattle.tdl_cycles.proofs.Dividing.{EachOfFirst, with_more, each-more, each-fewer, each-all, all-each}
use Rattle.tdl_cycles.proofs.grains.grain.Goals as goal

pub loop-mode-init : goal.loop-mode-init
loop-mode-init c = record {
  common = λ d on. (dvd-zero d, λ k mode below at. absurd (omega (arith, below)));
  greatest = λ d on divides. dvd-zero d;
}

pub loop-mode-preserved : goal.loop-mode-preserved
loop-mode-preserved c =
    let i = c.loop-mode.mode-index in
    let items = c.as_slice-mode-items.result.now in
    let mode = c.mode-item.result in
    let within : i < length items = omega arith in
    with_more 0 c.loop-mode.grain c.gcd_with-grain.result (λ d. EachOfFirst (DividesMode d) i items)
    (λ d. DividesMode d mode) (λ d. EachOfFirst (DividesMode d) (i + 1) items) c.loop-mode.invariant
    c.gcd_with-grain.ensures
    (λ d. each-more (DividesMode d) items i mode within c.mode-item.is)
    (λ d. each-fewer (DividesMode d) items i mode within c.mode-item.is)

pub returns : goal.returns
returns c =
    let ms = c.args.module.now.modes in
    let items = c.as_slice-mode-items.result.now in
    let n = c.loop-mode.mode-index in
    let grain = c.loop-mode.grain in
    let loop = c.loop-mode.invariant in
    let done : length items ≤ n = omega arith in
    let first = (loop.common grain (dvd_refl grain)).1 in
    let each = each-all (DividesMode grain) ms items n c.as_slice-mode-items.ensures done first in
    let divides : DividesCycles grain c.args.module.now =
    record {
      periods = λ k mode at. (each k mode at).0;
      switches = λ k q mode w at there. (each k mode at).1 q w there;
    } in (
      divides,
      λ d others.
          loop.greatest d (dvd-zero d)
          (all-each (DividesMode d) ms items n c.as_slice-mode-items.ensures
          (λ k mode at. (others.periods k mode at, λ q w there. others.switches k q mode w at there))),
    )
