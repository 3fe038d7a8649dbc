use Rattle.std.proofs.lemmas.Nat.Gcd.{IsGcd-from_mod, IsGcd-from_zero}
use Rattle.tdl_cycles.proofs.grains.gcd.Goals as goal

pub loop-smaller-preserved : goal.loop-smaller-preserved
loop-smaller-preserved c = λ g is.
    c.loop-smaller.invariant g (IsGcd-from_mod c.loop-smaller.larger c.loop-smaller.smaller g is)

pub returns : goal.returns
returns c =
    c.loop-smaller.invariant c.loop-smaller.larger
    (IsGcd-from_zero c.loop-smaller.larger c.loop-smaller.smaller c.loop-smaller-test.false)
