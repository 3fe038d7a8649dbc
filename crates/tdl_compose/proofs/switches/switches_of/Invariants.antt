-- The switches so far with those of the activities that are left are all.
use Rattle.std.proofs.Common.{◌≡◌, ◌++◌, drop}
use Rattle.tdl_base.specs.Lists.{numbered, joined}
use Rattle.tdl_rules.specs.Times.{time_us}
use Rattle.tdl_program.specs.Activities.{switches_in, switches_of}
use Rattle.tdl_compose.proofs.switches.switches_of.Given as goal

abbrev pub invariant-loop-act : goal.invariant-loop-act
invariant-loop-act l = record {
  counted : l.number ≡ l.act-index;
  left : l.list ++ joined (numbered l.act-index
      (λ n activity. switches_in l.home (time_us l.period) n activity activity.what) (drop l.act-index l.acts))
      ≡ switches_of l.home (time_us l.period) l.acts;
}
