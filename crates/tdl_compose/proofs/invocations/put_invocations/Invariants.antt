-- The invocations so far with those of the ranges that are left are all.
use Rattle.std.proofs.Common.{◌≡◌, ◌++◌, map, drop}
use Rattle.tdl_slots.specs.Choices.{let_of}
use Rattle.tdl_program.specs.Activities.{invocation_over}
use Rattle.tdl_compose.proofs.invocations.put_invocations.Given as goal

abbrev pub invariant-loop-span : goal.invariant-loop-span
invariant-loop-span l =
    l.into ++ map (invocation_over l.home l.number l.act l.task l.args) (map let_of (drop l.span-index l.span-items))
    ≡ l.fn.into ++ map (invocation_over l.home l.number l.act l.task l.args) (map let_of l.span-items)
