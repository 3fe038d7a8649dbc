-- The listed slots with those that are left are all.
use Rattle.std.proofs.Common.{ℕ, suc, ◌≡◌, ◌-◌, ◌*◌, ◌++◌, map}
use Rattle.tdl_rules.specs.Times.{from}
use Rattle.tdl_slots.specs.Choices.{ends_of}
use Rattle.tdl_slots.proofs.chosen.Chosen.put_ends.Given as goal

abbrev pub invariant-loop-slot : goal.invariant-loop-slot
invariant-loop-slot l =
    l.into ++ map (λ (i : ℕ). i * l.self.width) (from l.slot (suc l.last - l.slot))
    ≡ l.fn.into ++ ends_of l.self.width (l.first, l.last)
