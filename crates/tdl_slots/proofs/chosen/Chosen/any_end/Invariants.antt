-- The slots that are left have what all have.
use Rattle.std.proofs.Common.{ℕ, suc, ◌≡◌, ◌-◌, ◌*◌, map}
use Rattle.std.specs.List.{list_any}
use Rattle.tdl_rules.specs.Times.{from}
use Rattle.tdl_slots.specs.Choices.{ends_of}
use Rattle.tdl_slots.proofs.chosen.Chosen.any_end.Given as goal

abbrev pub invariant-loop-slot : goal.invariant-loop-slot
invariant-loop-slot g l =
    list_any (g.R.OnOffset.passes l.rule) (ends_of l.self.width (l.first, l.last))
    ≡ list_any (g.R.OnOffset.passes l.rule) (map (λ (i : ℕ). i * l.self.width) (from l.slot (suc l.last - l.slot)))
