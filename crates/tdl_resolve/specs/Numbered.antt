-- What the tables of numbers hold.
use Rattle.std.specs.Prelude.{◌≡◌, ◌≤◌, [], length, map}
use Rattle.tdl_base.specs.declared.limits.TheConstants.{SOURCES}
use Rattle.tdl_rules.specs.Faults.{faults}
use Rattle.tdl_resolve.specs.declared.numbers.Numbers.TheInside.{Inside}

-- each source has its row, no rule is broken, and the sources are no more than a program may have
pub record IsNumbered (n : Inside) : Type 0 where
  pub rows : n.rows ≡ map (λ tree. tree.decls) n.sources.now
  pub kept : faults n.sources.now ≡ []
  pub few : length n.sources.now ≤ SOURCES
