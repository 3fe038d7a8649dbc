-- What the tables of all sources hold.
use Rattle.std.specs.Prelude.{◌≡◌, ◌≤◌, length, map}
use Rattle.tdl_base.specs.declared.limits.TheConstants.{SOURCES}
use Rattle.tdl_names.specs.declared.sources.Sources.TheInside.{Inside}

-- the names are those of the sources, each source has its module, and there are not too many
pub record IsTabled (s : Inside) : Type 0 where
  pub names : s.names ≡ map (λ tree. tree.name) s.trees.now
  pub modules : s.modules ≡ s.trees.now
  pub few : length s.trees.now ≤ SOURCES
