-- A scenario that is built line by line.
use Rattle.std.specs.Prelude.{List, ◌++◌, fold, filter_map}
use Rattle.std.specs.List.{flat_map}
use Rattle.tdl_scen.specs.declared.entries.Scenario.{Scenario}
use Rattle.tdl_scenario.specs.declared.entry.Entry.{Entry}
use Rattle.tdl_scenario.specs.ReadScenario.{horizon_in, sense_in, times_in, order_in, bind_in}

-- what is said so far, with what more entries say
abbrev pub with_more : Scenario → List Entry → Scenario
with_more s more = record {
  horizon = fold horizon_in s.horizon more;
  senses = s.senses ++ filter_map sense_in more;
  times = s.times ++ filter_map times_in more;
  order = s.order ++ flat_map order_in more;
  binds = s.binds ++ filter_map bind_in more;
}
