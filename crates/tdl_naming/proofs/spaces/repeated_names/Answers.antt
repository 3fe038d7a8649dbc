use Rattle.std.proofs.Common.{◌++◌}
use Rattle.tdl_rules.specs.NameRules.{c1_modules, c1_spaces, c1_ports}
use Rattle.tdl_rules.specs.Parts.{in_declarations}
use Rattle.tdl_walk.proofs.Minimum.{in_turn}
use Rattle.tdl_naming.proofs.spaces.repeated_names.Goals as goal

pub returns : goal.returns
returns c =
    let sources = c.args.sources.now in
    in_turn c.args.best.now c.in_modules-2.new.best c.in_declarations.new.best (c1_modules sources ++ c1_spaces sources)
    (in_declarations c1_ports sources) c.in_declarations.ensures
    (in_turn c.args.best.now c.in_modules.new.best c.in_modules-2.new.best (c1_modules sources) (c1_spaces sources)
    c.in_modules-2.ensures c.in_modules.ensures)
