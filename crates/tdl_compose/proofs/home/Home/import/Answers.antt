-- What is imported is one of the sources.
use Rattle.tdl_compose.proofs.Numbering.{import_within}
use Rattle.tdl_compose.proofs.home.Home.import.Goals as goal

pub module_of-requires : goal.module_of-requires
module_of-requires c =
    import_within c.self.inside.numbers.now c.self.inside.scope c.args.self.now c.self.invariant c.self.view_is
    c.in-Some.file c.in-Some._module.now c.as_str.result.now c.in-Some.ensures
