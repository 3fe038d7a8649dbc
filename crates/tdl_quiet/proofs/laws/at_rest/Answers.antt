use Rattle.tdl_quiet.proofs.Resting.{logical-rests, node_rows-none}
use Rattle.tdl_quiet.proofs.laws.at_rest.Goals as goal

pub returns-clause-same : goal.returns-clause-same
returns-clause-same c state x y sensed stand above below = logical-rests state x y stand above below sensed

pub returns-clause-no_rows : goal.returns-clause-no_rows
returns-clause-no_rows c program placement state x y node sensed stand above below =
    node_rows-none state x y stand above below program placement node sensed
