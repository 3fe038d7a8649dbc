-- Part by part.
use Rattle.std.proofs.Common.{◌++◌}
use Rattle.tdl_base.specs.declared.limits.TheConstants.{TASKS, MODES, CONSTANTS, SENSORS, ACTUATORS}
use Rattle.tdl_rules.specs.BoundRules.{past, passing, task_names, mode_names, constant_names, sensor_names, actuator_names}
use Rattle.tdl_rules.specs.Lists.{each}
use Rattle.tdl_walk.proofs.Minimum.{in_turn}
use Rattle.tdl_bounds.proofs.parts.ManyPartsOnModule.at.Goals as goal

pub returns : goal.returns
returns c =
    let scope = c.args.scope.now in
    let best = c.args.best.now in
    let tasks = past scope (passing TASKS (each task_names scope.tree.decls)) in
    let modes = past scope (passing MODES (each mode_names scope.tree.decls)) in
    let constants = past scope (passing CONSTANTS (each constant_names scope.tree.decls)) in
    let sensors = past scope (passing SENSORS (each sensor_names scope.tree.decls)) in
    let actuators = past scope (passing ACTUATORS (each actuator_names scope.tree.decls)) in
    in_turn best c.note_passing-4.new.best c.note_passing-5.new.best (tasks ++ modes ++ constants ++ sensors) actuators
    c.note_passing-5.ensures
    (in_turn best c.note_passing-3.new.best c.note_passing-4.new.best (tasks ++ modes ++ constants) sensors
    c.note_passing-4.ensures
    (in_turn best c.note_passing-2.new.best c.note_passing-3.new.best (tasks ++ modes) constants
    c.note_passing-3.ensures
    (in_turn best c.note_passing.new.best c.note_passing-2.new.best tasks modes c.note_passing-2.ensures
    c.note_passing.ensures)))
