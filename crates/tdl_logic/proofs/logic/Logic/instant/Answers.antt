use Rattle.std.proofs.Common.{rules, ◌≡◌, List, ℤ, length, ap, ap₂, sym, ◌∙◌}
use Rattle.std.specs.Vec.{with_items}
use Rattle.std.proofs.lemmas.List.{with_items_is}
use Rattle.std.specs.Prelude.{option_map}
use Rattle.tdl_base.specs.Sensed.{sensed_at}
use Rattle.tdl_mode.specs.declared.program.Module.{Module}
use Rattle.tdl_mode.specs.States.{State, TaskState}
use Rattle.tdl_logic.specs.declared.module_now.ModuleNow.{ModuleNow}
use Rattle.tdl_logic.specs.Runs.{phases_after}
use Rattle.tdl_logic.specs.Wholes.{all_standing}
use Rattle.tdl_logic.proofs.Readying.{arguments-for, stepped}
use Rattle.tdl_logic.proofs.logic.Logic.instant.Goals as goal

pub go_to-requires-clause-arguments : goal.go_to-requires-clause-arguments
go_to-requires-clause-arguments c =
    arguments-for c.self.inside.program.now c.self.inside.nows.items c.self.inside.tasks.items c.deref_mut-2.result.now
    (length c.self.inside.numbers.items) (length c.deref_mut-3.result.now)
    (option_map (λ at. at.0) c.self.inside.reached) c.as_slice.result.now c.self.invariant c.as_slice.ensures
    c.deref_mut-2.ensures.value (ap (λ (vs : List ℤ). length vs) c.deref_mut-3.ensures.value)

pub returns : goal.returns
returns c =
    let x = c.args.at.0 in
    let sensed = sensed_at c.args.sensed.now in
    let p = c.self.inside.program.now in
    let reached = c.self.inside.reached in
    let nows : (with_items c.self.inside.nows c.go_to.new.nows).items ≡ c.go_to.new.nows =
    with_items_is c.self.inside.nows c.go_to.new.nows (search rules) in
    let tasks : (with_items c.self.inside.tasks c.go_to.new.tasks).items ≡ c.go_to.new.tasks =
    with_items_is c.self.inside.tasks c.go_to.new.tasks (search rules) in
    let after : State = all_standing p.modules (with_items c.self.inside.nows c.go_to.new.nows).items
    (with_items c.self.inside.tasks c.go_to.new.tasks).items in
    let is : after ≡ phases_after reached x sensed (all_standing p.modules c.self.inside.nows.items
    c.self.inside.tasks.items) =
    ap₂ (λ (ns : List ModuleNow) (ts : List (List TaskState)). all_standing p.modules ns ts) nows tasks
    ∙ ap (λ (ms : List Module). all_standing ms c.go_to.new.nows c.go_to.new.tasks) (sym c.as_slice.ensures)
    ∙ c.go_to.ensures.states
    ∙ ap (λ (ms : List Module). phases_after reached x sensed (all_standing ms c.deref_mut.result.now
    c.deref_mut-2.result.now)) c.as_slice.ensures
    ∙ ap₂ (λ (ns : List ModuleNow) (ts : List (List TaskState)). phases_after reached x sensed
    (all_standing p.modules ns ts)) c.deref_mut.ensures.value c.deref_mut-2.ensures.value in
    stepped p c.self.inside.placement.now reached c.self.inside.nows.items c.self.inside.tasks.items
    (length c.self.inside.numbers.items) x sensed after c.args.self.now c.self.view_is c.self.invariant c.requires is
