use Rattle.std.proofs.Common.{◌++◌, ap, ◌∙◌}
use Rattle.tdl_lines.specs.Faults.{earliest}
use Rattle.tdl_base.specs.declared.limits.TheConstants.{NODES}
use Rattle.tdl_place.specs.PlacementRules.{beyond, repeated, same_module, same_name}
use Rattle.tdl_place.specs.SaidPlaces.{places_of}
use Rattle.tdl_place.proofs.Noting.{in_turn}
use Rattle.tdl_place.proofs.faults.note_many.Goals as goal

pub returns : goal.returns
returns c =
    let nodes = c.args.gathered.now.nodes.items in
    let costs = c.args.gathered.now.buses.items in
    let one = beyond 1 1 costs in
    let two = repeated same_module 3 (places_of nodes) in
    let three = repeated same_name 5 nodes in
    let four = beyond NODES 5 nodes in
    let best = c.args.best.now in
    in_turn best c.note_twice_named.new.best c.note_beyond-2.new.best (one ++ two ++ three) four
    (in_turn best c.note_twice_placed.new.best c.note_twice_named.new.best (one ++ two) three
    (in_turn best c.note_beyond.new.best c.note_twice_placed.new.best one two
    (c.note_beyond.ensures ∙ ap (λ xs. earliest best (beyond 1 1 xs)) c.deref.ensures.value)
    (c.in_ok-note_twice_placed.ensures
    ∙ ap (λ xs. earliest c.note_beyond.new.best (repeated same_module 3 (places_of xs))) c.deref-2.ensures.value))
    (c.note_twice_named.ensures
    ∙ ap (λ xs. earliest c.note_twice_placed.new.best (repeated same_name 5 xs)) c.deref-3.ensures.value))
    (c.note_beyond-2.ensures
    ∙ ap (λ xs. earliest c.note_twice_named.new.best (beyond NODES 5 xs)) c.deref-4.ensures.value)
