use Rattle.std.proofs.Common.{◌∷◌, [], ◌++◌, sym, ap, ◌∙◌, append-nil}
use Rattle.tdl_lines.specs.Faults.{earliest}
use Rattle.tdl_place.specs.PlacementRules.{line_faults}
use Rattle.tdl_place.specs.SaidPlaces.{on_line, nodes_in, costs_in}
use Rattle.tdl_place.proofs.Puts.{one_more}
use Rattle.tdl_place.proofs.gather.Gathered.put.Goals as goal

pub returns-in-Formless : goal.returns-in-Formless
returns-in-Formless c more =
    let g = c.args.self.now in
    let x = on_line c.args.line c.args.entry in
    one_more g (record { nodes = g.nodes; buses = g.buses; first = c.note_if.new.best }) x more
    (sym (ap (λ e. g.nodes.items ++ nodes_in (on_line c.args.line e ∷ [])) c.in-Formless.is ∙ append-nil _))
    (sym (ap (λ e. g.buses.items ++ costs_in (on_line c.args.line e ∷ [])) c.in-Formless.is ∙ append-nil _))
    (c.note_if.ensures
    ∙ sym (ap (λ e. earliest g.first (line_faults (on_line c.args.line e))) c.in-Formless.is))

pub returns-in_ok-push-in-Node : goal.returns-in_ok-push-in-Node
returns-in_ok-push-in-Node c more =
    let g = c.args.self.now in
    let x = on_line c.args.line c.args.entry in
    one_more g (record { nodes = c.push.new.self; buses = g.buses; first = c.note_if-in-Node.new.best }) x more
    (c.in_ok-push-in-Node.ensures.items
    ∙ sym (ap (λ e. g.nodes.items ++ nodes_in (on_line c.args.line e ∷ [])) c.in-Node.is))
    (sym (ap (λ e. g.buses.items ++ costs_in (on_line c.args.line e ∷ [])) c.in-Node.is ∙ append-nil _))
    (c.note_if-in-Node.ensures
    ∙ sym (ap (λ e. earliest g.first (line_faults (on_line c.args.line e))) c.in-Node.is))
