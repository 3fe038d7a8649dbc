use Rattle.std.proofs.Common.{◌≡◌, map, rules}
use Rattle.tdl_image.specs.declared.bundle.Initial.{Initial}
use Rattle.tdl_host.proofs.JobLemmas.{shape-cells}
use Rattle.tdl_host.proofs.task.shape.Goals as goal

pub returns : goal.returns
returns c =
    let inputs : c.in_ok-copied.field-0 ≡ c.args.table.now.inputs = search rules in
    let outputs : c.from_vec.result ≡ map (λ (o : Initial). o.kind) c.args.table.now.outputs = search rules in
    let locals : c.in_ok-copied-2.field-0 ≡ c.args.table.now.locals = search rules in
    shape-cells c.args.table.now c.in_ok-copied.field-0 c.from_vec.result c.in_ok-copied-2.field-0 inputs outputs
    locals
