use Rattle.std.proofs.Common.{rules, ◌≡◌, ◌∙◌, None, Some, slice_get, ap, map}
use Rattle.tdl_names.proofs.NamedItems.{named, named_at}
use Rattle.tdl_names.proofs.sources.Sources.named.Goals as goal

pub returns-in-None : goal.returns-in-None
returns-in-None c =
    named (λ tree. tree.name) c.args.name.now c.args.self.now c.self.inside.names None
    (c.self.invariant.names ∙ ap (map (λ tree. tree.name)) c.self.view_is) c.in-None.ensures

pub returns-in-None-get : goal.returns-in-None-get
returns-in-None-get c =
    let there : None ≡ slice_get c.args.self.now c.in-Some.place = search rules in
    named_at (λ tree. tree.name) c.args.name.now c.args.self.now c.self.inside.names c.in-Some.place None
    (c.self.invariant.names ∙ ap (map (λ tree. tree.name)) c.self.view_is) c.in-Some.ensures there

pub returns-in-Some-get : goal.returns-in-Some-get
returns-in-Some-get c =
    let there : Some c.in-Some-get.home.now ≡ slice_get c.args.self.now c.in-Some.place = search rules in
    named_at (λ tree. tree.name) c.args.name.now c.args.self.now c.self.inside.names c.in-Some.place (Some c.in-Some-get.home.now)
    (c.self.invariant.names ∙ ap (map (λ tree. tree.name)) c.self.view_is) c.in-Some.ensures there
