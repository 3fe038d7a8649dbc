use Rattle.std.proofs.Common.{ap, ◌∙◌}
use Rattle.tdl_tree.specs.Kinds as spec
use Rattle.tdl_tree.specs.Kinds.{kind_of}
use Rattle.tdl_tree.specs.declared.words.WordKind.{WordKind}
use Rattle.tdl_tree.proofs.kinds.kind_of.Goals as goal

pub returns : goal.returns
unfolding kind_of
returns c =
    c.kind_among.ensures
    ∙ ap (λ (other : WordKind). spec.kind_among spec.table other c.args.text.now) c.free_kind.ensures
