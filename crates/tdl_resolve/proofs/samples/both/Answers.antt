-- The trees are those of the examples.
use Rattle.std.proofs.Common.{◌≡◌, ◌≤◌, List, [], ◌∷◌, ◌++◌, length, ap, ap₂, ◌∙◌, subst, sym, arith}
use Rattle.tdl_base.specs.declared.limits.TheConstants.{SOURCES}
use Rattle.tdl_tree.specs.declared.declarations.Tree.{Tree}
use Rattle.tdl_rules.specs.Faults.{faults}
use Rattle.tdl_resolve.specs.Examples.{far, near}
use Rattle.tdl_resolve.proofs.ExampleSources.{none_broken}
use Rattle.tdl_resolve.proofs.samples.both.Goals as goal

-- two trees, that are those
both_are : (trees new : List Tree) (first second : Tree) → first ≡ far → trees ≡ first ∷ [] → second ≡ near →
    new ≡ trees ++ second ∷ [] → new ≡ far ∷ near ∷ []
both_are trees new first second is start is' put =
    put ∙ ap₂ (λ (ts : List Tree) (t : Tree). ts ++ t ∷ []) (start ∙ ap (λ t. t ∷ []) is) is'

pub returns : goal.returns
returns c =
    let are = both_are c.in_ok-trees.trees c.push.new.self c.in_ok-far.field-0 c.in_ok-near.field-0 c.in_ok-far.ensures
    c.in_ok-trees.ensures c.in_ok-near.ensures c.in_ok-push.ensures.ok in
    record {
      kept = ap faults are ∙ none_broken;
      few = subst (λ (trees : List Tree). length trees ≤ SOURCES) (sym are) (omega arith);
    }
