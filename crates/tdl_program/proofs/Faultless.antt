-- Sources that break no rule keep each rule.
use Rattle.std.proofs.Common.{◌≡◌, List, [], ◌++◌}
use Rattle.tdl_base.specs.declared.limits.TheConstants.{OCCURRENCES}
use Rattle.tdl_tree.specs.declared.declarations.Tree.{Tree}
use Rattle.tdl_rules.specs.Lists.{each}
use Rattle.tdl_rules.specs.Parts.{modules, in_declarations}
use Rattle.tdl_rules.specs.NameRules.{c1, c2, c3_c4, c6, c7}
use Rattle.tdl_rules.specs.SortRules.{c5, c8}
use Rattle.tdl_rules.specs.ModeRules.{c9, c10, c11, c12, c13, c14, c15, c16, c17}
use Rattle.tdl_rules.specs.BoundRules.{c18, c19, c20, c21_module, c21_ports, counted, passes, c21}
use Rattle.tdl_rules.specs.Faults.{faults}
use Rattle.tdl_program.proofs.Emptiness.{empty-parts}

-- each rule that a program's meaning rests on is kept
pub record Faultless (sources : List Tree) : Type 0 where
  pub spaces : c1 sources ≡ []
  pub imports : c2 sources ≡ []
  pub names : c3_c4 sources ≡ []
  pub assignments : c6 sources ≡ []
  pub arguments : c7 sources ≡ []
  pub periods : c9 sources ≡ []
  pub frequencies : c10 sources ≡ []
  pub ranges : c11 sources ≡ []
  pub starts : c12 sources ≡ []
  pub invocations : c13 sources ≡ []
  pub updates : c14 sources ≡ []
  pub switches : c15 sources ≡ []
  pub targets : c16 sources ≡ []
  pub worsts : c17 sources ≡ []
  pub turns : c18 sources ≡ []
  pub depths : c19 sources ≡ []
  pub steps : c20 sources ≡ []
  pub counts : each c21_module (modules sources) ≡ []
  pub ports : in_declarations c21_ports sources ≡ []
  pub occurrences : passes OCCURRENCES (each (λ scope. each (counted scope) scope.tree.decls) (modules sources)) ≡ []

-- so they are
pub faultless : (sources : List Tree) → faults sources ≡ [] → Faultless sources
faultless sources none =
    let a1 = empty-parts (c1 sources) _ none in
    let a2 = empty-parts (c2 sources) _ a1.1 in
    let a3 = empty-parts (c3_c4 sources) _ a2.1 in
    let a5 = empty-parts (c5 sources) _ a3.1 in
    let a6 = empty-parts (c6 sources) _ a5.1 in
    let a7 = empty-parts (c7 sources) _ a6.1 in
    let a8 = empty-parts (c8 sources) _ a7.1 in
    let a9 = empty-parts (c9 sources) _ a8.1 in
    let a10 = empty-parts (c10 sources) _ a9.1 in
    let a11 = empty-parts (c11 sources) _ a10.1 in
    let a12 = empty-parts (c12 sources) _ a11.1 in
    let a13 = empty-parts (c13 sources) _ a12.1 in
    let a14 = empty-parts (c14 sources) _ a13.1 in
    let a15 = empty-parts (c15 sources) _ a14.1 in
    let a16 = empty-parts (c16 sources) _ a15.1 in
    let a17 = empty-parts (c17 sources) _ a16.1 in
    let a18 = empty-parts (c18 sources) _ a17.1 in
    let a19 = empty-parts (c19 sources) _ a18.1 in
    let a20 = empty-parts (c20 sources) (c21 sources) a19.1 in
    let parts = empty-parts (each c21_module (modules sources) ++ in_declarations c21_ports sources) _ a20.1 in
    let kept = empty-parts (each c21_module (modules sources)) (in_declarations c21_ports sources) parts.0 in
    record {
      spaces = a1.0;
      imports = a2.0;
      names = a3.0;
      assignments = a6.0;
      arguments = a7.0;
      periods = a9.0;
      frequencies = a10.0;
      ranges = a11.0;
      starts = a12.0;
      invocations = a13.0;
      updates = a14.0;
      switches = a15.0;
      targets = a16.0;
      worsts = a17.0;
      turns = a18.0;
      depths = a19.0;
      steps = a20.0;
      counts = kept.0;
      ports = kept.1;
      occurrences = parts.1;
    }
