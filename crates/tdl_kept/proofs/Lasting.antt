-- The rules on times, where they are kept, bound periods and worst cases.
use Rattle.std.proofs.Common.{◌≡◌, ℕ, ◌≤◌, List, Bool, Some}
use Rattle.std.specs.Prelude.{slice_get, nat_le}
use Rattle.std.proofs.lemmas.Bool.{and_parts, leb-true, not-false}
use Rattle.tdl_base.specs.declared.limits.TheConstants.{LEAST_US, PERIOD_US, WORST_CASE_US}
use Rattle.tdl_tree.specs.declared.activities.Act.{Act}
use Rattle.tdl_tree.specs.declared.declarations.Decl.TheVariants as decl
use Rattle.tdl_tree.specs.declared.declarations.PortDecl.{PortDecl}
use Rattle.tdl_tree.specs.declared.declarations.Tree.{Tree}
use Rattle.tdl_tree.specs.declared.names.Id.{Id}
use Rattle.tdl_tree.specs.declared.names.Time.{Time}
use Rattle.tdl_tree.specs.declared.statements.StmtTree.{StmtTree}
use Rattle.tdl_rules.specs.Parts.{in_declarations}
use Rattle.tdl_rules.specs.Times.{time_us, in_ten_seconds}
use Rattle.tdl_rules.specs.ModeRules.{c9_declaration, is_worst_case, c17_declaration}
use Rattle.tdl_program.proofs.Emptiness.{empty-parts}
use Rattle.tdl_program.proofs.Faultless.{Faultless}
use Rattle.tdl_program.proofs.Meant.{no-fault}
use Rattle.tdl_program.proofs.Scopes.{at_declaration}

module _ (sources : List Tree) (good : Faultless sources) (k j : ℕ) (tree : Tree)
    (source : slice_get sources k ≡ Some tree) where
  -- a period is at most ten seconds
  pub short_period : (start : Bool) (name : Id) (period : Time) (acts : List Act) →
      slice_get tree.decls j ≡ Some (decl.Mode start name period acts) → time_us period ≤ PERIOD_US
  short_period start name period acts at =
      let lawful = not-false (in_ten_seconds (time_us period)) (no-fault _ _
      (at_declaration c9_declaration sources k tree j (decl.Mode start name period acts) good.periods source at)) in
      leb-true (time_us period) PERIOD_US
      (and_parts (nat_le LEAST_US (time_us period)) (nat_le (time_us period) PERIOD_US) lawful).1

  -- so is a worst case
  pub short_worst : (public : Bool) (name : Id) (worst : Time) (ports : List PortDecl) (body : List StmtTree) →
      slice_get tree.decls j ≡ Some (decl.Task public name worst ports body) → time_us worst ≤ WORST_CASE_US
  short_worst public name worst ports body at =
      let lawful = not-false (is_worst_case (time_us worst)) (no-fault _ _
      (at_declaration c17_declaration sources k tree j (decl.Task public name worst ports body)
      (empty-parts (in_declarations c17_declaration sources) _ good.worsts).0 source at)) in
      leb-true (time_us worst) WORST_CASE_US
      (and_parts (nat_le LEAST_US (time_us worst)) (nat_le (time_us worst) WORST_CASE_US) lawful).1
