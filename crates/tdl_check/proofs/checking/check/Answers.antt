-- By the first fault.
use Rattle.std.proofs.Common.{◌≤◌, List, None, length, sym, ap, ◌∙◌, subst}
use Rattle.tdl_base.specs.declared.limits.TheConstants.{SOURCES}
use Rattle.tdl_rules.specs.Earliest.{earliest}
use Rattle.tdl_rules.specs.Faults.{faults}
use Rattle.tdl_rules.proofs.Firsts.{earliest-first, earliest-none}
use Rattle.tdl_tree.specs.declared.declarations.Tree.{Tree}
use Rattle.tdl_check.proofs.Facts.{checked}
use Rattle.tdl_check.proofs.checking.check.Goals as goal

pub program_of-requires : goal.program_of-requires
program_of-requires c = record {
  kept = earliest-none (faults c.in_ok-sources.sources) (sym c.first_fault.ensures ∙ c.in-None.is);
  few = subst (λ (sources : List Tree). length sources ≤ SOURCES) (sym c.in_ok-sources.ensures) c.requires.few;
}

pub invariant_of-result : goal.invariant_of-result
invariant_of-result c =
    checked c.in_ok-sources.sources c.args.trees.now c.in_ok-program_of-in-None.field-0 c.in_ok-sources.ensures
    c.requires.few c.requires.sized
    (earliest-none (faults c.in_ok-sources.sources) (sym c.first_fault.ensures ∙ c.in-None.is))
    c.in_ok-program_of-in-None.ensures

pub returns-in-None-clause-kept : goal.returns-in-None-clause-kept
returns-in-None-clause-kept c =
    earliest-none (faults c.args.trees.now)
    (ap (λ (s : List Tree). earliest None (faults s)) (sym c.in_ok-sources.ensures) ∙ sym c.first_fault.ensures
    ∙ c.in-None.is)

pub returns-clause-err : goal.returns-clause-err
returns-clause-err c =
    earliest-first (faults c.args.trees.now) c.in-Some.fault
    (ap (λ (s : List Tree). earliest None (faults s)) (sym c.in_ok-sources.ensures) ∙ sym c.first_fault.ensures
    ∙ c.in-Some.is)
