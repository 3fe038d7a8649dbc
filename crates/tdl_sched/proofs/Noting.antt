-- Faults that are noted one after the other.
use Rattle.std.proofs.Common.{◌≡◌, ◌≤◌, ◌+◌, ℕ, Bool, List, ◌∷◌, ◌++◌, length, drop, Option, sym, ap, ap₂, ◌∙◌, arith}
use Rattle.std.proofs.lemmas.List.{drop_all}
use Rattle.tdl_lines.specs.declared.fault.Fault.{Fault}
use Rattle.tdl_lines.specs.declared.said.Said.{Said}
use Rattle.tdl_lines.specs.Faults.{earliest, fault_if}
use Rattle.tdl_lines.proofs.FirstFault.{earliest-append}
use Rattle.tdl_sched.specs.declared.entry.Entry.{Entry}
use Rattle.tdl_sched.specs.declared.entry.Entry.TheVariants.{Formless, Reserve}
use Rattle.tdl_sched.specs.ScheduleRules.{forms_in, line_faults, faults_after}

-- both rules of a line
pub two_rules : (best one last : Option Fault) (first second breaks unknown : Bool) (line : ℕ) →
    one ≡ earliest best (fault_if first line 0) → last ≡ earliest one (fault_if second line 1) →
    first ≡ breaks → second ≡ unknown → last ≡ earliest best (fault_if breaks line 0 ++ fault_if unknown line 1)
two_rules best one last first second breaks unknown line noted more same alike =
    more ∙ ap₂ (λ (o : Option Fault) (t : Bool). earliest o (fault_if t line 1)) noted alike
    ∙ ap (λ (t : Bool). earliest (earliest best (fault_if t line 0)) (fault_if unknown line 1)) same
    ∙ sym (earliest-append best (fault_if breaks line 0) (fault_if unknown line 1))

-- a line is of the form or not
pub forms_few : (e : Entry) → forms_in e ≤ 1
forms_few Formless = omega arith
forms_few (Reserve resource called span) = omega arith

-- one more line, where the rest is the line and those after it
pub one_more : (whole best next : Option Fault) (before count : ℕ) (x : Said Entry) (rest more : List (Said Entry)) →
    rest ≡ x ∷ more → whole ≡ earliest best (faults_after before rest) → next ≡ earliest best (line_faults before x) →
    count ≡ forms_in x.what → whole ≡ earliest next (faults_after (before + count) more)
one_more whole best next before count x rest more cut so noted same =
    so ∙ ap (λ (r : List (Said Entry)). earliest best (faults_after before r)) cut
    ∙ earliest-append best (line_faults before x) (faults_after (before + forms_in x.what) more)
    ∙ ap₂ (λ (o : Option Fault) (n : ℕ). earliest o (faults_after (before + n) more)) (sym noted) (sym same)

-- no line is left
pub all_over : (whole best : Option Fault) (before place : ℕ) (lines : List (Said Entry)) → length lines ≤ place →
    whole ≡ earliest best (faults_after before (drop place lines)) → best ≡ whole
unfolding earliest
all_over whole best before place lines end so =
    sym (so ∙ ap (λ (r : List (Said Entry)). earliest best (faults_after before r)) (drop_all place lines end))
