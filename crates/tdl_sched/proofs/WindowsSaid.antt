-- How many windows the lines of a text without a fault say.
use Rattle.std.proofs.Common.{◌≡◌, ◌≤◌, ◌+◌, ℕ, Bool, true, false, List, [], ◌∷◌, ◌++◌, length, Some, None, refl, arith}
use Rattle.std.proofs.lemmas.Bool.{leb-false}
use Rattle.tdl_base.specs.declared.limits.TheConstants.{WINDOWS}
use Rattle.tdl_lines.specs.declared.said.Said.{Said}
use Rattle.tdl_lines.specs.Faults.{fault_if}
use Rattle.tdl_sched.specs.declared.entry.Entry.{Entry}
use Rattle.tdl_sched.specs.declared.entry.Entry.TheVariants.{Formless, Reserve}
use Rattle.tdl_sched.specs.ReadSchedule.{windows_in}
use Rattle.tdl_sched.specs.ScheduleRules.{forms_in, breaks_form, is_unknown, line_faults, faults_after}

-- two lists that are nothing together
none_both : {A : Type 0} (xs ys : List A) → xs ++ ys ≡ [] → (xs ≡ []) × (ys ≡ [])
none_both [] ys e = (refl, e)
none_both (x ∷ xs) ys e = absurd cc

-- a rule that is not broken
unbroken : (b : Bool) (line rule : ℕ) → fault_if b line rule ≡ [] → b ≡ false
unbroken true line rule e = absurd cc
unbroken false line rule e = refl

-- with so many lines of the form before them there are not too many windows, and each line says one
pub record AllSaid (before : ℕ) (lines : List (Said Entry)) : Type 0 where
  pub few : before + length (windows_in lines) ≤ WINDOWS
  pub each : length (windows_in lines) ≡ length lines

-- so it is where no rule is broken
pub all_said : (before : ℕ) (lines : List (Said Entry)) → before ≤ WINDOWS → faults_after before lines ≡ [] →
    AllSaid before lines
all_said before [] few none = record { few = omega (arith, few); each = refl }
all_said before (x ∷ xs) few none =
    let both = none_both (line_faults before x) (faults_after (before + forms_in x.what) xs) none in
    let own =
    none_both (fault_if (breaks_form before x.what) x.line 0) (fault_if (is_unknown x.what) x.line 1) both.0 in
    by_entry x.what (unbroken (breaks_form before x.what) x.line 0 own.0)
    (unbroken (is_unknown x.what) x.line 1 own.1) both.1
    (all_said (before + forms_in x.what) xs)
  where
    by_entry : (e : Entry) → breaks_form before e ≡ false → is_unknown e ≡ false →
        faults_after (before + forms_in e) xs ≡ [] →
        (before + forms_in e ≤ WINDOWS → faults_after (before + forms_in e) xs ≡ [] →
        AllSaid (before + forms_in e) xs) →
        AllSaid before (record { line = x.line; what = e } ∷ xs)
    by_entry Formless form known rest more = absurd cc
    by_entry (Reserve resource None span) form known rest more = absurd cc
    by_entry (Reserve resource (Some called) None) form known rest more = absurd cc
    by_entry (Reserve resource (Some called) (Some span)) form known rest more =
        let room = leb-false WINDOWS before form in
        let after = more (omega (arith, room)) rest in
        record { few = omega (arith, after.few); each = omega (arith, after.each) }
