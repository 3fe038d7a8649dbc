-- Lines that break no rule.
use Rattle.std.proofs.Common.{◌≡◌, ℕ, Bool, true, false, List, [], ◌∷◌, ◌++◌, refl}
use Rattle.tdl_lines.specs.declared.said.Said.{Said}
use Rattle.tdl_lines.specs.Faults.{fault_if, faults_from}
use Rattle.tdl_scenario.specs.declared.entry.Entry.{Entry}
use Rattle.tdl_scenario.specs.Rules.{Seen, seen_of, line_faults, breaks_form, is_unknown, breaks_time, breaks_kind, breaks_worst, breaks_limit, breaks_order, breaks_bind}

-- two lists that are nothing together
pub none_both : {A : Type 0} (xs ys : List A) → xs ++ ys ≡ [] → (xs ≡ []) × (ys ≡ [])
none_both [] ys e = (refl, e)
none_both (x ∷ xs) ys e = absurd cc

-- a rule that is not broken
unbroken : (b : Bool) (line rule : ℕ) → fault_if b line rule ≡ [] → b ≡ false
unbroken true line rule e = absurd cc
unbroken false line rule e = refl

-- a line breaks no rule
pub record IsQuiet (nodes : ℕ) (s : Seen) (e : Entry) : Type 0 where
  pub form : breaks_form s e ≡ false
  pub time : breaks_time s e ≡ false
  pub kind : breaks_kind e ≡ false
  pub worst : breaks_worst e ≡ false
  pub limit : breaks_limit e ≡ false
  pub order : breaks_order nodes e ≡ false

-- a line without a fault
quiet : (nodes : ℕ) (s : Seen) (x : Said Entry) → line_faults nodes s x ≡ [] → IsQuiet nodes s x.what
quiet nodes s x none =
    let l = x.line in
    let e = x.what in
    let one = fault_if (breaks_form s e) l 1 in
    let two = one ++ fault_if (is_unknown e) l 2 in
    let three = two ++ fault_if (breaks_time s e) l 3 in
    let four = three ++ fault_if (breaks_kind e) l 4 in
    let five = four ++ fault_if (breaks_worst e) l 5 in
    let six = five ++ fault_if (breaks_limit e) l 6 in
    let seven = six ++ fault_if (breaks_order nodes e) l 7 in
    let p8 = none_both seven (fault_if (breaks_bind s e) l 8) none in
    let p7 = none_both six (fault_if (breaks_order nodes e) l 7) p8.0 in
    let p6 = none_both five (fault_if (breaks_limit e) l 6) p7.0 in
    let p5 = none_both four (fault_if (breaks_worst e) l 5) p6.0 in
    let p4 = none_both three (fault_if (breaks_kind e) l 4) p5.0 in
    let p3 = none_both two (fault_if (breaks_time s e) l 3) p4.0 in
    let p2 = none_both one (fault_if (is_unknown e) l 2) p3.0 in
    record {
      form = unbroken (breaks_form s e) l 1 p2.0;
      time = unbroken (breaks_time s e) l 3 p3.1;
      kind = unbroken (breaks_kind e) l 4 p4.1;
      worst = unbroken (breaks_worst e) l 5 p5.1;
      limit = unbroken (breaks_limit e) l 6 p6.1;
      order = unbroken (breaks_order nodes e) l 7 p7.1;
    }

-- each line breaks no rule after those before it
abbrev pub AllQuiet : ℕ → List Entry → List (Said Entry) → Type 0
AllQuiet nodes before [] = Unit {0}
AllQuiet nodes before (x ∷ xs) = IsQuiet nodes (seen_of before) x.what × AllQuiet nodes (x.what ∷ before) xs

-- lines without a fault
pub all_quiet : (nodes : ℕ) (before : List Entry) (lines : List (Said Entry)) →
    faults_from (λ before x. line_faults nodes (seen_of before) x) before lines ≡ [] → AllQuiet nodes before lines
all_quiet nodes before [] none = tt
all_quiet nodes before (x ∷ xs) none =
    let both =
    none_both (line_faults nodes (seen_of before) x)
    (faults_from (λ before x. line_faults nodes (seen_of before) x) (x.what ∷ before) xs) none in
    (quiet nodes (seen_of before) x both.0, all_quiet nodes (x.what ∷ before) xs both.1)
