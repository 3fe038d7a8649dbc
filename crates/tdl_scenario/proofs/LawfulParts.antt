-- A scenario of lines that break no rule, part by part.
use Rattle.std.proofs.Common.{◌≡◌, ℕ, ◌≤◌, ◌&&◌, not, ℤ, Bool, true, false, nat_lt, int_le, List, [], ◌∷◌, ◌++◌, map, fold, filter_map, Some, None, ◌⊎◌, inl, inr, All, refl, sym, ap, ◌∙◌, subst, append-nil, arith}
use Rattle.std.specs.List.{AllByRecursion, list_any, flat_map, cons_option}
use Rattle.std.proofs.lemmas.Bool.Decides.{nat_tests}
use Rattle.std.proofs.lemmas.List.Elements.{All-from_recursion}
use Rattle.tdl_base.specs.declared.kinds.Kind.{Kind}
use Rattle.tdl_base.specs.declared.limits.TheConstants.{HORIZON_US}
use Rattle.tdl_base.specs.declared.numbers.NodeId.{NodeId}
use Rattle.tdl_base.specs.declared.numbers.Us.{Us}
use Rattle.tdl_trace.specs.declared.names.Names.{Names}
use Rattle.tdl_lines.specs.declared.said.Said.{Said}
use Rattle.tdl_scen.specs.declared.entries.Sense.{Sense as SenseEntry}
use Rattle.tdl_scen.specs.declared.entries.TaskTimes.{TaskTimes}
use Rattle.tdl_scenario.specs.declared.entry.Entry.{Entry}
use Rattle.tdl_scenario.specs.declared.entry.Entry.TheVariants.{Horizon, Sense, Exec, Order, Bind}
use Rattle.tdl_scenario.specs.KindRanges.{range_of, value_in}
use Rattle.tdl_scenario.specs.LawfulScenario.{IsSensed, AreTimes}
use Rattle.tdl_scenario.specs.ReadScenario.{horizon_in, sense_in, times_in, order_in}
use Rattle.tdl_scenario.specs.Rules.{Seen, after, seen_of, is_wrong, breaks_limit, breaks_worst, names_each}
use Rattle.tdl_scenario.proofs.Quiet.{IsQuiet, AllQuiet}
use Rattle.tdl_scenario.proofs.SaidForms.{IsThere}

-- what lines say
abbrev pub what_of : List (Said Entry) → List Entry
what_of lines = map (λ (line : Said Entry). line.what) lines

-- a horizon that is not above the limit
at_most : (most n : ℕ) → nat_lt most n ≡ false → n ≤ most
at_most most n e = grind (arith, nat_tests)

-- the horizon after one more line
limit_in : (t : Us) (e : Entry) → t.0 ≤ HORIZON_US → breaks_limit e ≡ false → (horizon_in t e).0 ≤ HORIZON_US
limit_in t (Horizon time) before fits = at_most HORIZON_US time.0 fits
limit_in t e before fits = before

-- the horizon is within the limit
pub horizon_within : (nodes : ℕ) (before : List Entry) (lines : List (Said Entry)) (t : Us) → t.0 ≤ HORIZON_US →
    AllQuiet nodes before lines → (fold horizon_in t (what_of lines)).0 ≤ HORIZON_US
horizon_within nodes before [] t fits quiet = fits
horizon_within nodes before (x ∷ xs) t fits quiet =
    horizon_within nodes (x.what ∷ before) xs (horizon_in t x.what) (limit_in t x.what fits quiet.0.limit) quiet.1

-- a value that a kind has
value_is : (kind : Kind) (raw v : ℤ) → Some v ≡ value_in kind raw → value_in kind v ≡ Some v
value_is kind raw v e =
    by_test (int_le (range_of kind).0 raw && int_le raw (range_of kind).1) refl
  where
    by_test : (b : Bool) → (int_le (range_of kind).0 raw && int_le raw (range_of kind).1) ≡ b → value_in kind v ≡ Some v
    by_test true t =
        let same : Some v ≡ Some raw = e ∙ rw t refl in
        let here : v ≡ raw = cc in
        let fits : value_in kind raw ≡ Some raw = rw t refl in
        subst (λ (n : ℤ). value_in kind n ≡ Some n) (sym here) fits
    by_test false t = let gone : Some v ≡ None = e ∙ rw t refl in absurd cc

-- what one more line adds to the entries
sense_added : (names : Names) (e : Entry) (more : List SenseEntry) → IsThere names e →
    AllByRecursion (IsSensed names) more → AllByRecursion (IsSensed names) (cons_option (sense_in e) more)
sense_added names (Sense m k at (Some v)) more there all = (
  record {
    home = there.home;
    sensor = there.sensor;
    within = there.within;
    is = there.is;
    fits = value_is there.sensor.kind there.raw v there.value;
  },
  all,
)
sense_added names (Sense m k at None) more there all = all
sense_added names e more there all = all

-- each sensor is there, and reads values of its kind
pub senses_there : (names : Names) (lines : List (Said Entry)) → AllByRecursion (λ
    (x : Said Entry). IsThere names x.what) lines →
    AllByRecursion (IsSensed names) (filter_map sense_in (what_of lines))
senses_there names [] there = tt
senses_there names (x ∷ xs) there =
    sense_added names x.what (filter_map sense_in (what_of xs)) there.0 (senses_there names xs there.1)

-- a time that is not wrong
within_worst : (worst t : ℕ) → is_wrong worst t ≡ false → (1 ≤ t) × (t ≤ worst)
within_worst worst t e = (grind (arith, nat_tests), grind (arith, nat_tests))

-- times of which none is wrong
none_wrong : (worst : ℕ) (times : List ℕ) → list_any (is_wrong worst) times ≡ false →
    AllByRecursion (λ (t : ℕ). (1 ≤ t) × (t ≤ worst)) times
none_wrong worst [] e = tt
none_wrong worst (t ∷ ts) e = by_test (is_wrong worst t) refl (none_wrong worst ts)
  where
    by_test : (b : Bool) → is_wrong worst t ≡ b →
        (list_any (is_wrong worst) ts ≡ false → AllByRecursion (λ (t : ℕ). (1 ≤ t) × (t ≤ worst)) ts) →
        AllByRecursion (λ (t : ℕ). (1 ≤ t) × (t ≤ worst)) (t ∷ ts)
    by_test true w more = let wrong : true ≡ false = sym (rw w refl) ∙ e in absurd cc
    by_test false w more = (within_worst worst t w, more (sym (rw w refl) ∙ e))

-- what one more line adds to the times
times_added : (names : Names) (e : Entry) (more : List TaskTimes) → IsThere names e → breaks_worst e ≡ false →
    AllByRecursion (AreTimes names) more → AllByRecursion (AreTimes names) (cons_option (times_in e) more)
times_added names (Exec worst times) more there quiet all = (
  record {
    home = there.home;
    task = there.task;
    within = there.within;
    is = there.is;
    times =
        subst (λ (w : Us). All (λ (time : ℕ). (1 ≤ time) × (time ≤ w.0)) times.times) there.most
        (All-from_recursion (λ (time : ℕ). (1 ≤ time) × (time ≤ worst.0)) times.times
        (none_wrong worst.0 times.times quiet));
  },
  all,
)
times_added names e more there quiet all = all

-- each task is there, and its times are within its worst case
pub times_there : (names : Names) (nodes : ℕ) (before : List Entry) (lines : List (Said Entry)) →
    AllByRecursion (λ (x : Said Entry). IsThere names x.what) lines → AllQuiet nodes before lines →
    AllByRecursion (AreTimes names) (filter_map times_in (what_of lines))
times_there names nodes before [] there quiet = tt
times_there names nodes before (x ∷ xs) there quiet =
    times_added names x.what (filter_map times_in (what_of xs)) there.0 quiet.0.worst
    (times_there names nodes (x.what ∷ before) xs there.1 quiet.1)

-- an order that was said stays said
order_stays : (e : Entry) (s : Seen) → s.order ≡ true → (after e s).order ≡ true
order_stays (Horizon time) s said = said
order_stays (Sense m k at v) s said = said
order_stays (Order nodes) s said = refl
order_stays (Bind part plug) s said = by_kind part.sensor refl
  where
    by_kind : (b : Bool) → part.sensor ≡ b → (after (Bind part plug) s).order ≡ true
    by_kind true e = rw e said
    by_kind false e = rw e said
order_stays e s said = said

-- a line after an order has no nodes
no_second : (nodes : ℕ) (s : Seen) (e : Entry) (rest : List NodeId) → s.order ≡ true → IsQuiet nodes s e → rest ≡ [] →
    order_in e ++ rest ≡ []
no_second nodes s (Order o) rest said quiet none = let fails : s.order ≡ false = quiet.form in absurd cc
no_second nodes s e rest said quiet none = none

-- nor has any
no_more : (nodes : ℕ) (before : List Entry) (lines : List (Said Entry)) → (seen_of before).order ≡ true →
    AllQuiet nodes before lines → flat_map order_in (what_of lines) ≡ []
no_more nodes before [] said quiet = refl
no_more nodes before (x ∷ xs) said quiet =
    no_second nodes (seen_of before) x.what (flat_map order_in (what_of xs)) said quiet.0
    (no_more nodes (x.what ∷ before) xs (order_stays x.what (seen_of before) said) quiet.1)

-- what passes a test whose opposite does not hold
holds : (b : Bool) → not b ≡ false → b ≡ true
holds true e = refl
holds false e = absurd cc

-- nodes that are no order, or one that names each once
abbrev pub IsOrder : ℕ → List NodeId → Type 0
IsOrder nodes order = (order ≡ []) ⊎ (names_each nodes order ≡ true)

-- one line before others
order_added : (nodes : ℕ) (s : Seen) (e : Entry) (rest : List NodeId) → IsQuiet nodes s e →
    ((after e s).order ≡ true → rest ≡ []) → IsOrder nodes rest → IsOrder nodes (order_in e ++ rest)
order_added nodes s (Order None) rest quiet none one = let fails : true ≡ false = quiet.order in absurd cc
order_added nodes s (Order (Some order)) rest quiet none one =
    inr (ap (names_each nodes) (ap (λ (more : List NodeId). order ++ more) (none refl) ∙ append-nil order)
    ∙ holds (names_each nodes order) quiet.order)
order_added nodes s e rest quiet none one = one

-- the order of all lines
pub order_is : (nodes : ℕ) (before : List Entry) (lines : List (Said Entry)) → AllQuiet nodes before lines →
    IsOrder nodes (flat_map order_in (what_of lines))
order_is nodes before [] quiet = inl refl
order_is nodes before (x ∷ xs) quiet =
    order_added nodes (seen_of before) x.what (flat_map order_in (what_of xs)) quiet.0
    (λ said. no_more nodes (x.what ∷ before) xs said quiet.1) (order_is nodes (x.what ∷ before) xs quiet.1)
