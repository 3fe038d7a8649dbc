-- The times of each sensor rise, where no line breaks a rule.
use Rattle.std.proofs.Common.{◌≡◌, ℕ, ◌<◌, ◌≤◌, ◌==◌, ◌&&◌, Bool, true, false, List, [], ◌∷◌, filter_map, Some, None, refl, sym, ap, ◌∙◌, arith}
use Rattle.std.specs.List.{AllByRecursion, cons_option}
use Rattle.std.proofs.lemmas.Bool.Decides.{nat_tests}
use Rattle.std.proofs.lemmas.List.Elements.{All-from_recursion}
use Rattle.tdl_lines.specs.declared.said.Said.{Said}
use Rattle.tdl_scen.specs.declared.entries.Sense.{Sense as SenseEntry}
use Rattle.tdl_scenario.specs.declared.entry.Entry.{Entry}
use Rattle.tdl_scenario.specs.declared.entry.Entry.TheVariants.{Horizon, Sense, Order, Bind}
use Rattle.tdl_scenario.specs.LawfulScenario.{AreRising}
use Rattle.tdl_scenario.specs.ReadScenario.{sense_in}
use Rattle.tdl_scenario.specs.Rules.{Seen, after, seen_of, is_not_above}
use Rattle.tdl_scenario.proofs.LawfulParts.{what_of}
use Rattle.tdl_scenario.proofs.Quiet.{IsQuiet, AllQuiet}

-- an entry of sensor k of module m is later than t
abbrev IsLater : ℕ → ℕ → ℕ → SenseEntry → Type 0
IsLater m k t f = f.«module».0 ≡ m → f.sensor ≡ k → t < f.at.0

-- the last time of a sensor is t or later
record IsSince (s : Seen) (m k t : ℕ) : Type 0 where
  last : ℕ
  is : s.latest m k ≡ Some last
  since : t ≤ last

-- one more line leaves a part's last time, or makes it later
stays : (nodes : ℕ) (s : Seen) (e : Entry) (m k t : ℕ) → IsQuiet nodes s e → IsSince s m k t → IsSince (after e s) m k t
stays nodes s (Horizon time) m k t quiet since = record { last = since.last; is = since.is; since = since.since }
stays nodes s (Order order) m k t quiet since = record { last = since.last; is = since.is; since = since.since }
stays nodes s (Bind part plug) m k t quiet since = by_kind part.sensor refl
  where
    by_kind : (b : Bool) → part.sensor ≡ b → IsSince (after (Bind part plug) s) m k t
    by_kind true e = record { last = since.last; is = rw e since.is; since = since.since }
    by_kind false e = record { last = since.last; is = rw e since.is; since = since.since }
stays nodes s (Sense m' k' at v) m k t quiet since = by_key (m'.0 == m && k' == k) refl
  where
    rises : (m'.0 == m && k' == k) ≡ true → t < at.0
    rises e =
        let same_m : m'.0 ≡ m = grind (arith, nat_tests) in
        let same_k : k' ≡ k = grind (arith, nat_tests) in
        let here : s.latest m'.0 k' ≡ Some since.last =
        ap (λ (a : ℕ). s.latest a k') same_m ∙ ap (s.latest m) same_k ∙ since.is in
        let above : is_not_above at.0 (Some since.last) ≡ false = ap (is_not_above at.0) (sym here) ∙ quiet.time in
        let le : t ≤ since.last = since.since in
        grind (arith, nat_tests)

    by_key : (b : Bool) → (m'.0 == m && k' == k) ≡ b → IsSince (after (Sense m' k' at v) s) m k t
    by_key true e =
        let later : t < at.0 = rises e in
        record { last = at.0; is = rw e refl; since = omega (arith, later) }
    by_key false e = record { last = since.last; is = rw e since.is; since = since.since }
stays nodes s e m k t quiet since = record { last = since.last; is = since.is; since = since.since }

-- a line's own entry is later
added : (nodes : ℕ) (s : Seen) (e : Entry) (m k t : ℕ) (more : List SenseEntry) → IsQuiet nodes s e → IsSince s m k t →
    AllByRecursion (IsLater m k t) more → AllByRecursion (IsLater m k t) (cons_option (sense_in e) more)
added nodes s (Sense m' k' at (Some v)) m k t more quiet since all = (
  λ same_m same_k.
      let here : s.latest m'.0 k' ≡ Some since.last =
      ap (λ (a : ℕ). s.latest a k') same_m ∙ ap (s.latest m) same_k ∙ since.is in
      let above : is_not_above at.0 (Some since.last) ≡ false = ap (is_not_above at.0) (sym here) ∙ quiet.time in
      let le : t ≤ since.last = since.since in
      grind (arith, nat_tests),
  all,
)
added nodes s (Sense m' k' at None) m k t more quiet since all = all
added nodes s e m k t more quiet since all = all

-- all later entries of a sensor are later than its last time
later : (nodes : ℕ) (before : List Entry) (lines : List (Said Entry)) (m k t : ℕ) → AllQuiet nodes before lines →
    IsSince (seen_of before) m k t → AllByRecursion (IsLater m k t) (filter_map sense_in (what_of lines))
later nodes before [] m k t quiet since = tt
later nodes before (x ∷ xs) m k t quiet since =
    added nodes (seen_of before) x.what m k t (filter_map sense_in (what_of xs)) quiet.0 since
    (later nodes (x.what ∷ before) xs m k t quiet.1 (stays nodes (seen_of before) x.what m k t quiet.0 since))

-- numbers pass the test of equality with themselves
itself : (m k : ℕ) → (m == m && k == k) ≡ true
itself m k = grind (arith, nat_tests)

-- one more entry before others
rises_more : (s : Seen) (e : Entry) (more : List SenseEntry) →
    ((m k t : ℕ) → IsSince (after e s) m k t → AllByRecursion (IsLater m k t) more) → AreRising more →
    AreRising (cons_option (sense_in e) more)
rises_more s (Sense m k at (Some v)) more next rising = (
  All-from_recursion (IsLater m.0 k at.0) more
      (next m.0 k at.0 (record { last = at.0; is = rw (itself m.0 k) refl; since = omega arith })),
  rising,
)
rises_more s (Sense m k at None) more next rising = rising
rises_more s e more next rising = rising

-- the times of each sensor rise
pub are_rising : (nodes : ℕ) (before : List Entry) (lines : List (Said Entry)) → AllQuiet nodes before lines →
    AreRising (filter_map sense_in (what_of lines))
are_rising nodes before [] quiet = tt
are_rising nodes before (x ∷ xs) quiet =
    rises_more (seen_of before) x.what (filter_map sense_in (what_of xs))
    (λ m k t since. later nodes (x.what ∷ before) xs m k t quiet.1 since)
    (are_rising nodes (x.what ∷ before) xs quiet.1)
