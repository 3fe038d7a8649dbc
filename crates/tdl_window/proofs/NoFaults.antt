-- A schedule without a fault passes.
use Rattle.std.proofs.Common.{◌≡◌, ◌⊎◌, inl, inr, ℕ, zero, suc, ◌+◌, ◌<◌, ◌≤◌, ◌==◌, ◌&&◌, not, Bool, true, false, nat_le, [], filter, length, Option, Some, None, option_map, unwrap_or, refl, ap, ap₂, sym, ◌∙◌, subst, arith}
use Rattle.std.specs.Prelude.{slice_get, if◌then◌else◌, option_and_then}
use Rattle.std.proofs.lemmas.Bool.{and_parts, and_from, or_cases, leb-true, ltb-false, eqb-true, eqb-false, eq-eqb, not-false, true≢false}
use Rattle.std.proofs.lemmas.Option.{slice_get-map}
use Rattle.tdl_base.proofs.Finding.{passing-any}
use Rattle.tdl_mode.specs.declared.program.Program.{Program}
use Rattle.tdl_mode.specs.declared.program.Module.{Module}
use Rattle.tdl_mode.specs.declared.program.Mode.{Mode}
use Rattle.tdl_mode.specs.declared.program.Task.{Task}
use Rattle.tdl_mode.specs.declared.program.Invocation.{Invocation}
use Rattle.tdl_mode.specs.States.{invocation_of}
use Rattle.tdl_mode.specs.Imports.{is_among}
use Rattle.tdl_deploy.specs.declared.placement.Placement.{Placement}
use Rattle.tdl_deploy.specs.declared.placement.PlacedNode.{PlacedNode}
use Rattle.tdl_deploy.specs.declared.schedule.Schedule.{Schedule}
use Rattle.tdl_deploy.specs.declared.schedule.Window.{Window}
use Rattle.tdl_deploy.specs.AtRelease.{worst_case_of}
use Rattle.tdl_deploy.specs.Passes.{Passes, Invoked, ApartModulo, Clear, is_bus, is_bus_of, deadline}
use Rattle.tdl_deploy.specs.Placed.{hosts, is_remote, duration_of}
use Rattle.tdl_window.specs.Broken.{called, lies_in, lasts_no_time, is_untimely, holds_no_frame, frame_time, time_given, lacks_time, buses_due, has_other_buses, same_resource, are_clear, overlap, share_node, grain_at, meet_apart, meet_on_node, meet_on_bus}
use Rattle.tdl_window.specs.Faults.{windows_breaking, pairs_breaking, calls_breaking, told, window_faults, call_faults, frame_faults, sched_faults}
use Rattle.tdl_window.specs.GrainOf.{gcd, grain_of, grains_of}
use Rattle.tdl_window.specs.Granted.{AreInvoked}
use Rattle.tdl_window.specs.Meeting.{meet}
use Rattle.tdl_window.proofs.Commons.{gcd-is, grain-is}
use Rattle.tdl_window.proofs.Residues.{meets-meet}
use Rattle.tdl_window.proofs.NoPlaces.{none-append, none-told, windows-keep, pairs-keep, calls-keep}

-- ---- rules that hold, one by one

-- a test of what is looked up fails where it is found
found-fails : {X : Type 0} (b : Bool) (f : X → Bool) (o : Option X) (x : X) → b ≡ true → o ≡ Some x →
    (b && unwrap_or (option_map f o) false) ≡ false → f x ≡ false
found-fails b f o x holds found e = sym (ap₂ (λ t p. t && unwrap_or (option_map f p) false) holds found) ∙ e

-- of tests that do not all hold the last fails
last-fails : (a b c : Bool) → a ≡ true → b ≡ true → (a && (b && c)) ≡ false → c ≡ false
last-fails a b c first second e = sym (ap₂ (λ s t. s && (t && c)) first second) ∙ e

module _ (program : Program) (placement : Placement) (schedule : Schedule) where
  -- the invocation of a window is found
  called-is : (w : Window) (i : Invoked program w.«module».0 w.mode.0 w.invocation) →
      called program w ≡ Some (i.owner, i.invocation)
  called-is w i =
      ap (λ (o : Option Module). option_and_then (λ owner. option_and_then (λ mode. option_map (λ j. (owner, j))
      (invocation_of mode.invocations w.invocation)) (slice_get owner.modes w.mode.0)) o) i.owner_at
      ∙ ap (λ (o : Option Mode). option_and_then (λ mode. option_map (λ j. (i.owner, j))
      (invocation_of mode.invocations w.invocation)) o) i.mode_at
      ∙ ap (λ (o : Option Invocation). option_map (λ j. (i.owner, j)) o) i.invocation_at

  -- a window that lies between two offsets
  lies : (a b : ℕ) (w : Window) → lies_in a b w ≡ true → (a ≤ w.offset) × (w.offset + w.length ≤ b)
  lies a b w e =
      let both = and_parts (nat_le a w.offset) (nat_le (w.offset + w.length) b) e in
      (leb-true a w.offset both.0, leb-true (w.offset + w.length) b both.1)

  -- S2
  lasting : (w : Window) → lasts_no_time w ≡ false → 0 < w.length
  lasting w e = let some = eqb-false w.length 0 e in by_length w.length some
    where
      by_length : (n : ℕ) → (n ≡ 0 → ⊥) → 0 < n
      by_length zero some = absurd (some refl)
      by_length (suc n) some = omega arith

  -- S3
  timely : (w : Window) → is_untimely program schedule w ≡ false → is_bus w.resource ≡ false →
      (i : Invoked program w.«module».0 w.mode.0 w.invocation) →
      (i.invocation.s.0 ≤ w.offset)
      × (w.offset + w.length ≤ deadline schedule w.«module».0 w.mode.0 w.invocation i.invocation.e.0)
  timely w e cpu i =
      lies _ _ w
      (not-false _
      (found-fails (not (is_bus w.resource)) _ (called program w) (i.owner, i.invocation) (ap not cpu) (called-is w i)
      e))

  -- S4
  in_time : (m k n : ℕ) (i : Invoked program m k n) → lacks_time schedule.windows m i.owner k n i.invocation ≡ false →
      i.task.worst.0 ≤ time_given schedule.windows m k n
  in_time m k n i e =
      subst (λ x. x ≤ time_given schedule.windows m k n)
      (ap (λ (o : Option Task). unwrap_or (option_map (λ t. t.worst.0) o) 0) i.task_at)
      (ltb-false (time_given schedule.windows m k n) (worst_case_of i.owner i.invocation.task.0) e)

  -- S5
  on_buses : (m k n : ℕ) (i : Invoked program m k n) →
      has_other_buses program placement schedule.windows m i.owner k n i.invocation ≡ false →
      length (filter (is_bus_of m k n) schedule.windows) ≡ (if is_remote program placement m i.task then 1 else 0)
  on_buses m k n i e =
      eqb-true (length (filter (is_bus_of m k n) schedule.windows)) (buses_due program placement m i.owner i.invocation)
      (not-false _ e)
      ∙ ap (λ (o : Option Task). if unwrap_or (option_map (is_remote program placement m) o) false then 1 else 0)
      i.task_at

  -- S6
  frame_held : (w : Window) → holds_no_frame program placement w ≡ false → is_bus w.resource ≡ true →
      (i : Invoked program w.«module».0 w.mode.0 w.invocation) →
      (i.invocation.s.0 ≤ w.offset) × (w.offset + w.length ≤ i.invocation.e.0)
      × (duration_of placement i.task ≤ w.length)
  frame_held w e bus i =
      let held =
      not-false _
      (found-fails (is_bus w.resource) _ (called program w) (i.owner, i.invocation) bus (called-is w i) e) in
      let parts = and_parts (lies_in i.invocation.s.0 i.invocation.e.0 w)
      (nat_le (frame_time placement i.owner i.invocation) w.length) held in
      let inside = lies i.invocation.s.0 i.invocation.e.0 w parts.0 in
      let long = leb-true (frame_time placement i.owner i.invocation) w.length parts.1 in (
        inside.0,
        inside.1,
        subst (λ x. x ≤ w.length)
            (ap (λ (o : Option Task). unwrap_or (option_map (duration_of placement) o) 0) i.task_at) long,
      )

  -- S7
  clear : (v w : Window) → overlap v w ≡ false → is_bus v.resource ≡ is_bus w.resource →
      v.«module».0 ≡ w.«module».0 → v.mode.0 ≡ w.mode.0 → Clear v w
  unfolding are_clear
  clear v w e resource owner mode =
      by_side (or_cases (nat_le (v.offset + v.length) w.offset) (nat_le (w.offset + w.length) v.offset)
      (not-false _ (last-fails (v.mode.0 == w.mode.0) true (not (are_clear v w)) (eq-eqb _ _ mode) refl
      (last-fails (same_resource v w) (v.«module».0 == w.«module».0)
      (v.mode.0 == w.mode.0 && not (are_clear v w)) (same (is_bus v.resource) (is_bus w.resource) resource)
      (eq-eqb _ _ owner) e))))
    where
      same : (a b : Bool) → a ≡ b → (if a then b else not b) ≡ true
      same true true e = refl
      same true false e = absurd (cc e)
      same false true e = absurd (cc e)
      same false false e = refl

      by_side : (nat_le (v.offset + v.length) w.offset ≡ true) ⊎ (nat_le (w.offset + w.length) v.offset ≡ true) →
          Clear v w
      by_side (inl first) = inl (leb-true (v.offset + v.length) w.offset first)
      by_side (inr second) = inr (leb-true (w.offset + w.length) v.offset second)

  -- the grain of a module
  grain_at-is : (m : ℕ) (owner : Module) → slice_get program.modules m ≡ Some owner →
      grain_at (grains_of program) m ≡ grain_of owner
  grain_at-is m owner at =
      ap (λ o. unwrap_or o 0) (slice_get-map grain_of program.modules m ∙ ap (option_map grain_of) at)

  -- windows of two modules that do not meet by the test
  apart : (v w : Window) (i : Invoked program v.«module».0 v.mode.0 v.invocation)
      (j : Invoked program w.«module».0 w.mode.0 w.invocation) → (v.«module».0 == w.«module».0) ≡ false →
      meet_apart (grains_of program) v w ≡ false → ApartModulo program v w
  apart v w i j two e = record {
    left = i.owner;
    right = j.owner;
    left_at = i.owner_at;
    right_at = j.owner_at;
    grain = grain_of i.owner;
    grain' = grain_of j.owner;
    both = gcd (grain_of i.owner) (grain_of j.owner);
    is_grain = grain-is i.owner;
    is_grain' = grain-is j.owner;
    is_both = gcd-is (grain_of i.owner) (grain_of j.owner);
    apart = λ m. true≢false (sym (meets-meet (gcd (grain_of i.owner) (grain_of j.owner)) v w m) ∙ none);
  }
    where
      none : meet (gcd (grain_of i.owner) (grain_of j.owner)) v w ≡ false
      none =
          ap₂ (λ a b. meet (gcd a b) v w) (sym (grain_at-is v.«module».0 i.owner i.owner_at))
          (sym (grain_at-is w.«module».0 j.owner j.owner_at))
          ∙ last-fails (not (v.«module».0 == w.«module».0)) true _ (ap not two) refl e

  -- modules that one node hosts share a node
  shared : (node : ℕ) (v w : Window) → hosts placement node v.«module».0 ≡ true →
      hosts placement node w.«module».0 ≡ true → share_node placement v w ≡ true
  shared node v w = by_node (slice_get placement.nodes node) refl
    where
      by_node : (o : Option PlacedNode) → slice_get placement.nodes node ≡ o →
          is_among v.«module».0 (unwrap_or (option_map (λ n. n.modules) o) []) ≡ true →
          is_among w.«module».0 (unwrap_or (option_map (λ n. n.modules) o) []) ≡ true → share_node placement v w ≡ true
      by_node None is first second = absurd (cc first)
      by_node (Some n) is first second =
          passing-any (λ (p : PlacedNode). is_among v.«module».0 p.modules && is_among w.«module».0 p.modules)
          placement.nodes node n is
          (and_from (is_among v.«module».0 n.modules) (is_among w.«module».0 n.modules) first second)

  -- S8
  apart_on_node : (node : ℕ) (v w : Window) (i : Invoked program v.«module».0 v.mode.0 v.invocation)
      (j : Invoked program w.«module».0 w.mode.0 w.invocation) →
      meet_on_node placement (grains_of program) v w ≡ false →
      is_bus v.resource ≡ false → is_bus w.resource ≡ false → (v.«module».0 == w.«module».0) ≡ false →
      hosts placement node v.«module».0 ≡ true → hosts placement node w.«module».0 ≡ true → ApartModulo program v w
  apart_on_node node v w i j e first second two here there =
      apart v w i j two
      (first-fails (meet_apart (grains_of program) v w) (share_node placement v w) (shared node v w here there)
      (last-fails (not (is_bus v.resource)) (not (is_bus w.resource))
      (meet_apart (grains_of program) v w && share_node placement v w) (ap not first) (ap not second) e))
    where
      first-fails : (a b : Bool) → b ≡ true → (a && b) ≡ false → a ≡ false
      first-fails true b holds e = sym holds ∙ e
      first-fails false b holds e = refl

  -- S9
  apart_on_bus : (v w : Window) (i : Invoked program v.«module».0 v.mode.0 v.invocation)
      (j : Invoked program w.«module».0 w.mode.0 w.invocation) → meet_on_bus (grains_of program) v w ≡ false →
      is_bus v.resource ≡ true → is_bus w.resource ≡ true → (v.«module».0 == w.«module».0) ≡ false →
      ApartModulo program v w
  apart_on_bus v w i j e first second two =
      apart v w i j two
      (last-fails (is_bus v.resource) (is_bus w.resource) (meet_apart (grains_of program) v w) first second e)

  -- ---- all of them

  -- no rule is broken anywhere
  record KeepsRules : Type 0 where
    s2 : windows_breaking lasts_no_time schedule.windows ≡ []
    s3 : windows_breaking (is_untimely program schedule) schedule.windows ≡ []
    s4 : calls_breaking (lacks_time schedule.windows) program ≡ []
    s5 : calls_breaking (has_other_buses program placement schedule.windows) program ≡ []
    s6 : windows_breaking (holds_no_frame program placement) schedule.windows ≡ []
    s7 : pairs_breaking overlap 1 schedule.windows ≡ []
    s8 : pairs_breaking (meet_on_node placement (grains_of program)) 1 schedule.windows ≡ []
    s9 : pairs_breaking (meet_on_bus (grains_of program)) 1 schedule.windows ≡ []

  -- where there is no fault
  keeps_rules : sched_faults program placement schedule ≡ [] → KeepsRules
  unfolding sched_faults
  keeps_rules e =
      let a = none-append (window_faults program schedule) _ e in
      let b = none-append (call_faults program placement schedule) _ a.1 in
      let c = none-append (frame_faults program placement schedule) _ b.1 in
      let early = none-append (told 2 _) _ a.0 in
      let calls = none-append (told 4 _) _ b.0 in
      let pairs = none-append (told 7 _) _ c.1 in
      let last = none-append (told 8 _) _ pairs.1 in
      record {
        s2 = none-told 2 _ early.0;
        s3 = none-told 3 _ early.1;
        s4 = none-told 4 _ calls.0;
        s5 = none-told 5 _ calls.1;
        s6 = none-told 6 _ c.0;
        s7 = none-told 7 _ pairs.0;
        s8 = none-told 8 _ last.0;
        s9 = none-told 9 _ last.1;
      }

  -- a schedule that keeps all rules passes
  keeping-passes : AreInvoked program schedule → KeepsRules → Passes program placement schedule
  keeping-passes invoked keeps =
      let windows = schedule.windows in
      record {
        invoked = invoked;
        lengths = λ q w at. lasting w (windows-keep lasts_no_time windows keeps.s2 q w at);
        within = λ q w at. timely w (windows-keep (is_untimely program schedule) windows keeps.s3 q w at);
        enough = λ m k n i. in_time m k n i (calls-keep (lacks_time windows) program keeps.s4 m k n i);
        one_bus = λ m k n i.
            on_buses m k n i (calls-keep (has_other_buses program placement windows) program keeps.s5 m k n i);
        on_bus = λ q w at. frame_held w (windows-keep (holds_no_frame program placement) windows keeps.s6 q w at);
        apart = λ q r v w less here there. clear v w (pairs-keep overlap 1 windows keeps.s7 q r v w less here there);
        cpu_apart = λ q r node v w less here there.
            apart_on_node node v w (invoked q v here) (invoked r w there)
            (pairs-keep (meet_on_node placement (grains_of program)) 1 windows keeps.s8 q r v w less here there);
        bus_apart = λ q r v w less here there.
            apart_on_bus v w (invoked q v here) (invoked r w there)
            (pairs-keep (meet_on_bus (grains_of program)) 1 windows keeps.s9 q r v w less here there);
      }

  -- so one without a fault passes
  pub no_fault-passes : AreInvoked program schedule → sched_faults program placement schedule ≡ [] →
      Passes program placement schedule
  no_fault-passes invoked e = keeping-passes invoked (keeps_rules e)
