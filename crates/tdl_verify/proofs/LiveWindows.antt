-- The live windows of a node: which they are, where two of them clash, and what a microsecond without a clash does.
use Rattle.std.proofs.Common.{◌≡◌, ℕ, suc, ◌+◌, ◌<◌, ◌≤◌, List, [], ◌∷◌, ◌++◌, map, length, Bool, true, false, not, Option, Some, None, refl, ap, ◌∙◌, arith}
use Rattle.std.specs.Prelude.{flat_map, nat_le, nat_lt, MatchOption}
use Rattle.std.proofs.lemmas.Bool.{eqb-true, eq-eqb, and_parts}
use Rattle.std.proofs.lemmas.Bool.Decides.{nat_tests}
use Rattle.tdl_trace.specs.declared.why.Why.TheVariants as why
use Rattle.tdl_image.specs.declared.hosted.TaskTable.{TaskTable}
use Rattle.tdl_image.specs.declared.hosted.ImageWindow.{ImageWindow}
use Rattle.tdl_base.specs.Sensed.{Sensed}
use Rattle.tdl_verify.specs.States.{Slot, TaskNow, HostNow, Part, NodeNow, Times}
use Rattle.tdl_verify.specs.Turns.{is_mode}
use Rattle.tdl_verify.specs.Micros.{is_live, live, slot_run, tasks_run, run_part, micro}
use Rattle.tdl_verify.specs.Runs.{System, Now, Lost, Micros, and_micros, all_micros, next_instant}
use Rattle.tdl_verify.specs.Laws.{IsOpen, AllWalk}

-- a module's mode is the one of the test
pub mode-is : (m : ℕ) (mode : Option ℕ) → is_mode m mode ≡ true → mode ≡ Some m
mode-is m None e = absurd (cc e)
mode-is m (Some k) e = ap Some (eqb-true k m e)

-- a live window is open
pub live-open : (x : ℕ) (s : HostNow) (w : ImageWindow) → is_live x s w ≡ true → IsOpen x s w
live-open x s w e =
    let a = and_parts (not w.bus) _ e in
    let b = and_parts (is_mode w.mode s.mode) _ a.1 in
    let c = and_parts (nat_le (s.base + w.offset) x) _ b.1 in
    record {
      processor = no_bus w.bus a.0;
      mode = mode-is w.mode s.mode b.0;
      begun = le (s.base + w.offset) x c.0;
      lasts = lt x (s.base + w.offset + w.length) c.1;
    }
  where
    no_bus : (b : Bool) → not b ≡ true → b ≡ false
    no_bus true e = absurd (cc e)
    no_bus false e = refl

    le : (a b : ℕ) → nat_le a b ≡ true → a ≤ b
    le a b e = grind (arith, nat_tests, e)

    lt : (a b : ℕ) → nat_lt a b ≡ true → a < b
    lt a b e = grind (arith, nat_tests, e)

-- an open window is live
pub open-live : (x : ℕ) (s : HostNow) (w : ImageWindow) → IsOpen x s w → is_live x s w ≡ true
open-live x s w o =
    let bus = o.processor in
    let mode = o.mode in
    let self = eq-eqb w.mode w.mode refl in
    let begun = le (s.base + w.offset) x o.begun in
    let lasts = lt x (s.base + w.offset + w.length) o.lasts in
    rw (bus, mode, self, begun, lasts) refl
  where
    le : (a b : ℕ) → a ≤ b → nat_le a b ≡ true
    le a b h = grind (arith, nat_tests, h)

    lt : (a b : ℕ) → a < b → nat_lt a b ≡ true
    lt a b h = grind (arith, nat_tests, h)

-- two live windows are a clash
pub two-clash : (x : ℕ) (n : NodeNow) (v w : ImageWindow) (more : List ImageWindow) →
    flat_map (live x) n.parts ≡ v ∷ w ∷ more → micro x n ≡ None
two-clash x n v w more two =
    let e : nat_lt 1 (length (flat_map (live x) n.parts)) ≡ true =
    ap (λ ws. nat_lt 1 (length ws)) two ∙ above (length more) in rw e refl
  where
    above : (k : ℕ) → nat_lt 1 (suc (suc k)) ≡ true
    above k = grind (arith, nat_tests)

-- with one live window at most, each part runs by itself
pub one-runs : (x : ℕ) (n : NodeNow) → length (flat_map (live x) n.parts) ≤ 1 →
    MatchOption (micro x n) ⊥ (λ (after : NodeNow). after.parts ≡ map (run_part x) n.parts)
one-runs x n le = let e = below (length (flat_map (live x) n.parts)) le in rw e refl
  where
    below : (k : ℕ) → k ≤ 1 → nat_lt 1 k ≡ false
    below k h = grind (arith, nat_tests, h)

-- tasks without a live window stay
tasks-rest : (ts : List TaskTable) (us : List TaskNow) → tasks_run [] ts us ≡ us
tasks-rest [] us = refl
tasks-rest (t ∷ ts) [] = refl
tasks-rest (t ∷ ts) (u ∷ us) = λ q. record u { slot = slot-rest t u.slot q } ∷ tasks-rest ts us q
  where
    slot-rest : (t : TaskTable) (slot : Slot) → slot_run [] t slot ≡ slot
    slot-rest t Slot.Idle = refl
    slot-rest t (Slot.Ready m i left cells) = refl
    slot-rest t (Slot.Done m i outputs) = refl

-- a part without a live window stays
pub part-rests : (x : ℕ) (p : Part) → live x p ≡ [] → run_part x p ≡ p
part-rests x (Part.Outside p s) none = refl
part-rests x (Part.Host h s) none =
    ap (λ ws. Part.Host h (record s { tasks = tasks_run ws h.tasks s.tasks })) none
    ∙ ap (λ us. Part.Host h (record s { tasks = us })) (tasks-rest h.tasks s.tasks)

-- the first node that clashes, after nodes that do not
micros-clash : (x k : ℕ) (front : List NodeNow) (n : NodeNow) (back : List NodeNow) → AllWalk x front →
    micro x n ≡ None → all_micros x k (front ++ n ∷ back) ≡ Micros.Clashed (k + length front)
micros-clash x k [] n back walk clash =
    let z : k ≡ k + 0 = omega arith in
    ap (λ o. and_micros k o (all_micros x (suc k) back)) clash ∙ ap Micros.Clashed z
micros-clash x k (f ∷ front) n back walk clash =
    let z : suc k + length front ≡ k + suc (length front) = omega arith in
    by_node (micros-clash x (suc k) front n back (λ j m at. walk (suc j) m at) clash) (micro x f) (walk 0 f refl)
    ∙ ap Micros.Clashed z
  where
    by_node : all_micros x (suc k) (front ++ n ∷ back) ≡ Micros.Clashed (suc k + length front) →
        (o : Option NodeNow) → (o ≡ None → ⊥) →
        and_micros k o (all_micros x (suc k) (front ++ n ∷ back)) ≡ Micros.Clashed (suc k + length front)
    by_node rest None walks = absurd (walks refl)
    by_node rest (Some g) walks = ap (and_micros k (Some g)) rest

-- the run ends there
pub clash-stops : (x horizon : ℕ) (sensed : Sensed) (times : Times) (lost : Lost) (s : System)
    (front : List NodeNow) (n : NodeNow) (back : List NodeNow) → s.nodes ≡ front ++ n ∷ back → AllWalk x front →
    micro x n ≡ None →
    (next_instant horizon x sensed times lost s).now ≡ Now.Dead (length front) (suc x) why.Clash
unfolding next_instant
clash-stops x horizon sensed times lost s front n back are walk clash =
    let z : 0 + length front ≡ length front = omega arith in
    let e = ap (all_micros x 0) are ∙ micros-clash x 0 front n back walk clash ∙ ap Micros.Clashed z in
    rw e refl
