-- The slot of a job, microsecond by microsecond: what its windows cover is taken from its time.
use Rattle.std.proofs.Common.{◌≡◌, ℕ, zero, suc, ◌+◌, ◌<◌, ◌≤◌, ℤ, List, length, Bool, true, false, Some, filter, refl, sym, subst, arith}
use Rattle.std.specs.Prelude.{if◌then◌else◌}
use Rattle.std.specs.List.{list_any}
use Rattle.tdl_image.specs.declared.hosted.TaskTable.{TaskTable}
use Rattle.tdl_image.specs.declared.hosted.Hosted.{Hosted}
use Rattle.tdl_verify.specs.States.{Slot, HostNow}
use Rattle.tdl_verify.specs.Micros.{is_live, is_job_of, worked, slot_run}
use Rattle.tdl_verify.specs.Covered.{covered_by, AtMostOneLive, job_outputs, slot_along}
use Rattle.tdl_verify.proofs.Covered.{unit, covered_by-one}

module _ (h : Hosted) (t : TaskTable) (m i total : ℕ) (cells : List ℤ) where
  -- at offset d the slot has the job with these cells: it is done, or what is left of its time and what its windows
  -- covered are the total at most
  abbrev pub SlotFacts : ℕ → Slot → Type 0
  SlotFacts d Slot.Idle = ⊥
  SlotFacts d (Slot.Ready mode invocation left values) =
      (mode ≡ m) × (invocation ≡ i) × (values ≡ cells) × (0 < left) × (left + covered_by m i d h.windows ≤ total)
  SlotFacts d (Slot.Done mode invocation outputs) = (mode ≡ m) × (invocation ≡ i) × (outputs ≡ job_outputs t cells)

  -- the job is the one of a live window
  abbrev is_run : ℕ → HostNow → Bool
  is_run x s = list_any (is_job_of m i) (filter (is_live x s) h.windows)

  -- a ready job after a microsecond in which it is run or not, and its windows cover one more or none
  worked-facts : (d left : ℕ) (b : Bool) → covered_by m i (suc d) h.windows ≡ covered_by m i d h.windows + unit b →
      0 < left → left + covered_by m i d h.windows ≤ total →
      SlotFacts (suc d) (if b then worked t m i left cells else Slot.Ready m i left cells)
  worked-facts d zero true more above within = absurd (omega (arith, above))
  worked-facts d (suc zero) true more above within = (refl, refl, refl)
  worked-facts d (suc (suc left)) true more above within = (refl, refl, refl, omega arith, omega (arith, more, within))
  worked-facts d left false more above within = (refl, refl, refl, above, omega (arith, more, within))

  -- a microsecond in which at most one window is live keeps the facts of the slot
  pub slot_micro : (x d : ℕ) (s : HostNow) (slot : Slot) → s.mode ≡ Some m → x ≡ s.base + d →
      length (filter (is_live x s) h.windows) ≤ 1 → SlotFacts d slot →
      SlotFacts (suc d) (slot_run (filter (is_live x s) h.windows) t slot)
  slot_micro x d s Slot.Idle mode at le facts = facts
  slot_micro x d s (Slot.Done mode' invocation outputs) mode at le facts = facts
  slot_micro x d s (Slot.Ready mode' invocation left values) mode at le facts =
      let made : SlotFacts (suc d) (slot_run (filter (is_live x s) h.windows) t (Slot.Ready m i left cells)) =
      worked-facts d left (is_run x s) (covered_by-one m i x d s h.windows mode at le) facts.3 facts.4 in
      subst (λ sl. SlotFacts (suc d) (slot_run (filter (is_live x s) h.windows) t sl))
      (λ q. Slot.Ready (sym facts.0 q) (sym facts.1 q) left (sym facts.2 q)) made

  -- where the windows cover the total, the job is done
  slot-done : (d : ℕ) (slot : Slot) → total ≤ covered_by m i d h.windows → SlotFacts d slot →
      slot ≡ Slot.Done m i (job_outputs t cells)
  slot-done d Slot.Idle enough facts = absurd facts
  slot-done d (Slot.Ready mode invocation left values) enough facts = absurd (omega (arith, enough, facts.3, facts.4))
  slot-done d (Slot.Done mode invocation outputs) enough facts = λ q. Slot.Done (facts.0 q) (facts.1 q) (facts.2 q)

  -- after microseconds at whose end the windows cover the total, the job is done
  slot_along-done : (k x d : ℕ) (s : HostNow) (slot : Slot) → s.mode ≡ Some m → x ≡ s.base + d →
      AtMostOneLive x k s h.windows → SlotFacts d slot → total ≤ covered_by m i (d + k) h.windows →
      slot_along k x s h.windows t slot ≡ Slot.Done m i (job_outputs t cells)
  slot_along-done zero x d s slot mode at apart facts enough =
      let e : d + 0 ≡ d = omega arith in
      slot-done d slot (subst (λ n. total ≤ covered_by m i n h.windows) e enough) facts
  slot_along-done (suc k) x d s slot mode at apart facts enough =
      let e : d + suc k ≡ suc d + k = omega arith in
      slot_along-done k (suc x) (suc d) s _ mode (omega (arith, at))
      (λ y le lt. apart y (omega (arith, le)) (omega (arith, lt)))
      (slot_micro x d s slot mode at (apart x (omega arith) (omega arith)) facts)
      (subst (λ n. total ≤ covered_by m i n h.windows) e enough)

-- a ready job is done where its windows cover its remaining time, and at most one window is live in each microsecond
pub ready-done : (h : Hosted) (t : TaskTable) (s : HostNow) (mode invocation left d k : ℕ) (cells : List ℤ) →
    s.mode ≡ Some mode → 0 < left → AtMostOneLive (s.base + d) k s h.windows →
    covered_by mode invocation d h.windows + left ≤ covered_by mode invocation (d + k) h.windows →
    slot_along k (s.base + d) s h.windows t (Slot.Ready mode invocation left cells)
    ≡ Slot.Done mode invocation (job_outputs t cells)
ready-done h t s mode invocation left d k cells is above apart enough =
    slot_along-done h t mode invocation (left + covered_by mode invocation d h.windows) cells k (s.base + d) d s
    (Slot.Ready mode invocation left cells) is refl apart (refl, refl, refl, above, omega arith) (omega (arith, enough))
