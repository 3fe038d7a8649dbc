-- At most one window is live on a node of hosted modules and stubs, and a microsecond keeps its hosted modules in step.
use Rattle.std.proofs.Common.{◌≡◌, ℕ, suc, ◌<◌, ◌≤◌, List, [], ◌∷◌, ◌++◌, map, length, true, false, ◌==◌, nat_lt, Some, filter, refl, ap, ap₂, sym, ◌∙◌, subst, arith}
use Rattle.std.specs.Prelude.{slice_get, flat_map}
use Rattle.std.proofs.lemmas.Bool.{ne_eqb}
use Rattle.std.proofs.lemmas.Bool.Decides.{nat_tests}
use Prim.Native.Nat.{◌∣◌}
use Rattle.tdl_mode.specs.declared.program.Module.{Module}
use Rattle.tdl_mode.specs.States.{ModuleState}
use Rattle.tdl_deploy.specs.Placed.{hosts}
use Rattle.tdl_image.specs.declared.hosted.Hosted.{Hosted}
use Rattle.tdl_image.specs.declared.hosted.ImageWindow.{ImageWindow}
use Rattle.tdl_verify.specs.States.{HostNow, Part, NodeNow, part_number}
use Rattle.tdl_base.specs.Lists.{first_of}
use Rattle.tdl_verify.specs.Micros.{is_live, live, run_part, stretches, opened, micro, tasks_run}
use Rattle.tdl_gen.specs.Tables.{windows_of, hosted_of}
use Rattle.tdl_gen.proofs.HostMoves.{NotIn, Apart}
use Rattle.tdl_meaning.proofs.CoveredWindows.{FromSchedule, all_from}
use Rattle.tdl_meaning.proofs.Pairwise.{every-mapped, every-kept}
use Rattle.tdl_meaning.proofs.WindowsApart.{Grained, one_host_live, never_both_live}
use Rattle.tdl_meaning.proofs.HostMicro.{after_micro, micro_host}
use Rattle.tdl_meaning.specs.Accepted.{Accepted}
use Rattle.tdl_meaning.specs.HostInStep.{HostFacts, HostAfter}
use Rattle.tdl_meaning.specs.AllItems.{Every}
use Rattle.tdl_meaning.specs.NodeShape.{Ascends}
use Rattle.tdl_meaning.proofs.Every.{all-at}
use Rattle.tdl_meaning.proofs.FilterCounts.{filter-none}

-- numbers ascend, from n on
abbrev Rises : ℕ → List ℕ → Type 0
Rises n [] = Unit {0}
Rises n (a ∷ more) = (n ≤ a) × Rises (suc a) more

-- the numbers of parts that ascend
numbers-rise : (n : ℕ) (qs : List Part) → Ascends n qs → Rises n (map part_number qs)
numbers-rise n [] a = tt
numbers-rise n (q ∷ qs) a = (a.0, numbers-rise (suc (part_number q)) qs a.1)

-- a number among those that ascend from n is at least n
at_least : (n a : ℕ) (front back : List ℕ) → Rises n (front ++ a ∷ back) → n ≤ a
at_least n a [] back r = r.0
at_least n a (b ∷ front) back r = let l = at_least (suc b) a front back r.1 in let h = r.0 in omega (arith, l, h)

-- a number among those that ascend is none of those in front of it
not_in : (n a : ℕ) (front back : List ℕ) → Rises n (front ++ a ∷ back) → NotIn a front
not_in n a [] back r = tt
not_in n a (b ∷ front) back r = let l = at_least (suc b) a front back r.1 in
    (ne_eqb b a (λ q. omega (arith, l, q)), not_in (suc b) a front back r.1)

-- part numbers that ascend are apart
pub ascends-apart : (n : ℕ) (qs : List Part) → Ascends n qs → Apart (map part_number qs)
ascends-apart n qs a front c back e = not_in n c front back (subst (Rises n) e (numbers-rise n qs a))

-- node `node` at instant x, and the logical states after the instant
module _ (given : Accepted) (x node : ℕ) (logic : ℕ → ModuleState) where
  -- a hosted module after the turn of instant x, in step with its logical state
  pub record HostTurned (h : Hosted) (s : HostNow) : Type 0 where
    pub definition : Module
    pub there : slice_get given.program.modules h.number.0 ≡ Some definition
    pub tables : h ≡ hosted_of given.schedule h.number.0 definition
    pub hosted : hosts given.placement node h.number.0 ≡ true
    pub facts : HostAfter definition (hosted_of given.schedule h.number.0 definition) x (logic h.number.0) s

  -- a part after the turn
  abbrev pub PartTurned : Part → Type 0
  PartTurned (Part.Host h s) = HostTurned h s
  PartTurned (Part.Outside q t) = Unit {0}

  -- all parts of the node after the turn
  abbrev pub AllTurned : List Part → Type 0
  AllTurned qs = Every PartTurned qs

  -- its cycle began at an instant that its grain divides
  grained : (h : Hosted) (s : HostNow) (b : HostTurned h s) → Grained given x node h.number.0 b.definition s
  grained h s b = record {
    at = b.there;
    hosted = b.hosted;
    mode = (logic h.number.0).mode;
    mode' = b.facts.facts.mode';
    grain = λ g cycles. subst (λ c. g ∣ c) (sym b.facts.facts.base) (b.facts.facts.grain g cycles);
  }

  -- its windows are those of the schedule
  windows-are : (h : Hosted) (s : HostNow) (b : HostTurned h s) → h.windows ≡ windows_of given.schedule h.number.0
  windows-are h s b = ap (λ (c : Hosted). c.windows) b.tables

  -- at most one of its windows is live
  few_live : (h : Hosted) (s : HostNow) → HostTurned h s → length (filter (is_live x s) h.windows) ≤ 1
  few_live h s b = subst (λ ws. length (filter (is_live x s) ws) ≤ 1) (sym (windows-are h s b))
      (one_host_live given x node h.number.0 s (logic h.number.0).mode b.facts.facts.mode')

  -- where a module has a live window, no part with a higher number has
  no_other_live : (n : ℕ) (m : Module) (a : HostNow) (v : ImageWindow) → Grained given x node n m a →
      FromSchedule given.schedule n v → is_live x a v ≡ true → (j : ℕ) → n < j → (qs : List Part) →
      Ascends j qs → AllTurned qs → flat_map (live x) qs ≡ []
  no_other_live n m a v ga fv lv j lt [] up bs = refl
  no_other_live n m a v ga fv lv j lt (Part.Outside q t ∷ qs) up bs = let u = up.0 in
      no_other_live n m a v ga fv lv (suc q.number.0) (omega (arith, lt, u)) qs up.1 bs.1
  no_other_live n m a v ga fv lv j lt (Part.Host h s ∷ qs) up bs =
      let u = up.0 in
      let ne : (n == h.number.0) ≡ false = ne_eqb n h.number.0 (λ e. omega (arith, e, lt, u)) in
      ap₂ (λ b c. b ++ c) (ap (filter (is_live x s)) (windows-are h s bs.0)
      ∙ filter-none (is_live x s) (windows_of given.schedule h.number.0)
      (all-at (λ w. is_live x s w ≡ true → ⊥) (windows_of given.schedule h.number.0)
      (every-mapped (FromSchedule given.schedule h.number.0) (λ w. is_live x s w ≡ true → ⊥)
      (windows_of given.schedule h.number.0)
      (λ w fw lw. never_both_live given x node n h.number.0 m bs.0.definition a s ne ga (grained h s bs.0) v w fv fw lv
      lw)
      (all_from given.schedule h.number.0))))
      (no_other_live n m a v ga fv lv (suc h.number.0) (omega (arith, lt, u)) qs up.1 bs.1)

  -- at most one window of the node is live
  live_at_most : (n : ℕ) (qs : List Part) → Ascends n qs → AllTurned qs → length (flat_map (live x) qs) ≤ 1
  live_at_most n [] up bs = omega arith
  live_at_most n (Part.Outside q t ∷ qs) up bs = live_at_most (suc q.number.0) qs up.1 bs.1
  live_at_most n (Part.Host h s ∷ qs) up bs =
      by_list (live_at_most (suc h.number.0) qs up.1 bs.1) (filter (is_live x s) h.windows) (few_live h s bs.0)
      (subst (λ ws. Every (λ v. FromSchedule given.schedule h.number.0 v × (is_live x s v ≡ true))
      (filter (is_live x s) ws)) (sym (windows-are h s bs.0))
      (every-kept (FromSchedule given.schedule h.number.0) (is_live x s)
      (windows_of given.schedule h.number.0) (all_from given.schedule h.number.0)))
    where
      by_list : length (flat_map (live x) qs) ≤ 1 → (l : List ImageWindow) → length l ≤ 1 →
          Every (λ v. FromSchedule given.schedule h.number.0 v × (is_live x s v ≡ true)) l →
          length (l ++ flat_map (live x) qs) ≤ 1
      by_list rest [] le e = rest
      by_list rest (v ∷ []) le e =
          let none : length (flat_map (live x) qs) ≡ 0 = ap length
          (no_other_live h.number.0 bs.0.definition s v (grained h s bs.0) e.0.0 e.0.1 (suc h.number.0)
          (omega arith) qs up.1 bs.1) in
          omega (arith, none)
      by_list rest (v ∷ w ∷ l) le e = absurd (omega (arith, le))

  -- the microsecond of the node is that of all its parts
  pub micro-is : (n : NodeNow) → Ascends 0 n.parts → AllTurned n.parts →
      micro x n ≡ Some (record n {
        parts = map (run_part x) n.parts;
        running = opened n.running (first_of (flat_map (stretches x) n.parts));
      })
  micro-is n up bs = let e = below (length (flat_map (live x) n.parts)) (live_at_most 0 n.parts up bs) in rw e refl
    where
      below : (c : ℕ) → c ≤ 1 → nat_lt 1 c ≡ false
      below c le = grind (arith, nat_tests, le)

  -- after its microsecond a hosted module is in step before the next instant
  pub host_in_step : (h : Hosted) (s : HostNow) (b : HostTurned h s) →
      HostFacts b.definition (hosted_of given.schedule h.number.0 b.definition) (suc x) (logic h.number.0)
      (after_micro given.schedule x h.number.0 b.definition s)
  host_in_step h s b = micro_host given.schedule h.number.0 b.definition x (logic h.number.0) s b.facts
      (one_host_live given x node h.number.0 s (logic h.number.0).mode b.facts.facts.mode')

  -- the microsecond of a part that hosts a module
  pub run_part-host : (h : Hosted) (s : HostNow) (b : HostTurned h s) →
      run_part x (Part.Host h s) ≡ Part.Host h (after_micro given.schedule x h.number.0 b.definition s)
  run_part-host h s b = ap (λ (c : Hosted). Part.Host h (record s {
    tasks = tasks_run (filter (is_live x s) c.windows) c.tasks s.tasks;
  })) b.tables
