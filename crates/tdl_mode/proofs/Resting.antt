-- Between two offsets of its mode, a module's instant changes nothing.
use Rattle.std.proofs.Common.{◌≡◌, ℕ, zero, suc, ◌+◌, ℤ, List, [], ◌∷◌, ◌++◌, map, Bool, false, ◌&&◌, ◌||◌, ◌==◌, Option, Some, None, refl, ap, ap₂, sym, ◌∙◌, arith}
use Rattle.std.specs.Prelude.{slice_get, option_map, unwrap_or, if◌then◌else◌, find}
use Rattle.std.specs.List.{list_any}
use Rattle.std.proofs.Math.Bool.{and-false}
use Rattle.std.proofs.lemmas.Bool.{or_parts}
use Rattle.std.proofs.lemmas.Bool.Decides.{nat_tests}
use Rattle.std.proofs.lemmas.List.Folds.{list_any-append}
use Rattle.std.proofs.lemmas.Option.{same_Some}
use Rattle.tdl_base.specs.Lists.{changed_at, numbered}
use Rattle.tdl_base.specs.declared.numbers.PortKey.{PortKey}
use Rattle.tdl_body.specs.Values.{Look, holds, value_of}
use Rattle.tdl_base.specs.Numbers.{narrowed}
use Rattle.tdl_base.specs.declared.kinds.Kind.{Kind}
use Rattle.tdl_base.specs.declared.kinds.Kind.TheVariants.{Long}
use Rattle.tdl_mode.specs.declared.program.Mode.{Mode}
use Rattle.tdl_mode.specs.declared.program.Invocation.{Invocation}
use Rattle.tdl_mode.specs.declared.program.Update.{Update}
use Rattle.tdl_mode.specs.declared.program.Switch.{Switch}
use Rattle.tdl_mode.specs.Offsets.{is_offset}
use Rattle.tdl_base.specs.Sensed.{Sensed}
use Rattle.tdl_mode.specs.States.{Job, TaskState, ModuleState, invocation_of, invocations_now, look_of}
use Rattle.tdl_mode.specs.Phases.{ended, job_ends, has_ended, task_after, phase_one, taken_update, update_value, phase_two, switch_target, is_over, switched, phase_three, released, releases, phase_four}
use Rattle.tdl_mode.specs.Instants.{alone}

-- ---- lists of offsets

-- d is among these numbers
abbrev among : ℕ → List ℕ → Bool
among d os = list_any (λ o. o == d) os

-- what is not among two lists is not among either
among-parts : (d : ℕ) (xs ys : List ℕ) → among d (xs ++ ys) ≡ false → (among d xs ≡ false) × (among d ys ≡ false)
among-parts d xs ys h = or_parts (among d xs) (among d ys) (sym (list_any-append (λ o. o == d) xs ys) ∙ h)

-- no item of the list has the offset d
not_at : {A : Type 0} (f : A → ℕ) (d : ℕ) (xs : List A) (n : ℕ) (a : A) →
    among d (map f xs) ≡ false → slice_get xs n ≡ Some a → (f a == d) ≡ false
not_at f d [] n a h at = absurd (cc at)
not_at f d (x ∷ xs) zero a h at =
    ap (λ b. f b == d) (sym (same_Some x a at)) ∙ (or_parts (f x == d) (among d (map f xs)) h).0
not_at f d (x ∷ xs) (suc n) a h at = not_at f d xs n a (or_parts (f x == d) (among d (map f xs)) h).1 at

-- a module r that is in `mode`, at x, which is no offset of it
module _ (x d : ℕ) (mode : Mode) (r : ModuleState) (is : slice_get r.definition.modes r.mode ≡ Some mode)
    (now : x ≡ r.base + d) (off : is_offset mode d ≡ false)
  where
    -- what stands at an offset stands at x where that offset is d
    at_now : (at : ℕ) → (r.base + at == x) ≡ (at == d)
    at_now at = ap (λ y. r.base + at == y) now ∙ moved r.base at d
      where
        moved : (base at d : ℕ) → (base + at == base + d) ≡ (at == d)
        moved base at d = grind (arith, nat_tests)

    -- the offsets of the starts of invocations
    abbrev start_offsets : List Invocation → List ℕ
    start_offsets is = map (λ i. i.s.0) is

    -- the offsets of their ends
    abbrev end_offsets : List Invocation → List ℕ
    end_offsets is = map (λ i. i.e.0) is

    -- the offsets of updates
    abbrev update_offsets : List Update → List ℕ
    update_offsets us = map (λ u. u.at.0) us

    -- the offsets of switches
    abbrev switch_offsets : List Switch → List ℕ
    switch_offsets ws = map (λ w. w.at.0) ws

    -- d is the offset of nothing in the mode
    record NothingAt : Type 0 where
      period : (mode.period.0 == d) ≡ false
      starts : among d (start_offsets mode.invocations) ≡ false
      ends : among d (end_offsets mode.invocations) ≡ false
      updates : among d (update_offsets mode.updates) ≡ false
      switches : among d (switch_offsets mode.switches) ≡ false

    -- so it is
    nothing_at : NothingAt
    nothing_at =
        let one : List ℕ = (0 ∷ mode.period.0 ∷ []) ++ start_offsets mode.invocations in
        let two : List ℕ = one ++ end_offsets mode.invocations in
        let three : List ℕ = two ++ update_offsets mode.updates in
        let in_four = among-parts d three (switch_offsets mode.switches) off in
        let in_three = among-parts d two (update_offsets mode.updates) in_four.0 in
        let in_two = among-parts d one (end_offsets mode.invocations) in_three.0 in
        let in_one = among-parts d (0 ∷ mode.period.0 ∷ []) (start_offsets mode.invocations) in_two.0 in
        let in_none = or_parts (0 == d) ((mode.period.0 == d) || false) in_one.0 in
        record {
          period = (or_parts (mode.period.0 == d) false in_none.1).0;
          starts = in_one.1;
          ends = in_two.1;
          updates = in_three.1;
          switches = in_four.1;
        }

    -- ---- phase 1

    -- no job ends
    pub not_ended : (u : TaskState) → has_ended r x u ≡ false
    not_ended u = by_active u.active
      where
        by_invocation : (n : ℕ) (o : Option Invocation) → invocation_of mode.invocations n ≡ o →
            (j : Job) → j.invocation ≡ n → job_ends r x j ≡ false
        by_invocation n None at j e =
            let none : invocation_of mode.invocations j.invocation ≡ None =
            ap (invocation_of mode.invocations) e ∙ at in
            rw (is, none) (and-false (j.mode == r.mode))
        by_invocation zero (Some i) at j e = absurd (cc at)
        by_invocation (suc n) (Some i) at j e =
            let there : invocation_of mode.invocations j.invocation ≡ Some i =
            ap (invocation_of mode.invocations) e ∙ at in
            let later : (r.base + i.e.0 == x) ≡ false =
            at_now i.e.0 ∙ not_at (λ (i : Invocation). i.e.0) d mode.invocations n i nothing_at.ends at in
            rw (is, there, later) (and-false (j.mode == r.mode))

        by_active : (o : Option Job) → unwrap_or (option_map (job_ends r x) o) false ≡ false
        by_active None = refl
        by_active (Some j) = by_invocation j.invocation (invocation_of mode.invocations j.invocation) refl j refl

    -- the terminations change nothing
    pub phase_one-idle : phase_one x r ≡ r
    phase_one-idle = λ i. record r { tasks = all r.tasks i }
      where
        all : (us : List TaskState) → map (task_after r x) us ≡ us
        all [] = refl
        all (u ∷ us) =
            ap₂ (λ b vs. (if b then unwrap_or (option_map (ended u) u.active) u else u) ∷ vs) (not_ended u) (all us)

    -- ---- phase 2

    -- no actuator is updated
    pub not_updated : (look : Look) (a : ℕ) → update_value r x look a ≡ None
    not_updated look a = ap (option_map (λ (u : Update). narrowed kind (value_of u.value look))) taken
      where
        kind : Kind
        kind = unwrap_or (option_map (λ p. p.kind) (slice_get r.definition.actuators a)) Long

        test : Update → Bool
        test u = u.actuator == a && (r.base + u.at.0 == x && holds u.guard look)

        taken_of : Bool → Update → List Update → Option Update
        taken_of b u us =
            if u.actuator == a && (b && holds u.guard look) then Some u else find test us

        none : (us : List Update) → among d (update_offsets us) ≡ false → find test us ≡ None
        none [] h = refl
        none (u ∷ us) h =
            let parts = or_parts (u.at.0 == d) (among d (update_offsets us)) h in
            ap (λ b. taken_of b u us) (at_now u.at.0 ∙ parts.0)
            ∙ ap (λ b. if b then Some u else find test us) (and-false (u.actuator == a))
            ∙ none us parts.1

        taken : taken_update r x look a ≡ None
        taken = rw is (none mode.updates nothing_at.updates)

    -- the updates change nothing
    phase_two-idle : (look : Look) → phase_two x look r ≡ r
    phase_two-idle look = λ i. record r { actuators = all 0 r.actuators i }
      where
        all : (n : ℕ) (vs : List ℤ) → numbered n (λ a v. unwrap_or (update_value r x look a) v) vs ≡ vs
        all n [] = refl
        all n (v ∷ vs) = ap₂ (λ (o : Option ℤ) ws. unwrap_or o v ∷ ws) (not_updated look n) (all (suc n) vs)

    -- ---- phases 3 and 4

    -- no switch is taken, and no cycle ends
    phase_three-idle : (look : Look) → phase_three x look r ≡ r
    phase_three-idle look = ap (switched x r) target ∙ ap (λ b. if b then record r { base = x } else r) over
      where
        test : Switch → Bool
        test w = r.base + w.at.0 == x && holds w.guard look

        none : (ws : List Switch) → among d (switch_offsets ws) ≡ false → find test ws ≡ None
        none [] h = refl
        none (w ∷ ws) h =
            let parts = or_parts (w.at.0 == d) (among d (switch_offsets ws)) h in
            ap (λ b. if b && holds w.guard look then Some w else find test ws) (at_now w.at.0 ∙ parts.0)
            ∙ none ws parts.1

        target : switch_target r x look ≡ None
        target = rw is (ap (option_map (λ (w : Switch). w.target.0)) (none mode.switches nothing_at.switches))

        over : is_over r x ≡ false
        over = rw is (at_now mode.period.0 ∙ nothing_at.period)

    -- nothing is released
    phase_four-idle : (look : Look) → phase_four x look r ≡ r
    phase_four-idle look = λ i. record r { tasks = whole i }
      where
        all : (n : ℕ) (is : List Invocation) (ts : List TaskState) → among d (start_offsets is) ≡ false →
            releases r x look n is ts ≡ ts
        all n [] ts h = refl
        all n (i ∷ is) ts h =
            let parts = or_parts (i.s.0 == d) (among d (start_offsets is)) h in
            ap (λ b. releases r x look (suc n) is
            (if b && holds i.guard look then changed_at i.task.0 (released r.mode n i look) ts else ts))
            (at_now i.s.0 ∙ parts.0) ∙ all (suc n) is ts parts.1

        whole : releases r x look 1 (invocations_now r) r.tasks ≡ r.tasks
        whole = rw is (all 1 mode.invocations r.tasks nothing_at.starts)

    -- the whole instant changes nothing
    pub alone_idle : (k : ℕ) (sensed : Sensed) (seen : PortKey → ℤ) → alone k x sensed seen r ≡ r
    unfolding alone
    alone_idle k sensed seen =
        let look : Look = look_of k (phase_one x r).tasks sensed seen in
        ap (λ s. phase_four x look (phase_three x look (phase_two x look s))) phase_one-idle
        ∙ ap (λ s. phase_four x look (phase_three x look s)) (phase_two-idle look)
        ∙ ap (λ s. phase_four x look s) (phase_three-idle look)
        ∙ phase_four-idle look
