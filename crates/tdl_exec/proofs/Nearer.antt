-- Each step of a run comes nearer to its end.
use Rattle.std.proofs.Common.{◌≡◌, ℕ, zero, suc, ◌+◌, ◌-◌, ◌*◌, ◌<◌, List, [], ◌∷◌, drop, Some, refl, sym, ap, ◌∙◌, subst, arith, inl, suc-mul}
use Rattle.std.specs.Prelude.{slice_get}
use Rattle.std.proofs.Math.Path.{ap₂}
use Rattle.tdl_base.specs.Cells.{repeated}
use Rattle.tdl_stack.specs.declared.instr.Instr.{Instr}
use Rattle.tdl_stack.specs.declared.instr.Instr.TheVariants.{Rep}
use Rattle.tdl_stack.specs.Running.{Outer, StackState, exec}
use Rattle.tdl_stack.proofs.Skips.{exec-skip}
use Rattle.tdl_stack.proofs.Places.{drop-at}
use Rattle.tdl_exec.specs.declared.repetitions.Repetition.{Repetition}
use Rattle.tdl_exec.specs.declared.step.Next.TheVariants.{Skip, Repeat}
use Rattle.tdl_exec.specs.Stepping.{stepped, next_of}
use Rattle.tdl_exec.specs.Going.{Going, IsNearer, steps, repetition_end, repetitions_end, repetitions_steps}
use Rattle.tdl_exec.proofs.Steps.{exec-next, steps-next, exec-at_end, repeated-first, steps-skip}

-- what is left after instructions that are left out
drop-more : (code : List Instr) (p n : ℕ) → drop n (drop p code) ≡ drop (p + n) code
drop-more code zero n = let e : 0 + n ≡ n = omega arith in rw e refl
drop-more [] (suc p) n = let e : suc p + n ≡ suc (p + n) = omega arith in rw e (nothing n)
  where
    nothing : (n : ℕ) → drop {A = Instr} n [] ≡ []
    nothing zero = refl
    nothing (suc n) = refl
drop-more (i ∷ code) (suc p) n = let e : suc p + n ≡ suc (p + n) = omega arith in rw e (drop-more code p n)

-- a run after an instruction, with some after it skipped
abbrev pub skipped : Going → ℕ → StackState → Going
skipped g n s = record g { place = g.place + (1 + n); left = g.left - (1 + n); state = s }

-- an instruction, with some after it skipped
pub nearer_by_skip : (outer : Outer) (g : Going) (i : Instr) (n : ℕ) → slice_get g.code g.place ≡ Some i → 0 < g.left →
    Skip n ≡ next_of i g.state → IsNearer outer g (skipped g n (stepped outer i g.state))
nearer_by_skip outer g i n at some is_next =
    let others : List Instr = drop (suc g.place) g.code in
    let is_code : drop g.place g.code ≡ i ∷ others = drop-at g.code g.place i at in
    let e : suc g.place + n ≡ g.place + (1 + n) = omega arith in
    let rest : drop (g.place + (1 + n)) g.code ≡ drop n others =
    ap (λ p. drop p g.code) (sym e) ∙ sym (drop-more g.code (suc g.place) n) in
    let left : g.left - (1 + n) ≡ g.left - 1 - n = omega arith in
    record {
      same = ap (repetitions_end outer g.code g.under_way)
          (ap₂ (λ (c : List Instr) (m : ℕ). exec outer c m 0 (stepped outer i g.state)) rest left
          ∙ sym (exec-skip outer others (g.left - 1) n (stepped outer i g.state))
          ∙ exec-next outer i (drop g.place g.code) others g.left (Skip n) g.state is_code some is_next);
      fewer = omega (
        arith,
        ap₂ (λ (c : List Instr) (m : ℕ). steps c m 0) rest left,
        steps-skip others (g.left - 1) n,
        steps-next i (drop g.place g.code) others g.left (Skip n) g.state is_code some is_next,
      );
    }

-- a run at a `rep`
abbrev pub begun_at : Going → ℕ → List Repetition → StackState → Going
begun_at g k us s = record g { place = g.place + (1 + k); left = 0; under_way = us; state = s }

-- the repetition that begins there
abbrev pub repetition_at : Going → ℕ → ℕ → Repetition
repetition_at g times k = record { begin = g.place + 1; left = g.left - 1; count = k; times = times }

-- a `rep`
pub nearer_by_rep : (outer : Outer) (g : Going) (times k : ℕ) (us : List Repetition) (s : StackState) →
    slice_get g.code g.place ≡ Some (Rep times k) → 0 < g.left → us ≡ repetition_at g times k ∷ g.under_way →
    s ≡ g.state → IsNearer outer g (begun_at g k us s)
nearer_by_rep outer g times k us s at some is is_state =
    subst (λ us. IsNearer outer g (begun_at g k us s)) (sym is)
    (subst (λ s. IsNearer outer g (begun_at g k (repetition_at g times k ∷ g.under_way) s)) (sym is_state) (
    let others : List Instr = drop (suc g.place) g.code in
    let is_code : drop g.place g.code ≡ Rep times k ∷ others = drop-at g.code g.place (Rep times k) at in
    let e : g.place + 1 ≡ suc g.place = omega arith in
    let rest : drop (g.place + 1) g.code ≡ others = ap (λ p. drop p g.code) e in
    record {
      same = ap (repetitions_end outer g.code g.under_way)
          (ap (λ (c : List Instr). exec outer c (g.left - 1) k (repeated times (exec outer c k 0) g.state)) rest
          ∙ exec-next outer (Rep times k) (drop g.place g.code) others g.left (Repeat times k) g.state is_code some
          refl);
      fewer = omega (
        arith,
        ap (λ (c : List Instr). times * (steps c k 0 + 1) + steps c (g.left - 1) k + 1) rest,
        steps-next (Rep times k) (drop g.place g.code) others g.left (Repeat times k) g.state is_code some refl,
      );
    }))

-- a run after a repetition that has had its turns
abbrev pub turned_over : Going → Repetition → List Repetition → Going
turned_over g r rs = record g { place = r.begin + r.count; left = r.left - r.count; under_way = rs }

-- a repetition that has had its turns
pub nearer_by_end : (outer : Outer) (g : Going) (r : Repetition) (rs : List Repetition) → g.left ≡ 0 →
    g.under_way ≡ r ∷ rs → r.times ≡ 0 → IsNearer outer g (turned_over g r rs)
nearer_by_end outer g r rs at_end was no_more =
    let stays : exec outer (drop g.place g.code) g.left 0 g.state ≡ g.state =
    exec-at_end outer (drop g.place g.code) g.left g.state (inl at_end) in
    let c : List Instr = drop r.begin g.code in
    let here : exec outer (drop (r.begin + r.count) g.code) (r.left - r.count) 0 g.state
    ≡ repetition_end outer g.code r g.state =
    ap (λ (d : List Instr). exec outer d (r.left - r.count) 0 g.state) (sym (drop-more g.code r.begin r.count))
    ∙ sym (exec-skip outer c r.left r.count g.state)
    ∙ ap (λ (n : ℕ). exec outer c r.left r.count (repeated n (exec outer c r.count 0) g.state)) (sym no_more) in
    record {
      same = ap (repetitions_end outer g.code rs) (here ∙ ap (repetition_end outer g.code r) (sym stays))
          ∙ ap
          (λ (us : List Repetition). repetitions_end outer g.code us (exec outer (drop g.place g.code) g.left 0 g.state))
          (sym was);
      fewer = omega (
        arith,
        ap (λ (d : List Instr). steps d (r.left - r.count) 0) (drop-more g.code r.begin r.count),
        steps-skip c r.left r.count,
        ap (repetitions_steps g.code) was,
      );
    }

-- the steps of one turn and of those after it
turn-steps : (n b : ℕ) → 0 < n → b + (n - 1) * (b + 1) < n * (b + 1)
turn-steps zero b some = absurd (omega arith)
turn-steps (suc n) b some = let e : suc n - 1 ≡ n = omega arith in rw e (omega (arith, suc-mul n (b + 1)))

-- one turn, and then those after it
turn-first : (n : ℕ) (f : StackState → StackState) (s : StackState) → 0 < n → repeated (n - 1) f (f s) ≡ repeated n f s
turn-first zero f s some = absurd (omega arith)
turn-first (suc n) f s some = let e : suc n - 1 ≡ n = omega arith in rw e (repeated-first n f s)

-- a run at the next turn of a repetition
abbrev pub turned : Going → Repetition → List Repetition → Going
turned g r us = record g { place = r.begin; left = r.count; under_way = us }

-- a turn of a repetition
pub nearer_by_turn : (outer : Outer) (g : Going) (r : Repetition) (rs us : List Repetition) → g.left ≡ 0 →
    g.under_way ≡ r ∷ rs → 0 < r.times → us ≡ record r { times = r.times - 1 } ∷ rs → IsNearer outer g (turned g r us)
nearer_by_turn outer g r rs us at_end was some is =
    subst (λ us. IsNearer outer g (turned g r us)) (sym is) (
    let stays : exec outer (drop g.place g.code) g.left 0 g.state ≡ g.state =
    exec-at_end outer (drop g.place g.code) g.left g.state (inl at_end) in
    let c : List Instr = drop r.begin g.code in
    let turn : StackState → StackState = exec outer c r.count 0 in
    record {
      same = ap (λ s. repetitions_end outer g.code rs (exec outer c r.left r.count s))
          (turn-first r.times turn g.state some)
          ∙ ap (λ s. repetitions_end outer g.code rs (repetition_end outer g.code r s)) (sym stays)
          ∙ ap
          (λ (us : List Repetition). repetitions_end outer g.code us (exec outer (drop g.place g.code) g.left 0 g.state))
          (sym was);
      fewer = omega (
        arith,
        turn-steps r.times (steps c r.count 0) some,
        ap (repetitions_steps g.code) was,
      );
    })
