-- A run of a lawful code stays in step with the text.
use Rattle.std.proofs.Common.{◌≡◌, ℕ, zero, suc, ◌+◌, ◌-◌, ◌<◌, ◌≤◌, List, [], ◌∷◌, length, Some, None, refl, sym, ap, ◌∙◌, subst, arith, inl, inr, zero-add}
use Rattle.std.specs.Prelude.{slice_get, ◌⊎◌}
use Rattle.tdl_base.specs.Cells.{Cells}
use Rattle.tdl_stack.specs.declared.limits.TheConstants.{NESTED_BODIES, STACK_NUMBERS}
use Rattle.tdl_stack.specs.declared.instr.Instr.{Instr}
use Rattle.tdl_stack.specs.declared.instr.Instr.TheVariants.{Rep}
use Rattle.tdl_stack.specs.Lawful.{takes, height_after, height_at, span, Spans}
use Rattle.tdl_stack.specs.Running.{StackState}
use Rattle.tdl_stack.proofs.Places.{fold-next}
use Rattle.tdl_exec.specs.declared.repetitions.Repetition.{Repetition}
use Rattle.tdl_exec.specs.declared.step.Next.TheVariants.{Skip}
use Rattle.tdl_exec.specs.Stepping.{next_of}
use Rattle.tdl_exec.specs.Going.{IsChecked, Going, begun, StandsAt, IsInside, AllStand, IsGoing}
use Rattle.tdl_exec.proofs.Standing.{next-span, ends_within, spans_within, depth-here}
use Rattle.tdl_exec.proofs.Nearer.{skipped, begun_at, repetition_at, turned_over, turned}

-- after an instruction as many numbers are on the stack as the text says, and what is skipped is there
pub going_by_skip : (g : Going) (i : Instr) (n : ℕ) (s : StackState) → IsGoing g → slice_get g.code g.place ≡ Some i →
    0 < g.left → Skip n ≡ next_of i g.state → length s.stack ≡ height_after (length g.state.stack) i →
    n < g.left × IsGoing (skipped g n s)
going_by_skip g i n s going at some next height = by_span (next-span i g.state n (sym next))
  where
    after : length s.stack ≡ height_at g.code (suc g.place)
    after = height ∙ ap (λ h. height_after h i) going.height ∙ sym (fold-next height_after 0 g.code g.place i at)

    goes : n < g.left → length s.stack ≡ height_at g.code (g.place + (1 + n)) → n < g.left × IsGoing (skipped g n s)
    goes l e = (
      l,
      record {
        checked = going.checked;
        height = e;
        stand = let f : g.place + g.left ≡ (g.place + (1 + n)) + (g.left - (1 + n)) = omega (arith, l) in
            subst (AllStand g.code g.under_way) f going.stand;
        inside = later g.under_way going.inside;
      },
    )
      where
        later : (rs : List Repetition) → IsInside rs g.place → IsInside rs (g.place + (1 + n))
        later [] h = tt
        later (r ∷ rs) h = omega (arith, h)

    by_span : (n ≡ 0) ⊎ (span i ≡ Some n) → n < g.left × IsGoing (skipped g n s)
    by_span (inl e) =
        let f : suc g.place ≡ g.place + (1 + n) = omega (arith, e) in
        goes (omega (arith, e, some)) (after ∙ ap (height_at g.code) f)
    by_span (inr is) =
        let spans : Spans g.code g.place n = (i, at, is) in
        let rules = going.checked.1 in
        let l = spans_within g.code g.under_way g.place g.left n going.checked going.stand going.inside some spans in
        let e : suc g.place ≡ g.place + 1 = omega arith in
        let f : g.place + (1 + n) ≡ g.place + n + 1 = omega arith in
        goes (omega (arith, l))
        (after ∙ ap (height_at g.code) e ∙ rules.empty_before g.place n spans ∙ sym (rules.empty_after g.place n spans)
        ∙ ap (height_at g.code) (sym f))

-- at a `rep` there is room for one repetition more, and its body is there
pub going_by_rep : (g : Going) (times k : ℕ) → IsGoing g → slice_get g.code g.place ≡ Some (Rep times k) → 0 < g.left →
    length g.under_way < NESTED_BODIES × (k < g.left
    × IsGoing (begun_at g k (repetition_at g times k ∷ g.under_way) g.state))
going_by_rep g times k going at some =
    let spans : Spans g.code g.place k = (Rep times k, at, refl) in
    let rules = going.checked.1 in
    let l = spans_within g.code g.under_way g.place g.left k going.checked going.stand going.inside some spans in
    let d = depth-here g.code g.under_way g.place g.left going.checked going.stand going.inside some in
    let m = rules.depth g.place times k at in
    let e : g.place + (1 + k) ≡ g.place + k + 1 = omega arith in
    let first : suc g.place ≡ g.place + 1 = omega arith in
    let empty : height_at g.code g.place ≡ 0 =
    omega (
      arith,
      fold-next height_after 0 g.code g.place (Rep times k) at,
      ap (height_at g.code) first,
      rules.empty_before g.place k spans,
    ) in (
      omega (arith, d, m),
      (
        omega (arith, l),
        record {
          checked = going.checked;
          height = going.height ∙ empty ∙ sym (rules.empty_after g.place k spans) ∙ ap (height_at g.code) (sym e);
          stand = (
            record {
              rep = g.place;
              times = times;
              is = at;
              begin = omega arith;
              body_end = omega arith;
              within = omega (arith, l);
              depth = d;
            },
            later g.under_way going.inside,
            let f : g.place + g.left ≡ (g.place + 1) + (g.left - 1) = omega (arith, some) in
                subst (AllStand g.code g.under_way) f going.stand,
          );
          inside = omega arith;
        },
      ),
    )
  where
    later : (rs : List Repetition) → IsInside rs g.place → IsInside rs (g.place + 1)
    later [] h = tt
    later (r ∷ rs) h = omega (arith, h)

-- where the innermost body ends, the stack is empty
at_body_end : (g : Going) (r : Repetition) (rs : List Repetition) → IsGoing g → g.left ≡ 0 → g.under_way ≡ r ∷ rs →
    (s : StandsAt g.code r (length rs) (g.place + g.left)) →
    (g.place ≡ r.begin + r.count) × (length g.state.stack ≡ 0)
at_body_end g r rs going at_end was s =
    let place : g.place ≡ r.begin + r.count = omega (arith, s.body_end, at_end) in
    let e : g.place ≡ s.rep + r.count + 1 = omega (arith, place, s.begin) in (
      place,
      going.height ∙ ap (height_at g.code) e
          ∙ going.checked.1.empty_after s.rep r.count (Rep s.times r.count, s.is, refl),
    )

-- after its last turn a repetition leaves what the text says
pub going_by_end : (g : Going) (r : Repetition) (rs : List Repetition) → IsGoing g → g.left ≡ 0 → g.under_way ≡ r ∷ rs →
    IsGoing (turned_over g r rs)
going_by_end g r rs going at_end was =
    let st : AllStand g.code (r ∷ rs) (g.place + g.left) =
    subst (λ us. AllStand g.code us (g.place + g.left)) was going.stand in
    let e = at_body_end g r rs going at_end was st.0 in
    record {
      checked = going.checked;
      height = going.height ∙ ap (height_at g.code) e.0;
      stand = let f : r.begin + r.left ≡ (r.begin + r.count) + (r.left - r.count) = omega (arith, st.0.within) in
          subst (AllStand g.code rs) f st.2;
      inside = later rs st.1;
    }
  where
    later : (us : List Repetition) → IsInside us r.begin → IsInside us (r.begin + r.count)
    later [] h = tt
    later (u ∷ us) h = omega (arith, h)

-- before a turn of a repetition the stack is empty
pub going_by_turn : (g : Going) (r : Repetition) (rs us : List Repetition) → IsGoing g → g.left ≡ 0 →
    g.under_way ≡ r ∷ rs → us ≡ record r { times = r.times - 1 } ∷ rs → IsGoing (turned g r us)
going_by_turn g r rs us going at_end was is =
    subst (λ us. IsGoing (turned g r us)) (sym is) (
    let st : AllStand g.code (r ∷ rs) (g.place + g.left) =
    subst (λ us. AllStand g.code us (g.place + g.left)) was going.stand in
    let s = st.0 in
    let e = at_body_end g r rs going at_end was s in
    let first : r.begin ≡ s.rep + 1 = omega (arith, s.begin) in
    record {
      checked = going.checked;
      height = e.1 ∙ sym (ap (height_at g.code) first
          ∙ going.checked.1.empty_before s.rep r.count (Rep s.times r.count, s.is, refl));
      stand = (
        record {
          rep = s.rep;
          times = s.times;
          is = s.is;
          begin = s.begin;
          body_end = refl;
          within = s.within;
          depth = s.depth;
        },
        st.1,
        st.2,
      );
      inside = omega arith;
    })

-- what is run ends within the code
pub going_at : (g : Going) → IsGoing g → g.place + g.left ≤ length g.code
going_at g going = ends_within g.code g.under_way (g.place + g.left) going.checked going.stand

-- so there is an instruction
pub going_some : (g : Going) → IsGoing g → 0 < g.left → slice_get g.code g.place ≡ None → ⊥
going_some g going some none = past g.code g.place (omega (arith, going_at g going, some)) none
  where
    past : (xs : List Instr) (p : ℕ) → p < length xs → slice_get xs p ≡ None → ⊥
    past [] p l e = omega (arith, l)
    past (x ∷ xs) zero l e = cc e
    past (x ∷ xs) (suc p) l e = past xs p (omega (arith, l)) e

-- a whole code that begins
pub begun_goes : (code : List Instr) (cells : Cells) → IsChecked code → IsGoing (begun code cells)
begun_goes code cells checked =
    record { checked = checked; height = refl; stand = zero-add (length code); inside = tt }

-- an instruction may be done
pub going_may : (g : Going) (i : Instr) → IsGoing g → slice_get g.code g.place ≡ Some i → takes i ≤ length g.state.stack
going_may g i going at = let l = going.checked.1.supplied g.place i at in omega (arith, l, going.height)

-- the cells do not count
pub going_on_any : (g : Going) (s : StackState) → length s.stack ≡ length g.state.stack → IsGoing g →
    IsGoing (record g { state = s })
going_on_any g s e going = record {
  checked = going.checked;
  height = e ∙ going.height;
  stand = going.stand;
  inside = going.inside;
}

-- a run at a `rep` goes on
pub going_at_rep : (g : Going) (times k : ℕ) (us : List Repetition) (s : StackState) → IsGoing g →
    slice_get g.code g.place ≡ Some (Rep times k) → 0 < g.left → us ≡ repetition_at g times k ∷ g.under_way →
    s ≡ g.state → IsGoing (begun_at g k us s)
going_at_rep g times k us s going at some is is_state =
    subst (λ us. IsGoing (begun_at g k us s)) (sym is)
    (subst (λ s. IsGoing (begun_at g k (repetition_at g times k ∷ g.under_way) s)) (sym is_state)
    (going_by_rep g times k going at some).1.1)

-- and has room for what it puts on the stack
pub going_room : (g : Going) (i : Instr) → IsGoing g → slice_get g.code g.place ≡ Some i →
    height_after (length g.state.stack) i ≤ STACK_NUMBERS
going_room g i going at =
    let l = going.checked.1.room (suc g.place) in
    omega (
      arith,
      l,
      ap (λ h. height_after h i) going.height,
      fold-next height_after 0 g.code g.place i at,
    )
