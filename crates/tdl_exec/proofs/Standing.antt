-- Where a run of a lawful code stands: within its bodies, and with as many numbers as the text says.
use Rattle.std.proofs.Common.{◌≡◌, ℕ, zero, suc, ◌+◌, ◌<◌, ◌≤◌, Bool, true, false, nat_lt, List, [], ◌∷◌, length, Some, refl, sym, ap, arith, inl, inr, lt-ltb, ltb-true}
use Rattle.std.specs.Prelude.{if◌then◌else◌, ◌⊎◌}
use Rattle.std.proofs.lemmas.Option.{same_Some}
use Rattle.tdl_base.specs.Numbers.{is_true}
use Rattle.tdl_stack.specs.declared.instr.Instr.{Instr}
use Rattle.tdl_stack.specs.declared.instr.Instr.TheVariants.{Const, Load, Store, Un, Bin, Jz, Jmp, Rep}
use Rattle.tdl_stack.specs.Lawful.{span, Spans, Repeats, IsInBody, body_length, bodies_at}
use Rattle.tdl_stack.specs.Running.{StackState, top}
use Rattle.tdl_exec.specs.declared.repetitions.Repetition.{Repetition}
use Rattle.tdl_exec.specs.declared.step.Next.TheVariants.{Skip, Repeat}
use Rattle.tdl_exec.specs.Stepping.{next_of}
use Rattle.tdl_exec.specs.Going.{IsChecked, IsInside, AllStand}

-- what is next after an instruction is what it spans, or the next instruction
pub next-span : (i : Instr) (s : StackState) (n : ℕ) → next_of i s ≡ Skip n → (n ≡ 0) ⊎ (span i ≡ Some n)
next-span (Const v) s n e = inl (cc)
next-span (Load place) s n e = inl (cc)
next-span (Store k) s n e = inl (cc)
next-span (Un op) s n e = inl (cc)
next-span (Bin op) s n e = inl (cc)
next-span (Jz m) s n e = by_test (is_true (top s)) e
  where
    by_test : (t : Bool) → Skip (if t then 0 else m) ≡ Skip n → (n ≡ 0) ⊎ (Some m ≡ Some n)
    by_test true f = inl (cc)
    by_test false f = inr (cc)
next-span (Jmp m) s n e = inr (cc)
next-span (Rep times k) s n e = absurd (cc)

-- only a `rep` is told as a repetition
pub next-rep : (i : Instr) (s : StackState) (times k : ℕ) → next_of i s ≡ Repeat times k → i ≡ Rep times k
next-rep (Const v) s times k e = absurd (cc)
next-rep (Load place) s times k e = absurd (cc)
next-rep (Store c) s times k e = absurd (cc)
next-rep (Un op) s times k e = absurd (cc)
next-rep (Bin op) s times k e = absurd (cc)
next-rep (Jz m) s times k e = absurd (cc)
next-rep (Jmp m) s times k e = absurd (cc)
next-rep (Rep t m) s times k e = (cc)

-- bodies end within the code
pub ends_within : (code : List Instr) (rs : List Repetition) (end : ℕ) → IsChecked code → AllStand code rs end →
    end ≤ length code
ends_within code [] end checked e = omega (arith, e)
ends_within code (r ∷ rs) end checked s =
    let at = s.0 in
    let l = checked.1.within at.rep r.count (Rep at.times r.count, at.is, refl) in
    omega (arith, l, at.body_end, at.begin)

-- what an instruction spans ends within the innermost body
pub spans_within : (code : List Instr) (rs : List Repetition) (place left n : ℕ) → IsChecked code →
    AllStand code rs (place + left) → IsInside rs place → 0 < left → Spans code place n → place + n < place + left
spans_within code [] place left n checked e inside some s =
    let l = checked.1.within place n s in omega (arith, l, e)
spans_within code (r ∷ rs) place left n checked st inside some s =
    let at = st.0 in
    let body : IsInBody at.rep r.count place =
    (omega (arith, inside, at.begin), omega (arith, some, at.body_end, at.begin)) in
    let l = checked.1.nested place n at.rep at.times r.count s at.is body in
    omega (arith, l, at.body_end, at.begin)

-- one where the test holds
abbrev one_if : Bool → ℕ
one_if t = if t then 1 else 0

-- a place in a body is in one body more than its `rep`
in_one_more : (code : List Instr) (q times k p : ℕ) →
    ((q n r times k : ℕ) → Spans code q n → Repeats code r times k → IsInBody r k q → q + n ≤ r + k) →
    Repeats code q times k → IsInBody q k p → bodies_at code q < bodies_at code p
in_one_more [] q times k p nests at body = absurd (cc at)
in_one_more (i ∷ code) zero times k zero nests at body = absurd (omega (arith, body.0))
in_one_more (i ∷ code) zero times k (suc p) nests at body =
    let is : k ≡ body_length i = ap body_length (sym (same_Some i (Rep times k) at)) in
    let l : p < body_length i = omega (arith, body.1, is) in
    let e : one_if (nat_lt p (body_length i)) ≡ 1 =
    ap one_if (lt-ltb p (body_length i) l) in
    omega (arith, e)
in_one_more (i ∷ code) (suc q) times k zero nests at body = absurd (omega (arith, body.0))
in_one_more (i ∷ code) (suc q) times k (suc p) nests at body =
    let later : q < p = omega (arith, body.0) in
    let within : p ≤ q + k = omega (arith, body.1) in
    let rest : bodies_at code q < bodies_at code p =
    in_one_more code q times k p
    (λ a n r t m s rep b. let l = nests (suc a) n (suc r) t m s rep (omega (arith, b.0), omega (arith, b.1)) in
    omega (arith, l)) at (later, within) in
    by_item i rest refl (nat_lt q (body_length i)) refl
  where
    by_item : (x : Instr) → bodies_at code q < bodies_at code p → i ≡ x → (t : Bool) → nat_lt q (body_length i) ≡ t →
        one_if (nat_lt q (body_length i)) + bodies_at code q < one_if (nat_lt p (body_length i)) + bodies_at code p
    by_item x rest e false f =
        let g : one_if (nat_lt q (body_length i)) ≡ 0 = ap one_if f in
        omega (arith, rest, g)
    by_item (Rep t m) rest e true f =
        let is : body_length i ≡ m = ap body_length e in
        let l : q < body_length i = ltb-true q (body_length i) f in
        let n : suc q + k ≤ 0 + m =
        nests (suc q) k 0 t m (Rep times k, at, refl) (ap Some e) (omega arith, omega (arith, l, is)) in
        let g : one_if (nat_lt q (body_length i)) ≡ 1 = ap one_if f in
        let h : one_if (nat_lt p (body_length i)) ≡ 1 =
        ap one_if (lt-ltb p (body_length i) (omega (arith, body.1, n, is))) in
        omega (arith, rest, g, h)
    by_item (Const v) rest e true f = absurd (omega (arith, ltb-true q (body_length i) f, ap body_length e))
    by_item (Load place) rest e true f = absurd (omega (arith, ltb-true q (body_length i) f, ap body_length e))
    by_item (Store c) rest e true f = absurd (omega (arith, ltb-true q (body_length i) f, ap body_length e))
    by_item (Un op) rest e true f = absurd (omega (arith, ltb-true q (body_length i) f, ap body_length e))
    by_item (Bin op) rest e true f = absurd (omega (arith, ltb-true q (body_length i) f, ap body_length e))
    by_item (Jz m) rest e true f = absurd (omega (arith, ltb-true q (body_length i) f, ap body_length e))
    by_item (Jmp m) rest e true f = absurd (omega (arith, ltb-true q (body_length i) f, ap body_length e))

-- no more repetitions are under way than bodies stand around the place
pub depth-here : (code : List Instr) (rs : List Repetition) (place left : ℕ) → IsChecked code →
    AllStand code rs (place + left) → IsInside rs place → 0 < left → length rs ≤ bodies_at code place
depth-here code [] place left checked e inside some = omega arith
depth-here code (r ∷ rs) place left checked st inside some =
    let at = st.0 in
    let body : IsInBody at.rep r.count place =
    (omega (arith, inside, at.begin), omega (arith, some, at.body_end, at.begin)) in
    let l = in_one_more code at.rep at.times r.count place checked.1.nested at.is body in
    omega (arith, l, at.depth)
