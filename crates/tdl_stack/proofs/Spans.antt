-- What an instruction spans, by place.
use Rattle.std.proofs.Common.{◌≡◌, ℕ, zero, suc, ◌-◌, ◌≤◌, Bool, true, false, ◌&&◌, ◌||◌, nat_le, nat_eq, List, [], ◌∷◌, length, take, fold, Some, refl, ap, ◌∙◌, subst, arith}
use Rattle.std.specs.Prelude.{slice_get}
use Rattle.std.proofs.lemmas.Option.{same_Some}
use Rattle.tdl_stack.specs.declared.instr.Instr.{Instr}
use Rattle.tdl_stack.specs.declared.instr.Instr.TheVariants.{Const, Load, Store, Un, Bin, Jz, Jmp, Rep}
use Rattle.tdl_stack.specs.Lawful.{height_after, span}
use Rattle.tdl_stack.specs.Judging.{ends, clean, closes, spans_well}
use Rattle.std.proofs.Common.{leb-true, eqb-true}

-- whether an instruction is a `rep`
abbrev pub is_rep : Instr → Bool
is_rep (Rep times n) = true
is_rep i = false

-- what one of the next instructions spans ends before `left` more, where it or what spans it is a `rep`
abbrev pub Ends : (in_body : Bool) (left : ℕ) → Instr → Type 0
Ends in_body left i = (k : ℕ) → span i ≡ Some k → (in_body || is_rep i) ≡ true → k ≤ left

-- both, where one test after the other is passed
pub both : (a b : Bool) → (a && b) ≡ true → (a ≡ true) × (b ≡ true)
both true b e = (refl, e)
both false b e = absurd (cc e)

-- where both tests are passed, both together are
pub of_both : (a b : Bool) → a ≡ true → b ≡ true → (a && b) ≡ true
of_both a b e f = ap (λ t. t && b) e ∙ f

-- the test says it
pub ends-true : (in_body : Bool) (left : ℕ) (i : Instr) → ends in_body left i ≡ true → Ends in_body left i
ends-true b left (Const v) e k is t = absurd (cc is)
ends-true b left (Load place) e k is t = absurd (cc is)
ends-true b left (Store c) e k is t = absurd (cc is)
ends-true b left (Un op) e k is t = absurd (cc is)
ends-true b left (Bin op) e k is t = absurd (cc is)
ends-true true left (Jz n) e k is t = omega (arith, same_Some n k is, leb-true n left e)
ends-true false left (Jz n) e k is t = absurd (cc t)
ends-true true left (Jmp n) e k is t = omega (arith, same_Some n k is, leb-true n left e)
ends-true false left (Jmp n) e k is t = absurd (cc t)
ends-true b left (Rep times n) e k is t = omega (arith, same_Some n k is, leb-true n left e)

-- what is spanned is clean: each instruction ends within it, and the stack is empty after it
pub record IsClean (in_body : Bool) (height : ℕ) (code : List Instr) : Type 0 where
  pub within : (j : ℕ) (i : Instr) → slice_get code j ≡ Some i → Ends in_body (length code - suc j) i
  pub level : fold height_after height code ≡ 0

-- what passes the test is clean
pub clean-true : (b : Bool) (h : ℕ) (code : List Instr) → clean b h code ≡ true → IsClean b h code
clean-true b h [] e = record { within = λ j i at. absurd (cc at); level = eqb-true h 0 e }
clean-true b h (x ∷ code) e =
    let p = both (ends b (length code) x) _ e in
    let rest : IsClean b (height_after h x) code = clean-true b (height_after h x) code p.1 in
    record { within = each p.0 rest.within; level = rest.level }
  where
    each : ends b (length code) x ≡ true →
        ((j : ℕ) (i : Instr) → slice_get code j ≡ Some i → Ends b (length code - suc j) i) →
        (j : ℕ) (i : Instr) → slice_get (x ∷ code) j ≡ Some i → Ends b (length (x ∷ code) - suc j) i
    each first more zero i at k is t =
        let l : k ≤ length code = ends-true b (length code) x first k (ap span (same_Some x i at) ∙ is)
        (ap (λ y. b || is_rep y) (same_Some x i at) ∙ t) in omega arith
    each first more (suc j) i at k is t = let l : k ≤ length code - suc j = more j i at k is t in omega arith

-- the next n instructions are there, can be spanned, and begin with an empty stack
pub record Closes (in_body : Bool) (n height : ℕ) (code : List Instr) : Type 0 where
  pub empty : height ≡ 0
  pub within : n ≤ length code
  pub clean : IsClean in_body 0 (take n code)

-- what passes the test closes
pub closes-true : (b : Bool) (n h : ℕ) (code : List Instr) → closes b n h code ≡ true → Closes b n h code
closes-true b n h code e =
    let p = both (nat_eq h 0) _ e in
    let q = both (nat_le n (length code)) _ p.1 in
    record { empty = eqb-true h 0 p.0; within = leb-true n (length code) q.0; clean = clean-true b 0 (take n code) q.1 }

-- what an instruction spans
pub spans_well-true : (i : Instr) (n h : ℕ) (code : List Instr) → spans_well i h code ≡ true → span i ≡ Some n →
    Closes (is_rep i) n h code
spans_well-true (Const v) n h code e is = absurd (cc is)
spans_well-true (Load place) n h code e is = absurd (cc is)
spans_well-true (Store c) n h code e is = absurd (cc is)
spans_well-true (Un op) n h code e is = absurd (cc is)
spans_well-true (Bin op) n h code e is = absurd (cc is)
spans_well-true (Jz k) n h code e is =
    closes-true false n h code (subst (λ m. closes false m h code ≡ true) (same_Some k n is) e)
spans_well-true (Jmp k) n h code e is =
    closes-true false n h code (subst (λ m. closes false m h code ≡ true) (same_Some k n is) e)
spans_well-true (Rep times k) n h code e is =
    closes-true true n h code (subst (λ m. closes true m h code ≡ true) (same_Some k n is) e)
