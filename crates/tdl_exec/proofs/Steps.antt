-- What one instruction of a code does, and how many steps are left after it.
use Rattle.std.proofs.Common.{◌≡◌, ℕ, zero, suc, ◌+◌, ◌-◌, ◌*◌, ◌<◌, Bool, true, false, List, [], ◌∷◌, drop, refl, sym, ap, ◌∙◌, inl, inr, arith}
use Rattle.std.specs.Prelude.{if◌then◌else◌, ◌⊎◌}
use Rattle.std.proofs.Math.Path.{ap₂}
use Rattle.tdl_base.specs.Numbers.{is_true}
use Rattle.tdl_stack.specs.declared.instr.Instr.{Instr}
use Rattle.tdl_stack.specs.declared.instr.Instr.TheVariants.{Const, Load, Store, Un, Bin, Jz, Jmp, Rep}
use Rattle.tdl_base.specs.Cells.{repeated}
use Rattle.tdl_stack.specs.Running.{Outer, StackState, exec, top}
use Rattle.tdl_exec.specs.declared.step.Next.{Next}
use Rattle.tdl_exec.specs.declared.step.Next.TheVariants.{Skip, Repeat}
use Rattle.tdl_exec.specs.Stepping.{stepped, next_of}
use Rattle.tdl_exec.specs.Going.{steps}

-- what is done after an instruction, of which `code` is what follows
abbrev pub after : Outer → List Instr → ℕ → Next → StackState → StackState
after outer code left (Skip n) s = exec outer code left n s
after outer code left (Repeat n k) s = exec outer code left k (repeated n (exec outer code k 0) s)

-- how many steps that takes at most
abbrev pub after_steps : List Instr → ℕ → Next → ℕ
after_steps code left (Skip n) = steps code left n
after_steps code left (Repeat n k) = n * (steps code k 0 + 1) + steps code left k + 1

-- one instruction, and then what is next
exec-step : (outer : Outer) (i : Instr) (code : List Instr) (left : ℕ) (s : StackState) →
    exec outer (i ∷ code) (suc left) 0 s ≡ after outer code left (next_of i s) (stepped outer i s)
exec-step outer (Const v) code left s = refl
exec-step outer (Load place) code left s = refl
exec-step outer (Store k) code left s = refl
exec-step outer (Un op) code left s = refl
exec-step outer (Bin op) code left s = refl
exec-step outer (Jz n) code left s = refl
exec-step outer (Jmp n) code left s = refl
exec-step outer (Rep n k) code left s = refl

-- of two ways, the one that is gone
either-steps : (code : List Instr) (left n : ℕ) (b : Bool) →
    steps code left (if b then 0 else n) < steps code left 0 + steps code left n + 1
either-steps code left n true = omega arith
either-steps code left n false = omega arith

-- an instruction is a step
steps-step : (i : Instr) (code : List Instr) (left : ℕ) (s : StackState) →
    after_steps code left (next_of i s) < steps (i ∷ code) (suc left) 0
steps-step (Const v) code left s = omega arith
steps-step (Load place) code left s = omega arith
steps-step (Store k) code left s = omega arith
steps-step (Un op) code left s = omega arith
steps-step (Bin op) code left s = omega arith
steps-step (Jz n) code left s = either-steps code left n (is_true (top s))
steps-step (Jmp n) code left s = omega arith
steps-step (Rep n k) code left s = omega arith

-- no instructions do nothing
pub exec-at_end : (outer : Outer) (code : List Instr) (left : ℕ) (s : StackState) → (left ≡ 0) ⊎ (code ≡ []) →
    exec outer code left 0 s ≡ s
exec-at_end outer code zero s h = refl
exec-at_end outer [] (suc left) s h = refl
exec-at_end outer (i ∷ code) (suc left) s (inl h) = absurd (omega (arith, h))
exec-at_end outer (i ∷ code) (suc left) s (inr h) = absurd (cc)

-- one turn first, or last
pub repeated-first : (n : ℕ) (f : StackState → StackState) (s : StackState) → repeated n f (f s) ≡ f (repeated n f s)
repeated-first zero f s = refl
repeated-first (suc n) f s = ap f (repeated-first n f s)

-- no instructions take no step
steps-nil : (left skip : ℕ) → steps [] left skip ≡ 0
steps-nil zero skip = refl
steps-nil (suc left) skip = refl

-- to skip instructions is to leave them out of the text
pub steps-skip : (code : List Instr) (left n : ℕ) → steps code left n ≡ steps (drop n code) (left - n) 0
steps-skip code left zero = let e : left - 0 ≡ left = omega arith in rw e refl
steps-skip code zero (suc n) = let e : 0 - suc n ≡ 0 = omega arith in rw e refl
steps-skip [] (suc left) (suc n) = sym (steps-nil (suc left - suc n) 0)
steps-skip (i ∷ code) (suc left) (suc n) = let e : suc left - suc n ≡ left - n =
    omega arith in rw e (steps-skip code left n)

-- the same instruction, with what is next known
pub exec-next : (outer : Outer) (i : Instr) (code others : List Instr) (left : ℕ) (next : Next) (s : StackState) →
    code ≡ i ∷ others → 0 < left → next ≡ next_of i s →
    after outer others (left - 1) next (stepped outer i s) ≡ exec outer code left 0 s
exec-next outer i code others left next s is_code some is_next =
    let e : suc (left - 1) ≡ left = omega arith in
    ap (λ (x : Next). after outer others (left - 1) x (stepped outer i s)) is_next
    ∙ sym (exec-step outer i others (left - 1) s)
    ∙ ap₂ (λ (c : List Instr) (n : ℕ). exec outer c n 0 s) (sym is_code) e

-- the same of the steps that are left
pub steps-next : (i : Instr) (code others : List Instr) (left : ℕ) (next : Next) (s : StackState) → code ≡ i ∷ others →
    0 < left → next ≡ next_of i s → after_steps others (left - 1) next < steps code left 0
steps-next i code others left next s is_code some is_next =
    let e : suc (left - 1) ≡ left = omega arith in
    omega (
      arith,
      ap (after_steps others (left - 1)) is_next,
      steps-step i others (left - 1) s,
      ap₂ (λ (c : List Instr) (n : ℕ). steps c n 0) is_code (sym e),
    )
