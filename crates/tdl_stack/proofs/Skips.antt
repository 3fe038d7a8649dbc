-- To skip instructions is to leave them out of the text.
use Rattle.std.proofs.Common.{◌≡◌, ℕ, zero, suc, ◌-◌, List, [], ◌∷◌, drop, refl, sym, arith}
use Rattle.tdl_stack.specs.declared.instr.Instr.{Instr}
use Rattle.tdl_stack.specs.Running.{Outer, StackState, exec}

-- no instructions do nothing
exec-nil : (outer : Outer) (left skip : ℕ) (s : StackState) → exec outer [] left skip s ≡ s
exec-nil outer zero skip s = refl
exec-nil outer (suc left) skip s = refl

pub exec-skip : (outer : Outer) (code : List Instr) (left n : ℕ) (s : StackState) →
    exec outer code left n s ≡ exec outer (drop n code) (left - n) 0 s
exec-skip outer code left zero s = let e : left - 0 ≡ left = omega arith in rw e refl
exec-skip outer code zero (suc n) s = let e : 0 - suc n ≡ 0 = omega arith in rw e refl
exec-skip outer [] (suc left) (suc n) s = sym (exec-nil outer (suc left - suc n) 0 s)
exec-skip outer (i ∷ code) (suc left) (suc n) s = let e : suc left - suc n ≡ left - n =
    omega arith in rw e (exec-skip outer code left n s)
