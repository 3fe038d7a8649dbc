-- What the instructions of a code cost one by one.
use Rattle.std.proofs.Common.{◌≡◌, ℕ, zero, suc, ◌+◌, ◌*◌, ◌≤◌, Bool, nat_lt, List, ◌∷◌, ap, ◌∙◌, arith, lt-ltb, mul-add, one-mul}
use Rattle.std.specs.Prelude.{if◌then◌else◌}
use Rattle.tdl_stack.specs.declared.instr.Instr.{Instr}
use Rattle.tdl_stack.specs.declared.instr.Instr.TheVariants.{Rep}
use Rattle.tdl_stack.specs.Lawful.{body_length, turns, turns_at, cost_before}
use Rattle.tdl_stack.proofs.CountSteps.{lt-zero}

-- an instruction without a body costs 1
pub cost-plain : (i : Instr) (code : List Instr) (p : ℕ) → body_length i ≡ 0 →
    cost_before (i ∷ code) (suc p) ≡ 1 + cost_before code p
cost-plain i code zero none = omega arith
cost-plain i code (suc p) none =
    let one : (if nat_lt p (body_length i) then turns i else 1) * turns_at code p ≡ 1 * turns_at code p =
    ap (λ n. (if nat_lt p n then turns i else 1) * turns_at code p) none
    ∙ ap (λ (t : Bool). (if t then turns i else 1) * turns_at code p) (lt-zero p) in
    omega (arith, one, one-mul (turns_at code p), cost-plain i code p none)

-- what stands in the body of a `rep` costs as often as it says
pub cost-rep : (times n : ℕ) (code : List Instr) (p : ℕ) → p ≤ n →
    cost_before (Rep times n ∷ code) (suc p) ≡ 1 + times * cost_before code p
cost-rep times n code zero within = omega arith
cost-rep times n code (suc p) within =
    let often : (if nat_lt p n then times else 1) * turns_at code p ≡ times * turns_at code p =
    ap (λ (t : Bool). (if t then times else 1) * turns_at code p) (lt-ltb p n (omega (arith, within))) in
    omega (
      arith,
      often,
      mul-add times (cost_before code p) (turns_at code p),
      cost-rep times n code p (omega (arith, within)),
    )
