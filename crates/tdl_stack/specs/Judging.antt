-- A way to show that a code is lawful: each instruction is judged by itself, with the text that it spans.
use Rattle.std.specs.Prelude.{◌≡◌, ℕ, ◌≤◌, nat_eq, nat_le, Bool, true, false, not, ◌&&◌, ◌||◌, if◌then◌else◌, List, [], ◌∷◌, length, take}
use Rattle.tdl_base.specs.declared.limits.TheConstants.{REPEAT}
use Rattle.tdl_stack.specs.declared.limits.TheConstants.{STACK_NUMBERS}
use Rattle.tdl_stack.specs.declared.instr.Instr.{Instr}
use Rattle.tdl_stack.specs.declared.instr.Instr.TheVariants.{Jz, Jmp, Rep}
use Rattle.tdl_stack.specs.Lawful.{CodeShape, Suits, Exists, takes, height_after}

-- an instruction by itself
abbrev pub Fits : CodeShape → Instr → Type 0
Fits shape (Rep times n) = (shape.expression ≡ false) × (times ≤ REPEAT)
Fits shape i = Suits shape.expression i × Exists shape i

-- what an instruction spans ends within the next `left` instructions; of two skips nothing is asked
abbrev pub ends : (in_body : Bool) (left : ℕ) → Instr → Bool
ends in_body left (Jz n) = not in_body || nat_le n left
ends in_body left (Jmp n) = not in_body || nat_le n left
ends in_body left (Rep times n) = nat_le n left
ends in_body left i = true

-- what is spanned: each instruction ends within it, and the stack is empty after it
abbrev pub clean : (in_body : Bool) (height : ℕ) → List Instr → Bool
clean in_body height [] = nat_eq height 0
clean in_body height (i ∷ code) = ends in_body (length code) i && clean in_body (height_after height i) code

-- the next n instructions are there, can be spanned, and begin with an empty stack
abbrev pub closes : (in_body : Bool) (n height : ℕ) → List Instr → Bool
closes in_body n height code = nat_eq height 0 && (nat_le n (length code) && clean in_body 0 (take n code))

-- what an instruction spans of the code after it, where so many numbers are on the stack
abbrev pub spans_well : Instr → ℕ → List Instr → Bool
spans_well (Jz n) height code = closes false n height code
spans_well (Jmp n) height code = closes false n height code
spans_well (Rep times n) height code = closes true n height code
spans_well i height code = true

-- an instruction where it stands: after so many numbers on the stack, and before a code
pub record SoundAt (shape : CodeShape) (height : ℕ) (i : Instr) (code : List Instr) : Type 0 where
  pub fits : Fits shape i
  pub supplied : takes i ≤ height
  pub room : height_after height i ≤ STACK_NUMBERS
  pub spans : spans_well i (height_after height i) code ≡ true

-- every instruction of a code is as it is asked where it stands, and the code ends as its shape asks
abbrev pub Along : (At : (height : ℕ) → Instr → List Instr → Type 0) → CodeShape → (height : ℕ) → List Instr → Type 0
Along At shape height [] = height ≡ (if shape.expression then 1 else 0)
Along At shape height (i ∷ code) = At height i code × Along At shape (height_after height i) code

-- every instruction is sound
abbrev pub Sound : CodeShape → (height : ℕ) → List Instr → Type 0
Sound shape = Along (SoundAt shape) shape
