-- How a code is judged by tables: the innermost body at each place, and where the stack is empty.
use Rattle.std.specs.Prelude.{◌≡◌, ℕ, zero, suc, ◌+◌, ◌<◌, ◌≤◌, nat_eq, nat_le, Bool, true, false, List, [], ◌∷◌, length, get_or, slice_get, Option, Some, None}
use Rattle.tdl_stack.specs.declared.limits.TheConstants.{STACK_NUMBERS}
use Rattle.tdl_stack.specs.declared.instr.Instr.{Instr}
use Rattle.tdl_stack.specs.declared.instr.Instr.TheVariants.{Rep}
use Rattle.tdl_stack.specs.Lawful.{CodeShape, takes, height_after, height_at, span, Spans, Repeats, IsInBody}
use Rattle.tdl_stack.specs.Judging.{Fits, Along}

-- what an instruction spans begins with an empty stack, and ends within the next `left` instructions
abbrev pub BeginsWell : (height left : ℕ) → Option ℕ → Type 0
BeginsWell height left None = Unit {0}
BeginsWell height left (Some n) = (height ≡ 0) × (n ≤ left)

-- an instruction where it stands: after so many numbers on the stack, and before a code
pub record StandsAt (shape : CodeShape) (height : ℕ) (i : Instr) (code : List Instr) : Type 0 where
  pub fits : Fits shape i
  pub supplied : takes i ≤ height
  pub room : height_after height i ≤ STACK_NUMBERS
  pub begins : BeginsWell (height_after height i) (length code) (span i)

-- every instruction may stand where it stands, if what it spans may end where it ends
abbrev pub Stand : CodeShape → (height : ℕ) → List Instr → Type 0
Stand shape = Along (StandsAt shape) shape

-- the innermost body that a place stands in begins at `body`, just after its `rep`; 0 where it stands in none
pub record IsInnermost (code : List Instr) (place body : ℕ) : Type 0 where
  pub found : (r : ℕ) → body ≡ suc r → (times : ℕ) × (k : ℕ) × Repeats code r times k × IsInBody r k place
  pub latest : (r times k : ℕ) → Repeats code r times k → IsInBody r k place → r < body

-- the list says of each of its places where the innermost body begins
abbrev pub AreInnermost : List Instr → List ℕ → Type 0
AreInnermost code bodies = (place : ℕ) → place < length bodies → IsInnermost code place (get_or bodies place 0)

-- whether the instruction at `rep` has a body, and a place comes before its end
abbrev pub repeats_to : (rep place : ℕ) → Option Instr → Bool
repeats_to rep place (Some (Rep times n)) = nat_le place (rep + n)
repeats_to rep place i = false

-- whether a place comes before the end of the body that begins at `body`; each does where that is 0
abbrev pub reaches : List Instr → (body place : ℕ) → Bool
reaches code zero place = true
reaches code (suc rep) place = repeats_to rep place (slice_get code rep)

-- at which places of a code the stack is empty, its end included
abbrev pub empties : (height : ℕ) → List Instr → List Bool
empties height [] = nat_eq height 0 ∷ []
empties height (i ∷ code) = nat_eq height 0 ∷ empties (height_after height i) code

-- the tables of a code, for each place and the end: where the innermost body begins, and whether the stack is empty
pub record AreTables (code : List Instr) (bodies : List ℕ) (empty : List Bool) : Type 0 where
  pub count : length bodies ≡ length code + 1
  pub bodies_are : AreInnermost code bodies
  pub empty_is : empty ≡ empties 0 code

-- n instructions after a place may be spanned: they end in its innermost body, the place after them stands in no other
-- body, and the stack is empty there
pub record Lands (code : List Instr) (place n : ℕ) : Type 0 where
  pub nested : (r times k : ℕ) → Repeats code r times k → IsInnermost code place (suc r) → place + n ≤ r + k
  pub outside : (r times k : ℕ) → Repeats code r times k → IsInBody r k (place + n + 1) → IsInBody r k place
  pub empty : height_at code (place + n + 1) ≡ 0

-- what is spanned ends within the code
abbrev pub EndWithin : List Instr → Type 0
EndWithin code = (place n : ℕ) → Spans code place n → place + n < length code

-- what the instruction at a place spans, if it does, may be spanned
abbrev pub LandsAt : List Instr → ℕ → Type 0
LandsAt code place = (n : ℕ) → Spans code place n → Lands code place n

-- what the instructions before a place span may be spanned
abbrev pub LandBefore : List Instr → ℕ → Type 0
LandBefore code end = (place : ℕ) → place < end → LandsAt code place
