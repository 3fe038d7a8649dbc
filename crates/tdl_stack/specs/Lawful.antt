-- Which stack code nodes run: each rule is one condition on the text. A place is the number of an instruction.
use Rattle.std.specs.Prelude.{◌≡◌, ℕ, zero, suc, ◌+◌, ◌-◌, ◌*◌, ◌<◌, ◌≤◌, nat_lt, Bool, true, false, if◌then◌else◌, List, [], ◌∷◌, length, take, fold, slice_get, Contains, Option, Some, None}
use Rattle.tdl_base.specs.declared.limits.TheConstants.{REPEAT}
use Rattle.tdl_base.specs.declared.numbers.PortKey.{PortKey}
use Rattle.tdl_base.specs.declared.numbers.Place.TheVariants.{Sensor, Port, Cell}
use Rattle.tdl_stack.specs.declared.limits.TheConstants.{STACK_NUMBERS, NESTED_BODIES, CODE_COST}
use Rattle.tdl_stack.specs.declared.shape.Shape.{Shape}
use Rattle.tdl_stack.specs.declared.instr.Instr.{Instr}
use Rattle.tdl_stack.specs.declared.instr.Instr.TheVariants.{Const, Load, Store, Un, Bin, Jz, Jmp, Rep}

-- what a code is made for: how many cells and sensors there are, which outputs may be read, and whether it is an
-- expression or a body
pub record CodeShape : Type 0 where
  pub cells : ℕ
  pub sensors : ℕ
  pub keys : List PortKey
  pub expression : Bool

-- what the code's `Shape` says
abbrev pub shape_of : Shape → CodeShape
shape_of shape =
    record { cells = shape.cells; sensors = shape.sensors; keys = shape.keys.now; expression = shape.expression }

-- a body has cells alone; an expression has none, and no instruction but those that push and operators
abbrev pub Suits : Bool → Instr → Type 0
Suits expression (Const v) = Unit {0}
Suits expression (Un op) = Unit {0}
Suits expression (Bin op) = Unit {0}
Suits expression (Load (Sensor k)) = expression ≡ true
Suits expression (Load (Port key)) = expression ≡ true
Suits expression i = expression ≡ false

-- the cell, sensor or output that an instruction names is there
abbrev pub Exists : CodeShape → Instr → Type 0
Exists shape (Load (Sensor k)) = k < shape.sensors
Exists shape (Load (Port key)) = Contains shape.keys key
Exists shape (Load (Cell k)) = k < shape.cells
Exists shape (Store k) = k < shape.cells
Exists shape i = Unit {0}

-- how many numbers an instruction takes off the stack
abbrev pub takes : Instr → ℕ
takes (Store k) = 1
takes (Un op) = 1
takes (Bin op) = 2
takes (Jz n) = 1
takes i = 0

-- how many numbers it puts on the stack
abbrev pub puts : Instr → ℕ
puts (Const v) = 1
puts (Load place) = 1
puts (Un op) = 1
puts (Bin op) = 1
puts i = 0

-- how many numbers are on the stack after an instruction, where there were so many before it
abbrev pub height_after : ℕ → Instr → ℕ
height_after height i = height - takes i + puts i

-- how many numbers are on the stack at a place, counted along the text
abbrev pub height_at : List Instr → ℕ → ℕ
height_at code place = fold height_after 0 (take place code)

-- of how many of the next instructions an instruction speaks: those that it may skip, or the body of a `rep`
abbrev pub span : Instr → Option ℕ
span (Jz n) = Some n
span (Jmp n) = Some n
span (Rep n k) = Some k
span i = None

-- at the place stands an instruction that speaks of the next n instructions
abbrev pub Spans : List Instr → (place n : ℕ) → Type 0
Spans code place n = (i : Instr) × (slice_get code place ≡ Some i) × (span i ≡ Some n)

-- at the place stands a `rep` that does the next n instructions so many times
abbrev pub Repeats : List Instr → (place times n : ℕ) → Type 0
Repeats code place times n = slice_get code place ≡ Some (Rep times n)

-- a place is one of the n places after another
abbrev pub IsInBody : (rep n place : ℕ) → Type 0
IsInBody rep n place = (rep < place) × (place ≤ rep + n)

-- how many instructions are the body of an instruction
abbrev pub body_length : Instr → ℕ
body_length (Rep times n) = n
body_length i = 0

-- how often an instruction does its body
abbrev pub turns : Instr → ℕ
turns (Rep times n) = times
turns i = 1

-- in how many `rep` bodies a place stands
abbrev pub bodies_at : List Instr → ℕ → ℕ
bodies_at [] place = 0
bodies_at code zero = 0
bodies_at (i ∷ code) (suc place) = (if nat_lt place (body_length i) then 1 else 0) + bodies_at code place

-- how often a place is come to, where nothing is skipped: as often as the `rep`s that it stands in say together
abbrev pub turns_at : List Instr → ℕ → ℕ
turns_at [] place = 1
turns_at code zero = 1
turns_at (i ∷ code) (suc place) = (if nat_lt place (body_length i) then turns i else 1) * turns_at code place

-- what the places before one cost: each costs 1 as often as it is come to
abbrev pub cost_before : List Instr → ℕ → ℕ
cost_before code zero = 0
cost_before code (suc place) = cost_before code place + turns_at code place

-- the rules of a code
pub record IsLawful (code : List Instr) (shape : CodeShape) : Type 0 where
  -- each instruction is one of a body, or of an expression
  pub suits : (p : ℕ) (i : Instr) → slice_get code p ≡ Some i → Suits shape.expression i
  -- each cell, sensor and output that is named is there
  pub exist : (p : ℕ) (i : Instr) → slice_get code p ≡ Some i → Exists shape i
  -- nothing is taken off an empty stack
  pub supplied : (p : ℕ) (i : Instr) → slice_get code p ≡ Some i → takes i ≤ height_at code p
  -- the stack has room
  pub room : (p : ℕ) → height_at code p ≤ STACK_NUMBERS
  -- a skip and a body end within the code
  pub within : (p n : ℕ) → Spans code p n → p + n < length code
  -- and within each body that they stand in
  pub nested : (p n r times k : ℕ) → Spans code p n → Repeats code r times k → IsInBody r k p → p + n ≤ r + k
  -- a skip goes into no body that it does not stand in
  pub outside : (p n r times k : ℕ) → Spans code p n → Repeats code r times k → IsInBody r k (p + n + 1) →
      IsInBody r k p
  -- the stack is empty at `jmp` and `rep`, and after what `jz` takes
  pub empty_before : (p n : ℕ) → Spans code p n → height_at code (p + 1) ≡ 0
  -- the stack is empty where a skip goes to, and at the end of a body
  pub empty_after : (p n : ℕ) → Spans code p n → height_at code (p + n + 1) ≡ 0
  -- bodies stand in one another so deep at most, empty ones too
  pub depth : (p times n : ℕ) → Repeats code p times n → bodies_at code p < NESTED_BODIES
  -- no `rep` has more turns
  pub repeat : (p times n : ℕ) → Repeats code p times n → times ≤ REPEAT
  -- the whole costs at most so much
  pub cost : cost_before code (length code) ≤ CODE_COST
  -- a body ends with an empty stack, an expression with one number
  pub end : height_at code (length code) ≡ (if shape.expression then 1 else 0)
