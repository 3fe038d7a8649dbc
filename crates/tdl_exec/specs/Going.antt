-- A code that is run: where it ends, and how many steps are left to there.
use Rattle.std.specs.Prelude.{◌≡◌, ℕ, zero, suc, ◌+◌, ◌*◌, ◌<◌, ◌≤◌, Bool, true, false, List, [], ◌∷◌, length, drop}
use Rattle.tdl_base.specs.Cells.{Cells, repeated}
use Rattle.tdl_stack.specs.declared.instr.Instr.{Instr}
use Rattle.tdl_stack.specs.declared.instr.Instr.TheVariants.{Const, Load, Store, Un, Bin, Jz, Jmp, Rep}
use Rattle.tdl_stack.specs.Lawful.{CodeShape, IsLawful, height_at, bodies_at, Repeats}
use Rattle.tdl_stack.specs.Running.{Outer, StackState, exec}
use Rattle.tdl_exec.specs.declared.repetitions.Repetition.{Repetition}
use Rattle.tdl_exec.specs.declared.run.Run.{Run}
use Rattle.tdl_exec.specs.Stepping.{state_of}

-- a code is lawful for some shape
abbrev pub IsChecked : List Instr → Type 0
IsChecked code = (shape : CodeShape) × IsLawful code shape

-- what a run still does: the next `left` instructions from a place on, then the repetitions under way, the innermost
-- first
pub record Going : Type 0 where
  pub code : List Instr
  pub place : ℕ
  pub left : ℕ
  pub under_way : List Repetition
  pub state : StackState

-- a whole code that begins on cells
abbrev pub begun : List Instr → Cells → Going
begun code cells =
    record { code = code; place = 0; left = length code; under_way = []; state = state_of [] cells }

-- what a repetition under way still does: its turns, and then what stands after it
abbrev pub repetition_end : Outer → List Instr → Repetition → StackState → StackState
repetition_end outer code r s =
    exec outer (drop r.begin code) r.left r.count (repeated r.times (exec outer (drop r.begin code) r.count 0) s)

-- what repetitions under way still do
abbrev pub repetitions_end : Outer → List Instr → List Repetition → StackState → StackState
repetitions_end outer code [] s = s
repetitions_end outer code (r ∷ rs) s = repetitions_end outer code rs (repetition_end outer code r s)

-- where a run ends
abbrev pub end_of : Outer → Going → StackState
end_of outer g = repetitions_end outer g.code g.under_way (exec outer (drop g.place g.code) g.left 0 g.state)

-- how many steps the next `left` instructions take at most, but for the first `skip` of them
abbrev pub steps : List Instr → (left skip : ℕ) → ℕ
steps code zero skip = 0
steps [] (suc left) skip = 0
steps (i ∷ code) (suc left) (suc skip) = steps code left skip
steps (Const v ∷ code) (suc left) zero = steps code left 0 + 1
steps (Load place ∷ code) (suc left) zero = steps code left 0 + 1
steps (Store k ∷ code) (suc left) zero = steps code left 0 + 1
steps (Un op ∷ code) (suc left) zero = steps code left 0 + 1
steps (Bin op ∷ code) (suc left) zero = steps code left 0 + 1
steps (Jz n ∷ code) (suc left) zero = steps code left 0 + steps code left n + 1
steps (Jmp n ∷ code) (suc left) zero = steps code left n + 1
steps (Rep n k ∷ code) (suc left) zero = n * (steps code k 0 + 1) + steps code left k + 2

-- how many steps repetitions under way take at most
abbrev pub repetitions_steps : List Instr → List Repetition → ℕ
repetitions_steps code [] = 0
repetitions_steps code (r ∷ rs) =
    r.times * (steps (drop r.begin code) r.count 0 + 1) + steps (drop r.begin code) r.left r.count + 1
    + repetitions_steps code rs

-- how many steps a run takes at most
abbrev pub steps_of : Going → ℕ
steps_of g = steps (drop g.place g.code) g.left 0 + repetitions_steps g.code g.under_way

-- a repetition under way is that of a `rep` of the code, its body ends at `end`, and so many are under way around it
pub record StandsAt (code : List Instr) (r : Repetition) (outside end : ℕ) : Type 0 where
  pub rep : ℕ
  pub times : ℕ
  pub is : Repeats code rep times r.count
  pub begin : r.begin ≡ suc rep
  pub body_end : end ≡ r.begin + r.count
  pub within : r.count ≤ r.left
  pub depth : outside ≤ bodies_at code rep

-- the place is in the innermost body
abbrev pub IsInside : List Repetition → ℕ → Type 0
IsInside [] place = Unit {0}
IsInside (r ∷ rs) place = r.begin ≤ place

-- the repetitions under way stand in the code, each within the next, and the innermost body ends at the place
abbrev pub AllStand : List Instr → List Repetition → (end : ℕ) → Type 0
AllStand code [] end = end ≡ length code
AllStand code (r ∷ rs) end =
    StandsAt code r (length rs) end × IsInside rs r.begin × AllStand code rs (r.begin + r.left)

-- a run of a lawful code: as many numbers are on the stack as the text says
pub record IsGoing (g : Going) : Type 0 where
  pub checked : IsChecked g.code
  pub height : length g.state.stack ≡ height_at g.code g.place
  pub stand : AllStand g.code g.under_way (g.place + g.left)
  pub inside : IsInside g.under_way g.place

-- a step: where it goes on it comes nearer to the same end, and otherwise the end was reached
pub record IsNearer (outer : Outer) (old new : Going) : Type 0 where
  pub same : end_of outer new ≡ end_of outer old
  pub fewer : steps_of new < steps_of old

abbrev pub IsStep : Outer → Going → Going → Bool → Type 0
IsStep outer old new true = IsNearer outer old new
IsStep outer old new false = new.state ≡ end_of outer old

-- no instruction is next
abbrev pub IsAtEnd : Going → Type 0
IsAtEnd g = g.left ≡ 0

-- a run on cells
abbrev pub going : Run → Cells → Going
going run cells = record {
  code = run.code.now;
  place = run.place;
  left = run.left;
  under_way = run.under_way;
  state = state_of run.stack cells;
}
