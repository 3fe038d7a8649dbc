-- A small code is lawful over two cells.
use Rattle.std.proofs.Common.{◌≡◌, false, List, [], ◌∷◌, ◌++◌, length, refl, sym, ap, subst, arith}
use Rattle.std.proofs.lemmas.List.{length-append}
use Rattle.tdl_base.specs.declared.kinds.Kind.{Kind}
use Rattle.tdl_stack.specs.Examples.{sum_code}
use Rattle.tdl_stack.specs.Lawful.{CodeShape, IsLawful}
use Rattle.tdl_stack.specs.declared.instr.Instr.{Instr}
use Rattle.tdl_stack.proofs.Lawfulness.{checked-lawful}
use Rattle.tdl_task.specs.Jobs.{TaskCells, body_shape}

-- a body over two cells
abbrev over_two : CodeShape
over_two = record { cells = 2; sensors = 0; keys = []; expression = false }

sum-lawful : IsLawful sum_code over_two
sum-lawful =
    checked-lawful sum_code over_two (
      record { fits = (refl, omega arith); supplied = omega arith; room = omega arith; spans = refl },
      (
        record { fits = (refl, omega arith); supplied = omega arith; room = omega arith; spans = refl },
        (
          record { fits = (tt, tt); supplied = omega arith; room = omega arith; spans = refl },
          (record { fits = (refl, omega arith); supplied = omega arith; room = omega arith; spans = refl }, refl),
        ),
      ),
    )
    ((omega arith, tt), ((omega arith, tt), ((omega arith, tt), ((omega arith, tt), tt))))

-- over the cells of any task that has two
pub lawful-over : (code : List Instr) (task : TaskCells) → code ≡ sum_code → length task.kinds ≡ 2 →
    IsLawful code (body_shape task)
lawful-over code task is two =
    subst (λ x. IsLawful x (body_shape task)) (sym is)
    (subst (λ n. IsLawful sum_code (record { cells = n; sensors = 0; keys = []; expression = false })) (sym two) sum-lawful)

-- a task of one input and one output has two cells
pub two-cells : (task : TaskCells) (a b c : List Kind) (j k : Kind) →
    task ≡ record { kinds = a ++ b ++ c; inputs = length a; outputs = length b } → a ≡ j ∷ [] → b ≡ k ∷ [] → c ≡ [] →
    length task.kinds ≡ 2
two-cells task a b c j k is one other none =
    let e : length task.kinds ≡ length (a ++ b ++ c) = ap (λ (t : TaskCells). length t.kinds) is in
    omega (arith, e, length-append (a ++ b) c, length-append a b, ap length one, ap length other, ap length none)
