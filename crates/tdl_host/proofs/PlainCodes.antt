-- The codes of plain programs are lawful.
use Rattle.std.proofs.Common.{◌≡◌, ◌<◌, true, [], ◌∷◌, length, refl, ap, subst, sym, arith}
use Rattle.std.specs.List.{All}
use Rattle.std.proofs.lemmas.List.Elements.{All-nil, All-from_recursion}
use Rattle.tdl_stack.specs.Lawful.{CodeShape, IsLawful}
use Rattle.tdl_stack.proofs.Lawfulness.{checked-lawful}
use Rattle.tdl_image.specs.declared.bundle.Bundle.{Bundle}
use Rattle.tdl_image.specs.declared.bundle.Image.{Image}
use Rattle.tdl_image.specs.declared.hosted.TaskTable.{TaskTable}
use Rattle.tdl_task.specs.Jobs.{body_shape}
use Rattle.tdl_image.specs.declared.hosted.Driver.{Driver}
use Rattle.tdl_plain.specs.declared.form.Form.{Form}
use Rattle.tdl_make.specs.PlainBundle.{add_code, sensor_code, plain_table, plain_hosted, plain_bundle, IsPlainBundle}
use Rattle.tdl_host.specs.CheckedCodes.{IsCheckedCode, IsCheckedTask, IsCheckedCall, HasCheckedCodes, HasCheckedModules, cells_of_table}

-- the body of the task
add-lawful : (f : Form) → IsLawful add_code.instrs (body_shape (cells_of_table (plain_table f)))
add-lawful f =
    checked-lawful add_code.instrs (body_shape (cells_of_table (plain_table f))) (
      record { fits = (refl, omega arith); supplied = omega arith; room = omega arith; spans = refl },
      (
        record { fits = (refl, omega arith); supplied = omega arith; room = omega arith; spans = refl },
        (
          record { fits = (tt, tt); supplied = omega arith; room = omega arith; spans = refl },
          (record { fits = (refl, omega arith); supplied = omega arith; room = omega arith; spans = refl }, refl),
        ),
      ),
    )
    ((omega arith, tt), ((omega arith, tt), ((omega arith, tt), ((omega arith, tt), tt))))

-- an expression over one sensor
abbrev over_sensor : CodeShape
over_sensor = record { cells = 0; sensors = 1; keys = []; expression = true }

-- its argument
sensor-lawful : IsLawful sensor_code.instrs over_sensor
sensor-lawful =
    checked-lawful sensor_code.instrs over_sensor (
      record { fits = (refl, omega arith); supplied = omega arith; room = omega arith; spans = refl },
      refl,
    )
    ((omega arith, tt), tt)

-- both stand in the tables of the module
plain-host : (f : Form) → 0 < f.worst → HasCheckedCodes (plain_hosted f)
plain-host f some = record {
  tasks = All-from_recursion IsCheckedTask (plain_hosted f).tasks
      (record { body = add-lawful f; takes_time = some }, tt);
  calls = All-from_recursion (IsCheckedCall (plain_hosted f).tasks) (plain_hosted f).calls (
    record {
      arguments = All-from_recursion IsCheckedCode (sensor_code ∷ []) ((over_sensor, sensor-lawful), tt);
      count = λ t is. (let same : plain_table f ≡ t = cc in ap (λ (u : TaskTable). length u.inputs) same);
    },
    tt,
  );
  guards = All-nil IsCheckedCode;
  drivers = All-nil (λ (d : Driver). IsCheckedCode d.value);
}

-- the bundle of a form has lawful codes
pub plain_codes : (f : Form) → 0 < f.worst → HasCheckedModules (plain_bundle f)
plain_codes f some =
    All-from_recursion (λ (image : Image). All HasCheckedCodes image.hosted) (plain_bundle f).images
    (All-from_recursion HasCheckedCodes (plain_hosted f ∷ []) (plain-host f some, tt), tt)

-- so has every bundle of a plain program
pub plain_checked : (b : Bundle) → IsPlainBundle b → HasCheckedModules b
plain_checked b plain =
    let from = plain.lawful.worst_from in
    subst HasCheckedModules (sym plain.is) (plain_codes plain.form (omega (arith, from)))
