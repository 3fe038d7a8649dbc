-- The form whose names and numbers stand in a bundle's tables.
use Rattle.std.specs.Prelude.{ℕ, ◌/◌, List, Option, Some, None, slice_get, if◌then◌else◌, codes, bytes_eq}
use Rattle.std.specs.Int.{w64, cast_unsigned}
use Rattle.tdl_ecode.specs.declared.instr.EInstr.{EInstr}
use Rattle.tdl_ecode.specs.declared.instr.EInstr.TheVariants.{Future}
use Rattle.tdl_image.specs.declared.bundle.Bundle.{Bundle}
use Rattle.tdl_image.specs.declared.hosted.Hosted.{Hosted}
use Rattle.tdl_image.specs.declared.hosted.TaskTable.{TaskTable}
use Rattle.tdl_plain.specs.declared.form.Form.{Form}

-- the item of a number, where there is one, and what is made of it
infixr 2 ◌>>=◌
abbrev pub ◌>>=◌ : {A B : Type 0} → Option A → (A → Option B) → Option B
None >>= next = None
(Some a) >>= next = next a

-- a name for the input, which no bundle has: `a`, or `b` where the output is `a`
abbrev pub input_beside : List ℕ → List ℕ
input_beside output = if bytes_eq output (codes "a") then codes "b" else codes "a"

-- how far an instruction sets the trigger ahead
abbrev pub ahead : EInstr → ℕ
ahead (Future delay block) = delay
ahead instr = 0

-- the cycle of a module: how far its second block sets the trigger ahead
unfoldable pub cycle_in : Hosted → Option ℕ
cycle_in host =
    slice_get host.blocks 1 >>= λ block.
    slice_get block.code 1 >>= λ instr.
    Some (ahead instr)

-- the form of a module, its first task, the task's first output and its cycle
unfoldable pub host_form : Hosted → TaskTable → ℕ → Option Form
host_form host task cycle =
    slice_get host.sensors 0 >>= λ sensor.
    slice_get host.modes 0 >>= λ mode.
    slice_get task.outputs 0 >>= λ output.
    Some (record {
      «module» = host.name;
      sensor = sensor.name;
      task = task.name;
      worst = task.worst;
      input = input_beside output.name;
      output = output.name;
      initial = cast_unsigned w64 output.initial;
      mode = mode;
      period = cycle / 1000;
    })

-- the form in a bundle: that of the first module of the first image
unfoldable pub form_in : Bundle → Option Form
form_in bundle =
    slice_get bundle.images 0 >>= λ image.
    slice_get image.hosted 0 >>= λ host.
    slice_get host.tasks 0 >>= λ task.
    cycle_in host >>= λ cycle.
    host_form host task cycle
