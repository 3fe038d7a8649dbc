-- What an environment gives to expressions, and its cells.
use Rattle.std.specs.Prelude.{◌≡◌, ◌==◌, ◌&&◌, Bool, List, [], ◌∷◌, ℤ, pos, if◌then◌else◌, slice_index_or}
use Rattle.tdl_base.specs.declared.kinds.Kind.{Kind}
use Rattle.tdl_base.specs.declared.numbers.PortKey.{PortKey}
use Rattle.tdl_base.specs.Cells.{Cells}
use Rattle.tdl_body.specs.Values.{Look}
use Rattle.tdl_eval.specs.declared.env.Env.{Env}
use Rattle.tdl_eval.specs.declared.view.View.{View}

-- two keys name one output
abbrev pub is_same : PortKey → PortKey → Bool
is_same a b = a.module.0 == b.module.0 && (a.task.0 == b.task.0 && a.output == b.output)

-- the number beside the first of some keys that names this output; 0 where none does
abbrev pub number_beside : PortKey → List PortKey → List ℤ → ℤ
number_beside key [] ports = pos 0
number_beside key (k ∷ keys) [] = pos 0
number_beside key (k ∷ keys) (v ∷ ports) = if is_same k key then v else number_beside key keys ports

-- what cells, sensors and outputs with their numbers show; 0 at a place that is not there
abbrev pub shown : List ℤ → List ℤ → List PortKey → List ℤ → Look
shown cells sensed keys ports = record {
  cell = λ k. slice_index_or cells k (pos 0);
  sensor = λ k. slice_index_or sensed k (pos 0);
  port = λ key. number_beside key keys ports;
}

-- what an expression may read in an environment
abbrev pub look_of : Env → Look
look_of env = shown env.cells env.sensed env.keys env.ports

-- cells of these kinds with these numbers
abbrev pub made_of : List Kind → List ℤ → Cells
made_of kinds values = record { kinds = kinds; values = values }

-- the cells of an environment
abbrev pub cells_of : Env → Cells
cells_of env = made_of env.kinds env.cells

-- nothing but the numbers of the cells has changed
pub record OnlyCells (before after : Env) : Type 0 where
  pub kinds : after.kinds ≡ before.kinds
  pub sensed : after.sensed ≡ before.sensed
  pub keys : after.keys ≡ before.keys
  pub ports : after.ports ≡ before.ports

-- what an expression reads in a view
abbrev pub seen : View → Look
seen view = shown view.cells.now view.sensed.now view.keys.now view.ports.now

-- what an expression reads of cells alone
abbrev pub cells_alone : List ℤ → Look
cells_alone cells = shown cells [] [] []
