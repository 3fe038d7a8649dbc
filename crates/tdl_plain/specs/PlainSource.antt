-- Names, and the forms of plain programs.
use Rattle.std.specs.Prelude.{◌≢◌, ℕ, ◌*◌, ◌≤◌, nat_le, length, Bool, ◌&&◌, not, List, [], ◌∷◌, IsTrue, codes, bytes_eq}
use Rattle.std.specs.List.{list_any}
use Rattle.tdl_plain.specs.declared.form.Form.{Form}
use Rattle.tdl_base.specs.Letters.{is_word}

-- the words that are no names
abbrev pub reserved_words : List (List ℕ)
reserved_words =
    codes "module" ∷ codes "import" ∷ codes "public" ∷ codes "const" ∷ codes "sensor" ∷ codes "actuator" ∷
    codes "task" ∷ codes "input" ∷ codes "output" ∷ codes "local" ∷ codes "if" ∷ codes "else" ∷ codes "repeat" ∷
    codes "start" ∷ codes "mode" ∷ codes "period" ∷ codes "wcet" ∷ codes "freq" ∷ codes "slots" ∷ codes "update" ∷
    codes "switch" ∷ codes "to" ∷ codes "true" ∷ codes "false" ∷ codes "uses" ∷ codes "boolean" ∷ codes "byte" ∷
    codes "short" ∷ codes "int" ∷ codes "long" ∷ []

-- t is one of the reserved words
unfoldable pub is_reserved : List ℕ → Bool
is_reserved t = list_any (λ word. bytes_eq word t) reserved_words

-- an identifier: a word of at most 64 bytes
abbrev pub is_identifier : List ℕ → Bool
is_identifier t = is_word t && nat_le (length t) 64

-- a name: an identifier that is no reserved word
abbrev pub is_name : List ℕ → Bool
is_name t = is_identifier t && not (is_reserved t)

-- the form's names are names, those that must differ do, and its numbers are in range: worst in us, period in ms
pub record IsPlainForm (form : Form) : Type 0 where
  pub module_name : IsTrue (is_name form.module)
  pub sensor_name : IsTrue (is_name form.sensor)
  pub task_name : IsTrue (is_name form.task)
  pub input_name : IsTrue (is_name form.input)
  pub output_name : IsTrue (is_name form.output)
  pub mode_name : IsTrue (is_name form.mode)
  pub sensor_is_no_task : form.sensor ≢ form.task
  pub sensor_is_no_mode : form.sensor ≢ form.mode
  pub task_is_no_mode : form.task ≢ form.mode
  pub input_is_no_output : form.input ≢ form.output
  pub worst_from : 1 ≤ form.worst
  pub worst_to : form.worst ≤ 1000 * form.period
  pub initial_to : form.initial ≤ 2147483647
  pub period_from : 1 ≤ form.period
  pub period_to : form.period ≤ 10000
