-- A tree says one form at most: that which stands in it.
use Rattle.std.proofs.Common.{◌≡◌, ℕ, Bool, true, false, ◌&&◌, ◌==◌, List, [], ◌∷◌, Option, Some, None, slice_get, refl, ap, sym, ◌∙◌, bytes_eq}
use Rattle.std.proofs.lemmas.Bool.{and_parts, eqb-true, false≢true}
use Rattle.std.proofs.lemmas.Slice.Eq.{bytes_eq-Decides}
use Rattle.tdl_mode.specs.declared.program.Program.{Program}
use Rattle.tdl_tree.specs.declared.declarations.Decl.{Decl}
use Rattle.tdl_tree.specs.declared.declarations.Decl.TheVariants as decls
use Rattle.tdl_tree.specs.declared.declarations.PortDecl.{PortDecl}
use Rattle.tdl_tree.specs.declared.declarations.Tree.{Tree}
use Rattle.tdl_tree.specs.declared.names.Id.{Id}
use Rattle.tdl_tree.specs.declared.names.Lit.{Lit}
use Rattle.tdl_tree.specs.declared.names.LitValue.{LitValue}
use Rattle.tdl_tree.specs.declared.names.LitValue.TheVariants as lit
use Rattle.tdl_plain.specs.declared.form.Form.{Form}
use Rattle.tdl_plain.specs.PlainProgram.{program_of}
use Rattle.tdl_plain.specs.PlainTree.{is_text, is_int, is_none, is_sensor, is_input, is_output, is_input_sort, is_output_sort, has_no_literal, starts_at, is_value, are_ports, is_us, is_ms, is_body, is_task, is_mode, are_activities, are_decls, says_form, IsPlainTree}
use Rattle.tdl_plain.specs.FormInTree.{sensor_name, task_name, task_worst, task_ports, port_name, port_initial, literal_number, value_number, mode_name, mode_period, form_in}
use Rattle.tdl_plain.specs.Says.{Says}

-- a name of a text
same_text : (text : List ℕ) (name : Id) → is_text text name ≡ true → name.text ≡ text
same_text text name h = (bytes_eq-Decides name.text text).0 h

-- ---- the sensor

found_sensor : (f : Form) (d : Decl) → is_sensor f d ≡ true → sensor_name (Some d) ≡ f.sensor
found_sensor f (decls.Sensor kind name) h =
    same_text f.sensor name (and_parts (is_int kind) (is_text f.sensor name) h).1
found_sensor f d h = absurd (false≢true h)

-- ---- the task

-- the parts of a task's declaration
record TaskParts (f : Form) (d : Decl) : Type 0 where
  pub name : task_name (Some d) ≡ f.task
  pub worst : task_worst (Some d) ≡ f.worst
  pub ports : are_ports f (task_ports (Some d)) ≡ true

found_task : (f : Form) (d : Decl) → is_task f d ≡ true → TaskParts f d
found_task f (decls.Task public name worst ports body) h =
    let named = is_text f.task name in
    let value = worst.number.value == f.worst in
    let unit = is_us worst.unit in
    let four = and_parts (public && named && value && unit && are_ports f ports) (is_body f body) h in
    let three = and_parts (public && named && value && unit) (are_ports f ports) four.0 in
    let two = and_parts (public && named && value) unit three.0 in
    let one = and_parts (public && named) value two.0 in
    record {
      name = same_text f.task name (and_parts public named one.0).1;
      worst = eqb-true worst.number.value f.worst one.1;
      ports = three.1;
    }
found_task f d h = absurd (false≢true h)

-- the number of a literal
found_value : (n : ℕ) (v : LitValue) → is_value n v ≡ true → value_number v ≡ n
found_value n (lit.Number false number) h = eqb-true number.value n h
found_value n v h = absurd (false≢true h)

found_literal : (n : ℕ) (literal : Option Lit) → starts_at n literal ≡ true → literal_number literal ≡ n
found_literal n (Some literal) h = found_value n literal.value h
found_literal n None h = absurd (false≢true h)

-- the names of the two ports, and the initial number of the second
record PortParts (f : Form) (ports : List PortDecl) : Type 0 where
  pub input : port_name (slice_get ports 0) ≡ f.input
  pub output : port_name (slice_get ports 1) ≡ f.output
  pub initial : port_initial (slice_get ports 1) ≡ f.initial

found_ports : (f : Form) (ports : List PortDecl) → are_ports f ports ≡ true → PortParts f ports
found_ports f (a ∷ b ∷ []) h =
    let both = and_parts (is_input f a) (is_output f b) h in
    let first = and_parts (is_input_sort a.sort && is_int a.kind && is_text f.input a.name) (has_no_literal a.initial)
    both.0 in
    let second = and_parts (is_output_sort b.sort && is_int b.kind && is_text f.output b.name)
    (starts_at f.initial b.initial) both.1 in
    record {
      input = same_text f.input a.name (and_parts (is_input_sort a.sort && is_int a.kind) (is_text f.input a.name)
          first.0).1;
      output = same_text f.output b.name (and_parts (is_output_sort b.sort && is_int b.kind) (is_text f.output b.name)
          second.0).1;
      initial = found_literal f.initial b.initial second.1;
    }
found_ports f ports h = absurd (false≢true h)

-- ---- the mode

record ModeParts (f : Form) (d : Decl) : Type 0 where
  pub name : mode_name (Some d) ≡ f.mode
  pub period : mode_period (Some d) ≡ f.period

found_mode : (f : Form) (d : Decl) → is_mode f d ≡ true → ModeParts f d
found_mode f (decls.Mode start name period acts) h =
    let named = is_text f.mode name in
    let value = period.number.value == f.period in
    let unit = is_ms period.unit in
    let three = and_parts (start && named && value && unit) (are_activities f acts) h in
    let two = and_parts (start && named && value) unit three.0 in
    let one = and_parts (start && named) value two.0 in
    record {
      name = same_text f.mode name (and_parts start named one.0).1;
      period = eqb-true period.number.value f.period one.1;
    }
found_mode f d h = absurd (false≢true h)

-- ---- the tree

-- the three declarations
record DeclParts (f : Form) (ds : List Decl) : Type 0 where
  pub sensor : sensor_name (slice_get ds 0) ≡ f.sensor
  pub task : task_name (slice_get ds 1) ≡ f.task
  pub worst : task_worst (slice_get ds 1) ≡ f.worst
  pub ports : PortParts f (task_ports (slice_get ds 1))
  pub mode : mode_name (slice_get ds 2) ≡ f.mode
  pub period : mode_period (slice_get ds 2) ≡ f.period

found_decls : (f : Form) (ds : List Decl) → are_decls f ds ≡ true → DeclParts f ds
found_decls f (a ∷ b ∷ c ∷ []) h =
    let three = and_parts (is_sensor f a && is_task f b) (is_mode f c) h in
    let two = and_parts (is_sensor f a) (is_task f b) three.0 in
    let task = found_task f b two.1 in
    let mode = found_mode f c three.1 in
    record {
      sensor = found_sensor f a two.0;
      task = task.name;
      worst = task.worst;
      ports = found_ports f (task_ports (Some b)) task.ports;
      mode = mode.name;
      period = mode.period;
    }
found_decls f ds h = absurd (false≢true h)

-- the form that the tree says stands in it
pub found_form : (f : Form) (tree : Tree) → says_form f tree ≡ true → form_in tree ≡ f
found_form f tree h =
    let both = and_parts (is_text f.module tree.name && is_none tree.imports) (are_decls f tree.decls) h in
    let named = same_text f.module tree.name (and_parts (is_text f.module tree.name) (is_none tree.imports) both.0).0 in
    let parts = found_decls f tree.decls both.1 in
    λ i. record {
      «module» = named i;
      sensor = parts.sensor i;
      task = parts.task i;
      worst = parts.worst i;
      input = parts.ports.input i;
      output = parts.ports.output i;
      initial = parts.ports.initial i;
      mode = parts.mode i;
      period = parts.period i;
    }

-- two forms of one tree are one
pub form_unique : (f g : Form) (tree : Tree) → IsPlainTree f tree → IsPlainTree g tree → f ≡ g
form_unique f g tree x y = sym (found_form f tree x.says) ∙ found_form g tree y.says

-- two programs of one tree are one
pub says_unique : (p q : Program) (tree : Tree) → Says tree p → Says tree q → p ≡ q
says_unique p q tree x y = x.is ∙ ap program_of (form_unique x.form y.form tree x.plain y.plain) ∙ sym y.is
