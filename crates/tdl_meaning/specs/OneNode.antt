-- One node: the turn of an instant, its microsecond, and instant 0: what its parts come to, and the rows they show.
use Rattle.tdl_gen.specs.Takes.{taken, taken_rows}
use Rattle.tdl_base.specs.Lists.{Zip}
use Rattle.std.specs.Prelude.{◌≡◌, ℕ, suc, ℤ, pos, List, [], ◌∷◌, ◌++◌, map, filter, Some, slice_get, slice_index_or, option_map, unwrap_or, find, flat_map, ◌==◌}
use Rattle.tdl_base.specs.declared.numbers.PortKey.{PortKey}
use Rattle.tdl_mode.specs.declared.program.Module.{Module}
use Rattle.tdl_base.specs.Sensed.{Sensed}
use Rattle.tdl_mode.specs.States.{TaskState, ModuleState, look_of}
use Rattle.tdl_mode.specs.Phases.{phase_one, phase_four}
use Rattle.tdl_mode.specs.Instants.{alone, entered}
use Rattle.tdl_deploy.specs.Rows.{module_port_rows, module_act_rows, module_mode_rows}
use Rattle.tdl_trace.specs.Shown.{Shown}
use Rattle.tdl_verify.specs.States.{HostNow, Part, NodeNow, Times, part_number, part_outputs}
use Rattle.tdl_verify.specs.Turns.{Spot, Turned, turn}
use Rattle.tdl_verify.specs.Micros.{micro}
use Rattle.tdl_verify.specs.Runs.{is_plain}
use Rattle.tdl_meaning.specs.Accepted.{Accepted}
use Rattle.tdl_meaning.specs.HostInStep.{HostFacts, HostAfter}
use Rattle.tdl_meaning.specs.NodeShape.{NodeShape}

-- what is seen of a part: its number, and the outputs of its tasks
pub record View : Type 0 where
  pub number : ℕ
  pub outputs : ℕ → List ℤ

-- the output that is seen at a port, 0 where there is none
abbrev pub seen_in : List View → PortKey → ℤ
seen_in vs key = slice_index_or (unwrap_or (option_map (λ (v : View). v.outputs key.task.0)
    (find (λ (v : View). v.number == key.module.0) vs)) []) key.output (pos 0)

-- what is seen of a part after phase 1 of x: the logical outputs of a module, and what a stub took
abbrev pub view : ℕ → (ℕ → ModuleState) → Part → View
view x logic (Part.Host h s) = record {
  number = h.number.0;
  outputs = λ t. unwrap_or (option_map (λ (u : TaskState). u.outputs)
      (slice_get (phase_one x (logic h.number.0)).tasks t)) [];
}
view x logic (Part.Outside q t) = record {
  number = q.number.0;
  outputs = λ o. part_outputs (Part.Outside q (taken x q t)) o;
}

-- what a node of these parts sees after phase 1 of x
abbrev pub node_sees : ℕ → (ℕ → ModuleState) → List Part → PortKey → ℤ
node_sees x logic qs = seen_in (map (view x logic) qs)

-- what is seen of a part at instant 0: its initial outputs
abbrev pub first_view : Part → View
first_view q = record { number = part_number q; outputs = λ t. part_outputs q t }

-- what a node of these parts sees at instant 0
abbrev pub first_sees : List Part → PortKey → ℤ
first_sees qs = seen_in (map first_view qs)

-- the logical state of each module after x, by what its node sees
abbrev pub logic_after : ℕ → Sensed → (ℕ → PortKey → ℤ) → (ℕ → ModuleState) → ℕ → ModuleState
logic_after x sensed seen logic kk = alone kk x sensed (seen kk) (logic kk)

-- the logical state of module m of number kk after instant 0, by what its node sees
abbrev pub state_first : ℕ → Sensed → (PortKey → ℤ) → Module → ModuleState
state_first kk sensed seen m = phase_four 0 (look_of kk (entered m).tasks sensed seen) (entered m)

module _ (given : Accepted) where
  -- the turn of a part at x: a hosted module comes to its logical state, a stub takes what is due
  abbrev pub Stepped : ℕ → Sensed → (ℕ → PortKey → ℤ) → (ℕ → ModuleState) → Part → Part → Type 0
  Stepped x sensed seen logic (Part.Host h s) q' = (s' : HostNow) × (q' ≡ Part.Host h s')
      × ((m : Module) → slice_get given.program.modules h.number.0 ≡ Some m →
      HostAfter m h x (logic_after x sensed seen logic h.number.0) s')
  Stepped x sensed seen logic (Part.Outside q t) q' = q' ≡ Part.Outside q (taken x q t)

  -- the microsecond of a part after x: a hosted module comes before the next instant, a stub stays as it is
  abbrev pub Walks : ℕ → (ℕ → ModuleState) → Part → Part → Type 0
  Walks x logic (Part.Host h s) q' = (s' : HostNow) × (q' ≡ Part.Host h s')
      × ((m : Module) → slice_get given.program.modules h.number.0 ≡ Some m →
      HostFacts m h (suc x) (logic h.number.0) s')
  Walks x logic (Part.Outside q t) q' = q' ≡ Part.Outside q t

  -- instant 0 of a part: a hosted module comes to its first logical state, a stub stays as it is
  abbrev pub Started : Sensed → (ℕ → PortKey → ℤ) → Part → Part → Type 0
  Started sensed seen (Part.Host h s) q' = (s' : HostNow) × (q' ≡ Part.Host h s')
      × ((m : Module) → slice_get given.program.modules h.number.0 ≡ Some m →
      HostAfter m h 0 (state_first h.number.0 sensed (seen h.number.0) m) s')
  Started sensed seen (Part.Outside q t) q' = q' ≡ Part.Outside q t

  -- the rows of a part on node j in phase 1 of x: the commits of a hosted module, what a stub takes
  abbrev pub port_rows_of : (x j : ℕ) → (ℕ → ModuleState) → Part → List Shown
  port_rows_of x j logic (Part.Host h s) =
      module_port_rows given.program given.placement j x h.number.0 (logic h.number.0)
  port_rows_of x j logic (Part.Outside q t) = taken_rows x j q q.entries t.entries

  -- its rows in phase 2: the updates of a hosted module
  abbrev pub act_rows_of : (x j : ℕ) → Sensed → (PortKey → ℤ) → (ℕ → ModuleState) → Part → List Shown
  act_rows_of x j sensed seen logic (Part.Host h s) = module_act_rows x j h.number.0 (phase_one x (logic h.number.0))
      (look_of h.number.0 (phase_one x (logic h.number.0)).tasks sensed seen)
  act_rows_of x j sensed seen logic (Part.Outside q t) = []

  -- its rows in phase 3: the switch of a hosted module
  abbrev pub mode_rows_of : (x j : ℕ) → Sensed → (PortKey → ℤ) → (ℕ → ModuleState) → Part → List Shown
  mode_rows_of x j sensed seen logic (Part.Host h s) =
      module_mode_rows x j h.number.0 (logic h.number.0) (alone h.number.0 x sensed seen (logic h.number.0))
  mode_rows_of x j sensed seen logic (Part.Outside q t) = []

  -- the plain rows of node j at x: all ports, all actuators, all modes, each part by part
  abbrev pub node_shows : (x j : ℕ) → Sensed → (PortKey → ℤ) → (ℕ → ModuleState) → List Part → List Shown
  node_shows x j sensed seen logic qs = flat_map (port_rows_of x j logic) qs
      ++ flat_map (act_rows_of x j sensed seen logic) qs ++ flat_map (mode_rows_of x j sensed seen logic) qs

  -- the row of a part on node j at instant 0: the start mode of a hosted module
  abbrev pub first_row_of : ℕ → Part → List Shown
  first_row_of j (Part.Host h s) = Shown.Mode 0 j h.number.0
      (unwrap_or (option_map (λ (m : Module). m.start.0) (slice_get given.program.modules h.number.0)) 0) ∷ []
  first_row_of j (Part.Outside q t) = []

  -- the turn of node j at x ends within its declared count: each part steps by what the node sees after phase 1, the
  -- plain rows are those of the parts, and the node keeps its shape
  pub record TurnDone (x j : ℕ) (sensed : Sensed) (times : Times) (logic : ℕ → ModuleState) (n : NodeNow) :
      Type 0 where
    pub after : List Part
    pub rows : List Shown
    pub is : turn n.declared x j sensed times Spot.Between n.parts [] ≡ Turned.Finished after rows
    pub stepped : Zip (Stepped x sensed (λ kk. node_sees x logic n.parts) logic) n.parts after
    pub shown : filter is_plain rows ≡ node_shows x j sensed (node_sees x logic n.parts) logic n.parts
    pub shape : NodeShape given j (record n { parts = after })

  -- in the microsecond of node j after x no two windows are live, and each part comes before the next instant
  pub record MicroDone (x j : ℕ) (logic : ℕ → ModuleState) (n : NodeNow) : Type 0 where
    pub after : NodeNow
    pub is : micro x n ≡ Some after
    pub walked : Zip (Walks x logic) n.parts after.parts
    pub shape : NodeShape given j after

  -- instant 0 of node j ends within its declared count: each part starts, and each hosted module shows its start mode
  pub record FirstDone (j : ℕ) (sensed : Sensed) (times : Times) (n : NodeNow) : Type 0 where
    pub after : List Part
    pub rows : List Shown
    pub is : turn n.declared 0 j sensed times Spot.Between n.parts [] ≡ Turned.Finished after rows
    pub started : Zip (Started sensed (λ kk. first_sees n.parts)) n.parts after
    pub shown : filter is_plain rows ≡ flat_map (first_row_of j) n.parts
    pub shape : NodeShape given j (record n { parts = after })
