-- At instant 0 each module sees what the program's modules put out; so after it the machine's state is the program's.
use Rattle.std.proofs.Common.{◌≡◌, ℕ, ◌+◌, ℤ, pos, List, [], map, true, false, ◌==◌, Some, refl, ap, sym, ◌∙◌, inl, inr}
use Rattle.std.specs.Prelude.{◌⊎◌, slice_get, slice_index_or, unwrap_or, option_map}
use Rattle.std.proofs.lemmas.Bool.{eqb-true, eq-eqb}
use Rattle.std.proofs.lemmas.Option.{slice_get-map, same_Some}
use Rattle.tdl_base.specs.declared.numbers.PortKey.{PortKey}
use Rattle.tdl_mode.specs.declared.program.Module.{Module}
use Rattle.tdl_base.specs.Sensed.{Course}
use Rattle.tdl_mode.specs.States.{TaskState, ModuleState, outputs_in, output_at}
use Rattle.tdl_mode.specs.Instants.{entered, begun_task, state_at}
use Rattle.tdl_mode.specs.Imports.{is_among}
use Rattle.tdl_image.specs.declared.stub.Stub.{Stub}
use Rattle.tdl_verify.specs.States.{Part, NodeNow, Times, part_number, part_outputs, task_first}
use Rattle.tdl_gen.specs.Tables.{task_table, stub_tasks, hosted_of}
use Rattle.tdl_gen.specs.Realises.{IsWithinWorst}
use Rattle.tdl_mode.specs.WellFormed.{ReadsPort}
use Rattle.tdl_meaning.proofs.HostTurns.{outputs-map}
use Rattle.tdl_meaning.proofs.BootTurn.{outputs-first}
use Rattle.tdl_meaning.specs.OneNode.{View, seen_in, first_view, first_sees}
use Rattle.tdl_verify.proofs.Replaced.{is_numbered}
use Rattle.tdl_meaning.proofs.ModuleStep.{public-numbered}
use Rattle.tdl_meaning.proofs.MappedLists.{map-at, map-to}
use Rattle.tdl_meaning.proofs.AllParts.{node-at}
use Rattle.tdl_meaning.proofs.SeenAt.{seen_at-is}
use Rattle.tdl_meaning.proofs.ItemPlaces.{found_from}
use Rattle.tdl_meaning.proofs.ShapesBeforeZero.{first_shapes}
use Rattle.tdl_meaning.proofs.PartsBeforeZero.{PartAt, NodeAt, nodes_at}
use Rattle.tdl_meaning.proofs.HostedOnce.{hosted_in}
use Rattle.tdl_meaning.specs.SystemStands.{first_nodes}
use Rattle.tdl_meaning.proofs.InstantZero.{first_seen, first_logic}
use Rattle.tdl_meaning.proofs.StubFirstOutputs.{first_in_step}
use Rattle.tdl_meaning.proofs.StateAtZero.{agree_first}
use Rattle.tdl_meaning.proofs.NodeParts.{NodeWith, node_with, has_import}
use Rattle.tdl_meaning.specs.Accepted.{Accepted}
use Rattle.tdl_meaning.proofs.Every.{all-at}
use Rattle.tdl_base.proofs.Among.{Found}
use Rattle.tdl_meaning.specs.NodeShape.{NodeShape}

-- what is seen at a key is what any view of its module has, where all views of that module have the same
seen_found : (vs : List View) (key : PortKey) (os : List ℤ) →
    ((n : ℕ) (v : View) → slice_get vs n ≡ Some v → v.number ≡ key.module.0 → v.outputs key.task.0 ≡ os) →
    (n : ℕ) (v : View) → slice_get vs n ≡ Some v → v.number ≡ key.module.0 →
    seen_in vs key ≡ slice_index_or os key.output (pos 0)
seen_found vs key os all n v at e =
    let i : ℕ = key.module.0 in
    let f : Found (λ (w : View). w.number == i) vs =
    found_from (λ (w : View). w.number == i) vs n v at (eq-eqb v.number i e) in
    ap (λ l. slice_index_or l key.output (pos 0))
    (ap (λ o. unwrap_or (option_map (λ (w : View). w.outputs key.task.0) o) []) f.is
    ∙ all f.place f.item f.at (eqb-true f.item.number i f.passes))

-- the initial outputs of a task
abbrev outs_first : Module → ℕ → List ℤ
outs_first m t = unwrap_or (option_map (λ (u : TaskState). u.outputs) (slice_get (map begun_task m.tasks) t)) []

module _ (given : Accepted) (course : Course) (times : Times) (within : IsWithinWorst given.program times) where
  -- the outputs of a part before instant 0 are those of its module's first state, where it has the task
  first_outputs : (j i t : ℕ) (e : Module) → slice_get given.program.modules i ≡ Some e → (u : TaskState) →
      slice_get (map begun_task e.tasks) t ≡ Some u → is_numbered t (stub_tasks e) ≡ true →
      (q : Part) → PartAt given j q → part_number q ≡ i → part_outputs q t ≡ u.outputs
  first_outputs j i t e there u at has (Part.Host h s) a number =
      let same : a.definition ≡ e =
      same_Some a.definition e (sym a.there ∙ ap (slice_get given.program.modules) number ∙ there) in
      ap (λ (r : Part). part_outputs r t) a.is
      ∙ outputs-map (map begun_task a.definition.tasks) (map task_first (map task_table a.definition.tasks)) t
      (outputs-first a.definition.tasks)
      ∙ ap (λ m. outs_first m t) same ∙ ap (λ o. unwrap_or (option_map (λ (u : TaskState). u.outputs) o) []) at
  first_outputs j i t e there u at has (Part.Outside q s) a number =
      let same : e ≡ a.definition =
      same_Some e a.definition (sym there ∙ ap (slice_get given.program.modules) (sym number) ∙ a.there) in
      let tasks : q.tasks ≡ stub_tasks e = ap (λ (s : Stub). s.tasks) a.tables ∙ ap stub_tasks (sym same) in
      ap (λ (r : Part). part_outputs r t) a.is
      ∙ first_in_step e q (map begun_task e.tasks) tasks refl t u (ap (is_numbered t) tasks ∙ has) at

  -- each module sees the initial outputs
  seen_zero : (kk : ℕ) (m : Module) → slice_get given.program.modules kk ≡ Some m → (key : PortKey) →
      ReadsPort given.program kk m key → (key.module.0 == kk) ≡ false →
      first_seen given course times within kk key ≡ outputs_in (map entered given.program.modules) key
  seen_zero kk m there key reads other = by_allowed reads.allowed
    where
      nodes : List NodeNow
      nodes = first_nodes given

      e : Module
      e = reads.exporter

      t : ℕ
      t = key.task.0

      u : TaskState
      u = begun_task reads.task

      at_task : slice_get (map begun_task e.tasks) t ≡ Some u
      at_task = slice_get-map begun_task e.tasks t ∙ ap (option_map begun_task) reads.at

      out : slice_index_or u.outputs key.output (pos 0) ≡ outputs_in (map entered given.program.modules) key
      out =
          ap (λ o. slice_index_or (unwrap_or (option_map (λ (v : TaskState). v.outputs) o) []) key.output (pos 0))
          (sym at_task)
          ∙ sym (ap (λ o. unwrap_or (option_map (λ (s : ModuleState). output_at s.tasks t key.output) o) (pos 0))
          (slice_get-map entered given.program.modules key.module.0 ∙ ap (option_map entered) reads.there))

      by_import : is_among key.module.0 m.imports ≡ true → reads.task.public ≡ true →
          first_seen given course times within kk key ≡ outputs_in (map entered given.program.modules) key
      by_import among public =
          let shapes = first_shapes given 0 given.placement.nodes in
          let i = hosted_in given kk m there in
          let w : NodeWith given 0 nodes (hosted_of given.schedule kk m) =
          node_with given 0 nodes shapes i.place (hosted_of given.schedule kk m) _ i.at in
          let j : ℕ = 0 + w.index in
          let shape : NodeShape given j w.node = node-at (NodeShape given) 0 nodes shapes w.index w.node w.at in
          let f = has_import given j w.node.parts shape.order kk m there w.hosted key.module.0 among in
          let ats : NodeAt given j w.node =
          node-at (NodeAt given) 0 nodes (nodes_at given 0 given.placement.nodes) w.index w.node w.at in
          let look : Part → View = first_view in
          ap (λ (g : PortKey → ℤ). g key)
          (seen_at-is given first_sees 0 w.index nodes w.node w.at kk w.hosted)
          ∙ seen_found (map look w.node.parts) key u.outputs
          (λ n v at number.
          let q = map-at look w.node.parts n v at in
          ap (λ (v : View). v.outputs t) q.is
          ∙ first_outputs j key.module.0 t e reads.there u at_task
          (public-numbered e t reads.task reads.at public) q.item
          (all-at (PartAt given j) w.node.parts ats n q.item q.at)
          (ap (λ (v : View). v.number) (sym q.is) ∙ number))
          f.0 (look f.1) (map-to look w.node.parts f.0 f.1 f.2) f.3
          ∙ out

      by_allowed : (key.module.0 ≡ kk) ⊎ ((is_among key.module.0 m.imports ≡ true) × (reads.task.public ≡ true)) →
          first_seen given course times within kk key ≡ outputs_in (map entered given.program.modules) key
      by_allowed (inl own) = let t = eq-eqb key.module.0 kk own in absurd (cc (t, other))
      by_allowed (inr b) = by_import b.0 b.1

  -- the machine's states after instant 0 are the program's
  pub agree_zero : (kk : ℕ) (m : Module) → slice_get given.program.modules kk ≡ Some m →
      slice_get (state_at given.program course 0) kk ≡ Some (first_logic given course times within kk)
  agree_zero kk m there = agree_first given course times within kk m there (seen_zero kk m there)
