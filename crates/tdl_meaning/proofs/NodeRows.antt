-- The rows of a node after delivery, at an instant above 0, are what it sees of the logical instant.
use Rattle.std.proofs.Common.{◌≡◌, ℕ, suc, ◌+◌, ℤ, pos, List, [], ◌∷◌, ◌++◌, map, length, Bool, true, false, ◌==◌, Some, refl, ap, ap₂, sym, ◌∙◌, subst, arith}
use Rattle.std.specs.Prelude.{slice_get, flat_map, if◌then◌else◌}
use Rattle.tdl_base.specs.Lists.{joined, numbered}
use Rattle.tdl_base.specs.declared.numbers.PortKey.{PortKey}
use Rattle.tdl_mode.specs.declared.program.Program.{Program}
use Rattle.tdl_mode.specs.declared.program.Module.{Module}
use Rattle.tdl_base.specs.Sensed.{Sensed}
use Rattle.tdl_mode.specs.States.{ModuleState, State, outputs_in, look_of}
use Rattle.tdl_mode.specs.Phases.{phase_one}
use Rattle.tdl_mode.specs.Instants.{alone, logical}
use Rattle.tdl_deploy.specs.declared.placement.Placement.{Placement}
use Rattle.tdl_deploy.specs.Placed.{hosts, imports}
use Rattle.tdl_deploy.specs.Rows.{mode_rows_from, port_rows, act_rows, mode_rows, node_rows, module_port_rows, module_act_rows, module_mode_rows}
use Rattle.tdl_trace.specs.Shown.{Shown}
use Rattle.tdl_image.specs.declared.stub.Stub.{Stub}
use Rattle.tdl_image.specs.declared.stub.Receive.{Receive}
use Rattle.tdl_verify.specs.States.{StubNow, EntryNow, Part, NodeNow, Times, part_number, stub_first}
use Rattle.tdl_gen.specs.Tables.{receives}
use Rattle.tdl_gen.specs.Realises.{IsWithinWorst}
use Rattle.tdl_mode.specs.WellFormed.{ReadsPort}
use Rattle.tdl_mode.proofs.ModuleByModule.{logical-alone}
use Rattle.tdl_base.proofs.NumberedLists.{numbered-map}
use Rattle.tdl_gen.proofs.HostMoves.{Apart}
use Rattle.tdl_gen.proofs.StubMoves.{taken_rows}
use Rattle.tdl_meaning.proofs.OneLive.{ascends-apart}
use Rattle.tdl_meaning.proofs.ActiveJobs.{well_modes}
use Rattle.tdl_meaning.proofs.StubRows.{Grouped, stub_rows}
use Rattle.tdl_meaning.proofs.EntriesByTask.{grouped}
use Rattle.tdl_meaning.proofs.NodePortRows.{ports_right}
use Rattle.tdl_meaning.proofs.StubTables.{remote-is}
use Rattle.tdl_mode.proofs.Seeing.{alone_same}
use Rattle.tdl_meaning.proofs.PartsAndBus.{stand, jobs_active, texts_of}
use Rattle.std.proofs.lemmas.Option.{same_Some}
use Rattle.tdl_meaning.specs.OneNode.{node_sees, port_rows_of, act_rows_of, mode_rows_of, node_shows}
use Rattle.tdl_meaning.proofs.PartsBeforeZero.{PartAt}
use Rattle.tdl_meaning.proofs.NodeParts.{each_at}
use Rattle.tdl_meaning.proofs.PartRows.{row_of, of_module, in_modules, beside}
use Rattle.tdl_meaning.proofs.SameActRows.{acts_same}
use Rattle.tdl_meaning.specs.Accepted.{Accepted}
use Rattle.tdl_meaning.specs.Entries.{EntryFact, Got}
use Rattle.tdl_meaning.specs.AllItems.{AllEntries}
use Rattle.tdl_meaning.specs.PartFacts.{StubFacts, PartBefore, Parts}
use Rattle.tdl_meaning.specs.NodeShape.{first_part, Ordered, NodeShape}

-- two facts of each entry at once
both_entries : (P Q : Receive → EntryNow → Type 0) (es : List Receive) (nows : List EntryNow) → AllEntries P es nows →
    AllEntries Q es nows → AllEntries (λ e now. P e now × Q e now) es nows
both_entries P Q [] [] ps qs = tt
both_entries P Q [] (now ∷ more) ps qs = absurd ps
both_entries P Q (e ∷ es) [] ps qs = absurd ps
both_entries P Q (e ∷ es) (now ∷ more) ps qs = ((ps.0, qs.0), both_entries P Q es more ps.1 qs.1)

-- mode rows of a state and of what becomes of it, module by module
modes_zip : (placement : Placement) (j x : ℕ) (f : ℕ → ModuleState → ModuleState) (n : ℕ) (rs : State) →
    mode_rows_from placement j x n rs (numbered n f rs)
    ≡ joined (numbered n (λ k r. if hosts placement j k then module_mode_rows x j k r (f k r) else []) rs)
modes_zip placement j x f n [] = refl
modes_zip placement j x f n (r ∷ rs) =
    ap (λ l. (if hosts placement j n then module_mode_rows x j n r (f n r) else [])
    ++ l) (modes_zip placement j x f (suc n) rs)

-- no rows at all
abbrev none : ℕ → List Shown
none k = []

-- a part that shows rows only where its module is hosted shows those rows there
hosted_rows : (program : Program) (placement : Placement) (j : ℕ) (f : ℕ → List Shown) (k : ℕ) (rows : List Shown) →
    (hosts placement j k ≡ true → f k ≡ rows) → of_module program placement j f none k
    ≡ (if hosts placement j k then rows else [])
hosted_rows program placement j f k rows h = by_test (hosts placement j k) refl (imports program placement j k)
  where
    by_test : (b : Bool) → hosts placement j k ≡ b → (c : Bool) →
        (if b then f k else (if c then [] else [])) ≡ (if b then rows else [])
    by_test true e c = h e
    by_test false e true = refl
    by_test false e false = refl

module _ (given : Accepted) (gone : ℕ → ℕ → Type 0) (x : ℕ) (sensed : Sensed) (times : Times)
    (within : IsWithinWorst given.program times) (logic : ℕ → ModuleState) (parts : List Part)
    (ps : Parts given (PartBefore given gone x logic) parts) (safe : (kk : ℕ) → gone kk x → ⊥) where
  -- what is known of the stubs after delivery
  abbrev pub Stubs : List Part → Type 0
  Stubs qs = (i : ℕ) (q : Stub) (t : StubNow) → slice_get qs i ≡ Some (Part.Outside q t) →
      StubFacts given gone (suc x) x logic q t

  -- the rows of a stub are the port rows of its module
  stub_shows : (j : ℕ) (q : Stub) (t : StubNow) → PartAt given j (stub_first q) →
      StubFacts given gone (suc x) x logic q t → taken_rows x j q q.entries t.entries
      ≡ module_port_rows given.program given.placement j x q.number.0 (logic q.number.0)
  stub_shows j q t a f =
      let kk : ℕ = q.number.0 in
      let m : Module = f.tables.definition in
      let there = f.tables.there in
      let e : q.entries ≡ receives given.program given.placement given.schedule kk m =
      ap (λ (s : Stub). s.entries) a.tables ∙ ap (receives given.program given.placement given.schedule kk)
      (same_Some a.definition m (sym a.there ∙ there)) in
      let remote = remote-is given.program given.placement j kk a.away a.near in
      let g : Grouped m 0 m.tasks q.entries = subst (Grouped m 0 m.tasks) (sym e)
      (grouped given kk m (λ task public. remote task ∙ public) (λ task public. remote task ∙ public)) in
      stub_rows given.program given.placement j m (well_modes given kk m there) x (logic kk)
      (stand given gone x logic parts ps kk m there) sensed (λ key. pos 0) q (gone kk)
      (jobs_active given gone x logic parts ps kk m there) (safe kk) a.away a.near 0 m.tasks (logic kk).tasks
      (texts_of given gone x logic parts ps kk m there).1
      (λ n u at. let z : 0 + n ≡ n = omega arith in ap (slice_get (logic kk).tasks) z ∙ at) q.entries t.entries g
      (both_entries (EntryFact m x (logic kk)) (Got (gone kk) m (suc x) x (logic kk)) q.entries t.entries f.facts
      f.gots)

  -- `state` is the program's, and node j sees what its modules put out after phase 1
  module _ (state : State) (size : length given.program.modules ≡ length state)
      (agree : (kk : ℕ) (m : Module) → slice_get given.program.modules kk ≡ Some m →
      slice_get state kk ≡ Some (logic kk)) (j : ℕ) (seen : PortKey → ℤ) (ns : List ℕ) (apart : Apart ns)
      (looks : (kk : ℕ) (m : Module) → slice_get given.program.modules kk ≡ Some m → hosts given.placement j kk ≡ true →
      (key : PortKey) → ReadsPort given.program kk m key → (key.module.0 == kk) ≡ false →
      seen key ≡ outputs_in (map (phase_one x) state) key) where
    -- what the logical modules put out after phase 1
    abbrev out : PortKey → ℤ
    out = outputs_in (map (phase_one x) state)

    -- the rows of module k in phase 1
    abbrev ports : ℕ → List Shown
    ports k = module_port_rows given.program given.placement j x k (logic k)

    -- those of phase 2
    abbrev acts : ℕ → List Shown
    acts k = module_act_rows x j k (phase_one x (logic k)) (look_of k (phase_one x (logic k)).tasks sensed seen)

    -- those of phase 3
    abbrev enters : ℕ → List Shown
    enters k = module_mode_rows x j k (logic k) (alone k x sensed seen (logic k))

    -- phase 1, part by part
    ones : (qs : List Part) → ((i : ℕ) (q : Part) → slice_get qs i ≡ Some q → PartAt given j (first_part q)) →
        Stubs qs →
        flat_map (port_rows_of given x j logic) qs ≡ flat_map (row_of ports ports) qs
    ones [] as' stubs = refl
    ones (Part.Host h s ∷ qs) as' stubs =
        ap (λ l. ports h.number.0 ++ l) (ones qs (λ i. as' (suc i)) (λ i. stubs (suc i)))
    ones (Part.Outside q t ∷ qs) as' stubs =
        ap₂ (λ a b. a ++ b) (stub_shows j q t (as' 0 (Part.Outside q t) refl) (stubs 0 q t refl))
        (ones qs (λ i. as' (suc i)) (λ i. stubs (suc i)))

    -- phase 2, part by part
    twos : (qs : List Part) → flat_map (act_rows_of given x j sensed seen logic) qs ≡ flat_map (row_of acts none) qs
    twos [] = refl
    twos (Part.Host h s ∷ qs) = ap (λ l. acts h.number.0 ++ l) (twos qs)
    twos (Part.Outside q t ∷ qs) = twos qs

    -- phase 3, part by part
    threes : (qs : List Part) →
        flat_map (mode_rows_of given x j sensed seen logic) qs ≡ flat_map (row_of enters none) qs
    threes [] = refl
    threes (Part.Host h s ∷ qs) = ap (λ l. enters h.number.0 ++ l) (threes qs)
    threes (Part.Outside q t ∷ qs) = threes qs

    -- the machine's state of module k is the program's
    same_state : (k : ℕ) (m : Module) (r : ModuleState) → slice_get given.program.modules k ≡ Some m →
        slice_get state k ≡ Some r → logic k ≡ r
    same_state k m r there at = same_Some (logic k) r (sym (agree k m there) ∙ at)

    -- the rows of the node's parts, module by module: f of hosts, g of stubs
    abbrev all_of : (ℕ → List Shown) → (ℕ → List Shown) → List Shown
    all_of f g = joined (numbered 0 (λ k m. of_module given.program given.placement j f g k) given.program.modules)

    -- phase 1, module by module
    ports_are : all_of ports ports ≡ port_rows given.program given.placement j x state
    ports_are = ports_right given.program given.placement j x ports state size
        (λ k m r there at. ap (module_port_rows given.program given.placement j x k) (same_state k m r there at))

    -- where a hosted module shows these rows of its state, so do all
    hosted_are : (f : ℕ → List Shown) (rows : ℕ → ModuleState → List Shown) →
        ((k : ℕ) (m : Module) (r : ModuleState) → slice_get given.program.modules k ≡ Some m →
        slice_get state k ≡ Some r → hosts given.placement j k ≡ true → f k ≡ rows k r) →
        all_of f none ≡ joined (numbered 0 (λ k r. if hosts given.placement j k then rows k r else []) state)
    hosted_are f rows h =
        beside (of_module given.program given.placement j f none)
        (λ k r. if hosts given.placement j k then rows k r else []) 0 given.program.modules state size
        (λ k m r there at. let z : k ≡ 0 + k = omega arith in
        subst (λ i. of_module given.program given.placement j f none i
        ≡ (if hosts given.placement j i then rows i r else [])) z
        (hosted_rows given.program given.placement j f k (rows k r) (h k m r there at)))

    -- phase 2, module by module
    acts_are : all_of acts none ≡ act_rows given.placement j x sensed (map (phase_one x) state)
    acts_are =
        hosted_are acts (λ k r. module_act_rows x j k (phase_one x r) (look_of k (phase_one x r).tasks sensed out))
        (λ k m r there at h.
        acts_same given.program k m (given.well_formed.modules k m there) x j sensed seen out
        (phase_one x (logic k)).tasks (phase_one x (logic k)) (texts_of given gone x logic parts ps k m there).0
        (looks k m there h)
        ∙ ap (λ (s : ModuleState). module_act_rows x j k (phase_one x s) (look_of k (phase_one x s).tasks sensed out))
        (same_state k m r there at))
        ∙ sym (ap joined (numbered-map (λ k (s : ModuleState).
        if hosts given.placement j k then module_act_rows x j k s (look_of k s.tasks sensed out) else [])
        (phase_one x) 0
        state))

    -- phase 3, module by module
    enters_are : all_of enters none ≡ mode_rows given.placement j x state (logical x sensed state)
    enters_are =
        hosted_are enters (λ k r. module_mode_rows x j k r (alone k x sensed out r)) (λ k m r there at h.
        ap (module_mode_rows x j k (logic k)) (alone_same given.program k m
        (given.well_formed.modules k m there) x sensed
        seen out (logic k) (texts_of given gone x logic parts ps k m there).0 (looks k m there h))
        ∙ ap (λ (s : ModuleState). module_mode_rows x j k s (alone k x sensed out s)) (same_state k m r there at))
        ∙ sym (modes_zip given.placement j x (λ k r. alone k x sensed out r) 0 state)
        ∙ ap (mode_rows_from given.placement j x 0 state) (sym (logical-alone x sensed state))

    -- all rows of the parts of the node
    parts_show : (qs : List Part) → Ordered given j qs → Stubs qs →
        node_shows given x j sensed seen logic qs
        ≡ node_rows given.program given.placement x sensed state j
    parts_show qs order stubs =
        let all = in_modules given.program given.placement given.schedule j in
        let a = ones qs (each_at given j qs order) stubs ∙ all ports ports qs order ∙ ports_are in
        let b = twos qs ∙ all acts none qs order ∙ acts_are in
        let c = threes qs ∙ all enters none qs order ∙ enters_are in
        ap₂ (λ u v. u ++ v) (ap₂ (λ u v. u ++ v) a b) c

  -- the rows of a node are what it sees of the logical instant
  pub node_shows-are : (state : State) → length given.program.modules ≡ length state →
      ((kk : ℕ) (m : Module) → slice_get given.program.modules kk ≡ Some m → slice_get state kk ≡ Some (logic kk)) →
      (j : ℕ) (n : NodeNow) → NodeShape given j n →
      ((kk : ℕ) (m : Module) → slice_get given.program.modules kk ≡ Some m → hosts given.placement j kk ≡ true →
      (key : PortKey) → ReadsPort given.program kk m key → (key.module.0 == kk) ≡ false →
      node_sees x logic n.parts key ≡ outputs_in (map (phase_one x) state) key) →
      Stubs n.parts → node_shows given x j sensed (node_sees x logic n.parts) logic n.parts
      ≡ node_rows given.program given.placement x sensed state j
  node_shows-are state size agree j n g looks stubs =
      parts_show state size agree j (node_sees x logic n.parts) (map part_number n.parts)
      (ascends-apart 0 n.parts g.up) looks n.parts g.order stubs
