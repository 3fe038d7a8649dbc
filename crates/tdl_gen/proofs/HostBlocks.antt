-- The four blocks of a hosted module, from its trigger to the next.
use Rattle.std.proofs.Common.{◌≡◌, ℕ, ◌+◌, ◌-◌, ◌<◌, ℤ, List, [], ◌∷◌, ◌++◌, map, length, Bool, true, false, ◌&&◌, ◌==◌, Option, Some, None, refl, ap, ap₂, sym, ◌∙◌, subst, subst₂, arith, append-nil}
use Rattle.std.specs.Prelude.{slice_get, option_map, unwrap_or, if◌then◌else◌, find}
use Rattle.std.proofs.lemmas.Bool.{eq-eqb}
use Rattle.std.proofs.lemmas.List.{length-append, length-map}
use Rattle.tdl_body.specs.Values.{Look, holds}
use Rattle.tdl_mode.specs.declared.program.Module.{Module}
use Rattle.tdl_mode.specs.declared.program.Mode.{Mode}
use Rattle.tdl_mode.specs.declared.program.Update.{Update}
use Rattle.tdl_mode.specs.declared.program.Switch.{Switch}
use Rattle.tdl_mode.specs.Offsets.{is_offset, next_offset}
use Rattle.tdl_trace.specs.Shown.{Shown}
use Rattle.tdl_ecode.specs.declared.instr.EInstr.{EInstr}
use Rattle.tdl_ecode.specs.declared.instr.EInstr.TheVariants as ec
use Rattle.tdl_ecode.specs.declared.instr.Block.{Block}
use Rattle.tdl_image.specs.declared.hosted.Hosted.{Hosted}
use Rattle.tdl_image.specs.declared.hosted.TaskTable.{TaskTable}
use Rattle.tdl_base.specs.Sensed.{Sensed}
use Rattle.tdl_verify.specs.States.{TaskNow, HostNow, Part, Times}
use Rattle.tdl_verify.specs.Turns.{Due, Spot, due_of, phase_of, code_at, due_block_number, taken_out}
use Rattle.tdl_gen.specs.BlockNames.{BlockName, block_number}
use Rattle.tdl_gen.specs.Blocks.{blocks_of, mode_block, updates_at, switches_at, starting, laid, update_code, switch_code, start_code, cycle_code}
use Rattle.tdl_gen.specs.HostSteps.{armed, ends_at, updates_of, AllOnce, updated, updated_rows, AllGuards, AllFree, all_started}
use Rattle.tdl_verify.proofs.Leads.{Leads, leads_on, wider, begin, at_seam, changed-seam}
use Rattle.tdl_gen.proofs.BlockPlaces.{ends_found, updates_found, switches_found, starts_found}
use Rattle.tdl_verify.proofs.EndBlocks.{HasAt, has-append, has-self, NoneReady, ended_tasks, ended_rows, passing, ends_run}
use Rattle.tdl_gen.proofs.Guards.{Reads}
use Rattle.tdl_gen.proofs.UpdateBlocks.{updates_run}
use Rattle.tdl_gen.proofs.SwitchBlocks.{future_run, mode_run, mode_shown, switches_run, Leads_to}
use Rattle.tdl_gen.proofs.StartBlocks.{starts_run}
use Rattle.tdl_verify.proofs.Sweeps.{NoneBelow, NoneDue, least_at}

module _ (x node : ℕ) (sensed : Sensed) (times : Times) (h : Hosted) (front back : List Part) where
  -- at most so many instructions lead from one spot and these parts to another, with these plain rows
  abbrev Runs : ℕ → Spot → List Part → Spot → List Part → List Shown → Type 0
  Runs most from ps to qs rows = Leads x node sensed times most from ps to qs rows

  -- the parts of the node, with the host in this state
  abbrev parts : HostNow → List Part
  parts s = front ++ Part.Host h s ∷ back

  -- the host without a trigger
  abbrev disarmed : HostNow → HostNow
  disarmed s = record s { trigger = None }

  -- a due trigger of a host is taken out, and its block begins
  pub begins : (s : HostNow) (at block phase : ℕ) → at ≡ x → 0 < phase → phase < 5 →
      phase_of h.blocks block ≡ phase → NoneBelow x phase (parts (armed s at block)) → NoneDue x phase front →
      Runs 0 Spot.Between (parts (armed s at block)) (Spot.In (length front) block 0) (parts (disarmed s)) []
  begins s at block phase now above below is low none =
      let d : Due = record { part = length front; entry = 0 } in
      let p : Part = Part.Host h (armed s at block) in
      let here : due_of x phase (length front) p ≡ d ∷ [] =
      ap₂ (λ a c. if a && c then d ∷ [] else []) (eq-eqb at x now) (eq-eqb (phase_of h.blocks block) phase is) in
      subst₂ (λ b ps. Runs 0 Spot.Between (parts (armed s at block)) (Spot.In (length front) b 0) ps [])
      (ap (λ o. unwrap_or (option_map (due_block_number d) o) 0) (at_seam front p back))
      (changed-seam (taken_out d) front p back)
      (begin x node sensed times (parts (armed s at block)) d
      (least_at x phase front p back d [] above below low none here))

  -- the code of a block that is found
  code_found : (s : HostNow) (block : ℕ) (b : Block) → slice_get h.blocks block ≡ Some b →
      code_at block (Part.Host h s) ≡ b.code
  code_found s block b at = ap (λ o. unwrap_or (option_map (λ (k : Block). k.code) o) []) at

  -- the phase of a block that is found
  pub phase_found : (block : ℕ) (b : Block) → slice_get h.blocks block ≡ Some b → phase_of h.blocks block ≡ b.phase
  phase_found block b at = ap (λ o. unwrap_or (option_map (λ (k : Block). k.phase) o) 0) at

  -- a block that is found has its code
  pub has_found : (s : HostNow) (block : ℕ) (b : Block) → slice_get h.blocks block ≡ Some b →
      HasAt (code_at block (Part.Host h s)) 0 b.code
  has_found s block b at = subst (λ c. HasAt c 0 b.code) (sym (code_found s block b at)) (has-self [] b.code)

  module _ (m : Module) (blocks : h.blocks ≡ blocks_of m) (k o : ℕ) (mode : Mode)
      (is : slice_get m.modes k ≡ Some mode) (off : is_offset mode o ≡ true) where
    -- the number of the block that ends jobs
    abbrev ends_number : ℕ
    ends_number = block_number m (BlockName.Ends k o)

    -- the number of the block of the updates
    abbrev updates_number : ℕ
    updates_number = block_number m (BlockName.Updates k o)

    -- the number of the block of the switches
    abbrev switches_number : ℕ
    switches_number = block_number m (BlockName.Switches k o)

    -- the number of the block of the starts
    abbrev starts_number : ℕ
    starts_number = block_number m (BlockName.Starts k o)

    -- a block of the module is one of the host
    found : (nb : ℕ) (b : Block) → slice_get (blocks_of m) nb ≡ Some b → slice_get h.blocks nb ≡ Some b
    found nb b f = ap (λ bs. slice_get bs nb) blocks ∙ f

    -- the block that ends jobs
    abbrev ends_block : Block
    ends_block = mode_block m (Some mode) (BlockName.Ends k o)

    -- a task has an invocation that ends here
    abbrev pub ends_here : ℕ → Bool
    ends_here t = ends_at mode o t

    -- the block that ends jobs leads to the trigger of the updates: the tasks that end here show their outputs
    pub ends_leads : (s : HostNow) (at : ℕ) → at ≡ x → 0 < o → length m.tasks ≡ length s.tasks →
        NoneReady ends_here 0 s.tasks →
        NoneBelow x 1 (parts (armed s at ends_number)) → NoneDue x 1 front →
        Runs (length ends_block.code) Spot.Between (parts (armed s at ends_number))
        Spot.Between (parts (armed (record s { tasks = ended_tasks ends_here 0 s.tasks }) (x + 0) updates_number))
        (ended_rows x node h.number.0 ends_here 0 s.tasks)
    ends_leads s at now above size ready low none =
        let f : slice_get h.blocks ends_number ≡ Some ends_block =
        found ends_number ends_block (ends_found m k o mode is off above) in
        let ends : List ℕ = passing ends_here 0 m.tasks in
        let tail : List EInstr = ec.Future 0 updates_number ∷ ec.Return ∷ [] in
        let cut = has-append (code_at ends_number (Part.Host h (disarmed s))) 0 (map ec.End ends) tail
        (has_found (disarmed s) ends_number ends_block f) in
        let s' : HostNow = record (disarmed s) { tasks = ended_tasks ends_here 0 s.tasks } in
        let a = begins s at ends_number 1 now (omega arith) (omega arith) (phase_found ends_number ends_block f) low
        none in
        let b = ends_run x node sensed times h ends_number front back ends_here m.tasks [] s.tasks (disarmed s) 0 0
        refl size ready cut.0 in
        let l : length (map ec.End ends) ≡ length ends = length-map ends ec.End in
        let c = future_run x node sensed times h ends_number front back s' (0 + length ends) 0 updates_number
        (subst (λ n. HasAt (code_at ends_number (Part.Host h s')) n tail) (ap (λ n. 0 + n) l) cut.1) in
        let total : 0 + length ends + 2 ≡ length ends_block.code =
        omega (arith, length-append (map ec.End ends) tail, l) in
        subst₂ (λ n rs. Runs n Spot.Between (parts (armed s at ends_number)) Spot.Between
        (parts (armed s' (x + 0) updates_number)) rs) total
        (append-nil (ended_rows x node h.number.0 ends_here 0 s.tasks))
        (leads_on x node sensed times (0 + length ends) 2 _ _ _ _ _ _ _ _
        (leads_on x node sensed times 0 (length ends) _ _ _ _ _ _ _ _ a b) c)

    -- the block of the updates
    abbrev updates_block : Block
    updates_block = mode_block m (Some mode) (BlockName.Updates k o)

    -- the updates of an actuator here
    abbrev pub updates_here : ℕ → List Update
    updates_here a = updates_of mode o a

    -- the block of the updates leads to the trigger of the switches: the actuators are updated
    pub updates_leads : (look : Look) (s : HostNow) (at : ℕ) → at ≡ x → 0 < o →
        length m.actuators ≡ length s.actuators →
        AllOnce h m k updates_here 0 s.actuators →
        ((acts : List ℤ) → Reads (parts (record (disarmed s) { actuators = acts })) sensed h.number.0 look) →
        NoneBelow x 2 (parts (armed s at updates_number)) → NoneDue x 2 front →
        Runs (length updates_block.code) Spot.Between (parts (armed s at updates_number))
        Spot.Between (parts (armed (record s { actuators = updated h look updates_here 0 s.actuators }) (x + 0)
        switches_number))
        (updated_rows x node h look updates_here 0 s.actuators)
    updates_leads look s at now above size once reads low none =
        let f : slice_get h.blocks updates_number ≡ Some updates_block =
        found updates_number updates_block (updates_found m k o mode is off above) in
        let code : List EInstr = laid (update_code m k) 0 (updates_at m mode o) in
        let tail : List EInstr = ec.Future 0 switches_number ∷ ec.Return ∷ [] in
        let cut = has-append (code_at updates_number (Part.Host h (disarmed s))) 0 code tail
        (has_found (disarmed s) updates_number updates_block f) in
        let s' : HostNow = record (disarmed s) { actuators = updated h look updates_here 0 s.actuators } in
        let a = begins s at updates_number 2 now (omega arith) (omega arith)
        (phase_found updates_number updates_block f) low none in
        let b = updates_run x node sensed times h updates_number front back m k look updates_here m.actuators
        (disarmed s) [] s.actuators 0 0 refl size once reads cut.0 in
        let c = future_run x node sensed times h updates_number front back s' (0 + length code) 0 switches_number
        cut.1 in
        let total : 0 + length code + 2 ≡ length updates_block.code = omega (arith, length-append code tail) in
        subst₂ (λ n rs. Runs n Spot.Between (parts (armed s at updates_number)) Spot.Between
        (parts (armed s' (x + 0) switches_number)) rs) total
        (append-nil (updated_rows x node h look updates_here 0 s.actuators))
        (leads_on x node sensed times (0 + length code) 2 _ _ _ _ _ _ _ _
        (leads_on x node sensed times 0 (length code) _ _ _ _ _ _ _ _ a b) c)

    -- the block of the starts
    abbrev starts_block : Block
    starts_block = mode_block m (Some mode) (BlockName.Starts k o)

    -- the block of the starts leads to the trigger of the next offset: the jobs that start here are ready
    pub starts_leads : (look : Look) (tables : ℕ → TaskTable) (s : HostNow) (at : ℕ) → at ≡ x → o < mode.period.0 →
        AllFree times h m k o look tables 1 mode.invocations s.tasks →
        ((us : List TaskNow) → map (λ (u : TaskNow). u.outputs) us ≡ map (λ (u : TaskNow). u.outputs) s.tasks →
        Reads (parts (record (disarmed s) { tasks = us })) sensed h.number.0 look) →
        NoneBelow x 4 (parts (armed s at starts_number)) → NoneDue x 4 front →
        Runs (length starts_block.code) Spot.Between (parts (armed s at starts_number))
        Spot.Between (parts (armed (record s {
          tasks =
              all_started times h k o look tables 1 mode.invocations s.tasks;
        })
        (x + (next_offset mode o - o)) (block_number m (BlockName.Ends k (next_offset mode o))))) []
    starts_leads look tables s at now below free reads low none =
        let f : slice_get h.blocks starts_number ≡ Some starts_block =
        found starts_number starts_block (starts_found m k o mode is off below) in
        let code : List EInstr = laid (start_code m k) 0 (starting mode o) in
        let dt : ℕ = next_offset mode o - o in
        let then' : ℕ = block_number m (BlockName.Ends k (next_offset mode o)) in
        let tail : List EInstr = ec.Future dt then' ∷ ec.Return ∷ [] in
        let cut = has-append (code_at starts_number (Part.Host h (disarmed s))) 0 code tail
        (has_found (disarmed s) starts_number starts_block f) in
        let s' : HostNow = record (disarmed s) {
          tasks =
              all_started times h k o look tables 1 mode.invocations s.tasks;
        } in
        let a = begins s at starts_number 4 now (omega arith) (omega arith)
        (phase_found starts_number starts_block f) low none in
        let b = starts_run x node sensed times h starts_number front back m k o look (disarmed s) tables 1
        mode.invocations s.tasks 0 (map (λ (u : TaskNow). u.outputs) s.tasks) free refl reads cut.0 in
        let c = future_run x node sensed times h starts_number front back s' (0 + length code) dt then' cut.1 in
        let total : 0 + length code + 2 ≡ length starts_block.code = omega (arith, length-append code tail) in
        subst (λ n. Runs n Spot.Between (parts (armed s at starts_number)) Spot.Between
        (parts (armed s' (x + dt) then')) []) total
        (leads_on x node sensed times (0 + length code) 2 _ _ _ _ _ _ _ _
        (leads_on x node sensed times 0 (length code) _ _ _ _ _ _ _ _ a b) c)

    -- the block of the switches
    abbrev switches_block : Block
    switches_block = mode_block m (Some mode) (BlockName.Switches k o)

    -- where the block of phase 3 leads: the mode is switched, or entered again, or goes on
    abbrev pub after_switches : HostNow → Option Switch → Bool → HostNow
    after_switches s (Some w) over = armed (record s { mode = Some w.target.0; base = x }) (x + 0)
        (block_number m (BlockName.Starts w.target.0 0))
    after_switches s None true = armed (record s { mode = Some k; base = x }) (x + 0)
        (block_number m (BlockName.Starts k 0))
    after_switches s None false = armed s (x + 0) starts_number

    -- the rows of the block of phase 3: of a mode that is entered anew
    abbrev pub rows_of_switches : HostNow → Option Switch → Bool → List Shown
    rows_of_switches s (Some w) over = mode_shown x node sensed times h switches_number front back w.target.0 s
    rows_of_switches s None true = mode_shown x node sensed times h switches_number front back k s
    rows_of_switches s None false = []

    -- the end of the block of the switches, where no switch is taken
    cycle_leads : (s : HostNow) (pc : ℕ) (over : Bool) → (o == mode.period.0) ≡ over →
        HasAt (code_at switches_number (Part.Host h (disarmed s))) pc (cycle_code m k mode o) →
        Runs (length (cycle_code m k mode o)) (Spot.In (length front) switches_number pc) (parts (disarmed s))
        Spot.Between (parts (after_switches s None over)) (rows_of_switches s None over)
    cycle_leads s pc true over has =
        rw over (mode_run x node sensed times h switches_number front back (disarmed s) pc k
        (block_number m (BlockName.Starts k 0))
        (subst (λ (t : Bool). HasAt (code_at switches_number (Part.Host h (disarmed s))) pc
        (if t then ec.Mode k ∷ ec.Future 0 (block_number m (BlockName.Starts k 0)) ∷ ec.Return
        ∷ [] else (ec.Future 0 starts_number ∷ ec.Return ∷ []))) over has))
    cycle_leads s pc false over has =
        rw over (future_run x node sensed times h switches_number front back (disarmed s) pc 0 starts_number
        (subst (λ (t : Bool). HasAt (code_at switches_number (Part.Host h (disarmed s))) pc
        (if t then ec.Mode k ∷ ec.Future 0 (block_number m (BlockName.Starts k 0)) ∷ ec.Return
        ∷ [] else (ec.Future 0 starts_number ∷ ec.Return ∷ []))) over has))

    -- the switches and what follows where none is taken, together
    past_switches : (look : Look) (s : HostNow) (n c : ℕ) (w : Option Switch) →
        Leads_to x node sensed times h switches_number front back m k look (disarmed s) 0 n w →
        Runs c (Spot.In (length front) switches_number (0 + n)) (parts (disarmed s)) Spot.Between
        (parts (after_switches s None (o == mode.period.0))) (rows_of_switches s None (o == mode.period.0)) →
        Runs (n + c) (Spot.In (length front) switches_number 0) (parts (disarmed s)) Spot.Between
        (parts (after_switches s w (o == mode.period.0))) (rows_of_switches s w (o == mode.period.0))
    past_switches look s n c None first rest = leads_on x node sensed times n c _ _ _ _ _ _ _ _ first rest
    past_switches look s n c (Some w) first rest = wider x node sensed times n (n + c) _ _ _ _ _ (omega arith) first

    -- the block of the switches leads to the trigger of the starts of the mode that is on
    pub switches_leads : (look : Look) (s : HostNow) (at : ℕ) → at ≡ x → 0 < o →
        AllGuards h m k (switches_at mode o) →
        Reads (parts (disarmed s)) sensed h.number.0 look →
        NoneBelow x 3 (parts (armed s at switches_number)) → NoneDue x 3 front →
        Runs (length switches_block.code) Spot.Between (parts (armed s at switches_number))
        Spot.Between (parts (after_switches s (find (λ w. holds w.guard look) (switches_at mode o))
        (o == mode.period.0)))
        (rows_of_switches s (find (λ w. holds w.guard look) (switches_at mode o)) (o == mode.period.0))
    switches_leads look s at now above guards reads low none =
        let f : slice_get h.blocks switches_number ≡ Some switches_block =
        found switches_number switches_block (switches_found m k o mode is off above) in
        let code : List EInstr = laid (switch_code m k) 0 (switches_at mode o) in
        let cut = has-append (code_at switches_number (Part.Host h (disarmed s))) 0 code (cycle_code m k mode o)
        (has_found (disarmed s) switches_number switches_block f) in
        let a = begins s at switches_number 3 now (omega arith) (omega arith)
        (phase_found switches_number switches_block f) low none in
        let b = switches_run x node sensed times h switches_number front back m k look (switches_at mode o)
        (disarmed s) 0 guards reads cut.0 in
        let c = cycle_leads s (0 + length code) (o == mode.period.0) refl cut.1 in
        let total : 0 + (length code + length (cycle_code m k mode o)) ≡ length switches_block.code =
        omega (arith, length-append code (cycle_code m k mode o)) in
        subst (λ n. Runs n Spot.Between (parts (armed s at switches_number)) Spot.Between
        (parts (after_switches s (find (λ w. holds w.guard look) (switches_at mode o)) (o == mode.period.0)))
        (rows_of_switches s (find (λ w. holds w.guard look) (switches_at mode o)) (o == mode.period.0))) total
        (leads_on x node sensed times 0 (length code + length (cycle_code m k mode o)) _ _ _ _ _ _ _ _ a
        (past_switches look s (length code) (length (cycle_code m k mode o))
        (find (λ w. holds w.guard look) (switches_at mode o)) b c))
