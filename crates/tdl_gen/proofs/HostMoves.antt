-- The blocks of a hosted module as moves of the phases' sweeps.
use Rattle.std.proofs.Common.{◌≡◌, ℕ, ◌+◌, ◌-◌, ◌<◌, ◌≤◌, ℤ, List, [], ◌∷◌, ◌++◌, map, length, Bool, true, false, ◌==◌, Option, Some, None, refl, ap, sym, ◌∙◌, arith}
use Rattle.std.specs.Prelude.{slice_get, option_map, unwrap_or}
use Rattle.std.proofs.lemmas.Bool.{ne_eqb}
use Rattle.std.proofs.lemmas.Bool.Decides.{nat_tests}
use Rattle.tdl_base.specs.declared.numbers.PortKey.{PortKey}
use Rattle.tdl_body.specs.Values.{Look, holds}
use Rattle.tdl_mode.specs.declared.program.Module.{Module}
use Rattle.tdl_mode.specs.declared.program.Mode.{Mode}
use Rattle.tdl_mode.specs.Offsets.{is_offset, next_offset, offset_list}
use Rattle.tdl_mode.specs.States.{TaskState, look_of}
use Rattle.tdl_ecode.specs.declared.instr.Block.{Block}
use Rattle.tdl_image.specs.declared.hosted.Hosted.{Hosted}
use Rattle.tdl_base.specs.Sensed.{Sensed}
use Rattle.tdl_verify.specs.States.{TaskNow, HostNow, Part, Times, part_outputs}
use Rattle.tdl_verify.specs.Turns.{due_of, phase_of}
use Rattle.tdl_gen.specs.BlockNames.{BlockName, block_number}
use Rattle.tdl_gen.specs.Blocks.{blocks_of, mode_block, switches_at}
use Rattle.tdl_gen.proofs.BlockPlaces.{updates_found, switches_found, starts_found}
use Rattle.tdl_verify.proofs.EndBlocks.{NoneReady, ended_tasks, ended_rows}
use Rattle.tdl_gen.proofs.UpdateBlocks.{AllOnce}
use Rattle.tdl_gen.proofs.Seen.{reads-logical}
use Rattle.tdl_gen.proofs.HostBlocks.{ends_leads, updates_here, updates_leads, after_switches, rows_of_switches, switches_leads, starts_leads}
use Rattle.tdl_gen.proofs.SwitchBlocks.{AllGuards}
use Rattle.tdl_gen.proofs.StartBlocks.{AllFree}
use Rattle.tdl_image.specs.declared.hosted.TaskTable.{TaskTable}
use Rattle.tdl_mode.specs.declared.program.Switch.{Switch}
use Rattle.tdl_trace.specs.Shown.{Shown}
use Rattle.std.specs.Prelude.{find}
use Rattle.std.proofs.lemmas.Option.{slice_get-map}
use Rattle.tdl_mode.proofs.NextOffsets.{above_least}
use Rattle.tdl_verify.proofs.Sweeps.{Move}
use Rattle.tdl_gen.specs.HostSteps.{armed, ends_at, updates_of, updated, updated_rows, all_started, CanEnter}
pub use Rattle.tdl_gen.proofs.PartViews.{NotIn, Apart, Sees, sees-kept, quiet}
use Rattle.tdl_gen.proofs.PartViews.{sees-none}

module _ (x node : ℕ) (sensed : Sensed) (times : Times) (h : Hosted) (m : Module) (blocks : h.blocks ≡ blocks_of m)
    (k o : ℕ) (mode : Mode) (is : slice_get m.modes k ≡ Some mode) (off : is_offset mode o ≡ true) where
  -- the number of the block that ends jobs
  abbrev ends_number : ℕ
  ends_number = block_number m (BlockName.Ends k o)

  -- the number of the block of the updates
  abbrev updates_number : ℕ
  updates_number = block_number m (BlockName.Updates k o)

  -- the number of the block of the switches
  abbrev switches_number : ℕ
  switches_number = block_number m (BlockName.Switches k o)

  -- the number of the block of the starts
  abbrev starts_number : ℕ
  starts_number = block_number m (BlockName.Starts k o)

  -- where a switch or the end of the cycle leads
  abbrev led_by : HostNow → Option Switch → Bool → HostNow
  led_by = after_switches x node sensed times h [] [] m blocks k o mode is off

  -- the rows of a mode that is so entered
  abbrev rows_led_by : HostNow → Option Switch → Bool → List Shown
  rows_led_by = rows_of_switches x node sensed times h [] [] m blocks k o mode is off

  -- the phase of a block of the module is its phase on the host
  pub phase_at : (nb : ℕ) (b : Block) → slice_get (blocks_of m) nb ≡ Some b → phase_of h.blocks nb ≡ b.phase
  phase_at nb b f = ap (λ bs. phase_of bs nb) blocks ∙ ap (λ o. unwrap_or (option_map (λ (k : Block). k.phase) o) 0) f

  -- the host's move in phase 1
  unfoldable pub ends_move : 0 < o → (Fit : List Part → Type 0) →
      ((front back : List Part) (p q : Part) → Fit (front ++ p ∷ back) → Fit (front ++ q ∷ back)) →
      (s : HostNow) (at : ℕ) → at ≡ x → length m.tasks ≡ length s.tasks →
      NoneReady (ends_at mode o) 0 s.tasks → Move x node sensed times 1 Fit
  ends_move above Fit any s at now size ready = record {
    before = Part.Host h (armed s at ends_number);
    after = Part.Host h (armed (record s { tasks = ended_tasks (ends_at mode o) 0 s.tasks }) (x + 0) updates_number);
    rows = ended_rows x node h.number.0 (ends_at mode o) 0 s.tasks;
    cost = length (mode_block m (Some mode) (BlockName.Ends k o)).code;
    leads = λ front back fit low none. ends_leads x node sensed times h front back m blocks k o mode is off s at now
        above size ready low none;
    fits = λ front back fit. any front back _ _ fit;
    below = λ q lt n. quiet x q n h (record s { tasks = ended_tasks (ends_at mode o) 0 s.tasks }) (x + 0)
        updates_number 2
        (phase_at updates_number _ (updates_found m k o mode is off above)) lt;
  }

  -- what the module may look at
  abbrev pub look : (PortKey → ℤ) → List TaskState → Look
  look seen us = look_of h.number.0 us sensed seen

  -- the host with its actuators updated
  abbrev pub after_updates : (PortKey → ℤ) → List TaskState → HostNow → HostNow
  after_updates seen us s = record s { actuators = updated h (look seen us) (updates_of mode o) 0 s.actuators }

  -- the host's move in phase 2
  unfoldable pub updates_move : 0 < o → (seen : PortKey → ℤ) (ns : List ℕ) → Apart ns →
      (us : List TaskState) (s : HostNow) (at : ℕ) → at ≡ x → length m.actuators ≡ length s.actuators →
      map (λ (w : TaskNow). w.outputs) s.tasks ≡ map (λ (u : TaskState). u.outputs) us →
      ((front back : List Part) → AllOnce x node sensed times h updates_number front back m k (look seen us)
      (updates_here x node sensed times h front back m blocks k o mode is off) 0 s.actuators) →
      Move x node sensed times 2 (Sees seen ns)
  updates_move above seen ns apart us s at now size same once = record {
    before = Part.Host h (armed s at updates_number);
    after = Part.Host h (armed (after_updates seen us s) (x + 0) switches_number);
    rows = updated_rows x node h (look seen us) (updates_of mode o) 0 s.actuators;
    cost = length (mode_block m (Some mode) (BlockName.Updates k o)).code;
    leads = λ front back fit low none.
        let p : Part = Part.Host h (armed s at updates_number) in
        updates_leads x node sensed times h front back m blocks k o mode is off (look seen us) s at now above size
        (once front back)
        (λ acts. let q : HostNow = record s { trigger = None; actuators = acts } in
        reads-logical front h q back sensed us seen (sees-none seen ns apart front p back fit) same
        (sees-kept seen ns front p (Part.Host h q) back refl (λ t. refl) fit).outputs) low none;
    fits = λ front back fit. sees-kept seen ns front (Part.Host h (armed s at updates_number))
        (Part.Host h (armed (after_updates seen us s) (x + 0) switches_number)) back refl (λ t. refl) fit;
    below = λ q lt n. quiet x q n h (after_updates seen us s) (x + 0) switches_number 3
        (phase_at switches_number _ (switches_found m k o mode is off above)) lt;
  }

  -- a mode that is there and lasts
  abbrev pub Enters : ℕ → Type 0
  Enters j = CanEnter m j

  -- the entry block of a mode that is there is of phase 4
  enters_phase : (j : ℕ) → Enters j → phase_of h.blocks (block_number m (BlockName.Starts j 0)) ≡ 4
  enters_phase j e = phase_at (block_number m (BlockName.Starts j 0)) _ (starts_found m j 0 e.mode e.at refl e.lasts)

  -- where the switches lead: a part whose outputs and number are as before, with a trigger of phase 4
  abbrev pub Led : HostNow → Option Switch → Bool → Type 0
  Led s w over = ((t : ℕ) → part_outputs (Part.Host h s) t ≡ part_outputs (Part.Host h (led_by s w over)) t)
      × ((q : ℕ) → q < 4 → (n : ℕ) → due_of x q n (Part.Host h (led_by s w over)) ≡ [])

  -- the switches lead there where the modes are there
  pub led : (s : HostNow) (w : Option Switch) (over : Bool) → Enters k → ((o == mode.period.0) ≡ over) →
      o ≤ mode.period.0 → ((v : Switch) → w ≡ Some v → Enters v.target.0) → Led s w over
  led s (Some w) over e is' le target = (
    (λ t. refl),
    (λ q lt n. quiet x q n h (record s { mode = Some w.target.0; base = x }) (x + 0)
        (block_number m (BlockName.Starts w.target.0 0)) 4 (enters_phase w.target.0 (target w refl)) lt),
  )
  led s None true e is' le target = (
    (λ t. refl),
    (λ q lt n. quiet x q n h (record s { mode = Some k; base = x }) (x + 0) (block_number m (BlockName.Starts k 0))
        4 (enters_phase k e) lt),
  )
  led s None false e is' le target = (
    (λ t. refl),
    (λ q lt n. quiet x q n h s (x + 0) starts_number 4
        (phase_at starts_number _ (starts_found m k o mode is off (below o mode.period.0 is' le))) lt),
  )
    where
      below : (a b : ℕ) → (a == b) ≡ false → a ≤ b → a < b
      below a b e le = grind (arith, nat_tests, e, le)

  -- the host's move in phase 3
  unfoldable pub switches_move : 0 < o → (seen : PortKey → ℤ) (ns : List ℕ) → Apart ns →
      (us : List TaskState) (s : HostNow) (at : ℕ) → at ≡ x → Enters k → o ≤ mode.period.0 →
      map (λ (w : TaskNow). w.outputs) s.tasks ≡ map (λ (u : TaskState). u.outputs) us →
      ((v : Switch) → find (λ w. holds w.guard (look seen us)) (switches_at mode o) ≡ Some v → Enters v.target.0) →
      ((front back : List Part) → AllGuards x node sensed times h switches_number front back m k (look seen us)
      (switches_at mode o)) →
      Move x node sensed times 3 (Sees seen ns)
  switches_move above seen ns apart us s at now enters le same target guards =
      let w : Option Switch = find (λ w. holds w.guard (look seen us)) (switches_at mode o) in
      let l = led s w (o == mode.period.0) enters refl le target in
      let p : Part = Part.Host h (armed s at switches_number) in
      record {
        before = p;
        after = Part.Host h (led_by s w (o == mode.period.0));
        rows = rows_led_by s w (o == mode.period.0);
        cost = length (mode_block m (Some mode) (BlockName.Switches k o)).code;
        leads = λ front back fit low none.
            let q : HostNow = record s { trigger = None } in
            (switches_leads x node sensed times h front back m blocks k o mode is off (look seen us) s at now above
            (guards front back)
            (reads-logical front h q back sensed us seen (sees-none seen ns apart front p back fit) same
            (sees-kept seen ns front p (Part.Host h q) back refl (λ t. refl) fit).outputs) low none);
        fits = λ front back fit. sees-kept seen ns front p (Part.Host h (led_by s w (o == mode.period.0))) back refl
            l.0 fit;
        below = λ q lt n. l.1 q lt n;
      }

  -- a host whose trigger stands at another instant is not due
  pub not_due : (q n : ℕ) (s : HostNow) (at block : ℕ) → (at == x) ≡ false →
      due_of x q n (Part.Host h (armed s at block)) ≡ []
  not_due q n s at block e = rw e refl

  -- tasks with the same outputs give the part the same outputs
  pub part_outputs-started : (ws vs : List TaskNow) (s : HostNow) (t : ℕ) →
      map (λ (w : TaskNow). w.outputs) vs ≡ map (λ (w : TaskNow). w.outputs) ws →
      part_outputs (Part.Host h (record s { tasks = ws })) t ≡ part_outputs (Part.Host h (record s { tasks = vs })) t
  part_outputs-started ws vs s t same =
      ap (λ o. unwrap_or o []) (sym (slice_get-map (λ (w : TaskNow). w.outputs) ws t)
      ∙ ap (λ os. slice_get os t) (sym same) ∙ slice_get-map (λ (w : TaskNow). w.outputs) vs t)

  -- the host with the jobs that start here ready
  abbrev pub after_starts : (PortKey → ℤ) → List TaskState → (ℕ → TaskTable) → HostNow → HostNow
  after_starts seen us tables s = record s {
    tasks =
        all_started times h k o (look seen us) tables 1 mode.invocations s.tasks;
  }

  -- the host's move in phase 4
  unfoldable pub starts_move : (seen : PortKey → ℤ) (ns : List ℕ) → Apart ns →
      (us : List TaskState) (tables : ℕ → TaskTable) (s : HostNow) (at : ℕ) → at ≡ x → o < mode.period.0 →
      map (λ (w : TaskNow). w.outputs) s.tasks ≡ map (λ (u : TaskState). u.outputs) us →
      map (λ (w : TaskNow). w.outputs) (after_starts seen us tables s).tasks ≡
      map (λ (w : TaskNow). w.outputs) s.tasks →
      ((front back : List Part) → AllFree x node sensed times h starts_number front back m k o (look seen us) tables
      1 mode.invocations s.tasks) →
      Move x node sensed times 4 (Sees seen ns)
  starts_move seen ns apart us tables s at now below same keeps free =
      let p : Part = Part.Host h (armed s at starts_number) in
      let r : Part = Part.Host h (armed (after_starts seen us tables s) (x + (next_offset mode o - o))
      (block_number m (BlockName.Ends k (next_offset mode o)))) in
      let later : (x + (next_offset mode o - o) == x) ≡ false =
      ne_eqb (x + (next_offset mode o - o)) x (λ e. let lt =
      above_least o (offset_list mode) mode.period.0 below in omega (arith, e, lt)) in
      record {
        before = p;
        after = r;
        rows = [];
        cost = length (mode_block m (Some mode) (BlockName.Starts k o)).code;
        leads = λ front back fit low none.
            starts_leads x node sensed times h front back m blocks k o mode is off (look seen us) tables s at now
            below (free front back)
            (λ vs e. let q : HostNow = record s { trigger = None; tasks = vs } in
            reads-logical front h q back sensed us seen (sees-none seen ns apart front p back fit) (e ∙ same)
            (sees-kept seen ns front p (Part.Host h q) back refl (λ t. part_outputs-started s.tasks vs s t e)
            fit).outputs) low none;
        fits = λ front back fit. sees-kept seen ns front p r back refl
            (λ t. part_outputs-started s.tasks (after_starts seen us tables s).tasks s t keeps) fit;
        below = λ q lt n. not_due q n (after_starts seen us tables s) (x + (next_offset mode o - o))
            (block_number m (BlockName.Ends k (next_offset mode o))) later;
      }
