-- The blocks of a hosted module, each as a move of its part, in all cases; and the entries of a stub.
use Rattle.std.proofs.Common.{◌≡◌, ℕ, suc, ◌+◌, ◌-◌, ◌*◌, ◌<◌, ◌≤◌, ℤ, List, [], map, length, Bool, true, false, ◌==◌, Option, Some, None, refl, ap, sym, ◌∙◌, arith}
use Rattle.std.specs.Prelude.{find, slice_get, option_map, unwrap_or}
use Rattle.tdl_base.specs.declared.numbers.PortKey.{PortKey}
use Rattle.tdl_body.specs.Values.{Look, holds}
use Rattle.tdl_mode.specs.declared.program.Module.{Module}
use Rattle.tdl_mode.specs.declared.program.Mode.{Mode}
use Rattle.tdl_mode.specs.declared.program.Switch.{Switch}
use Rattle.tdl_mode.specs.Offsets.{next_offset}
use Rattle.tdl_mode.specs.States.{TaskState, look_of}
use Rattle.tdl_image.specs.declared.hosted.Hosted.{Hosted}
use Rattle.tdl_ecode.specs.declared.instr.Block.{Block}
use Rattle.tdl_image.specs.declared.hosted.TaskTable.{TaskTable}
use Rattle.tdl_image.specs.declared.stub.Stub.{Stub}
use Rattle.tdl_base.specs.Sensed.{Sensed}
use Rattle.tdl_verify.specs.States.{HostNow, StubNow, Part, Times}
use Rattle.tdl_verify.specs.Turns.{due_of, phase_of}
use Rattle.tdl_verify.specs.Ends.{NoneReady, ended_tasks, ended_rows}
use Rattle.tdl_verify.specs.Sweeps.{Any, Sees, Apart}
use Rattle.tdl_gen.specs.BlockNames.{BlockName, block_number}
use Rattle.tdl_gen.specs.Blocks.{blocks_of, block_of, mode_block, switches_at}
use Rattle.tdl_gen.specs.Counts.{length_of}
use Rattle.tdl_gen.specs.HostSteps.{MovesTo, AtOffset, armed, ends_at, updates_of, AllOnce, updated, updated_rows, AllGuards, CanEnter, entering, entered_rows, after_phase_three, switched_rows, AllFree, all_started, outputs_of}
use Rattle.tdl_gen.specs.Takes.{OwnBlocks, taken, taken_rows, due_count}
use Rattle.tdl_verify.proofs.Leads.{leads_on}
use Rattle.tdl_verify.proofs.Sweeps.{idle_move}
use Rattle.tdl_gen.proofs.StubMoves.{takes_move}
use Rattle.tdl_gen.proofs.BlockPlaces.{block_found, starts_found}
use Rattle.tdl_gen.proofs.SwitchBlocks.{mode_run}
use Rattle.tdl_gen.proofs.StartBlocks.{outputs-all}
use Rattle.tdl_gen.proofs.HostBlocks.{begins, has_found, after_switches, rows_of_switches}
use Rattle.tdl_gen.proofs.HostMoves.{ends_move, updates_move, switches_move, starts_move, sees-kept, quiet}

-- nothing is added
now : (x : ℕ) → x + 0 ≡ x
now x = omega arith

module _ (x node : ℕ) (sensed : Sensed) (times : Times) (h : Hosted) (m : Module) (k o : ℕ) (mode : Mode)
    (at : AtOffset h m k o mode) where
  -- a block of the mode is as long as its name says
  long : (name : BlockName) → length (mode_block m (Some mode) name).code
      ≡ length (mode_block m (slice_get m.modes k) name).code
  long name = ap (λ d. length (mode_block m d name).code) (sym at.mode_at)

  -- the block of the ends
  pub ends_moves : (s : HostNow) → 0 < o → length m.tasks ≡ length s.tasks → NoneReady (ends_at mode o) 0 s.tasks →
      MovesTo x node sensed times 1 Any (Part.Host h (armed s x (block_number m (BlockName.Ends k o))))
      (Part.Host h (armed (record s { tasks = ended_tasks (ends_at mode o) 0 s.tasks }) x
      (block_number m (BlockName.Updates k o))))
      (ended_rows x node h.number.0 (ends_at mode o) 0 s.tasks) (length_of m (BlockName.Ends k o))
  unfolding ends_move
  ends_moves s above size ready = record {
    move = ends_move x node sensed times h m at.blocks k o mode at.mode_at at.offset above Any (λ f b p q fit. tt) s x
        refl size ready;
    from = refl;
    to = ap (λ y. Part.Host h (armed (record s { tasks = ended_tasks (ends_at mode o) 0 s.tasks }) y
        (block_number m (BlockName.Updates k o)))) (now x);
    shows = refl;
    cost = long (BlockName.Ends k o);
  }

  -- ---- what is seen of the parts stays

  module _ (seen : PortKey → ℤ) (ns : List ℕ) (apart : Apart ns) (us : List TaskState) (s : HostNow)
      (same : outputs_of s.tasks ≡ map (λ (u : TaskState). u.outputs) us) where
    -- what the module looks at
    abbrev look : Look
    look = look_of h.number.0 us sensed seen

    -- the block of the updates
    pub updates_moves : 0 < o → length m.actuators ≡ length s.actuators →
        AllOnce h m k (updates_of mode o) 0 s.actuators →
        MovesTo x node sensed times 2 (Sees seen ns) (Part.Host h (armed s x (block_number m (BlockName.Updates k o))))
        (Part.Host h (armed (record s { actuators = updated h look (updates_of mode o) 0 s.actuators }) x
        (block_number m (BlockName.Switches k o))))
        (updated_rows x node h look (updates_of mode o) 0 s.actuators) (length_of m (BlockName.Updates k o))
    unfolding updates_move
    updates_moves above size once = record {
      move = updates_move x node sensed times h m at.blocks k o mode at.mode_at at.offset above seen ns apart us s x
          refl size same (λ front back. once);
      from = refl;
      to = ap (λ y. Part.Host h (armed (record s { actuators = updated h look (updates_of mode o) 0 s.actuators }) y
          (block_number m (BlockName.Switches k o)))) (now x);
      shows = refl;
      cost = long (BlockName.Updates k o);
    }

    -- where phase 3 leads, now
    led : (w : Option Switch) (over : Bool) →
        after_switches x node sensed times h [] [] m at.blocks k o mode at.mode_at at.offset s w over
        ≡ after_phase_three x m k o s w over
    led (Some w) over = ap (λ y. armed (record s { mode = Some w.target.0; base = x }) y
        (block_number m (BlockName.Starts w.target.0 0))) (now x)
    led None true = ap (λ y. armed (record s { mode = Some k; base = x }) y (block_number m (BlockName.Starts k 0)))
        (now x)
    led None false = ap (λ y. armed s y (block_number m (BlockName.Starts k o))) (now x)

    -- its rows
    led_rows : (w : Option Switch) (over : Bool) →
        rows_of_switches x node sensed times h [] [] m at.blocks k o mode at.mode_at at.offset s w over
        ≡ switched_rows x node h k s w over
    led_rows (Some w) over = refl
    led_rows None true = refl
    led_rows None false = refl

    -- the block of the switches
    pub switches_moves : 0 < o → o ≤ mode.period.0 → CanEnter m k →
        AllGuards h m k (switches_at mode o) →
        ((w : Switch) → find (λ v. holds v.guard look) (switches_at mode o) ≡ Some w → CanEnter m w.target.0) →
        MovesTo x node sensed times 3 (Sees seen ns) (Part.Host h (armed s x (block_number m (BlockName.Switches k o))))
        (Part.Host h
        (after_phase_three x m k o s (find (λ v. holds v.guard look) (switches_at mode o)) (o == mode.period.0)))
        (switched_rows x node h k s (find (λ v. holds v.guard look) (switches_at mode o)) (o == mode.period.0))
        (length_of m (BlockName.Switches k o))
    unfolding switches_move
    switches_moves above le enter guards target =
        let w : Option Switch = find (λ v. holds v.guard look) (switches_at mode o) in
        record {
          move = switches_move x node sensed times h m at.blocks k o mode at.mode_at at.offset above seen ns apart us s
              x refl enter le same
              target
              (λ front back. guards);
          from = refl;
          to = ap (Part.Host h) (led w (o == mode.period.0));
          shows = led_rows w (o == mode.period.0);
          cost = long (BlockName.Switches k o);
        }

    -- the block of the starts
    pub starts_moves : (tables : ℕ → TaskTable) → o < mode.period.0 →
        AllFree times h m k o look tables 1 mode.invocations s.tasks →
        MovesTo x node sensed times 4 (Sees seen ns) (Part.Host h (armed s x (block_number m (BlockName.Starts k o))))
        (Part.Host h (armed (record s { tasks = all_started times h k o look tables 1 mode.invocations s.tasks })
        (x + (next_offset mode o - o)) (block_number m (BlockName.Ends k (next_offset mode o)))))
        [] (length_of m (BlockName.Starts k o))
    unfolding starts_move
    starts_moves tables below free = record {
      move = starts_move x node sensed times h m at.blocks k o mode at.mode_at at.offset seen ns apart us tables s x
          refl below same
          (outputs-all x node sensed times h (block_number m (BlockName.Starts k o)) [] [] m k o look tables 1
          mode.invocations s.tasks) (λ front back. free);
      from = refl;
      to = refl;
      shows = refl;
      cost = long (BlockName.Starts k o);
    }

-- the entry block: the start mode is entered
pub entry_moves : (x node : ℕ) (sensed : Sensed) (times : Times) (h : Hosted) (m : Module) → h.blocks ≡ blocks_of m →
    (seen : PortKey → ℤ) (ns : List ℕ) (s : HostNow) → CanEnter m m.start.0 →
    MovesTo x node sensed times 3 (Sees seen ns) (Part.Host h (armed s x (block_number m BlockName.Boot)))
    (Part.Host h (entering x m s m.start.0)) (entered_rows x node h m.start.0 s) (length_of m BlockName.Boot)
entry_moves x node sensed times h m blocks seen ns s enter =
    let nb : ℕ = block_number m BlockName.Boot in
    let starts : ℕ = block_number m (BlockName.Starts m.start.0 0) in
    let found : slice_get h.blocks nb ≡ Some (block_of m BlockName.Boot) =
    ap (λ bs. slice_get bs nb) blocks ∙ block_found m BlockName.Boot refl in
    let phase : (k : ℕ) (b : Block) → slice_get h.blocks k ≡ Some b → phase_of h.blocks k ≡ b.phase =
    λ k b at. ap (λ o. unwrap_or (option_map (λ (c : Block). c.phase) o) 0) at in
    let next : slice_get h.blocks starts ≡ Some (mode_block m (Some enter.mode) (BlockName.Starts m.start.0 0)) =
    ap (λ bs. slice_get bs starts) blocks ∙ starts_found m m.start.0 0 enter.mode enter.at refl enter.lasts in
    let p : Part = Part.Host h (armed s x nb) in
    let q : Part = Part.Host h (armed (record s { mode = Some m.start.0; base = x }) (x + 0) starts) in
    record {
      move = record {
        before = p;
        after = q;
        rows = entered_rows x node h m.start.0 s;
        cost = 3;
        leads = λ front back fit low none.
            leads_on x node sensed times 0 3 _ _ _ _ _ _ _ _
            (begins x node sensed times h front back s x nb 3 refl (omega arith) (omega arith) (phase nb _ found) low
            none)
            (mode_run x node sensed times h nb front back (record s { trigger = None }) 0 m.start.0 starts
            (has_found x node sensed times h front back (record s { trigger = None }) nb _ found));
        fits = λ front back fit. sees-kept seen ns front p q back refl (λ t. refl) fit;
        below = λ r lt n. quiet x r n h (record s { mode = Some m.start.0; base = x }) (x + 0) starts 4
            (phase starts _ next) lt;
      };
      from = refl;
      to = ap (λ y. Part.Host h (armed (record s { mode = Some m.start.0; base = x }) y starts)) (now x);
      shows = refl;
      cost = refl;
    }

-- a part of which nothing of this phase or a lower one is due stays
pub rest_moves : (x node phase : ℕ) (sensed : Sensed) (times : Times) (Fit : List Part → Type 0) (p : Part) →
    ((q : ℕ) → q < suc phase → (n : ℕ) → due_of x q n p ≡ []) →
    MovesTo x node sensed times phase Fit p p [] 0
unfolding idle_move
rest_moves x node phase sensed times Fit p quiet = record {
  move = idle_move x node sensed times phase Fit p quiet;
  from = refl;
  to = refl;
  shows = refl;
  cost = refl;
}

-- the due entries of a stub
pub entries_move : (x node : ℕ) (sensed : Sensed) (times : Times) (p : Stub) (s : StubNow) → OwnBlocks p →
    length p.entries ≡ length s.entries →
    MovesTo x node sensed times 1 Any (Part.Outside p s) (Part.Outside p (taken x p s))
    (taken_rows x node p p.entries s.entries) (2 * due_count x s.entries)
unfolding takes_move
entries_move x node sensed times p s own size =
    record {
      move = takes_move x node sensed times Any (λ f b q r fit. tt) p own s size;
      from = refl;
      to = refl;
      shows
          = refl;
      cost = refl;
    }
