-- The turn of a hosted module at instant 0: its first block, then the releases of its start mode.
use Rattle.std.proofs.Common.{◌≡◌, ℕ, suc, ◌+◌, ◌<◌, ◌≤◌, ℤ, List, [], ◌∷◌, map, length, Some, None, refl, ap, ap₂, sym, ◌∙◌, arith}
use Rattle.std.specs.Prelude.{slice_get, option_map, unwrap_or}
use Rattle.std.proofs.lemmas.Bool.{lt-ltb}
use Rattle.std.proofs.lemmas.List.{length-map, length-append}
use native.Mathlib.Nat.{dvd-zero}
use Rattle.tdl_base.specs.declared.numbers.PortKey.{PortKey}
use Rattle.tdl_mode.specs.declared.program.Module.{Module}
use Rattle.tdl_mode.specs.declared.program.Mode.{Mode}
use Rattle.tdl_mode.specs.declared.program.Task.{Task}
use Rattle.tdl_mode.specs.declared.program.PortDef.{PortDef}
use Rattle.tdl_mode.specs.States.{TaskState, look_of, initials_of}
use Rattle.tdl_mode.specs.Phases.{phase_four}
use Rattle.tdl_mode.specs.Instants.{begun_task, entered}
use Rattle.tdl_trace.specs.Shown.{Shown}
use Rattle.tdl_ecode.specs.declared.instr.EInstr.TheVariants as ec
use Rattle.tdl_ecode.specs.declared.instr.Block.{Block}
use Rattle.tdl_image.specs.declared.hosted.Hosted.{Hosted}
use Rattle.tdl_base.specs.Sensed.{Sensed}
use Rattle.tdl_verify.specs.States.{TaskNow, HostNow, Part, Times, part_outputs, task_first}
use Rattle.tdl_verify.specs.States as st
use Rattle.tdl_verify.specs.Turns.{due_of, phase_of}
use Rattle.tdl_gen.specs.BlockNames.{BlockName, block_number}
use Rattle.tdl_gen.specs.Blocks.{block_of, mode_block, ending, updates_at, laid, update_code}
use Rattle.tdl_gen.specs.Counts.{greatest, length_of, before_starts, at_offsets, has_ends, module_count}
use Rattle.tdl_gen.specs.Tables.{hosted_of, task_table, initials}
use Rattle.tdl_mode.specs.WellFormed.{WellModule}
use Rattle.tdl_meaning.proofs.HostFacts.{ReleasePairs}
use Rattle.tdl_gen.proofs.BlockPlaces.{block_found, starts_found}
use Rattle.tdl_verify.proofs.Leads.{leads_on}
use Rattle.tdl_gen.proofs.HostBlocks.{begins, has_found}
use Rattle.tdl_gen.proofs.SwitchBlocks.{mode_run}
use Rattle.tdl_gen.proofs.Budget.{at_most}
use Rattle.tdl_mode.proofs.NextOffsets.{zero_offset, period_offset}
use Rattle.tdl_verify.proofs.Sweeps.{Move}
use Rattle.tdl_gen.proofs.HostMoves.{Apart, Sees, sees-kept, quiet}
use Rattle.tdl_meaning.proofs.PhaseFour.{Timely, AllCovered, BeforeStarts, StartsTurn, starts_turn}
use Rattle.tdl_meaning.proofs.PartMoves.{Any, PartMoves}
use Rattle.tdl_meaning.proofs.HostTurns.{HostComes}
use Rattle.tdl_meaning.proofs.IdleTurn.{idle_move}
use Rattle.tdl_meaning.specs.Accepted.{Accepted}
use Rattle.tdl_meaning.proofs.ItemPlaces.{item_at}
use Rattle.tdl_deploy.specs.AtRelease.{worst_case_of}
use Rattle.tdl_meaning.specs.HostInStep.{covers_of}

-- the first values of ports on the node are those of their definitions
pub initial_values-same : (ports : List PortDef) → st.initial_values (initials ports) ≡ initials_of ports
initial_values-same [] = refl
initial_values-same (p ∷ ps) = ap (λ vs. p.initial ∷ vs) (initial_values-same ps)

-- the first outputs of all tasks are the same
pub outputs-first : (ts : List Task) → map (λ (w : TaskNow). w.outputs) (map task_first (map task_table ts))
    ≡ map (λ (u : TaskState). u.outputs) (map begun_task ts)
outputs-first [] = refl
outputs-first (t ∷ ts) = ap₂ (λ o os. o ∷ os) (initial_values-same t.outputs) (outputs-first ts)

-- the tasks begin with their definitions
definitions-first : (ts : List Task) → map (λ (u : TaskState). u.definition) (map begun_task ts) ≡ ts
definitions-first [] = refl
definitions-first (t ∷ ts) = ap (λ us. t ∷ us) (definitions-first ts)

-- before the first releases the tasks are ready for them
pairs_first : (k : ℕ) (mode : Mode) (covers : ℕ → ℕ → ℕ) (worst : ℕ → ℕ) (all : List Task) (n : ℕ) (ts : List Task) →
    ((t : ℕ) (task : Task) → slice_get ts t ≡ Some task → slice_get all (n + t) ≡ Some task) →
    ReleasePairs k mode covers worst 0 all 1 n (map begun_task ts)
    (map task_first (map task_table ts))
pairs_first k mode covers worst all n [] at = tt
pairs_first k mode covers worst all n (t ∷ ts) at =
    let z : n ≡ n + 0 = omega arith in (
      record {
        pair = record { outputs = initial_values-same t.outputs; slot = tt };
        older = tt;
        definition = ap (slice_get all) z ∙ at 0 t refl;
      },
      pairs_first k mode covers worst all (suc n) ts (λ q u e. let s : suc n + q ≡ n + suc q = omega arith in
          ap (slice_get all) s ∙ at (suc q) u e),
    )

-- module kk of a node at instant 0
module _ (given : Accepted) (kk : ℕ) (m : Module) (wm : WellModule given.program kk m)
    (covered : AllCovered m (hosted_of given.schedule kk m)) (node : ℕ) (sensed : Sensed) (times : Times)
    (timely : Timely times kk m) (seen : PortKey → ℤ) (ns : List ℕ) (apart : Apart ns) where
  -- the module as it is on its node
  abbrev h : Hosted
  h = hosted_of given.schedule kk m

  -- its state before instant 0
  abbrev pub first : HostNow
  first = record {
    mode = None;
    base = 0;
    trigger = Some (record { at = 0; block = block_number m BlockName.Boot });
    tasks = map task_first (map task_table m.tasks);
    actuators = st.initial_values (initials m.actuators);
  }

  -- its state when its start mode is entered
  abbrev begun : HostNow
  begun = record first {
    mode = Some m.start.0;
    trigger = Some (record { at = 0 + 0; block = block_number m (BlockName.Starts m.start.0 0) });
  }

  -- the first block is found by its number
  found : slice_get h.blocks (block_number m BlockName.Boot) ≡ Some (block_of m BlockName.Boot)
  found = block_found m BlockName.Boot refl

  -- the first block is of phase 3
  boot_phase : phase_of h.blocks (block_number m BlockName.Boot) ≡ 3
  boot_phase = ap (λ o. unwrap_or (option_map (λ (k : Block). k.phase) o) 0) found

  -- at instant 0 a hosted module enters its start mode and makes its first releases, as its logical state does
  pub boot_turn : PartMoves 0 node sensed times seen ns (Part.Host h first)
      (record { number = kk; outputs = λ t. part_outputs (Part.Host h first) t })
      (HostComes m h 0 (phase_four 0 (look_of kk (entered m).tasks sensed seen) (entered m)))
      [] [] (Shown.Mode 0 node kk m.start.0 ∷ []) (module_count m)
  unfolding idle_move
  boot_turn =
      let k : ℕ = m.start.0 in
      let start = item_at m.modes k wm.start in
      let mode : Mode = start.item in
      let wmode = wm.modes k mode start.at in
      let nb : ℕ = block_number m BlockName.Boot in
      let starts : ℕ = block_number m (BlockName.Starts k 0) in
      let phase_four_is : phase_of h.blocks starts ≡ 4 =
      ap (λ o. unwrap_or (option_map (λ (k : Block). k.phase) o) 0)
      (starts_found m k 0 mode start.at (zero_offset mode) wmode.lasts) in
      let not_due : (q : ℕ) → q < 3 → (n : ℕ) → due_of 0 q n (Part.Host h first) ≡ [] =
      λ q lt n. quiet 0 q n h first 0 nb 3 boot_phase lt in
      let three : Move 0 node sensed times 3 (Sees seen ns) = record {
        before = Part.Host h first;
        after = Part.Host h begun;
        rows = Shown.Mode 0 node kk k ∷ [];
        cost = 3;
        leads = λ front back fit low none.
            leads_on 0 node sensed times 0 3 _ _ _ _ _ _ _ _
            (begins 0 node sensed times h front back first 0 nb 3 refl (omega arith) (omega arith) boot_phase low none)
            (mode_run 0 node sensed times h nb front back (record first { trigger = None }) 0 k starts
            (has_found 0 node sensed times h front back (record first { trigger = None }) nb
            (block_of m BlockName.Boot) found));
        fits = λ front back fit. sees-kept seen ns front (Part.Host h first) (Part.Host h begun) back refl
            (λ t. refl) fit;
        below = λ q lt n. quiet 0 q n h begun (0 + 0) starts 4 phase_four_is lt;
      } in
      let before : BeforeStarts m h 0 (entered m) begun = record {
        mode = mode;
        at = start.at;
        offset = 0;
        off = zero_offset mode;
        below = wmode.lasts;
        definition = refl;
        now = refl;
        mode' = refl;
        base = refl;
        grain = λ g cycles. dvd-zero g;
        texts' = definitions-first m.tasks;
        tasks = pairs_first k mode (covers_of k h) (worst_case_of m) m.tasks 0 m.tasks
            (λ t task at. let y : 0 + t ≡ t = omega arith in ap (slice_get m.tasks) y ∙ at);
        actuators = initial_values-same m.actuators;
        sizes = length-map m.actuators (λ (d : PortDef). d.initial);
        trigger = refl;
      } in
      let four : StartsTurn given kk m wm covered 0 node sensed times timely seen ns apart (entered m) begun =
      starts_turn given kk m wm covered 0 node sensed times timely seen ns apart (entered m) begun before in
      let o : ℕ = mode.period.0 in
      let most : before_starts m k o ≤ greatest (at_offsets has_ends (before_starts m) m) =
      at_most has_ends (before_starts m) m k o mode start.at (period_offset mode) (lt-ltb 0 o wmode.lasts) in
      let l1 : length_of m (BlockName.Ends k o) ≡ length (map ec.End (ending m mode o)) + 2 =
      ap (λ d. length (mode_block m d (BlockName.Ends k o)).code) start.at
      ∙ length-append (map ec.End (ending m mode o))
      (ec.Future 0 (block_number m (BlockName.Updates k o)) ∷ ec.Return ∷ []) in
      let l2 : length_of m (BlockName.Updates k o) ≡ length (laid (update_code m k) 0 (updates_at m mode o)) + 2 =
      ap (λ d. length (mode_block m d (BlockName.Updates k o)).code) start.at
      ∙ length-append (laid (update_code m k) 0 (updates_at m mode o))
      (ec.Future 0 (block_number m (BlockName.Switches k o)) ∷ ec.Return ∷ []) in
      let c4 = four.cost in
      record {
        one = idle_move 0 node sensed times 1 Any (Part.Host h first) (λ q lt n. not_due q (omega (arith, lt)) n);
        two = idle_move 0 node sensed times 2 (Sees seen ns) (Part.Host h first) (λ q lt n. not_due q lt n);
        three = three;
        four = four.move;
        from = refl;
        one_two = refl;
        two_three = refl;
        three_four = sym four.from;
        low = λ n. not_due 0 (omega arith) n;
        number = refl;
        outputs = λ t. refl;
        after = Part.Host h four.next;
        to = four.to;
        comes = (four.next, refl, four.after);
        shows_one = refl;
        shows_two = refl;
        shows_three = refl;
        shows_four = four.rows;
        cost = omega (arith, most, l1, l2, c4);
      }
