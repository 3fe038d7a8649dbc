-- The turn of a hosted module whose trigger is due: its four phases in step with those of its logical instant.
use Rattle.std.proofs.Common.{◌≡◌, ℕ, suc, ◌+◌, ◌≤◌, ℤ, List, [], map, length, true, ◌&&◌, ◌==◌, Option, Some, filter, refl, ap, sym, ◌∙◌, subst, arith}
use Rattle.std.specs.Prelude.{slice_get, find}
use Rattle.std.proofs.lemmas.List.{length-map}
use Rattle.tdl_base.specs.declared.numbers.PortKey.{PortKey}
use Rattle.tdl_body.specs.Values.{Look, holds}
use Rattle.tdl_mode.specs.declared.program.Module.{Module}
use Rattle.tdl_mode.specs.declared.program.Mode.{Mode}
use Rattle.tdl_mode.specs.declared.program.Switch.{Switch}
use Rattle.tdl_mode.specs.Offsets.{is_offset}
use Rattle.tdl_mode.specs.States.{TaskState, ModuleState, look_of}
use Rattle.tdl_mode.specs.Phases.{phase_one, phase_two, phase_four}
use Rattle.tdl_mode.specs.Instants.{alone}
use Rattle.tdl_deploy.specs.Placed.{hosts}
use Rattle.tdl_image.specs.declared.hosted.Hosted.{Hosted}
use Rattle.tdl_base.specs.Sensed.{Sensed}
use Rattle.tdl_verify.specs.States.{TaskNow, HostNow, Part, Times}
use Rattle.tdl_gen.specs.BlockNames.{BlockName, block_number}
use Rattle.tdl_gen.specs.Blocks.{mode_block, switches_at}
use Rattle.tdl_gen.specs.Counts.{greatest, length_of, before_starts, at_offsets, has_ends}
use Rattle.tdl_gen.specs.Tables.{hosted_of}
use Rattle.tdl_mode.specs.WellFormed.{WellModule}
use Rattle.tdl_meaning.proofs.HostFacts.{WellLets, pairs_outputs, pairs_length}
use Rattle.tdl_gen.proofs.UpdateBlocks.{all_rows}
use Rattle.tdl_verify.specs.Turns.{due_of, phase_of}
use Rattle.tdl_gen.proofs.BlockPlaces.{ends_found}
use Rattle.tdl_verify.proofs.EndBlocks.{ended_tasks}
use Rattle.tdl_meaning.proofs.PhasesAtOffset.{AtOffset, ends_here, ends_pairs}
use Rattle.tdl_gen.proofs.HostBlocks.{after_switches, rows_of_switches}
use Rattle.tdl_meaning.proofs.HostTables.{has_updates, has_guards}
use Rattle.tdl_meaning.proofs.ActRows.{updated-is, act_rows-are}
use Rattle.tdl_meaning.proofs.PortRows.{ended_rows-are}
use Rattle.tdl_gen.proofs.Budget.{at_most}
use Rattle.tdl_verify.proofs.Sweeps.{Move}
use Rattle.tdl_gen.proofs.HostMoves.{Apart, Sees, Enters, quiet, phase_at, after_updates, ends_move, updates_move, switches_move}
use Rattle.tdl_meaning.proofs.PhaseFour.{Timely, AllCovered, StartsTurn, starts_turn, lets_of}
use Rattle.tdl_meaning.specs.Accepted.{Accepted}
use Rattle.std.proofs.lemmas.Bool.{lt-ltb}
use Rattle.tdl_meaning.proofs.AfterEnds.{none_ready}
use Rattle.tdl_meaning.proofs.PartMoves.{Any}
use Rattle.tdl_meaning.proofs.HostTurns.{outputs-map, HostTurn}
use Rattle.tdl_deploy.specs.Rows.{module_mode_rows}
use Rattle.tdl_meaning.proofs.PhaseThree.{Third, third}
use Rattle.tdl_meaning.proofs.ItemPlaces.{found_at, item_at}
use Rattle.tdl_deploy.specs.AtRelease.{worst_case_of}
use Rattle.tdl_meaning.specs.HostInStep.{covers_of, TaskPairs, TaskPair, HostFacts, HostAfter}

-- module kk of a node at instant x
module _ (given : Accepted) (kk : ℕ) (m : Module) (wm : WellModule given.program kk m)
    (covered : AllCovered m (hosted_of given.schedule kk m)) (x node : ℕ)
    (hosted : hosts given.placement node kk ≡ true) (sensed : Sensed) (times : Times) (timely : Timely times kk m)
    (seen : PortKey → ℤ) (ns : List ℕ) (apart : Apart ns) where
  -- the module as it is on its node
  abbrev h : Hosted
  h = hosted_of given.schedule kk m

  -- the greatest number of instructions of the blocks of phases 1 to 3 of one offset
  abbrev most_ends : ℕ
  most_ends = greatest (at_offsets has_ends (before_starts m) m)

  -- its logical state and its state on the node before the turn, its trigger being due
  module _ (r : ModuleState) (s : HostNow) (f : HostFacts m h x r s) (due : f.facts.next ≡ f.offset) where
    -- the number of its mode
    abbrev k : ℕ
    k = r.mode

    -- the offset of the instant in its cycle
    abbrev o : ℕ
    o = f.offset

    -- its mode
    abbrev mode : Mode
    mode = f.facts.mode

    -- its mode is in the definition
    abbrev at : slice_get m.modes k ≡ Some mode
    at = f.facts.at

    -- the blocks of this offset are there
    off : is_offset mode o ≡ true
    off = ap (is_offset mode) (sym due) ∙ f.facts.is_next.at

    -- what the windows of its invocations cover
    abbrev covers : ℕ → ℕ → ℕ
    covers = covers_of k h

    -- the logical state after phase 1
    abbrev first : ModuleState
    first = phase_one x r

    -- what its tasks look at
    abbrev look : Look
    look = look_of kk first.tasks sensed seen

    -- the logical state after phase 2
    abbrev second : ModuleState
    second = phase_two x look first

    -- the module stands at this offset before phase 1
    stands : AtOffset m k o x mode at r
    stands = record { definition = f.facts.definition; mode' = refl; now = f.now }

    -- and after phase 1
    stands_first : AtOffset m k o x mode at first
    stands_first = record { definition = f.facts.definition; mode' = refl; now = f.now }

    -- the invocations of its mode are apart and have their time
    lets : WellLets mode covers (worst_case_of m)
    lets = lets_of given.program kk m k mode covers (wm.modes k mode at) (covered k mode at)

    -- its tasks on the node after phase 1
    abbrev ended_now : List TaskNow
    ended_now = ended_tasks (ends_here m k o x mode at covers (worst_case_of m)) 0 s.tasks

    -- its state on the node after phase 1
    abbrev ended : HostNow
    ended = record s { tasks = ended_now }

    -- its state on the node after phase 2
    abbrev updated : HostNow
    updated = after_updates x node sensed times h m refl k o mode at off seen first.tasks ended

    -- its tasks are in step after phase 1
    pairs : TaskPairs k mode covers (worst_case_of m) (suc o) o 0 first.tasks ended_now
    pairs = ends_pairs m k o x mode at covers (worst_case_of m) r stands lets 0 r.tasks s.tasks f.facts.tasks

    -- so their outputs are the same
    same : map (λ (w : TaskNow). w.outputs) ended_now ≡ map (λ (u : TaskState). u.outputs) first.tasks
    same = pairs_outputs (λ t u w. TaskPair k mode covers (worst_case_of m) t (suc o) o u w) 0 first.tasks ended_now
        (λ n u w a. a.outputs) pairs

    -- it has as many tasks as its definition
    task_count : length m.tasks ≡ length s.tasks
    task_count = sym (ap length f.facts.definitions) ∙ length-map r.tasks (λ (u : TaskState). u.definition)
        ∙ pairs_length (λ t u w. TaskPair k mode covers (worst_case_of m) t o o u w) 0 r.tasks s.tasks f.facts.tasks

    -- it has as many actuators as its definition
    actuator_count : length m.actuators ≡ length s.actuators
    actuator_count = sym f.facts.sizes ∙ sym (ap length f.facts.actuators)

    -- phase 1: the jobs that end here
    abbrev move_one : Move x node sensed times 1 Any
    move_one = ends_move x node sensed times h m refl k o mode at off f.facts.above Any (λ front back fit q e. tt) s x
        refl task_count (none_ready m k o x mode at covers (worst_case_of m) lets 0 r.tasks s.tasks f.facts.tasks)

    -- an instant that is now
    no_later : x + 0 ≡ x
    no_later = omega arith

    -- phase 2: the updates
    abbrev move_two : Move x node sensed times 2 (Sees seen ns)
    move_two = updates_move x node sensed times h m refl k o mode at off f.facts.above seen ns apart first.tasks ended
        (x + 0) no_later actuator_count same
        (λ front back. has_updates given kk m k mode at (wm.modes k mode at) x node sensed times look o
        (block_number m (BlockName.Updates k o)) front back 0 s.actuators)

    -- the mode that a switch enters is there
    target : (v : Switch) → find (λ w. holds w.guard look) (switches_at mode o) ≡ Some v →
        Enters x node sensed times h m refl k o mode at off v.target.0
    target v e =
        let a = found_at (λ w. holds w.guard look) (λ w. w.at.0 == o) mode.switches v e in
        let t = item_at m.modes v.target.0 ((wm.modes k mode at).switches a.place v a.at).target in
        record { mode = t.item; at = t.at; lasts = (wm.modes v.target.0 t.item t.at).lasts }

    -- phase 3: the switches and the end of the cycle
    abbrev move_three : Move x node sensed times 3 (Sees seen ns)
    move_three = switches_move x node sensed times h m refl k o mode at off f.facts.above seen ns apart first.tasks
        updated (x + 0) no_later (record { mode = mode; at = at; lasts = (wm.modes k mode at).lasts }) f.facts.within
        same target
        (λ front back. has_guards given kk m k mode at (wm.modes k mode at) x node sensed times look o
        (block_number m (BlockName.Switches k o)) front back)

    -- phase 2 leaves the actuators as the logical one does
    acts : updated.actuators ≡ second.actuators
    acts = ap (λ vs. (after_updates x node sensed times h m refl k o mode at off seen first.tasks
        (record ended { actuators = vs })).actuators) f.facts.actuators
        ∙ updated-is x node sensed times h (block_number m (BlockName.Updates k o)) [] [] m refl k o mode at look first
        stands_first

    -- the switch that is taken
    abbrev taken : Option Switch
    taken = find (λ w. holds w.guard look) (switches_at mode o)

    -- its state on the node after phase 3
    abbrev entered : HostNow
    entered = after_switches x node sensed times h [] [] m refl k o mode at off updated taken (o == mode.period.0)

    -- phase 3 leads on
    led : Third m h x node kk second look entered
        (rows_of_switches x node sensed times h [] [] m refl k o mode at off updated taken (o == mode.period.0))
    led = third given kk m wm covered x node sensed times r s f off look updated.actuators acts taken refl
        (o == mode.period.0) refl

    -- phase 4: the releases
    fourth : StartsTurn given kk m wm covered x node sensed times timely seen ns apart led.state entered
    fourth = starts_turn given kk m wm covered x node sensed times timely seen ns apart led.state entered led.before

    -- its trigger names the block of phase 1
    trigger-is : s.trigger ≡ Some (record { at = x; block = block_number m (BlockName.Ends k o) })
    trigger-is =
        let at_x : r.base + f.facts.next ≡ x = omega (arith, f.now, due) in
        f.facts.trigger ∙ (λ q. Some (record { at = at_x q; block = block_number m (BlockName.Ends k (due q)) }))

    -- nothing is due in a phase below the first
    not_below : (n : ℕ) → due_of x 0 n (Part.Host h s) ≡ []
    not_below n =
        let phase : phase_of h.blocks (block_number m (BlockName.Ends k o)) ≡ 1 =
        phase_at x node sensed times h m refl k o mode at off (block_number m (BlockName.Ends k o)) _
        (ends_found m k o mode at off f.facts.above) in
        ap (λ tr. due_of x 0 n (Part.Host h (record s { trigger = tr }))) trigger-is
        ∙ quiet x 0 n h s x (block_number m (BlockName.Ends k o)) 1 phase (omega arith)

    -- a hosted module whose trigger is due makes its turn in step with its logical instant
    pub due_turn : HostTurn given kk m x node sensed times seen ns r s
    unfolding alone ends_move updates_move switches_move
    due_turn =
        let size_of : BlockName → ℕ = λ name. length (mode_block m (Some mode) name).code in
        let l1 : length_of m (BlockName.Ends k o) ≡ size_of (BlockName.Ends k o) =
        ap (λ d. length (mode_block m d (BlockName.Ends k o)).code) at in
        let l2 : length_of m (BlockName.Updates k o) ≡ size_of (BlockName.Updates k o) =
        ap (λ d. length (mode_block m d (BlockName.Updates k o)).code) at in
        let l3 : length_of m (BlockName.Switches k o) ≡ size_of (BlockName.Switches k o) =
        ap (λ d. length (mode_block m d (BlockName.Switches k o)).code) at in
        let most : before_starts m k o ≤ most_ends =
        at_most has_ends (before_starts m) m k o mode at off (lt-ltb 0 o f.facts.above) in
        let starts = fourth.cost in
        record {
          one = move_one;
          two = move_two;
          three = move_three;
          four = fourth.move;
          from = λ q. Part.Host h (record s { trigger = sym trigger-is q });
          one_two = refl;
          two_three = refl;
          three_four = sym fourth.from;
          low = not_below;
          number = refl;
          outputs = λ t. outputs-map first.tasks ended_now t same;
          after = Part.Host h fourth.next;
          to = fourth.to;
          comes = (
            fourth.next,
            refl,
            subst (λ q. HostAfter m h x (phase_four x look q) fourth.next) (sym led.is)
                (subst (λ ts. HostAfter m h x (phase_four x (look_of kk ts sensed seen) led.state) fourth.next)
                led.tasks fourth.after),
          );
          shows_one =
              ended_rows-are given.program given.placement node x m k o mode at covers (worst_case_of m) kk hosted r
              stands lets 0 r.tasks s.tasks f.facts.tasks;
          shows_two = ap (λ vs. all_rows x node sensed times h (block_number m (BlockName.Updates k o)) [] [] m k look
              (λ a. filter (λ u. u.actuator == a && u.at.0 == o) mode.updates) 0 vs) f.facts.actuators
              ∙ act_rows-are x node sensed times h (block_number m (BlockName.Updates k o)) [] [] m refl k o mode at
              look first stands_first;
          shows_three = led.rows' ∙ ap (λ q. module_mode_rows x node kk second q) (sym led.is);
          shows_four = fourth.rows;
          cost = omega (arith, l1, l2, l3, most, starts);
        }
