-- Phase 4 of a hosted module: after a switch, at the begin of a cycle, within one, or at instant 0.
use Rattle.std.proofs.Common.{◌≡◌, ℕ, zero, suc, ◌+◌, ◌-◌, ◌<◌, ◌≤◌, ℤ, List, [], ◌∷◌, map, length, Bool, true, false, ◌&&◌, ◌==◌, Some, refl, ap, sym, ◌∙◌, subst, arith}
use Rattle.std.specs.Prelude.{slice_get, option_map, unwrap_or, if◌then◌else◌}
use Rattle.std.proofs.lemmas.List.{length-map}
use Prim.Native.Nat.{◌∣◌}
use Rattle.std.proofs.lemmas.Bool.{lt-ltb}
use Rattle.tdl_base.specs.Lists.{changed_at}
use Rattle.tdl_base.specs.declared.numbers.PortKey.{PortKey}
use Rattle.tdl_body.specs.Values.{Look, holds}
use Rattle.tdl_mode.specs.declared.program.Program.{Program}
use Rattle.tdl_mode.specs.declared.program.Module.{Module}
use Rattle.tdl_mode.specs.declared.program.Mode.{Mode}
use Rattle.tdl_mode.specs.declared.program.Task.{Task}
use Rattle.tdl_mode.specs.declared.program.Invocation.{Invocation}
use Rattle.tdl_mode.specs.Offsets.{is_offset, next_offset, offset_list}
use Rattle.tdl_mode.specs.States.{TaskState, ModuleState, invocation_of, invocations_now, look_of}
use Rattle.tdl_mode.specs.Phases.{released, releases, phase_four}
use Rattle.tdl_image.specs.declared.hosted.Hosted.{Hosted}
use Rattle.tdl_base.specs.Sensed.{Sensed}
use Rattle.tdl_verify.specs.States.{TaskNow, HostNow, Part, Times}
use Rattle.tdl_gen.specs.BlockNames.{BlockName, block_number}
use Rattle.tdl_gen.specs.Blocks.{mode_block}
use Rattle.tdl_gen.specs.Counts.{greatest, length_of, at_offsets, has_starts}
use Rattle.tdl_gen.specs.Tables.{hosted_of}
use Rattle.tdl_mode.specs.WellFormed.{WellMode, WellModule}
use Rattle.tdl_mode.specs.Grains.{DividesCycles}
use Rattle.tdl_meaning.proofs.HostFacts.{ReleasePairs, pairs_kept, pairs_outputs, WellLets, AtRelease}
use Rattle.tdl_meaning.proofs.PhasesAtOffset.{AtOffset, present-is}
use Rattle.tdl_gen.proofs.StartBlocks.{all_started, outputs-all}
use Rattle.tdl_meaning.proofs.ReleasesInStep.{Ready, Released, releases_pairs}
use Rattle.tdl_meaning.proofs.HostTables.{tables_of, tables_of-is, has_start}
use Rattle.tdl_mode.proofs.NextOffsets.{next_is, above_least}
use Rattle.tdl_gen.proofs.Budget.{at_most}
use Rattle.tdl_verify.proofs.Sweeps.{Move}
use Rattle.tdl_gen.proofs.HostMoves.{Apart, Sees, starts_move}
use Rattle.tdl_meaning.specs.Accepted.{Accepted}
use Rattle.tdl_deploy.specs.AtRelease.{worst_case_of}
use Rattle.tdl_meaning.specs.HostInStep.{TaskPairs, covers_of, TaskPair, HostAfter}
use Rattle.std.proofs.lemmas.Option.{slice_get_within}

-- the definitions of tasks
abbrev pub definitions : List TaskState → List Task
definitions us = map (λ (u : TaskState). u.definition) us

-- a change of one task that keeps its definition keeps all definitions
definitions-changed : (t : ℕ) (f : TaskState → TaskState) → ((u : TaskState) → (f u).definition ≡ u.definition) →
    (us : List TaskState) →
    definitions (changed_at t f us) ≡ definitions us
definitions-changed t f keeps [] = refl
definitions-changed zero f keeps (u ∷ us) = ap (λ o. o ∷ definitions us) (keeps u)
definitions-changed (suc t) f keeps (u ∷ us) = ap (λ os. u.definition ∷ os) (definitions-changed t f keeps us)

-- and so does a change that is made or not
definitions-if : (c : Bool) (t : ℕ) (f : TaskState → TaskState) → ((u : TaskState) → (f u).definition ≡ u.definition) →
    (us : List TaskState) → definitions (if c then changed_at t f us else us) ≡ definitions us
definitions-if true t f keeps us = definitions-changed t f keeps us
definitions-if false t f keeps us = refl

-- the releases of an instant keep the definitions
definitions-released : (r : ModuleState) (x : ℕ) (look : Look) (n : ℕ) (is : List Invocation) (us : List TaskState) →
    definitions (releases r x look n is us) ≡ definitions us
definitions-released r x look n [] us = refl
definitions-released r x look n (i ∷ is) us =
    definitions-released r x look (suc n) is
    (if r.base + i.s.0 == x && holds i.guard look then changed_at i.task.0 (released r.mode n i look) us else us)
    ∙ definitions-if (r.base + i.s.0 == x && holds i.guard look) i.task.0 (released r.mode n i look) (λ u. refl) us

-- the windows of an invocation cover nothing before its start, and the worst case of its task at its end
pub record Covered (m : Module) (mode : Mode) (covers : ℕ → ℕ → ℕ) : Type 0 where
  pub early : (n : ℕ) (i : Invocation) → invocation_of mode.invocations n ≡ Some i → covers n i.s.0 ≡ 0
  pub full : (n : ℕ) (i : Invocation) → invocation_of mode.invocations n ≡ Some i →
      worst_case_of m i.task.0 ≤ covers n i.e.0

-- the invocations of a well-formed mode are apart, and each has the time that its task needs
pub lets_of : (program : Program) (kk : ℕ) (m : Module) (k : ℕ) (mode : Mode) (covers : ℕ → ℕ → ℕ) →
    WellMode program kk m k mode →
    Covered m mode covers → WellLets mode covers (worst_case_of m)
lets_of program kk m k mode covers well covered = record {
  lasts = λ n i at. (well.invocations n i at).lasts;
  apart = well.apart;
  full = covered.full;
}

-- a hosted module before phase 4 of instant x
pub record BeforeStarts (m : Module) (h : Hosted) (x : ℕ) (r : ModuleState) (s : HostNow) : Type 0 where
  pub mode : Mode
  pub at : slice_get m.modes r.mode ≡ Some mode
  pub offset : ℕ
  pub off : is_offset mode offset ≡ true
  pub below : offset < mode.period.0
  pub definition : r.definition ≡ m
  pub now : x ≡ r.base + offset
  pub mode' : s.mode ≡ Some r.mode
  pub base : s.base ≡ r.base
  pub grain : (g : ℕ) → DividesCycles g m → g ∣ r.base
  pub texts' : definitions r.tasks ≡ m.tasks
  pub tasks : ReleasePairs r.mode mode (covers_of r.mode h) (worst_case_of m) offset m.tasks 1 0 r.tasks s.tasks
  pub actuators : s.actuators ≡ r.actuators
  pub sizes : length r.actuators ≡ length m.actuators
  pub trigger : s.trigger ≡ Some (record { at = x + 0; block = block_number m (BlockName.Starts r.mode offset) })

-- the jobs of this module take their time within the worst case
abbrev pub Timely : Times → ℕ → Module → Type 0
Timely times kk m = (t c : ℕ) (task : Task) → slice_get m.tasks t ≡ Some task →
    (0 < times kk t c) × (times kk t c ≤ worst_case_of m t)

-- the windows of all invocations of a module cover what they must
abbrev pub AllCovered : Module → Hosted → Type 0
AllCovered m h = (k : ℕ) (mode : Mode) → slice_get m.modes k ≡ Some mode → Covered m mode (covers_of k h)

-- module kk of a node at instant x
module _ (given : Accepted) (kk : ℕ) (m : Module) (wm : WellModule given.program kk m)
    (covered : AllCovered m (hosted_of given.schedule kk m)) (x node : ℕ) (sensed : Sensed) (times : Times)
    (timely : Timely times kk m) (seen : PortKey → ℤ) (ns : List ℕ) (apart : Apart ns) where
  -- the module as it is on its node
  abbrev pub h : Hosted
  h = hosted_of given.schedule kk m

  -- the greatest number of instructions of a block of phase 4
  abbrev pub most_starts : ℕ
  most_starts = greatest (at_offsets has_starts (λ k o. length_of m (BlockName.Starts k o)) m)

  -- the move of phase 4, and what it comes to
  pub record StartsTurn (r : ModuleState) (s : HostNow) : Type 0 where
    pub move : Move x node sensed times 4 (Sees seen ns)
    pub from : move.before ≡ Part.Host h s
    pub next : HostNow
    pub to : move.after ≡ Part.Host h next
    pub rows : move.rows ≡ []
    pub cost : move.cost ≤ most_starts
    pub after : HostAfter m h x (phase_four x (look_of kk r.tasks sensed seen) r) next

  -- its logical state and its state on the node before phase 4
  module _ (r : ModuleState) (s : HostNow) (f : BeforeStarts m h x r s) where
    -- the number of its mode
    abbrev k : ℕ
    k = r.mode

    -- the offset of the instant in its cycle
    abbrev o : ℕ
    o = f.offset

    -- its mode
    abbrev mode : Mode
    mode = f.mode

    -- what the windows of its invocations cover
    abbrev covers : ℕ → ℕ → ℕ
    covers = covers_of k h

    -- what its tasks look at
    abbrev look : Look
    look = look_of kk r.tasks sensed seen

    -- the number of the block of phase 4
    abbrev block : ℕ
    block = block_number m (BlockName.Starts k o)

    -- its tasks on the node after phase 4
    abbrev made : List TaskNow
    made = all_started x node sensed times h block [] [] m k o look (tables_of m) 1 mode.invocations s.tasks

    -- the next offset of its mode
    abbrev next : ℕ
    next = next_offset mode o

    -- the module stands at this offset
    stands : AtOffset m k o x mode f.at r
    stands = record { definition = f.definition; mode' = refl; now = f.now }

    -- the invocations of its mode are apart and have their time
    lets : WellLets mode covers (worst_case_of m)
    lets = lets_of given.program kk m k mode covers (wm.modes k mode f.at) (covered k mode f.at)

    -- the releases can be made
    ready : (front back : List Part) →
        Ready x node sensed times h block front back m k o look mode f.at covers (worst_case_of m) lets (tables_of m)
    ready front back = record {
      tables' = tables_of-is m;
      timely = timely;
      early = (covered k mode f.at).early;
      starts = has_start given kk m k mode f.at (wm.modes k mode f.at) x node sensed times look o block front back;
    }

    -- the task of each invocation is there
    places : (q : ℕ) (i : Invocation) → slice_get mode.invocations q ≡ Some i →
        (invocation_of mode.invocations (1 + q) ≡ Some i) × (i.task.0 < length r.tasks)
    places q i at =
        let size : length r.tasks ≡ length m.tasks =
        sym (length-map r.tasks (λ (u : TaskState). u.definition)) ∙ ap length f.texts' in
        let e : 1 + q ≡ suc q = omega arith in
        let w = (wm.modes k mode f.at).invocations (suc q) i at in
        let l : i.task.0 < length m.tasks = slice_get_within m.tasks i.task.0 w.definition w.task in
        (ap (invocation_of mode.invocations) e ∙ at, omega (arith, l, size))

    -- the releases in the logical state and on the node
    releases_made : (front back : List Part) →
        Released x node sensed times h block front back m k o look mode f.at covers (worst_case_of m) lets
        (tables_of m) 1
        mode.invocations r.tasks s.tasks (releases r x look 1 mode.invocations r.tasks)
    releases_made front back =
        releases_pairs x node sensed times h block front back m k o look mode f.at covers (worst_case_of m) lets
        (tables_of m) r stands (ready front back) 1 mode.invocations r.tasks s.tasks places f.tasks

    -- the outputs of its tasks are the same before phase 4
    same : map (λ (w : TaskNow). w.outputs) s.tasks ≡ map (λ (u : TaskState). u.outputs) r.tasks
    same = pairs_outputs (λ t u w. AtRelease k mode covers (worst_case_of m) o m.tasks 1 t u w) 0 r.tasks s.tasks
        (λ n u w a. a.pair.outputs) f.tasks

    -- phase 4 keeps the outputs
    keeps : map (λ (w : TaskNow). w.outputs) made ≡ map (λ (w : TaskNow). w.outputs) s.tasks
    keeps = outputs-all x node sensed times h block [] [] m k o look (tables_of m) 1 mode.invocations s.tasks

    -- an instant that is now
    no_later : x + 0 ≡ x
    no_later = omega arith

    -- the trigger is set for the next offset
    at_next : x + (next - o) ≡ r.base + next
    at_next =
        let gap : o < next = above_least o (offset_list mode) mode.period.0 f.below in
        omega (arith, f.now, gap)

    -- the invocations of the present mode
    invocations-now : invocations_now r ≡ mode.invocations
    invocations-now =
        ap (λ q. unwrap_or (option_map (λ (d : Mode). d.invocations) q) []) (present-is m k o x mode f.at r stands)

    -- its tasks are in step after phase 4
    tasks_after : TaskPairs k mode covers (worst_case_of m) (suc o) o 0
        (releases r x look 1 (invocations_now r) r.tasks) made
    tasks_after =
        let last = releases_made [] [] in
        subst (λ is. TaskPairs k mode covers (worst_case_of m) (suc o) o 0 (releases r x look 1 is r.tasks) made)
        (sym invocations-now)
        (pairs_kept (λ t u w. AtRelease k mode covers (worst_case_of m) o m.tasks last.last t u w)
        (λ t u w. TaskPair k mode covers (worst_case_of m) t (suc o) o u w) 0
        (releases r x look 1 mode.invocations r.tasks) made (λ n u w a. a.pair) last.pairs)

    -- phase 4 of a hosted module is in step with that of its logical state
    pub starts_turn : StartsTurn r s
    unfolding starts_move
    starts_turn =
        let size : length_of m (BlockName.Starts k o) ≡ length (mode_block m (Some mode) (BlockName.Starts k o)).code =
        ap (λ d. length (mode_block m d (BlockName.Starts k o)).code) f.at in
        let most : length_of m (BlockName.Starts k o) ≤ most_starts =
        at_most has_starts (λ k o. length_of m (BlockName.Starts k o)) m k o mode f.at f.off
        (lt-ltb o mode.period.0 f.below) in
        record {
          move = starts_move x node sensed times h m refl k o mode f.at f.off seen ns apart r.tasks (tables_of m) s
              (x + 0) no_later f.below same keeps (λ front back. (releases_made front back).free);
          from = λ q. Part.Host h (record s { trigger = sym f.trigger q });
          next = record s {
            trigger = Some (record { at = x + (next - o); block = block_number m (BlockName.Ends k next) });
            tasks = made;
          };
          to = refl;
          rows = refl;
          cost = omega (arith, size, most);
          after = record {
            offset = o;
            now = f.now;
            facts = record {
              mode = mode;
              at = f.at;
              definition = f.definition;
              above = omega arith;
              within = f.below;
              mode' = f.mode';
              base = f.base;
              grain = f.grain;
              next = next;
              is_next = next_is mode o f.below;
              trigger = ap (λ a. Some (record { at = a; block = block_number m (BlockName.Ends k next) })) at_next;
              definitions = definitions-released r x look 1 (invocations_now r) r.tasks ∙ f.texts';
              tasks = tasks_after;
              actuators = f.actuators;
              sizes = f.sizes;
            };
          };
        }
