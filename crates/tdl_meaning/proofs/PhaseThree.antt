-- Phase 3 of a hosted module in step with its logical instant: a switch is taken, the cycle begins anew, or goes on.
use Rattle.std.proofs.Common.{◌≡◌, ℕ, ◌+◌, ◌<◌, ◌≤◌, ℤ, List, [], ◌∷◌, map, length, Bool, true, false, ◌==◌, Option, Some, None, refl, ap, sym, ◌∙◌, subst, arith}
use Rattle.std.specs.Prelude.{slice_get, option_map, unwrap_or, if◌then◌else◌, find}
use Rattle.std.proofs.lemmas.Bool.{eqb-true}
use Rattle.std.proofs.lemmas.Bool.Decides.{nat_tests}
use Prim.Native.Nat.{◌∣◌}
use native.Mathlib.Nat.{dvd-add}
use Rattle.tdl_body.specs.Values.{Look, holds}
use Rattle.tdl_mode.specs.declared.program.Module.{Module}
use Rattle.tdl_mode.specs.declared.program.Mode.{Mode}
use Rattle.tdl_mode.specs.declared.program.Switch.{Switch}
use Rattle.tdl_mode.specs.Offsets.{is_offset}
use Rattle.tdl_mode.specs.States.{ModuleState}
use Rattle.tdl_mode.specs.Phases.{task_after, phase_one, update_value, phase_two, phase_three}
use Rattle.tdl_trace.specs.Shown.{Shown}
use Rattle.tdl_image.specs.declared.hosted.Hosted.{Hosted}
use Rattle.tdl_base.specs.Sensed.{Sensed}
use Rattle.tdl_verify.specs.States.{HostNow, Times}
use Rattle.tdl_gen.specs.BlockNames.{BlockName, block_number}
use Rattle.tdl_gen.specs.Blocks.{switches_at}
use Rattle.tdl_gen.specs.Tables.{hosted_of}
use Rattle.tdl_mode.specs.WellFormed.{WellModule}
use Rattle.tdl_mode.specs.Grains.{DividesCycles}
use Rattle.tdl_meaning.proofs.HostFacts.{WellLets}
use Rattle.tdl_verify.specs.Covered.{covered_by}
use Rattle.tdl_verify.specs.Turns.{is_mode}
use Rattle.tdl_verify.proofs.EndBlocks.{ended_tasks}
use Rattle.tdl_meaning.proofs.PhasesAtOffset.{AtOffset, ends_here, switch_target-is}
use Rattle.tdl_gen.proofs.HostBlocks.{after_switches, rows_of_switches}
use Rattle.tdl_mode.proofs.NextOffsets.{zero_offset}
use Rattle.tdl_meaning.proofs.PhaseFour.{AllCovered, BeforeStarts, definitions, lets_of}
use Rattle.tdl_meaning.specs.Accepted.{Accepted}
use Rattle.tdl_meaning.proofs.NothingOpen.{NoneOpen, idle_pairs, fresh_pairs, switches-to, begins_anew, goes_on}
use Rattle.tdl_meaning.proofs.AfterEnds.{definitions-at, definitions-after, at_release}
use Rattle.tdl_meaning.proofs.HostTurns.{no_mode_row}
use Rattle.tdl_deploy.specs.Rows.{module_mode_rows}
use Rattle.tdl_meaning.proofs.ItemPlaces.{found_at, item_at}
use Rattle.tdl_deploy.specs.AtRelease.{worst_case_of}
use Rattle.tdl_meaning.specs.HostInStep.{covers_of, HostFacts}
use Rattle.tdl_mode.proofs.StateLength.{length-numbered}

-- where phase 3 leads a hosted module: its logical state, and that it is ready for phase 4 with the rows of phase 3
pub record Third (m : Module) (h : Hosted) (x node kk : ℕ) (second : ModuleState) (look : Look) (s : HostNow)
    (rows : List Shown) : Type 0 where
  pub state : ModuleState
  pub is : phase_three x look second ≡ state
  pub tasks : state.tasks ≡ second.tasks
  pub before : BeforeStarts m h x state s
  pub rows' : rows ≡ module_mode_rows x node kk second state

-- the turn of module kk at instant x, at an offset of its mode, after phase 2 left its actuators at `acts`
module _ (given : Accepted) (kk : ℕ) (m : Module) (wm : WellModule given.program kk m)
    (covered : AllCovered m (hosted_of given.schedule kk m)) (x node : ℕ) (sensed : Sensed) (times : Times)
    (r : ModuleState) (s : HostNow) (f : HostFacts m (hosted_of given.schedule kk m) x r s)
    (off : is_offset f.facts.mode f.offset ≡ true) (look : Look) (acts : List ℤ)
    (same : acts ≡ (phase_two x look (phase_one x r)).actuators) where
  -- the module as it is on its node
  abbrev pub h : Hosted
  h = hosted_of given.schedule kk m

  -- the number of its mode
  abbrev pub k : ℕ
  k = r.mode

  -- the offset of the instant in its cycle
  abbrev pub o : ℕ
  o = f.offset

  -- its mode
  abbrev pub mode : Mode
  mode = f.facts.mode

  -- what the windows of its invocations cover
  abbrev pub covers : ℕ → ℕ → ℕ
  covers n e = covered_by k n e h.windows

  -- a task of which an invocation ends here
  abbrev pub ends : ℕ → Bool
  ends = ends_here m k o x mode f.facts.at covers (worst_case_of m)

  -- the logical state after phase 2
  abbrev pub second : ModuleState
  second = phase_two x look (phase_one x r)

  -- the state on the node after phase 2
  abbrev pub updated : HostNow
  updated = record s { tasks = ended_tasks ends 0 s.tasks; actuators = acts }

  -- phase 3 leads on, by the switch that is taken and whether the cycle is over
  abbrev pub Leads : Option Switch → Bool → Type 0
  Leads w over = Third m h x node kk second look
      (after_switches x node sensed times h [] [] m refl k o mode f.facts.at off updated w over)
      (rows_of_switches x node sensed times h [] [] m refl k o mode f.facts.at off updated w over)

  -- the module stands at this offset before phase 1
  stands : AtOffset m k o x mode f.facts.at r
  stands = record { definition = f.facts.definition; mode' = refl; now = f.now }

  -- and after phase 2
  stands_second : AtOffset m k o x mode f.facts.at second
  stands_second = record { definition = f.facts.definition; mode' = refl; now = f.now }

  -- the invocations of its mode are apart and have their time
  lets : WellLets mode covers (worst_case_of m)
  lets = lets_of given.program kk m k mode covers (wm.modes k mode f.facts.at) (covered k mode f.facts.at)

  -- its tasks keep their definitions
  definitions-whole : definitions (map (task_after r x) r.tasks) ≡ m.tasks
  definitions-whole = definitions-after r x r.tasks ∙ f.facts.definitions

  -- it has as many actuators as its definition
  sizes : length second.actuators ≡ length m.actuators
  sizes = length-numbered (λ a v. unwrap_or (update_value (phase_one x r) x look a) v) 0 r.actuators ∙ f.facts.sizes

  -- a mode that is entered here, a time after the begin of the cycle that the grain divides, is ready for its first
  -- releases
  entry : (j : ℕ) (mode' : Mode) → slice_get m.modes j ≡ Some mode' → (y : ℕ) → r.base + y ≡ x →
      ((d : ℕ) → DividesCycles d m → d ∣ y) → NoneOpen m k o x mode f.facts.at covers (worst_case_of m) →
      BeforeStarts m h x (record second { mode = j; base = x })
      (record updated {
        mode = Some j;
        base = x;
        trigger = Some (record { at = x + 0; block = block_number m (BlockName.Starts j 0) });
      })
  entry j mode' at y sum divides closed = record {
    mode = mode';
    at = at;
    offset = 0;
    off = zero_offset mode';
    below = (wm.modes j mode' at).lasts;
    definition = f.facts.definition;
    now = omega arith;
    mode' = refl;
    base = refl;
    grain = λ d cycles. subst (λ n. d ∣ n) sum (dvd-add d {b = r.base} {c = y} (f.facts.grain d cycles)
        (divides d cycles));
    texts' = definitions-whole;
    tasks = fresh_pairs m j mode' (covers_of j h) (worst_case_of m) 0 (map (task_after r x) r.tasks)
        (ended_tasks ends 0 s.tasks)
        (λ n u there. let z : 0 + n ≡ n = omega arith in
        ap (slice_get m.tasks) z ∙ definitions-at (map (task_after r x) r.tasks) m.tasks n u definitions-whole there)
        (idle_pairs m k o x mode f.facts.at covers (worst_case_of m) r stands lets closed 0 r.tasks s.tasks
        f.facts.tasks);
    actuators = same;
    sizes = sizes;
    trigger = refl;
  }

  -- a switch is taken
  switch_taken : (v : Switch) (over : Bool) → find (λ w. holds w.guard look) (switches_at mode o) ≡ Some v →
      Leads (Some v) over
  switch_taken v over found =
      let a = found_at (λ w. holds w.guard look) (λ w. w.at.0 == o) mode.switches v found in
      let at_o : v.at.0 ≡ o = eqb-true v.at.0 o a.passes in
      let t = item_at m.modes v.target.0 ((wm.modes k mode f.facts.at).switches a.place v a.at).target in
      let closed : NoneOpen m k o x mode f.facts.at covers (worst_case_of m) =
      λ n i at lt gt. (wm.modes k mode f.facts.at).closed a.place n v i a.at at
      (omega (arith, at_o, lt)) (omega (arith, at_o, gt)) in
      record {
        state = record second { mode = v.target.0; base = x };
        is = switches-to m k o x mode f.facts.at covers (worst_case_of m) second stands_second look v.target.0
            (switch_target-is m k o x mode f.facts.at second stands_second look
            ∙ ap (option_map (λ (w : Switch). w.target.0)) found);
        tasks = refl;
        before = entry v.target.0 t.item t.at v.at.0 (omega (arith, f.now, at_o))
            (λ d cycles. cycles.switches k a.place mode v f.facts.at a.at) closed;
        rows' = ap (λ now. if is_mode v.target.0 now then [] else Shown.Mode x node kk v.target.0 ∷ [])
            f.facts.mode';
      }

  -- no switch is taken, and the cycle is over
  cycle_ends : find (λ w. holds w.guard look) (switches_at mode o) ≡ None → (o == mode.period.0) ≡ true →
      Leads None true
  cycle_ends found e =
      let at_o : o ≡ mode.period.0 = eqb-true o mode.period.0 e in
      let closed : NoneOpen m k o x mode f.facts.at covers (worst_case_of m) =
      λ n i at lt gt. let w = ((wm.modes k mode f.facts.at).invocations n i at).ends in
      omega (arith, w, at_o, gt) in
      record {
        state = record second { base = x };
        is = begins_anew m k o x mode f.facts.at covers (worst_case_of m) second stands_second look
            (switch_target-is m k o x mode f.facts.at second stands_second look
            ∙ ap (option_map (λ (w : Switch). w.target.0)) found) e;
        tasks = refl;
        before = entry k mode f.facts.at mode.period.0 (omega (arith, f.now, at_o))
            (λ d cycles. cycles.periods k mode f.facts.at) closed;
        rows' = ap (λ now. if is_mode k now then [] else Shown.Mode x node kk k ∷ []) f.facts.mode';
      }

  -- no switch is taken, and the cycle goes on
  cycle_stays : find (λ w. holds w.guard look) (switches_at mode o) ≡ None → (o == mode.period.0) ≡ false →
      Leads None false
  cycle_stays found e = record {
    state = second;
    is = goes_on m k o x mode f.facts.at covers (worst_case_of m) second stands_second look
        (switch_target-is m k o x mode f.facts.at second stands_second look
        ∙ ap (option_map (λ (w : Switch). w.target.0)) found) e;
    tasks = refl;
    before = record {
      mode = mode;
      at = f.facts.at;
      offset = o;
      off = off;
      below = less o mode.period.0 e f.facts.within;
      definition = f.facts.definition;
      now = f.now;
      mode' = f.facts.mode';
      base = f.facts.base;
      grain = f.facts.grain;
      texts' = definitions-whole;
      tasks = at_release m k o x mode f.facts.at covers (worst_case_of m) r stands lets 0 r.tasks s.tasks
          (λ n u at. let z : 0 + n ≡ n = omega arith in
          ap (slice_get m.tasks) z ∙ definitions-at r.tasks m.tasks n u f.facts.definitions at) f.facts.tasks;
      actuators = same;
      sizes = sizes;
      trigger = refl;
    };
    rows' = sym (no_mode_row x node kk second second refl);
  }
    where
      less : (a b : ℕ) → (a == b) ≡ false → a ≤ b → a < b
      less a b e le = grind (arith, nat_tests, e, le)

  -- phase 3 in its three cases
  pub third : (w : Option Switch) → find (λ v. holds v.guard look) (switches_at mode o) ≡ w → (over : Bool) →
      (o == mode.period.0) ≡ over → Leads w over
  third (Some v) found over e = switch_taken v over found
  third None found true e = cycle_ends found e
  third None found false e = cycle_stays found e
