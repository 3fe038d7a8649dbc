-- The turn of a hosted module whose trigger is not due: nothing changes, on the node and in its logical state.
use Rattle.std.proofs.Common.{◌≡◌, ℕ, suc, ◌+◌, ◌≤◌, ℤ, List, [], ◌∷◌, ◌++◌, map, Bool, true, false, ◌&&◌, ◌==◌, Some, None, refl, ap, ap₂, sym, ◌∙◌, subst, subst₂, arith}
use Rattle.std.specs.Prelude.{slice_get, option_map, unwrap_or, if◌then◌else◌}
use Rattle.std.proofs.lemmas.Bool.{eqb-true, and_parts}
use Rattle.std.proofs.lemmas.Bool.Decides.{nat_tests}
use Rattle.tdl_base.specs.Lists.{joined, numbered}
use Rattle.tdl_base.specs.declared.numbers.PortKey.{PortKey}
use Rattle.tdl_body.specs.Values.{Look}
use Rattle.tdl_mode.specs.declared.program.Module.{Module}
use Rattle.tdl_mode.specs.declared.program.Mode.{Mode}
use Rattle.tdl_mode.specs.Offsets.{is_offset}
use Rattle.tdl_mode.specs.States.{TaskState, ModuleState, look_of}
use Rattle.tdl_mode.specs.Phases.{has_ended, task_after, phase_one, update_value}
use Rattle.tdl_mode.specs.Instants.{alone}
use Rattle.tdl_deploy.specs.Placed.{hosts, sees}
use Rattle.std.specs.Option.{option_to_list}
use Rattle.tdl_deploy.specs.Rows.{committed_outputs, task_port_rows, module_act_rows, module_mode_rows}
use Rattle.tdl_trace.specs.Shown.{Shown}
use Rattle.tdl_image.specs.declared.hosted.Hosted.{Hosted}
use Rattle.tdl_base.specs.Sensed.{Sensed}
use Rattle.tdl_verify.specs.States.{TaskNow, HostNow, Part, Times}
use Rattle.tdl_verify.specs.Turns.{due_of}
use Rattle.tdl_gen.specs.BlockNames.{BlockName, block_number}
use Rattle.tdl_gen.specs.Tables.{hosted_of}
use Rattle.tdl_mode.specs.WellFormed.{WellModule}
use Rattle.tdl_meaning.proofs.HostFacts.{pairs_outputs}
use Rattle.tdl_verify.proofs.EndBlocks.{committed, ended_tasks}
use Rattle.tdl_meaning.proofs.PhasesAtOffset.{AtOffset, present-is, ends_here, ends_pairs}
use Rattle.tdl_base.proofs.Finding.{any-passing}
use Rattle.tdl_mode.proofs.Resting.{not_ended, phase_one-idle, not_updated, alone_idle}
use Rattle.tdl_mode.proofs.NextOffsets.{period_offset, end_offset}
unfoldable pub use Rattle.tdl_verify.proofs.Sweeps.{idle_move}
use Rattle.tdl_gen.proofs.HostMoves.{Apart, Sees}
use Rattle.tdl_meaning.proofs.PhaseFour.{Timely, AllCovered, lets_of}
use Rattle.tdl_meaning.proofs.PartMoves.{Any}
use Rattle.tdl_meaning.proofs.HostTurns.{no_mode_row, outputs-map, HostTurn}
use Rattle.tdl_meaning.specs.Accepted.{Accepted}
use Rattle.tdl_deploy.specs.AtRelease.{worst_case_of}
use Rattle.tdl_meaning.specs.HostInStep.{TaskPairs, covers_of, TaskPair, HostFacts, HostAfter}

-- where no task ends, all stay as they are
ended-none : (p : ℕ → Bool) → ((t : ℕ) → p t ≡ false) → (n : ℕ) (ws : List TaskNow) → ended_tasks p n ws ≡ ws
ended-none p none n [] = refl
ended-none p none n (w ∷ ws) =
    ap₂ (λ b vs. (if b then committed w else w) ∷ vs) (none n) (ended-none p none (suc n) ws)

-- module kk of a node at instant x
module _ (given : Accepted) (kk : ℕ) (m : Module) (wm : WellModule given.program kk m)
    (covered : AllCovered m (hosted_of given.schedule kk m)) (x node : ℕ)
    (hosted : hosts given.placement node kk ≡ true) (sensed : Sensed) (times : Times) (timely : Timely times kk m)
    (seen : PortKey → ℤ) (ns : List ℕ) (apart : Apart ns) where
  -- the module as it is on its node
  abbrev h : Hosted
  h = hosted_of given.schedule kk m

  -- a trigger of another instant is due in no phase
  not_due : (s : HostNow) (at block : ℕ) → s.trigger ≡ Some (record { at = at; block = block }) → (at == x) ≡ false →
      (q n : ℕ) → due_of x q n (Part.Host h s) ≡ []
  not_due s at block trig e q n = ap (λ t. due_of x q n (Part.Host h (record s { trigger = t }))) trig ∙ rw e refl

  -- where no task has ended, no rows of ports are shown
  no_port_rows : (r : ModuleState) → ((u : TaskState) → has_ended r x u ≡ false) → (n : ℕ) (us : List TaskState) →
      joined (numbered n (task_port_rows given.program given.placement node x kk r) us) ≡ []
  no_port_rows r none n [] = refl
  no_port_rows r none n (u ∷ us) =
      ap₂ (λ b rest. (if b then (if sees given.program given.placement node kk u.definition
      then committed_outputs x node kk n (task_after r x u) else []) else []) ++ rest)
      (none u) (no_port_rows r none (suc n) us)

  -- where no actuator is updated, no rows of actuators are shown
  no_act_rows : (r : ModuleState) (look : Look) → ((a : ℕ) → update_value r x look a ≡ None) → (n : ℕ) (vs : List ℤ) →
      joined (numbered n
      (λ a old. option_to_list (option_map (λ v. Shown.Act x node kk a v) (update_value r x look a))) vs) ≡ []
  no_act_rows r look none n [] = refl
  no_act_rows r look none n (v ∷ vs) =
      ap₂ (λ o rest. option_to_list (option_map (λ v. Shown.Act x node kk n v) o) ++ rest)
      (none n) (no_act_rows r look none (suc n) vs)

  -- a hosted module whose trigger is not due makes its turn in step with its logical instant
  pub idle_turn : (r : ModuleState) (s : HostNow) → (f : HostFacts m h x r s) → (f.facts.next == f.offset) ≡ false →
      HostTurn given kk m x node sensed times seen ns r s
  unfolding idle_move
  idle_turn r s f later =
      let g = f.facts in
      let k : ℕ = r.mode in
      let o : ℕ = f.offset in
      let mode : Mode = g.mode in
      let covers : ℕ → ℕ → ℕ = covers_of k h in
      let stands : AtOffset m k o x mode g.at r = record { definition = g.definition; mode' = refl; now = f.now } in
      let is : slice_get r.definition.modes r.mode ≡ Some mode = present-is m k o x mode g.at r stands in
      let off : is_offset mode o ≡ false = none_here (is_offset mode o) refl in
      let look : Look = look_of kk (phase_one x r).tasks sensed seen in
      let same : map (λ (w : TaskNow). w.outputs) s.tasks ≡ map (λ (u : TaskState). u.outputs) r.tasks =
      pairs_outputs (λ t u w. TaskPair k mode covers (worst_case_of m) t o o u w) 0 r.tasks s.tasks
      (λ n u w a. a.outputs) g.tasks in
      let one : phase_one x r ≡ r = phase_one-idle x o mode r is f.now off in
      let all : alone kk x sensed seen r ≡ r = alone_idle x o mode r is f.now off kk sensed seen in
      let apart' : (r.base + g.next == x) ≡ false = moved_later r.base g.next x o f.now later in
      let quiet : (q n : ℕ) → due_of x q n (Part.Host h s) ≡ [] =
      not_due s (r.base + g.next) (block_number m (BlockName.Ends k g.next)) g.trigger apart' in
      let here : ℕ → Bool = ends_here m k o x mode g.at covers (worst_case_of m) in
      let none : (t : ℕ) → here t ≡ false = λ t. none_ends t (here t) refl off in
      let pairs : TaskPairs k mode covers (worst_case_of m) (suc o) o 0 (phase_one x r).tasks
      (ended_tasks here 0 s.tasks) =
      ends_pairs m k o x mode g.at covers (worst_case_of m) r stands
      (lets_of given.program kk m k mode covers (wm.modes k mode g.at) (covered k mode g.at)) 0 r.tasks s.tasks
      g.tasks in
      record {
        one = idle_move x node sensed times 1 Any (Part.Host h s) (λ q lt n. quiet q n);
        two = idle_move x node sensed times 2 (Sees seen ns) (Part.Host h s) (λ q lt n. quiet q n);
        three = idle_move x node sensed times 3 (Sees seen ns) (Part.Host h s) (λ q lt n. quiet q n);
        four = idle_move x node sensed times 4 (Sees seen ns) (Part.Host h s) (λ q lt n. quiet q n);
        from = refl;
        one_two = refl;
        two_three = refl;
        three_four = refl;
        low = quiet 0;
        number = refl;
        outputs = λ t. outputs-map r.tasks s.tasks t same ∙ ap
            (λ (q : ModuleState). unwrap_or (option_map (λ (u : TaskState). u.outputs) (slice_get q.tasks t)) [])
            (sym one);
        after = Part.Host h s;
        to = refl;
        comes = (
          s,
          refl,
          subst (λ q. HostAfter m h x q s) (sym all) (record {
            offset = o;
            now = f.now;
            facts = record {
              mode = mode;
              at = g.at;
              definition = g.definition;
              above = omega arith;
              within = less o mode.period.0 g.within
                  (λ e. absurd (cc (off, ap (is_offset mode) e, period_offset mode)));
              mode' = g.mode';
              base = g.base;
              grain = g.grain;
              next = g.next;
              is_next = record {
                at = g.is_next.at;
                from = past g.next o later g.is_next.from;
                least = λ q at le. g.is_next.least q at (omega (arith, le));
              };
              trigger = g.trigger;
              definitions = g.definitions;
              tasks = subst₂ (λ us ws. TaskPairs k mode covers (worst_case_of m) (suc o) o 0 us ws)
                  (ap (λ (q : ModuleState). q.tasks) one) (ended-none here none 0 s.tasks) pairs;
              actuators = g.actuators;
              sizes = g.sizes;
            };
          }),
        );
        shows_one = sym (no_port_rows r (not_ended x o mode r is f.now off) 0 r.tasks);
        shows_two = sym (no_act_rows r look (not_updated x o mode r is f.now off look) 0 r.actuators)
            ∙ ap (λ q. module_act_rows x node kk q look) (sym one);
        shows_three = sym (no_mode_row x node kk r r refl) ∙ ap (λ q. module_mode_rows x node kk r q) (sym all);
        shows_four = refl;
        cost = omega arith;
      }
    where
      none_here : (b : Bool) → is_offset f.facts.mode f.offset ≡ b → is_offset f.facts.mode f.offset ≡ false
      none_here true e =
          let l = f.facts.is_next.least f.offset e (omega arith) in
          absurd (clash f.facts.next f.offset l f.facts.is_next.from later)
        where
          clash : (a b : ℕ) → a ≤ b → b ≤ a → (a == b) ≡ false → ⊥
          clash a b l g e = grind (arith, nat_tests, l, g, e)
      none_here false e = e

      ends : ℕ → Bool
      ends = ends_here m r.mode f.offset x f.facts.mode f.facts.at (covers_of r.mode h) (worst_case_of m)

      none_ends : (t : ℕ) (b : Bool) → ends t ≡ b → is_offset f.facts.mode f.offset ≡ false → ends t ≡ false
      none_ends t false e off = e
      none_ends t true e off =
          let a = any-passing (λ i. i.task.0 == t && i.e.0 == f.offset) f.facts.mode.invocations e in
          let c = and_parts (a.item.task.0 == t) (a.item.e.0 == f.offset) a.passes in
          let at_o : a.item.e.0 ≡ f.offset = eqb-true a.item.e.0 f.offset c.1 in
          let there = end_offset f.facts.mode a.place a.item a.at in
          absurd (cc (off, ap (is_offset f.facts.mode) at_o, there))

      moved_later : (b n x o : ℕ) → x ≡ b + o → (n == o) ≡ false → (b + n == x) ≡ false
      moved_later b n x o e l = grind (arith, nat_tests, e, l)

      less : (a b : ℕ) → a ≤ b → (a ≡ b → ⊥) → suc a ≤ b
      less a b le ne = grind (arith, le, ne)

      past : (a b : ℕ) → (a == b) ≡ false → b ≤ a → suc b ≤ a
      past a b e le = grind (arith, nat_tests, e, le)
