-- Each mode of sources that break no rule is well-formed.
use Rattle.std.proofs.Common.{◌≡◌, ℕ, zero, suc, ◌+◌, ◌-◌, ◌≤◌, ◌<◌, List, [], ◌∷◌, ◌++◌, filter, length, Bool, true, false, Some, refl, ap, ap₂, sym, ◌∙◌, subst, arith}
use Rattle.std.specs.Prelude.{slice_get, not, ◌==◌, nat_lt, nat_le, option_map, unwrap_or, if◌then◌else◌}
use Rattle.std.specs.List.{list_any}
use Rattle.std.proofs.lemmas.Bool.{not-false, and_parts, leb-true, ltb-false, eqb-false, ne_eqb}
use Rattle.std.proofs.lemmas.List.{length-map}
use Rattle.std.proofs.lemmas.Option.{slice_get_within}
use Rattle.tdl_base.specs.Lists.{numbered}
use Rattle.tdl_base.specs.declared.kinds.Kind.{Kind}
use Rattle.tdl_base.specs.declared.limits.TheConstants.{LEAST_US, PERIOD_US}
use Rattle.tdl_mode.specs.declared.program.Module.{Module}
use Rattle.tdl_mode.specs.declared.program.Invocation.{Invocation}
use Rattle.tdl_mode.specs.declared.program.Update.{Update}
use Rattle.tdl_mode.specs.declared.program.Switch.{Switch}
use Rattle.tdl_mode.specs.States.{invocation_of}
use Rattle.tdl_mode.specs.WellFormed.{WellInvocation, WellUpdate, WellSwitch, WellMode}
use Rattle.tdl_tree.specs.declared.activities.Act.{Act}
use Rattle.tdl_tree.specs.declared.activities.ActKind.{ActKind}
use Rattle.tdl_tree.specs.declared.activities.ActKind.TheVariants as act
use Rattle.tdl_tree.specs.declared.declarations.Decl.{Decl}
use Rattle.tdl_tree.specs.declared.declarations.Decl.TheVariants as decl
use Rattle.tdl_tree.specs.declared.declarations.PortDecl.{PortDecl}
use Rattle.tdl_tree.specs.declared.declarations.Sort.{Sort}
use Rattle.tdl_tree.specs.declared.declarations.Sort.TheVariants as sort
use Rattle.tdl_tree.specs.declared.declarations.Tree.{Tree}
use Rattle.tdl_tree.specs.declared.names.Id.{Id}
use Rattle.tdl_tree.specs.declared.names.Time.{Time}
use Rattle.tdl_rules.specs.Lists.{each, clashes}
use Rattle.tdl_rules.specs.Naming.{Scope, TaskMeant, is_activity_meant, is_input, inputs}
use Rattle.tdl_rules.specs.Times.{time_us, Let, lets, times, in_ten_seconds}
use Rattle.tdl_rules.specs.Parts.{in_declarations, in_statements, in_activities, in_expressions, in_modes}
use Rattle.tdl_rules.specs.NameRules.{c3_name, c3_target, c3_activity, c7_what}
use Rattle.tdl_rules.specs.ModeRules.{c9_declaration, c13_mode, invoked, overlap, c14_mode, updated, same_update, c15_mode, c15_activity, mode_lets, cuts, c16_mode, c16_activity, c17_declaration, c17_what}
use Rattle.tdl_program.specs.Ordinals.{ordinal, is_task, is_actuator, is_mode, is_sort, ports_of}
use Rattle.tdl_program.specs.Expressions.{expression_of}
use Rattle.tdl_program.specs.Activities.{actuator_number, mode_number, invocation_over, update_at, switch_at, invocations_of, updates_of, switches_of}
use Rattle.tdl_program.specs.Programs.{program_of, module_of, port_of, actuators_in, tasks_in, modes_in}
use Rattle.tdl_program.proofs.Clashing.{none-passing}
use Rattle.tdl_program.proofs.Counting.{ordinal-same}
use Rattle.tdl_program.proofs.Emptiness.{empty-parts, empty-map, empty-at, numbered-at}
use Rattle.tdl_program.proofs.Entries.{Invokes, Updates, Switches, invocation-from, update-from, switch-from, one_call, one_driver, one_turn, call_or_driver, call_or_turn, driver_or_turn}
use Rattle.tdl_program.proofs.Faultless.{Faultless}
use Rattle.tdl_program.proofs.Meant.{no-fault, IsTaskMeant, IsActuatorMeant, IsModeMeant, task-meant, actuator-meant, mode-meant, as_many, none_short, not_own}
use Rattle.tdl_program.proofs.Occurrences.{lets-at, times-at}
use Rattle.tdl_program.proofs.Readable.{expression-reads, guard-reads, arguments-read}
use Rattle.tdl_program.proofs.Scopes.{scope_at, ModeIn, at_module, at_declaration, at_activity, at_mode}
use Rattle.tdl_program.proofs.Singles.{task_of, task-at, mode_of, mode-at, actuator-within}
use Rattle.tdl_program.proofs.WellTimed.{apart, once, closed}

-- two tests that answer alike keep the same items
filter-same : {A : Type 0} (p q : A → Bool) → ((x : A) → p x ≡ q x) → (xs : List A) → filter p xs ≡ filter q xs
filter-same p q same [] = refl
filter-same p q same (x ∷ xs) = ap₂ (λ t ys. if t then x ∷ ys else ys) (same x) (filter-same p q same xs)

-- the inputs that the rules count are those of the task
inputs-same : (ports : List PortDecl) → inputs ports ≡ ports_of sort.Input ports
inputs-same ports =
    filter-same is_input (λ (port : PortDecl). is_sort sort.Input port.sort) (λ port. by_sort port port.sort refl) ports
  where
    by_sort : (port : PortDecl) (s : Sort) → port.sort ≡ s → is_input port ≡ is_sort sort.Input port.sort
    by_sort port sort.Input e = rw e refl
    by_sort port sort.Output e = rw e refl
    by_sort port sort.Local e = rw e refl

module _ (sources : List Tree) (good : Faultless sources) (k : ℕ) (tree : Tree)
    (source : slice_get sources k ≡ Some tree) (j : ℕ) (start : Bool) (name : Id) (period : Time) (acts : List Act)
    (declared : slice_get tree.decls j ≡ Some (decl.Mode start name period acts)) where
  -- the module's scope, and its mode in the sources
  abbrev scope : Scope
  scope = scope_at sources k tree

  abbrev in_source : ModeIn sources k tree j period acts
  in_source = record { start = start; name = name; source = source; declared = declared }

  -- ---- what the rules say of the activities

  -- each names what it needs
  activity-meant : (n : ℕ) (activity : Act) → slice_get acts n ≡ Some activity →
      is_activity_meant scope activity.what ≡ true
  activity-meant n activity at =
      not-false (is_activity_meant scope activity.what) (no-fault _ _
      (at_activity c3_activity sources k tree j period acts n activity
      (empty-parts (in_expressions c3_name sources ++ in_statements c3_target sources)
      (in_activities c3_activity sources) good.names).1 in_source at))

  -- the task of an invocation
  call-meant : (i : Invocation) (a : Invokes scope (time_us period) acts i) → IsTaskMeant tree a.task
  call-meant i a =
      task-meant tree a.task (ap (is_activity_meant scope) (sym a.what) ∙ activity-meant i.act a.activity a.at)

  -- the actuator of an update
  driver-meant : (u : Update) (a : Updates scope (time_us period) acts u) → IsActuatorMeant tree a.actuator
  driver-meant u a =
      actuator-meant tree a.actuator (ap (is_activity_meant scope) (sym a.what) ∙ activity-meant u.act a.activity a.at)

  -- the target of a switch
  turn-meant : (w : Switch) (a : Switches scope (time_us period) acts w) → IsModeMeant tree a.target
  turn-meant w a =
      mode-meant tree a.target (ap (is_activity_meant scope) (sym a.what) ∙ activity-meant w.act a.activity a.at)

  -- a switch does not name its own mode
  turn-other : (w : Switch) (a : Switches scope (time_us period) acts w) →
      ((turn-meant w a).number == j) ≡ false
  turn-other w a =
      let number : 0 + j ≡ j = omega arith in
      let d : Decl = decl.Mode start name period acts in
      let at : slice_get (numbered 0 (λ (n : ℕ) (d : Decl). (n, d)) tree.decls) j ≡ Some (j, d) =
      numbered-at (λ n d. (n, d)) 0 j tree.decls d declared ∙ ap (λ n. Some (n, d)) number in
      let own = empty-at (c16_mode scope) (numbered 0 (λ n d. (n, d)) tree.decls) j (j, d)
      (at_module (λ scope. each (c16_mode scope) (numbered 0 (λ n d. (n, d)) scope.tree.decls)) sources k tree
      good.targets source) at in
      let here = empty-at (λ (activity : Act). c16_activity scope j activity.what) acts w.act a.activity own a.at in
      not_own scope j a.target (turn-meant w a).number (turn-meant w a).is
      (subst (λ (what : ActKind). c16_activity scope j what ≡ []) a.what here)

  -- ---- the entries of the mode

  -- each invocation
  well_invocation : (i : Invocation) → Invokes scope (time_us period) acts i →
      WellInvocation (program_of sources) k (module_of scope) (mode_of scope name period acts) i
  well_invocation i a =
      let t = call-meant i a in
      let within = lets-at (time_us period) a.activity a.place a.span a.within in
      let many = as_many scope a.task a.args t.task t.is
      (subst (λ (what : ActKind). c7_what scope what ≡ []) a.what
      (at_activity (λ scope period activity. c7_what scope activity.what) sources k tree j period acts i.act a.activity
      good.arguments in_source a.at)) in
      let none = none_short scope (time_us period) a.activity a.task a.args t.task t.is
      (subst (λ (what : ActKind). c17_what scope (time_us period) a.activity what ≡ []) a.what
      (at_activity (λ scope period activity. c17_what scope period activity activity.what) sources k tree j period acts
      i.act a.activity (empty-parts (in_declarations c17_declaration sources) _ good.worsts).1 in_source a.at)) in
      let short = none-passing (λ (span : Let). nat_lt (span.e - span.s) (time_us t.task.worst)) (lets (time_us period) a.activity)
      a.place a.span none a.within in
      let worst : time_us t.task.worst ≤ a.span.e - a.span.s = ltb-false (a.span.e - a.span.s) (time_us t.task.worst) short in
      let lasts : a.span.s < a.span.e = within.lasts in
      subst (WellInvocation (program_of sources) k (module_of scope) (mode_of scope name period acts)) a.is (record {
        lasts = lasts;
        ends = within.ends;
        definition = task_of scope t.public t.name t.task.worst t.task.ports t.body;
        task = ap (λ o. slice_get (each (tasks_in scope) tree.decls)
            (unwrap_or (option_map (λ (t : TaskMeant). ordinal is_task tree.decls t.number) o) 0)) t.is
            ∙ task-at scope tree.decls t.task.number t.public t.name t.task.worst t.task.ports t.body t.at;
        inputs = length-map a.args (expression_of scope) ∙ many ∙ ap length (inputs-same t.task.ports)
            ∙ sym (length-map (ports_of sort.Input t.task.ports) port_of);
        fits = omega (arith, worst, lasts);
        guard = guard-reads sources k tree source a.activity.guard;
        args = arguments-read sources k tree source a.args;
      })

  -- each update
  well_update : (u : Update) → Updates scope (time_us period) acts u →
      WellUpdate (program_of sources) k (module_of scope) (mode_of scope name period acts) u
  well_update u a =
      let t = driver-meant u a in
      let within = times-at (time_us period) a.activity a.place a.offset a.within in
      subst (WellUpdate (program_of sources) k (module_of scope) (mode_of scope name period acts)) a.is (record {
        above = within.above;
        within = within.within;
        actuator = subst (λ n. n < length (each actuators_in tree.decls))
            (sym (ap (λ o. unwrap_or (option_map (λ (a : ℕ × Kind). ordinal is_actuator tree.decls a.0) o) 0) t.is))
            (actuator-within tree.decls t.number t.kind t.name t.initial t.at);
        guard = guard-reads sources k tree source a.activity.guard;
        value = expression-reads sources k tree source a.value;
      })

  -- each switch
  well_switch : (n : ℕ) → ordinal is_mode tree.decls j ≡ n → (w : Switch) → Switches scope (time_us period) acts w →
      WellSwitch (program_of sources) k (module_of scope) n (mode_of scope name period acts) w
  well_switch n number w a =
      let t = turn-meant w a in
      let within = times-at (time_us period) a.activity a.place a.offset a.within in
      let leads : (mode_number scope a.target).0 ≡ ordinal is_mode tree.decls t.number =
      ap (λ o. unwrap_or (option_map (λ (n : ℕ). ordinal is_mode tree.decls n) o) 0) t.is in
      let there = mode-at scope tree.decls t.number t.start t.name t.period t.acts t.at in
      subst (WellSwitch (program_of sources) k (module_of scope) n (mode_of scope name period acts)) a.is (record {
        above = within.above;
        within = within.within;
        target = subst (λ n. n < length (each (modes_in scope) tree.decls)) (sym leads)
            (slice_get_within (each (modes_in scope) tree.decls) (ordinal is_mode tree.decls t.number)
            (mode_of scope t.name t.period t.acts) there);
        other = ne_eqb (mode_number scope a.target).0 n (λ e.
            eqb-false t.number j (turn-other w a)
            (ordinal-same is_mode tree.decls t.number j (decl.Mode t.start t.name t.period t.acts)
            (decl.Mode start name period acts) t.at refl declared refl (sym leads ∙ e ∙ sym number)));
        guard = guard-reads sources k tree source a.activity.guard;
      })

  -- ---- the mode

  -- its period is at least 1 us
  period-lasts : 0 < time_us period
  period-lasts =
      let lawful = not-false (in_ten_seconds (time_us period)) (no-fault _ _
      (at_declaration c9_declaration sources k tree j (decl.Mode start name period acts) good.periods source declared)) in
      let least : LEAST_US ≤ time_us period =
      leb-true LEAST_US (time_us period)
      (and_parts (nat_le LEAST_US (time_us period)) (nat_le (time_us period) PERIOD_US) lawful).0 in
      omega (arith, least)

  -- its switches stand in no logical execution time
  uncut : (n : ℕ) (activity : Act) (target : Id) → slice_get acts n ≡ Some activity → activity.what ≡ act.Switch target →
      list_any (cuts (mode_lets (time_us period) acts)) (times (time_us period) activity) ≡ false
  uncut n activity target at what =
      let none = empty-at
      (λ (activity : Act). c15_activity scope (time_us period) (mode_lets (time_us period) acts) activity activity.what)
      acts n activity (at_mode c15_mode sources k tree j period acts good.switches in_source) at in
      no-fault _ _ (subst (λ (what : ActKind).
      c15_activity scope (time_us period) (mode_lets (time_us period) acts) activity what ≡ []) what none)

  -- an invocation by its number, from 1
  numbered_call : (q : ℕ) (i : Invocation) → invocation_of (invocations_of scope (time_us period) acts) q ≡ Some i →
      Invokes scope (time_us period) acts i
  numbered_call zero i at = absurd (cc at)
  numbered_call (suc q) i at = invocation-from scope (time_us period) acts q i at

  -- the mode is well-formed
  pub well_mode : (n : ℕ) → ordinal is_mode tree.decls j ≡ n →
      WellMode (program_of sources) k (module_of scope) n (mode_of scope name period acts)
  well_mode n number = record {
    lasts = period-lasts;
    invocations = λ q i at. well_invocation i (numbered_call q i at);
    updates = λ q u at. well_update u (update-from scope (time_us period) acts q u at);
    switches = λ q w at. well_switch n number w (switch-from scope (time_us period) acts q w at);
    apart = λ q r i j' at at'.
        apart scope (time_us period) acts activity-meant q r i j'
        (empty-map _ (clashes overlap (each (λ (activity : Act). invoked scope (time_us period) activity activity.what) acts))
        (at_mode c13_mode sources k tree j period acts good.invocations in_source)) at at';
    once = λ q r u v at at'.
        once scope (time_us period) acts activity-meant q r u v
        (empty-map _ (clashes same_update (each (λ (activity : Act). updated scope (time_us period) activity activity.what) acts))
        (at_mode c14_mode sources k tree j period acts good.updates in_source)) at at';
    closed = λ q r w i at at'.
        closed scope (time_us period) acts w i (switch-from scope (time_us period) acts q w at) (numbered_call r i at') uncut;
    calls = λ q r i j' at at'.
        one_call scope (time_us period) acts i j' (invocation-from scope (time_us period) acts q i at)
        (invocation-from scope (time_us period) acts r j' at');
    drivers = λ q r u v at at'.
        one_driver scope (time_us period) acts u v (update-from scope (time_us period) acts q u at)
        (update-from scope (time_us period) acts r v at');
    turns = λ q r w v at at'.
        one_turn scope (time_us period) acts w v (switch-from scope (time_us period) acts q w at)
        (switch-from scope (time_us period) acts r v at');
    call_or_driver = λ q r i u at at'.
        call_or_driver scope (time_us period) acts i u (invocation-from scope (time_us period) acts q i at)
        (update-from scope (time_us period) acts r u at');
    call_or_turn = λ q r i w at at'.
        call_or_turn scope (time_us period) acts i w (invocation-from scope (time_us period) acts q i at)
        (switch-from scope (time_us period) acts r w at');
    driver_or_turn = λ q r u w at at'.
        driver_or_turn scope (time_us period) acts u w (update-from scope (time_us period) acts q u at)
        (switch-from scope (time_us period) acts r w at');
  }
