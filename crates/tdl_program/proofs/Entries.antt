-- Each invocation, update and switch of a mode comes from the activity of its number.
use Rattle.std.proofs.Common.{◌≡◌, ℕ, ◌+◌, List, map, Option, Some, None, refl, ap, sym, ◌∙◌, subst, arith}
use Rattle.std.specs.Prelude.{slice_get}
use Rattle.std.proofs.lemmas.Option.{same_Some}
use Rattle.tdl_base.proofs.ListPlaces.{In}
use Rattle.tdl_mode.specs.declared.program.Invocation.{Invocation}
use Rattle.tdl_mode.specs.declared.program.Update.{Update}
use Rattle.tdl_mode.specs.declared.program.Switch.{Switch}
use Rattle.tdl_tree.specs.declared.activities.Act.{Act}
use Rattle.tdl_tree.specs.declared.activities.ActKind.{ActKind}
use Rattle.tdl_tree.specs.declared.activities.ActKind.TheVariants as act
use Rattle.tdl_tree.specs.declared.expressions.ExprTree.{ExprTree}
use Rattle.tdl_tree.specs.declared.names.Id.{Id}
use Rattle.tdl_rules.specs.Naming.{Scope, activity_name}
use Rattle.tdl_rules.specs.Trees.{expressions_in}
use Rattle.tdl_rules.specs.Times.{Let, lets, times}
use Rattle.tdl_program.specs.Activities.{task_number, actuator_number, mode_number, invocation_over, invocations_in, invocations_of, update_at, updates_in, updates_of, switch_at, switches_in, switches_of}
use Rattle.tdl_program.specs.Expressions.{expression_of, guard_of}
use Rattle.tdl_program.proofs.Emptiness.{map-from}
use Rattle.tdl_program.proofs.JoinedPlaces.{joined-from}

module _ (scope : Scope) (period : ℕ) (acts : List Act) where
  -- ---- where entries come from

  -- an invocation, with its activity and its logical execution time
  pub record Invokes (i : Invocation) : Type 0 where
    pub activity : Act
    pub at : slice_get acts i.act ≡ Some activity
    pub task : Id
    pub args : List ExprTree
    pub what : activity.what ≡ act.Task task args
    pub span : Let
    pub place : ℕ
    pub within : slice_get (lets period activity) place ≡ Some span
    pub is : invocation_over scope i.act activity task args span ≡ i

  -- an update, with its activity and its offset
  pub record Updates (u : Update) : Type 0 where
    pub activity : Act
    pub at : slice_get acts u.act ≡ Some activity
    pub actuator : Id
    pub value : ExprTree
    pub what : activity.what ≡ act.Update actuator value
    pub offset : ℕ
    pub place : ℕ
    pub within : slice_get (times period activity) place ≡ Some offset
    pub is : update_at scope u.act activity actuator value offset ≡ u

  -- a switch, with its activity and its offset
  pub record Switches (w : Switch) : Type 0 where
    pub activity : Act
    pub at : slice_get acts w.act ≡ Some activity
    pub target : Id
    pub what : activity.what ≡ act.Switch target
    pub offset : ℕ
    pub place : ℕ
    pub within : slice_get (times period activity) place ≡ Some offset
    pub is : switch_at scope w.act activity target offset ≡ w

  -- each invocation comes so
  pub invocation-from : (q : ℕ) (i : Invocation) → slice_get (invocations_of scope period acts) q ≡ Some i → Invokes i
  invocation-from q i at =
      let r = joined-from (λ n activity. invocations_in scope period n activity activity.what) 0 acts q i at in
      by_what r.place r.item r.at r.item.what refl r.own.place r.own.at
    where
      by_what : (n : ℕ) (activity : Act) → slice_get acts n ≡ Some activity → (what : ActKind) → activity.what ≡ what →
          (p : ℕ) → slice_get (invocations_in scope period (0 + n) activity what) p ≡ Some i → Invokes i
      by_what n activity at (act.Update actuator value) is p own = absurd (cc own)
      by_what n activity at (act.Switch target) is p own = absurd (cc own)
      by_what n activity at (act.Task task args) is p own =
          let m = map-from (invocation_over scope (0 + n) activity task args) p (lets period activity) i own in
          let number : 0 + n ≡ i.act = ap (λ (i : Invocation). i.act) m.is in
          let plain : n ≡ i.act = omega (arith, number) in
          record {
            activity = activity;
            at = subst (λ k. slice_get acts k ≡ Some activity) plain at;
            task = task;
            args = args;
            what = is;
            span = m.item;
            place = p;
            within = m.at;
            is = ap (λ k. invocation_over scope k activity task args m.item) (sym number) ∙ m.is;
          }

  -- each update comes so
  pub update-from : (q : ℕ) (u : Update) → slice_get (updates_of scope period acts) q ≡ Some u → Updates u
  update-from q u at =
      let r = joined-from (λ n activity. updates_in scope period n activity activity.what) 0 acts q u at in
      by_what r.place r.item r.at r.item.what refl r.own.place r.own.at
    where
      by_what : (n : ℕ) (activity : Act) → slice_get acts n ≡ Some activity → (what : ActKind) → activity.what ≡ what →
          (p : ℕ) → slice_get (updates_in scope period (0 + n) activity what) p ≡ Some u → Updates u
      by_what n activity at (act.Task task args) is p own = absurd (cc own)
      by_what n activity at (act.Switch target) is p own = absurd (cc own)
      by_what n activity at (act.Update actuator value) is p own =
          let m = map-from (update_at scope (0 + n) activity actuator value) p (times period activity) u own in
          let number : 0 + n ≡ u.act = ap (λ (u : Update). u.act) m.is in
          let plain : n ≡ u.act = omega (arith, number) in
          record {
            activity = activity;
            at = subst (λ k. slice_get acts k ≡ Some activity) plain at;
            actuator = actuator;
            value = value;
            what = is;
            offset = m.item;
            place = p;
            within = m.at;
            is = ap (λ k. update_at scope k activity actuator value m.item) (sym number) ∙ m.is;
          }

  -- each switch comes so
  pub switch-from : (q : ℕ) (w : Switch) → slice_get (switches_of scope period acts) q ≡ Some w → Switches w
  switch-from q w at =
      let r = joined-from (λ n activity. switches_in scope period n activity activity.what) 0 acts q w at in
      by_what r.place r.item r.at r.item.what refl r.own.place r.own.at
    where
      by_what : (n : ℕ) (activity : Act) → slice_get acts n ≡ Some activity → (what : ActKind) → activity.what ≡ what →
          (p : ℕ) → slice_get (switches_in scope period (0 + n) activity what) p ≡ Some w → Switches w
      by_what n activity at (act.Task task args) is p own = absurd (cc own)
      by_what n activity at (act.Update actuator value) is p own = absurd (cc own)
      by_what n activity at (act.Switch target) is p own =
          let m = map-from (switch_at scope (0 + n) activity target) p (times period activity) w own in
          let number : 0 + n ≡ w.act = ap (λ (w : Switch). w.act) m.is in
          let plain : n ≡ w.act = omega (arith, number) in
          record {
            activity = activity;
            at = subst (λ k. slice_get acts k ≡ Some activity) plain at;
            target = target;
            what = is;
            offset = m.item;
            place = p;
            within = m.at;
            is = ap (λ k. switch_at scope k activity target m.item) (sym number) ∙ m.is;
          }

  -- ---- entries of one activity

  -- two entries of one number have one activity
  same_activity : (m n : ℕ) (a b : Act) → slice_get acts m ≡ Some a → slice_get acts n ≡ Some b → m ≡ n → a ≡ b
  same_activity m n a b at at' e = same_Some a b (sym at ∙ ap (slice_get acts) e ∙ at')

  -- two invocations of one activity have one task, the same arguments and the same guard
  pub one_call : (i j : Invocation) → Invokes i → Invokes j → i.act ≡ j.act →
      (i.task.0 ≡ j.task.0) × (i.args ≡ j.args) × (i.guard ≡ j.guard)
  one_call i j a b e =
      let one : a.activity ≡ b.activity = same_activity i.act j.act a.activity b.activity a.at b.at e in
      let what : act.Task a.task a.args ≡ act.Task b.task b.args =
      sym a.what ∙ ap (λ (x : Act). x.what) one ∙ b.what in
      let task : a.task ≡ b.task = ap activity_name what in
      let args : a.args ≡ b.args = ap expressions_in what in (
        sym (ap (λ (i : Invocation). i.task.0) a.is) ∙ ap (λ x. (task_number scope x).0) task
            ∙ ap (λ (i : Invocation). i.task.0) b.is,
        sym (ap (λ (i : Invocation). i.args) a.is) ∙ ap (λ xs. map (expression_of scope) xs) args
            ∙ ap (λ (i : Invocation). i.args) b.is,
        sym (ap (λ (i : Invocation). i.guard) a.is) ∙ ap (λ (x : Act). guard_of scope x.guard) one
            ∙ ap (λ (i : Invocation). i.guard) b.is,
      )

  -- the value of an update, where it is one
  abbrev first_value : ActKind → Option ExprTree
  first_value (act.Update actuator value) = Some value
  first_value _ = None

  -- two updates of one activity have one actuator, one value and the same guard
  pub one_driver : (u v : Update) → Updates u → Updates v → u.act ≡ v.act →
      (u.actuator ≡ v.actuator) × (u.value ≡ v.value) × (u.guard ≡ v.guard)
  one_driver u v a b e =
      let one : a.activity ≡ b.activity = same_activity u.act v.act a.activity b.activity a.at b.at e in
      let what : act.Update a.actuator a.value ≡ act.Update b.actuator b.value =
      sym a.what ∙ ap (λ (x : Act). x.what) one ∙ b.what in
      let actuator : a.actuator ≡ b.actuator = ap activity_name what in
      let value : a.value ≡ b.value = same_Some a.value b.value (ap first_value what) in (
        sym (ap (λ (u : Update). u.actuator) a.is) ∙ ap (actuator_number scope) actuator
            ∙ ap (λ (u : Update). u.actuator) b.is,
        sym (ap (λ (u : Update). u.value) a.is) ∙ ap (expression_of scope) value ∙ ap (λ (u : Update). u.value) b.is,
        sym (ap (λ (u : Update). u.guard) a.is) ∙ ap (λ (x : Act). guard_of scope x.guard) one
            ∙ ap (λ (u : Update). u.guard) b.is,
      )

  -- two switches of one activity have one target and the same guard
  pub one_turn : (w v : Switch) → Switches w → Switches v → w.act ≡ v.act →
      (w.target.0 ≡ v.target.0) × (w.guard ≡ v.guard)
  one_turn w v a b e =
      let one : a.activity ≡ b.activity = same_activity w.act v.act a.activity b.activity a.at b.at e in
      let what : act.Switch a.target ≡ act.Switch b.target =
      sym a.what ∙ ap (λ (x : Act). x.what) one ∙ b.what in
      let target : a.target ≡ b.target = ap activity_name what in (
        sym (ap (λ (w : Switch). w.target.0) a.is) ∙ ap (λ x. (mode_number scope x).0) target
            ∙ ap (λ (w : Switch). w.target.0) b.is,
        sym (ap (λ (w : Switch). w.guard) a.is) ∙ ap (λ (x : Act). guard_of scope x.guard) one
            ∙ ap (λ (w : Switch). w.guard) b.is,
      )

  -- an invocation and an update have two activities
  pub call_or_driver : (i : Invocation) (u : Update) → Invokes i → Updates u → i.act ≡ u.act → ⊥
  call_or_driver i u a b e =
      let one : a.activity ≡ b.activity = same_activity i.act u.act a.activity b.activity a.at b.at e in
      let what : act.Task a.task a.args ≡ act.Update b.actuator b.value =
      sym a.what ∙ ap (λ (x : Act). x.what) one ∙ b.what in
      cc what

  -- so have an invocation and a switch
  pub call_or_turn : (i : Invocation) (w : Switch) → Invokes i → Switches w → i.act ≡ w.act → ⊥
  call_or_turn i w a b e =
      let one : a.activity ≡ b.activity = same_activity i.act w.act a.activity b.activity a.at b.at e in
      let what : act.Task a.task a.args ≡ act.Switch b.target =
      sym a.what ∙ ap (λ (x : Act). x.what) one ∙ b.what in
      cc what

  -- so have an update and a switch
  pub driver_or_turn : (u : Update) (w : Switch) → Updates u → Switches w → u.act ≡ w.act → ⊥
  driver_or_turn u w a b e =
      let one : a.activity ≡ b.activity = same_activity u.act w.act a.activity b.activity a.at b.at e in
      let what : act.Update a.actuator a.value ≡ act.Switch b.target =
      sym a.what ∙ ap (λ (x : Act). x.what) one ∙ b.what in
      cc what
