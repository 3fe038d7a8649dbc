-- A plain program is well-formed, one node is a lawful placement of it, and its one window passes.
use Rattle.std.proofs.Common.{◌≡◌, ◌<◌, ◌≤◌, ◌+◌, ℕ, zero, suc, ◌==◌, ◌||◌, Bool, true, false, List, [], ◌∷◌, map, filter, Some, refl, ap, sym, ◌∙◌, subst, arith}
use Rattle.std.specs.Prelude.{slice_get, unwrap_or, sum}
use Rattle.std.proofs.lemmas.Bool.{eqb-true}
use Rattle.tdl_base.specs.declared.numbers.Place.{Place}
use Rattle.tdl_base.specs.declared.numbers.Place.TheVariants.{Sensor}
use Rattle.tdl_body.specs.declared.tree.Expr.TheVariants as expr
use Rattle.tdl_body.specs.declared.tree.Expr.{Expr}
use Rattle.tdl_body.specs.declared.tree.Expr.TheOpen.{Expr-F}
use Rattle.tdl_body.specs.declared.tree.Expr.TheViews.{roll-Expr}
use Rattle.tdl_body.specs.declared.tree.Expr.TheFolds.{fold-roll-Expr, map-Expr}
use Rattle.tdl_body.specs.Places.{places_of, places_step}
use Rattle.tdl_mode.specs.declared.program.Module.{Module}
use Rattle.tdl_mode.specs.declared.program.Task.{Task}
use Rattle.tdl_mode.specs.declared.program.Mode.{Mode}
use Rattle.tdl_mode.specs.declared.program.Invocation.{Invocation}
use Rattle.tdl_mode.specs.States as state
use Rattle.tdl_mode.specs.WellFormed.{WellFormed, WellModule, WellMode, WellInvocation, AllRead}
use Rattle.tdl_deploy.specs.declared.schedule.Window.{Window}
use Rattle.tdl_deploy.specs.Named.{one_node}
use Rattle.tdl_deploy.specs.Placed.{hosts, is_remote}
use Rattle.tdl_deploy.specs.Passes.{WellPlaced, Passes, Invoked, is_bus, is_cpu_of, deadline}
use Rattle.tdl_plain.specs.declared.form.Form.{Form}
use Rattle.tdl_plain.specs.PlainProgram.{program_of, plain_module, plain_mode, plain_invocation, plain_task, period_us}
use Rattle.tdl_plain.specs.Runnable.{IsRunnable}
use Rattle.tdl_make.specs.PlainBundle.{plain_schedule, plain_window}

-- ---- lists of one item

-- an item of a list of one is that one
only : {A : Type 0} (a b : A) (n : ℕ) → slice_get (a ∷ []) n ≡ Some b → a ≡ b
only a b zero at = ap (λ o. unwrap_or o a) at
only a b (suc n) at = absurd (cc at)

-- and stands at place 0
first : {A : Type 0} (a b : A) (n : ℕ) → slice_get (a ∷ []) n ≡ Some b → n ≡ 0
first a b zero at = refl
first a b (suc n) at = absurd (cc at)

-- an invocation of a mode with one is that one
only_invocation : (i j : Invocation) (n : ℕ) → state.invocation_of (i ∷ []) n ≡ Some j → i ≡ j
only_invocation i j zero at = absurd (cc at)
only_invocation i j (suc n) at = only i j n at

-- and its number is 1
first_invocation : (i j : Invocation) (n : ℕ) → state.invocation_of (i ∷ []) n ≡ Some j → n ≡ 1
first_invocation i j zero at = absurd (cc at)
first_invocation i j (suc n) at = ap suc (first i j n at)

-- ---- the program

-- the places of one layer of an expression
places_of-layer : (node : Expr-F Expr) →
    places_of (roll-Expr node) ≡ places_step (map-Expr Expr (List Place) places_of node)
unfolding places_of
places_of-layer node = fold-roll-Expr (List Place) places_step node

-- an expression that loads a place reads that place
places_of-load : (p : Place) → places_of (expr.Load p) ≡ p ∷ []
unfolding roll-Expr places_of denote.Hole.Carrier.roll
places_of-load p = places_of-layer (Expr-F.Load p)

module _ (f : Form) (runnable : IsRunnable f) where
  -- the period is not 0
  pub period_above : 0 < period_us f
  period_above = omega (arith, runnable.worst, runnable.within)

  -- the invocation's argument reads the sensor
  well_invocation : WellInvocation (program_of f) 0 (plain_module f) (plain_mode f) (plain_invocation f)
  well_invocation = record {
    lasts = period_above;
    ends = omega arith;
    definition = plain_task f;
    task = refl;
    inputs = refl;
    fits = omega (arith, runnable.within);
    guard = tt;
    args = (subst (AllRead (program_of f) 0 (plain_module f)) (sym (places_of-load (Sensor 0))) (omega arith, tt), tt);
  }

  -- the mode has one invocation, and no update and no switch
  well_mode : WellMode (program_of f) 0 (plain_module f) 0 (plain_mode f)
  well_mode = record {
    lasts = period_above;
    invocations = λ q i at.
        subst (WellInvocation (program_of f) 0 (plain_module f) (plain_mode f))
        (only_invocation (plain_invocation f) i q at)
        well_invocation;
    updates = λ q u at. absurd (cc at);
    switches = λ q w at. absurd (cc at);
    apart = λ q r i j at at' same before after.
        first_invocation (plain_invocation f) i q at ∙ sym (first_invocation (plain_invocation f) j r at');
    once = λ q r u v at at' same together. absurd (cc at);
    closed = λ q r w i at at' before after. cc at;
    calls = λ q r i j at at' same.
        let e : i ≡ j = sym (only (plain_invocation f) i q at) ∙ only (plain_invocation f) j r at' in
        (ap (λ (k : Invocation). k.task.0) e, ap (λ (k : Invocation). k.args) e, ap (λ (k : Invocation). k.guard) e);
    drivers = λ q r u v at at' same. absurd (cc at);
    turns = λ q r w v at at' same. absurd (cc at);
    call_or_driver = λ q r i u at at' same. cc at';
    call_or_turn = λ q r i w at at' same. cc at';
    driver_or_turn = λ q r u w at at' same. cc at;
  }

  -- the module has one mode and one task, and imports none
  well_module : WellModule (program_of f) 0 (plain_module f)
  well_module = record {
    start = omega arith;
    modes = λ n mode at.
        subst (λ (k : ℕ). WellMode (program_of f) 0 (plain_module f) k mode) (sym (first (plain_mode f) mode n at))
        (subst (WellMode (program_of f) 0 (plain_module f) 0) (only (plain_mode f) mode n at) well_mode);
    worsts = λ t task at. subst (λ (u : Task). 0 < u.worst.0) (only (plain_task f) task t at) runnable.worst;
    imports = λ i among. absurd (cc among);
  }

  -- the program is well-formed
  pub well_formed : WellFormed (program_of f)
  well_formed = record {
    modules = λ k m at.
        subst (λ (n : ℕ). WellModule (program_of f) n m) (sym (first (plain_module f) m k at))
        (subst (WellModule (program_of f) 0) (only (plain_module f) m k at) well_module);
  }

-- ---- its placement and its schedule

-- one of no more
one_of : (b : Bool) → (b || false) ≡ true → b ≡ true
one_of true h = refl
one_of false h = h

module _ (f : Form) where
  -- only node 0 hosts a module, and only module 0 is hosted
  hosts_only : (n m : ℕ) → hosts (one_node (program_of f)) n m ≡ true → (n ≡ 0) × (m ≡ 0)
  hosts_only zero m h = (refl, sym (eqb-true 0 m (one_of (0 == m) h)))
  hosts_only (suc n) m h = absurd (cc h)

  -- one node is a lawful placement
  pub well_placed : WellPlaced (program_of f) (one_node (program_of f))
  well_placed = record {
    hosted = λ m below.
        let e : 0 ≡ m = omega (arith, below) in
        (0, subst (λ (k : ℕ). hosts (one_node (program_of f)) 0 k ≡ true) e refl);
    once = λ m n k here there. (hosts_only n m here).0 ∙ sym (hosts_only k m there).0;
    there = λ m n here. let e : m ≡ 0 = (hosts_only n m here).1 in omega (arith, e);
  }

  -- what an invocation of the program is: the one of its one mode
  record IsTheCall (m k n : ℕ) (i : Invoked (program_of f) m k n) : Type 0 where
    owner : m ≡ 0
    mode : k ≡ 0
    number : n ≡ 1
    invocation : plain_invocation f ≡ i.invocation
    task : plain_task f ≡ i.task

  -- each invocation of the program is that one
  the_call : (m k n : ℕ) (i : Invoked (program_of f) m k n) → IsTheCall m k n i
  the_call m k n i = record {
    owner = first (plain_module f) i.owner m i.owner_at;
    mode = first (plain_mode f) i.mode k mode_at;
    number = first_invocation (plain_invocation f) i.invocation n invocation_at;
    invocation = invocation_is;
    task = only (plain_task f) i.task i.invocation.task.0 task_at;
  }
    where
      owner_is : plain_module f ≡ i.owner
      owner_is = only (plain_module f) i.owner m i.owner_at

      mode_at : slice_get (plain_mode f ∷ []) k ≡ Some i.mode
      mode_at = subst (λ (o : Module). slice_get o.modes k ≡ Some i.mode) (sym owner_is) i.mode_at

      invocation_at : state.invocation_of (plain_invocation f ∷ []) n ≡ Some i.invocation
      invocation_at =
          subst (λ (o : Mode). state.invocation_of o.invocations n ≡ Some i.invocation)
          (sym (only (plain_mode f) i.mode k mode_at))
          i.invocation_at

      invocation_is : plain_invocation f ≡ i.invocation
      invocation_is = only_invocation (plain_invocation f) i.invocation n invocation_at

      task_at : slice_get (plain_task f ∷ []) i.invocation.task.0 ≡ Some i.task
      task_at = subst (λ (o : Module). slice_get o.tasks i.invocation.task.0 ≡ Some i.task) (sym owner_is) i.task_at

  -- the invocation of the window
  call : Invoked (program_of f) 0 0 1
  call = record {
    owner = plain_module f;
    mode = plain_mode f;
    invocation = plain_invocation f;
    task = plain_task f;
    owner_at = refl;
    mode_at = refl;
    invocation_at = refl;
    task_at = refl;
  }

  -- the invocation of a window
  abbrev InvokedBy : Window → Type 0
  InvokedBy w = Invoked (program_of f) w.module.0 w.mode.0 w.invocation

  -- a window lies between the start and the deadline of an invocation
  abbrev LiesIn : Window → Invocation → Type 0
  LiesIn w i =
      (i.s.0 ≤ w.offset) × (w.offset + w.length ≤ deadline (plain_schedule f) w.module.0 w.mode.0 w.invocation i.e.0)

  -- the window lies in its invocation where the worst case is within the period
  lies_in : f.worst ≤ period_us f → (i : InvokedBy (plain_window f)) → LiesIn (plain_window f) i.invocation
  lies_in within i =
      subst (LiesIn (plain_window f)) (the_call 0 0 1 i).invocation (omega arith, omega (arith, within))

  -- the processor windows of the invocation last its worst case
  cpu_sum : (m k n : ℕ) → m ≡ 0 → k ≡ 0 → n ≡ 1 →
      sum (map (λ (w : Window). w.length) (filter (is_cpu_of m k n) (plain_schedule f).windows)) ≡ f.worst
  cpu_sum m k n e g h = rw (e, g, h) (omega arith)

  -- its task is not remote
  not_remote : (m : ℕ) (u : Task) → m ≡ 0 → plain_task f ≡ u →
      is_remote (program_of f) (one_node (program_of f)) m u ≡ false
  not_remote m u e g = rw (e, sym g) refl

  -- two places of the one window are not one before the other
  not_before : (q r : ℕ) (v w : Window) → q < r → slice_get (plain_schedule f).windows q ≡ Some v →
      slice_get (plain_schedule f).windows r ≡ Some w → ⊥
  not_before q r v w lt at at' =
      let e : r ≡ 0 = first (plain_window f) w r at' in
      omega (arith, e, lt)

  -- the window is not on the bus
  not_on_bus : (q : ℕ) (w : Window) → slice_get (plain_schedule f).windows q ≡ Some w → is_bus w.resource ≡ true → ⊥
  not_on_bus q w at bus = cc (ap (λ (v : Window). is_bus v.resource) (only (plain_window f) w q at) ∙ bus)

  -- its one window passes
  pub passes : IsRunnable f → Passes (program_of f) (one_node (program_of f)) (plain_schedule f)
  passes runnable = record {
    invoked = λ q w at. subst InvokedBy (only (plain_window f) w q at) call;
    lengths = λ q w at. subst (λ (v : Window). 0 < v.length) (only (plain_window f) w q at) runnable.worst;
    within = λ q w at cpu.
        subst (λ (v : Window). (i : InvokedBy v) → LiesIn v i.invocation)
        (only (plain_window f) w q at)
        (lies_in runnable.within);
    enough = λ m k n i.
        let c : IsTheCall m k n i = the_call m k n i in
        let e : f.worst ≡ i.task.worst.0 = ap (λ (u : Task). u.worst.0) c.task in
        omega (arith, sym e, cpu_sum m k n c.owner c.mode c.number);
    one_bus = λ m k n i. let c : IsTheCall m k n i = the_call m k n i in rw (not_remote m i.task c.owner c.task) refl;
    on_bus = λ q w at bus. absurd (not_on_bus q w at bus);
    apart = λ q r v w lt at at' same owner mode. absurd (not_before q r v w lt at at');
    cpu_apart = λ q r node v w lt at at' cpu cpu' other here there. absurd (not_before q r v w lt at at');
    bus_apart = λ q r v w lt at at' bus bus' other. absurd (not_before q r v w lt at at');
  }
