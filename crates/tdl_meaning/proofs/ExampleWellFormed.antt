-- The program of three modules is well-formed.
use Rattle.std.proofs.Common.{◌≡◌, ℕ, ℤ, ◌<◌, List, [], ◌∷◌, ◌++◌, inl, inr, refl, sym, subst, arith}
use Rattle.std.specs.Prelude.{pos}
use Rattle.tdl_base.specs.declared.numbers.Place.{Place}
use Rattle.tdl_base.specs.declared.numbers.Place.TheVariants.{Sensor, Port}
use Rattle.tdl_base.specs.declared.arithmetic.BinOp.{BinOp}
use Rattle.tdl_base.specs.declared.arithmetic.BinOp.TheVariants.{Greater}
use Rattle.tdl_body.specs.declared.tree.Expr.{Expr}
use Rattle.tdl_body.specs.declared.tree.Expr.TheVariants as expr
use Rattle.tdl_body.specs.declared.tree.Expr.TheOpen.{Expr-F}
use Rattle.tdl_body.specs.declared.tree.Expr.TheViews.{roll-Expr}
use Rattle.tdl_body.specs.declared.tree.Expr.TheFolds.{fold-roll-Expr, map-Expr}
use Rattle.tdl_body.specs.Places.{places_of, places_step}
use Rattle.tdl_mode.specs.declared.program.Module.{Module}
use Rattle.tdl_mode.specs.WellFormed.{MayRead, AllRead, Readable, WellMode, WellModule, WellFormed}
use Rattle.tdl_meaning.specs.ExampleThree.{output_of, count_task, quick_mode, slow_mode, meter, gather_task, gathering_mode, panel, check_task, checking_mode, watch, three_modules}
use Rattle.tdl_meaning.proofs.ExamplePlaces.{◌▸◌, from_each}
use Rattle.tdl_meaning.proofs.ExampleModes.{small_mode, among_lower}

-- ---- what expressions read

-- the places of an expression's node are made of those of its operands
places_of-layer : (node : Expr-F Expr) →
    places_of (roll-Expr node) ≡ places_step (map-Expr Expr (List Place) places_of node)
unfolding places_of
places_of-layer node = fold-roll-Expr (List Place) places_step node

-- a load reads its place
places_of-load : (p : Place) → places_of (expr.Load p) ≡ p ∷ []
unfolding roll-Expr places_of denote.Hole.Carrier.roll
places_of-load p = places_of-layer (Expr-F.Load p)

-- a constant reads nothing
places_of-const : (v : ℤ) → places_of (expr.Const v) ≡ []
unfolding roll-Expr places_of denote.Hole.Carrier.roll
places_of-const v = places_of-layer (Expr-F.Const v)

-- an operation reads what its operands read
places_of-bin : (op : BinOp) (a b : Expr) → places_of (expr.Bin op a b) ≡ places_of a ++ places_of b
unfolding roll-Expr places_of denote.Hole.Carrier.roll
places_of-bin op a b = places_of-layer (Expr-F.Bin op a b)

-- a module may load what it may read
loads : (k : ℕ) (m : Module) (p : Place) → MayRead three_modules k m p → Readable three_modules k m (expr.Load p)
loads k m p may = subst (AllRead three_modules k m) (sym (places_of-load p)) (may, tt)

-- a comparison of a place with a constant reads the place
places_of-above : (p : Place) (v : ℤ) → places_of (expr.Bin Greater (expr.Load p) (expr.Const v)) ≡ p ∷ []
places_of-above p v = rw (places_of-bin, places_of-load, places_of-const) refl

-- and so does one of a constant with a place
places_of-below : (p : Place) (v : ℤ) → places_of (expr.Bin Greater (expr.Const v) (expr.Load p)) ≡ p ∷ []
places_of-below p v = rw (places_of-bin, places_of-const, places_of-load) refl

-- a module may compare what it may read
loads_above : (k : ℕ) (m : Module) (p : Place) (v : ℤ) → MayRead three_modules k m p →
    Readable three_modules k m (expr.Bin Greater (expr.Load p) (expr.Const v))
loads_above k m p v may = subst (AllRead three_modules k m) (sym (places_of-above p v)) (may, tt)

-- on either side
loads_below : (k : ℕ) (m : Module) (p : Place) (v : ℤ) → MayRead three_modules k m p →
    Readable three_modules k m (expr.Bin Greater (expr.Const v) (expr.Load p))
loads_below k m p v may = subst (AllRead three_modules k m) (sym (places_of-below p v)) (may, tt)

-- the meter reads its own count
reads_own : MayRead three_modules 0 meter (Port (output_of 0))
reads_own = record {
  exporter = meter;
  task = count_task;
  there = refl;
  at = refl;
  output = omega arith;
  allowed = inl refl;
}

-- the panel reads the count
reads_count : MayRead three_modules 1 panel (Port (output_of 0))
reads_count = record {
  exporter = meter;
  task = count_task;
  there = refl;
  at = refl;
  output = omega arith;
  allowed = inr (refl, refl);
}

-- the watch reads what the panel gathered
reads_gathered : MayRead three_modules 2 watch (Port (output_of 1))
reads_gathered = record {
  exporter = panel;
  task = gather_task;
  there = refl;
  at = refl;
  output = omega arith;
  allowed = inr (refl, refl);
}

-- ---- its modes

-- the mode quick of the meter
well_quick : WellMode three_modules 0 meter 0 quick_mode
well_quick = small_mode three_modules 0 meter 0 quick_mode (record {
  lasts = omega arith;
  one_call = omega arith;
  one_more = omega arith;
  invocations = record {
    lasts = omega arith;
    ends = omega arith;
    definition = count_task;
    task = refl;
    inputs = refl;
    fits = omega arith;
    guard = tt;
    args = (loads 0 meter (Sensor 0) (omega arith), tt);
  } ▸ tt;
  updates = tt;
  switches = record {
    above = omega arith;
    within = omega arith;
    target = omega arith;
    other = refl;
    guard = loads_above 0 meter (Port (output_of 0)) (pos 0) reads_own;
  } ▸ tt;
  closed = ((λ begun ends. omega (arith, ends)) ▸ tt) ▸ tt;
  calls_first = refl ▸ tt;
  drivers_next = tt;
  turns_next = refl ▸ tt;
})

-- the mode slow of the meter
well_slow : WellMode three_modules 0 meter 1 slow_mode
well_slow = small_mode three_modules 0 meter 1 slow_mode (record {
  lasts = omega arith;
  one_call = omega arith;
  one_more = omega arith;
  invocations = record {
    lasts = omega arith;
    ends = omega arith;
    definition = count_task;
    task = refl;
    inputs = refl;
    fits = omega arith;
    guard = loads_above 0 meter (Sensor 0) (pos 0) (omega arith);
    args = (loads 0 meter (Sensor 0) (omega arith), tt);
  } ▸ tt;
  updates = tt;
  switches = record {
    above = omega arith;
    within = omega arith;
    target = omega arith;
    other = refl;
    guard = loads_above 0 meter (Port (output_of 0)) (pos 0) reads_own;
  } ▸ tt;
  closed = ((λ begun ends. omega (arith, ends)) ▸ tt) ▸ tt;
  calls_first = refl ▸ tt;
  drivers_next = tt;
  turns_next = refl ▸ tt;
})

-- the mode of the panel
well_gathering : WellMode three_modules 1 panel 0 gathering_mode
well_gathering = small_mode three_modules 1 panel 0 gathering_mode (record {
  lasts = omega arith;
  one_call = omega arith;
  one_more = omega arith;
  invocations = record {
    lasts = omega arith;
    ends = omega arith;
    definition = gather_task;
    task = refl;
    inputs = refl;
    fits = omega arith;
    guard = tt;
    args = (loads 1 panel (Port (output_of 0)) reads_count, tt);
  } ▸ tt;
  updates = record {
    above = omega arith;
    within = omega arith;
    actuator = omega arith;
    guard = loads_above 1 panel (Port (output_of 0)) (pos 0) reads_count;
    value = loads 1 panel (Port (output_of 0)) reads_count;
  } ▸ tt;
  switches = tt;
  closed = tt;
  calls_first = refl ▸ tt;
  drivers_next = refl ▸ tt;
  turns_next = tt;
})

-- the mode of the watch
well_checking : WellMode three_modules 2 watch 0 checking_mode
well_checking = small_mode three_modules 2 watch 0 checking_mode (record {
  lasts = omega arith;
  one_call = omega arith;
  one_more = omega arith;
  invocations = record {
    lasts = omega arith;
    ends = omega arith;
    definition = check_task;
    task = refl;
    inputs = refl;
    fits = omega arith;
    guard = loads_below 2 watch (Port (output_of 1)) (pos 5) reads_gathered;
    args = (loads 2 watch (Port (output_of 1)) reads_gathered, tt);
  } ▸ tt;
  updates = tt;
  switches = tt;
  closed = tt;
  calls_first = refl ▸ tt;
  drivers_next = tt;
  turns_next = tt;
})

-- ---- its modules

-- the meter imports nothing
well_meter : WellModule three_modules 0 meter
well_meter = record {
  start = omega arith;
  modes = from_each (WellMode three_modules 0 meter) meter.modes (well_quick ▸ well_slow ▸ tt);
  worsts = from_each (λ t task. 0 < task.worst.0) meter.tasks (omega arith ▸ tt);
  imports = λ i. among_lower 0 i meter.imports refl;
}

-- the panel imports the meter
well_panel : WellModule three_modules 1 panel
well_panel = record {
  start = omega arith;
  modes = from_each (WellMode three_modules 1 panel) panel.modes (well_gathering ▸ tt);
  worsts = from_each (λ t task. 0 < task.worst.0) panel.tasks (omega arith ▸ tt);
  imports = λ i. among_lower 1 i panel.imports refl;
}

-- the watch imports the panel
well_watch : WellModule three_modules 2 watch
well_watch = record {
  start = omega arith;
  modes = from_each (WellMode three_modules 2 watch) watch.modes (well_checking ▸ tt);
  worsts = from_each (λ t task. 0 < task.worst.0) watch.tasks (omega arith ▸ tt);
  imports = λ i. among_lower 2 i watch.imports refl;
}

-- the three modules are well-formed
pub three_form : WellFormed three_modules
three_form = record {
  modules = from_each (WellModule three_modules) three_modules.modules (well_meter ▸ well_panel ▸ well_watch ▸ tt);
}
