-- A module's instant depends on the outputs that it may read, and on no others.
use Rattle.std.proofs.Common.{◌≡◌, ℕ, suc, ℤ, List, [], ◌∷◌, Bool, true, false, ◌==◌, Option, Some, None, refl, ap, sym, ◌∙◌}
use Rattle.std.specs.Prelude.{slice_get, option_map, unwrap_or, if◌then◌else◌}
use Rattle.tdl_base.specs.declared.numbers.Place.{Place}
use Rattle.tdl_base.specs.declared.numbers.Place.TheVariants.{Sensor, Port, Cell}
use Rattle.tdl_base.specs.declared.numbers.PortKey.{PortKey}
use Rattle.tdl_body.specs.declared.tree.Expr.{Expr}
use Rattle.tdl_body.specs.Values.{Look, read}
use Rattle.tdl_mode.specs.declared.program.Program.{Program}
use Rattle.tdl_mode.specs.declared.program.Module.{Module}
use Rattle.tdl_mode.specs.declared.program.Mode.{Mode}
use Rattle.tdl_mode.specs.declared.program.Invocation.{Invocation}
use Rattle.tdl_mode.specs.declared.program.Update.{Update}
use Rattle.tdl_mode.specs.declared.program.Switch.{Switch}
use Rattle.tdl_base.specs.Sensed.{Sensed}
use Rattle.tdl_mode.specs.States.{ModuleState, present, invocations_now, look_of, output_at}
use Rattle.tdl_mode.specs.Phases.{phase_one, phase_two, phase_three, phase_four, updates_now, switches_now, switched, switch_target, is_over}
use Rattle.tdl_mode.specs.Instants.{alone}
use Rattle.tdl_mode.specs.Laws.{AgreeOnRead}
use Rattle.tdl_mode.specs.WellFormed.{ReadsPort, MayRead, AllRead, Readable, GuardReadable, AllReadable, WellInvocation, WellUpdate, WellSwitch, WellModule}
use Rattle.tdl_body.proofs.Reading.{AllSame, value_agrees}
use Rattle.tdl_mode.proofs.Agreeing.{SameValue, SameGuard, SameArgs, SameUpdates, SameSwitches, SameInvocations, phase_two-same, phase_three-same, phase_four-same}

-- a switch, or the next cycle, leaves the module's definition
switched-definition : (x : ℕ) (r : ModuleState) (target : Option ℕ) → (switched x r target).definition ≡ r.definition
switched-definition x r (Some target) = refl
switched-definition x r None = by_over (is_over r x)
  where
    by_over : (b : Bool) → (if b then record r { base = x } else r).definition ≡ r.definition
    by_over true = refl
    by_over false = refl

-- module kk under two views that agree on its sensors and on the outputs that it may read
module _ (p : Program) (kk : ℕ) (m : Module) (well : WellModule p kk m) (look look' : Look)
    (sensors : look.sensor ≡ look'.sensor)
    (ports : (key : PortKey) → ReadsPort p kk m key → look.port key ≡ look'.port key)
  where
    -- ---- its expressions

    -- they agree at a place that it may read
    read-same : (a : Place) → MayRead p kk m a → read a look ≡ read a look'
    read-same (Sensor n) h = ap (λ (f : ℕ → ℤ). f n) sensors
    read-same (Port key) h = ports key h
    read-same (Cell n) h = absurd h

    -- and at each of several
    places-same : (places : List Place) → AllRead p kk m places → AllSame look look' places
    places-same [] h = tt
    places-same (a ∷ places) h = (read-same a h.0, places-same places h.1)

    -- an expression has one number
    value-same : (e : Expr) → Readable p kk m e → SameValue look look' e
    value-same e h = value_agrees look look' e (places-same _ h)

    -- a guard too
    guard-same : (g : Option Expr) → GuardReadable p kk m g → SameGuard look look' g
    guard-same None h = tt
    guard-same (Some e) h = value-same e h

    -- and arguments
    args-same : (es : List Expr) → AllReadable p kk m es → SameArgs look look' es
    args-same [] h = tt
    args-same (e ∷ es) h = (value-same e h.0, args-same es h.1)

    -- ---- its modes

    -- well-formed updates agree
    updates-same : (mode : Mode) (us : List Update) →
        ((q : ℕ) (u : Update) → slice_get us q ≡ Some u → WellUpdate p kk m mode u) → SameUpdates look look' us
    updates-same mode [] h = tt
    updates-same mode (u ∷ us) h =
        let w = h 0 u refl in
        ((guard-same u.guard w.guard, value-same u.value w.value), updates-same mode us (λ q v at. h (suc q) v at))

    -- well-formed switches agree
    switches-same : (n : ℕ) (mode : Mode) (ws : List Switch) →
        ((q : ℕ) (w : Switch) → slice_get ws q ≡ Some w → WellSwitch p kk m n mode w) → SameSwitches look look' ws
    switches-same n mode [] h = tt
    switches-same n mode (w ∷ ws) h =
        (guard-same w.guard (h 0 w refl).guard, switches-same n mode ws (λ q v at. h (suc q) v at))

    -- well-formed invocations agree
    invocations-same : (mode : Mode) (is : List Invocation) →
        ((q : ℕ) (i : Invocation) → slice_get is q ≡ Some i → WellInvocation p kk m mode i) →
        SameInvocations look look' is
    invocations-same mode [] h = tt
    invocations-same mode (i ∷ is) h =
        let w = h 0 i refl in
        ((guard-same i.guard w.guard, args-same i.args w.args), invocations-same mode is (λ q v at. h (suc q) v at))

    -- ---- its states, whatever mode it is in

    -- the mode that it is in stands in its definition
    present-definition : (r : ModuleState) → r.definition ≡ m → slice_get m.modes r.mode ≡ present r
    present-definition r definition = ap (λ (t : Module). slice_get t.modes r.mode) (sym definition)

    -- the updates of that mode agree
    pub updates_now-same : (r : ModuleState) → r.definition ≡ m → SameUpdates look look' (updates_now r)
    updates_now-same r definition = by_mode (present r) (present-definition r definition)
      where
        by_mode : (o : Option Mode) → slice_get m.modes r.mode ≡ o →
            SameUpdates look look' (unwrap_or (option_map (λ (mode : Mode). mode.updates) o) [])
        by_mode None at = tt
        by_mode (Some mode) at = updates-same mode mode.updates (well.modes r.mode mode at).updates

    -- its switches agree
    switches_now-same : (r : ModuleState) → r.definition ≡ m → SameSwitches look look' (switches_now r)
    switches_now-same r definition = by_mode (present r) (present-definition r definition)
      where
        by_mode : (o : Option Mode) → slice_get m.modes r.mode ≡ o →
            SameSwitches look look' (unwrap_or (option_map (λ (mode : Mode). mode.switches) o) [])
        by_mode None at = tt
        by_mode (Some mode) at = switches-same r.mode mode mode.switches (well.modes r.mode mode at).switches

    -- its invocations agree
    invocations_now-same : (r : ModuleState) → r.definition ≡ m → SameInvocations look look' (invocations_now r)
    invocations_now-same r definition = by_mode (present r) (present-definition r definition)
      where
        by_mode : (o : Option Mode) → slice_get m.modes r.mode ≡ o →
            SameInvocations look look' (unwrap_or (option_map (λ (mode : Mode). mode.invocations) o) [])
        by_mode None at = tt
        by_mode (Some mode) at =
            invocations-same mode mode.invocations (λ q i here. (well.modes r.mode mode at).invocations (suc q) i here)

    -- the releases lead to one state
    pub releases_same : (x : ℕ) (r : ModuleState) → r.definition ≡ m → phase_four x look r ≡ phase_four x look' r
    releases_same x r definition = phase_four-same look look' x r (invocations_now-same r definition)

    -- the phases after the terminations lead to one state
    phases-same : (x : ℕ) (r : ModuleState) → r.definition ≡ m →
        phase_four x look (phase_three x look (phase_two x look r))
        ≡ phase_four x look' (phase_three x look' (phase_two x look' r))
    phases-same x r definition =
        let two : ModuleState = phase_two x look' r in
        let three : ModuleState = phase_three x look' two in
        ap (λ s. phase_four x look (phase_three x look s))
        (phase_two-same look look' x r (updates_now-same r definition))
        ∙ ap (phase_four x look) (phase_three-same look look' x two (switches_now-same two definition))
        ∙ releases_same x three (switched-definition x two (switch_target two x look') ∙ definition)

-- two views that agree on the outputs of other modules that a module may read lead to one state of it
pub alone_same : (p : Program) (kk : ℕ) (m : Module) → WellModule p kk m →
    (x : ℕ) (sensed : Sensed) (seen seen' : PortKey → ℤ) (r : ModuleState) → r.definition ≡ m →
    AgreeOnRead p kk m seen seen' → alone kk x sensed seen r ≡ alone kk x sensed seen' r
unfolding alone
alone_same p kk m well x sensed seen seen' r definition agree =
    phases-same p kk m well (look_of kk one.tasks sensed seen) (look_of kk one.tasks sensed seen') refl
    (λ key reads. by_own key reads (key.module.0 == kk) refl) x one definition
  where
    one : ModuleState
    one = phase_one x r

    chosen : (PortKey → ℤ) → PortKey → Bool → ℤ
    chosen view key own = if own then output_at one.tasks key.task.0 key.output else view key

    by_own : (key : PortKey) → ReadsPort p kk m key → (own : Bool) → (key.module.0 == kk) ≡ own →
        chosen seen key (key.module.0 == kk) ≡ chosen seen' key (key.module.0 == kk)
    by_own key reads true e = ap (chosen seen key) e ∙ sym (ap (chosen seen' key) e)
    by_own key reads false e = ap (chosen seen key) e ∙ agree key reads e ∙ sym (ap (chosen seen' key) e)
