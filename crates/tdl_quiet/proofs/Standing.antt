-- In a run of a well-formed program each module stands at each instant.
use Rattle.std.proofs.Common.{◌≡◌, ℕ, zero, suc, ℤ, ◌+◌, ◌<◌, List, [], ◌∷◌, map, Bool, true, false, ◌&&◌, ◌==◌, Option, Some, None, refl, ap, sym, ◌∙◌, subst, arith}
use Rattle.std.specs.Prelude.{slice_get, option_map, unwrap_or, if◌then◌else◌, find}
use Rattle.std.proofs.lemmas.Bool.Decides.{nat_tests}
use Rattle.std.proofs.lemmas.Option.{slice_get-map}
use Rattle.tdl_base.specs.declared.numbers.PortKey.{PortKey}
use Rattle.tdl_base.specs.Sensed.{Sensed, Course}
use Rattle.tdl_base.proofs.Finding.{found_by}
use Rattle.tdl_body.specs.Values.{Look, holds}
use Rattle.tdl_mode.specs.declared.program.Program.{Program}
use Rattle.tdl_mode.specs.declared.program.Module.{Module}
use Rattle.tdl_mode.specs.declared.program.Mode.{Mode}
use Rattle.tdl_mode.specs.declared.program.Switch.{Switch}
use Rattle.tdl_mode.specs.States.{ModuleState, State, look_of, outputs_in}
use Rattle.tdl_mode.specs.Phases.{phase_one, phase_two, phase_three, phase_four, switched, switch_target, switches_now, is_over}
use Rattle.tdl_mode.specs.Instants.{look_in, entered, begun, alone, state_at}
use Rattle.tdl_mode.specs.WellFormed.{WellFormed, WellModule}
use Rattle.tdl_mode.proofs.ModuleByModule.{logical-alone}
use Rattle.tdl_quiet.specs.Standing.{Stands, AllStand}
use Rattle.tdl_quiet.proofs.Places.{item_at, numbered-from, mapped-from, numbered-kept}

-- ---- the definitions stay

-- a switch, or the next cycle, leaves the module's definition
pub switched-definition : (x : ℕ) (r : ModuleState) (target : Option ℕ) →
    (switched x r target).definition ≡ r.definition
switched-definition x r (Some target) = refl
switched-definition x r None = by_over (is_over r x)
  where
    by_over : (b : Bool) → (if b then record r { base = x } else r).definition ≡ r.definition
    by_over true = refl
    by_over false = refl

-- so does an instant
pub alone-definition : (k x : ℕ) (sensed : Sensed) (seen : PortKey → ℤ) (m : ModuleState) →
    (alone k x sensed seen m).definition ≡ m.definition
unfolding alone
alone-definition k x sensed seen m =
    let look : Look = look_of k (phase_one x m).tasks sensed seen in
    let two : ModuleState = phase_two x look (phase_one x m) in
    switched-definition x two (switch_target two x look)

-- the modules of the states of a run are those of the program, in their order
pub state_at-definitions : (program : Program) (course : Course) (x : ℕ) →
    map (λ m. m.definition) (state_at program course x) ≡ program.modules
unfolding state_at begun
state_at-definitions program course zero =
    numbered-kept (λ (m : ModuleState). m.definition)
    (λ k r. phase_four 0 (look_in (map entered program.modules) (course 0) k r) r) (λ k r. refl) 0
    (map entered program.modules)
    ∙ all program.modules
  where
    all : (ds : List Module) → map (λ m. m.definition) (map entered ds) ≡ ds
    all [] = refl
    all (d ∷ ds) = ap (λ more. d ∷ more) (all ds)
state_at-definitions program course (suc x) =
    let before : State = state_at program course x in
    let seen : PortKey → ℤ = outputs_in (map (phase_one (suc x)) before) in
    ap (map (λ (m : ModuleState). m.definition)) (logical-alone (suc x) (course (suc x)) before)
    ∙ numbered-kept (λ (m : ModuleState). m.definition) (λ k r. alone k (suc x) (course (suc x)) seen r)
    (λ k r. alone-definition k (suc x) (course (suc x)) seen r) 0 before
    ∙ state_at-definitions program course x

-- so the state of a module is of that module
pub state_at-definition : (program : Program) (course : Course) (x k : ℕ) (m : ModuleState) →
    slice_get (state_at program course x) k ≡ Some m → slice_get program.modules k ≡ Some m.definition
state_at-definition program course x k m at =
    ap (λ ds. slice_get ds k) (sym (state_at-definitions program course x))
    ∙ slice_get-map (λ (m : ModuleState). m.definition) (state_at program course x) k
    ∙ ap (option_map (λ (m : ModuleState). m.definition)) at

-- ---- phase 3

-- a module u that stands at x, in its phase 3 at the next instant y
module _ (program : Program) (kk x y : ℕ) (u : ModuleState) (look : Look) (next : y ≡ suc x)
    (well : WellModule program kk u.definition) (s : Stands x u) where
  -- the switch stands at y, and its guard holds
  abbrev is_taken : Switch → Bool
  is_taken w = u.base + w.at.0 == y && holds w.guard look

  -- after a switch the module stands in its new mode
  stands_switched : (w : Switch) → find is_taken (switches_now u) ≡ Some w → Stands y (switched y u (Some w.target.0))
  stands_switched w found =
      let here = found_by is_taken s.mode.switches w
      (sym (ap (λ o. find is_taken (unwrap_or (option_map (λ mode. mode.switches) o) [])) s.now) ∙ found) in
      let target = item_at u.definition.modes w.target.0
      ((well.modes u.mode s.mode s.now).switches here.place w here.at).target in
      let lasts : 0 < target.item.period.0 = (well.modes w.target.0 target.item target.at).lasts in
      record { mode = target.item; now = target.at; begun = omega arith; within = omega (arith, lasts) }

  -- so it does where no switch is taken, in its next cycle or further on
  stands_on : (over : Bool) → is_over u y ≡ over → Stands y (if over then record u { base = y } else u)
  stands_on true e =
      let lasts : 0 < s.mode.period.0 = (well.modes u.mode s.mode s.now).lasts in
      record { mode = s.mode; now = s.now; begun = omega arith; within = omega (arith, lasts) }
  stands_on false e =
      let apart : (u.base + s.mode.period.0 == y) ≡ false =
      sym (ap (λ o. unwrap_or (option_map (λ (mode : Mode). u.base + mode.period.0 == y) o) false) s.now) ∙ e in
      record {
        mode = s.mode;
        now = s.now;
        begun = let begun = s.begun in omega (arith, begun, next);
        within = below (u.base + s.mode.period.0) s.within apart;
      }
    where
      below : (n : ℕ) → x < n → (n == y) ≡ false → y < n
      below n lt ne = grind (arith, nat_tests, lt, ne, next)

  -- after phase 3 the module stands
  pub phase_three-stands : Stands y (phase_three y look u)
  phase_three-stands = by_switch (find is_taken (switches_now u)) refl
    where
      by_switch : (o : Option Switch) → find is_taken (switches_now u) ≡ o →
          Stands y (switched y u (option_map (λ w. w.target.0) o))
      by_switch None found = stands_on (is_over u y) refl
      by_switch (Some w) found = stands_switched w found

-- ---- the whole instant

-- a module that stands at x stands at the next instant
pub alone-stands : (program : Program) (kk k x : ℕ) (sensed : Sensed) (seen : PortKey → ℤ) (m : ModuleState) →
    WellModule program kk m.definition → Stands x m → Stands (suc x) (alone k (suc x) sensed seen m)
unfolding alone
alone-stands program kk k x sensed seen m well s =
    let look : Look = look_of k (phase_one (suc x) m).tasks sensed seen in
    let two : ModuleState = phase_two (suc x) look (phase_one (suc x) m) in
    let three : Stands (suc x) (phase_three (suc x) look two) =
    phase_three-stands program kk x (suc x) two look refl well
    (record { mode = s.mode; now = s.now; begun = s.begun; within = s.within }) in
    record { mode = three.mode; now = three.now; begun = three.begun; within = three.within }

-- a module stands at instant 0
entered-stands : (program : Program) (kk : ℕ) (look : Look) (d : Module) → WellModule program kk d →
    Stands 0 (phase_four 0 look (entered d))
entered-stands program kk look d well =
    let start = item_at d.modes d.start.0 well.start in
    let lasts : 0 < start.item.period.0 = (well.modes d.start.0 start.item start.at).lasts in
    record { mode = start.item; now = start.at; begun = omega arith; within = omega (arith, lasts) }

-- so all modules stand at each instant of a run
pub state_at-stands : (program : Program) (course : Course) (x : ℕ) → WellFormed program →
    AllStand x (state_at program course x)
unfolding state_at begun
state_at-stands program course zero well k m at =
    let first : State = map entered program.modules in
    let from = numbered-from (λ k r. phase_four 0 (look_in first (course 0) k r) r) 0 k first m at in
    let d = mapped-from entered k program.modules from.item from.at in
    subst (Stands 0) from.is
    (subst (λ r. Stands 0 (phase_four 0 (look_in first (course 0) (0 + k) r) r)) d.is
    (entered-stands program k (look_in first (course 0) (0 + k) (entered d.item)) d.item
    (well.modules k d.item d.at)))
state_at-stands program course (suc x) well k m at =
    let before : State = state_at program course x in
    let seen : PortKey → ℤ = outputs_in (map (phase_one (suc x)) before) in
    let from = numbered-from (λ k r. alone k (suc x) (course (suc x)) seen r) 0 k before m
    (sym (ap (λ s. slice_get s k) (logical-alone (suc x) (course (suc x)) before)) ∙ at) in
    subst (Stands (suc x)) from.is
    (alone-stands program k (0 + k) x (course (suc x)) seen from.item
    (well.modules k from.item.definition (state_at-definition program course x k from.item from.at))
    (state_at-stands program course x well k from.item from.at))
