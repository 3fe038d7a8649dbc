-- The act rows of a module are the same for two views that agree on what it may read.
use Rattle.std.proofs.Common.{◌≡◌, ℕ, ℤ, List, Bool, true, false, ◌==◌, Option, refl, ap, sym, ◌∙◌}
use Rattle.std.specs.Prelude.{slice_get, option_map, unwrap_or, if◌then◌else◌}
use Rattle.tdl_base.specs.declared.kinds.Kind.TheVariants.{Long}
use Rattle.tdl_base.specs.declared.numbers.PortKey.{PortKey}
use Rattle.tdl_body.specs.Values.{Look}
use Rattle.tdl_mode.specs.declared.program.Program.{Program}
use Rattle.tdl_mode.specs.declared.program.Module.{Module}
use Rattle.tdl_base.specs.Sensed.{Sensed}
use Rattle.tdl_mode.specs.States.{TaskState, ModuleState, look_of, output_at}
use Rattle.tdl_mode.specs.Phases.{updates_now, update_value}
use Rattle.tdl_trace.specs.Shown.{Shown}
use Rattle.std.specs.Option.{option_to_list}
use Rattle.tdl_deploy.specs.Rows.{module_act_rows}
use Rattle.tdl_mode.proofs.Agreeing.{first_value-same}
use Rattle.tdl_base.proofs.NumberedLists.{numbered-same}
use Rattle.tdl_mode.specs.WellFormed.{ReadsPort, WellModule}
use Rattle.tdl_mode.proofs.Seeing.{updates_now-same}
use Rattle.tdl_base.specs.Lists.{joined}

-- the act rows of a module do not depend on what it may not read
pub acts_same : (p : Program) (kk : ℕ) (m : Module) → WellModule p kk m → (x node : ℕ) (sensed : Sensed)
    (seen seen' : PortKey → ℤ) (ts : List TaskState) (r : ModuleState) → r.definition ≡ m →
    ((key : PortKey) → ReadsPort p kk m key → (key.module.0 == kk) ≡ false → seen key ≡ seen' key) →
    module_act_rows x node kk r (look_of kk ts sensed seen) ≡ module_act_rows x node kk r (look_of kk ts sensed seen')
acts_same p kk m well x node sensed seen seen' ts r definition h =
    let look : Look = look_of kk ts sensed seen in
    let look' : Look = look_of kk ts sensed seen' in
    ap joined (numbered-same
    (λ a old. option_to_list (option_map (λ v. Shown.Act x node kk a v) (update_value r x look a)))
    (λ a old. option_to_list (option_map (λ v. Shown.Act x node kk a v) (update_value r x look' a)))
    (λ a old. ap (λ (o : Option ℤ). option_to_list (option_map (λ v. Shown.Act x node kk a v) o))
    (first_value-same look look' (unwrap_or (option_map (λ p. p.kind) (slice_get r.definition.actuators a)) Long) a x
    r.base
    (updates_now r)
    (updates_now-same p kk m well look look' refl (λ key reads. by_own key reads (key.module.0 == kk) refl) r
    definition)))
    0 r.actuators)
  where
    by_own : (key : PortKey) → ReadsPort p kk m key → (b : Bool) → (key.module.0 == kk) ≡ b →
        (if key.module.0 == kk then output_at ts key.task.0 key.output else seen key)
        ≡ (if key.module.0 == kk then output_at ts key.task.0 key.output else seen' key)
    by_own key reads true e =
        let out : ℤ = output_at ts key.task.0 key.output in
        ap (λ b. if b then out else seen key) e ∙ sym (ap (λ b. if b then out else seen' key) e)
    by_own key reads false e =
        let out : ℤ = output_at ts key.task.0 key.output in
        ap (λ b. if b then out else seen key) e ∙ h key reads e ∙ sym (ap (λ b. if b then out else seen' key) e)
