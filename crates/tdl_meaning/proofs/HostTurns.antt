-- The turn of a hosted module: what its moves in the four phases of an instant come to, and their rows.
use Rattle.std.proofs.Common.{◌≡◌, ℕ, ℤ, List, [], ◌∷◌, map, Bool, ap, sym, ◌∙◌}
use Rattle.std.specs.Prelude.{slice_get, option_map, unwrap_or, if◌then◌else◌}
use Rattle.std.proofs.lemmas.Bool.{eq-eqb}
use Rattle.std.proofs.lemmas.Option.{slice_get-map}
use Rattle.tdl_base.specs.declared.numbers.PortKey.{PortKey}
use Rattle.tdl_mode.specs.declared.program.Module.{Module}
use Rattle.tdl_mode.specs.States.{TaskState, ModuleState, look_of}
use Rattle.tdl_mode.specs.Phases.{phase_one}
use Rattle.tdl_mode.specs.Instants.{alone}
use Rattle.tdl_deploy.specs.Rows.{module_port_rows, module_act_rows, module_mode_rows}
use Rattle.tdl_trace.specs.Shown.{Shown}
use Rattle.tdl_image.specs.declared.hosted.Hosted.{Hosted}
use Rattle.tdl_base.specs.Sensed.{Sensed}
use Rattle.tdl_verify.specs.States.{TaskNow, HostNow, Part, Times}
use Rattle.tdl_gen.specs.Counts.{module_count}
use Rattle.tdl_gen.specs.Tables.{hosted_of}
use Rattle.tdl_meaning.proofs.PartMoves.{PartMoves}
use Rattle.tdl_meaning.specs.Accepted.{Accepted}
use Rattle.tdl_meaning.specs.HostInStep.{HostAfter}

-- the outputs of task t are the same on the node, where those of all tasks are
pub outputs-map : (us : List TaskState) (ws : List TaskNow) (t : ℕ) →
    map (λ (w : TaskNow). w.outputs) ws ≡ map (λ (u : TaskState). u.outputs) us →
    unwrap_or (option_map (λ (w : TaskNow). w.outputs) (slice_get ws t)) []
    ≡ unwrap_or (option_map (λ (u : TaskState). u.outputs) (slice_get us t)) []
outputs-map us ws t same =
    ap (λ o. unwrap_or o []) (sym (slice_get-map (λ (w : TaskNow). w.outputs) ws t)
    ∙ ap (λ os. slice_get os t) same ∙ slice_get-map (λ (u : TaskState). u.outputs) us t)

-- where the mode stays, no row of a mode is shown
pub no_mode_row : (x node kk : ℕ) (old new : ModuleState) → old.mode ≡ new.mode →
    module_mode_rows x node kk old new ≡ []
no_mode_row x node kk old new same = ap shown (eq-eqb old.mode new.mode same)
  where
    shown : Bool → List Shown
    shown b = if b then [] else Shown.Mode x node kk new.mode ∷ []

-- a hosted module comes to a state in step with its logical state r
abbrev pub HostComes : (m : Module) (h : Hosted) (x : ℕ) (r : ModuleState) → Part → Type 0
HostComes m h x r after = (next : HostNow) × (after ≡ Part.Host h next) × HostAfter m h x r next

-- the moves of a hosted module at an instant above 0: it comes to its logical state after the instant, with its rows
abbrev pub HostTurn : (given : Accepted) (kk : ℕ) (m : Module) (x node : ℕ) (sensed : Sensed) (times : Times)
    (seen : PortKey → ℤ) (ns : List ℕ) (r : ModuleState) (s : HostNow) → Type 0
HostTurn given kk m x node sensed times seen ns r s =
    PartMoves x node sensed times seen ns (Part.Host (hosted_of given.schedule kk m) s)
    (record {
      number = kk;
      outputs = λ t. unwrap_or (option_map (λ (u : TaskState). u.outputs) (slice_get (phase_one x r).tasks t)) [];
    })
    (HostComes m (hosted_of given.schedule kk m) x (alone kk x sensed seen r))
    (module_port_rows given.program given.placement node x kk r)
    (module_act_rows x node kk (phase_one x r) (look_of kk (phase_one x r).tasks sensed seen))
    (module_mode_rows x node kk r (alone kk x sensed seen r))
    (module_count m)
