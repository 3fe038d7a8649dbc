-- A module's instant depends on what its expressions read, and on nothing else.
use Rattle.std.proofs.Common.{◌≡◌, ℕ, suc, ◌+◌, ℤ, List, [], ◌∷◌, Bool, true, false, ◌&&◌, ◌==◌, Option, Some, None, refl, ap, ap₂, ◌∙◌}
use Rattle.std.specs.Prelude.{slice_get, option_map, unwrap_or, if◌then◌else◌, find}
use Rattle.tdl_base.specs.declared.kinds.Kind.{Kind}
use Rattle.tdl_base.specs.declared.kinds.Kind.TheVariants.{Long}
use Rattle.tdl_base.specs.Numbers.{narrowed, is_true}
use Rattle.tdl_base.specs.Lists.{changed_at}
use Rattle.tdl_body.specs.declared.tree.Expr.{Expr}
use Rattle.tdl_body.specs.Values.{Look, value_of, holds}
use Rattle.tdl_mode.specs.declared.program.Invocation.{Invocation}
use Rattle.tdl_mode.specs.declared.program.Update.{Update}
use Rattle.tdl_mode.specs.declared.program.Switch.{Switch}
use Rattle.tdl_mode.specs.States.{ModuleState, TaskState, kinds_of, invocations_now}
use Rattle.tdl_mode.specs.Phases.{updates_now, update_value, phase_two, switches_now, switched, phase_three, narrowed_args, released, releases, phase_four}
use Rattle.tdl_base.proofs.NumberedLists.{numbered-same}

module _ (look look' : Look) where
  -- ---- expressions that have one number under both views

  -- the expression has
  abbrev pub SameValue : Expr → Type 0
  SameValue e = value_of e look ≡ value_of e look'

  -- the guard has, where there is one
  abbrev pub SameGuard : Option Expr → Type 0
  SameGuard None = Unit {0}
  SameGuard (Some g) = SameValue g

  -- each of the arguments has
  abbrev pub SameArgs : List Expr → Type 0
  SameArgs [] = Unit {0}
  SameArgs (e ∷ es) = SameValue e × SameArgs es

  -- the guard and the value of each update have
  abbrev pub SameUpdates : List Update → Type 0
  SameUpdates [] = Unit {0}
  SameUpdates (u ∷ us) = (SameGuard u.guard × SameValue u.value) × SameUpdates us

  -- the guard of each switch has
  abbrev pub SameSwitches : List Switch → Type 0
  SameSwitches [] = Unit {0}
  SameSwitches (w ∷ ws) = SameGuard w.guard × SameSwitches ws

  -- the guard and the arguments of each invocation have
  abbrev pub SameInvocations : List Invocation → Type 0
  SameInvocations [] = Unit {0}
  SameInvocations (i ∷ is) = (SameGuard i.guard × SameArgs i.args) × SameInvocations is

  -- so a guard holds under both views or under none
  holds-same : (g : Option Expr) → SameGuard g → holds g look ≡ holds g look'
  holds-same None h = refl
  holds-same (Some g) h = ap is_true h

  -- and the inputs of a job are the same
  args-same : (kinds : List Kind) (es : List Expr) → SameArgs es →
      narrowed_args kinds es look ≡ narrowed_args kinds es look'
  args-same kinds [] h = refl
  args-same [] (e ∷ es) h = ap₂ (λ v vs. narrowed Long v ∷ vs) h.0 (args-same [] es h.1)
  args-same (k ∷ ks) (e ∷ es) h = ap₂ (λ v vs. narrowed k v ∷ vs) h.0 (args-same ks es h.1)

  -- ---- phase 2

  -- the number of the first update of actuator a at x whose guard holds
  abbrev first_value : Kind → ℕ → ℕ → ℕ → Look → List Update → Option ℤ
  first_value kind a x base view us =
      option_map (λ u. narrowed kind (value_of u.value view))
      (find (λ u. u.actuator == a && (base + u.at.0 == x && holds u.guard view)) us)

  -- the same, where the test of the update at the front is given
  abbrev first_value_if : Kind → ℕ → ℕ → ℕ → Look → Bool → Update → List Update → Option ℤ
  first_value_if kind a x base view passes u us =
      option_map (λ u. narrowed kind (value_of u.value view))
      (if passes then Some u else find (λ u. u.actuator == a && (base + u.at.0 == x && holds u.guard view)) us)

  -- both views lead to one number
  pub first_value-same : (kind : Kind) (a x base : ℕ) (us : List Update) → SameUpdates us →
      first_value kind a x base look us ≡ first_value kind a x base look' us
  first_value-same kind a x base [] h = refl
  first_value-same kind a x base (u ∷ us) h =
      ap (λ b. first_value_if kind a x base look (u.actuator == a && (base + u.at.0 == x && b)) u us)
      (holds-same u.guard h.0.0)
      ∙ by_test (first_value-same kind a x base us h.1) (u.actuator == a && (base + u.at.0 == x && holds u.guard look'))
    where
      by_test : first_value kind a x base look us ≡ first_value kind a x base look' us → (b : Bool) →
          first_value_if kind a x base look b u us ≡ first_value_if kind a x base look' b u us
      by_test rest true = ap (λ v. Some (narrowed kind v)) h.0.1
      by_test rest false = rest

  -- both views lead to one state after the updates
  pub phase_two-same : (x : ℕ) (m : ModuleState) → SameUpdates (updates_now m) →
      phase_two x look m ≡ phase_two x look' m
  phase_two-same x m h =
      ap (λ vs. record m { actuators = vs })
      (numbered-same (λ a v. unwrap_or (update_value m x look a) v) (λ a v. unwrap_or (update_value m x look' a) v)
      (λ a v. ap (λ o. unwrap_or o v) (first_value-same (kind_of a) a x m.base (updates_now m) h)) 0 m.actuators)
    where
      kind_of : ℕ → Kind
      kind_of a = unwrap_or (option_map (λ p. p.kind) (slice_get m.definition.actuators a)) Long

  -- ---- phase 3

  -- both views find the same switch
  switch-same : (x base : ℕ) (ws : List Switch) → SameSwitches ws →
      find (λ w. base + w.at.0 == x && holds w.guard look) ws ≡ find (λ w. base + w.at.0 == x && holds w.guard look') ws
  switch-same x base [] h = refl
  switch-same x base (w ∷ ws) h =
      ap₂ (λ b o. if base + w.at.0 == x && b then Some w else o) (holds-same w.guard h.0) (switch-same x base ws h.1)

  -- both views lead to one state after the switch
  pub phase_three-same : (x : ℕ) (m : ModuleState) → SameSwitches (switches_now m) →
      phase_three x look m ≡ phase_three x look' m
  phase_three-same x m h =
      ap (λ o. switched x m (option_map (λ (w : Switch). w.target.0) o)) (switch-same x m.base (switches_now m) h)

  -- ---- phase 4

  -- both views lead to the same tasks after the releases from number k on
  releases-same : (m : ModuleState) (x k : ℕ) (is : List Invocation) (ts : List TaskState) → SameInvocations is →
      releases m x look k is ts ≡ releases m x look' k is ts
  releases-same m x k [] ts h = refl
  releases-same m x k (i ∷ is) ts h =
      releases-same m x (suc k) is _ h.1
      ∙ ap₂ (λ b f. releases m x look' (suc k) is (if m.base + i.s.0 == x && b then changed_at i.task.0 f ts else ts))
      (holds-same i.guard h.0.0) same
    where
      same : released m.mode k i look ≡ released m.mode k i look'
      same q u =
          let inputs = args-same (kinds_of u.definition.inputs) i.args h.0.1 q in
          record u { active = Some (record { mode = m.mode; invocation = k; inputs = inputs }) }

  -- both views lead to one state after the releases
  pub phase_four-same : (x : ℕ) (m : ModuleState) → SameInvocations (invocations_now m) →
      phase_four x look m ≡ phase_four x look' m
  phase_four-same x m h = ap (λ ts. record m { tasks = ts }) (releases-same m x 1 (invocations_now m) m.tasks h)
