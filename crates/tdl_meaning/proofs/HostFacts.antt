-- The words that join a hosted module on its node to its logical state.
use Rattle.std.proofs.Common.{◌≡◌, ℕ, zero, suc, ◌+◌, ◌<◌, ◌≤◌, List, [], ◌∷◌, map, length, Option, Some, None, refl, ap, ap₂, sym, subst, arith}
use Rattle.std.specs.Prelude.{slice_get}
use Rattle.tdl_base.specs.Lists.{changed_at}
use Rattle.tdl_mode.specs.declared.program.Mode.{Mode}
use Rattle.tdl_mode.specs.declared.program.Task.{Task}
use Rattle.tdl_mode.specs.declared.program.Invocation.{Invocation}
use Rattle.tdl_mode.specs.States.{Job, TaskState, invocation_of}
use Rattle.tdl_verify.specs.States.{TaskNow}
use Rattle.tdl_meaning.specs.HostInStep.{TaskPair, Pairs}

-- invocations of one task are apart, each begins before it ends, and its windows cover its worst case where it ends
pub record WellLets (mode : Mode) (covers : ℕ → ℕ → ℕ) (worst : ℕ → ℕ) : Type 0 where
  pub lasts : (n : ℕ) (i : Invocation) → invocation_of mode.invocations n ≡ Some i → i.s.0 < i.e.0
  pub apart : (p q : ℕ) (i j : Invocation) → invocation_of mode.invocations p ≡ Some i →
      invocation_of mode.invocations q ≡ Some j → i.task.0 ≡ j.task.0 → i.s.0 < j.e.0 → j.s.0 < i.e.0 → p ≡ q
  pub full : (n : ℕ) (i : Invocation) → invocation_of mode.invocations n ≡ Some i → worst i.task.0 ≤ covers n i.e.0

-- a job that is active before the release of number n is of a lower number, or began before offset o
abbrev pub Older : Mode → (o t n : ℕ) → Option Job → Type 0
Older mode o t n None = Unit {0}
Older mode o t n (Some job) = (i : Invocation) → invocation_of mode.invocations job.invocation ≡ Some i →
    n ≤ job.invocation → i.s.0 < o

-- a task before the release of invocation n at offset o, in its logical state and on the node
pub record AtRelease (k : ℕ) (mode : Mode) (covers : ℕ → ℕ → ℕ) (worst : ℕ → ℕ) (o : ℕ) (tasks : List Task) (n t : ℕ)
    (u : TaskState) (w : TaskNow) : Type 0 where
  pub pair : TaskPair k mode covers worst t (suc o) o u w
  pub older : Older mode o t n u.active
  pub definition : slice_get tasks t ≡ Some u.definition

-- the tasks from number n on before the release of invocation i at offset o
abbrev pub ReleasePairs : (k : ℕ) (mode : Mode) (covers : ℕ → ℕ → ℕ) (worst : ℕ → ℕ) (o : ℕ) (tasks : List Task)
    (i n : ℕ) → List TaskState → List TaskNow → Type 0
ReleasePairs k mode covers worst o tasks i n us ws =
    Pairs (λ t u w. AtRelease k mode covers worst o tasks i t u w) n us ws

-- what the pair at a place is
pub record PairAt (P : ℕ → TaskState → TaskNow → Type 0) (n t : ℕ) (us : List TaskState) (ws : List TaskNow) :
    Type 0 where
  pub u : TaskState
  pub w : TaskNow
  pub state : slice_get us t ≡ Some u
  pub now : slice_get ws t ≡ Some w
  pub pair : P (n + t) u w

-- below the number of tasks there is a pair
pub pair_at : (P : ℕ → TaskState → TaskNow → Type 0) (n t : ℕ) (us : List TaskState) (ws : List TaskNow) →
    t < length us → Pairs P n us ws → PairAt P n t us ws
pair_at P n t [] [] lt ps = absurd (omega (arith, lt))
pair_at P n t [] (w ∷ ws) lt ps = absurd ps
pair_at P n t (u ∷ us) [] lt ps = absurd ps
pair_at P n zero (u ∷ us) (w ∷ ws) lt ps = record {
  u = u;
  w = w;
  state = refl;
  now = refl;
  pair = let q : n ≡ n + 0 = omega arith in subst (λ k. P k u w) q ps.0;
}
pair_at P n (suc t) (u ∷ us) (w ∷ ws) lt ps =
    let rest = pair_at P (suc n) t us ws (omega (arith, lt)) ps.1 in
    let q : suc n + t ≡ n + suc t = omega arith in
    record {
      u = rest.u;
      w = rest.w;
      state = rest.state;
      now = rest.now;
      pair = subst (λ k. P k rest.u rest.w) q rest.pair;
    }

-- pairs of one sort are pairs of another that follows from it
pub pairs_kept : (P Q : ℕ → TaskState → TaskNow → Type 0) (n : ℕ) (us : List TaskState) (ws : List TaskNow) →
    ((k : ℕ) (u : TaskState) (w : TaskNow) → P k u w → Q k u w) → Pairs P n us ws → Pairs Q n us ws
pairs_kept P Q n [] [] keep ps = tt
pairs_kept P Q n [] (w ∷ ws) keep ps = absurd ps
pairs_kept P Q n (u ∷ us) [] keep ps = absurd ps
pairs_kept P Q n (u ∷ us) (w ∷ ws) keep ps = (keep n u w ps.0, pairs_kept P Q (suc n) us ws keep ps.1)

-- pairs with the same outputs have the same lists of outputs
pub pairs_outputs : (P : ℕ → TaskState → TaskNow → Type 0) (n : ℕ) (us : List TaskState) (ws : List TaskNow) →
    ((k : ℕ) (u : TaskState) (w : TaskNow) → P k u w → w.outputs ≡ u.outputs) → Pairs P n us ws →
    map (λ (w : TaskNow). w.outputs) ws ≡ map (λ (u : TaskState). u.outputs) us
pairs_outputs P n [] [] same ps = refl
pairs_outputs P n [] (w ∷ ws) same ps = absurd ps
pairs_outputs P n (u ∷ us) [] same ps = absurd ps
pairs_outputs P n (u ∷ us) (w ∷ ws) same ps = ap₂ (λ o os. o ∷ os) (same n u w ps.0)
    (pairs_outputs P (suc n) us ws same ps.1)

-- there are as many tasks on the node as in the logical state
pub pairs_length : (P : ℕ → TaskState → TaskNow → Type 0) (n : ℕ) (us : List TaskState) (ws : List TaskNow) →
    Pairs P n us ws → length us ≡ length ws
pairs_length P n [] [] ps = refl
pairs_length P n [] (w ∷ ws) ps = absurd ps
pairs_length P n (u ∷ us) [] ps = absurd ps
pairs_length P n (u ∷ us) (w ∷ ws) ps = ap suc (pairs_length P (suc n) us ws ps.1)

-- the tasks of one place are changed, and make a pair of the new sort, as all others do without a change
pub pairs_changed : (P Q : ℕ → TaskState → TaskNow → Type 0) (f : TaskState → TaskState) (g : TaskNow → TaskNow)
    (n t : ℕ) (us : List TaskState) (ws : List TaskNow) →
    ((k : ℕ) (u : TaskState) (w : TaskNow) → P k u w → Q k u w) →
    ((u : TaskState) (w : TaskNow) → P (n + t) u w → Q (n + t) (f u) (g w)) → Pairs P n us ws →
    Pairs Q n (changed_at t f us) (changed_at t g ws)
pairs_changed P Q f g n t [] [] keep here ps = tt
pairs_changed P Q f g n t [] (w ∷ ws) keep here ps = absurd ps
pairs_changed P Q f g n t (u ∷ us) [] keep here ps = absurd ps
pairs_changed P Q f g n zero (u ∷ us) (w ∷ ws) keep here ps =
    let q : n + 0 ≡ n = omega arith in (
      subst (λ k. Q k (f u) (g w)) q (here u w (subst (λ k. P k u w) (sym q) ps.0)),
      pairs_kept P Q (suc n) us ws keep ps.1,
    )
pairs_changed P Q f g n (suc t) (u ∷ us) (w ∷ ws) keep here ps =
    let q : suc n + t ≡ n + suc t = omega arith in (
      keep n u w ps.0,
      pairs_changed P Q f g (suc n) t us ws keep
          (λ u w p. subst (λ k. Q k (f u) (g w)) (sym q) (here u w (subst (λ k. P k u w) q p))) ps.1,
    )

-- ---- a hosted module on its node
