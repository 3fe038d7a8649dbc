-- At instant 0 every stub is in step with its module.
use Rattle.std.proofs.Common.{◌≡◌, ℕ, zero, suc, ◌+◌, ◌<◌, ℤ, List, [], ◌∷◌, ◌++◌, map, Bool, true, false, ◌||◌, Option, Some, None, refl, ap, ap₂, sym, ◌∙◌, arith}
use Rattle.std.specs.Prelude.{slice_get, unwrap_or, option_map, if◌then◌else◌}
use Rattle.std.proofs.lemmas.Bool.{eq-eqb, ne_eqb}
use Rattle.std.proofs.lemmas.Option.{slice_get-map}
use Rattle.tdl_base.specs.Lists.{joined, numbered}
use Rattle.tdl_mode.specs.declared.program.Module.{Module}
use Rattle.tdl_mode.specs.declared.program.Task.{Task}
use Rattle.tdl_mode.specs.States.{TaskState, initials_of}
use Rattle.tdl_mode.specs.Instants.{begun_task}
use Rattle.tdl_image.specs.declared.stub.Stub.{Stub}
use Rattle.tdl_image.specs.declared.stub.StubTask.{StubTask}
use Rattle.tdl_verify.specs.States as st
use Rattle.tdl_gen.specs.Tables.{initials, stub_tasks}
use Rattle.tdl_verify.specs.States.{stub_outputs}
use Rattle.tdl_meaning.proofs.BootTurn.{initial_values-same}
use Rattle.tdl_verify.proofs.Replaced.{is_numbered}
use Rattle.tdl_meaning.specs.WithoutLosses.{InStep}

-- the stub task of task t, where it is public
abbrev table_if : ℕ → Task → Bool → List StubTask
table_if t task public =
    if public then record { number = t; name = task.name; outputs = initials task.outputs } ∷ [] else []

-- the stub tasks of tasks, the first having number n
abbrev tasks_from : ℕ → List Task → List StubTask
tasks_from n ts = joined (numbered n (λ t task. table_if t task task.public) ts)

-- the first outputs of stub tasks
abbrev firsts : List StubTask → List (List ℤ)
firsts ks = map (λ (k : StubTask). st.initial_values k.outputs) ks

-- numbers below n are not among those from n on
not_numbered : (m n : ℕ) (ts : List Task) → m < n → is_numbered m (tasks_from n ts) ≡ false
not_numbered m n [] lt = refl
not_numbered m n (t ∷ ts) lt = by_test (not_numbered m (suc n) ts (omega (arith, lt))) t.public
  where
    by_test : is_numbered m (tasks_from (suc n) ts) ≡ false → (b : Bool) →
        is_numbered m (table_if n t b ++ tasks_from (suc n) ts) ≡ false
    by_test rest true = ap₂ (λ a b. a || b) (ne_eqb n m (λ e. absurd (omega (arith, e, lt)))) rest
    by_test rest false = rest

-- the first outputs of a public task are its initial values
outs_from : (n : ℕ) (ts : List Task) (t : ℕ) (task : Task) → slice_get ts t ≡ Some task →
    is_numbered (n + t) (tasks_from n ts) ≡ true →
    stub_outputs (n + t) (tasks_from n ts) (firsts (tasks_from n ts)) ≡ initials_of task.outputs
outs_from n [] t task at has = absurd (cc at)
outs_from n (x ∷ xs) zero task at has = by_test x.public has
  where
    more : List StubTask
    more = tasks_from (suc n) xs

    by_test : (b : Bool) → is_numbered (n + 0) (table_if n x b ++ more) ≡ true →
        stub_outputs (n + 0) (table_if n x b ++ more) (firsts (table_if n x b ++ more)) ≡ initials_of task.outputs
    by_test true h =
        let z : n ≡ n + 0 = omega arith in
        ap (λ b. if b then st.initial_values (initials x.outputs) else stub_outputs (n + 0) more (firsts more))
        (eq-eqb n (n + 0) z) ∙ initial_values-same x.outputs
        ∙ ap (λ (o : Option Task). initials_of (unwrap_or o x).outputs) at
    by_test false h = let f = not_numbered (n + 0) (suc n) xs (omega arith) in absurd (cc (h, f))
outs_from n (x ∷ xs) (suc t) task at has =
    let z : n + suc t ≡ suc n + t = omega arith in
    by_test (λ h. ap (λ k. stub_outputs k (tasks_from (suc n) xs) (firsts (tasks_from (suc n) xs))) z
    ∙ outs_from (suc n) xs t task at (ap (λ k. is_numbered k (tasks_from (suc n) xs)) (sym z) ∙ h)) x.public has
  where
    more : List StubTask
    more = tasks_from (suc n) xs

    by_test : (is_numbered (n + suc t) more ≡ true →
        stub_outputs (n + suc t) more (firsts more) ≡ initials_of task.outputs) → (b : Bool) →
        is_numbered (n + suc t) (table_if n x b ++ more) ≡ true →
        stub_outputs (n + suc t) (table_if n x b ++ more) (firsts (table_if n x b ++ more)) ≡ initials_of task.outputs
    by_test rest true h =
        let f = ne_eqb n (n + suc t) (λ e. absurd (omega (arith, e))) in
        ap (λ b. if b then st.initial_values (initials x.outputs) else stub_outputs (n + suc t) more (firsts more)) f
        ∙ rest (ap (λ b. b || is_numbered (n + suc t) more) (sym f) ∙ h)
    by_test rest false h = rest h

-- the outputs of a stub before instant 0 are those of its module in its first state
pub first_in_step : (m : Module) (q : Stub) (us : List TaskState) → q.tasks ≡ stub_tasks m →
    map (λ (u : TaskState). u.outputs) us ≡ map (λ (u : TaskState). u.outputs) (map begun_task m.tasks) →
    InStep q (firsts q.tasks) us
first_in_step m q us tasks outs t u has at = by_task (slice_get m.tasks t) refl
  where
    here : Some u.outputs ≡ option_map (λ (c : Task). initials_of c.outputs) (slice_get m.tasks t)
    here =
        ap (option_map (λ (u : TaskState). u.outputs)) (sym at)
        ∙ sym (slice_get-map (λ (u : TaskState). u.outputs) us t) ∙ ap (λ l. slice_get l t) outs
        ∙ slice_get-map (λ (u : TaskState). u.outputs) (map begun_task m.tasks) t
        ∙ ap (option_map (λ (u : TaskState). u.outputs)) (slice_get-map begun_task m.tasks t)
        ∙ both (slice_get m.tasks t)
      where
        both : (o : Option Task) → option_map (λ (u : TaskState). u.outputs) (option_map begun_task o)
            ≡ option_map (λ (c : Task). initials_of c.outputs) o
        both None = refl
        both (Some c) = refl

    by_task : (o : Option Task) → slice_get m.tasks t ≡ o → stub_outputs t q.tasks (firsts q.tasks) ≡ u.outputs
    by_task None e = absurd (cc (here ∙ ap (option_map (λ (c : Task). initials_of c.outputs)) e))
    by_task (Some c) e =
        let z : 0 + t ≡ t = omega arith in
        ap (λ ks. stub_outputs t ks (firsts ks)) tasks
        ∙ ap (λ k. stub_outputs k (stub_tasks m) (firsts (stub_tasks m))) (sym z)
        ∙ outs_from 0 m.tasks t c e (ap (λ k. is_numbered k (stub_tasks m)) z ∙ ap (is_numbered t) (sym tasks) ∙ has)
        ∙ ap (λ o. unwrap_or o []) (sym (here ∙ ap (option_map (λ (c : Task). initials_of c.outputs)) e))
