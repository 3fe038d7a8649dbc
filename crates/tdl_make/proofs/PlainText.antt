-- The run of a plain bundle has no trap, and what is printed of it is the text of the logical rows.
use Rattle.std.proofs.Common.{◌≡◌, ◌≤◌, ℕ, suc, zero, Bool, true, false, List, [], ◌∷◌, ◌++◌, All, Some, filter, refl, ap, sym, ◌∙◌, subst, append-nil, arith}
use Rattle.std.specs.Prelude.{slice_get, unwrap_or, ◌&&◌, ◌==◌, if◌then◌else◌}
use Rattle.std.proofs.lemmas.List.Elements.{All-nil, All-append, All-head, All-tail}
use Rattle.std.proofs.lemmas.Option.{same_Some}
use Rattle.tdl_trace.specs.declared.names.ModuleNames.{ModuleNames}
use Rattle.tdl_trace.specs.declared.names.Names.{Names}
use Rattle.tdl_trace.specs.declared.names.TaskNames.{TaskNames}
use Rattle.tdl_scenario.specs.LawfulScenario.{AreTimes}
use Rattle.tdl_trace.specs.Shown.{Shown}
use Rattle.tdl_trace.specs.Lines.{text_of}
use Rattle.tdl_scen.specs.declared.entries.Scenario.{Scenario}
use Rattle.tdl_scen.specs.declared.entries.TaskTimes.{TaskTimes}
use Rattle.tdl_scen.specs.Scenario.{course_of, times_of}
use Rattle.tdl_deploy.specs.Named.{names_of, one_node}
use Rattle.tdl_plain.specs.declared.form.Form.{Form}
use Rattle.tdl_plain.specs.PlainProgram.{program_of}
use Rattle.tdl_plain.specs.Runnable.{IsRunnable}
use Rattle.tdl_deploy.specs.Texts.{logical_text}
use Rattle.tdl_verify.specs.Runs.{Run, Now, IsAlive, trap_rows, plain_rows, is_plain}
use Rattle.tdl_verify.specs.Texts.{bundle_names, bundle_run, bundle_text, hosted_names, times_in}
use Rattle.tdl_gen.specs.Realises.{IsWithinWorst, IsRunOf}
use Rattle.tdl_make.specs.PlainBundle.{plain_bundle, plain_hosted}
use Rattle.tdl_make.proofs.PlainRealises.{realises}

-- the names that scenarios for the bundle are read with
abbrev pub plain_names : Form → Names
plain_names f = bundle_names (plain_bundle f)

-- a job takes a microsecond at least, and at most so long
abbrev Lasts : ℕ → ℕ → Type 0
Lasts worst time = (1 ≤ time) × (time ≤ worst)

module _ (f : Form) where
  -- the one task of these names has the worst case of the form
  own_worst : (place t : ℕ) (home : ModuleNames) (task : TaskNames) →
      slice_get (plain_names f).modules place ≡ Some home → slice_get home.tasks t ≡ Some task → task.worst.0 ≡ f.worst
  own_worst zero t home task at is =
      by_task t (subst (λ (n : ModuleNames). slice_get n.tasks t ≡ Some task) (sym (same_Some _ home at)) is)
    where
      by_task : (t : ℕ) → slice_get (hosted_names 0 (plain_hosted f)).tasks t ≡ Some task → task.worst.0 ≡ f.worst
      by_task zero is = ap (λ (n : TaskNames). n.worst.0) (sym (same_Some _ task is))
      by_task (suc t) is = absurd (cc is)
  own_worst (suc place) t home task at is = absurd (cc at)

  -- times that are lawful for them last
  entry_lasts : (entry : TaskTimes) → AreTimes (plain_names f) entry → All (Lasts f.worst) entry.times
  entry_lasts entry are =
      subst (λ w. All (Lasts w) entry.times)
      (own_worst are.within.place entry.task.0 are.home are.task are.within.is are.is) are.times

  -- so do all that are listed for a task
  listed_last : (times : List TaskTimes) → All (AreTimes (plain_names f)) times → (m t : ℕ) →
      All (Lasts f.worst) (times_of times m t)
  listed_last [] are m t = All-nil (Lasts f.worst)
  listed_last (entry ∷ more) are m t =
      All-append (Lasts f.worst) _ (times_of more m t)
      (if_own (entry.module.0 == m && entry.task.0 == t)
      (entry_lasts entry (All-head (AreTimes (plain_names f)) entry more are)))
      (listed_last more (All-tail (AreTimes (plain_names f)) entry more are) m t)
    where
      if_own : (b : Bool) → All (Lasts f.worst) entry.times →
          All (Lasts f.worst) (if b then entry.times else [])
      if_own true own = own
      if_own false own = All-nil (Lasts f.worst)

-- an item of a list, or another number
one_of : (P : ℕ → Type 0) (xs : List ℕ) (k other : ℕ) → P other → All P xs → P (unwrap_or (slice_get xs k) other)
one_of P [] k other besides all = besides
one_of P (x ∷ xs) zero other besides all = All-head P x xs all
one_of P (x ∷ xs) (suc k) other besides all = one_of P xs k other besides (All-tail P x xs all)

-- lawful times are within the worst case
in_time : (f : Form) (s : Scenario) → IsRunnable f → All (AreTimes (plain_names f)) s.times →
    IsWithinWorst (program_of f) (times_in (plain_bundle f) s)
in_time f s runnable are zero zero k w at = subst (λ w. Lasts w (times_in (plain_bundle f) s 0 0 k)) is (each k)
  where
    is : f.worst ≡ w
    is = cc at

    own : Lasts f.worst f.worst
    own = (runnable.worst, omega arith)

    each : (k : ℕ) → Lasts f.worst (times_in (plain_bundle f) s 0 0 k)
    each zero = own
    each (suc k) = one_of (Lasts f.worst) (times_of s.times 0 0) k f.worst own (listed_last f s.times are 0 0)
in_time f s runnable are zero (suc t) k w at = cc at
in_time f s runnable are (suc m) t k w at = cc at

-- a run that is alive has no trap line
no_trap : (now : Now) → IsAlive now → trap_rows now ≡ []
no_trap (Now.Alive s) alive = refl
no_trap (Now.Dead node at reason) alive = absurd alive

-- the plain rows of a run that is alive
alive_rows : (r : Run) → IsAlive r.now → plain_rows r ≡ filter is_plain r.rows
alive_rows r alive =
    ap (λ (more : List Shown). filter is_plain (r.rows ++ more)) (no_trap r.now alive)
    ∙ ap (filter is_plain) (append-nil r.rows)

module _ (f : Form) (runnable : IsRunnable f) (s : Scenario) (are : All (AreTimes (plain_names f)) s.times) where
  -- the run under the scenario is one of the program
  is_run : IsRunOf (plain_bundle f) (program_of f) (one_node (program_of f)) s.horizon.0 (course_of s.senses)
      (times_in (plain_bundle f) s)
  is_run =
      (realises f runnable).meaning s.horizon.0 (course_of s.senses) (times_in (plain_bundle f) s)
      (in_time f s runnable are)

  -- the run of a plain bundle under a scenario with lawful times has no trap
  pub plain_alive : IsAlive (bundle_run (plain_bundle f) s).now
  plain_alive = is_run.alive

  -- what is printed of it are the lines of the logical rows, since the names are the program's
  pub plain_text : bundle_text (plain_bundle f) s
      ≡ logical_text (program_of f) (one_node (program_of f)) (course_of s.senses) s.horizon.0
  plain_text =
      ap (text_of (names_of (program_of f) (one_node (program_of f))))
      (alive_rows (bundle_run (plain_bundle f) s) is_run.alive ∙ is_run.rows)
