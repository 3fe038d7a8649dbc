-- The releases of a module, one invocation after the other.
use Rattle.std.proofs.Common.{◌≡◌, ◌==◌, ◌&&◌, ◌+◌, ℕ, suc, ℤ, pos, List, [], ◌∷◌, length, map, take, slice_get, Option, Some, None, Bool, true, false, refl, ap, sym, ◌∙◌}
use Rattle.std.specs.Prelude.{if◌then◌else◌, option_map, unwrap_or, slice_index_or}
use Rattle.tdl_base.specs.Lists.{changed_at}
use Rattle.tdl_base.specs.declared.numbers.PortKey.{PortKey}
use Rattle.tdl_body.specs.Values.{Look, holds}
use Rattle.tdl_mode.specs.declared.program.Invocation.{Invocation}
use Rattle.tdl_mode.specs.States.{TaskState, output_at, kinds_of}
use Rattle.tdl_mode.specs.Phases.{releases, released, narrowed_args}
use Rattle.tdl_logic.specs.declared.moment.Moment.{Moment}
use Rattle.tdl_logic.specs.declared.task_now.Origin.{Origin}
use Rattle.tdl_logic.specs.Looks.{output_in}
use Rattle.tdl_logic.specs.Releases.{release_here, definitions_of, HasArguments, IsPrepared}
use Rattle.tdl_logic.specs.Standing.{bare, with_job}
use Rattle.tdl_logic.proofs.Arguments.{args-length}
use Rattle.tdl_logic.proofs.Placing.{changed_at-none, changed_at-agree, changed_at-twice, map-changed, mapped-there, made-changed}

-- an item of which nothing is made is not there
none-made : {A B : Type 0} (f : A → B) (o : Option A) → option_map f o ≡ None → o ≡ None
none-made f None e = refl
none-made f (Some a) e = absurd cc

-- where the task is not there, nothing is released
pub released-none : (moment : Moment) (look : Look) (n : ℕ) (i : Invocation) (tasks : List TaskState) →
    option_map (λ u. u.definition) (slice_get tasks i.task.0) ≡ None → release_here moment look n i tasks ≡ tasks
released-none moment look n i tasks none =
    by_test (moment.base.0 + i.s.0 == moment.at.0 && holds i.guard look)
  where
    released_all : List TaskState
    released_all = changed_at i.task.0 (released moment.mode.0 n i look) tasks

    same : released_all ≡ tasks
    same =
        changed_at-none i.task.0 (released moment.mode.0 n i look) tasks
        (none-made (λ u. u.definition) (slice_get tasks i.task.0) none)

    by_test : (t : Bool) → (if t then released_all else tasks) ≡ tasks
    by_test true = same
    by_test false = refl

-- where it is prepared, a job with the numbers starts
pub released-prepared : (moment : Moment) (look : Look) (n : ℕ) (i : Invocation) (tasks : List TaskState)
    (numbers : List ℤ) (origin : Origin) → IsPrepared moment look i tasks numbers →
    origin ≡ record { mode = moment.mode; invocation = n } →
    changed_at i.task.0 (with_job origin (take (length i.args) numbers)) tasks ≡ release_here moment look n i tasks
released-prepared moment look n i tasks numbers origin ready from =
    changed_at-agree i.task.0 (with_job origin (take (length i.args) numbers)) (released moment.mode.0 n i look) tasks
    (λ u at. ap (λ (vs : List ℤ). with_job origin vs u) (ready.inputs u at)
    ∙ ap (λ (o : Origin). with_job o (narrowed_args (kinds_of u.definition.inputs) i.args look) u) from)
    ∙ ap (λ t. if t then changed_at i.task.0 (released moment.mode.0 n i look) tasks else tasks) (sym ready.starts)

-- a task of a module has its arguments
pub arguments-of : (i : Invocation) (k : ℕ) (all : List (List TaskState)) (tasks : List TaskState) (u : TaskState) →
    HasArguments i k all → slice_get all k ≡ Some tasks → slice_get tasks i.task.0 ≡ Some u →
    length i.args ≡ length u.definition.inputs
arguments-of i k all tasks u has own at =
    has (map (λ v. v.definition) tasks) u.definition
    (mapped-there (λ ts. map (λ v. v.definition) ts) all k tasks own)
    (mapped-there (λ v. v.definition) tasks i.task.0 u at)

-- so many numbers are prepared
pub prepared-length : (moment : Moment) (look : Look) (i : Invocation) (tasks : List TaskState) (numbers : List ℤ)
    (u : TaskState) → IsPrepared moment look i tasks numbers → slice_get tasks i.task.0 ≡ Some u →
    length (take (length i.args) numbers) ≡ length i.args
prepared-length moment look i tasks numbers u ready at =
    ap length (ready.inputs u at) ∙ args-length (kinds_of u.definition.inputs) i.args look

-- a release leaves the outputs of the module's tasks
released-output : (moment : Moment) (look : Look) (n : ℕ) (i : Invocation) (t o : ℕ) (tasks : List TaskState) →
    output_at (release_here moment look n i tasks) t o ≡ output_at tasks t o
released-output moment look n i t o tasks =
    by_test (moment.base.0 + i.s.0 == moment.at.0 && holds i.guard look)
  where
    released_all : List TaskState
    released_all = changed_at i.task.0 (released moment.mode.0 n i look) tasks

    by_test : (b : Bool) → output_at (if b then released_all else tasks) t o ≡ output_at tasks t o
    by_test true =
        ap (λ found. slice_index_or (unwrap_or found []) o (pos 0))
        (made-changed (λ u. u.outputs) (released moment.mode.0 n i look) i.task.0 t tasks (λ u. refl))
    by_test false = refl

-- and their definitions
released-definitions : (moment : Moment) (look : Look) (n : ℕ) (i : Invocation) (tasks : List TaskState) →
    map (λ u. u.definition) (release_here moment look n i tasks) ≡ map (λ u. u.definition) tasks
released-definitions moment look n i tasks =
    by_test (moment.base.0 + i.s.0 == moment.at.0 && holds i.guard look)
  where
    released_all : List TaskState
    released_all = changed_at i.task.0 (released moment.mode.0 n i look) tasks

    by_test : (b : Bool) → map (λ u. u.definition) (if b then released_all else tasks) ≡ map (λ u. u.definition) tasks
    by_test true = map-changed (λ u. u.definition) (released moment.mode.0 n i look) i.task.0 tasks (λ u. refl)
    by_test false = refl

-- so it leaves all outputs
pub outputs-kept : (moment : Moment) (look : Look) (n k : ℕ) (i : Invocation) (all : List (List TaskState)) →
    output_in (changed_at k (release_here moment look n i) all) ≡ output_in all
outputs-kept moment look n k i all = λ p. λ key. by_key key p
  where
    by_key : (key : PortKey) → output_in (changed_at k (release_here moment look n i) all) key ≡ output_in all key
    by_key key =
        ap (λ found. unwrap_or found (pos 0))
        (made-changed (λ tasks. output_at tasks key.task.0 key.output) (release_here moment look n i) k key.module.0 all
        (λ tasks. released-output moment look n i key.task.0 key.output tasks))

-- and all definitions
pub definitions-kept : (moment : Moment) (look : Look) (n k : ℕ) (i : Invocation) (all : List (List TaskState)) →
    definitions_of (changed_at k (release_here moment look n i) all) ≡ definitions_of all
definitions-kept moment look n k i all =
    map-changed (λ tasks. map (λ u. u.definition) tasks) (release_here moment look n i) k all
    (λ tasks. released-definitions moment look n i tasks)

-- one release, and those that follow it
pub releases-more : (moment : Moment) (look : Look) (k n : ℕ) (i : Invocation) (is rest : List Invocation)
    (all : List (List TaskState)) → is ≡ i ∷ rest →
    changed_at k (releases (bare moment) moment.at.0 look (suc n) rest)
    (changed_at k (release_here moment look n i) all)
    ≡ changed_at k (releases (bare moment) moment.at.0 look n is) all
releases-more moment look k n i is rest all split =
    changed_at-twice k (release_here moment look n i) (releases (bare moment) moment.at.0 look (suc n) rest) all
    ∙ ap (λ (all_of : List Invocation). changed_at k (releases (bare moment) moment.at.0 look n all_of) all) (sym split)
