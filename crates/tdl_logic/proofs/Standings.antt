-- A module of all changes.
use Rattle.std.proofs.Common.{◌≡◌, ◌==◌, ◌&&◌, ◌≤◌, ◌+◌, ℕ, zero, suc, List, [], ◌∷◌, length, set, Some, slice_get, refl, ap, ap₂, sym, ◌∙◌, arith}
use Rattle.std.specs.Prelude.{if◌then◌else◌}
use Rattle.tdl_base.specs.Lists.{changed_at}
use Rattle.tdl_base.specs.Sensed.{Sensed}
use Rattle.tdl_body.specs.Values.{Look, holds}
use Rattle.tdl_mode.specs.declared.program.Module.{Module}
use Rattle.tdl_mode.specs.declared.program.Invocation.{Invocation}
use Rattle.tdl_mode.specs.States.{TaskState, ModuleState, State}
use Rattle.tdl_mode.specs.Phases.{releases, released}
use Rattle.tdl_mode.specs.Instants.{look_in, for_all}
use Rattle.tdl_logic.specs.declared.module_now.ModuleNow.{ModuleNow}
use Rattle.tdl_logic.specs.Looks.{output_in, look_at}
use Rattle.tdl_logic.specs.Wholes.{standing, all_standing, IsWhole}
use Rattle.tdl_logic.proofs.Passing.{done_to, done-all, done-more}
use Rattle.tdl_logic.proofs.Seeing.{look-is}

-- its cycle or its actuators
pub now-changed : (k : ℕ) (g : ModuleState → ModuleState) (ms : List Module) (nows : List ModuleNow)
    (all : List (List TaskState)) (m : Module) (now now' : ModuleNow) → slice_get ms k ≡ Some m →
    slice_get nows k ≡ Some now →
    ((tasks : List TaskState) → slice_get all k ≡ Some tasks → standing m now' tasks ≡ g (standing m now tasks)) →
    all_standing ms (set nows k now') all ≡ changed_at k g (all_standing ms nows all)
now-changed k g [] nows all m now now' em en same = absurd cc
now-changed k g (x ∷ ms) [] all m now now' em en same = absurd cc
now-changed zero g (x ∷ ms) (y ∷ nows) [] m now now' em en same = refl
now-changed (suc k) g (x ∷ ms) (y ∷ nows) [] m now now' em en same = refl
now-changed zero g (x ∷ ms) (y ∷ nows) (tasks ∷ all) m now now' em en same =
    let mine : x ≡ m = cc in
    let own : y ≡ now = cc in
    ap (λ z. z ∷ all_standing ms nows all)
    (ap (λ z. standing z now' tasks) mine ∙ same tasks refl
    ∙ ap (λ z. g (standing z now tasks)) (sym mine) ∙ ap (λ z. g (standing x z tasks)) (sym own))
now-changed (suc k) g (x ∷ ms) (y ∷ nows) (tasks ∷ all) m now now' em en same =
    ap (λ zs. standing x y tasks ∷ zs) (now-changed k g ms nows all m now now' em en same)

-- its tasks
pub tasks-changed : (k : ℕ) (h : List TaskState → List TaskState) (g : ModuleState → ModuleState) (ms : List Module)
    (nows : List ModuleNow) (all : List (List TaskState)) →
    ((m : Module) (now : ModuleNow) (tasks : List TaskState) → slice_get ms k ≡ Some m → slice_get nows k ≡ Some now →
    slice_get all k ≡ Some tasks → standing m now (h tasks) ≡ g (standing m now tasks)) →
    all_standing ms nows (changed_at k h all) ≡ changed_at k g (all_standing ms nows all)
tasks-changed k h g [] nows all same = refl
tasks-changed k h g (x ∷ ms) [] all same = refl
tasks-changed k h g (x ∷ ms) (y ∷ nows) [] same = refl
tasks-changed zero h g (x ∷ ms) (y ∷ nows) (tasks ∷ all) same =
    ap (λ z. z ∷ all_standing ms nows all) (same x y tasks refl refl refl)
tasks-changed (suc k) h g (x ∷ ms) (y ∷ nows) (tasks ∷ all) same =
    ap (λ zs. standing x y tasks ∷ zs) (tasks-changed k h g ms nows all same)

-- no more modules than the program has
pub length-standing : (ms : List Module) (nows : List ModuleNow) (all : List (List TaskState)) →
    length (all_standing ms nows all) ≤ length ms
length-standing [] nows all = omega arith
length-standing (m ∷ ms) [] all = omega arith
length-standing (m ∷ ms) (now ∷ nows) [] = omega arith
length-standing (m ∷ ms) (now ∷ nows) (tasks ∷ all) =
    let less : length (all_standing ms nows all) ≤ length ms = length-standing ms nows all in omega (arith, less)

-- a phase of one module, over what it reads in a state
abbrev pub phase_in : (Look → ModuleState → ModuleState) → Sensed → State → ℕ → ModuleState → ModuleState
phase_in phase sensed state k m = phase (look_in state sensed k m) m

-- a phase of all modules, once all are done
pub phase-all : (phase : Look → ModuleState → ModuleState) (sensed : Sensed) (ms : List Module)
    (nows : List ModuleNow) (all : List (List TaskState)) (n : ℕ) → length ms ≤ n →
    done_to n (phase_in phase sensed (all_standing ms nows all)) (all_standing ms nows all)
    ≡ for_all phase sensed (all_standing ms nows all)
phase-all phase sensed ms nows all n le =
    let less : length (all_standing ms nows all) ≤ length ms = length-standing ms nows all in
    done-all n (phase_in phase sensed (all_standing ms nows all)) (all_standing ms nows all) (omega (arith, le, less))

-- one module more, of which the cycle or the actuators change
pub now-more : (phase : Look → ModuleState → ModuleState) (sensed : Sensed) (ms : List Module)
    (first nows : List ModuleNow) (all : List (List TaskState)) (k : ℕ) (m : Module) (now now' : ModuleNow) →
    IsWhole ms first all → slice_get ms k ≡ Some m → slice_get nows k ≡ Some now →
    ((tasks : List TaskState) → standing m now' tasks ≡ phase (look_at k sensed all) (standing m now tasks)) →
    all_standing ms nows all
    ≡ done_to k (phase_in phase sensed (all_standing ms first all)) (all_standing ms first all) →
    all_standing ms (set nows k now') all
    ≡ done_to (k + 1) (phase_in phase sensed (all_standing ms first all)) (all_standing ms first all)
now-more phase sensed ms first nows all k m now now' whole em en same before =
    done-more k (phase_in phase sensed (all_standing ms first all)) (all_standing ms first all)
    (all_standing ms nows all) (all_standing ms (set nows k now') all) before
    (now-changed k (phase_in phase sensed (all_standing ms first all) k) ms nows all m now now' em en
    (λ tasks at. same tasks
    ∙ ap (λ (look : Look). phase look (standing m now tasks))
    (sym (look-is ms first all all k tasks sensed whole.cycles whole.tasks refl at))))

-- one module more, of which the tasks change
pub tasks-more : (phase : Look → ModuleState → ModuleState) (sensed : Sensed) (ms : List Module)
    (nows : List ModuleNow) (first all all' : List (List TaskState)) (k : ℕ)
    (h : List TaskState → List TaskState) → IsWhole ms nows first → output_in all ≡ output_in first →
    all' ≡ changed_at k h all →
    ((m : Module) (now : ModuleNow) (tasks : List TaskState) → slice_get ms k ≡ Some m → slice_get nows k ≡ Some now →
    standing m now (h tasks) ≡ phase (look_at k sensed all) (standing m now tasks)) →
    all_standing ms nows all
    ≡ done_to k (phase_in phase sensed (all_standing ms nows first)) (all_standing ms nows first) →
    all_standing ms nows all'
    ≡ done_to (k + 1) (phase_in phase sensed (all_standing ms nows first)) (all_standing ms nows first)
tasks-more phase sensed ms nows first all all' k h whole outputs is same before =
    done-more k (phase_in phase sensed (all_standing ms nows first)) (all_standing ms nows first)
    (all_standing ms nows all) (all_standing ms nows all') before
    (ap (all_standing ms nows) is
    ∙ tasks-changed k h (phase_in phase sensed (all_standing ms nows first) k) ms nows all
    (λ m now tasks em en at. same m now tasks em en
    ∙ ap (λ (look : Look). phase look (standing m now tasks))
    (sym (look-is ms nows first all k tasks sensed whole.cycles whole.tasks outputs at))))

-- releases depend on the mode and the beginning of its cycle alone
pub releases-same : (m m' : ModuleState) (x n : ℕ) (look : Look) (is : List Invocation) (tasks : List TaskState) →
    m.mode ≡ m'.mode → m.base ≡ m'.base → releases m x look n is tasks ≡ releases m' x look n is tasks
releases-same m m' x n look [] tasks em eb = refl
releases-same m m' x n look (i ∷ is) tasks em eb =
    releases-same m m' x (suc n) look is _ em eb
    ∙ ap₂ (λ mode base. releases m' x look (suc n) is
    (if base + i.s.0 == x && holds i.guard look then changed_at i.task.0 (released mode n i look) tasks else tasks))
    em eb
