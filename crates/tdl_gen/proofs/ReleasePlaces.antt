-- The releases of a module by number and by invocation, and the task of an invocation.
use Rattle.std.proofs.Common.{◌≡◌, ℕ, ◌+◌, ◌-◌, List, [], ◌∷◌, map, Bool, true, false, ◌&&◌, ◌||◌, ◌==◌, Option, Some, refl, ap, ap₂, sym, ◌∙◌, arith}
use Rattle.std.specs.Prelude.{slice_get, option_map, option_and_then, unwrap_or, if◌then◌else◌, find}
use Rattle.std.specs.List.{list_any}
use Rattle.std.proofs.lemmas.Bool.{eq-eqb, and_from}
use Rattle.std.proofs.lemmas.Bool.Decides.{nat_tests}
use Rattle.tdl_base.specs.Lists.{numbered}
use Rattle.tdl_base.proofs.Tests.{eq_self}
use Rattle.tdl_base.proofs.Among.{any-numbered, any-joined}
use Rattle.tdl_mode.specs.declared.program.Module.{Module}
use Rattle.tdl_mode.specs.declared.program.Mode.{Mode}
use Rattle.tdl_mode.specs.declared.program.Invocation.{Invocation}
use Rattle.tdl_image.specs.declared.hosted.Hosted.{Hosted}
use Rattle.tdl_image.specs.declared.hosted.CallEntry.{CallEntry}
use Rattle.tdl_image.specs.declared.hosted.ReleaseEntry.{ReleaseEntry}
use Rattle.tdl_verify.specs.Bus.{task_of}
use Rattle.tdl_gen.specs.BlockNames.{InMode, same_in_mode, call_names, release_names, number_in}
use Rattle.tdl_gen.specs.Tables.{act_of, release_of}
use Rattle.tdl_gen.proofs.BlockPlaces.{named}
use Rattle.tdl_gen.proofs.TablePlaces.{same_in_mode-is}

-- the name of an invocation's release is among the names
release-named : (m : Module) (k n : ℕ) (mode : Mode) (i : Invocation) → slice_get m.modes k ≡ Some mode →
    slice_get mode.invocations n ≡ Some i →
    list_any (same_in_mode (record { mode = k; number = 1 + n })) (release_names m) ≡ true
release-named m k n mode i at here =
    let name : InMode = record { mode = k; number = 1 + n } in
    let first : k ≡ 0 + k = omega arith in
    any-joined (same_in_mode name) (λ k mode. numbered 1 (λ n i. record { mode = k; number = n }) mode.invocations)
    0 k m.modes mode at
    (any-numbered (same_in_mode name) (λ n i. record { mode = 0 + k; number = n }) 1 n mode.invocations i here
    (and_from (k == 0 + k) (1 + n == 1 + n) (eq-eqb k (0 + k) first) (eq_self (1 + n))))

-- the release of an invocation has its mode, its number from 1 and the call of its activity
release_of-is : (m : Module) (k n : ℕ) (mode : Mode) (i : Invocation) → slice_get m.modes k ≡ Some mode →
    slice_get mode.invocations n ≡ Some i →
    release_of m (record { mode = k; number = 1 + n }) ≡
    record { mode = k; invocation = 1 + n; call = number_in (call_names m) k i.act }
release_of-is m k n mode i at here =
    let index : 1 + n - 1 ≡ n = omega arith in
    let act : act_of m (record { mode = k; number = 1 + n }) ≡ i.act =
    rw (at, index) (ap (λ o. unwrap_or (option_map (λ (i : Invocation). i.act) o) 0) here) in
    λ q. record { mode = k; invocation = 1 + n; call = number_in (call_names m) k (act q) }

-- the release of an invocation stands at its number
pub release_found : (m : Module) (k n : ℕ) (mode : Mode) (i : Invocation) → slice_get m.modes k ≡ Some mode →
    slice_get mode.invocations n ≡ Some i →
    slice_get (map (release_of m) (release_names m)) (number_in (release_names m) k (1 + n)) ≡
    Some (record { mode = k; invocation = 1 + n; call = number_in (call_names m) k i.act })
release_found m k n mode i at here =
    named same_in_mode same_in_mode-is (release_of m) (record { mode = k; number = 1 + n }) (release_names m)
    (release-named m k n mode i at here)
    ∙ ap Some (release_of-is m k n mode i at here)

-- a release is of this mode and this invocation
abbrev is_release : ℕ → ℕ → ReleaseEntry → Bool
is_release k n r = r.mode == k && r.invocation == n

-- the first release of a name's mode and number is the name's
find-release : (m : Module) (a : InMode) (names : List InMode) → list_any (same_in_mode a) names ≡ true →
    find (is_release a.mode a.number) (map (release_of m) names) ≡ Some (release_of m a)
find-release m a [] h = absurd (cc h)
find-release m a (b ∷ names) h = by_test (find-release m a names) (same_in_mode a b) refl
  where
    turned : (n p : ℕ) → (n == p) ≡ (p == n)
    turned n p = grind (arith, nat_tests)

    test : is_release a.mode a.number (release_of m b) ≡ same_in_mode a b
    test = ap₂ (λ s t. s && t) (turned b.mode a.mode) (turned b.number a.number)

    more : Option ReleaseEntry
    more = find (is_release a.mode a.number) (map (release_of m) names)

    by_test : (list_any (same_in_mode a) names ≡ true → more ≡ Some (release_of m a)) →
        (t : Bool) → same_in_mode a b ≡ t → (if is_release a.mode a.number (release_of m b) then Some
        (release_of m b) else more) ≡ Some (release_of m a)
    by_test rest true e =
        ap (λ t. if t then Some (release_of m b) else more) (test ∙ e)
        ∙ ap (λ c. Some (release_of m c)) (sym (same_in_mode-is a b e))
    by_test rest false e =
        ap (λ t. if t then Some (release_of m b) else more) (test ∙ e)
        ∙ rest (sym (ap (λ t. t || list_any (same_in_mode a) names) e) ∙ h)

-- the task of an invocation, as the bus looks it up, is that of its activity's call
pub task_of-is : (m : Module) (h : Hosted) (k n : ℕ) (mode : Mode) (i : Invocation) → slice_get m.modes k ≡ Some mode →
    slice_get mode.invocations n ≡ Some i → h.releases ≡ map (release_of m) (release_names m) →
    (c : CallEntry) → slice_get h.calls (number_in (call_names m) k i.act) ≡ Some c → task_of h k (1 + n) ≡ c.task
task_of-is m h k n mode i at here releases c call =
    let task : Option CallEntry → ℕ = λ o. unwrap_or (option_map (λ d. d.task) o) 0 in
    let called : Option ReleaseEntry → Option CallEntry = option_and_then (λ r. slice_get h.calls r.call) in
    ap (λ rs. task (called (find (is_release k (1 + n)) rs))) releases
    ∙ ap (λ o. task (called o))
    (find-release m (record { mode = k; number = 1 + n }) (release_names m) (release-named m k n mode i at here)
    ∙ ap Some (release_of-is m k n mode i at here))
    ∙ ap task call
