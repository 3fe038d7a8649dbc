-- Where nothing breaks a rule: what each window, each pair of windows and each invocation keeps.
use Rattle.std.proofs.Common.{◌≡◌, ℕ, zero, suc, ◌+◌, ◌<◌, Bool, true, false, List, [], ◌∷◌, ◌++◌, Some, refl, ap, ap₂, sym, ◌∙◌, arith}
use Rattle.std.specs.Prelude.{slice_get, if◌then◌else◌}
use Rattle.std.proofs.lemmas.Option.{same_Some}
use Rattle.tdl_base.specs.Lists.{joined, numbered}
use Rattle.tdl_mode.specs.declared.program.Program.{Program}
use Rattle.tdl_deploy.specs.declared.schedule.Window.{Window}
use Rattle.tdl_deploy.specs.Passes.{Invoked}
use Rattle.tdl_window.specs.declared.error.SchedAt.{SchedAt}
use Rattle.tdl_window.specs.Faults.{places_of, windows_breaking, pairs_breaking, partners_of, OnCall, mode_breaking, module_breaking, calls_breaking, told}

-- two lists that joined have none
pub none-append : {A : Type 0} (xs ys : List A) → xs ++ ys ≡ [] → (xs ≡ []) × (ys ≡ [])
none-append [] ys e = (refl, e)
none-append (x ∷ xs) ys e = absurd (cc e)

-- places that no fault tells of
pub none-told : (rule : ℕ) (places : List SchedAt) → told rule places ≡ [] → places ≡ []
none-told rule [] e = refl
none-told rule (p ∷ ps) e = absurd (cc e)

-- the list of the item of each number has none, where all of them joined have none
none-joined : {A : Type 0} (f : ℕ → A → List SchedAt) (k : ℕ) (xs : List A) → joined (numbered k f xs) ≡ [] →
    (q : ℕ) (x : A) → slice_get xs q ≡ Some x → f (k + q) x ≡ []
none-joined f k [] e q x at = absurd (cc at)
none-joined f k (y ∷ xs) e zero x at =
    let first : k + 0 ≡ k = omega arith in
    ap₂ f first (sym (same_Some y x at)) ∙ (none-append (f k y) (joined (numbered (suc k) f xs)) e).0
none-joined f k (y ∷ xs) e (suc q) x at =
    let next : k + suc q ≡ suc k + q = omega arith in
    ap (λ n. f n x) next
    ∙ none-joined f (suc k) xs (none-append (f k y) (joined (numbered (suc k) f xs)) e).1 q x at

-- the item of each number keeps the rule, where no place breaks it
none-places : {A : Type 0} (named : ℕ → SchedAt) (breaks : ℕ → A → Bool) (k : ℕ) (xs : List A) →
    places_of named breaks k xs ≡ [] → (q : ℕ) (x : A) → slice_get xs q ≡ Some x → breaks (k + q) x ≡ false
none-places named breaks k [] e q x at = absurd (cc at)
none-places {A} named breaks k (y ∷ xs) e q x at =
    by_test (none-places named breaks (suc k) xs) (breaks k y) refl e q at
  where
    by_test : (places_of named breaks (suc k) xs ≡ [] → (q : ℕ) (x : A) → slice_get xs q ≡ Some x →
        breaks (suc k + q) x ≡ false) → (t : Bool) → breaks k y ≡ t →
        (if t then named k ∷ places_of named breaks (suc k) xs else places_of named breaks (suc k) xs) ≡ [] →
        (q : ℕ) → slice_get (y ∷ xs) q ≡ Some x → breaks (k + q) x ≡ false
    by_test rest true is e q at = absurd (cc e)
    by_test rest false is e zero at =
        let first : k + 0 ≡ k = omega arith in
        ap₂ breaks first (sym (same_Some y x at)) ∙ is
    by_test rest false is e (suc q) at =
        let next : k + suc q ≡ suc k + q = omega arith in
        ap (λ n. breaks n x) next ∙ rest e q x at

-- each window keeps a rule
pub windows-keep : (breaks : Window → Bool) (windows : List Window) → windows_breaking breaks windows ≡ [] →
    (q : ℕ) (w : Window) → slice_get windows q ≡ Some w → breaks w ≡ false
windows-keep breaks windows e q w at = none-places _ (λ n w. breaks w) 1 windows e q w at

-- each pair of windows does
pub pairs-keep : (breaks : Window → Window → Bool) (k : ℕ) (windows : List Window) →
    pairs_breaking breaks k windows ≡ [] →
    (q r : ℕ) (v w : Window) → q < r → slice_get windows q ≡ Some v → slice_get windows r ≡ Some w → breaks v w ≡ false
pairs-keep breaks k [] e q r v w less here there = absurd (cc here)
pairs-keep breaks k (x ∷ xs) e q zero v w less here there = absurd (omega (arith, less))
pairs-keep breaks k (x ∷ xs) e zero (suc r) v w less here there =
    ap (λ y. breaks y w) (sym (same_Some x v here))
    ∙ none-places _ (λ n y. breaks x y) (suc k) xs
    (none-append (partners_of breaks k x (suc k) xs) (pairs_breaking breaks (suc k) xs) e).0 r w there
pairs-keep breaks k (x ∷ xs) e (suc q) (suc r) v w less here there =
    pairs-keep breaks (suc k) xs
    (none-append (partners_of breaks k x (suc k) xs) (pairs_breaking breaks (suc k) xs) e).1 q r v w
    (omega (arith, less)) here there

-- each invocation does
pub calls-keep : (breaks : OnCall) (program : Program) → calls_breaking breaks program ≡ [] →
    (m k n : ℕ) (i : Invoked program m k n) → breaks m i.owner k n i.invocation ≡ false
calls-keep breaks program e m k zero i = absurd (cc i.invocation_at)
calls-keep breaks program e m k (suc n) i =
    let next : suc n ≡ 1 + n = omega arith in
    let mode : 0 + k ≡ k = omega arith in
    let owner : 0 + m ≡ m = omega arith in
    let in_module = ap (λ j. module_breaking breaks j i.owner) (sym owner)
    ∙ none-joined (module_breaking breaks) 0 program.modules e m i.owner i.owner_at in
    let in_mode = ap (λ j. mode_breaking breaks m i.owner j i.mode) (sym mode)
    ∙ none-joined (mode_breaking breaks m i.owner) 0 i.owner.modes in_module k i.mode i.mode_at in
    ap (λ j. breaks m i.owner k j i.invocation) next
    ∙ none-places _ (breaks m i.owner k) 1 i.mode.invocations in_mode n i.invocation i.invocation_at
