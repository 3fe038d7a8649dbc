-- Items that clash with earlier ones, activity by activity.
use Rattle.std.proofs.Common.{◌≡◌, ℕ, suc, ◌<◌, ◌≤◌, ◌+◌, Bool, true, false, List, [], ◌∷◌, ◌++◌, length, map, take, drop, get_or, drop-cons, Option, if◌then◌else◌, sym, ap, ap₂, ◌∙◌, append_assoc, arith}
use Rattle.std.specs.List.{list_any}
use Rattle.std.proofs.lemmas.List.{drop_all, take_more, map-append, append-nil}
use Rattle.tdl_rules.specs.declared.fault.Fault.{Fault}
use Rattle.tdl_rules.specs.Earliest.{earliest}
use Rattle.tdl_rules.specs.Lists.{each, clashes_after}
use Rattle.tdl_walk.proofs.Minimum.{earliest-append, each-append}

-- one more that is kept or not
kept : {A : Type 0} (b : Bool) (x : A) (xs ys zs : List A) → xs ≡ ys ++ zs → (if b then x ∷ xs else xs) ≡ (if b then x ∷ ys else ys) ++ zs
kept true x xs ys zs e = ap (λ (z : List _). x ∷ z) e
kept false x xs ys zs e = e

-- one list after another
clashes-append : {A : Type 0} (clash : A → A → Bool) (before xs ys : List A) →
    clashes_after clash before (xs ++ ys) ≡ clashes_after clash before xs ++ clashes_after clash (before ++ xs) ys
clashes-append clash before [] ys = ap (λ (z : List _). clashes_after clash z ys) (sym (append-nil before))
clashes-append clash before (x ∷ xs) ys =
    kept (list_any (λ y. clash y x) before) x _ _ _ (clashes-append clash (before ++ x ∷ []) xs ys
    ∙ ap (λ (z : List _). clashes_after clash (before ++ x ∷ []) xs ++ clashes_after clash z ys) (append_assoc before (x ∷ []) xs))

-- the faults of the activities from number k on
abbrev pub faults_from : {S A : Type 0} → (A → A → Bool) → (A → Fault) → (S → List A) → List S → ℕ → List Fault
faults_from clash at f xs k = map at (clashes_after clash (each f (take k xs)) (each f (drop k xs)))

-- those of the next, and those after it
front : {S A : Type 0} (clash : A → A → Bool) (at : A → Fault) (f : S → List A) (xs : List S) (k : ℕ) (x : S) → k < length xs → x ≡ get_or xs k x →
    faults_from clash at f xs k ≡ map at (clashes_after clash (each f (take k xs)) (f x)) ++ faults_from clash at f xs (k + 1)
front clash at f xs k x inside here =
    let next : suc k ≡ k + 1 = omega arith in
    let rest : drop k xs ≡ x ∷ drop (k + 1) xs = drop-cons xs k x inside ∙ ap₂ (λ (z : _) (n : ℕ). z ∷ drop n xs) (sym here) next in
    let more : take (k + 1) xs ≡ take k xs ++ x ∷ [] = take_more xs k x inside ∙ ap (λ (z : _). take k xs ++ z ∷ []) (sym here) in
    let grown : each f (take k xs) ++ f x ≡ each f (take (k + 1) xs) =
    sym (ap (each f) more ∙ each-append f (take k xs) (x ∷ []) ∙ ap (λ (z : List _). each f (take k xs) ++ z) (append-nil (f x))) in
    ap (λ (z : List _). map at (clashes_after clash (each f (take k xs)) (each f z))) rest
    ∙ ap (map at) (clashes-append clash (each f (take k xs)) (f x) (each f (drop (k + 1) xs))
    ∙ ap (λ (z : List _). clashes_after clash (each f (take k xs)) (f x) ++ clashes_after clash z (each f (drop (k + 1) xs))) grown)
    ∙ map-append at (clashes_after clash (each f (take k xs)) (f x)) (clashes_after clash (each f (take (k + 1) xs)) (each f (drop (k + 1) xs)))

-- one more activity
pub one_more : {S A : Type 0} (clash : A → A → Bool) (at : A → Fault) (f : S → List A) (xs : List S) (k : ℕ) (x : S) (now new : Option Fault) →
    k < length xs → x ≡ get_or xs k x → new ≡ earliest now (map at (clashes_after clash (each f (take k xs)) (f x))) →
    earliest new (faults_from clash at f xs (k + 1)) ≡ earliest now (faults_from clash at f xs k)
one_more clash at f xs k x now new inside here step =
    ap (λ (z : Option Fault). earliest z (faults_from clash at f xs (k + 1))) step
    ∙ sym (earliest-append now (map at (clashes_after clash (each f (take k xs)) (f x))) (faults_from clash at f xs (k + 1)))
    ∙ ap (earliest now) (sym (front clash at f xs k x inside here))

-- no activity is left
pub no_more : {S A : Type 0} (clash : A → A → Bool) (at : A → Fault) (f : S → List A) (xs : List S) (k : ℕ) (now : Option Fault) → length xs ≤ k →
    now ≡ earliest now (faults_from clash at f xs k)
unfolding earliest
no_more clash at f xs k now past =
    sym (ap (λ (z : List _). earliest now (map at (clashes_after clash (each f (take k xs)) (each f z)))) (drop_all k xs past))
