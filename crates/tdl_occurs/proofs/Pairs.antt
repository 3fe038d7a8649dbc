-- Whether one of some items meets one of others.
use Rattle.std.proofs.Common.{◌≡◌, ℕ, suc, ◌<◌, ◌≤◌, ◌+◌, Bool, true, false, ◌||◌, List, [], ◌∷◌, ◌++◌, length, drop, get_or, drop-cons, refl, sym, ap, ap₂, ◌∙◌, arith}
use Rattle.std.specs.List.{list_any}
use Rattle.std.proofs.lemmas.List.{drop_all}
use Rattle.std.proofs.lemmas.List.Folds.{list_any-append}
use Rattle.tdl_rules.specs.Lists.{each}
use Rattle.tdl_occurs.specs.Invocations.{is_met}

-- tests in another order
turned : (a b x y : Bool) → ((a || b) || (x || y)) ≡ ((a || x) || (b || y))
turned true b x y = refl
turned false true true y = refl
turned false true false y = refl
turned false false x y = refl

-- one list of zs after another
meets-append : {A B : Type 0} (c : A → B → Bool) (xs ys : List A) (ts : List B) → is_met c (xs ++ ys) ts ≡ (is_met c xs ts || is_met c ys ts)
meets-append c xs ys [] = refl
meets-append c xs ys (t ∷ ts) =
    ap₂ (λ (a b : Bool). a || b) (list_any-append (λ z. c z t) xs ys) (meets-append c xs ys ts)
    ∙ turned (list_any (λ z. c z t) xs) (list_any (λ z. c z t) ys) (is_met c xs ts) (is_met c ys ts)

-- nothing is met where nothing is
pub meets-none : {A B : Type 0} (c : A → B → Bool) (ts : List B) → is_met c [] ts ≡ false
meets-none c [] = refl
meets-none c (t ∷ ts) = meets-none c ts

-- the zs of the items from one on
split : {S A B : Type 0} (c : A → B → Bool) (f : S → List A) (xs : List S) (k : ℕ) (x : S) (ts : List B) → k < length xs → x ≡ get_or xs k x →
    is_met c (each f (drop k xs)) ts ≡ (is_met c (f x) ts || is_met c (each f (drop (k + 1) xs)) ts)
split c f xs k x ts inside here =
    let next : suc k ≡ k + 1 = omega arith in
    let rest : drop k xs ≡ x ∷ drop (k + 1) xs = drop-cons xs k x inside ∙ ap₂ (λ (z : _) (n : ℕ). z ∷ drop n xs) (sym here) next in
    ap (λ (z : List _). is_met c (each f z) ts) rest ∙ meets-append c (f x) (each f (drop (k + 1) xs)) ts

-- one is met
pub met : {S A B : Type 0} (c : A → B → Bool) (f : S → List A) (xs : List S) (k : ℕ) (x : S) (ts : List B) (all : Bool) →
    k < length xs → x ≡ get_or xs k x → all ≡ is_met c (each f (drop k xs)) ts → true ≡ is_met c (f x) ts → true ≡ all
met c f xs k x ts all inside here before t =
    sym (before ∙ split c f xs k x ts inside here ∙ ap (λ (z : Bool). z || is_met c (each f (drop (k + 1) xs)) ts) (sym t))

-- none of the next item is met
pub not_met : {S A B : Type 0} (c : A → B → Bool) (f : S → List A) (xs : List S) (k : ℕ) (x : S) (ts : List B) (all : Bool) →
    k < length xs → x ≡ get_or xs k x → all ≡ is_met c (each f (drop k xs)) ts → false ≡ is_met c (f x) ts →
    all ≡ is_met c (each f (drop (k + 1) xs)) ts
not_met c f xs k x ts all inside here before t =
    before ∙ split c f xs k x ts inside here ∙ ap (λ (z : Bool). z || is_met c (each f (drop (k + 1) xs)) ts) (sym t)

-- no item is left
pub none_met : {S A B : Type 0} (c : A → B → Bool) (f : S → List A) (xs : List S) (k : ℕ) (ts : List B) (all : Bool) → length xs ≤ k →
    all ≡ is_met c (each f (drop k xs)) ts → false ≡ all
none_met c f xs k ts all past before =
    sym (before ∙ ap (λ (z : List _). is_met c (each f z) ts) (drop_all k xs past) ∙ meets-none c ts)
