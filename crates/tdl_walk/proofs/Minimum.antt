-- The earliest fault of lists one after another, and of the items of a list.
use Rattle.std.proofs.Common.{◌≡◌, ℕ, ◌<◌, ◌≤◌, ◌+◌, List, [], ◌∷◌, ◌++◌, length, get_or, slice_get, take, Option, Some, refl, sym, ap, ◌∙◌, append_assoc}
use Rattle.std.proofs.lemmas.List.{take_more, take_all, append-nil}
use Rattle.std.proofs.lemmas.Option.{slice_get_within, get_or_from_slice_get}
use Rattle.tdl_rules.specs.declared.fault.Fault.{Fault}
use Rattle.tdl_rules.specs.Earliest.{earliest, earlier}
use Rattle.tdl_rules.specs.Lists.{each}

-- one list after another
pub earliest-append : (best : Option Fault) (fs gs : List Fault) → earliest best (fs ++ gs) ≡ earliest (earliest best fs) gs
unfolding earliest
earliest-append best [] gs = refl
earliest-append best (f ∷ fs) gs = earliest-append (earlier best f) fs gs

-- the same of what two passes leave
pub in_turn : (best one two : Option Fault) (xs ys : List Fault) → two ≡ earliest one ys → one ≡ earliest best xs →
    two ≡ earliest best (xs ++ ys)
in_turn best one two xs ys after before =
    after ∙ ap (λ (z : Option Fault). earliest z ys) before ∙ sym (earliest-append best xs ys)

-- f of the items of one list, then of another's
pub each-append : {A B : Type 0} (f : A → List B) (xs ys : List A) → each f (xs ++ ys) ≡ each f xs ++ each f ys
each-append f [] ys = refl
each-append f (x ∷ xs) ys = ap (λ (z : List _). f x ++ z) (each-append f xs ys) ∙ sym (append_assoc (f x) (each f xs) (each f ys))

-- f of each item of what g gives of each item
pub each-each : {A B C : Type 0} (f : B → List C) (g : A → List B) (xs : List A) → each f (each g xs) ≡ each (λ x. each f (g x)) xs
each-each f g [] = refl
each-each f g (x ∷ xs) = each-append f (g x) (each g xs) ∙ ap (λ (z : List _). each f (g x) ++ z) (each-each f g xs)

-- one more item, of a loop over a list
pub each_more : {A : Type 0} (f : A → List Fault) (best now new : Option Fault) (xs : List A) (k : ℕ) (x : A) →
    k < length xs → x ≡ get_or xs k x → now ≡ earliest best (each f (take k xs)) → new ≡ earliest now (f x) →
    new ≡ earliest best (each f (take (k + 1) xs))
each_more f best now new xs k x inside here before step =
    let more : take (k + 1) xs ≡ take k xs ++ x ∷ [] = take_more xs k x inside ∙ ap (λ (z : _). take k xs ++ z ∷ []) (sym here) in
    let parts : each f (take (k + 1) xs) ≡ each f (take k xs) ++ f x =
    ap (each f) more ∙ each-append f (take k xs) (x ∷ []) ∙ ap (λ (z : List Fault). each f (take k xs) ++ z) (append-nil (f x)) in
    in_turn best now new (each f (take k xs)) (f x) step before ∙ ap (earliest best) (sym parts)

-- one more item, of a loop over numbers
pub each_next : {A : Type 0} (f : A → List Fault) (best now new : Option Fault) (xs : List A) (k : ℕ) (x : A) →
    slice_get xs k ≡ Some x → now ≡ earliest best (each f (take k xs)) → new ≡ earliest now (f x) →
    new ≡ earliest best (each f (take (k + 1) xs))
each_next f best now new xs k x here before step =
    let inside : k < length xs = slice_get_within xs k x here in
    each_more f best now new xs k x inside (sym (get_or_from_slice_get xs k x x here)) before step

-- all items
pub each_all : {A : Type 0} (f : A → List Fault) (best now : Option Fault) (xs : List A) (k : ℕ) → length xs ≤ k →
    now ≡ earliest best (each f (take k xs)) → now ≡ earliest best (each f xs)
each_all f best now xs k all h = h ∙ ap (λ (z : List _). earliest best (each f z)) (take_all k xs all)
