-- Whether an item passes, over the items that a walk by number has left.
use Rattle.std.proofs.Common.{◌≡◌, ℕ, suc, ◌<◌, ◌≤◌, ◌+◌, ◌-◌, Bool, true, false, ◌||◌, List, [], ◌∷◌, ◌++◌, length, map, drop, drop-cons, Some, slice_get, sym, ap, ap₂, ◌∙◌, append_assoc, arith}
use Rattle.std.specs.List.{list_any}
use Rattle.std.proofs.lemmas.List.{drop_all}
use Rattle.std.proofs.lemmas.List.Folds.{list_any-append}
use Rattle.std.proofs.lemmas.Option.{slice_get_within, get_or_from_slice_get}
use Rattle.tdl_rules.specs.Lists.{each}
use Rattle.tdl_rules.specs.Times.{from}

-- the item at a number, before those after it
front : {A : Type 0} (xs : List A) (k : ℕ) (x : A) → Some x ≡ slice_get xs k → drop k xs ≡ x ∷ drop (k + 1) xs
front xs k x here =
    let inside : k < length xs = slice_get_within xs k x (sym here) in
    let next : suc k ≡ k + 1 = omega arith in
    drop-cons xs k x inside ∙ ap₂ (λ (z : _) (n : ℕ). z ∷ drop n xs) (get_or_from_slice_get xs k x x (sym here)) next

-- what one test says, before what the rest says
first_true : (b rest all : Bool) → all ≡ (b || rest) → true ≡ b → true ≡ all
first_true b rest all e t = sym (e ∙ ap (λ (z : Bool). z || rest) (sym t))

-- and where it fails
first_false : (b rest all : Bool) → all ≡ (b || rest) → false ≡ b → all ≡ rest
first_false b rest all e t = e ∙ ap (λ (z : Bool). z || rest) (sym t)

-- ---- one item for each

-- the tests of the items from a number on
split : {A B : Type 0} (p : B → Bool) (f : A → B) (xs : List A) (k : ℕ) (x : A) → Some x ≡ slice_get xs k →
    list_any p (map f (drop k xs)) ≡ (p (f x) || list_any p (map f (drop (k + 1) xs)))
split p f xs k x here = ap (λ (z : List _). list_any p (map f z)) (front xs k x here)

-- one passes
pub passes : {A B : Type 0} (p : B → Bool) (f : A → B) (xs : List A) (k : ℕ) (x : A) (all : Bool) → Some x ≡ slice_get xs k →
    all ≡ list_any p (map f (drop k xs)) → true ≡ p (f x) → true ≡ all
passes p f xs k x all here before t = first_true _ _ all (before ∙ split p f xs k x here) t

-- one fails
pub fails : {A B : Type 0} (p : B → Bool) (f : A → B) (xs : List A) (k : ℕ) (x : A) (all : Bool) → Some x ≡ slice_get xs k →
    all ≡ list_any p (map f (drop k xs)) → false ≡ p (f x) → all ≡ list_any p (map f (drop (k + 1) xs))
fails p f xs k x all here before t = first_false _ _ all (before ∙ split p f xs k x here) t

-- none is left
pub ends : {A B : Type 0} (p : B → Bool) (f : A → B) (xs : List A) (k : ℕ) (all : Bool) → length xs ≤ k →
    all ≡ list_any p (map f (drop k xs)) → false ≡ all
ends p f xs k all past before = sym (before ∙ ap (λ (z : List _). list_any p (map f z)) (drop_all k xs past))

-- ---- a list for each

-- the tests of the lists from a number on
split_each : {A B : Type 0} (p : B → Bool) (f : A → List B) (xs : List A) (k : ℕ) (x : A) → Some x ≡ slice_get xs k →
    list_any p (each f (drop k xs)) ≡ (list_any p (f x) || list_any p (each f (drop (k + 1) xs)))
split_each p f xs k x here =
    ap (λ (z : List _). list_any p (each f z)) (front xs k x here) ∙ list_any-append p (f x) (each f (drop (k + 1) xs))

-- one passes
pub passes_each : {A B : Type 0} (p : B → Bool) (f : A → List B) (xs : List A) (k : ℕ) (x : A) (all : Bool) → Some x ≡ slice_get xs k →
    all ≡ list_any p (each f (drop k xs)) → true ≡ list_any p (f x) → true ≡ all
passes_each p f xs k x all here before t = first_true _ _ all (before ∙ split_each p f xs k x here) t

-- all fail
pub fails_each : {A B : Type 0} (p : B → Bool) (f : A → List B) (xs : List A) (k : ℕ) (x : A) (all : Bool) → Some x ≡ slice_get xs k →
    all ≡ list_any p (each f (drop k xs)) → false ≡ list_any p (f x) → all ≡ list_any p (each f (drop (k + 1) xs))
fails_each p f xs k x all here before t = first_false _ _ all (before ∙ split_each p f xs k x here) t

-- none is left
pub ends_each : {A B : Type 0} (p : B → Bool) (f : A → List B) (xs : List A) (k : ℕ) (all : Bool) → length xs ≤ k →
    all ≡ list_any p (each f (drop k xs)) → false ≡ all
ends_each p f xs k all past before = sym (before ∙ ap (λ (z : List _). list_any p (each f z)) (drop_all k xs past))

-- ---- the slots of a range

-- the slots from one on, where it is one of the range
slots_front : (slot last : ℕ) → slot ≤ last → from slot (suc last - slot) ≡ slot ∷ from (slot + 1) (suc last - (slot + 1))
slots_front slot last inside =
    let count : suc last - slot ≡ suc (suc last - (slot + 1)) = omega (arith, inside) in
    let next : suc slot ≡ slot + 1 = omega arith in
    ap (from slot) count ∙ ap (λ (z : ℕ). slot ∷ from z (suc last - (slot + 1))) next

-- the tests of the slots from one on
split_slots : (p : ℕ → Bool) (f : ℕ → ℕ) (slot last : ℕ) → slot ≤ last →
    list_any p (map f (from slot (suc last - slot))) ≡ (p (f slot) || list_any p (map f (from (slot + 1) (suc last - (slot + 1)))))
split_slots p f slot last inside = ap (λ (z : List ℕ). list_any p (map f z)) (slots_front slot last inside)

-- one passes
pub passes_slot : (p : ℕ → Bool) (f : ℕ → ℕ) (slot last : ℕ) (all : Bool) → slot ≤ last →
    all ≡ list_any p (map f (from slot (suc last - slot))) → true ≡ p (f slot) → true ≡ all
passes_slot p f slot last all inside before t = first_true _ _ all (before ∙ split_slots p f slot last inside) t

-- one fails
pub fails_slot : (p : ℕ → Bool) (f : ℕ → ℕ) (slot last : ℕ) (all : Bool) → slot ≤ last →
    all ≡ list_any p (map f (from slot (suc last - slot))) → false ≡ p (f slot) →
    all ≡ list_any p (map f (from (slot + 1) (suc last - (slot + 1))))
fails_slot p f slot last all inside before t = first_false _ _ all (before ∙ split_slots p f slot last inside) t

-- none is left
pub ends_slots : (p : ℕ → Bool) (f : ℕ → ℕ) (slot last : ℕ) (all : Bool) → last < slot →
    all ≡ list_any p (map f (from slot (suc last - slot))) → false ≡ all
ends_slots p f slot last all past before =
    let none : suc last - slot ≡ 0 = omega (arith, past) in
    sym (before ∙ ap (λ (z : ℕ). list_any p (map f (from slot z))) none)

-- one slot more, of a list of what is made of slots
pub more_slots : (f : ℕ → ℕ) (done now all : List ℕ) (slot last : ℕ) → slot ≤ last → now ≡ done ++ f slot ∷ [] →
    done ++ map f (from slot (suc last - slot)) ≡ all → now ++ map f (from (slot + 1) (suc last - (slot + 1))) ≡ all
more_slots f done now all slot last inside put before =
    let rest = map f (from (slot + 1) (suc last - (slot + 1))) in
    ap (λ (z : List ℕ). z ++ rest) put ∙ append_assoc done (f slot ∷ []) rest
    ∙ ap (λ (z : List ℕ). done ++ map f z) (sym (slots_front slot last inside)) ∙ before
