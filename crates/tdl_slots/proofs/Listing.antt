-- Loops that list what is made of items: what is listed, with what is made of the items that are left, is all.
use Rattle.std.proofs.Common.{◌≡◌, ℕ, suc, ◌<◌, ◌≤◌, ◌+◌, List, [], ◌∷◌, ◌++◌, length, map, drop, drop-cons, get_or, Some, slice_get, sym, ap, ap₂, ◌∙◌, append_assoc, arith}
use Rattle.std.proofs.lemmas.List.{drop_all, append-nil, map-append}
use Rattle.std.proofs.lemmas.Option.{slice_get_within, get_or_from_slice_get}
use Rattle.tdl_rules.specs.Lists.{each}

-- the item at a number, before those after it
pub item_first : {A : Type 0} (xs : List A) (k : ℕ) (x : A) → k < length xs → x ≡ get_or xs k x →
    drop k xs ≡ x ∷ drop (k + 1) xs
item_first xs k x inside here =
    let next : suc k ≡ k + 1 = omega arith in
    drop-cons xs k x inside ∙ ap₂ (λ (z : _) (n : ℕ). z ∷ drop n xs) (sym here) next

-- the same by what stands there
pub item_at : {A : Type 0} (xs : List A) (k : ℕ) (x : A) → Some x ≡ slice_get xs k → drop k xs ≡ x ∷ drop (k + 1) xs
item_at xs k x here =
    item_first xs k x (slice_get_within xs k x (sym here)) (sym (get_or_from_slice_get xs k x x (sym here)))

-- one item more, of which one is made, as g sees it
pub one_more : {A B C : Type 0} (g : C → B) (f : A → B) (done now : List C) (item : C) (all : List B) (xs : List A)
    (k : ℕ) (x : A) → drop k xs ≡ x ∷ drop (k + 1) xs → now ≡ done ++ item ∷ [] → g item ≡ f x →
    map g done ++ map f (drop k xs) ≡ all → map g now ++ map f (drop (k + 1) xs) ≡ all
one_more g f done now item all xs k x first pushed same before =
    let rest = map f (drop (k + 1) xs) in
    ap (λ (z : List _). map g z ++ rest) pushed
    ∙ ap (λ (z : List _). z ++ rest) (map-append g done (item ∷ []))
    ∙ append_assoc (map g done) (g item ∷ []) rest
    ∙ ap (λ (z : _). map g done ++ z ∷ rest) same
    ∙ ap (λ (z : List _). map g done ++ map f z) (sym first)
    ∙ before

-- the same where what is made is listed as it is
pub made_more : {A B : Type 0} (f : A → B) (done now all : List B) (xs : List A) (k : ℕ) (x : A) →
    drop k xs ≡ x ∷ drop (k + 1) xs → now ≡ done ++ f x ∷ [] → done ++ map f (drop k xs) ≡ all →
    now ++ map f (drop (k + 1) xs) ≡ all
made_more f done now all xs k x first pushed before =
    let rest = map f (drop (k + 1) xs) in
    ap (λ (z : List _). z ++ rest) pushed ∙ append_assoc done (f x ∷ []) rest
    ∙ ap (λ (z : List _). done ++ map f z) (sym first) ∙ before

-- one item more, of which a list is made
pub each_more : {A B : Type 0} (f : A → List B) (done now all : List B) (xs : List A) (k : ℕ) (x : A) →
    drop k xs ≡ x ∷ drop (k + 1) xs → now ≡ done ++ f x → done ++ each f (drop k xs) ≡ all →
    now ++ each f (drop (k + 1) xs) ≡ all
each_more f done now all xs k x first put before =
    let rest = each f (drop (k + 1) xs) in
    ap (λ (z : List _). z ++ rest) put ∙ append_assoc done (f x) rest
    ∙ ap (λ (z : List _). done ++ each f z) (sym first) ∙ before

-- no item is left, of each of which one is made
pub one_all : {A B : Type 0} (f : A → B) (done all : List B) (xs : List A) (k : ℕ) → length xs ≤ k →
    done ++ map f (drop k xs) ≡ all → done ≡ all
one_all f done all xs k past before =
    sym (append-nil done) ∙ ap (λ (z : List _). done ++ map f z) (sym (drop_all k xs past)) ∙ before
