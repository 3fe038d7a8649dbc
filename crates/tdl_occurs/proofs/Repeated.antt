-- Items that clash with earlier ones, where all have one fault: it is noted at most once.
use Rattle.std.proofs.Common.{◌≡◌, All, Bool, true, false, ◌||◌, List, [], ◌∷◌, ◌++◌, map, Option, Some, None, if◌then◌else◌, refl, sym, ap, ap₂, ◌∙◌}
use Rattle.std.specs.List.{list_any}
use Rattle.std.proofs.lemmas.List.Folds.{list_any-append}
use Rattle.std.proofs.lemmas.List.Elements.{All-from_recursion}
use Rattle.tdl_rules.specs.declared.fault.Fault.{Fault}
use Rattle.tdl_rules.specs.Earliest.{earliest, earlier, is_before}
use Rattle.tdl_rules.specs.Lists.{clashes_after}
use Rattle.tdl_rules.specs.Parts.{fault_if}
use Rattle.tdl_rules.proofs.Order.{is_before-self}
use Rattle.tdl_occurs.specs.Invocations.{is_met}

-- a fault that changes nothing where it is noted, under a test
idle_if : (best : Option Fault) (f : Fault) (b : Bool) → earliest best (f ∷ []) ≡ best → best ≡ earliest best (fault_if b f)
unfolding earliest
idle_if best f true idle = sym idle
idle_if best f false idle = refl

-- a fault does not come before itself
pub alone : (f : Fault) → All (λ (g : Fault). is_before g f ≡ false) (f ∷ [])
alone f = All-from_recursion (λ (g : Fault). is_before g f ≡ false) (f ∷ []) (is_before-self f, tt)

-- the same of an equal fault
pub idle_at : (best : Option Fault) (f g : Fault) (b : Bool) → f ≡ g → earliest best (f ∷ []) ≡ best → best ≡ earliest best (fault_if b g)
idle_at best f g b e idle = idle_if best f b idle ∙ ap (λ (z : Fault). earliest best (fault_if b z)) e

-- ---- a fault a second time

-- the one that is kept stays
same_if : (b : Bool) (f : Fault) → (if b then f else f) ≡ f
same_if true f = refl
same_if false f = refl

-- noted against one that is there
again_there : (b : Bool) (g f : Fault) → is_before f g ≡ b → earlier (Some (if b then f else g)) f ≡ Some (if b then f else g)
again_there true g f e = ap (λ (x : Fault). Some x) (same_if (is_before f f) f)
again_there false g f e = ap (λ (b : Bool). Some (if b then f else g)) e

-- a fault that was noted changes nothing
again : (best : Option Fault) (f : Fault) → earlier (earlier best f) f ≡ earlier best f
again None f = ap (λ (x : Fault). Some x) (same_if (is_before f f) f)
again (Some g) f = again_there (is_before f g) g f refl

-- and under a test
again_if : (best : Option Fault) (f : Fault) (b : Bool) → earliest (earlier best f) (fault_if b f) ≡ earlier best f
unfolding earliest
again_if best f true = again best f
again_if best f false = refl

-- ---- items that do not clash with one another

-- no item of the list clashes with x
abbrev pub IsFree : {A : Type 0} → (A → A → Bool) → A → List A → Type 0
IsFree clash x [] = Unit {0}
IsFree clash x (y ∷ ys) = (clash x y ≡ false) × IsFree clash x ys

-- no item clashes with one before it
abbrev pub Apart : {A : Type 0} → (A → A → Bool) → List A → Type 0
Apart clash [] = Unit {0}
Apart clash (x ∷ xs) = IsFree clash x xs × Apart clash xs

-- each item clashes with one of `more` just where it does with one of `before`
abbrev pub Alike : {A : Type 0} → (A → A → Bool) → List A → List A → List A → Type 0
Alike clash before more [] = Unit {0}
Alike clash before more (x ∷ xs) =
    (list_any (λ y. clash y x) more ≡ list_any (λ y. clash y x) before) × Alike clash before more xs

-- all items have the fault
abbrev pub HasAll : {A : Type 0} → (A → Fault) → Fault → List A → Type 0
HasAll at f [] = Unit {0}
HasAll at f (x ∷ xs) = (at x ≡ f) × HasAll at f xs

-- one list is alike
pub alike_itself : {A : Type 0} (clash : A → A → Bool) (before xs : List A) → Alike clash before before xs
alike_itself clash before [] = tt
alike_itself clash before (x ∷ xs) = (refl, alike_itself clash before xs)

-- a test, or else nothing
or_false : (b : Bool) → (b || (false || false)) ≡ b
or_false true = refl
or_false false = refl

-- one more item with which none clashes
alike_more : {A : Type 0} (clash : A → A → Bool) (before more : List A) (x : A) (ys : List A) →
    Alike clash before more ys → IsFree clash x ys → Alike clash before (more ++ x ∷ []) ys
alike_more clash before more x [] same free = tt
alike_more clash before more x (y ∷ ys) same free = (
  list_any-append (λ z. clash z y) more (x ∷ []) ∙ ap₂ (λ (a b : Bool). a || (b || false)) same.0 free.0
      ∙ or_false (list_any (λ z. clash z y) before),
  alike_more clash before more x ys same.1 free.1,
)

-- the faults of one item and those after it
one_item : {A : Type 0} (b m : Bool) (at : A → Fault) (f : Fault) (x : A) (rest : List A) (best : Option Fault) → at x ≡ f →
    ((now : Option Fault) → earliest now (map at rest) ≡ earliest now (fault_if m f)) →
    earliest best (map at (if b then x ∷ rest else rest)) ≡ earliest best (fault_if (b || m) f)
unfolding earliest
one_item true m at f x rest best is after =
    after (earlier best (at x)) ∙ ap (λ (g : Fault). earliest (earlier best g) (fault_if m f)) is ∙ again_if best f m
one_item false m at f x rest best is after = after best

-- the items of one activity
pub noted_once : {A : Type 0} (clash : A → A → Bool) (at : A → Fault) (f : Fault) (before more items : List A) (best : Option Fault) →
    Alike clash before more items → Apart clash items → HasAll at f items →
    earliest best (map at (clashes_after clash more items)) ≡ earliest best (fault_if (is_met clash before items) f)
noted_once clash at f before more [] best same free all = refl
noted_once clash at f before more (x ∷ xs) best same free all =
    ap (λ (b : Bool). earliest best (map at (if b then x ∷ clashes_after clash (more ++ x ∷ []) xs else clashes_after clash (more ++ x ∷ []) xs))) same.0
    ∙ one_item (list_any (λ y. clash y x) before) (is_met clash before xs) at f x (clashes_after clash (more ++ x ∷ []) xs) best all.0
    (λ now. noted_once clash at f before (more ++ x ∷ []) xs now (alike_more clash before more x xs same.1 free.0) free.1 all.1)
