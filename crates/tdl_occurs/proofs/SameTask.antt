-- Invocations of one task, and of two.
use Rattle.std.proofs.Common.{◌≡◌, ℕ, ◌≤◌, ◌-◌, ◌*◌, Bool, true, false, ◌&&◌, ◌||◌, ◌==◌, nat_lt, List, [], ◌∷◌, map, Option, None, Some, refl, sym, ap, ap₂, ◌∙◌, arith}
use Rattle.std.specs.List.{list_any}
use Rattle.std.proofs.lemmas.Bool.{and_right, le-ltb, eq-eqb, ne_eqb}
use Rattle.std.proofs.lemmas.Nat.{mul-le}
use Rattle.tdl_tree.specs.declared.activities.Act.{Act}
use Rattle.tdl_tree.specs.declared.expressions.ExprTree.{ExprTree}
use Rattle.tdl_tree.specs.declared.names.Id.{Id}
use Rattle.tdl_tree.specs.declared.activities.ActKind.TheVariants as what
use Rattle.tdl_rules.specs.ModeRules.{Invoked, invoked, overlap}
use Rattle.tdl_rules.specs.Naming.{Scope, TaskMeant, as_task, meant, spot_of}
use Rattle.tdl_rules.specs.Parts.{broken, fault_if}
use Rattle.tdl_rules.specs.declared.fault.Fault.{Fault}
use Rattle.tdl_rules.specs.Earliest.{earliest}
use Rattle.tdl_rules.specs.Lists.{clashes_after}
use Rattle.tdl_rules.specs.Times.{Let, lets}
use Rattle.tdl_slots.specs.Choices.{span_of, spans_in, ranges_in}
use Rattle.tdl_slots.specs.declared.chosen.Chosen.{Chosen}
use Rattle.tdl_slots.proofs.Ascending.{AllAbove, Ascending, ascending}
use Rattle.tdl_occurs.specs.Invocations.{is_met, spans_overlap, invocations}
use Rattle.tdl_occurs.proofs.Repeated.{Apart, IsFree, HasAll, alike_itself, noted_once}

-- ---- pairs of invocations

-- a test after a map
pub any-map : {A B : Type 0} (p : B → Bool) (f : A → B) (xs : List A) → list_any p (map f xs) ≡ list_any (λ x. p (f x)) xs
any-map p f [] = refl
any-map p f (x ∷ xs) = ap (λ (b : Bool). p (f x) || b) (any-map p f xs)

-- tests that agree
pub any-same : {A : Type 0} (p q : A → Bool) (xs : List A) → ((x : A) → p x ≡ q x) → list_any p xs ≡ list_any q xs
any-same p q [] same = refl
any-same p q (x ∷ xs) same = ap₂ (λ (a b : Bool). a || b) (same x) (any-same p q xs same)

-- no item passes a test that fails
any-false : {A : Type 0} (xs : List A) → list_any (λ (x : A). false) xs ≡ false
any-false [] = refl
any-false (x ∷ xs) = any-false xs

-- a test of two items that holds only where another does
pub where_one : {A : Type 0} (test : A → A → Bool) (b : Bool) (xs ys : List A) →
    list_any (λ y. list_any (λ x. b && test x y) xs) ys ≡ (b && is_met test xs ys)
where_one test true xs ys = refl
where_one test false xs ys =
    any-same (λ y. list_any (λ x. false) xs) (λ y. false) ys (λ y. any-false xs) ∙ any-false ys

-- the invocations of two activities
two_tasks : (m n : ℕ) (left right : Id) (xs ys : List Let) →
    is_met overlap (invocations m left xs) (invocations n right ys) ≡ ((m == n) && is_met spans_overlap xs ys)
two_tasks m n left right xs ys =
    let first : Let → Invoked = λ span. record { task = m; name = left; span = span } in
    let second : Let → Invoked = λ span. record { task = n; name = right; span = span } in
    any-map (λ (j : Invoked). list_any (λ (i : Invoked). overlap i j) (map first xs)) second ys
    ∙ any-same (λ (y : Let). list_any (λ (i : Invoked). overlap i (second y)) (map first xs))
    (λ (y : Let). list_any (λ (x : Let). (m == n) && spans_overlap x y) xs) ys
    (λ y. any-map (λ (i : Invoked). overlap i (second y)) first xs)
    ∙ where_one spans_overlap (m == n) xs ys

-- of one task
pub same_task : (k m n : ℕ) (left right : Id) (xs ys : List Let) → k ≡ m → k ≡ n →
    is_met spans_overlap xs ys ≡ is_met overlap (invocations m left xs) (invocations n right ys)
same_task k m n left right xs ys here there =
    sym (two_tasks m n left right xs ys ∙ ap (λ (b : Bool). b && is_met spans_overlap xs ys) (eq-eqb m n (sym here ∙ there)))

-- of two
pub other_task : (k m n : ℕ) (left right : Id) (xs ys : List Let) → k ≡ m → (k ≡ n → ⊥) →
    false ≡ is_met overlap (invocations m left xs) (invocations n right ys)
other_task k m n left right xs ys here differ =
    sym (two_tasks m n left right xs ys ∙ ap (λ (b : Bool). b && is_met spans_overlap xs ys) (ne_eqb m n (λ e. differ (here ∙ e))))

-- ---- what an activity invokes

-- where its task is there
pub invoked-there : (scope : Scope) (period : ℕ) (a : Act) (task : Id) (args : List ExprTree) (t : TaskMeant) → a.what ≡ what.Task task args →
    as_task (meant scope.tree task.text) ≡ Some t → invoked scope period a a.what ≡ invocations t.number task (lets period a)
invoked-there scope period a task args t is there = rw (is, there) refl

-- and where it is not
pub invoked-lost : (scope : Scope) (period : ℕ) (a : Act) (task : Id) (args : List ExprTree) → a.what ≡ what.Task task args →
    as_task (meant scope.tree task.text) ≡ None → invoked scope period a a.what ≡ []
invoked-lost scope period a task args is lost = rw (is, lost) refl

-- ---- one activity

-- later slots begin after earlier ones end
later_free : (width task : ℕ) (name : Id) (r : ℕ × ℕ) (rs : List (ℕ × ℕ)) → AllAbove r.1 rs →
    IsFree overlap (record { task = task; name = name; span = span_of width r }) (invocations task name (map (span_of width) rs))
later_free width task name r [] above = tt
later_free width task name r (s ∷ more) above =
    let before : r.1 * width ≤ (s.0 - 1) * width = mul-le r.1 width (s.0 - 1) width (omega (arith, above.0)) (omega arith) in (
      and_right (task == task) (nat_lt ((r.0 - 1) * width) (s.1 * width) && nat_lt ((s.0 - 1) * width) (r.1 * width))
          (and_right (nat_lt ((r.0 - 1) * width) (s.1 * width)) (nat_lt ((s.0 - 1) * width) (r.1 * width)) (le-ltb ((s.0 - 1) * width) (r.1 * width) before)),
      later_free width task name r more above.1,
    )

-- invocations of one activity do not overlap
apart : (width task : ℕ) (name : Id) (rs : List (ℕ × ℕ)) → Ascending rs → Apart overlap (invocations task name (map (span_of width) rs))
apart width task name [] up = tt
apart width task name (r ∷ rs) up = (later_free width task name r rs up.0, apart width task name rs up.1)

-- and have one fault
one_fault : (file task : ℕ) (name : Id) (spans : List Let) →
    HasAll (λ (i : Invoked). broken 13 file (spot_of i.name)) (broken 13 file (spot_of name)) (invocations task name spans)
one_fault file task name [] = tt
one_fault file task name (s ∷ more) = (refl, one_fault file task name more)

-- the faults of an activity whose task is there
pub activity_fault : (scope : Scope) (period : ℕ) (before : List Invoked) (a : Act) (task : Id) (args : List ExprTree) (t : TaskMeant)
    (chosen : Chosen) (best : Option Fault) → a.what ≡ what.Task task args → as_task (meant scope.tree task.text) ≡ Some t →
    spans_in chosen ≡ lets period a →
    earliest best (map (λ (i : Invoked). broken 13 scope.file (spot_of i.name)) (clashes_after overlap before (invoked scope period a a.what)))
    ≡ earliest best (fault_if (is_met overlap before (invocations t.number task (spans_in chosen))) (broken 13 scope.file (spot_of task)))
activity_fault scope period before a task args t chosen best is there spans =
    let at : Invoked → Fault = λ i. broken 13 scope.file (spot_of i.name) in
    let items = invocations t.number task (spans_in chosen) in
    let same : invoked scope period a a.what ≡ items =
    invoked-there scope period a task args t is there ∙ ap (invocations t.number task) (sym spans) in
    ap (λ (z : List Invoked). earliest best (map at (clashes_after overlap before z))) same
    ∙ noted_once overlap at (broken 13 scope.file (spot_of task)) before before items best (alike_itself overlap before items)
    (apart chosen.width t.number task (ranges_in chosen) (ascending chosen)) (one_fault scope.file t.number task (spans_in chosen))
