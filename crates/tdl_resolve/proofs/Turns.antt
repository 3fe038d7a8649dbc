-- The turns of a body, of its statements and of their blocks.
use Rattle.std.proofs.Common.{◌≡◌, ℕ, zero, suc, ◌<◌, ◌≤◌, List, [], ◌∷◌, ◌++◌, Option, Some, None, refl, ap, sym, ◌∙◌, subst, arith}
use Rattle.std.specs.Prelude.{slice_get, nat_lt, MatchOption}
use Rattle.std.proofs.lemmas.Bool.{ltb-false}
use Rattle.std.proofs.lemmas.List.{append-nil}
use Rattle.std.proofs.lemmas.Option.{same_Some}
use Rattle.tdl_base.specs.declared.limits.TheConstants.{REPEAT}
use Rattle.tdl_tree.specs.declared.expressions.ExprTree.{ExprTree}
use Rattle.tdl_tree.specs.declared.names.Num.{Num}
use Rattle.tdl_tree.specs.declared.statements.StmtTree.{StmtTree}
use Rattle.tdl_tree.specs.declared.statements.StmtTree.TheVariants as stmt
use Rattle.tdl_tree.specs.declared.statements.StmtTree.TheViews.{out-StmtTree, outs-Repeat}
use Rattle.tdl_tree.specs.declared.statements.StmtTree.TheOpen.{StmtTree-F}
use Rattle.tdl_rules.specs.BoundRules.{c18_statement}
use Rattle.tdl_rules.specs.Lists.{each}
use Rattle.tdl_rules.specs.Naming.{Scope}
use Rattle.tdl_rules.specs.Trees.{body_statements, statements_in, statements_inside}
use Rattle.tdl_rules.proofs.Equations.{statements_inside-repeat, statements_inside-if, statements_inside-if_else}
use Rattle.tdl_base.proofs.ListPlaces.{in-front, in-back}
use Rattle.tdl_program.proofs.Emptiness.{empty-at}
use Rattle.tdl_program.proofs.Meant.{no-fault}
use Rattle.tdl_resolve.specs.Turns.{KeepsTurns, turns_in}

-- ---- statements of a body

-- the first statement of a body keeps what the body does
first-turns : (x : StmtTree) (xs : List StmtTree) → KeepsTurns (x ∷ xs) → KeepsTurns (x ∷ [])
first-turns x xs keeps = λ n inner here.
    let i = in-front inner (statements_in x) (body_statements xs) (record {
      place = n;
      at = ap (λ (z : List StmtTree). slice_get z n) (sym (append-nil (statements_in x))) ∙ here;
    }) in
    keeps i.place inner i.at

-- and so do the others
rest-turns : (x : StmtTree) (xs : List StmtTree) → KeepsTurns (x ∷ xs) → KeepsTurns xs
rest-turns x xs keeps = λ n inner here.
    let i = in-back inner (statements_in x) (body_statements xs) (record { place = n; at = here }) in
    keeps i.place inner i.at

-- each statement of a body keeps what the body does
turns-at : (body : List StmtTree) (k : ℕ) (s : StmtTree) → slice_get body k ≡ Some s → KeepsTurns body →
    KeepsTurns (s ∷ [])
turns-at [] k s at keeps = absurd (cc at)
turns-at (x ∷ xs) zero s at keeps =
    subst (λ (z : StmtTree). KeepsTurns (z ∷ [])) (same_Some x s at) (first-turns x xs keeps)
turns-at (x ∷ xs) (suc k) s at keeps = turns-at xs k s at (rest-turns x xs keeps)

-- the blocks of a statement keep what it does
inner-turns : (s : StmtTree) (before block after : List StmtTree) →
    statements_inside s ≡ before ++ (body_statements block ++ after) → KeepsTurns (s ∷ []) → KeepsTurns block
inner-turns s before block after is keeps = λ k inner at.
    let i = in-back inner before (body_statements block ++ after)
    (in-front inner (body_statements block) after (record { place = k; at = at })) in
    let whole = in-front inner (statements_inside s) [] (record {
      place = i.place;
      at = ap (λ (z : List StmtTree). slice_get z i.place) is ∙ i.at;
    }) in
    keeps (suc whole.place) inner whole.at

-- the block of a `repeat`
repeat-turns : (count : Num) (body : List StmtTree) → KeepsTurns (stmt.Repeat count body ∷ []) → KeepsTurns body
repeat-turns count body =
    inner-turns (stmt.Repeat count body) [] body []
    (statements_inside-repeat count body ∙ sym (append-nil (body_statements body)))

-- the first block of an `if`
then-turns : (test : ExprTree) (first : List StmtTree) (other : Option (List StmtTree)) →
    KeepsTurns (stmt.If test first other ∷ []) → KeepsTurns first
then-turns test first None =
    inner-turns (stmt.If test first None) [] first []
    (statements_inside-if test first ∙ sym (append-nil (body_statements first)))
then-turns test first (Some second) =
    inner-turns (stmt.If test first (Some second)) [] first (body_statements second)
    (statements_inside-if_else test first second)

-- and the second
else-turns : (test : ExprTree) (first second : List StmtTree) → KeepsTurns (stmt.If test first (Some second) ∷ []) →
    KeepsTurns second
else-turns test first second =
    inner-turns (stmt.If test first (Some second)) (body_statements first) second []
    (statements_inside-if_else test first second
    ∙ ap (λ (z : List StmtTree). body_statements first ++ z) (sym (append-nil (body_statements second))))

-- a `repeat` of more turns than 16 bits count takes too many
too_many : (count : Num) (body : List StmtTree) → 65535 < count.value → KeepsTurns (stmt.Repeat count body ∷ []) → ⊥
too_many count body many keeps =
    let few : count.value ≤ REPEAT =
    subst (λ l. turns_in l ≤ REPEAT) (outs-Repeat count body) (keeps 0 (stmt.Repeat count body) refl) in
    omega (arith, many, few)

-- ---- as the code meets them

-- what is not made is denied
pub denied-by : {A : Type 0} (made : Option A) (Denied : Type 0) (Said : A → Type 0) → MatchOption made Denied Said →
    made ≡ None → Denied
denied-by made Denied Said answer is = subst (λ o. MatchOption o Denied Said) is answer

-- what is made is said
pub said-by : {A : Type 0} (made : Option A) (Denied : Type 0) (Said : A → Type 0) (x : A) →
    MatchOption made Denied Said → made ≡ Some x → Said x
said-by made Denied Said x answer is = subst (λ o. MatchOption o Denied Said) is answer

-- where a statement's first block does not keep its turns, neither does the statement
pub then-denied : (s : StmtTree) (test : ExprTree) (first got : List StmtTree) (other : Option (List StmtTree)) →
    s ≡ stmt.If test first other → got ≡ first → (KeepsTurns got → ⊥) → KeepsTurns (s ∷ []) → ⊥
then-denied s test first got other is same denied keeps =
    denied (subst KeepsTurns (sym same) (then-turns test first other (subst (λ z. KeepsTurns (z ∷ [])) is keeps)))

-- the same of its second
pub else-denied : (s : StmtTree) (test : ExprTree) (first second got : List StmtTree) →
    s ≡ stmt.If test first (Some second) → got ≡ second → (KeepsTurns got → ⊥) → KeepsTurns (s ∷ []) → ⊥
else-denied s test first second got is same denied keeps =
    denied (subst KeepsTurns (sym same) (else-turns test first second (subst (λ z. KeepsTurns (z ∷ [])) is keeps)))

-- the same of a `repeat`'s block
pub repeat-denied : (s : StmtTree) (count : Num) (body got : List StmtTree) → s ≡ stmt.Repeat count body → got ≡ body →
    (KeepsTurns got → ⊥) → KeepsTurns (s ∷ []) → ⊥
repeat-denied s count body got is same denied keeps =
    denied (subst KeepsTurns (sym same) (repeat-turns count body (subst (λ z. KeepsTurns (z ∷ [])) is keeps)))

-- a `repeat` of more turns than 16 bits count
pub count-denied : (s : StmtTree) (count : Num) (body : List StmtTree) → s ≡ stmt.Repeat count body →
    65535 < count.value → KeepsTurns (s ∷ []) → ⊥
count-denied s count body is many keeps = too_many count body many (subst (λ z. KeepsTurns (z ∷ [])) is keeps)

-- a body with a statement that does not keep its turns
pub body-denied : (body : List StmtTree) (k : ℕ) (s : StmtTree) → slice_get body k ≡ Some s →
    (KeepsTurns (s ∷ []) → ⊥) → KeepsTurns body → ⊥
body-denied body k s at denied keeps = denied (turns-at body k s at keeps)

-- ---- of sources that break no rule

-- a statement at which no fault is found takes no more turns than it may
few-turns : (scope : Scope) (layer : StmtTree-F StmtTree) → c18_statement scope layer ≡ [] → turns_in layer ≤ REPEAT
few-turns scope (StmtTree-F.Assign x value) none = omega arith
few-turns scope (StmtTree-F.If test first other) none = omega arith
few-turns scope (StmtTree-F.Repeat count body) none =
    ltb-false REPEAT count.value (no-fault (nat_lt REPEAT count.value) _ none)

-- so do those of a body
pub turns-kept : (scope : Scope) (body : List StmtTree) →
    each (λ (s : StmtTree). c18_statement scope (out-StmtTree s)) (body_statements body) ≡ [] → KeepsTurns body
turns-kept scope body none = λ k s at.
    few-turns scope (out-StmtTree s)
    (empty-at (λ (s : StmtTree). c18_statement scope (out-StmtTree s)) (body_statements body) k s none at)
