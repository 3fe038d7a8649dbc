-- Arguments against the inputs among the ports that are left.
use Rattle.std.proofs.Common.{◌≡◌, ℕ, suc, ◌<◌, ◌≤◌, ◌+◌, ◌-◌, Bool, true, false, List, [], ◌∷◌, length, take, drop, get_or, drop-cons, add-one, cond, Option, refl, sym, ap, ◌∙◌, arith}
use Rattle.std.proofs.lemmas.List.{drop_all, take_rest}
use Rattle.tdl_tree.specs.declared.declarations.PortDecl.{PortDecl}
use Rattle.tdl_tree.specs.declared.expressions.ExprTree.{ExprTree}
use Rattle.tdl_rules.specs.declared.fault.Fault.{Fault}
use Rattle.tdl_rules.specs.Earliest.{earliest}
use Rattle.tdl_rules.specs.Naming.{Scope, is_input, inputs}
use Rattle.tdl_rules.specs.Sorts.{is_truth}
use Rattle.tdl_rules.specs.SortRules.{needs, arguments_need}
use Rattle.tdl_walk.proofs.Minimum.{earliest-append}

-- the inputs from a port on, which may be one
inputs-from : (ports : List PortDecl) (k : ℕ) (port : PortDecl) (b : Bool) → k < length ports →
    port ≡ get_or ports k port → is_input port ≡ b →
    inputs (drop k ports) ≡ cond b (port ∷ inputs (drop (k + 1) ports)) (inputs (drop (k + 1) ports))
inputs-from ports k port b inside here e =
    let left : List PortDecl = drop (suc k) ports in
    ap inputs (drop-cons ports k port inside ∙ ap (λ (z : PortDecl). z ∷ left) (sym here))
    ∙ ap (λ (z : Bool). cond z (port ∷ inputs left) (inputs left)) e
    ∙ ap (λ (n : ℕ). cond b (port ∷ inputs (drop n ports)) (inputs (drop n ports))) (sym (add-one k))

-- a port that is no input
pub no_input : (scope : Scope) (args : List ExprTree) (ports : List PortDecl) (k : ℕ) (port : PortDecl)
    (best : Option Fault) → k < length ports → port ≡ get_or ports k port → is_input port ≡ false →
    earliest best (arguments_need scope args (inputs (drop (k + 1) ports)))
    ≡ earliest best (arguments_need scope args (inputs (drop k ports)))
no_input scope args ports k port best inside here e =
    ap (λ (z : List PortDecl). earliest best (arguments_need scope args z))
    (sym (inputs-from ports k port false inside here e))

-- a list that is not empty is its first item and the rest
first_and_rest : {A : Type 0} (xs : List A) (x : A) → 1 ≤ length xs → x ≡ get_or xs 0 x →
    xs ≡ x ∷ take (length xs - 1) (drop 1 xs)
first_and_rest [] x some is = absurd (omega (arith, some))
first_and_rest (y ∷ ys) x some is =
    ap (λ (z : _). z ∷ ys) (sym is) ∙ ap (λ (zs : List _). x ∷ zs) (sym (take_rest (y ∷ ys) 1))

-- an input and its argument, the first of those that are left
pub one_input : (scope : Scope) (args : List ExprTree) (arg : ExprTree) (ports : List PortDecl) (k : ℕ)
    (port : PortDecl) (now new : Option Fault) → k < length ports → port ≡ get_or ports k port →
    is_input port ≡ true → 1 ≤ length args → arg ≡ get_or args 0 arg →
    new ≡ earliest now (needs scope arg (is_truth port.kind)) →
    earliest new (arguments_need scope (take (length args - 1) (drop 1 args)) (inputs (drop (k + 1) ports)))
    ≡ earliest now (arguments_need scope args (inputs (drop k ports)))
one_input scope args arg ports k port now new inside here e some first step =
    let more : List ExprTree = take (length args - 1) (drop 1 args) in
    let left : List PortDecl = inputs (drop (k + 1) ports) in
    ap (λ (z : Option Fault). earliest z (arguments_need scope more left)) step
    ∙ sym (earliest-append now (needs scope arg (is_truth port.kind)) (arguments_need scope more left))
    ∙ ap (λ (z : List PortDecl). earliest now (arguments_need scope (arg ∷ more) z))
    (sym (inputs-from ports k port true inside here e))
    ∙ ap (λ (z : List ExprTree). earliest now (arguments_need scope z (inputs (drop k ports))))
    (sym (first_and_rest args arg some first))

-- no argument is left
pub no_argument : (scope : Scope) (args : List ExprTree) (ports : List PortDecl) (best : Option Fault) →
    length args < 1 → earliest best (arguments_need scope args ports) ≡ best
unfolding earliest
no_argument scope [] ports best none = refl
no_argument scope (arg ∷ args) ports best none = absurd (omega (arith, none))

-- nothing is needed where no input is left
needs_nothing : (scope : Scope) (args : List ExprTree) (best : Option Fault) →
    earliest best (arguments_need scope args []) ≡ best
unfolding earliest
needs_nothing scope [] best = refl
needs_nothing scope (arg ∷ args) best = refl

-- no port is left
pub no_port : (scope : Scope) (args : List ExprTree) (ports : List PortDecl) (k : ℕ) (best : Option Fault) →
    length ports ≤ k → earliest best (arguments_need scope args (inputs (drop k ports))) ≡ best
no_port scope args ports k best past =
    ap (λ (z : List PortDecl). earliest best (arguments_need scope args (inputs z))) (drop_all k ports past)
    ∙ needs_nothing scope args best
