-- The code of an expression pushes the expression's number.
use Rattle.std.proofs.Common.{◌≡◌, ℕ, suc, ◌+◌, ℤ, [], ◌∷◌, ◌++◌, length, ap, refl, sym, ◌∙◌, subst, subst₂, arith, append_assoc, append-nil}
use Rattle.std.proofs.lemmas.List.{length-append}
use Rattle.tdl_base.specs.declared.numbers.Place.{Place}
use Rattle.tdl_base.specs.declared.numbers.Place.TheVariants.{Sensor, Port, Cell}
use Rattle.tdl_base.specs.declared.arithmetic.BinOp.{BinOp}
use Rattle.tdl_base.specs.declared.arithmetic.UnOp.{UnOp}
use Rattle.tdl_base.specs.Numbers.{unary, binary}
use Rattle.tdl_body.specs.declared.tree.Expr.{Expr}
use Rattle.tdl_body.specs.declared.tree.Expr.TheOpen.{Expr-F}
use Rattle.tdl_body.specs.declared.tree.Expr.TheViews.{roll-Expr}
use Rattle.tdl_body.specs.declared.tree.Expr.TheFolds.{ind-Expr, map-Expr}
use Rattle.tdl_body.specs.Values as body
use Rattle.tdl_body.specs.Values.{value_of}
use Rattle.tdl_body.proofs.Equations.{value_of-roll}
use Rattle.tdl_stack.specs.declared.instr.Instr.{Instr}
use Rattle.tdl_stack.specs.declared.instr.Instr.TheVariants as instr
use Rattle.tdl_base.specs.Cells.{Cells}
use Rattle.tdl_stack.specs.Running.{Outer, StackState, exec, pushed, top, loaded, at_first, code_value, no_cells}
use Rattle.tdl_lower.specs.Templates.{Instructions, expr_code, expr_template}
use Rattle.tdl_lower.specs.Looks.{looked}
use Rattle.tdl_lower.proofs.Equations.{expr_code-roll}

-- the code, before any other, pushes the number, and the other code follows
abbrev Pushes : (body.Look → ℤ) → Instructions → Type 0
Pushes value code = (outer : Outer) (rest : Instructions) (n left : ℕ) (s : StackState) → n ≡ length code + left →
    exec outer (code ++ rest) n 0 s ≡ exec outer rest left 0 (pushed (value (looked outer s.cells)) s)

-- ---- each kind of node

-- a code reads at a place what a tree reads there
loaded-looked : (p : Place) (outer : Outer) (cells : Cells) → loaded outer p cells ≡ body.read p (looked outer cells)
loaded-looked (Sensor k) outer cells = refl
loaded-looked (Port k) outer cells = refl
loaded-looked (Cell k) outer cells = refl

-- a code of one instruction does what that instruction does
exec-one : (i : Instr) (outer : Outer) (rest : Instructions) (n left : ℕ) (s t : StackState) →
    exec outer (i ∷ rest) (suc left) 0 s ≡ exec outer rest left 0 t →
    n ≡ 1 + left → exec outer (i ∷ rest) n 0 s ≡ exec outer rest left 0 t
exec-one i outer rest n left s t e h =
    let f : n ≡ suc left = omega (arith, h) in ap (λ m. exec outer (i ∷ rest) m 0 s) f ∙ e

-- a constant pushes itself
pushes-const : (v : ℤ) → Pushes (λ look. v) (instr.Const v ∷ [])
pushes-const v outer rest n left s h = exec-one (instr.Const v) outer rest n left s _ refl h

-- a load pushes what is read at its place
pushes-load : (p : Place) → Pushes (body.read p) (instr.Load p ∷ [])
pushes-load p outer rest n left s h =
    exec-one (instr.Load p) outer rest n left s _
    (ap (λ v. exec outer rest left 0 (pushed v s)) (loaded-looked p outer s.cells)) h

-- an operator after the code of its operand pushes its number
pushes-un : (op : UnOp) (f : body.Look → ℤ) (a : Instructions) → Pushes f a →
    Pushes (λ look. unary op (f look)) (a ++ instr.Un op ∷ [])
pushes-un op f a first outer rest n left s h =
    let m : n ≡ length a + suc left = omega (arith, h, length-append a (instr.Un op ∷ [])) in
    ap (λ c. exec outer c n 0 s) (append_assoc a (instr.Un op ∷ []) rest)
    ∙ first outer (instr.Un op ∷ rest) n (suc left) s m

-- an operator after the codes of its two operands pushes its number
pushes-bin : (op : BinOp) (f g : body.Look → ℤ) (a b : Instructions) → Pushes f a → Pushes g b →
    Pushes (λ look. binary op (f look) (g look)) (a ++ b ++ instr.Bin op ∷ [])
pushes-bin op f g a b first second outer rest n left s h =
    let m : n ≡ length a + (length b + suc left) =
    omega (arith, h, length-append (a ++ b) (instr.Bin op ∷ []), length-append a b) in
    ap (λ c. exec outer c n 0 s)
    (append_assoc (a ++ b) (instr.Bin op ∷ []) rest ∙ append_assoc a b (instr.Bin op ∷ rest))
    ∙ first outer (b ++ instr.Bin op ∷ rest) n (length b + suc left) s m
    ∙ second outer (instr.Bin op ∷ rest) (length b + suc left) (suc left) (pushed (f (looked outer s.cells)) s) refl

-- ---- trees

-- the code of e pushes the number of e
abbrev pub IsLowered : Expr → Type 0
IsLowered e = Pushes (value_of e) (expr_code e)

-- an operand of which this is known
abbrev Known : Type 0
Known = (e : Expr) × IsLowered e

-- the node with its operands as expressions
abbrev plain : Expr-F Known → Expr-F Expr
plain node = map-Expr Known Expr (λ e. e.0) node

-- the code of a node whose operands' codes push their numbers pushes the node's number
node_lowered : (node : Expr-F Known) →
    Pushes (body.expr_step (map-Expr Expr (body.Look → ℤ) value_of (plain node)))
    (expr_template (map-Expr Expr Instructions expr_code (plain node)))
node_lowered (Expr-F.Const v) = pushes-const v
node_lowered (Expr-F.Load p) = pushes-load p
node_lowered (Expr-F.Un op a) = pushes-un op (value_of a.0) (expr_code a.0) a.1
node_lowered (Expr-F.Bin op a b) = pushes-bin op (value_of a.0) (value_of b.0) (expr_code a.0) (expr_code b.0) a.1 b.1

-- the code of an expression, before any other code, pushes the expression's number
pub lowered : (e : Expr) → IsLowered e
lowered = ind-Expr IsLowered (λ x node is.
    subst (λ z. IsLowered (roll-Expr z)) is
    (subst₂ Pushes (sym (value_of-roll (plain node))) (sym (expr_code-roll (plain node))) (node_lowered node)))

-- the number of the code of e is the number of e
pub code_value-expr_code : (e : Expr) (outer : Outer) →
    code_value outer (expr_code e) ≡ value_of e (looked outer no_cells)
code_value-expr_code e outer =
    let code : Instructions = expr_code e in
    let m : length code ≡ length code + 0 = omega arith in
    ap top (ap (λ c. exec outer c (length code) 0 (at_first no_cells)) (sym (append-nil code))
    ∙ lowered e outer [] (length code) 0 (at_first no_cells) m)
