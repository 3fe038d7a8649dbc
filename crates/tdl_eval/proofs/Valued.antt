-- The number of a node of an expression, from those of its operands, as they are stored.
use Rattle.std.proofs.Common.{◌≡◌, ℤ, refl, ap, ap₂, sym, ◌∙◌, w64, FitsSigned, to_z, of_z}
use Rattle.std.proofs.lemmas.Int.{to_z-of_z}
use Rattle.tdl_base.specs.Numbers.{unary, binary}
use Rattle.tdl_base.specs.declared.arithmetic.BinOp.{BinOp}
use Rattle.tdl_base.specs.declared.arithmetic.UnOp.{UnOp}
use Rattle.tdl_body.specs.declared.tree.Expr.{Expr}
use Rattle.tdl_body.specs.declared.tree.Expr.TheVariants as expr
use Rattle.tdl_body.specs.declared.tree.Expr.TheOpen.{Expr-F}
use Rattle.tdl_body.specs.declared.tree.Expr.TheViews.{roll-Expr}
use Rattle.tdl_body.specs.Values.{Look, value_of}
use Rattle.tdl_body.proofs.Equations.{value_of-roll, value_of-bin}

-- the number of an operator over one operand
value_of-un : (op : UnOp) (a : Expr) (look : Look) → value_of (expr.Un op a) look ≡ unary op (value_of a look)
unfolding roll-Expr denote.Hole.Carrier.roll
value_of-un op a look = ap (λ (f : Look → ℤ). f look) (value_of-roll (Expr-F.Un op a))

-- a number is stored as it is
abbrev pub kept : ℤ → ℤ
kept v = to_z w64 (of_z w64 v)

-- what is a node's number is the number of what is that node
pub value_of_node : (e node : Expr) (look : Look) (v w : ℤ) → FitsSigned w64 v → e ≡ node →
    value_of node look ≡ w → v ≡ w → kept v ≡ value_of e look
value_of_node e node look v w fits is has same =
    to_z-of_z w64 v fits ∙ same ∙ sym (ap (λ (x : Expr). value_of x look) is ∙ has)

-- an operand that was computed
operand : (a got : Expr) (look : Look) (v : ℤ) → FitsSigned w64 v → v ≡ value_of got look → got ≡ a →
    kept v ≡ value_of a look
operand a got look v fits is same = value_of_node a got look v (value_of got look) fits (sym same) refl is

-- an operator over an operand that was computed
pub un_valued : (op : UnOp) (e a got : Expr) (look : Look) (r v : ℤ) → FitsSigned w64 r → FitsSigned w64 v →
    e ≡ expr.Un op a → got ≡ a → v ≡ value_of got look → r ≡ unary op (kept v) → kept r ≡ value_of e look
un_valued op e a got look r v fits inner is same has r_is =
    value_of_node e (expr.Un op a) look r (unary op (value_of a look)) fits is (value_of-un op a look)
    (r_is ∙ ap (unary op) (operand a got look v inner has same))

-- an operator over two operands that were computed
pub bin_valued : (op : BinOp) (e a b x y : Expr) (look : Look) (r v w : ℤ) → FitsSigned w64 r → FitsSigned w64 v →
    FitsSigned w64 w → e ≡ expr.Bin op a b → x ≡ a → y ≡ b → v ≡ value_of x look → w ≡ value_of y look →
    r ≡ binary op (kept v) (kept w) → kept r ≡ value_of e look
bin_valued op e a b x y look r v w fits left right is xa yb vx wy r_is =
    value_of_node e (expr.Bin op a b) look r (binary op (value_of a look) (value_of b look)) fits is
    (value_of-bin op a b look)
    (r_is ∙ ap₂ (binary op) (operand a x look v left vx xa) (operand b y look w right wy yb))
