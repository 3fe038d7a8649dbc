-- What is appended part by part is the code of the whole.
use Rattle.std.proofs.Common.{◌≡◌, [], ◌∷◌, ◌++◌, ap, sym, ◌∙◌, append_assoc, ℤ, w64, FitsSigned, to_z, of_z}
use Rattle.std.proofs.lemmas.Int.{to_z-of_z}
use Rattle.tdl_base.specs.declared.arithmetic.BinOp.{BinOp}
use Rattle.tdl_base.specs.declared.arithmetic.UnOp.{UnOp}
use Rattle.tdl_body.specs.declared.tree.Expr.{Expr}
use Rattle.tdl_body.specs.declared.tree.Expr.TheVariants as expr
use Rattle.tdl_stack.specs.declared.instr.Instr.TheVariants as instr
use Rattle.tdl_lower.specs.Templates.{Instructions, expr_code}
use Rattle.tdl_lower.proofs.Equations.{expr_code-const, expr_code-un, expr_code-bin}

-- one part after another
pub in_turn : (first second old between new : Instructions) → between ≡ old ++ first → new ≡ between ++ second →
    new ≡ old ++ (first ++ second)
in_turn first second old between new one two =
    two ∙ ap (λ c. c ++ second) one ∙ append_assoc old first second

-- what is a node's code is the code of what is that node
pub code_of_node : (e node : Expr) (code old new : Instructions) → e ≡ node → expr_code node ≡ code →
    new ≡ old ++ code → new ≡ old ++ expr_code e
code_of_node e node code old new is template put = put ∙ ap (λ c. old ++ c) (sym (ap expr_code is ∙ template))

-- a constant, as it is stored
pub const_appended : (e : Expr) (v : ℤ) (old new : Instructions) → FitsSigned w64 v → e ≡ expr.Const v →
    new ≡ old ++ instr.Const (to_z w64 (of_z w64 v)) ∷ [] → new ≡ old ++ expr_code e
const_appended e v old new fits is put =
    code_of_node e (expr.Const v) (instr.Const v ∷ []) old new is (expr_code-const v)
    (put ∙ ap (λ z. old ++ instr.Const z ∷ []) (to_z-of_z w64 v fits))

-- an operator after its operand
pub un_appended : (op : UnOp) (e a got : Expr) (old between new : Instructions) → e ≡ expr.Un op a → got ≡ a →
    between ≡ old ++ expr_code got → new ≡ between ++ instr.Un op ∷ [] → new ≡ old ++ expr_code e
un_appended op e a got old between new is same one two =
    code_of_node e (expr.Un op a) (expr_code a ++ instr.Un op ∷ []) old new is (expr_code-un op a)
    (in_turn (expr_code a) (instr.Un op ∷ []) old between new (one ∙ ap (λ x. old ++ expr_code x) same) two)

-- an operator after its two operands
pub bin_appended : (op : BinOp) (e a b x y : Expr) (old one two new : Instructions) → e ≡ expr.Bin op a b →
    x ≡ a → y ≡ b → one ≡ old ++ expr_code x → two ≡ one ++ expr_code y → new ≡ two ++ instr.Bin op ∷ [] →
    new ≡ old ++ expr_code e
bin_appended op e a b x y old one two new is left right first second third =
    code_of_node e (expr.Bin op a b) (expr_code a ++ expr_code b ++ instr.Bin op ∷ []) old new is (expr_code-bin op a b)
    (in_turn (expr_code a ++ expr_code b) (instr.Bin op ∷ []) old two new
    (in_turn (expr_code a) (expr_code b) old one two (first ∙ ap (λ z. old ++ expr_code z) left)
    (second ∙ ap (λ z. one ++ expr_code z) right))
    third)
