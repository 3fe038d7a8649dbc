-- What is appended statement by statement, with lengths that are filled in later, is the code of the whole.
use Rattle.std.proofs.Common.{◌≡◌, ℕ, ◌+◌, List, ◌∷◌, ◌++◌, length, map, Some, None, ap, ap₂, sym, ◌∙◌, slice_set}
use Rattle.std.proofs.Math.Seq.{set-append_seam}
use Rattle.tdl_base.specs.Lists.{joined}
use Rattle.tdl_body.specs.declared.tree.Body.{Body}
use Rattle.tdl_body.specs.declared.tree.Stmt.{Stmt}
use Rattle.tdl_stack.specs.declared.instr.Instr.{Instr}
use Rattle.tdl_stack.specs.declared.instr.Instr.TheVariants as instr
use Rattle.tdl_lower.specs.Templates.{Instructions, body_code, stmt_code, if_code}
use Rattle.tdl_lower.proofs.Equations.{body_code-stmts}
use Rattle.tdl_lower.proofs.Appended.{in_turn}

-- the codes of a body's statements in turn are its code
pub body_code-items : (b : Body) (items : List Stmt) → items ≡ b.stmts → joined (map stmt_code items) ≡ body_code b
body_code-items b items same = ap (λ s. joined (map stmt_code s)) same ∙ sym (body_code-stmts b.stmts)

-- what is a node's code is the code of the statement that is that node
pub code_of_stmt : (s node : Stmt) (code old new : Instructions) → s ≡ node → stmt_code node ≡ code →
    new ≡ old ++ code → new ≡ old ++ stmt_code s
code_of_stmt s node code old new is template put = put ∙ ap (λ c. old ++ c) (sym (ap stmt_code is ∙ template))

-- an instruction that is filled in before a block
pub filled_in : (before between block new : Instructions) (blank i : Instr) (place : ℕ) → place ≡ length before →
    between ≡ before ++ blank ∷ block → new ≡ slice_set between place i → new ≡ before ++ i ∷ block
filled_in before between block new blank i place here put filled =
    filled ∙ ap₂ (λ c k. slice_set c k i) put here ∙ set-append_seam before blank block i

-- a condition, and the block after it
pub if_appended : (test first old one between new : Instructions) (place n : ℕ) → one ≡ old ++ test →
    place ≡ length one → between ≡ one ++ instr.Jmp 0 ∷ first → n ≡ length first →
    new ≡ slice_set between place (instr.Jz n) → new ≡ old ++ if_code test first None
if_appended test first old one between new place n tested here put count filled =
    in_turn test (instr.Jz (length first) ∷ first) old one new tested
    (filled_in one between first new (instr.Jmp 0) (instr.Jz n) place here put filled
    ∙ ap (λ k. one ++ instr.Jz k ∷ first) count)

-- a condition, the block after it, and the other block
pub if_else_appended : (test first other old one two three four new : Instructions) (place n end m : ℕ) →
    one ≡ old ++ test → place ≡ length one → two ≡ one ++ instr.Jmp 0 ∷ first → n ≡ length first + 1 →
    three ≡ slice_set two place (instr.Jz n) → end ≡ length three → four ≡ three ++ instr.Jmp 0 ∷ other →
    m ≡ length other → new ≡ slice_set four end (instr.Jmp m) → new ≡ old ++ if_code test first (Some other)
if_else_appended test first other old one two three four new place n end m tested here put count filled there put' count' filled' =
    in_turn (test ++ instr.Jz (length first + 1) ∷ first) (instr.Jmp (length other) ∷ other) old three new
    (in_turn test (instr.Jz (length first + 1) ∷ first) old one three tested
    (filled_in one two first three (instr.Jmp 0) (instr.Jz n) place here put filled
    ∙ ap (λ k. one ++ instr.Jz k ∷ first) count))
    (filled_in three four other new (instr.Jmp 0) (instr.Jmp m) end there put' filled'
    ∙ ap (λ k. three ++ instr.Jmp k ∷ other) count')

-- a repetition and its block
pub repeat_appended : (times : ℕ) (block old between new : Instructions) (place n : ℕ) → place ≡ length old →
    between ≡ old ++ instr.Jmp 0 ∷ block → n ≡ length block → new ≡ slice_set between place (instr.Rep times n) →
    new ≡ old ++ instr.Rep times (length block) ∷ block
repeat_appended times block old between new place n here put is filled =
    filled_in old between block new (instr.Jmp 0) (instr.Rep times n) place here put filled
    ∙ ap (λ k. old ++ instr.Rep times k ∷ block) is
