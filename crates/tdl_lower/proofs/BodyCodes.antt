-- The code of a body does to the cells what the body does.
use Rattle.tdl_base.specs.Cells.{stored, repeated, Cells}
use Rattle.std.proofs.Common.{◌≡◌, ℕ, zero, suc, ◌+◌, List, [], ◌∷◌, ◌++◌, length, map, Bool, true, false, Some, None, ap, ap₂, refl, sym, ◌∙◌, subst, subst₂, arith, append_assoc, append-nil}
use Rattle.std.specs.Prelude.{if◌then◌else◌}
use Rattle.std.proofs.lemmas.List.{length-append}
use Rattle.tdl_base.specs.Numbers.{is_true}
use Rattle.tdl_body.specs.declared.tree.Expr.{Expr}
use Rattle.tdl_body.specs.declared.tree.Body.{Body}
use Rattle.tdl_body.specs.declared.tree.Stmt.{Stmt}
use Rattle.tdl_body.specs.declared.tree.Stmt.TheOpen.{Stmt-F, Body-F}
use Rattle.tdl_body.specs.declared.tree.Stmt.TheViews.{roll-Body, roll-Stmt}
use Rattle.tdl_body.specs.declared.tree.Stmt.TheFolds.{ind-Body, map-Stmt, map-Body}
use Rattle.tdl_body.specs.Values.{value_of}
use Rattle.tdl_body.specs.Effects as tree
use Rattle.tdl_body.specs.Effects.{effect_of}
use Rattle.tdl_body.proofs.Equations.{Effect, effect_of_stmt, effect_of_stmt-roll, effect_of-roll}
use Rattle.tdl_stack.specs.declared.instr.Instr.TheVariants as instr
use Rattle.tdl_stack.specs.Running.{StackState, exec, at_first, no_outer, cells_after}
use Rattle.tdl_base.specs.Lists.{joined}
use Rattle.tdl_lower.specs.Templates.{Instructions, expr_code, body_code, if_code, stmt_template, block_template}
use Rattle.tdl_lower.proofs.Equations.{stmt_code, stmt_code-roll, body_code-roll}
use Rattle.tdl_lower.proofs.ExprCodes.{lowered}

-- the state after an effect on its cells
abbrev worked : Effect → StackState → StackState
worked f s = record s { cells = f s.cells }

-- the code, before any other, has the effect, and the other code follows
abbrev Does : Effect → Instructions → Type 0
Does f code = (rest : Instructions) (n left : ℕ) (s : StackState) → n ≡ length code + left →
    exec no_outer (code ++ rest) n 0 s ≡ exec no_outer rest left 0 (worked f s)

-- f where the condition holds, else g
abbrev chosen : Expr → Effect → Effect → Effect
chosen e f g cells = if is_true (value_of e (tree.look_of_cells cells)) then f cells else g cells

-- ---- each kind of statement

-- a code that is skipped does nothing
skips : (code rest : Instructions) (n left m over : ℕ) (s : StackState) → n ≡ length code + left →
    m ≡ length code + over →
    exec no_outer (code ++ rest) n m s ≡ exec no_outer rest left over s
skips [] rest n left m over s h k =
    let e : n ≡ left = omega (arith, h) in let f : m ≡ over = omega (arith, k) in
    ap₂ (λ a b. exec no_outer rest a b s) e f
skips (i ∷ code) rest n left m over s h k =
    let e : n ≡ suc (length code + left) = omega (arith, h) in
    let f : m ≡ suc (length code + over) = omega (arith, k) in
    ap₂ (λ a b. exec no_outer (i ∷ code ++ rest) a b s) e f
    ∙ skips code rest (length code + left) left (length code + over) over s refl refl

-- the code of an assignment stores the number of its expression
does-assign : (k : ℕ) (e : Expr) →
    Does (λ cells. stored k (value_of e (tree.look_of_cells cells)) cells) (expr_code e ++ instr.Store k ∷ [])
does-assign k e rest n left s h =
    let m : n ≡ length (expr_code e) + suc left =
    omega (arith, h, length-append (expr_code e) (instr.Store k ∷ [])) in
    ap (λ c. exec no_outer c n 0 s) (append_assoc (expr_code e) (instr.Store k ∷ []) rest)
    ∙ lowered e no_outer (instr.Store k ∷ rest) n (suc left) s m

-- the code of a condition with one block does what the block does, or nothing
does-if : (e : Expr) (f : Effect) (first : Instructions) → Does f first →
    Does (chosen e f (λ cells. cells)) (expr_code e ++ instr.Jz (length first) ∷ first)
does-if e f first does rest n left s h =
    let head : Instructions = instr.Jz (length first) ∷ first in
    let m : n ≡ length (expr_code e) + suc (length first + left) = omega (arith, h, length-append (expr_code e) head) in
    ap (λ c. exec no_outer c n 0 s) (append_assoc (expr_code e) head rest)
    ∙ lowered e no_outer (head ++ rest) n (suc (length first + left)) s m
    ∙ by_case (is_true (value_of e (tree.look_of_cells s.cells)))
  where
    by_case : (b : Bool) →
        exec no_outer (first ++ rest) (length first + left) (if b then 0 else length first) s
        ≡ exec no_outer rest left 0 (worked (λ cells. if b then f cells else cells) s)
    by_case true = does rest (length first + left) left s refl
    by_case false = skips first rest (length first + left) left (length first) 0 s refl (omega arith)

-- the code of a condition with two blocks does what one of them does
does-if_else : (e : Expr) (f g : Effect) (first other : Instructions) → Does f first → Does g other →
    Does (chosen e f g) (if_code (expr_code e) first (Some other))
does-if_else e f g first other does does' rest n left s h =
    let jump : Instructions = instr.Jmp (length other) ∷ other in
    let head : Instructions = instr.Jz (length first + 1) ∷ first in
    let m : n ≡ length (expr_code e) + suc (length first + (suc (length other + left))) =
    omega (arith, h, length-append (expr_code e ++ head) jump, length-append (expr_code e) head) in
    ap (λ c. exec no_outer c n 0 s)
    (append_assoc (expr_code e ++ head) jump rest ∙ append_assoc (expr_code e) head (jump ++ rest))
    ∙ lowered e no_outer (head ++ (jump ++ rest)) n (suc (length first + suc (length other + left))) s m
    ∙ by_case (is_true (value_of e (tree.look_of_cells s.cells)))
  where
    after : ℕ
    after = suc (length other + left)

    tail : Instructions
    tail = (instr.Jmp (length other) ∷ other) ++ rest

    by_case : (b : Bool) →
        exec no_outer (first ++ tail) (length first + after) (if b then 0 else (length first + 1)) s
        ≡ exec no_outer rest left 0 (worked (λ cells. if b then f cells else g cells) s)
    by_case true =
        does tail (length first + after) after s refl
        ∙ skips other rest (length other + left) left (length other) 0 (worked f s) refl (omega arith)
    by_case false =
        skips first tail (length first + after) after (length first + 1) 1 s refl refl
        ∙ does' rest (length other + left) left s refl

-- a step that has an effect, done n times, has the effect done n times
repeated-worked : (n : ℕ) (f : Effect) (g : StackState → StackState) → ((s : StackState) → g s ≡ worked f s) →
    (s : StackState) → repeated n g s ≡ worked (repeated n f) s
repeated-worked zero f g e s = refl
repeated-worked (suc n) f g e s = ap g (repeated-worked n f g e s) ∙ e (worked (repeated n f) s)

-- the code of a repetition does what its block does, so many times
does-repeat : (count : ℕ) (f : Effect) (block : Instructions) → Does f block →
    Does (repeated count f) (instr.Rep count (length block) ∷ block)
does-repeat count f block does rest n left s h =
    let m : n ≡ suc (length block + left) = omega (arith, h) in
    let k : length block ≡ length block + 0 = omega arith in
    let once : StackState → StackState = exec no_outer (block ++ rest) (length block) 0 in
    ap (λ a. exec no_outer (instr.Rep count (length block) ∷ block ++ rest) a 0 s) m
    ∙ skips block rest (length block + left) left (length block) 0 (repeated count once s) refl k
    ∙ ap (exec no_outer rest left 0) (repeated-worked count f once (λ t. does rest (length block) 0 t k) s)

-- ---- trees

-- the code of a statement does what the statement does
abbrev IsLoweredStmt : Stmt → Type 0
IsLoweredStmt s = Does (effect_of_stmt s) (stmt_code s)

-- the code of a body does what the body does
abbrev pub IsLoweredBody : Body → Type 0
IsLoweredBody b = Does (effect_of b) (body_code b)

-- a statement of which this is known
abbrev KnownStmt : Type 0
KnownStmt = (s : Stmt) × IsLoweredStmt s

-- a block of which this is known
abbrev KnownBody : Type 0
KnownBody = (b : Body) × IsLoweredBody b

-- a statement's node with its blocks as bodies
abbrev plain_stmt : Stmt-F KnownStmt KnownBody → Stmt-F Stmt Body
plain_stmt node = map-Stmt KnownStmt KnownBody Stmt Body (λ s. s.0) (λ b. b.0) node

-- a block's node with its statements as statements
abbrev plain_body : Body-F KnownStmt KnownBody → Body-F Stmt Body
plain_body node = map-Body KnownStmt KnownBody Stmt Body (λ s. s.0) (λ b. b.0) node

-- the codes of statements in turn do what the statements do in turn
does-turn : (stmts : List KnownStmt) →
    Does (tree.in_turn (map effect_of_stmt (map (λ s. s.0) stmts))) (joined (map stmt_code (map (λ s. s.0) stmts)))
does-turn [] rest n left s h = let e : n ≡ left = omega (arith, h) in ap (λ m. exec no_outer rest m 0 s) e
does-turn (d ∷ ds) rest n left s h =
    let more : Instructions = joined (map stmt_code (map (λ s. s.0) ds)) in
    let m : n ≡ length (stmt_code d.0) + (length more + left) = omega (arith, h, length-append (stmt_code d.0) more) in
    ap (λ c. exec no_outer c n 0 s) (append_assoc (stmt_code d.0) more rest)
    ∙ d.1 (more ++ rest) n (length more + left) s m
    ∙ does-turn ds rest (length more + left) left (worked (effect_of_stmt d.0) s) refl

-- the code of a statement's node does what the node does, where the codes of its blocks do
stmt_lowered : (node : Stmt-F KnownStmt KnownBody) →
    Does (tree.stmt_step (map-Stmt Stmt Body Effect Effect effect_of_stmt effect_of (plain_stmt node)))
    (stmt_template (map-Stmt Stmt Body Instructions Instructions stmt_code body_code (plain_stmt node)))
stmt_lowered (Stmt-F.Assign k e) = does-assign k e
stmt_lowered (Stmt-F.If e then' None) = does-if e (effect_of then'.0) (body_code then'.0) then'.1
stmt_lowered (Stmt-F.If e then' (Some other)) =
    does-if_else e (effect_of then'.0) (effect_of other.0) (body_code then'.0) (body_code other.0) then'.1 other.1
stmt_lowered (Stmt-F.Repeat count block) = does-repeat count (effect_of block.0) (body_code block.0) block.1

-- the code of a block's node does what the node does, where the codes of its statements do
body_lowered : (node : Body-F KnownStmt KnownBody) →
    Does (tree.block_step (map-Body Stmt Body Effect Effect effect_of_stmt effect_of (plain_body node)))
    (block_template (map-Body Stmt Body Instructions Instructions stmt_code body_code (plain_body node)))
body_lowered node = does-turn node.stmts

-- the code of a body, before any other code, does what the body does
pub lowered_body : (b : Body) → IsLoweredBody b
lowered_body = ind-Body IsLoweredStmt IsLoweredBody
    (λ x node is. subst (λ z. IsLoweredStmt (roll-Stmt z)) is
    (subst₂ Does (sym (effect_of_stmt-roll (plain_stmt node))) (sym (stmt_code-roll (plain_stmt node)))
    (stmt_lowered node)))
    (λ x node is. subst (λ z. IsLoweredBody (roll-Body z)) is
    (subst₂ Does (sym (effect_of-roll (plain_body node))) (sym (body_code-roll (plain_body node))) (body_lowered node)))

-- the cells after the code of a body are those after the body
pub cells_after-code : (b : Body) (cells : Cells) → cells_after (body_code b) cells ≡ effect_of b cells
cells_after-code b cells =
    let code : Instructions = body_code b in
    let m : length code ≡ length code + 0 = omega arith in
    ap (λ (s : StackState). s.cells)
    (ap (λ c. exec no_outer c (length code) 0 (at_first cells)) (sym (append-nil code))
    ∙ lowered_body b [] (length code) 0 (at_first cells) m)
