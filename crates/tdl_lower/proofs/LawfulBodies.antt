-- The codes of bodies and expressions are lawful.
use Rattle.std.proofs.Common.{◌≡◌, ℕ, ◌<◌, ◌≤◌, true, false, All, List, [], ◌∷◌, ◌++◌, map, Some, None, sym, ap, subst, subst₂, arith, append-nil, if◌then◌else◌}
use Rattle.std.specs.List.{AllByRecursion}
use Rattle.std.proofs.lemmas.List.Elements.{recursion_from_All}
use Rattle.tdl_base.specs.Lists.{joined}
use Rattle.tdl_base.specs.declared.limits.TheConstants.{REPEAT}
use Rattle.tdl_base.specs.declared.numbers.Place.{Place}
use Rattle.tdl_base.specs.declared.numbers.Place.TheVariants.{Sensor, Port, Cell}
use Rattle.tdl_body.specs.declared.tree.Expr.{Expr}
use Rattle.tdl_body.specs.declared.tree.Body.{Body}
use Rattle.tdl_body.specs.declared.tree.Stmt.{Stmt}
use Rattle.tdl_body.specs.declared.tree.Stmt.TheOpen.{Stmt-F, Body-F}
use Rattle.tdl_body.specs.declared.tree.Stmt.TheViews.{roll-Body, roll-Stmt}
use Rattle.tdl_body.specs.declared.tree.Stmt.TheFolds.{ind-Body, map-Stmt, map-Body}
use Rattle.tdl_body.specs.Places.{places_of}
use Rattle.tdl_body.specs.CellUse.{IsCell, UsesCells}
use Rattle.tdl_body.specs.Bounds.{nodes_of, depth_of, levels_of, levels_step, greatest, steps_of, steps_step, total, exprs_of, exprs_step, counts_of, counts_step, targets_of, targets_step, IsBoundedExpr, IsBounded}
use Rattle.tdl_body.proofs.BoundEquations.{levels_of_stmt, levels_of_stmt-roll, levels_of-roll, steps_of_stmt, steps_of_stmt-roll, steps_of-roll, exprs_of_stmt, exprs_of_stmt-roll, exprs_of-roll, counts_of_stmt, counts_of_stmt-roll, counts_of-roll, targets_of_stmt, targets_of_stmt-roll, targets_of-roll}
use Rattle.tdl_stack.specs.declared.instr.Instr.TheVariants as instr
use Rattle.tdl_stack.specs.Lawful.{CodeShape, IsLawful}
use Rattle.tdl_stack.specs.Judging.{Fits, Sound}
use Rattle.tdl_stack.specs.Counting.{Counts, no_count}
use Rattle.tdl_stack.proofs.Lawfulness.{checked-lawful}
use Rattle.tdl_lower.specs.Readable.{IsReadable}
use Rattle.tdl_lower.specs.Templates.{Instructions, expr_code, body_code, stmt_code, stmt_template}
use Rattle.tdl_lower.proofs.Equations.{stmt_code-roll, body_code-roll}
use Rattle.tdl_lower.proofs.SoundCodes.{Pushes, AllLoad, pushed}
use Rattle.tdl_lower.proofs.SoundBodies.{Runs, runs-nothing, runs-both, runs-assign, runs-if, runs-if_else, runs-repeat}

-- what holds of each item holds of each of both parts
both_parts : {A : Type 0} (P : A → Type 0) (xs ys : List A) → AllByRecursion P (xs ++ ys) →
    AllByRecursion P xs × AllByRecursion P ys
both_parts P [] ys h = (tt, h)
both_parts P (x ∷ xs) ys h = let r = both_parts P xs ys h.1 in ((h.0, r.0), r.1)

-- what follows from a fact of each item
each-weaker : {A : Type 0} (P Q : A → Type 0) → ((x : A) → P x → Q x) → (xs : List A) → AllByRecursion P xs →
    AllByRecursion Q xs
each-weaker P Q f [] h = tt
each-weaker P Q f (x ∷ xs) h = (f x h.0, each-weaker P Q f xs h.1)

-- two facts of each item are one
each-both : {A : Type 0} (P Q : A → Type 0) (xs : List A) → AllByRecursion P xs → AllByRecursion Q xs →
    AllByRecursion (λ x. P x × Q x) xs
each-both P Q [] h k = tt
each-both P Q (x ∷ xs) h k = ((h.0, k.0), each-both P Q xs h.1 k.1)

module _ (shape : CodeShape) (is_body : shape.expression ≡ false) where
  -- an expression that is bounded and reads what may be read
  abbrev GoodExpr : Expr → Type 0
  GoodExpr e = IsBoundedExpr e × AllLoad shape (places_of e)

  -- such expressions, cells that are there, and counts that are not too great
  abbrev Good : List Expr → List ℕ → List ℕ → Type 0
  Good exprs targets counts =
      AllByRecursion GoodExpr exprs
      × (AllByRecursion (λ k. k < shape.cells) targets × AllByRecursion (λ n. n ≤ REPEAT) counts)

  -- both parts of what is good are good
  good-parts : (es es' : List Expr) (ts ts' cs cs' : List ℕ) → Good (es ++ es') (ts ++ ts') (cs ++ cs') →
      Good es ts cs × Good es' ts' cs'
  good-parts es es' ts ts' cs cs' g =
      let e = both_parts GoodExpr es es' g.0 in
      let t = both_parts (λ k. k < shape.cells) ts ts' g.1.0 in
      let c = both_parts (λ n. n ≤ REPEAT) cs cs' g.1.1 in
      ((e.0, (t.0, c.0)), (e.1, (t.1, c.1)))

  -- the same of equal lists
  good-same : (es es' : List Expr) (ts ts' cs cs' : List ℕ) → es ≡ es' → ts ≡ ts' → cs ≡ cs' → Good es ts cs →
      Good es' ts' cs'
  good-same es es' ts ts' cs cs' e t c g = (
    subst (AllByRecursion GoodExpr) e g.0,
    (subst (AllByRecursion (λ k. k < shape.cells)) t g.1.0, subst (AllByRecursion (λ n. n ≤ REPEAT)) c g.1.1),
  )

  -- the same of equal numbers and codes
  runs-same : (s s' l l' : ℕ) (code code' : Instructions) → s ≡ s' → l ≡ l' → code ≡ code' → Runs shape is_body s l code →
      Runs shape is_body s' l' code'
  runs-same s s' l l' code code' e f g r =
      subst (λ x. Runs shape is_body x l' code') e (subst₂ (Runs shape is_body s) f g r)

  -- the code of a good statement runs
  abbrev IsRunStmt : Stmt → Type 0
  IsRunStmt s = Good (exprs_of_stmt s) (targets_of_stmt s) (counts_of_stmt s) →
      Runs shape is_body (steps_of_stmt s) (levels_of_stmt s) (stmt_code s)

  -- the code of a good body runs
  abbrev IsRunBody : Body → Type 0
  IsRunBody b = Good (exprs_of b) (targets_of b) (counts_of b) → Runs shape is_body (steps_of b) (levels_of b) (body_code b)

  -- a statement of which this is known
  abbrev KnownStmt : Type 0
  KnownStmt = (s : Stmt) × IsRunStmt s

  -- a block of which this is known
  abbrev KnownBody : Type 0
  KnownBody = (b : Body) × IsRunBody b

  -- a statement's node with its blocks as bodies
  abbrev plain_stmt : Stmt-F KnownStmt KnownBody → Stmt-F Stmt Body
  plain_stmt node = map-Stmt KnownStmt KnownBody Stmt Body (λ s. s.0) (λ b. b.0) node

  -- a block's node with its statements as statements
  abbrev plain_body : Body-F KnownStmt KnownBody → Body-F Stmt Body
  plain_body node = map-Body KnownStmt KnownBody Stmt Body (λ s. s.0) (λ b. b.0) node

  -- the code of a good expression
  good-pushes : (e : Expr) → GoodExpr e → Pushes shape (depth_of e) (nodes_of e) (expr_code e)
  good-pushes e g = pushed shape e g.1

  -- a statement's node of such blocks
  stmt_runs : (node : Stmt-F KnownStmt KnownBody) →
      Good (exprs_step (map-Stmt Stmt Body (List Expr) (List Expr) exprs_of_stmt exprs_of (plain_stmt node)))
      (targets_step (map-Stmt Stmt Body (List ℕ) (List ℕ) targets_of_stmt targets_of (plain_stmt node)))
      (counts_step (map-Stmt Stmt Body (List ℕ) (List ℕ) counts_of_stmt counts_of (plain_stmt node))) →
      Runs shape is_body (steps_step (map-Stmt Stmt Body ℕ ℕ steps_of_stmt steps_of (plain_stmt node)))
      (levels_step (map-Stmt Stmt Body ℕ ℕ levels_of_stmt levels_of (plain_stmt node)))
      (stmt_template (map-Stmt Stmt Body Instructions Instructions stmt_code body_code (plain_stmt node)))
  stmt_runs (Stmt-F.Assign k e) g =
      runs-assign shape is_body k (depth_of e) (nodes_of e) (expr_code e) g.1.0.0 g.0.0.0.depth g.0.0.0.nodes
      (good-pushes e g.0.0)
  stmt_runs (Stmt-F.If e then' None) g =
      let parts =
      good-parts (exprs_of then'.0) [] (targets_of then'.0) [] (counts_of then'.0) [] (g.0.1, g.1) in
      runs-if shape is_body (depth_of e) (nodes_of e) (steps_of then'.0) (levels_of then'.0) (expr_code e)
      (body_code then'.0) g.0.0.0.depth g.0.0.0.nodes (good-pushes e g.0.0) (then'.1 parts.0)
  stmt_runs (Stmt-F.If e then' (Some other)) g =
      let parts =
      good-parts (exprs_of then'.0) (exprs_of other.0) (targets_of then'.0) (targets_of other.0) (counts_of then'.0)
      (counts_of other.0) (g.0.1, g.1) in
      runs-if_else shape is_body (depth_of e) (nodes_of e) (steps_of then'.0) (steps_of other.0) (levels_of then'.0)
      (levels_of other.0) (expr_code e) (body_code then'.0) (body_code other.0) g.0.0.0.depth g.0.0.0.nodes
      (good-pushes e g.0.0) (then'.1 parts.0) (other.1 parts.1)
  stmt_runs (Stmt-F.Repeat times block) g =
      runs-repeat shape is_body times (steps_of block.0) (levels_of block.0) (body_code block.0) g.1.1.0
      (block.1 (g.0, (g.1.0, g.1.1.1)))

  -- statements in turn
  in_turn_run : (stmts : List KnownStmt) →
      Good (joined (map exprs_of_stmt (map (λ s. s.0) stmts))) (joined (map targets_of_stmt (map (λ s. s.0) stmts)))
      (joined (map counts_of_stmt (map (λ s. s.0) stmts))) →
      Runs shape is_body (total (map steps_of_stmt (map (λ s. s.0) stmts)))
      (greatest (map levels_of_stmt (map (λ s. s.0) stmts))) (joined (map stmt_code (map (λ s. s.0) stmts)))
  in_turn_run [] g = runs-nothing shape is_body
  in_turn_run (s ∷ ss) g =
      let parts =
      good-parts (exprs_of_stmt s.0) (joined (map exprs_of_stmt (map (λ s. s.0) ss))) (targets_of_stmt s.0)
      (joined (map targets_of_stmt (map (λ s. s.0) ss))) (counts_of_stmt s.0)
      (joined (map counts_of_stmt (map (λ s. s.0) ss))) g in
      runs-both shape is_body (steps_of_stmt s.0) (total (map steps_of_stmt (map (λ s. s.0) ss))) (levels_of_stmt s.0)
      (greatest (map levels_of_stmt (map (λ s. s.0) ss))) (stmt_code s.0)
      (joined (map stmt_code (map (λ s. s.0) ss))) (s.1 parts.0) (in_turn_run ss parts.1)

  -- the code of a good body runs
  runs-body : (b : Body) → IsRunBody b
  runs-body = ind-Body IsRunStmt IsRunBody
      (λ x node is. subst (λ z. IsRunStmt (roll-Stmt z)) is (λ g.
      runs-same _ _ _ _ _ _ (sym (steps_of_stmt-roll (plain_stmt node))) (sym (levels_of_stmt-roll (plain_stmt node)))
      (sym (stmt_code-roll (plain_stmt node)))
      (stmt_runs node
      (good-same _ _ _ _ _ _ (exprs_of_stmt-roll (plain_stmt node)) (targets_of_stmt-roll (plain_stmt node))
      (counts_of_stmt-roll (plain_stmt node)) g))))
      (λ x node is. subst (λ z. IsRunBody (roll-Body z)) is (λ g.
      runs-same _ _ _ _ _ _ (sym (steps_of-roll (plain_body node))) (sym (levels_of-roll (plain_body node)))
      (sym (body_code-roll (plain_body node)))
      (in_turn_run node.stmts
      (good-same _ _ _ _ _ _ (exprs_of-roll (plain_body node)) (targets_of-roll (plain_body node))
      (counts_of-roll (plain_body node)) g))))

  -- a cell that is there may be loaded
  loads-cell : (p : Place) → IsCell shape.cells p → Fits shape (instr.Load p)
  loads-cell (Sensor k) h = absurd h
  loads-cell (Port key) h = absurd h
  loads-cell (Cell k) h = (is_body, h)

  -- a bounded body over cells that are there is good
  good-body : (b : Body) → IsBounded b → UsesCells shape.cells b → Good (exprs_of b) (targets_of b) (counts_of b)
  good-body b bounded uses = (
    each-both IsBoundedExpr (λ e. AllLoad shape (places_of e)) (exprs_of b)
        (recursion_from_All IsBoundedExpr (exprs_of b) bounded.exprs)
        (each-weaker (λ e. All (IsCell shape.cells) (places_of e)) (λ e. AllLoad shape (places_of e))
        (λ e reads. each-weaker (IsCell shape.cells) (λ p. Fits shape (instr.Load p)) loads-cell (places_of e)
        (recursion_from_All (IsCell shape.cells) (places_of e) reads))
        (exprs_of b)
        (recursion_from_All (λ e. All (IsCell shape.cells) (places_of e)) (exprs_of b) uses.reads)),
    (
      recursion_from_All (λ k. k < shape.cells) (targets_of b) uses.sets,
      recursion_from_All (λ n. n ≤ REPEAT) (counts_of b) bounded.counts,
    ),
  )

  -- so its code is lawful
  pub body_code-lawful : (b : Body) → IsBounded b → UsesCells shape.cells b → IsLawful (body_code b) shape
  body_code-lawful b bounded uses =
      let r : Runs shape is_body (steps_of b) (levels_of b) (body_code b) = runs-body b (good-body b bounded uses) in
      let end : 0 ≡ (if shape.expression then 1 else 0) = sym (ap (λ x. if x then 1 else 0) is_body) in
      checked-lawful (body_code b) shape
      (subst (Sound shape 0) (append-nil (body_code b)) (r.sound [] end))
      (subst (Counts no_count) (append-nil (body_code b))
      (r.counts.through no_count [] tt (omega (arith, r.bound, bounded.steps)) (omega (arith, bounded.levels)) tt))

-- a place that may be read may be loaded
loads-readable : (shape : CodeShape) → shape.expression ≡ true → (p : Place) → IsReadable shape p → Fits shape (instr.Load p)
loads-readable shape is_expr (Sensor k) h = (is_expr, h)
loads-readable shape is_expr (Port key) h = (is_expr, h)
loads-readable shape is_expr (Cell k) h = absurd h

-- the code of a bounded expression that reads what may be read is lawful
pub expr_code-lawful : (e : Expr) (shape : CodeShape) → IsBoundedExpr e → All (IsReadable shape) (places_of e) →
    shape.expression ≡ true → IsLawful (expr_code e) shape
expr_code-lawful e shape bounded reads is_expr =
    let p : Pushes shape (depth_of e) (nodes_of e) (expr_code e) =
    pushed shape e (each-weaker (IsReadable shape) (λ p. Fits shape (instr.Load p)) (loads-readable shape is_expr) (places_of e)
    (recursion_from_All (IsReadable shape) (places_of e) reads)) in
    let end : 1 ≡ (if shape.expression then 1 else 0) = sym (ap (λ x. if x then 1 else 0) is_expr) in
    checked-lawful (expr_code e) shape
    (subst (Sound shape 0) (append-nil (expr_code e)) (p.sound [] 0 (omega (arith, bounded.depth)) end))
    (subst (Counts no_count) (append-nil (expr_code e))
    (p.counts.through no_count [] tt (omega (arith, bounded.nodes)) (omega arith) tt))
