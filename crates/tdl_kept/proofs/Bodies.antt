-- The program of sources that break no rule keeps the bounds of its bodies.
use Rattle.std.proofs.Common.{◌≡◌, ℕ, ◌+◌, ◌<◌, ◌≤◌, List, [], ◌∷◌, ◌++◌, map, All, Bool, Some, length, ap₂, sym, ◌∙◌, subst}
use Rattle.std.specs.Prelude.{slice_get, nat_lt, IfSome}
use Rattle.std.proofs.lemmas.Bool.{ltb-false}
use Rattle.std.proofs.lemmas.List.{length-map}
use Rattle.std.proofs.lemmas.List.Elements.{All-nil, All-cons, All-head, All-same, All-weaker}
use Rattle.tdl_kept.proofs.Identifiers.{all-at}
use Rattle.tdl_base.specs.declared.limits.TheConstants.{NESTED_BLOCKS, REPEAT, STEPS}
use Rattle.tdl_body.specs.Bounds.{IsBoundedExpr, exprs_of, targets_of, counts_of, levels_of, steps_of}
use Rattle.tdl_body.specs.CellUse.{UsesCells}
use Rattle.tdl_mode.specs.declared.program.Invocation.{Invocation}
use Rattle.tdl_mode.specs.declared.program.Update.{Update}
use Rattle.tdl_mode.specs.declared.program.Switch.{Switch}
use Rattle.tdl_tree.specs.declared.activities.Act.{Act}
use Rattle.tdl_tree.specs.declared.activities.ActKind.{ActKind}
use Rattle.tdl_tree.specs.declared.declarations.Decl.TheVariants as decl
use Rattle.tdl_tree.specs.declared.declarations.PortDecl.{PortDecl}
use Rattle.tdl_tree.specs.declared.declarations.Sort.{Sort}
use Rattle.tdl_tree.specs.declared.declarations.Sort.TheVariants as sort
use Rattle.tdl_tree.specs.declared.declarations.Tree.{Tree}
use Rattle.tdl_tree.specs.declared.expressions.ExprTree.{ExprTree}
use Rattle.tdl_tree.specs.declared.names.Id.{Id}
use Rattle.tdl_tree.specs.declared.names.Time.{Time}
use Rattle.tdl_tree.specs.declared.statements.StmtTree.{StmtTree}
use Rattle.tdl_tree.specs.declared.statements.StmtTree.TheOpen.{StmtTree-F}
use Rattle.tdl_tree.specs.declared.statements.StmtTree.TheViews.{out-StmtTree}
use Rattle.tdl_rules.specs.declared.fault.Fault.{Fault}
use Rattle.tdl_rules.specs.Lists.{each, total}
use Rattle.tdl_rules.specs.Naming.{Scope}
use Rattle.tdl_rules.specs.Parts.{at_statements, in_statements, in_activities, in_expressions}
use Rattle.tdl_rules.specs.Times.{time_us}
use Rattle.tdl_rules.specs.Trees.{body_statements, expressions_of, expressions_in, activity_expressions, guard_expressions, steps}
use Rattle.tdl_rules.specs.NameRules.{c3_name, c3_target, c3_activity, c6_statement}
use Rattle.tdl_rules.specs.BoundRules.{c18_statement, c19_outermost, c20_declaration}
use Rattle.tdl_rules.specs.Faults.{faults}
use Rattle.tdl_walk.proofs.Minimum.{each-append}
use Rattle.tdl_program.specs.Bodies.{body_of}
use Rattle.tdl_program.specs.Expressions.{expression_of}
use Rattle.tdl_program.specs.Ordinals.{ports_of}
use Rattle.tdl_program.specs.Programs.{program_of, port_of}
use Rattle.tdl_program.proofs.Emptiness.{empty-parts, empty-at}
use Rattle.tdl_program.proofs.Entries.{Invokes, Updates, Switches, invocation-from, update-from, switch-from}
use Rattle.tdl_program.proofs.Faultless.{Faultless, faultless}
use Rattle.tdl_program.proofs.Meant.{no-fault}
use Rattle.tdl_program.proofs.Scopes.{scope_at, module-from, at_declaration, at_activity}
use Rattle.tdl_program.proofs.Singles.{task_of, task-from, mode_of, mode-from}
use Rattle.tdl_resolve.specs.Turns.{turns_in}
use Rattle.tdl_resolve.proofs.Turns.{turns-kept}
use Rattle.tdl_kept.specs.Bodies.{TaskBody, ModeBounds, ModuleBodies, KeepsBodies}
use Rattle.tdl_kept.proofs.BoundedExpressions.{bounded, all_bounded, guard_bounded}
use Rattle.tdl_kept.proofs.Levels.{body-levels}
use Rattle.tdl_size.proofs.Gives.{all-front, all-back}
use Rattle.tdl_size.specs.Sized.{IsSmall, IsSmallStatement, IsSmallActivity, IsSized, IsSizedBody, IsSizedDecl}
use Rattle.tdl_kept.proofs.OwnCells.{inside, cells, ReadsOwn, MaySet, expression-own, target-own}
use Rattle.tdl_kept.proofs.StatementLists.{all-each}
use Rattle.tdl_kept.proofs.BodyParts.{body-exprs, body-targets, target_at, body-counts, count_at, body-steps}

-- ---- the body of a task

module _ (sources : List Tree) (none : faults sources ≡ []) (k : ℕ) (tree : Tree)
    (source : slice_get sources k ≡ Some tree) (j : ℕ) (public : Bool) (name : Id) (worst : Time)
    (ports : List PortDecl)
    (body : List StmtTree) (declared : slice_get tree.decls j ≡ Some (decl.Task public name worst ports body))
    (sized : IsSizedBody body) where
  -- the rules that are kept
  abbrev good : Faultless sources
  good = faultless sources none

  -- where the task stands, and its body
  abbrev outside : Scope
  outside = scope_at sources k tree

  abbrev own : Scope
  own = inside outside ports

  -- a rule that is kept is kept at each statement
  kept-at : (f : Scope → StmtTree-F StmtTree → List Fault) → in_statements f sources ≡ [] → (n : ℕ) (s : StmtTree) →
      slice_get (body_statements body) n ≡ Some s → f own (out-StmtTree s) ≡ []
  kept-at f kept n s at =
      empty-at (λ (s : StmtTree). f own (out-StmtTree s)) (body_statements body) n s
      (at_declaration (at_statements (λ scope statement. f scope (out-StmtTree statement))) sources k tree j
      (decl.Task public name worst ports body) kept source declared) at

  -- expressions read cells of the task alone
  all-own : (es : List ExprTree) → All (ReadsOwn outside ports) (map (expression_of own) es)
  all-own [] = All-nil (ReadsOwn outside ports)
  all-own (e ∷ es) =
      All-cons (ReadsOwn outside ports) (expression_of own e) (map (expression_of own) es)
      (expression-own outside ports e) (all-own es)

  reads : All (ReadsOwn outside ports) (exprs_of (body_of outside ports body))
  reads =
      All-same (ReadsOwn outside ports) _ _ (body-exprs own body)
      (all-each (ReadsOwn outside ports) (λ (s : StmtTree). map (expression_of own) (expressions_of (out-StmtTree s)))
      (body_statements body) (λ n s at. all-own (expressions_of (out-StmtTree s))))

  -- they are bounded
  depths-kept : in_statements (λ scope statement. each (c19_outermost scope) (expressions_of statement)) sources ≡ []
  depths-kept =
      (empty-parts (in_statements (λ scope statement. each (c19_outermost scope) (expressions_of statement)) sources)
      (in_activities (λ scope period activity. each (c19_outermost scope) (activity_expressions activity)) sources)
      good.depths).0

  exprs : All IsBoundedExpr (exprs_of (body_of outside ports body))
  exprs =
      All-same IsBoundedExpr _ _ (body-exprs own body)
      (all-each IsBoundedExpr (λ (s : StmtTree). map (expression_of own) (expressions_of (out-StmtTree s)))
      (body_statements body) (λ n s at. all_bounded own (expressions_of (out-StmtTree s))
      (kept-at (λ scope statement. each (c19_outermost scope) (expressions_of statement)) depths-kept n s at)
      (all-at IsSmallStatement (body_statements body) n s sized.statements at)))

  -- few blocks stand in one another
  few_levels : levels_of (body_of outside ports body) ≤ NESTED_BLOCKS
  few_levels = subst (λ n. n ≤ NESTED_BLOCKS) (sym (body-levels own body)) sized.levels

  -- targets are cells of outputs and locals
  layer-sets : (layer : StmtTree-F StmtTree) → c3_target own layer ≡ [] → c6_statement own layer ≡ [] →
      All (MaySet outside ports) (target_at own layer)
  layer-sets (StmtTree-F.Assign x value) there lawful =
      All-cons (MaySet outside ports) _ [] (target-own outside ports x there (no-fault _ _ lawful))
      (All-nil (MaySet outside ports))
  layer-sets (StmtTree-F.If test first other) there lawful = All-nil (MaySet outside ports)
  layer-sets (StmtTree-F.Repeat count block) there lawful = All-nil (MaySet outside ports)

  targets-kept : in_statements c3_target sources ≡ []
  targets-kept =
      (empty-parts (in_expressions c3_name sources) (in_statements c3_target sources)
      (empty-parts (in_expressions c3_name sources ++ in_statements c3_target sources)
      (in_activities c3_activity sources) good.names).0).1

  sets : All (MaySet outside ports) (targets_of (body_of outside ports body))
  sets =
      All-same (MaySet outside ports) _ _ (body-targets own body)
      (all-each (MaySet outside ports) (λ (s : StmtTree). target_at own (out-StmtTree s)) (body_statements body)
      (λ n s at. layer-sets (out-StmtTree s) (kept-at c3_target targets-kept n s at)
      (kept-at c6_statement good.assignments n s at)))

  -- no `repeat` takes too many turns
  layer-turns : (layer : StmtTree-F StmtTree) → turns_in layer ≤ REPEAT → All (λ n. n ≤ REPEAT) (count_at layer)
  layer-turns (StmtTree-F.Repeat count block) few =
      All-cons (λ n. n ≤ REPEAT) count.value [] few (All-nil (λ n. n ≤ REPEAT))
  layer-turns (StmtTree-F.Assign x value) few = All-nil (λ n. n ≤ REPEAT)
  layer-turns (StmtTree-F.If test first other) few = All-nil (λ n. n ≤ REPEAT)

  turns : All (λ n. n ≤ REPEAT) (counts_of (body_of outside ports body))
  turns =
      let keeps = turns-kept own body
      (at_declaration (at_statements (λ scope statement. c18_statement scope (out-StmtTree statement))) sources k tree j
      (decl.Task public name worst ports body) good.turns source declared) in
      All-same (λ n. n ≤ REPEAT) _ _ (body-counts own body)
      (all-each (λ n. n ≤ REPEAT) (λ (s : StmtTree). count_at (out-StmtTree s)) (body_statements body)
      (λ n s at. layer-turns (out-StmtTree s) (keeps n s at)))

  -- there are not too many steps
  few_steps : steps_of (body_of outside ports body) ≤ STEPS
  few_steps =
      subst (λ n. n ≤ STEPS) (sym (body-steps own body))
      (ltb-false STEPS (total (map steps body)) (no-fault (nat_lt STEPS (total (map steps body))) _
      (at_declaration c20_declaration sources k tree j (decl.Task public name worst ports body) good.steps source
      declared)))

  -- the ports of a sort, as the task has them
  as_many : (s : Sort) → length (map port_of (ports_of s ports)) ≡ length (ports_of s ports)
  as_many s = length-map (ports_of s ports) port_of

  all_cells : length (map port_of (ports_of sort.Input ports)) + length (map port_of (ports_of sort.Output ports))
      + length (map port_of (ports_of sort.Local ports)) ≡ cells ports
  all_cells =
      ap₂ (λ m n. m + n) (ap₂ (λ m n. m + n) (as_many sort.Input) (as_many sort.Output)) (as_many sort.Local)

  -- the task keeps its bounds
  pub task_body : TaskBody (task_of outside public name worst ports body)
  task_body = record {
    cells = subst (λ n. UsesCells n (body_of outside ports body)) (sym all_cells) (record {
      reads = reads;
      sets = All-weaker (MaySet outside ports) (λ c. c < cells ports) (λ c may. may.1)
          (targets_of (body_of outside ports body)) sets;
    });
    targets = subst (λ n. All (λ c. n ≤ c) (targets_of (body_of outside ports body))) (sym (as_many sort.Input))
        (All-weaker (MaySet outside ports) (λ c. length (ports_of sort.Input ports) ≤ c) (λ c may. may.0)
        (targets_of (body_of outside ports body)) sets);
    bounds = record { exprs = exprs; levels = few_levels; counts = turns; steps = few_steps };
  }

-- ---- what a mode evaluates

module _ (sources : List Tree) (none : faults sources ≡ []) (k : ℕ) (tree : Tree)
    (source : slice_get sources k ≡ Some tree) (j : ℕ) (start : Bool) (name : Id) (period : Time) (acts : List Act)
    (declared : slice_get tree.decls j ≡ Some (decl.Mode start name period acts))
    (sized : All IsSmallActivity acts) where
  -- where the mode stands
  abbrev home : Scope
  home = scope_at sources k tree

  -- the rule is kept in each activity
  activities-kept : in_activities (λ scope period activity. each (c19_outermost scope)
      (activity_expressions activity)) sources ≡ []
  activities-kept =
      (empty-parts (in_statements (λ scope statement. each (c19_outermost scope) (expressions_of statement)) sources)
      (in_activities (λ scope period activity. each (c19_outermost scope) (activity_expressions activity)) sources)
      (faultless sources none).depths).1

  small : (n : ℕ) (activity : Act) → slice_get acts n ≡ Some activity →
      All IsSmall (expressions_in activity.what) × All IsSmall (guard_expressions activity.guard)
  small n activity at =
      let own = all-at IsSmallActivity acts n activity sized at in (
        all-front IsSmall (expressions_in activity.what) (guard_expressions activity.guard) own,
        all-back IsSmall (expressions_in activity.what) (guard_expressions activity.guard) own,
      )

  activity-kept : (n : ℕ) (activity : Act) → slice_get acts n ≡ Some activity →
      (each (c19_outermost home) (expressions_in activity.what) ≡ [])
      × (each (c19_outermost home) (guard_expressions activity.guard) ≡ [])
  activity-kept n activity at =
      empty-parts (each (c19_outermost home) (expressions_in activity.what))
      (each (c19_outermost home) (guard_expressions activity.guard))
      (sym (each-append (c19_outermost home) (expressions_in activity.what) (guard_expressions activity.guard))
      ∙ at_activity (λ scope period activity. each (c19_outermost scope)
      (activity_expressions activity)) sources k tree j
      period acts n activity activities-kept
      (record { start = start; name = name; source = source; declared = declared }) at)

  -- an invocation
  invocation-bounded : (i : Invocation) → Invokes home (time_us period) acts i →
      IfSome i.guard IsBoundedExpr × All IsBoundedExpr i.args
  invocation-bounded i a =
      let kept = activity-kept i.act a.activity a.at in
      let few = small i.act a.activity a.at in
      subst (λ (i : Invocation). IfSome i.guard IsBoundedExpr × All IsBoundedExpr i.args) a.is (
        guard_bounded home a.activity.guard kept.1 few.1,
        all_bounded home a.args
            (subst (λ (what : ActKind). each (c19_outermost home) (expressions_in what) ≡ []) a.what kept.0)
            (subst (λ (what : ActKind). All IsSmall (expressions_in what)) a.what few.0),
      )

  -- an update
  update-bounded : (u : Update) → Updates home (time_us period) acts u →
      IfSome u.guard IsBoundedExpr × IsBoundedExpr u.value
  update-bounded u a =
      let kept = activity-kept u.act a.activity a.at in
      let few = small u.act a.activity a.at in
      let value = subst (λ (what : ActKind). each (c19_outermost home) (expressions_in what) ≡ []) a.what kept.0 in
      subst (λ (u : Update). IfSome u.guard IsBoundedExpr × IsBoundedExpr u.value) a.is (
        guard_bounded home a.activity.guard kept.1 few.1,
        bounded home a.value (empty-parts (c19_outermost home a.value) [] value).0
            (All-head IsSmall a.value []
            (subst (λ (what : ActKind). All IsSmall (expressions_in what)) a.what few.0)),
      )

  -- a switch
  switch-bounded : (w : Switch) → Switches home (time_us period) acts w → IfSome w.guard IsBoundedExpr
  switch-bounded w a =
      subst (λ (w : Switch). IfSome w.guard IsBoundedExpr) a.is
      (guard_bounded home a.activity.guard (activity-kept w.act a.activity a.at).1 (small w.act a.activity a.at).1)

  -- the mode
  pub mode_bounds : ModeBounds (mode_of home name period acts)
  mode_bounds = record {
    invocations = λ q i at. invocation-bounded i (invocation-from home (time_us period) acts q i at);
    updates = λ q u at. update-bounded u (update-from home (time_us period) acts q u at);
    switches = λ q w at. switch-bounded w (switch-from home (time_us period) acts q w at);
  }

-- sources within the limits that break no rule say a program that keeps the bounds of its bodies
pub keeps_bodies : (sources : List Tree) → faults sources ≡ [] → All IsSized sources → KeepsBodies (program_of sources)
keeps_bodies sources none all = record {
  modules = λ k m at.
      let f = module-from sources k m at in
      let sized = all-at IsSized sources k f.tree all f.at in
      subst ModuleBodies f.is (record {
        tasks = λ n task at'.
            let t = task-from (scope_at sources k f.tree) f.tree.decls n task at' in
            let own = all-at IsSizedDecl f.tree.decls t.place (decl.Task t.public t.name t.worst t.ports t.body)
            sized.decls t.at in
            subst TaskBody t.is
            (task_body sources none k f.tree f.at t.place t.public t.name t.worst t.ports t.body t.at own.2);
        modes = λ n mode at'.
            let d = mode-from (scope_at sources k f.tree) f.tree.decls n mode at' in
            let own = all-at IsSizedDecl f.tree.decls d.place (decl.Mode d.start d.name d.period d.acts)
            sized.decls d.at in
            subst ModeBounds d.is
            (mode_bounds sources none k f.tree f.at d.place d.start d.name d.period d.acts d.at own.1);
      });
}
