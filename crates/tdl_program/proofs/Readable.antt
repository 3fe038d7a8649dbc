-- An expression outside bodies reads what its module may read.
use Rattle.std.proofs.Common.{◌≡◌, ◌⊎◌, inl, inr, ℕ, ◌<◌, List, [], ◌∷◌, ◌++◌, map, filter, length, Bool, true, Option, Some, None, refl, ap, ap₂, sym, ◌∙◌, subst, ◌==◌, unwrap_or}
use Rattle.std.specs.Prelude.{slice_get, option_map}
use Rattle.std.proofs.lemmas.List.{length-map}
use Rattle.std.proofs.lemmas.Option.{slice_get-map}
use Rattle.tdl_base.specs.declared.kinds.Kind.{Kind}
use Rattle.tdl_base.specs.declared.numbers.ModuleId.{ModuleId}
use Rattle.tdl_base.specs.declared.numbers.Place.{Place}
use Rattle.tdl_base.specs.declared.numbers.Place.TheVariants as place
use Rattle.tdl_base.specs.declared.numbers.PortKey.{PortKey}
use Rattle.tdl_base.proofs.Finding.{passing-any}
use Rattle.tdl_base.proofs.Tests.{eq_self}
use Rattle.tdl_body.specs.declared.tree.Expr.{Expr}
use Rattle.tdl_body.specs.declared.tree.Expr.TheVariants as expr
use Rattle.tdl_body.specs.Places.{places_of}
use Rattle.tdl_mode.specs.declared.program.Module.{Module}
use Rattle.tdl_mode.specs.Imports.{is_among}
use Rattle.tdl_mode.specs.WellFormed.{ReadsPort, MayRead, AllRead, Readable, GuardReadable, AllReadable}
use Rattle.tdl_tree.specs.declared.declarations.Decl.{Decl}
use Rattle.tdl_tree.specs.declared.declarations.Decl.TheVariants as decl
use Rattle.tdl_tree.specs.declared.declarations.PortDecl.{PortDecl}
use Rattle.tdl_tree.specs.declared.declarations.Sort.TheVariants as sort
use Rattle.tdl_tree.specs.declared.declarations.Tree.{Tree}
use Rattle.tdl_tree.specs.declared.expressions.ExprNode.TheFolds.{ind-ExprTree, map-ExprNode, map-ExprTree}
use Rattle.tdl_tree.specs.declared.expressions.ExprNode.TheOpen.{ExprTree-F, ExprNode-F}
use Rattle.tdl_tree.specs.declared.expressions.ExprNode.TheViews.{roll-ExprNode, roll-ExprTree}
use Rattle.tdl_tree.specs.declared.expressions.ExprNode.{ExprNode}
use Rattle.tdl_tree.specs.declared.expressions.ExprTree.{ExprTree}
use Rattle.tdl_tree.specs.declared.names.Id.{Id}
use Rattle.tdl_rules.specs.declared.found.Found.{Found}
use Rattle.tdl_rules.specs.declared.found.Found.TheVariants.{Is, Lost, Unknown}
use Rattle.tdl_rules.specs.declared.found.Target.{Target}
use Rattle.tdl_rules.specs.declared.found.Target.TheVariants as target
use Rattle.tdl_rules.specs.Lists.{each}
use Rattle.tdl_rules.specs.Naming.{Scope, exporter, ports_in}
use Rattle.tdl_rules.specs.Meanings.{found}
use Rattle.tdl_program.specs.Ordinals.{ordinal, is_task, is_sort, ports_of, port_ordinal, declarations_of, ports_at}
use Rattle.tdl_program.specs.Expressions.{output_key, target_of, name_read, node_of, expression_of, guard_of}
use Rattle.tdl_program.specs.Programs.{program_of, module_of, import_of, port_of, tasks_in}
use Rattle.tdl_program.proofs.Counting.{ordinal_within}
use Rattle.tdl_program.proofs.Scopes.{scope_at, module-at}
use Rattle.tdl_program.proofs.Singles.{sensor-within, task_of, task-at}
use Rattle.tdl_program.proofs.Equations.{expression_in, expression_in-roll, expression_of-roll, places_of-const, places_of-load, places_of-un, places_of-bin}
use Rattle.tdl_program.proofs.Reaching.{Imports, HasTask, HasOutput, Reaches, ReachesFound, found-reaches}

module _ (sources : List Tree) (k : ℕ) (tree : Tree) (source : slice_get sources k ≡ Some tree) where
  abbrev scope : Scope
  scope = scope_at sources k tree

  -- module k may read what an expression reads
  abbrev pub IsReadable : Expr → Type 0
  IsReadable e = Readable (program_of sources) k (module_of scope) e

  -- a constant reads nothing
  const-reads : (v : _) → IsReadable (expr.Const v)
  const-reads v = subst (AllRead (program_of sources) k (module_of scope)) (sym (places_of-const v)) tt

  -- what is read at a place that may be read
  load-reads : (p : Place) → MayRead (program_of sources) k (module_of scope) p → IsReadable (expr.Load p)
  load-reads p may = subst (AllRead (program_of sources) k (module_of scope)) (sym (places_of-load p)) (may, tt)

  -- two lists of places that may be read
  both-read : (ps qs : List Place) → AllRead (program_of sources) k (module_of scope) ps →
      AllRead (program_of sources) k (module_of scope) qs → AllRead (program_of sources) k (module_of scope) (ps ++ qs)
  both-read [] qs h more = more
  both-read (p ∷ ps) qs h more = (h.0, both-read ps qs h.1 more)

  -- an import of source m is among those of the module
  imported : (m : ℕ) (home : Tree) → Imports sources k tree source m home →
      is_among m (map (import_of scope) tree.imports) ≡ true
  imported m home i =
      passing-any (λ (id : ModuleId). id.0 == m) (map (import_of scope) tree.imports) i.place (import_of scope i.id)
      (slice_get-map (import_of scope) tree.imports i.place ∙ ap (option_map (import_of scope)) i.at)
      (ap (λ o. unwrap_or (option_map (λ source. source.0) o) 0 == m) i.is ∙ eq_self m)

  -- an output that is reached is one that the module may read
  output-reads : (m t j : ℕ) → HasOutput sources k tree source m t j →
      ReadsPort (program_of sources) k (module_of scope) (output_key scope m t j)
  output-reads m t j o =
      let decls : declarations_of sources m ≡ o.task.home.decls =
      ap (λ s. unwrap_or (option_map (λ (tree : Tree). tree.decls) s) []) o.task.there in
      let ports : ports_at sources m t ≡ o.ports =
      ap (λ ds. unwrap_or (option_map ports_in (slice_get ds t)) []) decls
      ∙ ap (λ d. unwrap_or (option_map ports_in d) []) o.task.at in
      let there = task-at (scope_at sources m o.task.home) o.task.home.decls t o.task.public o.task.name o.task.worst
      o.ports o.task.body o.task.at in
      record {
        exporter = module_of (scope_at sources m o.task.home);
        task = task_of (scope_at sources m o.task.home) o.task.public o.task.name o.task.worst o.ports o.task.body;
        there = module-at sources m o.task.home o.task.there;
        at = ap (λ ds. slice_get (each (tasks_in (scope_at sources m o.task.home)) o.task.home.decls) (ordinal is_task ds t))
            decls ∙ there;
        output = subst (λ n. port_ordinal sort.Output (ports_at sources m t) j < n)
            (sym (length-map (ports_of sort.Output o.ports) port_of))
            (subst (λ ps. port_ordinal sort.Output ps j < length (ports_of sort.Output o.ports)) (sym ports)
            (ordinal_within (λ (port : PortDecl). is_sort sort.Output port.sort) o.ports j o.port o.at o.output));
        allowed = elim o.task.allowed [
          | inl own ↦ inl own
          | inr far ↦ inr (imported m o.task.home far.0, far.1)
        ];
      }

  -- what is reached may be read
  target-reads : (kind : Kind) (t : Target) → Reaches sources k tree source t → IsReadable (target_of scope kind t)
  target-reads kind (target.Port j) r = absurd r
  target-reads kind (target.Fixed literal) r = const-reads _
  target-reads kind (target.Sensor j) r = load-reads _ (sensor-within tree.decls j r.0 r.1 r.2)
  target-reads kind (target.Output m t j) r = load-reads _ (output-reads m t j r)

  -- so may what is found, where something is
  name-reads : (f : Found) → ReachesFound sources k tree source f → IsReadable (name_read scope f)
  name-reads (Is kind t) r = target-reads kind t r
  name-reads (Lost rule at) r = const-reads _
  name-reads Unknown r = const-reads _

  -- ---- any expression

  -- what the node says may be read
  abbrev NodeReads : ExprNode → Type 0
  NodeReads node = IsReadable (expression_in scope node)

  -- what the tree says may be read
  abbrev TreeReads : ExprTree → Type 0
  TreeReads e = IsReadable (expression_of scope e)

  -- a node and a tree of which this is known
  abbrev KnownNode : Type 0
  KnownNode = (node : ExprNode) × NodeReads node

  abbrev KnownTree : Type 0
  KnownTree = (e : ExprTree) × TreeReads e

  -- the node with its operands as trees
  abbrev plain : ExprNode-F KnownNode KnownTree → ExprNode-F ExprNode ExprTree
  plain node = map-ExprNode KnownNode KnownTree ExprNode ExprTree (λ e. e.0) (λ e. e.0) node

  -- a node whose operands may be read
  node-reads : (node : ExprNode-F KnownNode KnownTree) →
      IsReadable (node_of scope
      (map-ExprNode ExprNode ExprTree Expr Expr (expression_in scope) (expression_of scope) (plain node)))
  node-reads (ExprNode-F.Number n) = const-reads _
  node-reads (ExprNode-F.Truth b) = const-reads _
  node-reads (ExprNode-F.Name parts) = name-reads (found scope parts) (found-reaches sources k tree source parts)
  node-reads (ExprNode-F.Un op a) =
      subst (AllRead (program_of sources) k (module_of scope)) (sym (places_of-un op (expression_of scope a.0))) a.1
  node-reads (ExprNode-F.Bin op a b) =
      subst (AllRead (program_of sources) k (module_of scope))
      (sym (places_of-bin op (expression_of scope a.0) (expression_of scope b.0)))
      (both-read (places_of (expression_of scope a.0)) (places_of (expression_of scope b.0)) a.1 b.1)

  -- whatever a tree says may be read
  pub expression-reads : (e : ExprTree) → TreeReads e
  expression-reads = ind-ExprTree NodeReads TreeReads (λ x node is.
      subst (λ z. NodeReads (roll-ExprNode z)) is
      (subst IsReadable (sym (expression_in-roll scope (plain node))) (node-reads node)))
      (λ x t is.
      subst (λ z. TreeReads (roll-ExprTree z)) is
      (subst IsReadable (sym (expression_of-roll scope
      (map-ExprTree KnownNode KnownTree ExprNode ExprTree (λ e. e.0) (λ e. e.0) t))) t.node.1))

  -- whatever a guard says may be read
  pub guard-reads : (guard : Option ExprTree) →
      GuardReadable (program_of sources) k (module_of scope) (guard_of scope guard)
  guard-reads None = tt
  guard-reads (Some e) = expression-reads e

  -- whatever arguments say may be read
  pub arguments-read : (args : List ExprTree) →
      AllReadable (program_of sources) k (module_of scope) (map (expression_of scope) args)
  arguments-read [] = tt
  arguments-read (e ∷ es) = (expression-reads e, arguments-read es)
