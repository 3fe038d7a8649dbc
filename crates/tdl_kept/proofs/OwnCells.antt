-- A body reads the cells of its own task alone, and sets none of an input.
use Rattle.std.proofs.Common.{◌≡◌, ℕ, ◌+◌, ◌<◌, ◌≤◌, List, [], ◌∷◌, All, true, false, Option, Some, None, length, refl, ap, sym, ◌∙◌, subst, arith}
use Rattle.std.specs.Prelude.{slice_get, option_map, unwrap_or}
use Rattle.std.proofs.lemmas.List.Elements.{All-nil, All-cons, All-append, All-same}
use Rattle.tdl_base.specs.declared.numbers.Place.TheVariants as place
use Rattle.tdl_body.specs.declared.tree.Expr.{Expr}
use Rattle.tdl_body.specs.declared.tree.Expr.TheVariants as expr
use Rattle.tdl_body.specs.CellUse.{IsCell}
use Rattle.tdl_body.specs.Places.{places_of}
use Rattle.tdl_tree.specs.declared.declarations.Decl.TheVariants as decl
use Rattle.tdl_tree.specs.declared.declarations.PortDecl.{PortDecl}
use Rattle.tdl_tree.specs.declared.declarations.Sort.{Sort}
use Rattle.tdl_tree.specs.declared.declarations.Sort.TheVariants as sort
use Rattle.tdl_tree.specs.declared.declarations.Tree.{Tree}
use Rattle.tdl_tree.specs.declared.expressions.ExprNode.TheFolds.{ind-ExprTree, map-ExprNode, map-ExprTree}
use Rattle.tdl_tree.specs.declared.expressions.ExprNode.TheOpen.{ExprNode-F}
use Rattle.tdl_tree.specs.declared.expressions.ExprNode.TheViews.{roll-ExprNode, roll-ExprTree}
use Rattle.tdl_tree.specs.declared.expressions.ExprNode.{ExprNode}
use Rattle.tdl_tree.specs.declared.expressions.ExprTree.{ExprTree}
use Rattle.tdl_tree.specs.declared.names.Id.{Id}
use Rattle.tdl_rules.specs.declared.found.Found.{Found}
use Rattle.tdl_rules.specs.declared.found.Found.TheVariants.{Is, Lost, Unknown}
use Rattle.tdl_rules.specs.declared.found.Target.TheVariants as target
use Rattle.tdl_rules.specs.Meanings.{found, in_module, port_before, public_constant, constant_of, find_two, through, find_three}
use Rattle.tdl_rules.specs.NameRules.{lost_at, no_target, port_is_input}
use Rattle.tdl_rules.specs.Naming.{Scope, Meaning, Imported, Says, meant, port_named, exporter, is_input}
use Rattle.tdl_program.specs.Bodies.{cell_named}
use Rattle.tdl_program.specs.Ordinals.{is_sort, ports_of, cell_at, cell_of}
use Rattle.tdl_program.specs.Expressions.{name_read, node_of, expression_of}
use Rattle.tdl_program.proofs.Counting.{ordinal_within}
use Rattle.tdl_program.proofs.Equations.{expression_in, expression_in-roll, expression_of-roll, places_of-const, places_of-load, places_of-un, places_of-bin}
use Rattle.tdl_program.proofs.Looking.{port_named-at}

-- ---- cells of ports

-- how many ports there are, by their sorts
abbrev pub cells : List PortDecl → ℕ
cells ports = length (ports_of sort.Input ports) + length (ports_of sort.Output ports) + length
    (ports_of sort.Local ports)

-- the cell of a port is one of its task
cell-within : (ports : List PortDecl) (k : ℕ) (port : PortDecl) → slice_get ports k ≡ Some port →
    cell_of ports k < cells ports
cell-within ports k port at =
    subst (λ o. unwrap_or (option_map (λ (port : PortDecl). cell_at ports k port.sort) o) 0 < cells ports) (sym at)
    (of_sort port.sort refl)
  where
    of_sort : (s : Sort) → port.sort ≡ s → cell_at ports k s < cells ports
    of_sort sort.Input e =
        let r = ordinal_within (λ (port : PortDecl). is_sort sort.Input port.sort) ports k port at (ap
        (is_sort sort.Input) e) in
        omega (arith, r)
    of_sort sort.Output e =
        let r = ordinal_within (λ (port : PortDecl). is_sort sort.Output port.sort) ports k port at (ap
        (is_sort sort.Output) e) in
        omega (arith, r)
    of_sort sort.Local e =
        let r = ordinal_within (λ (port : PortDecl). is_sort sort.Local port.sort) ports k port at (ap
        (is_sort sort.Local) e) in
        omega (arith, r)

-- that of a port that is no input stands after those of inputs
cell-after : (ports : List PortDecl) (k : ℕ) (port : PortDecl) → slice_get ports k ≡ Some port →
    is_input port ≡ false → length (ports_of sort.Input ports) ≤ cell_of ports k
cell-after ports k port at other =
    subst (λ o. length (ports_of sort.Input ports)
    ≤ unwrap_or (option_map (λ (port : PortDecl). cell_at ports k port.sort) o) 0) (sym at)
    (of_sort port.sort refl)
  where
    of_sort : (s : Sort) → port.sort ≡ s → length (ports_of sort.Input ports) ≤ cell_at ports k s
    of_sort sort.Input e = absurd (by_sort port.sort e other)
      where
        by_sort : (s : Sort) → s ≡ sort.Input → is_input (record port { sort = s }) ≡ false → ⊥
        by_sort sort.Input e other = cc other
        by_sort sort.Output e other = cc e
        by_sort sort.Local e other = cc e
    of_sort sort.Output e = omega arith
    of_sort sort.Local e = omega arith

-- ---- what an expression of a body reads

module _ (outside : Scope) (ports : List PortDecl) where
  -- the scope of the body
  abbrev pub inside : Scope
  inside = record outside { body = Some ports }

  -- what is found is a port of the task or a constant, where something is
  abbrev IsOwn : Found → Type 0
  IsOwn (Is kind (target.Port k)) = cell_of ports k < cells ports
  IsOwn (Is kind (target.Fixed literal)) = Unit {0}
  IsOwn (Is kind (target.Sensor k)) = ⊥
  IsOwn (Is kind (target.Output m k j)) = ⊥
  IsOwn (Lost rule at) = Unit {0}
  IsOwn Unknown = Unit {0}

  -- a name of the module
  module-own : (x : Id) (m : Option Meaning) → IsOwn (in_module true x m)
  module-own x None = tt
  module-own x (Some Imported) = tt
  module-own x (Some (Says k (decl.Const public kind name value))) = tt
  module-own x (Some (Says k (decl.Sensor kind name))) = tt
  module-own x (Some (Says k (decl.Actuator kind name initial))) = tt
  module-own x (Some (Says k (decl.Task public name worst ports' body))) = tt
  module-own x (Some (Says k (decl.Mode start name period acts))) = tt

  -- a name of one part
  one-own : (x : Id) → IsOwn (found inside (x ∷ []))
  one-own x = by_port (port_named ports x.text) refl
    where
      by_port : (o : Option (ℕ × PortDecl)) → port_named ports x.text ≡ o →
          IsOwn (port_before (in_module true x (meant outside.tree x.text)) o)
      by_port None e = module-own x (meant outside.tree x.text)
      by_port (Some p) e = cell-within ports p.0 p.1 (port_named-at ports x.text p.0 p.1 e)

  -- a name of an imported module
  public-own : (y : Id) (m : Option Meaning) → IsOwn (public_constant y m)
  public-own y None = tt
  public-own y (Some Imported) = tt
  public-own y (Some (Says k (decl.Const true kind name value))) = tt
  public-own y (Some (Says k (decl.Const false kind name value))) = tt
  public-own y (Some (Says k (decl.Sensor kind name))) = tt
  public-own y (Some (Says k (decl.Actuator kind name initial))) = tt
  public-own y (Some (Says k (decl.Task public name worst ports' body))) = tt
  public-own y (Some (Says k (decl.Mode start name period acts))) = tt

  -- a constant of an imported module
  constant-own : (y : Id) (source : Option (ℕ × Tree)) → IsOwn (constant_of y source)
  constant-own y None = tt
  constant-own y (Some source) = public-own y (meant source.1 y.text)

  -- a name of two parts
  two-own : (x y : Id) (m : Option Meaning) → IsOwn (find_two inside (Some ports) x y m)
  two-own x y (Some Imported) = constant-own y (exporter inside x.text)
  two-own x y None = tt
  two-own x y (Some (Says k d)) = tt

  -- a name of three parts
  three-own : (x y z : Id) (m : Option Meaning) → IsOwn (find_three inside (Some ports) x y z m)
  three-own x y z (Some Imported) = by_source (exporter inside x.text)
    where
      by_source : (source : Option (ℕ × Tree)) → IsOwn (through (Some ports) x y z source)
      by_source None = tt
      by_source (Some source) = tt
  three-own x y z None = tt
  three-own x y z (Some (Says k d)) = tt

  -- any name
  found-own : (parts : List Id) → IsOwn (found inside parts)
  found-own [] = tt
  found-own (x ∷ []) = one-own x
  found-own (x ∷ y ∷ []) = two-own x y (meant outside.tree x.text)
  found-own (x ∷ y ∷ z ∷ []) = three-own x y z (meant outside.tree x.text)
  found-own (x ∷ y ∷ z ∷ w ∷ more) = tt

  -- an expression reads cells of the task alone
  abbrev pub ReadsOwn : Expr → Type 0
  ReadsOwn e = All (IsCell (cells ports)) (places_of e)

  -- a constant reads nothing
  const-own : (v : _) → ReadsOwn (expr.Const v)
  const-own v = All-same (IsCell (cells ports)) _ [] (places_of-const v) (All-nil (IsCell (cells ports)))

  -- what is found reads its cell
  read-own : (f : Found) → IsOwn f → ReadsOwn (name_read inside f)
  read-own (Is kind (target.Port k)) own =
      All-same (IsCell (cells ports)) _ _ (places_of-load (place.Cell (cell_of ports k)))
      (All-cons (IsCell (cells ports)) (place.Cell (cell_of ports k)) [] own (All-nil (IsCell (cells ports))))
  read-own (Is kind (target.Fixed literal)) own = const-own _
  read-own (Is kind (target.Sensor k)) own = absurd own
  read-own (Is kind (target.Output m k j)) own = absurd own
  read-own (Lost rule at) own = const-own _
  read-own Unknown own = const-own _

  -- so does what the node says
  abbrev NodeOwn : ExprNode → Type 0
  NodeOwn node = ReadsOwn (expression_in inside node)

  -- and what the tree says
  abbrev TreeOwn : ExprTree → Type 0
  TreeOwn e = ReadsOwn (expression_of inside e)

  -- a node and a tree of which this is known
  abbrev KnownNode : Type 0
  KnownNode = (node : ExprNode) × NodeOwn node

  abbrev KnownTree : Type 0
  KnownTree = (e : ExprTree) × TreeOwn e

  -- the node with its operands as trees
  abbrev plain : ExprNode-F KnownNode KnownTree → ExprNode-F ExprNode ExprTree
  plain node = map-ExprNode KnownNode KnownTree ExprNode ExprTree (λ e. e.0) (λ e. e.0) node

  -- a node whose operands do
  node-own : (node : ExprNode-F KnownNode KnownTree) →
      ReadsOwn (node_of inside
      (map-ExprNode ExprNode ExprTree Expr Expr (expression_in inside) (expression_of inside) (plain node)))
  node-own (ExprNode-F.Number n) = const-own _
  node-own (ExprNode-F.Truth b) = const-own _
  node-own (ExprNode-F.Name parts) = read-own (found inside parts) (found-own parts)
  node-own (ExprNode-F.Un op a) =
      All-same (IsCell (cells ports)) _ _ (places_of-un op (expression_of inside a.0)) a.1
  node-own (ExprNode-F.Bin op a b) =
      All-same (IsCell (cells ports)) _ _ (places_of-bin op (expression_of inside a.0) (expression_of inside b.0))
      (All-append (IsCell (cells ports)) (places_of (expression_of inside a.0)) (places_of
      (expression_of inside b.0)) a.1 b.1)

  -- whatever a tree says reads cells of the task alone
  pub expression-own : (e : ExprTree) → TreeOwn e
  expression-own = ind-ExprTree NodeOwn TreeOwn (λ x node is.
      subst (λ z. NodeOwn (roll-ExprNode z)) is
      (subst ReadsOwn (sym (expression_in-roll inside (plain node))) (node-own node)))
      (λ x t is.
      subst (λ z. TreeOwn (roll-ExprTree z)) is
      (subst ReadsOwn (sym (expression_of-roll inside
      (map-ExprTree KnownNode KnownTree ExprNode ExprTree (λ e. e.0) (λ e. e.0) t))) t.node.1))

  -- ---- what a statement sets

  -- a cell that a statement may set: one of the task's, and none of an input
  abbrev pub MaySet : ℕ → Type 0
  MaySet cell = (length (ports_of sort.Input ports) ≤ cell) × (cell < cells ports)

  -- where a target breaks no rule, it is such a cell
  pub target-own : (x : Id) → lost_at outside.file (found inside (x ∷ [])) ≡ [] →
      no_target (Some ports) (found inside (x ∷ [])) ≡ false → MaySet (cell_named ports x)
  target-own x there lawful = by_port (port_named ports x.text) refl there lawful
    where
      none : (m : Option Meaning) → lost_at outside.file (in_module true x m) ≡ [] →
          no_target (Some ports) (in_module true x m) ≡ false → ⊥
      none None there lawful = cc there
      none (Some Imported) there lawful = cc there
      none (Some (Says k (decl.Const public kind name value))) there lawful = cc lawful
      none (Some (Says k (decl.Sensor kind name))) there lawful = cc there
      none (Some (Says k (decl.Actuator kind name initial))) there lawful = cc there
      none (Some (Says k (decl.Task public name worst ports' body))) there lawful = cc there
      none (Some (Says k (decl.Mode start name period acts))) there lawful = cc there

      by_port : (o : Option (ℕ × PortDecl)) → port_named ports x.text ≡ o →
          lost_at outside.file (port_before (in_module true x (meant outside.tree x.text)) o) ≡ [] →
          no_target (Some ports) (port_before (in_module true x (meant outside.tree x.text)) o) ≡ false →
          MaySet (unwrap_or (option_map (λ (p : ℕ × PortDecl). cell_of ports p.0) o) 0)
      by_port None e there lawful = absurd (none (meant outside.tree x.text) there lawful)
      by_port (Some p) e there lawful =
          let at = port_named-at ports x.text p.0 p.1 e in (
            cell-after ports p.0 p.1 at (sym (ap port_is_input at) ∙ lawful),
            cell-within ports p.0 p.1 at,
          )
