-- What the names of expressions outside bodies reach is there, and may be read.
use Rattle.std.proofs.Common.{◌≡◌, ◌⊎◌, inl, inr, ℕ, List, [], ◌∷◌, Bool, true, false, Option, Some, None, refl, ap, sym, ◌∙◌}
use Rattle.std.specs.Prelude.{slice_get}
use Rattle.tdl_base.specs.declared.kinds.Kind.{Kind}
use Rattle.tdl_tree.specs.declared.declarations.Decl.{Decl}
use Rattle.tdl_tree.specs.declared.declarations.Decl.TheVariants as decl
use Rattle.tdl_tree.specs.declared.declarations.PortDecl.{PortDecl}
use Rattle.tdl_tree.specs.declared.declarations.Sort.{Sort}
use Rattle.tdl_tree.specs.declared.declarations.Sort.TheVariants as sort
use Rattle.tdl_tree.specs.declared.declarations.Tree.{Tree}
use Rattle.tdl_tree.specs.declared.names.Id.{Id}
use Rattle.tdl_tree.specs.declared.names.Time.{Time}
use Rattle.tdl_tree.specs.declared.statements.StmtTree.{StmtTree}
use Rattle.tdl_rules.specs.declared.found.Found.{Found}
use Rattle.tdl_rules.specs.declared.found.Found.TheVariants.{Is, Lost, Unknown}
use Rattle.tdl_rules.specs.declared.found.Target.{Target}
use Rattle.tdl_rules.specs.declared.found.Target.TheVariants as target
use Rattle.tdl_rules.specs.Naming.{Meaning, Imported, Says, meant, port_named, exporter}
use Rattle.tdl_rules.specs.Meanings.{output_found, in_module, public_constant, constant_of, find_two, public_task, through, find_three, found}
use Rattle.tdl_program.specs.Ordinals.{is_sort}
use Rattle.tdl_program.proofs.Scopes.{scope_at}
use Rattle.tdl_program.proofs.Looking.{port_named-at, meant-says, meant-imported, exporter-at}

module _ (sources : List Tree) (k : ℕ) (tree : Tree) (source : slice_get sources k ≡ Some tree) where
  -- an import of source k that names source m
  pub record Imports (m : ℕ) (home : Tree) : Type 0 where
    pub place : ℕ
    pub id : Id
    pub at : slice_get tree.imports place ≡ Some id
    pub is : exporter (scope_at sources k tree) id.text ≡ Some (m, home)

  -- task declaration t of source m, which source k may read
  pub record HasTask (m t : ℕ) (ports : List PortDecl) : Type 0 where
    pub home : Tree
    pub there : slice_get sources m ≡ Some home
    pub public : Bool
    pub name : Id
    pub worst : Time
    pub body : List StmtTree
    pub at : slice_get home.decls t ≡ Some (decl.Task public name worst ports body)
    pub allowed : (m ≡ k) ⊎ (Imports m home × (public ≡ true))

  -- port j of such a task, which is an output
  pub record HasOutput (m t j : ℕ) : Type 0 where
    pub ports : List PortDecl
    pub task : HasTask m t ports
    pub port : PortDecl
    pub at : slice_get ports j ≡ Some port
    pub output : is_sort sort.Output port.sort ≡ true

  -- what is reached is there
  abbrev pub Reaches : Target → Type 0
  Reaches (target.Port j) = ⊥
  Reaches (target.Fixed literal) = Unit {0}
  Reaches (target.Sensor j) = (kind : Kind) × (name : Id) × (slice_get tree.decls j ≡ Some (decl.Sensor kind name))
  Reaches (target.Output m t j) = HasOutput m t j

  -- the same of what is found, where something is
  abbrev pub ReachesFound : Found → Type 0
  ReachesFound (Is kind target) = Reaches target
  ReachesFound (Lost rule at) = Unit {0}
  ReachesFound Unknown = Unit {0}

  -- an output of a task that may be read
  output-reaches : (m t : ℕ) (ports : List PortDecl) (z : Id) → HasTask m t ports → (o : Option (ℕ × PortDecl)) →
      port_named ports z.text ≡ o → ReachesFound (output_found m t z o)
  output-reaches m t ports z task None e = tt
  output-reaches m t ports z task (Some (j, port)) e = by_sort port.sort refl
    where
      by_sort : (s : Sort) → port.sort ≡ s → ReachesFound (output_found m t z (Some (j, port)))
      by_sort sort.Output is =
          rw is (record {
            ports = ports;
            task = task;
            port = port;
            at = port_named-at ports z.text j port e;
            output = ap (is_sort sort.Output) is;
          })
      by_sort sort.Input is = rw is tt
      by_sort sort.Local is = rw is tt

  -- one part
  one-reaches : (x : Id) (o : Option Meaning) → meant tree x.text ≡ o → ReachesFound (in_module false x o)
  one-reaches x (Some (Says j (decl.Const public kind name value))) e = tt
  one-reaches x (Some (Says j (decl.Sensor kind name))) e = (kind, name, meant-says tree x.text j (decl.Sensor kind name) e)
  one-reaches x o e = tt

  -- a constant of an import
  constant-reaches : (y : Id) (o : Option (ℕ × Tree)) → ReachesFound (constant_of y o)
  constant-reaches y None = tt
  constant-reaches y (Some (m, home)) = by_meaning (meant home y.text)
    where
      by_meaning : (o : Option Meaning) → ReachesFound (public_constant y o)
      by_meaning (Some (Says j (decl.Const true kind name value))) = tt
      by_meaning (Some (Says j (decl.Const false kind name value))) = tt
      by_meaning o = tt

  -- two parts
  two-reaches : (x y : Id) (o : Option Meaning) → meant tree x.text ≡ o →
      ReachesFound (find_two (scope_at sources k tree) None x y o)
  two-reaches x y (Some Imported) e = constant-reaches y (exporter (scope_at sources k tree) x.text)
  two-reaches x y (Some (Says t (decl.Task public name worst ports body))) e =
      output-reaches k t ports y (record {
        home = tree;
        there = source;
        public = public;
        name = name;
        worst = worst;
        body = body;
        at = meant-says tree x.text t (decl.Task public name worst ports body) e;
        allowed = inl refl;
      }) (port_named ports y.text) refl
  two-reaches x y o e = tt

  -- an output of a public task of an import
  task-reaches : (m : ℕ) (home : Tree) (y z : Id) → slice_get sources m ≡ Some home → Imports m home →
      (o : Option Meaning) → meant home y.text ≡ o → ReachesFound (public_task m y z o)
  task-reaches m home y z there import' (Some (Says t (decl.Task true name worst ports body))) e =
      output-reaches m t ports z (record {
        home = home;
        there = there;
        public = true;
        name = name;
        worst = worst;
        body = body;
        at = meant-says home y.text t (decl.Task true name worst ports body) e;
        allowed = inr (import', refl);
      }) (port_named ports z.text) refl
  task-reaches m home y z there import' (Some (Says t (decl.Task false name worst ports body))) e = tt
  task-reaches m home y z there import' o e = tt

  -- three parts
  three-reaches : (x y z : Id) (o : Option Meaning) → meant tree x.text ≡ o →
      ReachesFound (find_three (scope_at sources k tree) None x y z o)
  three-reaches x y z (Some Imported) e = by_source (exporter (scope_at sources k tree) x.text) refl
    where
      by_source : (o : Option (ℕ × Tree)) → exporter (scope_at sources k tree) x.text ≡ o →
          ReachesFound (through None x y z o)
      by_source None is = tt
      by_source (Some (m, home)) is =
          let import' = meant-imported tree x.text e in
          task-reaches m home y z (exporter-at (scope_at sources k tree) x.text m home is).at (record {
            place = import'.place;
            id = import'.id;
            at = import'.at;
            is = ap (exporter (scope_at sources k tree)) (sym import'.named) ∙ is;
          }) (meant home y.text) refl
  three-reaches x y z o e = tt

  -- what a name of an expression outside bodies reaches is there
  pub found-reaches : (parts : List Id) → ReachesFound (found (scope_at sources k tree) parts)
  found-reaches [] = tt
  found-reaches (x ∷ []) = one-reaches x (meant tree x.text) refl
  found-reaches (x ∷ y ∷ []) = two-reaches x y (meant tree x.text) refl
  found-reaches (x ∷ y ∷ z ∷ []) = three-reaches x y z (meant tree x.text) refl
  found-reaches (x ∷ y ∷ z ∷ w ∷ more) = tt
