-- What a name in an expression means: the one look-up by its parts.
use Rattle.std.specs.Prelude.{ℕ, Bool, List, [], ◌∷◌, Option, Some, None, if◌then◌else◌, true, false}
use Rattle.tdl_rules.specs.declared.found.Found.TheVariants.{Is, Lost, Unknown}
use Rattle.tdl_rules.specs.declared.found.Found.{Found}
use Rattle.tdl_tree.specs.declared.declarations.PortDecl.{PortDecl}
use Rattle.tdl_tree.specs.declared.declarations.Sort.{Sort}
use Rattle.tdl_tree.specs.declared.declarations.Tree.{Tree}
use Rattle.tdl_tree.specs.declared.names.Id.{Id}
use Rattle.tdl_rules.specs.declared.found.Target.TheVariants as target
use Rattle.tdl_tree.specs.declared.declarations.Decl.TheVariants as decl
use Rattle.tdl_tree.specs.declared.declarations.Sort.TheVariants as sort
use Rattle.tdl_rules.specs.Naming.{spot_of, Meaning, meant, port_named, Scope, exporter, Imported, Says}

-- what the port found for a name is, where an output of task k of module m is needed
abbrev pub output_found : ℕ → ℕ → Id → Option (ℕ × PortDecl) → Found
output_found m k z None = Lost 3 (spot_of z)
output_found m k z (Some (j, port)) =
    if is_output port.sort then Is port.kind (target.Output m k j) else Lost 3 (spot_of z)
  where
    is_output : Sort → Bool
    is_output sort.Output = true
    is_output _ = false

-- ---- one part

-- what a name of the module is: a constant, or outside bodies a sensor
abbrev pub in_module : Bool → Id → Option Meaning → Found
in_module in_body x (Some (Says k (decl.Const public kind name value))) = Is kind (target.Fixed value)
in_module false x (Some (Says k (decl.Sensor kind name))) = Is kind (target.Sensor k)
in_module _ x _ = Lost 3 (spot_of x)

-- a task's port, before what the name is otherwise
abbrev pub port_before : Found → Option (ℕ × PortDecl) → Found
port_before other None = other
port_before other (Some (k, port)) = Is port.kind (target.Port k)

-- one part: in a body a port and then a constant, elsewhere a sensor or a constant
abbrev pub find_one : Scope → Option (List PortDecl) → Id → Found
find_one scope None x = in_module false x (meant scope.tree x.text)
find_one scope (Some ports) x =
    port_before (in_module true x (meant scope.tree x.text)) (port_named ports x.text)

-- ---- two parts

-- what a name of an imported module is, where a public constant is needed
abbrev pub public_constant : Id → Option Meaning → Found
public_constant y None = Lost 3 (spot_of y)
public_constant y (Some (Says k (decl.Const true kind name value))) = Is kind (target.Fixed value)
public_constant y _ = Lost 4 (spot_of y)

-- the constant `y` of an imported module; unknown where the import names none
abbrev pub constant_of : Id → Option (ℕ × Tree) → Found
constant_of y None = Unknown
constant_of y (Some (m, tree)) = public_constant y (meant tree y.text)

-- two parts: a public constant of an import, or outside bodies an output of a task of the module
abbrev pub find_two : Scope → Option (List PortDecl) → Id → Id → Option Meaning → Found
find_two scope body x y (Some Imported) = constant_of y (exporter scope x.text)
find_two scope None x y (Some (Says k (decl.Task public name worst ports body))) =
    output_found scope.file k y (port_named ports y.text)
find_two scope _ x y _ = Lost 3 (spot_of x)

-- ---- three parts

-- what a name of the imported module m is, where a public task with an output `z` is needed
abbrev pub public_task : ℕ → Id → Id → Option Meaning → Found
public_task m y z None = Lost 3 (spot_of y)
public_task m y z (Some (Says k (decl.Task true name worst ports body))) = output_found m k z (port_named ports z.text)
public_task m y z _ = Lost 4 (spot_of y)

-- the output `y.z` of an imported module, outside bodies; unknown where the import names none
abbrev pub through : Option (List PortDecl) → Id → Id → Id → Option (ℕ × Tree) → Found
through body x y z None = Unknown
through None x y z (Some (m, tree)) = public_task m y z (meant tree y.text)
through (Some ports) x y z (Some source) = Lost 3 (spot_of x)

-- three parts: outside bodies an output of a public task of an import
abbrev pub find_three : Scope → Option (List PortDecl) → Id → Id → Id → Option Meaning → Found
find_three scope body x y z (Some Imported) = through body x y z (exporter scope x.text)
find_three scope body x y z _ = Lost 3 (spot_of x)

-- ---- any name

-- what a name in an expression means
abbrev pub found : Scope → List Id → Found
found scope (x ∷ []) = find_one scope scope.body x
found scope (x ∷ y ∷ []) = find_two scope scope.body x y (meant scope.tree x.text)
found scope (x ∷ y ∷ z ∷ []) = find_three scope scope.body x y z (meant scope.tree x.text)
found scope _ = Unknown
