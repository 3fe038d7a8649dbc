-- The numbers of a program are of their kinds.
use Rattle.std.proofs.Common.{◌≡◌, ℕ, zero, suc, pos, List, map, Option, Some, None, inl, refl, subst, arith}
use Rattle.std.specs.Prelude.{slice_get}
use Rattle.std.proofs.lemmas.Int.{ints}
use Rattle.std.proofs.lemmas.Option.{same_Some}
use Rattle.tdl_base.specs.declared.kinds.Kind.{Kind}
use Rattle.tdl_base.specs.declared.kinds.Kind.TheVariants.{Boolean, Byte, Short, Int, Long}
use Rattle.tdl_base.specs.Numbers.{IsOfKind}
use Rattle.tdl_base.proofs.NumberLaws.{narrowed_of_kind}
use Rattle.tdl_mode.specs.declared.program.Constant.{Constant}
use Rattle.tdl_mode.specs.declared.program.PortDef.{PortDef}
use Rattle.tdl_tree.specs.declared.declarations.Decl.{Decl}
use Rattle.tdl_tree.specs.declared.declarations.Decl.TheVariants as decl
use Rattle.tdl_tree.specs.declared.declarations.PortDecl.{PortDecl}
use Rattle.tdl_tree.specs.declared.declarations.Sort.{Sort}
use Rattle.tdl_tree.specs.declared.names.Lit.{Lit}
use Rattle.tdl_rules.specs.Lists.{each}
use Rattle.tdl_program.specs.Literals.{literal_number, initial_number}
use Rattle.tdl_program.specs.Ordinals.{ports_of}
use Rattle.tdl_program.specs.Programs.{constants_in, sensors_in, actuators_in, port_of}
use Rattle.tdl_program.proofs.Emptiness.{map-from}
use Rattle.tdl_program.proofs.JoinedPlaces.{each-from}
use Rattle.tdl_kept.specs.Counts.{BeginInKind}

-- 0 is of every kind
zero_of_kind : (kind : Kind) → IsOfKind kind (pos 0)
zero_of_kind Boolean = inl refl
zero_of_kind Byte = (omega (arith, ints), omega (arith, ints))
zero_of_kind Short = (omega (arith, ints), omega (arith, ints))
zero_of_kind Int = (omega (arith, ints), omega (arith, ints))
zero_of_kind Long = (omega (arith, ints), omega (arith, ints))

-- what a part begins with is of its kind
initial_of_kind : (kind : Kind) (initial : Option Lit) → IsOfKind kind (initial_number kind initial)
initial_of_kind kind None = zero_of_kind kind
initial_of_kind kind (Some literal) = narrowed_of_kind kind (literal_number literal.value)

-- the constant that stands alone is its declaration's
constant_of_kind : (d : Decl) (n : ℕ) (c : Constant) → slice_get (constants_in d) n ≡ Some c → IsOfKind c.kind c.value
constant_of_kind (decl.Const public kind name value) zero c at =
    subst (λ (c : Constant). IsOfKind c.kind c.value) (same_Some _ c at)
    (narrowed_of_kind kind (literal_number value.value))
constant_of_kind (decl.Const public kind name value) (suc n) c at = absurd (cc at)
constant_of_kind (decl.Sensor kind name) n c at = absurd (cc at)
constant_of_kind (decl.Actuator kind name initial) n c at = absurd (cc at)
constant_of_kind (decl.Task public name worst ports body) n c at = absurd (cc at)
constant_of_kind (decl.Mode start name period acts) n c at = absurd (cc at)

-- so is each constant of a module
pub constants_of_kind : (decls : List Decl) (n : ℕ) (c : Constant) → slice_get (each constants_in decls) n ≡ Some c →
    IsOfKind c.kind c.value
constants_of_kind decls n c at =
    let r = each-from constants_in decls n c at in constant_of_kind r.item r.own.place c r.own.at

-- a sensor begins with 0
sensor_of_kind : (d : Decl) → BeginInKind (sensors_in d)
sensor_of_kind (decl.Sensor kind name) zero p at =
    subst (λ (p : PortDef). IsOfKind p.kind p.initial) (same_Some _ p at) (zero_of_kind kind)
sensor_of_kind (decl.Sensor kind name) (suc n) p at = absurd (cc at)
sensor_of_kind (decl.Const public kind name value) n p at = absurd (cc at)
sensor_of_kind (decl.Actuator kind name initial) n p at = absurd (cc at)
sensor_of_kind (decl.Task public name worst ports body) n p at = absurd (cc at)
sensor_of_kind (decl.Mode start name period acts) n p at = absurd (cc at)

-- so does each sensor of a module
pub sensors_of_kind : (decls : List Decl) → BeginInKind (each sensors_in decls)
sensors_of_kind decls n p at =
    let r = each-from sensors_in decls n p at in sensor_of_kind r.item r.own.place p r.own.at

-- an actuator begins with its literal
actuator_of_kind : (d : Decl) → BeginInKind (actuators_in d)
actuator_of_kind (decl.Actuator kind name initial) zero p at =
    subst (λ (p : PortDef). IsOfKind p.kind p.initial) (same_Some _ p at) (initial_of_kind kind initial)
actuator_of_kind (decl.Actuator kind name initial) (suc n) p at = absurd (cc at)
actuator_of_kind (decl.Const public kind name value) n p at = absurd (cc at)
actuator_of_kind (decl.Sensor kind name) n p at = absurd (cc at)
actuator_of_kind (decl.Task public name worst ports body) n p at = absurd (cc at)
actuator_of_kind (decl.Mode start name period acts) n p at = absurd (cc at)

-- so does each actuator of a module
pub actuators_of_kind : (decls : List Decl) → BeginInKind (each actuators_in decls)
actuators_of_kind decls n p at =
    let r = each-from actuators_in decls n p at in actuator_of_kind r.item r.own.place p r.own.at

-- so does each port of a sort
pub ports_of_kind : (wanted : Sort) (ports : List PortDecl) → BeginInKind (map port_of (ports_of wanted ports))
ports_of_kind wanted ports n p at =
    let m = map-from port_of n (ports_of wanted ports) p at in
    subst (λ (p : PortDef). IsOfKind p.kind p.initial) m.is (initial_of_kind m.item.kind m.item.initial)
