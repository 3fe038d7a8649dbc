-- What files tell after several loads.
use Rattle.std.proofs.Common.{ℕ, List, arith, refl, ◌∙◌, Option, Some, None}
use Rattle.tdl_io.specs.Outside.{Counts, HasNamedCause, NoCountFalls, NoCountChanges}
use Rattle.tdl_io.specs.Told.{FilesTold}
use Rattle.tdl_report.specs.Calls.{OnlyLoads}

-- a count that rose in a call rose from before an earlier one
pub named_earlier : (a b c : Option Counts) (name : List ℕ) → NoCountFalls a b → HasNamedCause b c name →
    HasNamedCause a c name
named_earlier None b c name falls cause = tt
named_earlier (Some a) None c name falls cause = absurd falls
named_earlier (Some a) (Some b) None name falls cause = absurd cause
named_earlier (Some a) (Some b) (Some c) name falls cause = omega (arith, falls name, cause)

-- the same where the earlier call changed no count
pub named_same : (a b c : Option Counts) (name : List ℕ) → NoCountChanges a b → HasNamedCause b c name →
    HasNamedCause a c name
named_same None b c name same cause = tt
named_same (Some a) None c name same cause = absurd same
named_same (Some a) (Some b) None name same cause = absurd cause
named_same (Some a) (Some b) (Some c) name same cause = omega (arith, same name, cause)

-- counts that stay through two calls
changes_on : (a b c : Option Counts) → NoCountChanges a b → NoCountChanges b c → NoCountChanges a c
changes_on None b c same more = tt
changes_on (Some a) None c same more = absurd same
changes_on (Some a) (Some b) None same more = absurd more
changes_on (Some a) (Some b) (Some c) same more = λ name. more name ∙ same name

-- counts that do not fall through two calls
falls_on : (a b c : Option Counts) → NoCountFalls a b → NoCountFalls b c → NoCountFalls a c
falls_on None b c falls more = tt
falls_on (Some a) None c falls more = absurd falls
falls_on (Some a) (Some b) None falls more = absurd more
falls_on (Some a) (Some b) (Some c) falls more = λ name. omega (arith, falls name, more name)

-- no loads
pub no_loads : (a : FilesTold) → OnlyLoads (record { before = a; after = a })
no_loads a = record {
  held = refl;
  later = omega arith;
  loads = falls_self a.failed_loads;
  saves = same_self a.failed_saves;
}
  where
    falls_self : (a : Option Counts) → NoCountFalls a a
    falls_self None = tt
    falls_self (Some a) = λ name. omega arith

    same_self : (a : Option Counts) → NoCountChanges a a
    same_self None = tt
    same_self (Some a) = λ name. refl

-- loads, and then more loads
pub loads_then : (a b c : FilesTold) → OnlyLoads (record { before = a; after = b }) →
    OnlyLoads (record { before = b; after = c }) →
    OnlyLoads (record { before = a; after = c })
loads_then a b c first more = record {
  held = more.held ∙ first.held;
  later = omega (arith, first.later, more.later);
  loads = falls_on a.failed_loads b.failed_loads c.failed_loads first.loads more.loads;
  saves = changes_on a.failed_saves b.failed_saves c.failed_saves first.saves more.saves;
}
