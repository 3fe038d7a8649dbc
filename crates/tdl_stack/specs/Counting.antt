-- How the cost of a code and the bodies that stand in one another are counted, one instruction after the other.
use Rattle.std.specs.Prelude.{ℕ, suc, ◌+◌, ◌*◌, ◌<◌, ◌≤◌, nat_lt, if◌then◌else◌, List, [], ◌∷◌, length}
use Rattle.tdl_stack.specs.declared.limits.TheConstants.{NESTED_BODIES, CODE_COST}
use Rattle.tdl_stack.specs.declared.bodies.OpenBody.{OpenBody}
use Rattle.tdl_stack.specs.declared.instr.Instr.{Instr}
use Rattle.tdl_stack.specs.declared.instr.Instr.TheVariants.{Rep}

-- where counting stands: at a place, which is come to so often; what the places before it cost; and the open bodies,
-- the innermost first
pub record Count : Type 0 where
  pub place : ℕ
  pub turns : ℕ
  pub cost : ℕ
  pub open_bodies : List OpenBody

-- counting begins
abbrev pub no_count : Count
no_count = record { place = 0; turns = 1; cost = 0; open_bodies = [] }

-- the same where the bodies that end are closed
abbrev pub closed : (place turns cost : ℕ) → List OpenBody → Count
closed place turns cost [] = record { place = place; turns = turns; cost = cost; open_bodies = [] }
closed place turns cost (b ∷ bodies) =
    if nat_lt place b.end
    then record { place = place; turns = turns; cost = cost; open_bodies = b ∷ bodies }
    else closed place b.turns_outside cost bodies

-- the count with the bodies closed that end at its place
abbrev pub after_bodies : Count → Count
after_bodies c = closed c.place c.turns c.cost c.open_bodies

-- one instruction more
abbrev pub counted : Instr → Count → Count
counted (Rep times n) c = record {
  place = suc c.place;
  turns = c.turns * times;
  cost = c.cost + c.turns;
  open_bodies = record { end = suc (c.place + n); turns_outside = c.turns } ∷ c.open_bodies;
}
counted i c = record { place = suc c.place; turns = c.turns; cost = c.cost + c.turns; open_bodies = c.open_bodies }

-- there is room for the body of an instruction
abbrev pub HasRoom : Instr → Count → Type 0
HasRoom (Rep times n) c = length c.open_bodies < NESTED_BODIES
HasRoom i c = Unit {0}

-- an instruction can be counted
abbrev pub CountsAt : Instr → Count → Type 0
CountsAt i c = (c.cost + c.turns ≤ CODE_COST) × HasRoom i c

-- all instructions can be counted
abbrev pub Counts : Count → List Instr → Type 0
Counts c [] = Unit {0}
Counts c (i ∷ code) = CountsAt i (after_bodies c) × Counts (counted i (after_bodies c)) code
