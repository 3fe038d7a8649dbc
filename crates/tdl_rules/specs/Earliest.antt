-- The first of several faults: by file, line, column and rule.
use Rattle.std.specs.Prelude.{ℕ, Bool, List, [], ◌∷◌, Option, Some, None, if◌then◌else◌, false, ◌&&◌, ◌||◌, ◌==◌, nat_lt, ◌≡◌, All, Contains}
use Rattle.tdl_rules.specs.declared.fault.Fault.{Fault}

-- one key comes before another: it is below, or they are equal and what is compared next decides
abbrev pub key_before : ℕ → ℕ → Bool → Bool
key_before a b next = nat_lt a b || (a == b && next)

-- f comes before g: by source, then line, then column, then rule
abbrev pub is_before : Fault → Fault → Bool
is_before f g =
    key_before f.file g.file
    (key_before f.line g.line
    (key_before f.col g.col (nat_lt f.rule g.rule)))

-- the earlier of a fault that may be there and one that is
abbrev pub earlier : Option Fault → Fault → Option Fault
earlier None g = Some g
earlier (Some f) g = Some (if is_before g f then g else f)

-- the earliest of a fault that may be there and the faults of a list
unfoldable pub earliest : Option Fault → List Fault → Option Fault
earliest best [] = best
earliest best (f ∷ fs) = earliest (earlier best f) fs

-- f is in the list, and nothing in it comes before f
pub record IsFirst (f : Fault) (fs : List Fault) : Type 0 where
  pub within : Contains fs f
  pub least : All (λ g. is_before g f ≡ false) fs

-- a fault among faults in ascending order, where it is not there already
abbrev pub placed : Fault → List Fault → List Fault
placed f [] = f ∷ []
placed f (g ∷ gs) = if is_before f g then f ∷ g ∷ gs else (if is_before g f then g ∷ placed f gs else g ∷ gs)

-- the faults of a list in ascending order, each once
abbrev pub in_order : List Fault → List Fault
in_order [] = []
in_order (f ∷ fs) = placed f (in_order fs)
