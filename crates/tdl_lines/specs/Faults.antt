-- The faults of a line file, and the first of them: by line, then by rule.
use Rattle.std.specs.Prelude.{◌≡◌, ℕ, Bool, false, ◌==◌, ◌&&◌, ◌||◌, nat_lt, List, [], ◌∷◌, ◌++◌, All, Contains, Option, Some, None, if◌then◌else◌}
use Rattle.tdl_lines.specs.declared.fault.Fault.{Fault}
use Rattle.tdl_lines.specs.declared.said.Said.{Said}

-- the fault of a line that breaks a rule, where a test says that it does
abbrev pub fault_if : Bool → ℕ → ℕ → List Fault
fault_if breaks line rule = if breaks then record { line = line; rule = rule } ∷ [] else []

-- the faults of these lines, where f tells those of a line after what the lines before it say, the latest first
abbrev pub faults_from : {X : Type 0} → (List X → Said X → List Fault) → List X → List (Said X) → List Fault
faults_from f before [] = []
faults_from f before (x ∷ xs) = f before x ++ faults_from f (x.what ∷ before) xs

-- f comes before g: by line, then by rule
abbrev pub is_before : Fault → Fault → Bool
is_before f g = nat_lt f.line g.line || (f.line == g.line && nat_lt f.rule g.rule)

-- f is in the list, and nothing in it comes before f
pub record IsFirst (f : Fault) (fs : List Fault) : Type 0 where
  pub within : Contains fs f
  pub least : All (λ g. is_before g f ≡ false) fs

-- the earlier of a fault that may be there and one that is
abbrev pub earlier : Option Fault → Fault → Option Fault
earlier None g = Some g
earlier (Some f) g = Some (if is_before g f then g else f)

-- the earliest of a fault that may be there and the faults of a list
unfoldable pub earliest : Option Fault → List Fault → Option Fault
earliest best [] = best
earliest best (f ∷ fs) = earliest (earlier best f) fs
