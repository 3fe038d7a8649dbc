-- What may be there, as a list.
use Rattle.std.specs.Prelude.{List, [], ◌∷◌, Option, Some, None}

-- the one item, where it is there
abbrev pub if_any : {A : Type 0} → Option A → List A
if_any None = []
if_any (Some x) = x ∷ []
