-- What holds of each item of a list.
use Rattle.tdl_base.specs.Lists.{Zip}
use Rattle.std.specs.Prelude.{List, [], suc, ℕ, ◌∷◌}
use Rattle.tdl_image.specs.declared.stub.Receive.{Receive}
use Rattle.tdl_verify.specs.States.{EntryNow, NodeNow}

-- P holds of each item
abbrev pub Every : {A : Type 0} → (A → Type 0) → List A → Type 0
Every P [] = Unit {0}
Every P (x ∷ xs) = P x × Every P xs

-- P holds of each node with its number, the first having number k
abbrev pub AllNodes : (ℕ → NodeNow → Type 0) → ℕ → List NodeNow → Type 0
AllNodes P k [] = Unit {0}
AllNodes P k (n ∷ more) = P k n × AllNodes P (suc k) more

-- something holds of each entry and its state, and there are as many of both
abbrev pub AllEntries : (Receive → EntryNow → Type 0) → List Receive → List EntryNow → Type 0
AllEntries P es nows = Zip P es nows
