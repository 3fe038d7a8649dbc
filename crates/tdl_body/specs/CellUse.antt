-- The cells that a body reads and sets.
use Rattle.std.specs.Prelude.{ℕ, ◌<◌, All}
use Rattle.tdl_base.specs.declared.numbers.Place.{Place}
use Rattle.tdl_base.specs.declared.numbers.Place.TheVariants.{Sensor, Port, Cell}
use Rattle.tdl_body.specs.declared.tree.Body.{Body}
use Rattle.tdl_body.specs.Places.{places_of}
use Rattle.tdl_body.specs.Bounds.{exprs_of, targets_of}

-- the place is one of the first n cells
abbrev pub IsCell : ℕ → Place → Type 0
IsCell n (Sensor k) = ⊥
IsCell n (Port key) = ⊥
IsCell n (Cell k) = k < n

-- a body that reads and sets the first n cells alone
pub record UsesCells (n : ℕ) (b : Body) : Type 0 where
  pub reads : All (λ e. All (IsCell n) (places_of e)) (exprs_of b)
  pub sets : All (λ k. k < n) (targets_of b)
