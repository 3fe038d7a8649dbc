-- Bytes that grow at their end.
use Rattle.std.specs.Prelude.{◌≡◌, ℕ, List, length, take}

-- the bytes begin with those that were there before
pub record Extends (old new : List ℕ) : Type 0 where
  pub is : take (length old) new ≡ old
