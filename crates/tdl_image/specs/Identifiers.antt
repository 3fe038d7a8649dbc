-- Identifiers, which name the parts of a bundle.
use Rattle.std.specs.Prelude.{ℕ, ◌≤◌, List, length, IsTrue}
use Rattle.tdl_base.specs.declared.limits.TheConstants.{IDENTIFIER_BYTES}
use Rattle.tdl_base.specs.Letters.{is_word}

-- an identifier: a word of at most 64 bytes
pub record IsIdentifier (name : List ℕ) : Type 0 where
  pub word : IsTrue (is_word name)
  pub short : length name ≤ IDENTIFIER_BYTES
