-- Frames: what they carry, and their bytes.
use Rattle.std.specs.Prelude.{ℕ, ℤ, Bool, List, [], ◌∷◌, ◌++◌, flat_map, if◌then◌else◌}
use Rattle.std.specs.Int.{w8, w16, w32, w64, Width, to_be_bytes, cast_unsigned}
use Rattle.tdl_base.specs.Bytes.{short}
use Rattle.tdl_base.specs.declared.kinds.Kind.{Kind}
use Rattle.tdl_base.specs.declared.kinds.Kind.TheVariants.{Boolean, Byte, Short, Int, Long}

-- one job's part of a frame: its invocation, whether the job was executed, and its outputs with their kinds
pub record Member : Type 0 where
  pub invocation : ℕ
  pub executed : Bool
  pub kinds : List Kind
  pub values : List ℤ

-- a frame of a module in a mode
pub record Frame : Type 0 where
  pub owner : ℕ
  pub mode : ℕ
  pub members : List Member

-- the bits that a number of the kind takes in a frame
abbrev pub bits_of : Kind → Width
bits_of Boolean = w8
bits_of Byte = w8
bits_of Short = w16
bits_of Int = w32
bits_of Long = w64

-- a number in its kind's bytes, the highest byte first
abbrev pub number_bytes : Kind → ℤ → List ℕ
number_bytes kind v = to_be_bytes (bits_of kind) (cast_unsigned (bits_of kind) v)

-- the numbers in their kinds' bytes
abbrev pub numbers_bytes : List Kind → List ℤ → List ℕ
numbers_bytes (kind ∷ kinds) (v ∷ vs) = number_bytes kind v ++ numbers_bytes kinds vs
numbers_bytes kinds vs = []

-- the invocation, a byte that says whether the job was executed, and the outputs
abbrev pub member_bytes : Member → List ℕ
member_bytes m = short m.invocation ++ (if m.executed then 1 else 0) ∷ [] ++ numbers_bytes m.kinds m.values

-- the module, the mode and the members
abbrev pub frame_bytes : Frame → List ℕ
frame_bytes f = short f.owner ++ short f.mode ++ flat_map member_bytes f.members
