-- The cells of a job.
use Rattle.std.specs.Prelude.{ℕ, zero, suc, ℤ, List, slice_index_or, slice_set}
use Rattle.tdl_base.specs.declared.kinds.Kind.{Kind}
use Rattle.tdl_base.specs.declared.kinds.Kind.TheVariants.{Long}
use Rattle.tdl_base.specs.Numbers.{narrowed}

-- the cells of a job: its inputs, then its outputs, then its locals
pub record Cells : Type 0 where
  pub kinds : List Kind
  pub values : List ℤ

-- the cell takes the number, narrowed to its kind; nothing changes where there is no such cell
abbrev pub stored : ℕ → ℤ → Cells → Cells
stored k v cells = record cells { values = slice_set cells.values k (narrowed (slice_index_or cells.kinds k Long) v) }

-- f done n times
abbrev pub repeated : {A : Type 0} → ℕ → (A → A) → A → A
repeated zero f a = a
repeated (suc n) f a = f (repeated n f a)
