-- A code makes no cell, takes none away, and changes no kind.
use Rattle.std.proofs.Common.{◌≡◌, ℕ, zero, suc, List, [], ◌∷◌, length, refl, ◌∙◌}
use Rattle.std.specs.Prelude.{if◌then◌else◌}
use Rattle.std.proofs.lemmas.List.{length-set}
use Rattle.tdl_base.specs.Numbers.{is_true, unary, binary}
use Rattle.tdl_stack.specs.declared.instr.Instr.{Instr}
use Rattle.tdl_stack.specs.declared.instr.Instr.TheVariants.{Const, Load, Store, Un, Bin, Jz, Jmp, Rep}
use Rattle.tdl_base.specs.Cells.{stored, repeated}
use Rattle.tdl_stack.specs.Running.{Outer, StackState, exec, top, popped, pushed, loaded}

-- the same kinds, and as many numbers
pub record Keeps (old new : StackState) : Type 0 where
  pub kinds : new.cells.kinds ≡ old.cells.kinds
  pub count : length new.cells.values ≡ length old.cells.values

-- nothing changes
same : (s : StackState) → Keeps s s
same s = record { kinds = refl; count = refl }

-- one after the other
and_then : (s t u : StackState) → Keeps s t → Keeps t u → Keeps s u
and_then s t u first second = record { kinds = second.kinds ∙ first.kinds; count = second.count ∙ first.count }

-- n times
often : (n : ℕ) (f : StackState → StackState) → ((s : StackState) → Keeps s (f s)) → (s : StackState) →
    Keeps s (repeated n f s)
often zero f keeps s = same s
often (suc n) f keeps s = and_then s (repeated n f s) (f (repeated n f s)) (often n f keeps s) (keeps (repeated n f s))

pub keeps : (outer : Outer) (code : List Instr) (left skip : ℕ) (s : StackState) → Keeps s (exec outer code left skip s)
keeps outer code zero skip s = same s
keeps outer [] (suc left) skip s = same s
keeps outer (i ∷ code) (suc left) (suc skip) s = keeps outer code left skip s
keeps outer (Const v ∷ code) (suc left) zero s =
    and_then s _ _ (record { kinds = refl; count = refl }) (keeps outer code left 0 (pushed v s))
keeps outer (Load place ∷ code) (suc left) zero s =
    and_then s _ _ (record { kinds = refl; count = refl })
    (keeps outer code left 0 (pushed (loaded outer place s.cells) s))
keeps outer (Store k ∷ code) (suc left) zero s =
    and_then s (record (popped s) { cells = stored k (top s) s.cells }) _
    (record { kinds = refl; count = length-set s.cells.values k _ })
    (keeps outer code left 0 (record (popped s) { cells = stored k (top s) s.cells }))
keeps outer (Un op ∷ code) (suc left) zero s =
    and_then s _ _ (record { kinds = refl; count = refl })
    (keeps outer code left 0 (pushed (unary op (top s)) (popped s)))
keeps outer (Bin op ∷ code) (suc left) zero s =
    and_then s _ _ (record { kinds = refl; count = refl })
    (keeps outer code left 0 (pushed (binary op (top (popped s)) (top s)) (popped (popped s))))
keeps outer (Jz n ∷ code) (suc left) zero s =
    and_then s _ _ (record { kinds = refl; count = refl })
    (keeps outer code left (if is_true (top s) then 0 else n) (popped s))
keeps outer (Jmp n ∷ code) (suc left) zero s = keeps outer code left n s
keeps outer (Rep n k ∷ code) (suc left) zero s =
    and_then s (repeated n (exec outer code k 0) s) _ (often n (exec outer code k 0) (keeps outer code k 0) s)
    (keeps outer code left k (repeated n (exec outer code k 0) s))
