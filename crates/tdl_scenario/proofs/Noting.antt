-- Faults that are noted one after the other.
use Rattle.std.proofs.Common.{◌≡◌, ℕ, Bool, List, [], ◌++◌, Option, refl, sym, ap, ◌∙◌}
use Rattle.tdl_lines.specs.declared.fault.Fault.{Fault}
use Rattle.tdl_lines.specs.Faults.{earliest, fault_if}
use Rattle.tdl_lines.proofs.FirstFault.{earliest-append}

-- nothing was noted yet
pub unnoted : (best : Option Fault) → best ≡ earliest best []
unfolding earliest
unnoted best = refl

-- the faults of a second list after those of a first
pub in_turn : (best one last : Option Fault) (xs ys : List Fault) → one ≡ earliest best xs → last ≡ earliest one ys →
    last ≡ earliest best (xs ++ ys)
in_turn best one last xs ys first second =
    second ∙ ap (λ (b : Option Fault). earliest b ys) first ∙ sym (earliest-append best xs ys)

-- one more rule of a line
pub noted : (best one last : Option Fault) (faults : List Fault) (found breaks : Bool) (line rule : ℕ) →
    one ≡ earliest best faults → last ≡ earliest one (fault_if found line rule) → found ≡ breaks →
    last ≡ earliest best (faults ++ fault_if breaks line rule)
noted best one last faults found breaks line rule before more same =
    in_turn best one last faults (fault_if breaks line rule) before
    (more ∙ ap (λ (b : Bool). earliest one (fault_if b line rule)) same)
