-- Faults that are noted one after the other.
use Rattle.std.proofs.Common.{◌≡◌, ℕ, Bool, List, [], ◌∷◌, ◌++◌, Option, refl, sym, ap, ◌∙◌}
use Rattle.tdl_lines.specs.declared.fault.Fault.{Fault}
use Rattle.tdl_lines.specs.Faults.{earliest, fault_if}
use Rattle.tdl_lines.proofs.FirstFault.{earliest-append}

-- where there is no further fault
pub earliest-nil : (best : Option Fault) → earliest best [] ≡ best
unfolding earliest
earliest-nil best = refl

-- the faults of a second list after those of a first
pub in_turn : (best one last : Option Fault) (xs ys : List Fault) → one ≡ earliest best xs → last ≡ earliest one ys →
    last ≡ earliest best (xs ++ ys)
in_turn best one last xs ys first second =
    second ∙ ap (λ (b : Option Fault). earliest b ys) first ∙ sym (earliest-append best xs ys)

-- the fault of a rule that is told by a test of its own
pub told : (best next : Option Fault) (found breaks : Bool) (line rule : ℕ) → found ≡ breaks →
    next ≡ earliest best (fault_if found line rule) → next ≡ earliest best (fault_if breaks line rule)
told best next found breaks line rule same noted =
    noted ∙ ap (λ (b : Bool). earliest best (fault_if b line rule)) same

-- one more fault is noted
pub one_noted : (first best next : Option Fault) (faults : List Fault) (fault : Fault) (all more : List Fault) →
    earliest first faults ≡ earliest best all → all ≡ fault ∷ more → next ≡ earliest best (fault ∷ []) →
    earliest first faults ≡ earliest next more
one_noted first best next faults fault all more before same noted =
    before ∙ ap (earliest best) same ∙ earliest-append best (fault ∷ []) more
    ∙ ap (λ (b : Option Fault). earliest b more) (sym noted)
