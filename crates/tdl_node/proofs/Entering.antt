-- The turns of the module whose only block enters its only mode.
use Rattle.std.proofs.Common.{◌≡◌, ℕ, Bool, true, false, List, [], ◌∷◌, ◌++◌, refl, ap, ap₂, sym, ◌∙◌}
use Rattle.tdl_trace.specs.Shown.{Shown}
use Rattle.tdl_base.specs.Sensed.{Sensed}
use Rattle.tdl_verify.specs.States.{Times}
use Rattle.tdl_verify.specs.Turns.{Turned, turn}
use Rattle.tdl_node.specs.Steps.{turned_at}
use Rattle.tdl_node.specs.Entering.{entering_parts, IsFirstDue}

has_entered : (x : ℕ) (sensed : Sensed) (times : Times) →
    turned_at 2 sensed times x (entering_parts true) ≡ Turned.Finished (entering_parts true) []
unfolding turn
has_entered x sensed times = refl

enters : (sensed : Sensed) (times : Times) →
    turned_at 2 sensed times 0 (entering_parts false) ≡ Turned.Finished (entering_parts true) (Shown.Mode 0 0 0 0 ∷ [])
unfolding turn
enters sensed times = refl

-- a turn after the entry
pub rests : (entered : Bool) (x : ℕ) (sensed : Sensed) (times : Times) (rows : List Shown) → entered ≡ true →
    rows ≡ [] →
    turned_at 2 sensed times x (entering_parts entered) ≡ Turned.Finished (entering_parts entered) rows
rests false x sensed times rows e none = absurd (cc e)
rests true x sensed times rows e none =
    has_entered x sensed times ∙ ap (Turned.Finished (entering_parts true)) (sym none)

-- the turn of the entry
pub begins : (entered : Bool) (x : ℕ) (sensed : Sensed) (times : Times) (before rows : List Shown) → entered ≡ false →
    IsFirstDue entered x →
    before ≡ [] → rows ≡ before ++ Shown.Mode x 0 0 0 ∷ [] →
    turned_at 2 sensed times x (entering_parts entered) ≡ Turned.Finished (entering_parts true) rows
begins true x sensed times before rows e next none made = absurd (cc e)
begins false x sensed times before rows e next none made =
    ap (λ (k : ℕ). turned_at 2 sensed times k (entering_parts false)) next
    ∙ enters sensed times
    ∙ ap (Turned.Finished (entering_parts true))
    (sym (made ∙ ap₂ (λ (r : List Shown) (k : ℕ). r ++ Shown.Mode k 0 0 0 ∷ []) none next))
