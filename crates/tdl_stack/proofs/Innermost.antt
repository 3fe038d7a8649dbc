-- The innermost body at a place: it is found from one body to the one that it stands in.
use Rattle.std.proofs.Common.{◌≡◌, ℕ, zero, suc, ◌+◌, ◌-◌, ◌<◌, ◌≤◌, nat_le, Bool, true, false, List, [], ◌∷◌, ◌++◌, length, get_or, refl, sym, ap, ◌∙◌, subst, arith, le-leb, leb-true, leb-false, length-append}
use Rattle.std.proofs.Math.ListN.{get_or-append}
use Rattle.std.proofs.Math.Seq.{get_or-append_seam}
use Rattle.std.specs.Prelude.{slice_get}
use Rattle.tdl_stack.specs.declared.instr.Instr.{Instr}
use Rattle.tdl_stack.specs.Lawful.{Repeats, IsInBody}
use Rattle.tdl_stack.specs.Spanning.{IsInnermost, AreInnermost, repeats_to, reaches}

-- the body of a `rep` reaches its places
pub rep-reaches : (code : List Instr) (r p times k : ℕ) → Repeats code r times k → p ≤ r + k →
    reaches code (suc r) p ≡ true
rep-reaches code r p times k at l = ap (repeats_to r p) at ∙ le-leb p (r + k) l

-- and no other
pub reached : (code : List Instr) (r p times k : ℕ) → Repeats code r times k → reaches code (suc r) p ≡ true →
    p ≤ r + k
reached code r p times k at e = leb-true p (r + k) (sym (ap (repeats_to r p) at) ∙ e)

-- each body around a place begins before another place
abbrev pub BeginBefore : List Instr → (place body : ℕ) → Type 0
BeginBefore code p b = (r times k : ℕ) → Repeats code r times k → IsInBody r k p → r < b

-- the innermost body at a place begins no later than there
pub innermost-before : (code : List Instr) (p b : ℕ) → IsInnermost code p b → b ≤ p
innermost-before code p zero i = omega arith
innermost-before code p (suc r) i = let f = i.found r refl in let l : r < p = f.3.0 in omega (arith, l)

-- where a body does not reach the place, the bodies around the place stand around that one
pub before-outer : (code : List Instr) (p r b : ℕ) → suc r ≤ p → BeginBefore code p (suc r) →
    reaches code (suc r) p ≡ false → IsInnermost code r b → BeginBefore code p b
before-outer code p r b l before e inner q times k at body =
    let early : q < suc r = before q times k at body in
    let end : p ≤ q + k = body.1 in
    by_order (nat_le r q) refl early end
  where
    by_order : (t : Bool) → nat_le r q ≡ t → q < suc r → p ≤ q + k → q < b
    by_order true is early end =
        let below : r ≤ q = leb-true r q is in
        let same : q ≡ r = omega (arith, below, early) in
        let rep : Repeats code r times k = ap (slice_get code) (sym same) ∙ at in
        absurd (cc (sym e ∙ rep-reaches code r p times k rep (omega (arith, same, end))))
    by_order false is early end =
        let above : q < r = leb-false r q is in inner.latest q times k at (above, omega (arith, end, l))

-- a list of innermost bodies with one more
pub innermost-more : (code : List Instr) (bodies : List ℕ) (b : ℕ) → AreInnermost code bodies →
    IsInnermost code (length bodies) b → AreInnermost code (bodies ++ b ∷ [])
innermost-more code bodies b are is p l = by_test (nat_le (length bodies) p) refl
  where
    by_test : (t : Bool) → nat_le (length bodies) p ≡ t → IsInnermost code p (get_or (bodies ++ b ∷ []) p 0)
    by_test true e =
        let same : length bodies ≡ p = omega (arith, l, length-append bodies (b ∷ []), leb-true (length bodies) p e) in
        subst (λ q. IsInnermost code q (get_or (bodies ++ b ∷ []) q 0)) same
        (subst (IsInnermost code (length bodies)) (sym (get_or-append_seam bodies b [] 0)) is)
    by_test false e =
        let below : p < length bodies = leb-false (length bodies) p e in
        subst (IsInnermost code p) (sym (get_or-append bodies (b ∷ []) 0 p below)) (are p below)

-- the body around one that does not reach the place begins earlier, and around it all others
pub outer-step : (code : List Instr) (bodies : List ℕ) (p b : ℕ) → AreInnermost code bodies → p ≡ length bodies →
    b ≤ p → BeginBefore code p b → reaches code b p ≡ false →
    (get_or bodies (b - 1) 0 < b) × BeginBefore code p (get_or bodies (b - 1) 0)
outer-step code bodies p zero are len within before e = absurd (cc e)
outer-step code bodies p (suc r) are len within before e =
    let here : suc r - 1 ≡ r = omega arith in
    let inner : IsInnermost code r (get_or bodies r 0) = are r (omega (arith, len, within)) in
    rw here (
      omega (arith, innermost-before code r (get_or bodies r 0) inner),
      before-outer code p r (get_or bodies r 0) within before e inner,
    )
