-- The next offset of a mode, list by list.
use Rattle.std.proofs.Common.{◌≡◌, ℕ, List, [], ◌∷◌, ◌++◌, map, nat_lt, Bool, true, false, refl, ap, sym, ◌∙◌, arith}
use Rattle.std.specs.Prelude.{min, if◌then◌else◌}
use Rattle.std.proofs.lemmas.Bool.{le-ltb}
use Rattle.tdl_mode.specs.declared.program.Mode.{Mode}
use Rattle.tdl_mode.specs.Offsets.{least_above, next_offset}

-- one list after the other
least_above-append : (o : ℕ) (ps qs : List ℕ) (best : ℕ) →
    least_above o (ps ++ qs) best ≡ least_above o qs (least_above o ps best)
least_above-append o [] qs best = refl
least_above-append o (p ∷ ps) qs best = least_above-append o ps qs (if nat_lt o p then min p best else best)

-- 0 is above no offset, and the period is no better than itself
least-first : (o period : ℕ) → least_above o (0 ∷ period ∷ []) period ≡ period
least-first o period =
    ap (λ t. least_above o (period ∷ []) (if t then min 0 period else period)) none ∙ by_test (nat_lt o period)
  where
    none : nat_lt o 0 ≡ false
    none = le-ltb o 0 (omega arith)

    by_test : (t : Bool) → (if t then min period period else period) ≡ period
    by_test true = omega arith
    by_test false = refl

-- all lists
pub next-by_lists : (mode : Mode) (o : ℕ) →
    least_above o (map (λ s. s.at.0) mode.switches)
    (least_above o (map (λ u. u.at.0) mode.updates)
    (least_above o (map (λ i. i.e.0) mode.invocations)
    (least_above o (map (λ i. i.s.0) mode.invocations) mode.period.0)))
    ≡ next_offset mode o
next-by_lists mode o = sym (
    least_above-append o (first ++ starts ++ ends ++ updates) switches mode.period.0
    ∙ ap (least_above o switches) (least_above-append o (first ++ starts ++ ends) updates mode.period.0
    ∙ ap (least_above o updates) (least_above-append o (first ++ starts) ends mode.period.0
    ∙ ap (least_above o ends) (least_above-append o first starts mode.period.0
    ∙ ap (least_above o starts) (least-first o mode.period.0)))))
  where
    first : List ℕ
    first = 0 ∷ mode.period.0 ∷ []

    starts : List ℕ
    starts = map (λ i. i.s.0) mode.invocations

    ends : List ℕ
    ends = map (λ i. i.e.0) mode.invocations

    updates : List ℕ
    updates = map (λ u. u.at.0) mode.updates

    switches : List ℕ
    switches = map (λ s. s.at.0) mode.switches
