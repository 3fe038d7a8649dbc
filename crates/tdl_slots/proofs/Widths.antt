-- Slots of one width: what a frequency that divides the period gives.
use Rattle.std.proofs.Common.{◌≡◌, ℕ, suc, ◌<◌, ◌+◌, ◌-◌, ◌*◌, ◌/◌, ◌%◌, List, [], ◌∷◌, ◌++◌, map, refl, sym, ap, ap₂, ◌∙◌, arith}
use Rattle.std.proofs.lemmas.Nat.{div-add-mod', div-mul-add}
use Rattle.tdl_rules.specs.Lists.{each}
use Rattle.tdl_rules.specs.Times.{Let, let_of, slot_ends, from}
use Rattle.tdl_slots.specs.Choices.{span_of, ends_of}

-- slots that end where the period's parts end
pub slot_end : (period frequency i : ℕ) → 0 < frequency → period % frequency ≡ 0 → i * period / frequency ≡ i * (period / frequency)
slot_end period frequency i some whole =
    let width = period / frequency in
    let parts : period ≡ width * frequency = omega (arith, div-add-mod' period frequency) in
    let turned : i * period ≡ i * width * frequency + 0 = ap (λ (z : ℕ). i * z) parts ∙ omega arith in
    ap (λ (z : ℕ). z / frequency) turned ∙ div-mul-add (i * width) frequency 0 some

-- the logical execution time of a range
pub span-width : (period frequency : ℕ) (range : ℕ × ℕ) → 0 < frequency → period % frequency ≡ 0 →
    span_of (period / frequency) range ≡ let_of frequency period range
span-width period frequency range some whole =
    ap₂ (λ (x y : ℕ). record { s = x; e = y }) (sym (slot_end period frequency (range.0 - 1) some whole)) (sym (slot_end period frequency range.1 some whole))

-- and of each range
pub spans-width : (period frequency : ℕ) (rs : List (ℕ × ℕ)) → 0 < frequency → period % frequency ≡ 0 →
    map (span_of (period / frequency)) rs ≡ map (let_of frequency period) rs
spans-width period frequency [] some whole = refl
spans-width period frequency (r ∷ rs) some whole =
    ap₂ (λ (x : Let) (xs : List Let). x ∷ xs) (span-width period frequency r some whole) (spans-width period frequency rs some whole)

-- the ends of slots
ends-width : (period frequency : ℕ) (slots : List ℕ) → 0 < frequency → period % frequency ≡ 0 →
    map (λ i. i * (period / frequency)) slots ≡ map (λ i. i * period / frequency) slots
ends-width period frequency [] some whole = refl
ends-width period frequency (i ∷ is) some whole =
    ap₂ (λ (x : ℕ) (xs : List ℕ). x ∷ xs) (sym (slot_end period frequency i some whole)) (ends-width period frequency is some whole)

-- and of those of each range
pub offsets-width : (period frequency : ℕ) (rs : List (ℕ × ℕ)) → 0 < frequency → period % frequency ≡ 0 →
    each (ends_of (period / frequency)) rs ≡ each (slot_ends frequency period) rs
offsets-width period frequency [] some whole = refl
offsets-width period frequency (r ∷ rs) some whole =
    ap₂ (λ (x y : List ℕ). x ++ y) (ends-width period frequency (from r.0 (suc r.1 - r.0)) some whole) (offsets-width period frequency rs some whole)
