-- Chosen ranges ascend: each begins above the end of those before it.
use Rattle.std.proofs.Common.{◌≡◌, ℕ, zero, suc, ◌<◌, ◌≤◌, List, [], ◌∷◌, map, None, arith}
use Rattle.tdl_tree.specs.declared.activities.Slots.{Slots}
use Rattle.tdl_rules.specs.Times.{last_of, bad_range, from, ranges}
use Rattle.tdl_slots.specs.declared.chosen.Chosen.{Chosen}
use Rattle.tdl_slots.specs.Choices.{ranges_in}
use Rattle.tdl_slots.proofs.Lawful.{good_first, tested}

-- all ranges begin above slot k
abbrev pub AllAbove : ℕ → List (ℕ × ℕ) → Type 0
AllAbove k [] = Unit {0}
AllAbove k (r ∷ rs) = (k < r.0) × AllAbove k rs

-- each range begins above the end of those before it
abbrev pub Ascending : List (ℕ × ℕ) → Type 0
Ascending [] = Unit {0}
Ascending (r ∷ rs) = AllAbove r.1 rs × Ascending rs

-- and above an earlier slot
above_earlier : (j k : ℕ) (rs : List (ℕ × ℕ)) → j ≤ k → AllAbove k rs → AllAbove j rs
above_earlier j k [] less above = tt
above_earlier j k (r ∷ rs) less above = (omega (arith, less, above.0), above_earlier j k rs less above.1)

-- slots from j on are above those before it
slots_above : (k j n : ℕ) → k < j → AllAbove k (map (λ i. (i, i)) (from j n))
slots_above k j zero less = tt
slots_above k j (suc n) less = (less, slots_above k (suc j) n (omega (arith, less)))

-- and ascend
slots_ascend : (j n : ℕ) → Ascending (map (λ i. (i, i)) (from j n))
slots_ascend j zero = tt
slots_ascend j (suc n) = (slots_above j (suc j) n (omega arith), slots_ascend (suc j) n)

-- ranges that are not bad
ranges_ascend : (f before : ℕ) (slots : List Slots) → bad_range f before slots ≡ None →
    AllAbove before (map (λ (r : Slots). (r.first.value, last_of r)) slots) × Ascending (map (λ (r : Slots). (r.first.value, last_of r)) slots)
ranges_ascend f before [] none = (tt, tt)
ranges_ascend f before (r ∷ more) none =
    let good = good_first f before r more none in
    let law = tested f before r good.0 in
    let rest = ranges_ascend f (last_of r) more good.1 in
    let less : before ≤ last_of r = omega (arith, law.above, law.order) in
    let later = map (λ (s : Slots). (s.first.value, last_of s)) more in
    ((law.above, above_earlier before (last_of r) later less rest.0), (rest.0, rest.1))

-- of lawful numbers
lawful_ascend : (f : ℕ) (slots : List Slots) → bad_range f 0 slots ≡ None → Ascending (ranges f slots)
lawful_ascend f [] none = slots_ascend 1 f
lawful_ascend f (r ∷ more) none = (ranges_ascend f 0 (r ∷ more) none).1

-- those that an activity chooses
pub ascending : (chosen : Chosen) → Ascending (ranges_in chosen)
ascending chosen = lawful_ascend chosen.frequency chosen.slots.now chosen.lawful
