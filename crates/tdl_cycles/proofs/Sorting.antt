-- Instants that are sorted, and of which repeats are left out.
use Rattle.std.proofs.Common.{◌≡◌, ℕ, suc, List, [], ◌∷◌, ◌++◌, map, Bool, true, false, ◌||◌, ◌==◌, cond, refl, ap, sym, ◌∙◌, arith}
use Rattle.std.specs.List.{list_any, dedup, dedup_from}
use Rattle.std.specs.List.Sorted.{IsPermutation, IsSorted, IsStrictlySortedBy}
use Rattle.std.specs.Ordering.{nat_cmp, on}
use Rattle.std.specs.declared.cmp.Ordering.{Ordering}
use Rattle.std.specs.declared.cmp.Ordering.TheVariants.{Less}
use Rattle.std.specs.Cmp.{unsigned_ties}
use Rattle.std.proofs.lemmas.Cmp.{ranked, on_total, nat_cmp_total}
use Rattle.std.proofs.lemmas.Bool.{eqb-true}
use Rattle.std.proofs.lemmas.List.Kept.{IsStrictlySortedBy-dedup}
use Rattle.std.proofs.lemmas.List.Sorted.{list_any-IsPermutation}
use Rattle.tdl_base.specs.declared.numbers.Us.{Us}
use Rattle.tdl_mode.specs.declared.program.Mode.{Mode}
use Rattle.tdl_mode.specs.declared.program.Invocation.{Invocation}
use Rattle.tdl_mode.specs.declared.program.Update.{Update}
use Rattle.tdl_mode.specs.declared.program.Switch.{Switch}
use Rattle.tdl_mode.specs.Offsets.{ascending, offset_list}
use Rattle.tdl_cycles.specs.Instants.{instants_of}
use Rattle.tdl_cycles.proofs.Rising.{Rises, has, is_ascending}

-- instants in the order of their numbers
abbrev pub in_order : Us → Us → Ordering
in_order = on (λ u. u.0) nat_cmp

-- instants of one number
abbrev pub is_same : Us → Us → Bool
is_same u v = u.0 == v.0

-- the numbers of instants
abbrev pub numbers_of : List Us → List ℕ
numbers_of us = map (λ u. u.0) us

-- an instant of the number o is among them
abbrev has_instant : ℕ → List Us → Bool
has_instant o us = list_any (λ u. u.0 == o) us

-- o is among their numbers
has-numbers : (o : ℕ) (us : List Us) → has o (numbers_of us) ≡ has_instant o us
has-numbers o [] = refl
has-numbers o (u ∷ us) = ap (λ t. (u.0 == o) || t) (has-numbers o us)

-- where repeats are left out, no number is lost and none comes
dedup_from-has : (o : ℕ) (k : Us) (us : List Us) →
    has_instant o (dedup_from is_same k us) ≡ ((k.0 == o) || has_instant o us)
dedup_from-has o k [] = refl
dedup_from-has o k (u ∷ us) = by_test (dedup_from-has o k us) (dedup_from-has o u us) (is_same u k) refl
  where
    twice : (a b : Bool) → (a || b) ≡ (a || (a || b))
    twice true b = refl
    twice false b = refl

    by_test : has_instant o (dedup_from is_same k us) ≡ ((k.0 == o) || has_instant o us) →
        has_instant o (dedup_from is_same u us) ≡ ((u.0 == o) || has_instant o us) → (t : Bool) → is_same u k ≡ t →
        has_instant o (cond t (dedup_from is_same k us) (k ∷ dedup_from is_same u us))
        ≡ ((k.0 == o) || ((u.0 == o) || has_instant o us))
    by_test same next true e =
        same ∙ twice (k.0 == o) (has_instant o us)
        ∙ ap (λ n. (k.0 == o) || ((n == o) || has_instant o us)) (sym (eqb-true u.0 k.0 e))
    by_test same next false e = ap (λ t. (k.0 == o) || t) next

-- the same of the whole list
dedup-has : (o : ℕ) (us : List Us) → has_instant o (dedup is_same us) ≡ has_instant o us
dedup-has o [] = refl
dedup-has o (u ∷ us) = dedup_from-has o u us

-- the numbers of strictly sorted instants rise after one that comes before them
sorted_after : (u : Us) (us : List Us) → IsStrictlySortedBy in_order (u ∷ us) → Rises (suc u.0) (numbers_of us)
unfolding IsStrictlySortedBy
sorted_after u [] sorted = tt
sorted_after u (v ∷ us) sorted = (ranked u.0 v.0 Less (sym sorted.0.0), sorted_after v us sorted.1)

-- and so those of all
sorted-rises : (us : List Us) → IsStrictlySortedBy in_order us → Rises 0 (numbers_of us)
sorted-rises [] sorted = tt
sorted-rises (u ∷ us) sorted = (omega arith, sorted_after u us sorted)

-- instants that are sorted, without repeats, are the ascending list of their numbers
pub sorted_is_ascending : (all sorted left : List Us) → IsPermutation all sorted → IsSorted in_order sorted →
    left ≡ dedup is_same sorted → numbers_of left ≡ ascending (numbers_of all)
sorted_is_ascending all sorted left moved rises kept =
    ap numbers_of kept
    ∙ is_ascending (numbers_of (dedup is_same sorted)) (numbers_of all)
    (sorted-rises (dedup is_same sorted)
    (IsStrictlySortedBy-dedup (on_total (λ (u : Us). u.0) nat_cmp_total) (λ u v. unsigned_ties u.0 v.0) sorted rises))
    (λ o. has-numbers o (dedup is_same sorted) ∙ dedup-has o sorted
    ∙ sym (list_any-IsPermutation (λ u. u.0 == o) all sorted moved) ∙ sym (has-numbers o all))

-- the numbers of instants, and of those that are taken from items after them
numbers_of-more : {X : Type 0} (at : X → Us) (us : List Us) (xs : List X) →
    numbers_of (us ++ map at xs) ≡ numbers_of us ++ map (λ x. (at x).0) xs
numbers_of-more at [] [] = refl
numbers_of-more at [] (x ∷ xs) = ap (λ os. (at x).0 ∷ os) (numbers_of-more at [] xs)
numbers_of-more at (u ∷ us) xs = ap (λ os. u.0 ∷ os) (numbers_of-more at us xs)

-- the instants of a mode have the numbers of its offsets
pub numbers_of-instants : (mode : Mode) → numbers_of (instants_of mode) ≡ offset_list mode
numbers_of-instants mode =
    let first : List Us = record { 0 = 0 } ∷ mode.period ∷ [] in
    let starts : List Us = first ++ map (λ (i : Invocation). i.s) mode.invocations in
    let ends : List Us = starts ++ map (λ (i : Invocation). i.e) mode.invocations in
    let updates : List Us = ends ++ map (λ (u : Update). u.at) mode.updates in
    numbers_of-more (λ (w : Switch). w.at) updates mode.switches
    ∙ ap (λ os. os ++ map (λ (w : Switch). w.at.0) mode.switches)
    (numbers_of-more (λ (u : Update). u.at) ends mode.updates
    ∙ ap (λ os. os ++ map (λ (u : Update). u.at.0) mode.updates)
    (numbers_of-more (λ (i : Invocation). i.e) starts mode.invocations
    ∙ ap (λ os. os ++ map (λ (i : Invocation). i.e.0) mode.invocations)
    (numbers_of-more (λ (i : Invocation). i.s) first mode.invocations)))
