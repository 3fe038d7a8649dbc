-- Receive entries in ascending order of mode and invocation, and numbered anew.
use Rattle.std.proofs.Common.{◌≡◌, ℕ, zero, suc, ◌+◌, ◌<◌, ◌≤◌, List, [], ◌∷◌, ◌++◌, length, Some, refl, ap, sym, ◌∙◌, subst, inl, inr, arith}
use Rattle.std.specs.Prelude.{◌⊎◌, slice_get}
use Rattle.std.proofs.lemmas.Option.{same_Some}
use Rattle.tdl_base.specs.Lists.{numbered}
use Rattle.tdl_image.specs.declared.stub.Receive.{Receive}
use Rattle.tdl_base.proofs.ListPlaces.{In}

-- an entry of mode k from invocation n on, or of a later mode
abbrev Later : ℕ → ℕ → Receive → Type 0
Later k n e = (k < e.mode) ⊎ ((e.mode ≡ k) × (n ≤ e.invocation))

-- entries in ascending order from (k, n) on, no two of one invocation
abbrev pub Ascending : ℕ → ℕ → List Receive → Type 0
Ascending k n [] = Unit {0}
Ascending k n (e ∷ es) = Later k n e × Ascending e.mode (suc e.invocation) es

-- what is later than a later place is later
later-on : (k n k' n' : ℕ) (e : Receive) → (k < k') ⊎ ((k' ≡ k) × (n ≤ n')) → Later k' n' e → Later k n e
later-on k n k' n' e (inl lt) (inl l) = inl (omega (arith, lt, l))
later-on k n k' n' e (inl lt) (inr l) = let m = l.0 in inl (omega (arith, lt, m))
later-on k n k' n' e (inr s) (inl l) = let m = s.0 in inl (omega (arith, l, m))
later-on k n k' n' e (inr s) (inr l) =
    let a = s.1 in
    let b = l.1 in
    inr (l.0 ∙ s.0, omega (arith, a, b))

-- entries that ascend from a place ascend from each earlier one
pub ascending-from : (k n k' n' : ℕ) (es : List Receive) → (k < k') ⊎ ((k' ≡ k) × (n ≤ n')) → Ascending k' n' es →
    Ascending k n es
ascending-from k n k' n' [] s a = tt
ascending-from k n k' n' (e ∷ es) s a = (later-on k n k' n' e s a.0, a.1)

-- entries that ascend from a place are all later than it
all-later : (k n : ℕ) (es : List Receive) → Ascending k n es → (j : ℕ) (e : Receive) → slice_get es j ≡ Some e →
    Later k n e
all-later k n [] a j e at = absurd (cc at)
all-later k n (d ∷ es) a zero e at = subst (Later k n) (same_Some d e at) a.0
all-later k n (d ∷ es) a (suc j) e at = later-on k n d.mode (suc d.invocation) e (step a.0)
    (all-later d.mode (suc d.invocation) es a.1 j e at)
  where
    step : Later k n d → (k < d.mode) ⊎ ((d.mode ≡ k) × (n ≤ suc d.invocation))
    step (inl l) = inl l
    step (inr l) = let b = l.1 in inr (l.0, omega (arith, b))

-- of entries that ascend no two are of one invocation
pub ascending-distinct : (k n : ℕ) (es : List Receive) → Ascending k n es → (i j : ℕ) (d e : Receive) → i < j →
    slice_get es i ≡ Some d → slice_get es j ≡ Some e → d.mode ≡ e.mode → d.invocation ≡ e.invocation → ⊥
ascending-distinct k n [] a i j d e lt ai bj m v = cc ai
ascending-distinct k n (c ∷ es) a i zero d e lt ai bj m v = omega (arith, lt)
ascending-distinct k n (c ∷ es) a (suc i) (suc j) d e lt ai bj m v =
    ascending-distinct c.mode (suc c.invocation) es a.1 i j d e (omega (arith, lt)) ai bj m v
ascending-distinct k n (c ∷ es) a zero (suc j) d e lt ai bj m v =
    apart (all-later c.mode (suc c.invocation) es a.1 j e bj)
  where
    same : c.mode ≡ d.mode
    same = ap (λ (e : Receive). e.mode) (same_Some c d ai)

    same' : c.invocation ≡ d.invocation
    same' = ap (λ (e : Receive). e.invocation) (same_Some c d ai)

    apart : Later c.mode (suc c.invocation) e → ⊥
    apart (inl l) = omega (arith, l, same, m)
    apart (inr l) = let b = l.1 in omega (arith, b, same', v)

-- entries that ascend below a place ascend together with those that ascend from it
pub ascending-append : (k n k' n' : ℕ) (xs ys : List Receive) → (k < k') ⊎ ((k' ≡ k) × (n ≤ n')) → Ascending k n xs →
    ((j : ℕ) (e : Receive) → slice_get xs j ≡ Some e → (e.mode < k') ⊎ ((k' ≡ e.mode) × (suc e.invocation ≤ n'))) →
    Ascending k' n' ys → Ascending k n (xs ++ ys)
ascending-append k n k' n' [] ys s a below b = ascending-from k n k' n' ys s b
ascending-append k n k' n' (e ∷ xs) ys s a below b =
    (a.0, ascending-append e.mode (suc e.invocation) k' n' xs ys (below 0 e refl) a.1 (λ j d at. below (suc j) d at) b)

-- the entry with the block of this number
abbrev pub renumber : ℕ → Receive → Receive
renumber r e = record e { block = r }

-- to number blocks keeps the order
pub ascending-renumbered : (k n r : ℕ) (es : List Receive) → Ascending k n es → Ascending k n (numbered r renumber es)
ascending-renumbered k n r [] a = tt
ascending-renumbered k n r (e ∷ es) a = (a.0, ascending-renumbered e.mode (suc e.invocation) (suc r) es a.1)

-- to number the blocks of two lists joined
pub renumbered-append : (r : ℕ) (xs ys : List Receive) →
    numbered r renumber (xs ++ ys) ≡ numbered r renumber xs ++ numbered (r + length xs) renumber ys
renumbered-append r [] ys =
    let z : r ≡ r + 0 = omega arith in
    ap (λ k. numbered k renumber ys) z
renumbered-append r (x ∷ xs) ys =
    let z : suc r + length xs ≡ r + suc (length xs) = omega arith in
    ap (λ l. renumber r x ∷ l)
    (renumbered-append (suc r) xs ys ∙ ap (λ k. numbered (suc r) renumber xs ++ numbered k renumber ys) z)

-- the entry before its block was numbered
pub record Unnumbered (es : List Receive) (e : Receive) : Type 0 where
  pub old : Receive
  pub within : In old es
  pub mode' : e.mode ≡ old.mode
  pub invocation' : e.invocation ≡ old.invocation
  pub task' : e.task ≡ old.task

-- each entry whose block is numbered was one before
pub unnumbered : (r : ℕ) (es : List Receive) (j : ℕ) (e : Receive) →
    slice_get (numbered r renumber es) j ≡ Some e → Unnumbered es e
unnumbered r [] j e at = absurd (cc at)
unnumbered r (d ∷ es) zero e at = record {
  old = d;
  within = record { place = 0; at = refl };
  mode' = ap (λ (e : Receive). e.mode) (sym (same_Some (renumber r d) e at));
  invocation' = ap (λ (e : Receive). e.invocation) (sym (same_Some (renumber r d) e at));
  task' = ap (λ (e : Receive). e.task) (sym (same_Some (renumber r d) e at));
}
unnumbered r (d ∷ es) (suc j) e at =
    let o = unnumbered (suc r) es j e at in
    record {
      old = o.old;
      within = record { place = suc o.within.place; at = o.within.at };
      mode' = o.mode';
      invocation' = o.invocation';
      task' = o.task';
    }
