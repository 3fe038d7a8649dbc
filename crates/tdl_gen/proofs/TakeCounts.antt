-- The instructions of the takes of an instant are at most a stub's part of the declared count.
use Rattle.std.proofs.Common.{◌≡◌, ℕ, zero, suc, ◌+◌, ◌*◌, ◌<◌, ◌≤◌, max, List, [], ◌∷◌, map, filter, length, Bool, true, false, ◌==◌, refl, ap, sym, ◌∙◌, arith}
use Rattle.std.specs.Prelude.{if◌then◌else◌}
use Rattle.std.specs.List.{count_by}
use Rattle.std.proofs.lemmas.Bool.{eqb-true, eq-eqb}
use Rattle.std.proofs.lemmas.List.Sums.{length-filter}
use Rattle.tdl_image.specs.declared.stub.Stub.{Stub}
use Rattle.tdl_image.specs.declared.stub.Receive.{Receive}
use Rattle.tdl_verify.specs.States.{EntryNow}
use Rattle.tdl_verify.specs.Turns.{is_at}
use Rattle.tdl_gen.specs.Counts.{greatest, stub_count}
use Rattle.tdl_verify.specs.Covered.{unit}
pub use Rattle.tdl_gen.specs.Takes.{OfMode}
use Rattle.tdl_gen.specs.Takes.{due_count}

-- the number of entries of mode k
abbrev in_mode : ℕ → List Receive → ℕ
in_mode k es = length (filter (λ (d : Receive). d.mode == k) es)

-- one entry more: if it is due, it counts on both sides
one_more : (k : ℕ) (e : Receive) (es : List Receive) (n : ℕ) (b : Bool) → (b ≡ true → e.mode ≡ k) → n ≤ in_mode k es →
    unit b + n ≤ in_mode k (e ∷ es)
one_more k e es n true h le = let q : (e.mode == k) ≡ true = eq-eqb e.mode k (h refl) in rw q (omega (arith, le))
one_more k e es n false h le = by_test (e.mode == k)
  where
    by_test : (c : Bool) → unit false + n ≤ length (if c then e ∷ filter (λ (d : Receive). d.mode == k) es
        else filter (λ (d : Receive). d.mode == k) es)
    by_test true = omega (arith, le)
    by_test false = omega (arith, le)

-- as many entries as are due are of mode k
counted : (x k : ℕ) (es : List Receive) (nows : List EntryNow) → length es ≡ length nows → OfMode x k es nows →
    due_count x nows ≤ in_mode k es
counted x k [] [] size of = omega arith
counted x k [] (now ∷ more) size of = absurd (cc size)
counted x k (e ∷ es) [] size of = absurd (cc size)
counted x k (e ∷ es) (now ∷ more) size of = one_more k e es (due_count x more) (is_at x now.due) of.0
    (counted x k es more (omega (arith, size)) of.1)

-- where some entry is of mode k, the greatest number of entries of one mode is no less than those of k
bounded : (all : List Receive) (k : ℕ) (es : List Receive) → 0 < in_mode k es →
    in_mode k all ≤ greatest (map (λ (e : Receive). count_by (λ (d : Receive). d.mode == e.mode) all) es)
bounded all k [] more = absurd (omega (arith, more))
bounded all k (e ∷ es) more = by_test (bounded all k es) (e.mode == k) refl more
  where
    by_test : (0 < in_mode k es →
        in_mode k all ≤ greatest (map (λ (e : Receive). count_by (λ (d : Receive). d.mode == e.mode) all) es)) →
        (b : Bool) → (e.mode == k) ≡ b →
        0 < length (if b then e ∷ filter (λ (d : Receive). d.mode == k) es
        else filter (λ (d : Receive). d.mode == k) es) →
        in_mode k all ≤ max (count_by (λ (d : Receive). d.mode == e.mode) all)
        (greatest (map (λ (e : Receive). count_by (λ (d : Receive). d.mode == e.mode) all) es))
    by_test go true q lt =
        let same : in_mode k all ≡ count_by (λ (d : Receive). d.mode == e.mode) all =
        ap (λ j. in_mode j all) (sym (eqb-true e.mode k q))
        ∙ length-filter (λ (d : Receive). d.mode == e.mode) all in
        omega (arith, same)
    by_test go false q lt = let h = go lt in omega (arith, h)

-- two instructions for each entry that is due are within the declared count of the stub
pub takes_fit : (x k : ℕ) (p : Stub) (nows : List EntryNow) → length p.entries ≡ length nows →
    OfMode x k p.entries nows → 2 * due_count x nows ≤ stub_count p
takes_fit x k p nows size of = by_count (due_count x nows) refl
  where
    by_count : (n : ℕ) → due_count x nows ≡ n → 2 * n ≤ stub_count p
    by_count zero e = omega arith
    by_count (suc n) e =
        let a = counted x k p.entries nows size of in
        let b = bounded p.entries k p.entries (omega (arith, a, e)) in
        omega (arith, a, b, e)
