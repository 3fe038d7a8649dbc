-- Tests of finitely many kinds are compared by computing.
use Rattle.std.proofs.Common.{◌≡◌, ℕ, zero, suc, Bool, true, false, cond, not, List, [], ◌∷◌, refl}
use Rattle.tdl_grammar.specs.Goodness.{Apart, Within}

-- all of them hold
abbrev pub all_true : List Bool → Bool
all_true [] = true
all_true (b ∷ bs) = cond b (all_true bs) false

-- the answer at a place, and true after the end
abbrev pub answer_at : List Bool → ℕ → Bool
answer_at [] n = true
answer_at (b ∷ bs) zero = b
answer_at (b ∷ bs) (suc n) = answer_at bs n

-- where all hold, each does
pub at_true : (bs : List Bool) (n : ℕ) → all_true bs ≡ true → answer_at bs n ≡ true
at_true [] n e = refl
at_true (true ∷ bs) zero e = refl
at_true (true ∷ bs) (suc n) e = at_true bs n e
at_true (false ∷ bs) n e = absurd (cc e)

-- `values` asks a test at all there is
abbrev pub Covers : {K : Type 0} → ((K → Bool) → List Bool) → Type 0
Covers {K} values = (f : K → Bool) → all_true (values f) ≡ true → (j : K) → f j ≡ true

-- the one, if it holds, with the other
abbrev pub implies : Bool → Bool → Bool
implies true c = c
implies false c = true

-- the other holds where the one does
implies_then : (b c : Bool) → implies b c ≡ true → b ≡ true → c ≡ true
implies_then true c e h = e
implies_then false c e h = absurd (cc h)

-- what does not hold is false
not_false : (b : Bool) → not b ≡ true → b ≡ false
not_false true e = absurd (cc e)
not_false false e = refl

-- no kind is in both, by computing
pub apart_by : {K : Type 0} (values : (K → Bool) → List Bool) → Covers values → (goes starts : K → Bool) →
    all_true (values (λ j. implies (starts j) (not (goes j)))) ≡ true → Apart goes starts
apart_by values covers goes starts e j h =
    not_false (goes j) (implies_then (starts j) (not (goes j)) (covers (λ i. implies (starts i) (not (goes i))) e j) h)

-- each kind of the one is one of the other, by computing
pub within_by : {K : Type 0} (values : (K → Bool) → List Bool) → Covers values → (s s' : K → Bool) →
    all_true (values (λ j. implies (s j) (s' j))) ≡ true → Within s s'
within_by values covers s s' e j h = implies_then (s j) (s' j) (covers (λ i. implies (s i) (s' i)) e j) h
