-- The cells of a job that begins to work, one after the other.
use Rattle.std.proofs.Common.{◌≡◌, ℕ, ◌+◌, ◌-◌, ◌≤◌, ◌<◌, ℤ, pos, List, [], ◌∷◌, ◌++◌, length, take, get_or, set, replicate, ap, ap₂, sym, ◌∙◌, add-one, arith}
use Rattle.tdl_logic.specs.Standing.{filled}
use Rattle.std.proofs.Math.Seq.{take-length, take-suc, take-suc-set}
use Rattle.std.proofs.lemmas.List.{length-append, length-replicate}

-- numbers that agree up to their length are equal
pub all-so_far : (values values' : List ℤ) (n : ℕ) → take n values ≡ take n values' → length values ≡ n →
    length values' ≡ n → values ≡ values'
all-so_far values values' n same here there =
    sym (take-all values n here) ∙ same ∙ take-all values' n there
  where
    take-all : (vs : List ℤ) (k : ℕ) → length vs ≡ k → take k vs ≡ vs
    take-all vs k e = sym (ap (λ m. take m vs) e) ∙ take-length vs

-- one number more
pub one_more : (values values' : List ℤ) (i : ℕ) (v : ℤ) → i < length values → i < length values' →
    take i values ≡ take i values' → v ≡ get_or values' i (pos 0) → take (i + 1) (set values i v) ≡ take (i + 1) values'
one_more values values' i v here there same is =
    ap (λ k. take k (set values i v)) (add-one i)
    ∙ take-suc-set values i v here
    ∙ ap₂ (λ vs x. vs ++ x ∷ []) same is
    ∙ sym (take-suc values' i (pos 0) there)
    ∙ sym (ap (λ k. take k values') (add-one i))

-- as many cells as there are
pub filled-length : (inputs outputs : List ℤ) (n : ℕ) → length inputs + length outputs ≤ n →
    length (filled inputs outputs n) ≡ n
filled-length inputs outputs n room =
    let zeros = n - (length inputs + length outputs) in
    omega (
      arith,
      room,
      length-append inputs outputs,
      length-append (inputs ++ outputs) (replicate zeros (pos 0)),
      length-replicate zeros (pos 0),
    )
