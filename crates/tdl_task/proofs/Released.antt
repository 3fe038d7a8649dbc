-- The numbers of a release, cell by cell.
use Rattle.std.proofs.Common.{◌≡◌, ℕ, zero, suc, ◌+◌, ◌-◌, ◌<◌, ◌≤◌, ℤ, pos, List, [], ◌∷◌, ◌++◌, length, get_or, set, take, replicate, refl, sym, ap, ap₂, ◌∙◌, add-one, arith}
use Rattle.std.proofs.Math.Seq.{get_or-append_right, take-length, take-suc, take-suc-set}
use Rattle.std.proofs.lemmas.List.{get_or_append_left, get_or-replicate, length-append, length-replicate}
use Rattle.tdl_base.specs.declared.kinds.Kind.{Kind}
use Rattle.tdl_base.specs.Numbers.{narrowed}
use Rattle.tdl_task.specs.Jobs.{narrowed_each, released_values}

-- as many numbers are narrowed as there are
narrowed-length : (ks : List Kind) (vs : List ℤ) → length vs ≤ length ks → length (narrowed_each ks vs) ≡ length vs
narrowed-length [] [] h = refl
narrowed-length [] (v ∷ vs) h = absurd (omega (arith, h))
narrowed-length (k ∷ ks) [] h = refl
narrowed-length (k ∷ ks) (v ∷ vs) h =
    let l : length vs ≤ length ks = omega (arith, h) in ap suc (narrowed-length ks vs l)

-- each to its kind
narrowed-at : (ks : List Kind) (vs : List ℤ) (i : ℕ) (d : Kind) → i < length vs → length vs ≤ length ks →
    get_or (narrowed_each ks vs) i (pos 0) ≡ narrowed (get_or ks i d) (get_or vs i (pos 0))
narrowed-at ks [] i d here h = absurd (omega (arith, here))
narrowed-at [] (v ∷ vs) i d here h = absurd (omega (arith, h))
narrowed-at (k ∷ ks) (v ∷ vs) zero d here h = refl
narrowed-at (k ∷ ks) (v ∷ vs) (suc i) d here h =
    let l : length vs ≤ length ks = omega (arith, h) in
    let m : i < length vs = omega (arith, here) in narrowed-at ks vs i d m l

module _ (kinds : List Kind) (inputs outputs : List ℤ) (room : length inputs + length outputs ≤ length kinds) where
  -- the narrowed inputs
  abbrev first : List ℤ
  first = narrowed_each kinds inputs

  -- the locals
  abbrev zeros : List ℤ
  zeros = replicate (length kinds - (length inputs + length outputs)) (pos 0)

  first-length : length first ≡ length inputs
  first-length = narrowed-length kinds inputs (omega arith)

  both-length : length (first ++ outputs) ≡ length inputs + length outputs
  both-length = let e = first-length in omega (arith, e, length-append first outputs)

  -- each cell has a number
  pub released-length : length (released_values kinds inputs outputs) ≡ length kinds
  released-length =
      let e = both-length in
      let f = length-replicate (length kinds - (length inputs + length outputs)) (pos 0) in
      omega (arith, e, f, length-append (first ++ outputs) zeros)

  -- an input
  pub released-input : (at : ℕ) (d : Kind) → at < length inputs →
      get_or (released_values kinds inputs outputs) at (pos 0) ≡ narrowed (get_or kinds at d) (get_or inputs at (pos 0))
  released-input at d here =
      let e = both-length in
      let f = first-length in
      get_or_append_left (first ++ outputs) zeros (pos 0) at (omega (arith, e))
      ∙ get_or_append_left first outputs (pos 0) at (omega (arith, f))
      ∙ narrowed-at kinds inputs at d here (omega arith)

  -- an output
  pub released-output : (at : ℕ) → length inputs ≤ at → at - length inputs < length outputs →
      get_or (released_values kinds inputs outputs) at (pos 0) ≡ get_or outputs (at - length inputs) (pos 0)
  released-output at after here =
      let e = both-length in
      let f = first-length in
      get_or_append_left (first ++ outputs) zeros (pos 0) at (omega (arith, e))
      ∙ get_or-append_right first outputs at (pos 0) (omega (arith, f))
      ∙ ap (λ n. get_or outputs (at - n) (pos 0)) f

  -- a local
  pub released-local : (at : ℕ) → length inputs ≤ at → length outputs ≤ at - length inputs → at < length kinds →
      get_or (released_values kinds inputs outputs) at (pos 0) ≡ pos 0
  released-local at after beyond here =
      let e = both-length in
      get_or-append_right (first ++ outputs) zeros at (pos 0) (omega (arith, e))
      ∙ get_or-replicate (length kinds - (length inputs + length outputs)) (at - length (first ++ outputs)) (pos 0) (pos 0)
      (omega (arith, e))

-- numbers that agree up to their length are equal
pub all-so_far : (values values' : List ℤ) (n : ℕ) → take n values ≡ take n values' → length values ≡ n →
    length values' ≡ n → values ≡ values'
all-so_far values values' n same here there =
    sym (take-all values n here) ∙ same ∙ take-all values' n there
  where
    take-all : (vs : List ℤ) (k : ℕ) → length vs ≡ k → take k vs ≡ vs
    take-all vs k e = sym (ap (λ m. take m vs) e) ∙ take-length vs

-- one number more
pub one_more : (values values' : List ℤ) (i : ℕ) (v : ℤ) → i < length values → i < length values' →
    take i values ≡ take i values' → v ≡ get_or values' i (pos 0) → take (i + 1) (set values i v) ≡ take (i + 1) values'
one_more values values' i v here there same is =
    ap (λ k. take k (set values i v)) (add-one i)
    ∙ take-suc-set values i v here
    ∙ ap₂ (λ vs x. vs ++ x ∷ []) same is
    ∙ sym (take-suc values' i (pos 0) there)
    ∙ sym (ap (λ k. take k values') (add-one i))
