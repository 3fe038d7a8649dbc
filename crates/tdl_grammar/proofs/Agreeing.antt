-- Words of parsers that agree on short lists agree on these too.
use Rattle.std.proofs.Common.{◌≡◌, inl, inr, ◌≤◌, arith, ℕ, zero, suc, Bool, List, [], ◌∷◌, length, Ok, refl}
use Rattle.std.proofs.lemmas.List.{length-append}
use Rattle.tdl_grammar.specs.Grammar.{Lang}
use Rattle.tdl_grammar.specs.Parsing.{P, one, both, made, either, maybe, many, tail, chain}
use Rattle.tdl_grammar.specs.Goodness.{Reads, Agree, Shrinks}
use Rattle.tdl_grammar.proofs.Outcomes.{bool_is}
use Rattle.tdl_grammar.proofs.Many.{bind_agree, agree_repeat}

-- a parser that reads a language leaves no more tokens than there were
pub leaves : {T A : Type 0} (p : P T A) (L M : Lang T A) → Reads p L M → (ts rest : List T) (a : A) → p ts ≡ Ok (
  a,
  rest,
) → length rest ≤ length ts
leaves p L M x ts rest a e = let k = x.took ts rest a e in let parts = k.parts in rw parts (omega (
  arith,
  length-append k.front rest,
))

-- of what f makes
pub agree_made : {T A B : Type 0} (k : ℕ) (f : A → B) (p p' : P T A) → Agree k p p' → Agree k (made f p) (made f p')
agree_made k f p p' x ts h = rw (x ts h) refl

-- of one after the other
pub agree_both : {T A B : Type 0} (k : ℕ) (p p' : P T A) (q q' : P T B) (L M : Lang T A) → Reads p' L M →
    Agree k p p' → Agree k q q' → Agree k (both p q) (both p' q')
agree_both k p p' q q' L M r x y ts h =
    rw (x ts h) (bind_agree (p' ts) _ _ (λ u e. rw (y u.1 (let w = leaves p' L M r ts u.1 u.0 e in omega arith)) refl))

-- after one token, on one more
pub agree_after : {T B : Type 0} (k : ℕ) (test : T → Bool) (q q' : P T B) → Agree k q q' →
    Agree (suc k) (both (one test) q) (both (one test) q')
agree_after k test q q' y [] h = refl
agree_after k test q q' y (u ∷ r) h =
    elim (bool_is (test u)) [
      | inl e ↦ rw (e, y r (omega arith)) refl
      | inr e ↦ rw e refl
    ]

-- of the one or the other
pub agree_either : {T A : Type 0} (k : ℕ) (s : T → Bool) (p p' q q' : P T A) → Agree k p p' → Agree k q q' →
    Agree k (either s p q) (either s p' q')
agree_either k s p p' q q' x y ts h = rw (x ts h, y ts h) refl

-- of it or no token
pub agree_maybe : {T A : Type 0} (k : ℕ) (s : T → Bool) (p p' : P T A) → Agree k p p' → Agree k (maybe s p) (maybe s p')
agree_maybe k s p p' x ts h = rw (x ts h) refl

-- of any number
pub agree_many : {T A : Type 0} (k : ℕ) (s : T → Bool) (p p' : P T A) → Shrinks p' → Agree k p p' →
    Agree k (many s p) (many s p')
agree_many k s p p' shrink x ts h = agree_repeat k s p p' shrink x (length ts) (length ts) ts (omega arith)
    (omega arith) h

-- of what stands after a first operand
agree_tail : {T A : Type 0} (k : ℕ) (op : T → Bool) (f : A → T → A → A) (p p' : P T A) → Shrinks p' → Agree k p p' →
    (n : ℕ) (left : A) (ts : List T) →
    length ts ≤ k → tail op f p n left ts ≡ tail op f p' n left ts
agree_tail k op f p p' shrink x zero left ts h = refl
agree_tail k op f p p' shrink x (suc n) left [] h = refl
agree_tail k op f p p' shrink x (suc n) left (t ∷ r) h =
    rw (
      x r (omega arith),
      bind_agree (p' r) (λ u. tail op f p n (f left t u.0) u.1) (λ u. tail op f p' n (f left t u.0) u.1)
          (λ u e. let w = shrink r u.1 u.0 e in agree_tail k op f p p' shrink x n (f left t u.0) u.1 (omega arith)),
    ) refl

-- of operands with operators between them
pub agree_chain : {T A : Type 0} (k : ℕ) (op : T → Bool) (f : A → T → A → A) (p p' : P T A) → Shrinks p' →
    Agree k p p' → Agree k (chain op f p) (chain op f p')
agree_chain k op f p p' shrink x ts h =
    rw (x ts h) (bind_agree (p' ts) (λ u. tail op f p (length u.1) u.0 u.1) (λ u. tail op f p' (length u.1) u.0 u.1)
    (λ u e. let w = shrink ts u.1 u.0 e in agree_tail k op f p p' shrink x (length u.1) u.0 u.1 (omega arith)))
