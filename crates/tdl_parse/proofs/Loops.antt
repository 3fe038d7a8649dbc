-- What a loop has read of a list, and what is left to read.
use Rattle.std.proofs.Common.{◌≡◌, ℕ, zero, suc, ◌-◌, ◌<◌, Bool, true, false, List, [], ◌∷◌, ◌++◌, length, Ok, Err, refl, sym, ap, append_assoc, arith, ◌⊎◌, inl, inr}
use Rattle.std.proofs.lemmas.List.{append-nil}
use Rattle.tdl_grammar.specs.Grammar.{second, listed}
use Rattle.tdl_grammar.specs.Parsing.{Outcome, P, ◌>>=◌, opens, one, both, made, repeat, many, separated, with_front}

regroup : {T A : Type 0} (front : List A) (a : A) (o : Outcome T (List A)) →
    with_front front (o >>= λ y. Ok (a ∷ y.0, y.1)) ≡ with_front (front ++ a ∷ []) o
regroup {T} {A} front a (Ok y) =
    ap (λ (z : List A). let o : Outcome T (List A) = Ok (z, y.1) in o) (sym (append_assoc front (a ∷ []) y.0))
regroup front a (Err d) = refl

repeat_step : {T A : Type 0} (s : T → Bool) (p : P T A) (n : ℕ) (front : List A) (a : A) (ts rest : List T) →
    opens s ts ≡ true → p ts ≡ Ok (a, rest) →
    with_front (front ++ a ∷ []) (repeat s p n rest) ≡ with_front front (repeat s p (suc n) ts)
repeat_step s p n front a ts rest begun e = sym (rw (begun, e) (regroup front a (repeat s p n rest)))

-- one more item
pub repeat_next : {T A : Type 0} (s : T → Bool) (p : P T A) (m : ℕ) (front : List A) (a : A) (ts rest : List T) →
    0 < m → opens s ts ≡ true → p ts ≡ Ok (a, rest) →
    with_front (front ++ a ∷ []) (repeat s p (m - 1) rest) ≡ with_front front (repeat s p m ts)
repeat_next s p zero front a ts rest more begun e = absurd (omega arith)
repeat_next s p (suc n) front a ts rest more begun e =
    let d : suc n - 1 ≡ n = omega arith in rw d (repeat_step s p n front a ts rest begun e)

-- no more items
pub repeat_end : {T A : Type 0} (s : T → Bool) (p : P T A) (m : ℕ) (front : List A) (ts : List T) →
    (m ≡ 0) ⊎ (opens s ts ≡ false) → with_front front (repeat s p m ts) ≡ Ok (front, ts)
repeat_end s p zero front ts end = rw (append-nil front) refl
repeat_end s p (suc n) front ts (inl e) = absurd cc
repeat_end s p (suc n) front ts (inr e) = rw (e, append-nil front) refl

gathered : {T A : Type 0} (a : A) (o : Outcome T (List A)) →
    with_front (a ∷ []) o ≡ ((o >>= λ y. Ok ((a, y.0), y.1)) >>= λ z. Ok (listed z.0, z.1))
gathered a (Ok y) = refl
gathered a (Err d) = refl

-- the first of a list whose items are separated
separated_first : {T A : Type 0} (op : T → Bool) (p : P T A) (ts rest : List T) (a : A) → p ts ≡ Ok (a, rest) →
    with_front (a ∷ []) (many op (made second (both (one op) p)) rest) ≡ separated op p ts
separated_first op p ts rest a e = rw e (gathered a (many op (made second (both (one op) p)) rest))

-- the loop over such a list begins with its first item
pub separated_begin : {T A : Type 0} (op : T → Bool) (p : P T A) (ts rest : List T) (a : A) (m : ℕ) (items : List A) →
    p ts ≡ Ok (a, rest) → items ≡ a ∷ [] → m ≡ length rest →
    with_front items (repeat op (made second (both (one op) p)) m rest) ≡ separated op p ts
separated_begin op p ts rest a m items e filled all = rw (filled, all) (separated_first op p ts rest a e)
