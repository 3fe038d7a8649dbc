-- Any number of texts, and texts of at most so many tokens, that end too early.
use Rattle.std.proofs.Common.{◌≡◌, ◌∙◌, inl, inr, ◌≤◌, arith, ℕ, zero, suc, Bool, true, false, List, [], ◌∷◌, ◌++◌, length, take, drop, Ok, Err, refl, sym, ap, subst, append_assoc}
use Rattle.std.proofs.lemmas.List.{append-nil, take-append-drop, length-take, length-append}
use Rattle.tdl_grammar.specs.Grammar as G
use Rattle.tdl_grammar.specs.Grammar.{Lang, second, listed, joined, some_depth}
use Rattle.tdl_grammar.specs.Counting.{at_most_counted}
use Rattle.tdl_grammar.specs.Parsing.{Outcome, P, ◌>>=◌, opens, repeat, many, separated, chain, close, capped}
use Rattle.tdl_grammar.proofs.Outcomes.{bind_ok, bind_err, given_is, chosen}
use Rattle.tdl_grammar.proofs.Chains.{chain_is}
use Rattle.tdl_grammar.proofs.Limiting.{counted-append, counted-most}
use Rattle.tdl_grammar.proofs.Ending.{Rest, Taken, Ends, ends_one, ends_both, ends_made, ends_same}

-- a first item and others are items
taken_items : {T A : Type 0} (L : Lang T A) (ts mid rest : List T) (a : A) (xs : List A) → Taken L ts mid a →
    Taken (G.many L) mid rest xs → Taken (G.many L) ts rest (a ∷ xs)
taken_items {T} L ts mid rest a xs f g = record {
  front = f.front ++ g.front;
  parts = f.parts ∙ ap (λ (z : List T). f.front ++ z) g.parts ∙ sym (append_assoc f.front g.front rest);
  text = (f.front, g.front, f.text, g.text, refl);
}

-- what is read as items
repeat_takes : {T A : Type 0} (u s : T → Bool) (p : P T A) (L : Lang T A) → Ends u p L → (n : ℕ) →
    (ts rest : List T) (xs : List A) → repeat s p n ts ≡ Ok (xs, rest) → Taken (G.many L) ts rest xs
repeat_takes {T} {A} u s p L x zero ts rest xs e =
    subst (λ (z : List A × List T). Taken (G.many L) ts z.1 z.0) (given_is ([], ts) (xs, rest) e)
    (record { front = []; parts = refl; text = refl })
repeat_takes {T} {A} u s p L x (suc n) ts rest xs e =
    elim (chosen (opens s ts) _ _ _ e) [
      | inl h ↦
          let k = bind_ok (p ts) (λ v. repeat s p n v.1 >>= λ w. Ok (v.0 ∷ w.0, w.1)) (xs, rest) h.1 in
          let i = bind_ok (repeat s p n k.0.1) (λ w. Ok (k.0.0 ∷ w.0, w.1)) (xs, rest) k.2 in
          subst (λ (z : List A × List T). Taken (G.many L) ts z.1 z.0) (given_is (k.0.0 ∷ i.0.0, i.0.1)
          (xs, rest) i.2)
          (taken_items L ts k.0.1 i.0.1 k.0.0 i.0.0 (x.takes ts k.0.1 k.0.0 k.1)
          (repeat_takes u s p L x n k.0.1 i.0.1 i.0.0 i.1))
      | inr h ↦ subst (λ (z : List A × List T). Taken (G.many L) ts z.1 z.0) (given_is ([], ts) (xs, rest) h.1)
          (record { front = []; parts = refl; text = refl })
    ]

-- the last item ends too early
repeat_goes_on : {T A : Type 0} (u s : T → Bool) (p : P T A) (L : Lang T A) → Ends u p L → (n : ℕ) →
    (ts : List T) → repeat s p n ts ≡ Err [] → Rest u (G.many L) ts
repeat_goes_on u s p L x zero ts e = absurd (cc e)
repeat_goes_on {T} {A} u s p L x (suc n) ts e =
    elim (chosen (opens s ts) _ _ _ e) [
      | inl h ↦ elim (bind_err (p ts) (λ v. repeat s p n v.1 >>= λ w. Ok (v.0 ∷ w.0, w.1)) [] h.1) [
        | inl d ↦
            let r = x.goes_on ts d in
            record {
              more = r.more;
              tree = r.tree ∷ [];
              none = r.none;
              text = (
                ts ++ r.more,
                [],
                r.text,
                refl,
                sym
                    (append-nil (ts ++ r.more)),
              );
            }
        | inr k ↦ elim (bind_err (repeat s p n k.0.1) (λ w. Ok (k.0.0 ∷ w.0, w.1)) [] k.2) [
          | inl d ↦
              let f = x.takes ts k.0.1 k.0.0 k.1 in
              let r = repeat_goes_on u s p L x n k.0.1 d in
              record {
                more = r.more;
                tree = k.0.0 ∷ r.tree;
                none = r.none;
                text = (
                  f.front,
                  k.0.1 ++ r.more,
                  f.text,
                  r.text,
                  ap (λ (z : List T). z ++ r.more) f.parts ∙
                      append_assoc f.front k.0.1 r.more,
                );
              }
          | inr i ↦ absurd (let d = i.2 in cc)
        ]
      ]
      | inr h ↦ absurd (let d = h.1 in cc)
    ]

-- any number of them
pub ends_many : {T A : Type 0} {u s : T → Bool} {p : P T A} {L : Lang T A} → Ends u p L → Ends u (many s p) (G.many L)
ends_many {T} {A} {u} {s} {p} {L} x = record {
  takes = λ ts. repeat_takes u s p L x (length ts) ts;
  goes_on = λ ts. repeat_goes_on u s p L x (length ts) ts;
  some = record { more = []; tree = []; none = refl; text = refl };
}

-- x { op x }, joined to the left; `some` is an operator that does not count
pub ends_chain : {T A : Type 0} {u : T → Bool} (op : T → Bool) (some : T) → op some ≡ true → u some ≡ false →
    (f : A → T → A → A) {p : P T A} {L : Lang T A} → Ends u p L → Ends u (chain op f p) (G.chain op f L)
ends_chain {T} {A} {u} op some h n f {p} {L} x =
    ends_same (chain_is op f p) (ends_made (λ z. joined f z.0 z.1) (ends_both x (ends_many (ends_both
    (ends_one op some h n) x))))

-- x { op x }, the trees of x
pub ends_separated : {T A : Type 0} {u : T → Bool} (op : T → Bool) (some : T) → op some ≡ true → u some ≡ false →
    {p : P T A} {L : Lang T A} → Ends u p L → Ends u (separated op p) (G.separated op L)
ends_separated {T} {A} {u} op some h n {p} {L} x = ends_made listed (ends_both x (ends_many (ends_made second
    (ends_both (ends_one op some h n) x))))

-- ---- at most so many tokens that count

-- what a cap answers at the end is what the parser answers there
cap_ends : {T A : Type 0} (g : T → Bool) (o : Outcome T A) (over : List T) → close g o over ≡ Err [] →
    (o ≡ Err []) × (over ≡ [])
cap_ends g (Ok (a, [])) [] e = absurd (cc e)
cap_ends g (Ok (a, [])) (v ∷ vs) e =
    elim (chosen (g v) _ _ _ e) [
      | inl h ↦ absurd (let d = h.1 in cc)
      | inr h ↦ absurd (let d = h.1 in cc)
    ]
cap_ends g (Ok (a, t ∷ ts)) over e = absurd (cc e)
cap_ends g (Err []) over e = let d : over ≡ [] = cc e in (refl, d)
cap_ends g (Err (t ∷ ts)) over e = absurd (cc e)

-- what ends within the cap goes on within it, since no more tokens count
rest_capped : {T A : Type 0} (u : T → Bool) (k : ℕ) (L : Lang T A) (ts : List T) → length ts ≤ k → Rest u L ts →
    Rest u (at_most_counted u k L) ts
rest_capped u k L ts b r = record {
  more = r.more;
  tree = r.tree;
  none = r.none;
  text = (r.text, omega (arith, b, r.none, counted-append u ts r.more, counted-most u ts));
}

-- a cut with nothing after it is the whole
uncut : {T : Type 0} (k : ℕ) (ts : List T) → drop k ts ≡ [] → take k ts ≡ ts
uncut k ts e = sym (append-nil (take k ts)) ∙ ap (λ z. take k ts ++ z) (sym e) ∙ take-append-drop k ts

-- what a cap reads
close_takes : {T A : Type 0} (u g : T → Bool) (k : ℕ) (p : P T A) (L : Lang T A) → Ends u p L →
    (ts : List T) (o : Outcome T A) → p (take k ts) ≡ o →
    (rest : List T) (a : A) → close g o (drop k ts) ≡ Ok (a, rest) → Taken (at_most_counted u k L) ts rest a
close_takes {T} {A} u g k p L x ts (Ok (b, [])) e rest a h =
    let t = x.takes (take k ts) [] b e in
    let whole : t.front ≡ take k ts = sym (append-nil t.front) ∙ sym t.parts in
    elim (chosen (opens g (drop k ts)) _ _ _ h) [
      | inl c ↦ absurd (let d = c.1 in cc)
      | inr c ↦ subst (λ (z : A × List T). Taken (at_most_counted u k L) ts z.1 z.0) (given_is (b, drop k ts)
          (a, rest) c.1)
          (record {
            front = take k ts;
            parts = sym (take-append-drop k ts);
            text = (subst (L b) whole t.text, omega (arith, counted-most u (take k ts), length-take k ts));
          })
    ]
close_takes {T} {A} u g k p L x ts (Ok (b, v ∷ vs)) e rest a h =
    let t = x.takes (take k ts) (v ∷ vs) b e in
    subst (λ (z : A × List T). Taken (at_most_counted u k L) ts z.1 z.0) (given_is (b, v ∷ (vs ++ drop k ts))
    (a, rest) h)
    (record {
      front = t.front;
      parts = sym (take-append-drop k ts) ∙ ap (λ (z : List T). z ++ drop k ts) t.parts ∙
          append_assoc t.front (v ∷ vs) (drop k ts);
      text = (
        t.text,
        omega
            (arith, counted-most u t.front, length-take k ts, ap length t.parts, length-append t.front (v ∷ vs)),
      );
    })
close_takes u g k p L x ts (Err d) e rest a h = absurd (cc h)

-- it, with at most k tokens
pub ends_capped : {T A : Type 0} {u : T → Bool} (k : ℕ) (g : T → Bool) {p : P T A} {L : Lang T A} → Ends u p L →
    Ends u (capped k g p) (at_most_counted u k L)
ends_capped {T} {A} {u} k g {p} {L} x = record {
  takes = λ ts rest a e. close_takes u g k p L x ts (p (take k ts)) refl rest a e;
  goes_on = λ ts e.
      let c = cap_ends g (p (take k ts)) (drop k ts) e in
      let whole : take k ts ≡ ts = uncut k ts c.1 in
      let fits : length ts ≤ k = omega (arith, ap length whole, length-take k ts) in
      rest_capped u k L ts fits (x.goes_on ts (subst (λ (z : List T). p z ≡ Err []) whole c.0));
  some = rest_capped u k L [] (omega arith) x.some;
}
