-- A text of at most so many tokens.
use Rattle.std.proofs.Common.{◌≡◌, ◌∙◌, inl, inr, ◌-◌, ◌≤◌, ◌<◌, arith, ℕ, zero, suc, Bool, true, false, List, [], ◌∷◌, ◌++◌, length, take, drop, Ok, Err, refl, sym, ap, subst, append_assoc}
use Rattle.std.proofs.lemmas.List.{append-nil, take-append-drop, length-append, length-take, take_at, drop_at}
use Rattle.tdl_grammar.specs.Grammar.{Lang, at_most}
use Rattle.tdl_grammar.specs.Parsing.{Outcome, P, opens, close, capped}
use Rattle.tdl_grammar.specs.Goodness.{Took, Failed, Good, Stops, Agree}
use Rattle.tdl_grammar.proofs.Outcomes.{given_is, chosen}

-- a list of at most k tokens stays whole in the cut
take-fits : {T : Type 0} (k : ℕ) (front more : List T) → length front ≤ k → take k (front ++ more) ≡ front ++ take
    (k - length front) more
take-fits k [] more b = let e : k - 0 ≡ k = omega arith in rw e refl
take-fits zero (f ∷ fs) more b = absurd (omega arith)
take-fits (suc k) (f ∷ fs) more b =
    let e : suc k - suc (length fs) ≡ k - length fs = omega arith in
    rw (e, take-fits k fs more (omega arith)) refl

-- and what stands after the cut is what is cut off
drop-fits : {T : Type 0} (k : ℕ) (front more : List T) → length front ≤ k → drop k (front ++ more) ≡ drop
    (k - length front) more
drop-fits k [] more b = let e : k - 0 ≡ k = omega arith in rw e refl
drop-fits zero (f ∷ fs) more b = absurd (omega arith)
drop-fits (suc k) (f ∷ fs) more b =
    let e : suc k - suc (length fs) ≡ k - length fs = omega arith in
    rw (e, drop-fits k fs more (omega arith)) refl

-- a cut behind the next token has this token
take_past : {T : Type 0} (k : ℕ) (front : List T) (t : T) (other : List T) → length front < k →
    take k (front ++ t ∷ other) ≡ front ++ t ∷ take (k - suc (length front)) other
take_past zero front t other b = absurd (omega arith)
take_past (suc k) [] t other b = let e : suc k - 1 ≡ k = omega arith in rw e refl
take_past (suc k) (f ∷ fs) t other b =
    let e : suc k - suc (suc (length fs)) ≡ k - suc (length fs) = omega arith in
    rw (e, take_past k fs t other (omega arith)) refl

-- and what stands after the cut is of what stands after the token
drop_past : {T : Type 0} (k : ℕ) (front : List T) (t : T) (other : List T) → length front < k →
    drop k (front ++ t ∷ other) ≡ drop (k - suc (length front)) other
drop_past zero front t other b = absurd (omega arith)
drop_past (suc k) [] t other b = let e : suc k - 1 ≡ k = omega arith in rw e refl
drop_past (suc k) (f ∷ fs) t other b =
    let e : suc k - suc (suc (length fs)) ≡ k - suc (length fs) = omega arith in
    rw (e, drop_past k fs t other (omega arith)) refl

-- what is read before the end of the cut is read with a cap
ok_past : {T A : Type 0} (k : ℕ) (goes : T → Bool) (p : P T A) (front : List T) (a : A) (t : T) (other : List T) →
    length front < k →
    ((us : List T) → p (front ++ t ∷ us) ≡ Ok (a, t ∷ us)) → capped k goes p (front ++ t ∷ other) ≡ Ok (a, t ∷ other)
ok_past k goes p front a t other b again =
    let j : ℕ = k - suc (length front) in
    rw (take_past k front t other b, drop_past k front t other b, again (take j other), take-append-drop j other) refl

-- and so for a fault
err_past : {T A : Type 0} (k : ℕ) (goes : T → Bool) (p : P T A) (front : List T) (t : T) (other : List T) →
    length front < k →
    ((us : List T) → p (front ++ t ∷ us) ≡ Err (t ∷ us)) → capped k goes p (front ++ t ∷ other) ≡ Err (t ∷ other)
err_past k goes p front t other b again =
    let j : ℕ = k - suc (length front) in
    rw (take_past k front t other b, drop_past k front t other b, again (take j other), take-append-drop j other) refl

-- the cut is full where a token stands after it
pub full : {T : Type 0} (k : ℕ) (ts : List T) (t : T) (r : List T) → drop k ts ≡ t ∷ r → length (take k ts) ≡ k
full zero ts t r e = refl
full (suc k) [] t r e = absurd (cc e)
full (suc k) (u ∷ us) t r e = let d = full k us t r e in omega arith

-- the cut is short
cut_fits : {T : Type 0} (k : ℕ) (ts : List T) → length (take k ts) ≤ k
cut_fits k ts = omega (arith, length-take k ts)

-- what is read with a cap, by the outcome at the cut
took_capped : {T A : Type 0} (k : ℕ) (p : P T A) (L M : Lang T A) (s goes : T → Bool) → Good p L M s goes →
    (ts : List T) (o : Outcome T A) → p (take k ts) ≡ o →
    (rest : List T) (a : A) → close goes o (drop k ts) ≡ Ok (a, rest) → Took (capped k goes p) (at_most k L) ts a rest
took_capped {T} {A} k p L M s goes x ts (Ok (b, [])) e rest a h =
    let n = x.reads.took (take k ts) [] b e in
    let whole : take k ts ≡ n.front = n.parts ∙ append-nil n.front in
    elim (chosen (opens goes (drop k ts)) _ _ _ h) [
      | inl c ↦ absurd (let d = c.1 in cc)
      | inr c ↦ subst (λ (z : A × List T). Took (capped k goes p) (at_most k L) ts z.0 z.1) (given_is (
        b,
        drop k ts,
      ) (a, rest) c.1)
          (record {
            front = take k ts;
            parts = sym (take-append-drop k ts);
            spelled = (subst (L b) (sym whole) n.spelled, cut_fits k ts);
            again = λ t r other d.
                rw (
                  take_at (take k ts) (t ∷ other) k (full k ts t r d),
                  drop_at (take k ts) (t ∷ other) k (full k ts t r d),
                  e,
                  subst (λ z. opens goes z ≡ false) d c.0,
                ) refl;
          })
    ]
took_capped {T} {A} k p L M s goes x ts (Ok (b, u ∷ us)) e rest a h =
    let n = x.reads.took (take k ts) (u ∷ us) b e in
    let fits : length n.front < k = omega (arith, cut_fits k ts, ap length n.parts, length-append n.front (u ∷ us)) in
    subst (λ (z : A × List T). Took (capped k goes p) (at_most k L) ts z.0 z.1) (given_is (b, u ∷ (us ++ drop k ts))
    (a, rest) h)
    (record {
      front = n.front;
      parts = sym (take-append-drop k ts) ∙ ap (λ (z : List T). z ++ drop k ts) n.parts ∙ append_assoc n.front (u ∷
          us) (drop k ts);
      spelled = (n.spelled, omega arith);
      again = λ t r other d. let same : u ≡ t = cc d in
          ok_past k goes p n.front b t other fits (λ vs. subst (λ (z : T). p (n.front ++ z ∷ vs) ≡ Ok (
            b,
            z ∷ vs,
          )) same (n.again u us vs refl));
    })
took_capped k p L M s goes x ts (Err d) e rest a h = absurd (cc h)

-- where a cap fails, by the outcome at the cut
failed_capped : {T A : Type 0} (k : ℕ) (p : P T A) (L M : Lang T A) (s goes : T → Bool) → Good p L M s goes →
    (ts : List T) (o : Outcome T A) → p (take k ts) ≡ o →
    (rest : List T) → close goes o (drop k ts) ≡ Err rest → Failed (capped k goes p) M ts rest
failed_capped {T} {A} k p L M s goes x ts (Ok (b, [])) e rest h =
    let n = x.reads.took (take k ts) [] b e in
    let whole : take k ts ≡ n.front = n.parts ∙ append-nil n.front in
    elim (chosen (opens goes (drop k ts)) _ _ _ h) [
      | inl c ↦ let d : drop k ts ≡ rest = (let q = c.1 in cc) in
          record {
            front = take k ts;
            parts = sym (take-append-drop k ts) ∙ ap (λ (z : List T). take k ts ++ z) d;
            others = [];
            tree = b;
            begun = x.reads.inside b (take k ts ++ []) (subst (L b) (sym whole ∙ sym (append-nil
                (take k ts))) n.spelled);
            again = λ t r other f.
                let over : drop k ts ≡ t ∷ r = d ∙ f in
                rw (
                  take_at (take k ts) (t ∷ other) k (full k ts t r over),
                  drop_at (take k ts) (t ∷ other) k (full k ts t r over),
                  e,
                  subst (λ z. opens goes z ≡ true) over c.0,
                ) refl;
          }
      | inr c ↦ absurd (let d = c.1 in cc)
    ]
failed_capped k p L M s goes x ts (Ok (b, u ∷ us)) e rest h = absurd (cc h)
failed_capped {T} {A} k p L M s goes x ts (Err []) e rest h =
    let n = x.reads.failed (take k ts) [] e in
    let whole : take k ts ≡ n.front = n.parts ∙ append-nil n.front in
    let d : drop k ts ≡ rest = cc h in
    record {
      front = take k ts;
      parts = sym (take-append-drop k ts) ∙ ap (λ (z : List T). take k ts ++ z) d;
      others = n.others;
      tree = n.tree;
      begun = subst (λ (z : List T). M n.tree (z ++ n.others)) (sym whole) n.begun;
      again = λ t r other f.
          let over : drop k ts ≡ t ∷ r = d ∙ f in
          rw (
            take_at (take k ts) (t ∷ other) k (full k ts t r over),
            drop_at (take k ts) (t ∷ other) k
                (full k ts t r over),
            e,
          ) refl;
    }
failed_capped {T} {A} k p L M s goes x ts (Err (u ∷ us)) e rest h =
    let n = x.reads.failed (take k ts) (u ∷ us) e in
    let fits : length n.front < k = omega (arith, cut_fits k ts, ap length n.parts, length-append n.front (u ∷ us)) in
    let d : u ∷ (us ++ drop k ts) ≡ rest = cc h in
    record {
      front = n.front;
      parts = sym (take-append-drop k ts) ∙ ap (λ (z : List T). z ++ drop k ts) n.parts ∙ append_assoc n.front (u ∷
          us) (drop k ts) ∙ ap (λ (z : List T). n.front ++ z) d;
      others = n.others;
      tree = n.tree;
      begun = n.begun;
      again = λ t r other f. let same : u ≡ t = (let g = d ∙ f in cc) in
          err_past k goes p n.front t other fits (λ vs. subst (λ (z : T). p (n.front ++ z ∷ vs) ≡ Err (z ∷ vs)) same
          (n.again u us vs refl));
    }

-- where the text stops, the tokens after the cut are put back
close_rest : {T A : Type 0} (goes : T → Bool) (a : A) (j : ℕ) (more : List T) → Stops goes more → close goes (Ok (
  a,
  take j more,
)) (drop j more) ≡ Ok (a, more)
close_rest goes a zero [] stops = refl
close_rest goes a (suc j) [] stops = refl
close_rest goes a zero (t ∷ r) stops = rw stops refl
close_rest goes a (suc j) (t ∷ r) stops = rw (take-append-drop j r) refl

-- where a text stops, it stops in the cut
stops_cut : {T : Type 0} (goes : T → Bool) (j : ℕ) (more : List T) → Stops goes more → Stops goes (take j more)
stops_cut goes zero more stops = refl
stops_cut goes (suc j) [] stops = refl
stops_cut goes (suc j) (t ∷ r) stops = stops

-- it, with at most k tokens
pub good_capped : {T A : Type 0} (k : ℕ) (p : P T A) (L M : Lang T A) (s goes : T → Bool) → Good p L M s goes →
    Good (capped k goes p) (at_most k L) M s goes
good_capped k p L M s goes x = record {
  reads = record {
    took = λ ts rest a e. took_capped k p L M s goes x ts (p (take k ts)) refl rest a e;
    failed = λ ts rest e. failed_capped k p L M s goes x ts (p (take k ts)) refl rest e;
    inside = λ a ts l. x.reads.inside a ts l.0;
    some = x.reads.some;
    some_text = x.reads.some_text;
    some_spelled = x.reads.some_spelled;
  };
  complete = λ a front more l stops.
      let j : ℕ = k - length front in
      rw (
        take-fits k front more l.1,
        drop-fits k front more l.1,
        x.complete a front (take j more) l.0
            (stops_cut goes j more stops),
        close_rest goes a j more stops,
      ) refl;
  begins = λ a front l. x.begins a front l.0;
}

-- parsers that agree on k tokens are the same with that cap
pub capped_agree : {T A : Type 0} (k : ℕ) (goes : T → Bool) (p q : P T A) → Agree k p q → (ts : List T) →
    capped k goes p ts ≡ capped k goes q ts
capped_agree k goes p q same ts = ap (λ o. close goes o (drop k ts)) (same (take k ts) (cut_fits k ts))
