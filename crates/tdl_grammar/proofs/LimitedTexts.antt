-- A text of at most so many tokens that count, beside one of any number.
use Rattle.std.proofs.Common.{◌≡◌, ◌∙◌, ◌⊎◌, inl, inr, ◌≤◌, arith, ℕ, zero, suc, Bool, true, false, List, [], ◌∷◌, ◌++◌, length, take, drop, Ok, Err, refl, sym, ap, subst, append_assoc}
use Rattle.std.proofs.lemmas.List.{length-append, append-nil, take-append-drop}
use Rattle.tdl_grammar.specs.Grammar.{Lang}
use Rattle.tdl_grammar.specs.Counting.{counted, at_most_counted}
use Rattle.tdl_grammar.specs.Parsing.{Outcome, P, close, capped}
use Rattle.tdl_grammar.specs.Goodness.{Took, Good}
use Rattle.tdl_grammar.proofs.Outcomes.{bool_is, given_is}
use Rattle.tdl_grammar.proofs.Capped.{full}
use Rattle.tdl_grammar.proofs.Limiting.{counted-append, counted-most, AllCount, Blocked, split_at}
use Rattle.tdl_grammar.proofs.LimitedWords.{Limit}

-- one number is no more than the other, or above it
le_or : (m n : ℕ) → (m ≤ n) ⊎ (suc n ≤ m)
le_or zero n = inl (omega arith)
le_or (suc m) zero = inr (omega arith)
le_or (suc m) (suc n) =
    elim (le_or m n) [
      | inl h ↦ inl (omega arith)
      | inr h ↦ inr (omega arith)
    ]

-- a cut that is read to its end, or is too short, is passed or stopped at
past_mid : {T A : Type 0} (q : P T A) (U : Lang T A) (cut : List T) (t : T) (more rest : List T) (a : A)
    (k : Took q U (cut ++ t ∷ more) a rest) →
    ((m : T) (ms : List T) (b : A) → q cut ≡ Ok (b, m ∷ ms) → ⊥) → (mid : List T) → cut ≡ k.front ++ mid →
    rest ≡ mid ++ t ∷ more → (rest ≡ t ∷ more) × (cut ≡ k.front)
past_mid q U cut t more rest a k none [] e f = (f, e ∙ append-nil k.front)
past_mid {T} {A} q U cut t more rest a k none (m ∷ ms) e f =
    absurd (none m ms a (subst (λ (z : List T). q z ≡ Ok (a, m ∷ ms)) (sym e) (k.again m (ms ++ t ∷ more) ms f)))

-- what reads on after a cut passes the next token, or has read the cut
past_cut : {T A : Type 0} (q : P T A) (U : Lang T A) (s g : T → Bool) → Good q U U s g →
    (cut : List T) (t : T) (more rest : List T) (a : A) →
    q (cut ++ t ∷ more) ≡ Ok (a, rest) → ((m : T) (ms : List T) (b : A) → q cut ≡ Ok (b, m ∷ ms) → ⊥) →
    (length rest ≤ length more) ⊎ ((rest ≡ t ∷ more) × (q cut ≡ Ok (a, [])))
past_cut {T} {A} q U s g x cut t more rest a e none =
    let k = x.reads.took (cut ++ t ∷ more) rest a e in
    elim (le_or (length rest) (length more)) [
      | inl h ↦ inl h
      | inr h ↦
          let i = split_at cut (t ∷ more) k.front rest k.parts h in
          let d = past_mid q U cut t more rest a k none i.mid i.left i.right in
          inr (
            d.0,
            subst (λ (z : List T). q z ≡ Ok (a, [])) (append-nil cut) (x.complete a cut [] (subst (U a)
                (sym d.1) k.spelled) refl),
          )
    ]

-- a full cut with a token that counts has too many
too_many : {T : Type 0} (u : T → Bool) (k : ℕ) (ts : List T) (t : T) (r more : List T) → drop k ts ≡ t ∷ r →
    AllCount u ts → counted u (take k ts ++ t ∷ more) ≤ k → ⊥
too_many {T} u k ts t r more over all most =
    let parts : ts ≡ take k ts ++ t ∷ r = sym (take-append-drop k ts) ∙ ap (λ (z : List T). take k ts ++ z) over in
    let n : length (take k ts) ≡ k = full k ts t r over in
    let whole : counted u (take k ts ++ t ∷ r) ≡ length (take k ts ++ t ∷ r) = subst (AllCount u) parts all in
    omega_of (u t) refl n whole
  where
    omega_of : (b : Bool) → u t ≡ b → length (take k ts) ≡ k →
        counted u (take k ts ++ t ∷ r) ≡ length (take k ts ++ t ∷ r) → ⊥
    omega_of true e n whole =
        let one : counted u (t ∷ more) ≡ suc (counted u more) = rw e refl in
        let same : counted u (t ∷ r) ≡ suc (counted u r) = rw e refl in
        omega (
          arith,
          n,
          whole,
          one,
          same,
          most,
          counted-append u (take k ts) (t ∷ r),
          counted-append u (take k ts)
              (t ∷ more),
          length-append (take k ts) (t ∷ r),
          counted-most u (take k ts),
          counted-most u r,
        )
    omega_of false e n whole =
        let same : counted u (t ∷ r) ≡ counted u r = rw e refl in
        omega (
          arith,
          n,
          whole,
          same,
          counted-append u (take k ts) (t ∷ r),
          length-append (take k ts)
              (t ∷ r),
          counted-most u (take k ts),
          counted-most u r,
        )

-- by the outcome at the cut
capped_at : {T A : Type 0} (u : T → Bool) (k : ℕ) (q : P T A) (U : Lang T A) (s g : T → Bool) → Good q U U s g →
    (ts over : List T) → drop k ts ≡ over → AllCount u ts → (o : Outcome T A) → q (take k ts) ≡ o →
    (close g o over ≡ q (take k ts ++ over)) ⊎ Blocked u g (λ z. close g o over) q (at_most_counted u k U) ts
capped_at u k q U s g x ts [] d all (Ok (a, [])) e = inl (rw (append-nil (take k ts)) (sym e))
capped_at {T} {A} u k q U s g x ts (t ∷ r) d all (Ok (a, [])) e =
    elim (bool_is (g t)) [
      | inl h ↦ inr (record {
        front = take k ts;
        token = t;
        after = r;
        parts = sym (take-append-drop k ts) ∙ ap (λ (z : List T). take k ts ++ z) d;
        fails = rw h refl;
        past = λ more rest b f.
            elim (past_cut q U s g x (take k ts) t more rest b f (λ m ms c n.
            let z : [] ≡ m ∷ ms = ap (λ (y : A × List T). y.1) (given_is (a, []) (c, m ∷ ms) (sym e ∙ n)) in cc z)) [
              | inl i ↦ inl i
              | inr i ↦ inr (i.0, h)
            ];
        never_on = λ more b none l. too_many u k ts t r more d all l.1;
      })
      | inr h ↦
          let n = x.reads.took (take k ts) [] a e in
          let whole : n.front ≡ take k ts = sym (append-nil n.front) ∙ sym n.parts in
          inl (rw h (sym (x.complete a (take k ts) (t ∷ r) (subst (U a) whole n.spelled) h)))
    ]
capped_at u k q U s g x ts over d all (Ok (a, v ∷ vs)) e =
    let n = x.reads.took (take k ts) (v ∷ vs) a e in
    inl (sym (rw (n.parts, append_assoc n.front (v ∷ vs) over) (n.again v vs (vs ++ over) refl)))
capped_at u k q U s g x ts over d all (Err (v ∷ vs)) e =
    let n = x.reads.failed (take k ts) (v ∷ vs) e in
    inl (sym (rw (n.parts, append_assoc n.front (v ∷ vs) over) (n.again v vs (vs ++ over) refl)))
capped_at u k q U s g x ts [] d all (Err []) e = inl (rw (append-nil (take k ts)) (sym e))
capped_at {T} {A} u k q U s g x ts (t ∷ r) d all (Err []) e =
    inr (record {
      front = take k ts;
      token = t;
      after = r;
      parts = sym (take-append-drop k ts) ∙ ap (λ (z : List T). take k ts ++ z) d;
      fails = refl;
      past = λ more rest b f.
          elim (past_cut q U s g x (take k ts) t more rest b f (λ m ms c n. let z = sym e ∙ n in cc z)) [
            | inl i ↦ inl i
            | inr i ↦ absurd (let z = sym e ∙ i.1 in cc z)
          ];
      never_on = λ more b none l. too_many u k ts t r more d all l.1;
    })

-- a capped parser beside the parser itself
pub limited_capped : {T A : Type 0} (u : T → Bool) (k : ℕ) (q : P T A) (U : Lang T A) (s g : T → Bool) →
    Good q U U s g → Limit u g (capped k g q) q (at_most_counted u k U) U s g
limited_capped {T} {A} u k q U s g x = record {
  good = x;
  inside = λ a ts l. l.0;
  same = λ ts all.
      elim (capped_at u k q U s g x ts (drop k ts) refl all (q (take k ts)) refl) [
        | inl h ↦ inl (h ∙ ap q (take-append-drop k ts))
        | inr h ↦ inr (record {
          front = h.front;
          token = h.token;
          after = h.after;
          parts = h.parts;
          fails = h.fails;
          past = h.past;
          never_on = h.never_on;
        })
      ];
}
