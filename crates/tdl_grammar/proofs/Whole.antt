-- Whole texts: what is read, and the first token out of place.
use Rattle.std.proofs.Common.{◌≡◌, ◌∙◌, Bool, List, [], ◌∷◌, ◌++◌, Ok, Err, refl, sym, ap, subst}
use Rattle.std.proofs.lemmas.List.{append-nil}
use Rattle.tdl_grammar.specs.Grammar.{Lang, IsFault}
use Rattle.tdl_grammar.specs.Parsing.{Outcome, P, all}
use Rattle.tdl_grammar.specs.Goodness.{Good, Reads}
use Rattle.tdl_grammar.proofs.Outcomes.{given_is}

-- a whole text has no token after it
pub all_ok : {T A : Type 0} (o : Outcome T A) (a : A) → all o ≡ Ok a → o ≡ Ok (a, [])
all_ok {T} {A} (Ok (b, [])) a e = let d : b ≡ a = cc e in ap (λ (z : A). let o : Outcome T A = Ok (z, []) in o) d
all_ok (Ok (b, t ∷ ts)) a e = absurd (cc e)
all_ok (Err d) a e = absurd (cc e)

-- a text that is read is one of the tree
pub all_spelled : {T A : Type 0} (p : P T A) (L M : Lang T A) (s g : T → Bool) → Good p L M s g →
    (ts : List T) (a : A) → all (p ts) ≡ Ok a → L a ts
all_spelled {T} p L M s g x ts a e =
    let k = x.reads.took ts [] a (all_ok (p ts) a e) in
    subst (λ (z : List T). L a z) (sym (append-nil k.front) ∙ sym k.parts) k.spelled

-- each text is read
pub all_read : {T A : Type 0} (p : P T A) (L M : Lang T A) (s g : T → Bool) → Good p L M s g →
    (ts : List T) (a : A) → L a ts → all (p ts) ≡ Ok a
all_read {T} p L M s g x ts a l = rw (subst (λ (z : List T). p z ≡ Ok (a, [])) (append-nil ts)
    (x.complete a ts [] l refl)) refl

-- what is read to the end does not fail
clash : {T A : Type 0} (o : Outcome T A) (a : A) (d : List T) → all o ≡ Ok a → o ≡ Err d → ⊥
clash o a d found lost = let h : o ≡ Ok (a, []) = all_ok o a found in cc (h, lost)

-- nor is there a token after it
clash_after : {T A : Type 0} (o : Outcome T A) (a b : A) (u : T) (us : List T) → all o ≡ Ok a → o ≡ Ok (b, u ∷ us) → ⊥
clash_after {T} {A} o a b u us found lost =
    let d : [] ≡ u ∷ us = ap (λ (z : A × List T). z.1) (given_is (a, []) (b, u ∷ us) (sym (all_ok o a found) ∙
    lost)) in cc d

-- the fault of a parser is the first token out of place
fault_of : {T A : Type 0} (p : P T A) (L : Lang T A) (s g : T → Bool) → Good p L L s g → (ts rest : List T) →
    p ts ≡ Err rest → IsFault L ts rest
fault_of p L s g x ts rest e =
    let k = x.reads.failed ts rest e in
    record {
      front = k.front;
      parts = k.parts;
      others = k.others;
      tree = k.tree;
      begun = k.begun;
      never_on = λ t r d a more l.
          let lost = k.again t r more d in
          let found = all_read p L L s g x (k.front ++ t ∷ more) a l in
          absurd (clash (p (k.front ++ t ∷ more)) a (t ∷ more) found lost);
    }

-- a token after a text is out of place
fault_after : {T A : Type 0} (p : P T A) (L : Lang T A) (s g : T → Bool) → Good p L L s g →
    (ts : List T) (a : A) (t : T) (r : List T) →
    p ts ≡ Ok (a, t ∷ r) → IsFault L ts (t ∷ r)
fault_after {T} p L s g x ts a t r e =
    let k = x.reads.took ts (t ∷ r) a e in
    record {
      front = k.front;
      parts = k.parts;
      others = [];
      tree = a;
      begun = subst (λ (z : List T). L a z) (sym (append-nil k.front)) k.spelled;
      never_on = λ u q d b more l.
          let lost = k.again u q more d in
          let found = all_read p L L s g x (k.front ++ u ∷ more) b l in
          absurd (clash_after (p (k.front ++ u ∷ more)) b a u more found lost);
    }

-- in any case
fault_any : {T A : Type 0} (p : P T A) (L : Lang T A) (s g : T → Bool) → Good p L L s g →
    (ts rest : List T) (o : Outcome T A) → p ts ≡ o → all o ≡ Err rest → IsFault L ts rest
fault_any p L s g x ts rest (Ok (a, [])) e h = absurd (cc h)
fault_any {T} p L s g x ts rest (Ok (a, t ∷ r)) e h = subst (λ (z : List T). IsFault L ts z) (let d : t ∷
    r ≡ rest = cc h in d) (fault_after p L s g x ts a t r e)
fault_any {T} p L s g x ts rest (Err d) e h = subst (λ (z : List T). IsFault L ts z) (let d : d ≡ rest = cc h in
    d) (fault_of p L s g x ts d e)

-- where no whole text is read, it is at the first token out of place
pub all_fault : {T A : Type 0} (p : P T A) (L : Lang T A) (s g : T → Bool) → Good p L L s g → (ts rest : List T) →
    all (p ts) ≡ Err rest → IsFault L ts rest
all_fault p L s g x ts rest h = fault_any p L s g x ts rest (p ts) refl h

-- where no whole text is read, what stands after the next token doesn't matter
pub record Seen {T A : Type 0} (p : P T A) (ts rest : List T) : Type 0 where
  pub front : List T
  pub parts : ts ≡ front ++ rest
  pub again : (t : T) (r other : List T) → rest ≡ t ∷ r → all (p (front ++ t ∷ other)) ≡ Err (t ∷ other)

-- by the outcome
seen_by : {T A : Type 0} (p : P T A) (L M : Lang T A) → Reads p L M → (ts rest : List T) (o : Outcome T A) → p ts ≡ o →
    all o ≡ Err rest → Seen p ts rest
seen_by p L M x ts rest (Ok (a, [])) e h = absurd (cc h)
seen_by {T} p L M x ts rest (Ok (a, t ∷ r)) e h =
    let k = x.took ts (t ∷ r) a e in
    subst (λ (z : List T). Seen p ts z) (let d : t ∷ r ≡ rest = cc h in d)
    (record { front = k.front; parts = k.parts; again = λ v vs other d. rw (k.again v vs other d) refl })
seen_by {T} p L M x ts rest (Err d) e h =
    let k = x.failed ts d e in
    subst (λ (z : List T). Seen p ts z) (let f : d ≡ rest = cc h in f)
    (record { front = k.front; parts = k.parts; again = λ v vs other f. rw (k.again v vs other f) refl })

-- in any case
pub seen : {T A : Type 0} (p : P T A) (L M : Lang T A) → Reads p L M → (ts rest : List T) → all (p ts) ≡ Err rest → Seen p ts rest
seen p L M x ts rest h = seen_by p L M x ts rest (p ts) refl h
