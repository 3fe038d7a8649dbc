-- What parsers read, and where they fail.
use Rattle.std.proofs.Common.{◌≡◌, ◌∙◌, inl, inr, Bool, true, false, List, [], ◌∷◌, ◌++◌, Ok, Err, refl, sym, ap, subst, append_assoc}
use Rattle.tdl_grammar.specs.Grammar as G
use Rattle.tdl_grammar.specs.Grammar.{Lang}
use Rattle.tdl_grammar.specs.Parsing.{P, ◌>>=◌, one, both, made}
use Rattle.tdl_grammar.specs.Goodness.{Took, Failed, Reads, Grows}
use Rattle.tdl_grammar.proofs.Growing.{grow, grow_to, grow_both, grow_made}
use Rattle.tdl_grammar.proofs.Outcomes.{bind_ok, bind_err, given_is, chosen}

-- what stands after the next token doesn't matter, with some text between
pub resume : {T A : Type 0} (p : P T A) (L : Lang T A) (ts mid : List T) (a : A) (took : Took p L ts a mid)
    (back : List T) (t : T) (r other : List T) → mid ≡ back ++ t ∷ r → p (took.front ++ (back ++ t ∷ other)) ≡ Ok (
      a,
      back ++ t ∷ other,
    )
resume p L ts mid a took [] t r other e = took.again t r other e
resume p L ts mid a took (f ∷ fs) t r other e = took.again f (fs ++ t ∷ r) (fs ++ t ∷ other) e

-- ---- one token

-- what is read as one token
took_one : {T : Type 0} (test : T → Bool) (ts rest : List T) (a : T) → one test ts ≡ Ok (a, rest) →
    Took (one test) (G.one test) ts a rest
took_one test [] rest a e = absurd (cc e)
took_one {T} test (t ∷ ts) rest a e =
    elim (chosen (test t) _ _ _ e) [
      | inl x ↦ subst (λ (z : T × List T). Took (one test) (G.one test) (t ∷ ts) z.0 z.1) (given_is (t, ts) (
        a,
        rest,
      ) x.1)
          (record { front = t ∷ []; parts = refl; spelled = (x.0, refl); again = λ u r other d. rw x.0 refl })
      | inr x ↦ absurd (let d = x.1 in cc)
    ]

-- where one token fails
failed_one : {T : Type 0} (test : T → Bool) (some : T) → test some ≡ true → (ts rest : List T) →
    one test ts ≡ Err rest →
    Failed (one test) (G.one test) ts rest
failed_one test some h [] rest e =
    let d : [] ≡ rest = cc e in
    record {
      front = [];
      parts = d;
      others = some ∷ [];
      tree = some;
      begun = (
        h,
        refl,
      );
      again = λ u r other b. absurd (let q = d ∙ b in cc);
    }
failed_one test some h (t ∷ ts) rest e =
    elim (chosen (test t) _ _ _ e) [
      | inl x ↦ absurd (let d = x.1 in cc)
      | inr x ↦ let d : t ∷ ts ≡ rest = (let q = x.1 in cc) in
          record {
            front = [];
            parts = d;
            others = some ∷ [];
            tree = some;
            begun = (h, refl);
            again = λ u r other b. (let same : t ≡ u = (let q = d ∙ b in cc) in
                rw (subst (λ v. test v ≡ false) same x.0) refl);
          }
    ]

-- one token of which the test holds; `some` is such a token
pub reads_one : {T : Type 0} (test : T → Bool) (some : T) → test some ≡ true → Reads (one test) (G.one test)
    (G.one test)
reads_one test some h = record {
  took = took_one test;
  failed = failed_one test some h;
  inside = λ a ts l. l;
  some = some;
  some_text = some ∷ [];
  some_spelled = (h, refl);
}

-- ---- one after the other

-- what is read one after the other
took_both : {T A B : Type 0} (p : P T A) (q : P T B) (L : Lang T A) (M : Lang T B) (ts mid rest : List T) (a : A)
    (b : B) →
    Took p L ts a mid → Took q M mid b rest → Took (both p q) (G.both L M) ts (a, b) rest
took_both {T} p q L M ts mid rest a b x y = record {
  front = x.front ++ y.front;
  parts = x.parts ∙ ap (λ (z : List T). x.front ++ z) y.parts ∙ sym (append_assoc x.front y.front rest);
  spelled = (x.front, y.front, x.spelled, y.spelled, refl);
  again = λ t r other e.
      let parts : mid ≡ y.front ++ t ∷ r = y.parts ∙ ap (λ (z : List T). y.front ++ z) e in
      rw (
        append_assoc x.front y.front (t ∷ other),
        resume p L ts mid a x y.front t r other parts,
        y.again t r other e,
      ) refl;
}

-- what is read in two steps
both_took : {T A B : Type 0} (p : P T A) (q : P T B) (L L' : Lang T A) (M M' : Lang T B) → Reads p L L' → Reads q M M' →
    (ts rest : List T) (c : A × B) → both p q ts ≡ Ok (c, rest) → Took (both p q) (G.both L M) ts c rest
both_took {T} {A} {B} p q L L' M M' x y ts rest c e =
    let h = bind_ok (p ts) (λ u. q u.1 >>= λ v. Ok ((u.0, v.0), v.1)) (c, rest) e in
    let k = bind_ok (q h.0.1) (λ v. Ok ((h.0.0, v.0), v.1)) (c, rest) h.2 in
    subst (λ (z : (A × B) × List T). Took (both p q) (G.both L M) ts z.0 z.1) (given_is ((h.0.0, k.0.0), k.0.1) (
      c,
      rest,
    ) k.2)
    (took_both p q L M ts h.0.1 k.0.1 h.0.0 k.0.0 (x.took ts h.0.1 h.0.0 h.1) (y.took h.0.1 k.0.1 k.0.0 k.1))

-- where the first fails
failed_left : {T A B : Type 0} (p : P T A) (q : P T B) (L : Lang T A) (M : Lang T B) (b : B) (text : List T) →
    M b text →
    (ts rest : List T) → Failed p L ts rest → Failed (both p q) (G.both L M) ts rest
failed_left p q L M b text m ts rest x = record {
  front = x.front;
  parts = x.parts;
  others = x.others ++ text;
  tree = (x.tree, b);
  begun = (x.front ++ x.others, text, x.begun, m, sym (append_assoc x.front x.others text));
  again = λ t r other e. rw (x.again t r other e) refl;
}

-- where the second fails
failed_right : {T A B : Type 0} (p : P T A) (q : P T B) (L L' : Lang T A) (M : Lang T B) (ts mid rest : List T)
    (a : A) → Grows L L' →
    Took p L ts a mid → Failed q M mid rest → Failed (both p q) (G.both L' M) ts rest
failed_right {T} p q L L' M ts mid rest a grows x y = record {
  front = x.front ++ y.front;
  parts = x.parts ∙ ap (λ (z : List T). x.front ++ z) y.parts ∙ sym (append_assoc x.front y.front rest);
  others = y.others;
  tree = (a, y.tree);
  begun = (x.front, y.front ++ y.others, grows a x.front x.spelled, y.begun, append_assoc x.front y.front y.others);
  again = λ t r other e.
      let parts : mid ≡ y.front ++ t ∷ r = y.parts ∙ ap (λ (z : List T). y.front ++ z) e in
      rw (
        append_assoc x.front y.front (t ∷ other),
        resume p L ts mid a x y.front t r other parts,
        y.again t r other e,
      ) refl;
}

-- where two steps fail
both_failed : {T A B : Type 0} (p : P T A) (q : P T B) (L L' : Lang T A) (M M' : Lang T B) → Reads p L L' →
    Reads q M M' →
    (ts rest : List T) → both p q ts ≡ Err rest → Failed (both p q) (G.both L' M') ts rest
both_failed p q L L' M M' x y ts rest e =
    elim (bind_err (p ts) (λ u. q u.1 >>= λ v. Ok ((u.0, v.0), v.1)) rest e) [
      | inl d ↦ failed_left p q L' M' y.some y.some_text y.some_spelled ts rest (x.failed ts rest d)
      | inr h ↦ elim (bind_err (q h.0.1) (λ v. Ok ((h.0.0, v.0), v.1)) rest h.2) [
        | inl d ↦ failed_right p q L L' M' ts h.0.1 rest h.0.0 x.inside (x.took ts h.0.1 h.0.0 h.1)
            (y.failed h.0.1 rest d)
        | inr k ↦ absurd (let d = k.2 in cc)
      ]
    ]

-- the one, then the other
pub reads_both : {T A B : Type 0} (p : P T A) (q : P T B) (L L' : Lang T A) (M M' : Lang T B) → Reads p L L' →
    Reads q M M' →
    Reads (both p q) (G.both L M) (G.both L' M')
reads_both p q L L' M M' x y = record {
  took = both_took p q L L' M M' x y;
  failed = both_failed p q L L' M M' x y;
  inside = grow _ _ (λ k. grow_both k L L' M M' (grow_to k L L' x.inside) (grow_to k M M' y.inside));
  some = (x.some, y.some);
  some_text = x.some_text ++ y.some_text;
  some_spelled = (x.some_text, y.some_text, x.some_spelled, y.some_spelled, refl);
}

-- ---- the tree that f makes of it

-- what f makes is of what is read
pub made_took : {T A B : Type 0} (f : A → B) (p : P T A) (L L' : Lang T A) → Reads p L L' →
    (ts rest : List T) (b : B) → made f p ts ≡ Ok (b, rest) → Took (made f p) (G.made f L) ts b rest
made_took {T} {A} {B} f p L L' x ts rest b e =
    let h = bind_ok (p ts) (λ u. Ok (f u.0, u.1)) (b, rest) e in
    let t = x.took ts h.0.1 h.0.0 h.1 in
    subst (λ (z : B × List T). Took (made f p) (G.made f L) ts z.0 z.1) (given_is (f h.0.0, h.0.1) (b, rest) h.2)
    (record {
      front = t.front;
      parts = t.parts;
      spelled = (h.0.0, t.spelled, refl);
      again = λ u r other d. rw
          (t.again u r other d) refl;
    })

-- and fails where that fails
pub made_failed : {T A B : Type 0} (f : A → B) (p : P T A) (L L' : Lang T A) → Reads p L L' →
    (ts rest : List T) → made f p ts ≡ Err rest → Failed (made f p) (G.made f L') ts rest
made_failed f p L L' x ts rest e =
    elim (bind_err (p ts) (λ u. Ok (f u.0, u.1)) rest e) [
      | inl d ↦ let t = x.failed ts rest d in
          record {
            front = t.front;
            parts = t.parts;
            others = t.others;
            tree = f t.tree;
            begun = (
              t.tree,
              t.begun,
              refl,
            );
            again = λ u r other h. rw (t.again u r other h) refl;
          }
      | inr h ↦ absurd (let d = h.2 in cc)
    ]

-- the tree that f makes of it
pub reads_made : {T A B : Type 0} (f : A → B) (p : P T A) (L L' : Lang T A) → Reads p L L' →
    Reads (made f p) (G.made f L) (G.made f L')
reads_made f p L L' x = record {
  took = made_took f p L L' x;
  failed = made_failed f p L L' x;
  inside = grow _ _ (λ k. grow_made k f L L' (grow_to k L L' x.inside));
  some = f x.some;
  some_text = x.some_text;
  some_spelled = (x.some, x.some_spelled, refl);
}
