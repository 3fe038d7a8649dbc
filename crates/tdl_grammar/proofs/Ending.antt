-- Texts that end too early go on by tokens that do not count.
use Rattle.std.proofs.Common.{◌≡◌, ◌∙◌, inl, inr, arith, ℕ, Bool, true, false, List, [], ◌∷◌, ◌++◌, length, Option, None, Some, Ok, Err, refl, sym, ap, subst, append_assoc}
use Rattle.tdl_grammar.specs.Grammar as G
use Rattle.tdl_grammar.specs.Grammar.{Lang, second, listed, joined, some_depth}
use Rattle.tdl_grammar.specs.Parsing.{P, ◌>>=◌, opens, one, both, made, either, maybe, by_length, refuse}
use Rattle.tdl_grammar.proofs.Outcomes.{bind_ok, bind_err, given_is, chosen}
use Rattle.tdl_grammar.proofs.Limiting.{NoneCounts, counted-append}

-- a text of M that begins with the tokens, and goes on by tokens that do not count
pub record Rest {T A : Type 0} (u : T → Bool) (M : Lang T A) (ts : List T) : Type 0 where
  pub more : List T
  pub tree : A
  pub none : NoneCounts u more
  pub text : M tree (ts ++ more)

-- the text that was read
pub record Taken {T A : Type 0} (M : Lang T A) (ts rest : List T) (a : A) : Type 0 where
  pub front : List T
  pub parts : ts ≡ front ++ rest
  pub text : M a front

-- p reads texts of M, and where it fails at the end the tokens go on by tokens that do not count
pub record Ends {T A : Type 0} (u : T → Bool) (p : P T A) (M : Lang T A) : Type 0 where
  pub takes : (ts rest : List T) (a : A) → p ts ≡ Ok (a, rest) → Taken M ts rest a
  pub goes_on : (ts : List T) → p ts ≡ Err [] → Rest u M ts
  pub some : Rest u M []

-- none counts in two lists where none counts in either
none_append : {T : Type 0} (u : T → Bool) (xs ys : List T) → NoneCounts u xs → NoneCounts u ys →
    NoneCounts u (xs ++ ys)
none_append u xs ys x y = omega (arith, x, y, counted-append u xs ys)

-- ---- one token

-- what is read as one token
one_takes : {T : Type 0} (test : T → Bool) (ts rest : List T) (a : T) → one test ts ≡ Ok (a, rest) →
    Taken (G.one test) ts rest a
one_takes test [] rest a e = absurd (cc e)
one_takes {T} test (t ∷ ts) rest a e =
    elim (chosen (test t) _ _ _ e) [
      | inl x ↦ subst (λ (z : T × List T). Taken (G.one test) (t ∷ ts) z.1 z.0) (given_is (t, ts) (a, rest) x.1)
          (record { front = t ∷ []; parts = refl; text = (x.0, refl) })
      | inr x ↦ absurd (let d = x.1 in cc)
    ]

-- one token ends too early where there is none
one_goes_on : {T : Type 0} (u test : T → Bool) → Rest u (G.one test) [] → (ts : List T) → one test ts ≡ Err [] →
    Rest u (G.one test) ts
one_goes_on u test some [] e = some
one_goes_on u test some (t ∷ ts) e =
    elim (chosen (test t) _ _ _ e) [
      | inl x ↦ absurd (let d = x.1 in cc)
      | inr x ↦ absurd (let d = x.1 in cc)
    ]

-- a token that does not count
one_some : {T : Type 0} (u test : T → Bool) (some : T) → test some ≡ true → u some ≡ false → Rest u (G.one test) []
one_some u test some h n = record { more = some ∷ []; tree = some; none = rw n refl; text = (h, refl) }

-- one token of which the test holds; `some` is such a token that does not count
pub ends_one : {T : Type 0} {u : T → Bool} (test : T → Bool) (some : T) → test some ≡ true → u some ≡ false →
    Ends u (one test) (G.one test)
ends_one {T} {u} test some h n = record {
  takes = one_takes test;
  goes_on = one_goes_on u test
      (one_some u test some h n);
  some = one_some u test some h n;
}

-- ---- one after the other

-- what is read one after the other
both_takes : {T A B : Type 0} (p : P T A) (q : P T B) (L : Lang T A) (M : Lang T B) →
    ((ts rest : List T) (a : A) → p ts ≡ Ok (a, rest) → Taken L ts rest a) →
    ((ts rest : List T) (b : B) → q ts ≡ Ok (b, rest) → Taken M ts rest b) →
    (ts rest : List T) (c : A × B) → both p q ts ≡ Ok (c, rest) → Taken (G.both L M) ts rest c
both_takes {T} {A} {B} p q L M x y ts rest c e =
    let h = bind_ok (p ts) (λ v. q v.1 >>= λ w. Ok ((v.0, w.0), w.1)) (c, rest) e in
    let k = bind_ok (q h.0.1) (λ w. Ok ((h.0.0, w.0), w.1)) (c, rest) h.2 in
    let f = x ts h.0.1 h.0.0 h.1 in
    let g = y h.0.1 k.0.1 k.0.0 k.1 in
    subst (λ (z : (A × B) × List T). Taken (G.both L M) ts z.1 z.0) (given_is ((h.0.0, k.0.0), k.0.1) (c, rest) k.2)
    (record {
      front = f.front ++ g.front;
      parts = f.parts ∙ ap (λ (z : List T). f.front ++ z) g.parts ∙ sym (append_assoc f.front g.front k.0.1);
      text = (f.front, g.front, f.text, g.text, refl);
    })

-- the second after what the first has read
rest_after : {T A B : Type 0} (u : T → Bool) (L : Lang T A) (M : Lang T B) (ts mid : List T) (a : A) →
    Taken L ts mid a → Rest u M mid → Rest u (G.both L M) ts
rest_after {T} u L M ts mid a f r = record {
  more = r.more;
  tree = (a, r.tree);
  none = r.none;
  text = (
    f.front,
    mid ++ r.more,
    f.text,
    r.text,
    ap (λ (z : List T). z ++ r.more) f.parts ∙
        append_assoc f.front mid r.more,
  );
}

-- some text of the second after the first
rest_before : {T A B : Type 0} (u : T → Bool) (L : Lang T A) (M : Lang T B) (ts : List T) → Rest u L ts →
    Rest u M [] → Rest u (G.both L M) ts
rest_before u L M ts r s = record {
  more = r.more ++ s.more;
  tree = (r.tree, s.tree);
  none = none_append u r.more s.more r.none s.none;
  text = (ts ++ r.more, s.more, r.text, s.text, sym (append_assoc ts r.more s.more));
}

-- the one or the other ends too early
both_goes_on : {T A B : Type 0} (u : T → Bool) (p : P T A) (q : P T B) (L : Lang T A) (M : Lang T B) → Ends u p L →
    Ends u q M →
    (ts : List T) → both p q ts ≡ Err [] → Rest u (G.both L M) ts
both_goes_on u p q L M x y ts e =
    elim (bind_err (p ts) (λ v. q v.1 >>= λ w. Ok ((v.0, w.0), w.1)) [] e) [
      | inl d ↦ rest_before u L M ts (x.goes_on ts d) y.some
      | inr h ↦ elim (bind_err (q h.0.1) (λ w. Ok ((h.0.0, w.0), w.1)) [] h.2) [
        | inl d ↦ rest_after u L M ts h.0.1 h.0.0 (x.takes ts h.0.1 h.0.0 h.1) (y.goes_on h.0.1 d)
        | inr k ↦ absurd (let d = k.2 in cc)
      ]
    ]

-- the one, then the other
pub ends_both : {T A B : Type 0} {u : T → Bool} {p : P T A} {q : P T B} {L : Lang T A} {M : Lang T B} → Ends u p L →
    Ends u q M → Ends u (both p q) (G.both L M)
ends_both {T} {A} {B} {u} {p} {q} {L} {M} x y = record {
  takes = both_takes p q L M x.takes y.takes;
  goes_on =
      both_goes_on u p q L M x y;
  some = rest_before u L M [] x.some y.some;
}

-- ---- the tree that f makes of it

-- what goes on to a text goes on to the tree that f makes
rest_made : {T A B : Type 0} (u : T → Bool) (f : A → B) (L : Lang T A) (ts : List T) → Rest u L ts →
    Rest u (G.made f L) ts
rest_made u f L ts r = record { more = r.more; tree = f r.tree; none = r.none; text = (r.tree, r.text, refl) }

-- what f makes is of what is read
made_takes : {T A B : Type 0} (f : A → B) (p : P T A) (L : Lang T A) → ((ts rest : List T) (a : A) →
    p ts ≡ Ok (a, rest) → Taken L ts rest a) →
    (ts rest : List T) (b : B) → made f p ts ≡ Ok (b, rest) → Taken (G.made f L) ts rest b
made_takes {T} {A} {B} f p L x ts rest b e =
    let h = bind_ok (p ts) (λ v. Ok (f v.0, v.1)) (b, rest) e in
    let k = x ts h.0.1 h.0.0 h.1 in
    subst (λ (z : B × List T). Taken (G.made f L) ts z.1 z.0) (given_is (f h.0.0, h.0.1) (b, rest) h.2)
    (record { front = k.front; parts = k.parts; text = (h.0.0, k.text, refl) })

-- it ends too early where its text does
made_goes_on : {T A B : Type 0} (u : T → Bool) (f : A → B) (p : P T A) (L : Lang T A) → Ends u p L → (ts : List T) →
    made f p ts ≡ Err [] → Rest u (G.made f L) ts
made_goes_on u f p L x ts e =
    elim (bind_err (p ts) (λ v. Ok (f v.0, v.1)) [] e) [
      | inl d ↦ rest_made u f L ts (x.goes_on ts d)
      | inr k ↦ absurd (let d = k.2 in cc)
    ]

-- the tree that f makes of it
pub ends_made : {T A B : Type 0} {u : T → Bool} (f : A → B) {p : P T A} {L : Lang T A} → Ends u p L →
    Ends u (made f p) (G.made f L)
ends_made {T} {A} {B} {u} f {p} {L} x = record {
  takes = made_takes f p L x.takes;
  goes_on = made_goes_on u f p L x;
  some = rest_made u f L [] x.some;
}

-- ---- other languages and other parsers

-- a larger language
pub rest_for : {T A : Type 0} {u : T → Bool} {L M : Lang T A} {ts : List T} → ((a : A) (us : List T) → L a us →
    M a us) → Rest u L ts → Rest u M ts
rest_for {T} {A} {u} {L} {M} {ts} grows r = record {
  more = r.more;
  tree = r.tree;
  none = r.none;
  text = grows r.tree
      (ts ++ r.more) r.text;
}

-- a larger language
pub ends_for : {T A : Type 0} {u : T → Bool} {p : P T A} {L M : Lang T A} → ((a : A) (us : List T) → L a us →
    M a us) → Ends u p L → Ends u p M
ends_for {T} {A} {u} {p} {L} {M} grows x = record {
  takes = λ ts rest a e. let k = x.takes ts rest a e in record {
    front = k.front;
    parts = k.parts;
    text = grows a
        k.front k.text;
  };
  goes_on = λ ts e. rest_for grows (x.goes_on ts e);
  some = rest_for grows x.some;
}

-- a parser with the same answers
pub ends_same : {T A : Type 0} {u : T → Bool} {p q : P T A} {L : Lang T A} → ((ts : List T) → q ts ≡ p ts) →
    Ends u p L → Ends u q L
ends_same {T} {A} {u} {p} {q} {L} same x = record {
  takes = λ ts rest a e. x.takes ts rest a (sym (same ts) ∙ e);
  goes_on = λ ts e. x.goes_on ts (sym (same ts) ∙ e);
  some = x.some;
}

-- ---- choices

-- what is read as the one or the other
either_takes : {T A : Type 0} (u s : T → Bool) (p q : P T A) (L M : Lang T A) → Ends u p L → Ends u q M →
    (ts rest : List T) (a : A) → either s p q ts ≡ Ok (a, rest) → Taken (G.either L M) ts rest a
either_takes u s p q L M x y ts rest a e =
    elim (chosen (opens s ts) _ _ _ e) [
      | inl h ↦ let k = x.takes ts rest a h.1 in record { front = k.front; parts = k.parts; text = inl k.text }
      | inr h ↦ let k = y.takes ts rest a h.1 in record { front = k.front; parts = k.parts; text = inr k.text }
    ]

-- the one that is chosen ends too early
either_goes_on : {T A : Type 0} (u s : T → Bool) (p q : P T A) (L M : Lang T A) → Ends u p L → Ends u q M →
    (ts : List T) → either s p q ts ≡ Err [] → Rest u (G.either L M) ts
either_goes_on u s p q L M x y ts e =
    elim (chosen (opens s ts) _ _ _ e) [
      | inl h ↦ rest_for (λ a us l. inl l) (x.goes_on ts h.1)
      | inr h ↦ rest_for (λ a us l. inr l) (y.goes_on ts h.1)
    ]

-- the one or the other
pub ends_either : {T A : Type 0} {u s : T → Bool} {p q : P T A} {L M : Lang T A} → Ends u p L → Ends u q M →
    Ends u (either s p q) (G.either L M)
ends_either {T} {A} {u} {s} {p} {q} {L} {M} x y = record {
  takes = either_takes u s p q L M x y;
  goes_on =
      either_goes_on u s p q L M x y;
  some = rest_for (λ a us l. inl l) x.some;
}

-- what is read, if it is there
maybe_takes : {T A : Type 0} (u s : T → Bool) (p : P T A) (L : Lang T A) → Ends u p L →
    (ts rest : List T) (o : Option A) → maybe s p ts ≡ Ok (o, rest) → Taken (G.optional L) ts rest o
maybe_takes {T} {A} u s p L x ts rest o e =
    elim (chosen (opens s ts) _ _ _ e) [
      | inl h ↦
          let k = bind_ok (p ts) (λ v. Ok (Some v.0, v.1)) (o, rest) h.1 in
          let t = x.takes ts k.0.1 k.0.0 k.1 in
          subst (λ (z : Option A × List T). Taken (G.optional L) ts z.1 z.0) (given_is (Some k.0.0, k.0.1)
          (o, rest) k.2)
          (record { front = t.front; parts = t.parts; text = t.text })
      | inr h ↦ subst (λ (z : Option A × List T). Taken (G.optional L) ts z.1 z.0) (given_is (None, ts) (o, rest) h.1)
          (record { front = []; parts = refl; text = refl })
    ]

-- it ends too early where it is begun
maybe_goes_on : {T A : Type 0} (u s : T → Bool) (p : P T A) (L : Lang T A) → Ends u p L → (ts : List T) →
    maybe s p ts ≡ Err [] → Rest u (G.optional L) ts
maybe_goes_on u s p L x ts e =
    elim (chosen (opens s ts) _ _ _ e) [
      | inl h ↦ elim (bind_err (p ts) (λ v. Ok (Some v.0, v.1)) [] h.1) [
        | inl d ↦ let r = x.goes_on ts d in record { more = r.more; tree = Some r.tree; none = r.none; text = r.text }
        | inr k ↦ absurd (let d = k.2 in cc)
      ]
      | inr h ↦ absurd (let d = h.1 in cc)
    ]

-- it, or no token
pub ends_maybe : {T A : Type 0} {u s : T → Bool} {p : P T A} {L : Lang T A} → Ends u p L →
    Ends u (maybe s p) (G.optional L)
ends_maybe {T} {A} {u} {s} {p} {L} x = record {
  takes = maybe_takes u s p L x;
  goes_on = maybe_goes_on u s p L x;
  some = record { more = []; tree = None; none = refl; text = refl };
}

-- no list at all
pub ends_refuse : {T A : Type 0} {u : T → Bool} {M : Lang T A} → Rest u M [] → Ends u refuse M
ends_refuse {T} {A} {u} {M} r = record {
  takes = λ ts rest a e. absurd (cc e);
  goes_on = λ ts e. let d : [] ≡ ts = (let q : ts ≡ [] = cc e in sym q) in subst (λ (z : List T). Rest u M z) d r;
  some = r;
}

-- the member of a family that the tokens are enough for
pub ends_by_length : {T A : Type 0} {u : T → Bool} {q : ℕ → P T A} {L : ℕ → Lang T A} → ((n : ℕ) →
    Ends u (q n) (L n)) → Ends u (by_length q) (some_depth L)
ends_by_length {T} {A} {u} {q} {L} x = record {
  takes = λ ts rest a e. let k = (x
      (length ts)).takes ts rest a e in record { front = k.front; parts = k.parts; text = (length ts, k.text) };
  goes_on = λ ts e. rest_for (λ a us l. (length ts, l)) ((x (length ts)).goes_on ts e);
  some = rest_for (λ a us l. (0, l)) (x 0).some;
}
