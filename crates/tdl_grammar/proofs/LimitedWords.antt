-- The words of parsers with limits, each beside the word without.
use Rattle.std.proofs.Common.{◌≡◌, ◌∙◌, ◌⊎◌, inl, inr, ◌≤◌, arith, ℕ, zero, suc, Bool, false, cond, List, [], ◌∷◌, ◌++◌, length, None, Some, Ok, refl, sym, ap, subst}
use Rattle.tdl_grammar.specs.Grammar as G
use Rattle.tdl_grammar.specs.Grammar.{Lang}
use Rattle.tdl_grammar.specs.Parsing.{Outcome, P, ◌>>=◌, both, made, either, maybe, many, repeat}
use Rattle.tdl_grammar.specs.Goodness.{Good, Nullable, Grows, Begins, Apart, Within, Shrinks, any}
use Rattle.tdl_grammar.proofs.Outcomes.{bool_is, opens-append}
use Rattle.tdl_grammar.proofs.Growing.{grow, grow_to, grow_both, grow_made, grow_either, grow_optional, grow_many}
use Rattle.tdl_grammar.proofs.Goods.{good_both, good_after, good_before, good_made, good_either, good_widen, nullable_maybe}
use Rattle.tdl_grammar.proofs.Many.{nullable_many, agree_repeat, bind_agree, items_of, repeat_is}
use Rattle.tdl_grammar.proofs.Limiting.{SameAt, Same, Answers, both_at, then_at, made_at, for_at, either_at, maybe_at}

-- p is q with limits: M are the texts within them
pub record Limit {T A : Type 0} (u w : T → Bool) (p q : P T A) (M U : Lang T A) (s g : T → Bool) : Type 0 where
  pub good : Good q U U s g
  pub inside : Grows M U
  pub same : Same u w p q M

-- the same, where a text may have no token
pub record LimitNullable {T A : Type 0} (u w : T → Bool) (p q : P T A) (M U : Lang T A) (s g : T →
    Bool) : Type 0 where
  pub good : Nullable q U U s g
  pub inside : Grows M U
  pub same : Same u w p q M

-- no limit
pub limited_same : {T A : Type 0} (u w : T → Bool) {q : P T A} {U : Lang T A} {s g : T → Bool} → Good q U U s g →
    Limit u w q q U U s g
limited_same u w x = record { good = x; inside = λ a ts l. l; same = λ ts h. inl refl }

-- no limit, where a text may have no token
pub nullable_same : {T A : Type 0} (u w : T → Bool) {q : P T A} {U : Lang T A} {s g : T → Bool} →
    Nullable q U U s g → LimitNullable u w q q U U s g
nullable_same u w x = record { good = x; inside = λ a ts l. l; same = λ ts h. inl refl }

-- what begins a text passes the token or stops at it
answer_of : {T : Type 0} (s : T → Bool) (t : T) (more front rest : List T) → (front ≡ []) ⊎ Begins s front →
    t ∷ more ≡ front ++ rest → s t ≡ false → (length rest ≤ length more) ⊎ (rest ≡ t ∷ more)
answer_of s t more [] rest b e f = inr (sym e)
answer_of s t more (x ∷ xs) rest (inl b) e f = absurd (cc b)
answer_of s t more (x ∷ xs) rest (inr b) e f =
    let same : t ≡ x = (let z = e in cc) in let d : s x ≡ false = subst (λ v. s v ≡ false) same f in absurd (cc
    (b, d))

-- a good parser passes a token or stops at it
answers_nullable : {T A : Type 0} (w : T → Bool) (q : P T A) (U : Lang T A) (s g : T → Bool) → Apart w s →
    Nullable q U U s g → Answers w q
answers_nullable w q U s g apart x t more rest b wt e =
    let k = x.reads.took (t ∷ more) rest b e in
    elim (bool_is (s t)) [
      | inl h ↦ absurd (let d = apart t h in cc (d, wt))
      | inr h ↦ answer_of s t more k.front rest (x.begins b k.front k.spelled) k.parts h
    ]

-- texts that have a token are texts
as_nullable : {T A : Type 0} (q : P T A) (U : Lang T A) (s g : T → Bool) → Good q U U s g → Nullable q U U s g
as_nullable q U s g x = record {
  reads = x.reads;
  complete = x.complete;
  begins = λ a front l. inr
      (x.begins a front l);
}

-- the one, then the other
pub limited_both : {T A B : Type 0} {u w : T →
    Bool} {p q : P T A} {p' q' : P T B} {M U : Lang T A} {M' U' : Lang T B} {s g s' g' : T → Bool} → Apart g s' →
    Apart w s' →
    Limit u w p q M U s g → Limit u w p' q' M' U' s' g' → Limit u w (both p p') (both q q') (G.both M M')
    (G.both U U') s g'
limited_both {T} {A} {B} {u} {w} {p} {q} {p'} {q'} {M} {U} {M'} {U'} {s} {g} {s'} {g'} apart apart' x y = record {
  good = good_both q q' U U U' U' s g s' g' apart x.good y.good;
  inside = grow _ _ (λ k. grow_both k M U M' U' (grow_to k M U x.inside) (grow_to k M' U' y.inside));
  same = λ ts. both_at u w p q p' q' M U M' U' g s' apart apart' x.good.reads y.good.reads x.good.complete x.inside
      (λ b l m. inr (y.good.begins b l (y.inside b l m))) (answers_nullable w q' U' s' g' apart'
      (as_nullable q' U' s' g' y.good)) ts (x.same ts) (λ a mid e. y.same mid);
}

-- the one, then the other, which may have no token
pub limited_after : {T A B : Type 0} {u w : T →
    Bool} {p q : P T A} {p' q' : P T B} {M U : Lang T A} {M' U' : Lang T B} {s g s' g' : T → Bool} → Apart g s' →
    Apart w s' →
    Limit u w p q M U s g → LimitNullable u w p' q' M' U' s' g' →
    Limit u w (both p p') (both q q') (G.both M M') (G.both U U') s (any g g')
limited_after {T} {A} {B} {u} {w} {p} {q} {p'} {q'} {M} {U} {M'} {U'} {s} {g} {s'} {g'} apart apart' x y = record {
  good = good_after q q' U U U' U' s g s' g' apart x.good y.good;
  inside = grow _ _ (λ k. grow_both k M U M' U' (grow_to k M U x.inside) (grow_to k M' U' y.inside));
  same = λ ts. both_at u w p q p' q' M U M' U' g s' apart apart' x.good.reads y.good.reads x.good.complete x.inside
      (λ b l m. y.good.begins b l (y.inside b l m)) (answers_nullable w q' U' s' g' apart' y.good) ts (x.same ts)
      (λ a mid e. y.same mid);
}

-- the one, which may have no token, then the other
pub limited_before : {T A B : Type 0} {u w : T →
    Bool} {p q : P T A} {p' q' : P T B} {M U : Lang T A} {M' U' : Lang T B} {s g s' g' : T → Bool} → Apart g s' →
    Apart w s' →
    LimitNullable u w p q M U s g → Limit u w p' q' M' U' s' g' →
    Limit u w (both p p') (both q q') (G.both M M') (G.both U U') (any s s') g'
limited_before {T} {A} {B} {u} {w} {p} {q} {p'} {q'} {M} {U} {M'} {U'} {s} {g} {s'} {g'} apart apart' x y = record {
  good = good_before q q' U U U' U' s g s' g' apart x.good y.good;
  inside = grow _ _ (λ k. grow_both k M U M' U' (grow_to k M U x.inside) (grow_to k M' U' y.inside));
  same = λ ts. both_at u w p q p' q' M U M' U' g s' apart apart' x.good.reads y.good.reads x.good.complete x.inside
      (λ b l m. inr (y.good.begins b l (y.inside b l m))) (answers_nullable w q' U' s' g' apart'
      (as_nullable q' U' s' g' y.good)) ts (x.same ts) (λ a mid e. y.same mid);
}

-- the tree that f makes of it
pub limited_made : {T A B : Type 0} {u w : T → Bool} (f : A → B) {p q : P T A} {M U : Lang T A} {s g : T → Bool} →
    Limit u w p q M U s g → Limit u w (made f p) (made f q) (G.made f M) (G.made f U) s g
limited_made {T} {A} {B} {u} {w} f {p} {q} {M} {U} {s} {g} x = record {
  good = good_made f q U U s g x.good;
  inside = grow _ _ (λ k. grow_made k f M U (grow_to k M U x.inside));
  same = λ ts. made_at u w f p q M ts (x.same ts);
}

-- the one or the other
pub limited_either : {T A : Type 0} {u w : T → Bool} {p q p' q' : P T A} {M U M' U' : Lang T A} {s g s' g' : T →
    Bool} → Apart s s' →
    Limit u w p q M U s g → Limit u w p' q' M' U' s' g' → Limit u w (either s p p') (either s q q') (G.either M M')
    (G.either U U') (any s s') (any g g')
limited_either {T} {A} {u} {w} {p} {q} {p'} {q'} {M} {U} {M'} {U'} {s} {g} {s'} {g'} apart x y = record {
  good = good_either q q' U U U' U' s g s' g' apart x.good y.good;
  inside = grow _ _ (λ k. grow_either k M U M' U' (grow_to k M U x.inside) (grow_to k M' U' y.inside));
  same = λ ts. either_at u w s s' apart p q p' q' M M' (λ a l m. x.good.begins a l (x.inside a l m))
      (λ a l m. y.good.begins a l (y.inside a l m)) ts (x.same ts) (y.same ts);
}

-- more tokens to begin with, and more to go on
pub limited_widen : {T A : Type 0} {u w : T → Bool} {p q : P T A} {M U : Lang T A} {s g s' g' : T → Bool} →
    Within s s' → Within g g' → Limit u w p q M U s g → Limit u w p q M U s' g'
limited_widen {T} {A} {u} {w} {p} {q} {M} {U} {s} {g} {s'} {g'} a b x = record {
  good = good_widen q U U s g s' g' a
      b x.good;
  inside = x.inside;
  same = x.same;
}

-- it, or no token
pub nullable_limited : {T A : Type 0} {u w : T → Bool} {p q : P T A} {M U : Lang T A} {s g : T → Bool} →
    Limit u w p q M U s g → LimitNullable u w (maybe s p) (maybe s q) (G.optional M) (G.optional U) s (any s g)
nullable_limited {T} {A} {u} {w} {p} {q} {M} {U} {s} {g} x = record {
  good = nullable_maybe q U U s g x.good;
  inside = grow _ _ (λ k. grow_optional k M U (grow_to k M U x.inside));
  same = λ ts. maybe_at u w s p q M (λ a l m. x.good.begins a l (x.inside a l m)) ts (x.same ts);
}

-- ---- any number

-- the count of items is enough after a first item
shorter_steps : {T A : Type 0} (s : T → Bool) (p : P T A) → Shrinks p → (ts : List T) (n : ℕ) → length ts ≡ suc n →
    both p (repeat s p n) ts ≡ both p (many s p) ts
shorter_steps s p shrink ts n e =
    bind_agree (p ts) _ _ (λ x h. let d = shrink ts x.1 x.0 h in
    rw (agree_repeat (length x.1) s p p shrink (λ us z. refl) n (length x.1) x.1 (omega (arith, d, e)) (omega arith)
    (omega arith)) refl)

-- any number is one item, if any, and any number
many_step : {T A : Type 0} (s : T → Bool) (p : P T A) → Shrinks p → (ts : List T) →
    many s p ts ≡ made items_of (maybe s (both p (many s p))) ts
many_step s p shrink [] = refl
many_step {T} {A} s p shrink (t ∷ ts) =
    repeat_is s p (length ts) (t ∷ ts) ∙
    ap (λ (o : Outcome T (A × List A)). cond (s t) (o >>= λ x. Ok (Some x.0, x.1)) (Ok (None, t ∷ ts)) >>= λ x. Ok
    (items_of x.0, x.1)) (shorter_steps s p shrink (t ∷ ts) (length ts) refl)

-- items are one item, if any, and others
items_less : {T A : Type 0} (M : Lang T A) (xs : List A) (ts : List T) → G.many M xs ts →
    G.made items_of (G.optional (G.both M (G.many M))) xs ts
items_less M [] ts l = (None, l, refl)
items_less M (a ∷ more) ts l = (Some (a, more), l, refl)

-- any number of them, by the number of tokens
many_at : {T A : Type 0} (u w : T → Bool) (p q : P T A) (M U : Lang T A) (s g : T → Bool) → Apart g s → Apart w s →
    Shrinks p → Shrinks q → Limit u w p q M U s g →
    (n : ℕ) (ts : List T) → length ts ≤ n → SameAt u w (many s p) (many s q) (G.many M) ts
many_at u w p q M U s g apart apart' shrink shrink' x n [] b = λ all. inl refl
many_at u w p q M U s g apart apart' shrink shrink' x zero (t ∷ ts) b = absurd (omega arith)
many_at {T} {A} u w p q M U s g apart apart' shrink shrink' x (suc n) (t ∷ ts) b =
    let all_many = nullable_many q U U s g apart x.good in
    for_at u w (made items_of (maybe s (both p (many s p)))) (made items_of (maybe s (both q (many s q))))
    (many s p) (many s q)
    (G.made items_of (G.optional (G.both M (G.many M)))) (G.many M) (many_step s p shrink) (many_step s q shrink')
    (items_less M) (t ∷ ts)
    (made_at u w items_of (maybe s (both p (many s p))) (maybe s (both q (many s q))) (G.optional (G.both M
    (G.many M))) (t ∷ ts)
    (maybe_at u w s (both p (many s p)) (both q (many s q)) (G.both M (G.many M)) (λ c l m. rw m.4
    (opens-append s m.0 m.1 (x.good.begins c.0 m.0 (x.inside c.0 m.0 m.2)))) (t ∷ ts)
    (both_at u w p q (many s p) (many s q) M U (G.many M)
    (G.many U) g s apart apart' x.good.reads all_many.reads x.good.complete x.inside
    (λ xs l m. all_many.begins xs l (grow (G.many M) (G.many U) (λ k. grow_many k M U
    (grow_to k M U x.inside)) xs l m))
    (answers_nullable w (many s q) (G.many U) s (any s g) apart' all_many) (t ∷ ts) (x.same (t ∷ ts))
    (λ a mid e. let d = shrink' (t ∷ ts) mid a e in many_at u w p q M U s g apart apart' shrink shrink' x n mid
    (omega (arith, d, b))))))

-- any number of them
pub nullable_limited_many : {T A : Type 0} {u w : T → Bool} {p q : P T A} {M U : Lang T A} {s g : T → Bool} →
    Apart g s → Apart w s → Shrinks p → Shrinks q → Limit u w p q M U s g →
    LimitNullable u w (many s p) (many s q) (G.many M) (G.many U) s (any s g)
nullable_limited_many {T} {A} {u} {w} {p} {q} {M} {U} {s} {g} apart apart' shrink shrink' x = record {
  good = nullable_many q U U s g apart x.good;
  inside = grow _ _ (λ k. grow_many k M U (grow_to k M U x.inside));
  same = λ ts. many_at u w p q M U s g apart apart' shrink shrink' x (length ts) ts (omega arith);
}

-- a limited parser with the same answers
pub limited_for : {T A : Type 0} {u w : T → Bool} {p p' q : P T A} {M U : Lang T A} {s g : T → Bool} →
    ((ts : List T) → p' ts ≡ p ts) → Limit u w p q M U s g → Limit u w p' q M U s g
limited_for {T} {A} {u} {w} {p} {p'} {q} {M} {U} {s} {g} e x = record {
  good = x.good;
  inside = x.inside;
  same = λ
      ts. for_at u w p q p' q M M e (λ us. refl) (λ a us l. l) ts (x.same ts);
}

-- one with no limit, then the other
pub limited_then : {T A B : Type 0} {u w : T →
    Bool} {q : P T A} {p' q' : P T B} {U : Lang T A} {M' U' : Lang T B} {s g s' g' : T → Bool} → Apart g s' →
    Good q U U s g → Limit u w p' q' M' U' s' g' → Limit u w (both q p') (both q q') (G.both U M') (G.both U U') s g'
limited_then {T} {A} {B} {u} {w} {q} {p'} {q'} {U} {M'} {U'} {s} {g} {s'} {g'} apart x y = record {
  good = good_both q q' U U U' U' s g s' g' apart x y.good;
  inside = grow _ _ (λ k. grow_both k U U M' U' (grow_to k U U (λ a ts l. l)) (grow_to k M' U' y.inside));
  same = then_at u w q p' q' U M' g s' apart x.reads x.complete (λ b l m. inr (y.good.begins b l
      (y.inside b l m))) y.same;
}
