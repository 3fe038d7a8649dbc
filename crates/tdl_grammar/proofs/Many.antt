-- Any number of texts, one after the other.
use Rattle.std.proofs.Common.{◌≡◌, ◌⊎◌, inl, inr, ◌≤◌, ◌<◌, arith, ℕ, zero, suc, Bool, true, false, cond, List, [], ◌∷◌, ◌++◌, length, Option, None, Some, Ok, Err, refl, subst, append_assoc}
use Rattle.std.proofs.lemmas.List.{length-append}
use Rattle.tdl_grammar.specs.Grammar as G
use Rattle.tdl_grammar.specs.Grammar.{Lang, listed}
use Rattle.tdl_grammar.specs.Parsing.{Outcome, P, ◌>>=◌, opens, both, made, maybe, repeat, many}
use Rattle.tdl_grammar.specs.Goodness.{Took, Reads, Good, Nullable, Grows, Begins, Stops, Apart, Agree, Shrinks, any}
use Rattle.tdl_grammar.proofs.Growing.{grow, grow_to, grow_many}
use Rattle.tdl_grammar.proofs.Outcomes.{given_is, opens-append}
use Rattle.tdl_grammar.proofs.Reading.{reads_both, reads_made}
use Rattle.tdl_grammar.proofs.ReadingChoices.{reads_maybe}
use Rattle.tdl_grammar.proofs.ReadingOthers.{reads_same, reads_for}
use Rattle.tdl_grammar.proofs.Goods.{stops_apart, stops_left, stops_right}
use Rattle.tdl_grammar.proofs.Depth.{shrinks, reads_by_length}

-- two steps that agree
pub bind_agree : {T A B : Type 0} (o : Outcome T A) (f g : A × List T → Outcome T B) → ((x : A × List T) → o ≡ Ok x →
    f x ≡ g x) → (o >>= f) ≡ (o >>= g)
bind_agree (Ok x) f g h = h x refl
bind_agree (Err d) f g h = refl

-- the count doesn't matter where the tokens are no more
pub agree_repeat : {T A : Type 0} (k : ℕ) (s : T → Bool) (p p' : P T A) → Shrinks p' → Agree k p p' →
    (n m : ℕ) (ts : List T) → length ts ≤ n → length ts ≤ m → length ts ≤ k → repeat s p n ts ≡ repeat s p' m ts
agree_repeat k s p p' shrink same zero zero ts a b c = refl
agree_repeat k s p p' shrink same zero (suc m) [] a b c = refl
agree_repeat k s p p' shrink same zero (suc m) (t ∷ ts) a b c = absurd (omega arith)
agree_repeat k s p p' shrink same (suc n) zero [] a b c = refl
agree_repeat k s p p' shrink same (suc n) zero (t ∷ ts) a b c = absurd (omega arith)
agree_repeat k s p p' shrink same (suc n) (suc m) ts a b c =
    rw (
      same ts c,
      bind_agree (p' ts) (λ x. repeat s p n x.1 >>= λ y. Ok (x.0 ∷ y.0, y.1)) (λ x. repeat s p' m x.1 >>= λ y. Ok
          (x.0 ∷ y.0, y.1))
          (λ x e. let w = shrink ts x.1 x.0 e in rw (agree_repeat k s p p' shrink same n m x.1 (omega arith)
          (omega arith) (omega arith)) refl),
    ) refl

-- items, where a first one is read
abbrev pub items_of : {A : Type 0} → Option (A × List A) → List A
items_of None = []
items_of (Some x) = listed x

-- at most one item, and the others
abbrev pub step : {T A : Type 0} → (T → Bool) → P T A → ℕ → P T (List A)
step s p n = made items_of (maybe s (both p (repeat s p n)))

-- the list is read as the first item, if any, and the others
step_is : {T A : Type 0} (s : T → Bool) (p : P T A) (n : ℕ) (b : Bool) (o : Outcome T A) (none : Outcome T (List A))
    (ts : List T) → none ≡ Ok ([], ts) →
    cond b (o >>= λ x. repeat s p n x.1 >>= λ y. Ok (x.0 ∷ y.0, y.1)) none ≡
    (cond b ((o >>= λ x. repeat s p n x.1 >>= λ y. Ok ((x.0, y.0), y.1)) >>= λ x. Ok (Some x.0, x.1)) (Ok (
      None,
      ts,
    )) >>= λ x. Ok (items_of x.0, x.1))
step_is s p n false o none ts e = e
step_is s p n true (Err d) none ts e = refl
step_is s p n true (Ok x) none ts e = pair_is x.0 (repeat s p n x.1)
  where
    pair_is : {T A : Type 0} (a : A) (o : Outcome T (List A)) → (o >>= λ y. Ok (a ∷ y.0, y.1)) ≡
        (((o >>= λ y. Ok ((a, y.0), y.1)) >>= λ x. Ok (Some x.0, x.1)) >>= λ x. Ok (items_of x.0, x.1))
    pair_is a (Ok y) = refl
    pair_is a (Err d) = refl

-- the count and one is one step
pub repeat_is : {T A : Type 0} (s : T → Bool) (p : P T A) (n : ℕ) (ts : List T) → repeat s p (suc n) ts ≡ step s p n ts
repeat_is s p n ts = step_is s p n (opens s ts) (p ts) (Ok ([], ts)) ts refl

-- a first item and others are items
of_items : {T A : Type 0} (L : Lang T A) (o : Option (A × List A)) (xs : List A) (ts : List T) →
    G.optional (G.both L (G.many L)) o ts → xs ≡ items_of o → G.many L xs ts
of_items L None xs ts l e = rw e l
of_items L (Some x) xs ts l e = rw e l

-- with no count no item is read
reads_none : {T A : Type 0} (s : T → Bool) (p : P T A) (L M : Lang T A) → Grows L M →
    Reads (repeat s p 0) (G.many L) (G.many M)
reads_none {T} {A} s p L M x = record {
  took = λ ts rest a e. subst (λ (z : List A × List T). Took (repeat s p 0) (G.many L) ts z.0 z.1) (given_is (
    [],
    ts,
  ) (a, rest) e)
      (record { front = []; parts = refl; spelled = refl; again = λ t r other d. refl });
  failed = λ ts rest e. absurd (cc e);
  inside = grow _ _ (λ k. grow_many k L M (grow_to k L M x));
  some = [];
  some_text = [];
  some_spelled = refl;
}

-- items are read up to any count
reads_repeat : {T A : Type 0} (s : T → Bool) (p : P T A) (L M : Lang T A) → Reads p L M → (n : ℕ) →
    Reads (repeat s p n) (G.many L) (G.many M)
reads_repeat s p L M x zero = reads_none s p L M x.inside
reads_repeat s p L M x (suc n) =
    reads_same (step s p n) (repeat s p (suc n)) (G.many L) (G.many M) (repeat_is s p n)
    (reads_for (step s p n) (G.made items_of (G.optional (G.both L (G.many L)))) (G.made items_of (G.optional
    (G.both M (G.many M)))) (G.many L) (G.many M)
    (λ xs ts l. of_items L l.0 xs ts l.1 l.2) (λ xs ts l. of_items M l.0 xs ts l.1 l.2) (grow _ _
    (λ k. grow_many k L M (grow_to k L M x.inside)))
    (reads_made items_of (maybe s (both p (repeat s p n))) _ _
    (reads_maybe s (both p (repeat s p n)) _ _ (reads_both p (repeat s p n) L M (G.many L) (G.many M) x
    (reads_repeat s p L M x n)))))

-- what items begin with
begins_many : {T A : Type 0} (p : P T A) (L M : Lang T A) (s g : T → Bool) → Good p L M s g →
    (xs : List A) (front : List T) → G.many L xs front → (front ≡ []) ⊎ Begins s front
begins_many p L M s g x [] front l = inl l
begins_many p L M s g x (a ∷ more) front l = inr (rw l.4 (opens-append s l.0 l.1 (x.begins a l.0 l.2)))

-- an item stops where the next begins, or after the last
stops_before : {T : Type 0} (s g : T → Bool) (back more : List T) → Apart g s → (back ≡ []) ⊎ Begins s back →
    Stops (any s g) more → Stops g (back ++ more)
stops_before s g back more apart (inl e) stops = rw e (stops_right s g more stops)
stops_before s g back more apart (inr b) stops = stops_apart g s back more apart b

-- the rest of a text has fewer tokens
rest_fits : {T : Type 0} (s : T → Bool) (first back more front : List T) → Begins s first → front ≡ first ++ back →
    length (back ++ more) < length (front ++ more)
rest_fits s [] back more front b e = absurd (cc b)
rest_fits s (f ∷ fs) back more front b e = rw (e, append_assoc fs back more) (omega (
  arith,
  length-append fs
      (back ++ more),
))

-- all items are read where the count is enough
complete_repeat : {T A : Type 0} (p : P T A) (L M : Lang T A) (s g : T → Bool) → Apart g s → Good p L M s g →
    (xs : List A) (n : ℕ) (front more : List T) → G.many L xs front → Stops (any s g) more →
    length (front ++ more) ≤ n →
    repeat s p n (front ++ more) ≡ Ok (xs, more)
complete_repeat p L M s g apart x [] zero front more l stops b = rw l refl
complete_repeat p L M s g apart x [] (suc n) front more l stops b = rw (l, stops_left s g more stops) refl
complete_repeat p L M s g apart x (a ∷ xs) zero front more l stops b =
    absurd (let d = rest_fits s l.0 l.1 more front (x.begins a l.0 l.2) l.4 in omega arith)
complete_repeat p L M s g apart x (a ∷ xs) (suc n) front more l stops b =
    let d = rest_fits s l.0 l.1 more front (x.begins a l.0 l.2) l.4 in
    let fits : length (l.1 ++ more) ≤ n = omega arith in
    rw (
      l.4,
      append_assoc l.0 l.1 more,
      opens-append s l.0 (l.1 ++ more) (x.begins a l.0 l.2),
      x.complete a l.0 (l.1 ++ more) l.2 (stops_before s g l.1 more apart (begins_many p L M s g x xs l.1 l.3) stops),
      complete_repeat p L M s g apart x xs n l.1 more l.3 stops fits,
    ) refl

-- any number of them
pub nullable_many : {T A : Type 0} (p : P T A) (L M : Lang T A) (s g : T → Bool) → Apart g s →
    Good p L M s g → Nullable (many s p) (G.many L) (G.many M) s (any s g)
nullable_many p L M s g apart x = record {
  reads = reads_for (many s p) (G.some_depth (λ n. G.many L)) (G.some_depth (λ n. G.many M)) (G.many L) (G.many M)
      (λ a ts l. l.1) (λ a ts l. l.1) (grow _ _ (λ k. grow_many k L M (grow_to k L M x.reads.inside)))
      (reads_by_length (repeat s p) (λ n. G.many L) (λ n. G.many M)
      (λ k n m a b ts c. agree_repeat k s p p (shrinks p L M s g x) (λ us h. refl) n m ts (omega arith) (omega arith) c)
      (reads_repeat s p L M x.reads));
  complete = λ xs front more l stops. complete_repeat p L M s g apart x xs (length
      (front ++ more)) front more l stops (omega arith);
  begins = begins_many p L M s g x;
}
