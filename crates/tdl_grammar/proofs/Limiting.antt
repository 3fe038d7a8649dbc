-- A parser with limits beside the one without: it answers the same, or no text within the limits goes on.
use Rattle.std.proofs.Common.{◌≡◌, ◌∙◌, ◌⊎◌, inl, inr, ◌+◌, ◌≤◌, arith, Bool, true, false, List, [], ◌∷◌, ◌++◌, length, Option, None, Some, Ok, Err, refl, sym, ap, subst, append_assoc}
use Rattle.std.proofs.lemmas.List.{length-append}
use Rattle.tdl_grammar.specs.Grammar as G
use Rattle.tdl_grammar.specs.Grammar.{Lang}
use Rattle.tdl_grammar.specs.Counting.{counted}
use Rattle.tdl_grammar.specs.Parsing.{Outcome, P, ◌>>=◌, opens, both, made, either, maybe}
use Rattle.tdl_grammar.specs.Goodness.{Reads, Grows, Begins, Stops, Apart}
use Rattle.tdl_grammar.proofs.Outcomes.{bind_ok, bool_is, given_is, opens_again}
use Rattle.tdl_grammar.proofs.Reading.{resume}
use Rattle.tdl_grammar.proofs.Agreeing.{leaves}

-- all of them count
abbrev pub AllCount : {T : Type 0} → (T → Bool) → List T → Type 0
AllCount u ts = counted u ts ≡ length ts

-- none of them counts
abbrev pub NoneCounts : {T : Type 0} → (T → Bool) → List T → Type 0
NoneCounts u ts = counted u ts ≡ 0

-- what counts in two lists
pub counted-append : {T : Type 0} (u : T → Bool) (xs ys : List T) → counted u (xs ++ ys) ≡ counted u xs + counted u ys
counted-append u [] ys = omega arith
counted-append u (x ∷ xs) ys =
    elim (bool_is (u x)) [
      | inl e ↦ let d = counted-append u xs ys in rw e (omega (arith, d))
      | inr e ↦ let d = counted-append u xs ys in rw e d
    ]

-- no more count than there are
pub counted-most : {T : Type 0} (u : T → Bool) (xs : List T) → counted u xs ≤ length xs
counted-most u [] = omega arith
counted-most u (x ∷ xs) =
    elim (bool_is (u x)) [
      | inl e ↦ let d = counted-most u xs in rw e (omega (arith, d))
      | inr e ↦ let d = counted-most u xs in rw e (omega (arith, d))
    ]

-- where all count, all count at the end
pub all_count_end : {T : Type 0} (u : T → Bool) (ts front rest : List T) → ts ≡ front ++ rest → AllCount u ts →
    AllCount u rest
all_count_end u ts front rest e h =
    let a : counted u (front ++ rest) ≡ length (front ++ rest) = subst (AllCount u) e h in
    omega (arith, a, counted-append u front rest, length-append front rest, counted-most u front, counted-most u rest)

-- where none counts, none counts in the first part
pub none_count_front : {T : Type 0} (u : T → Bool) (ts front rest : List T) → ts ≡ front ++ rest → NoneCounts u ts →
    NoneCounts u front
none_count_front u ts front rest e h =
    let a : counted u (front ++ rest) ≡ 0 = subst (NoneCounts u) e h in
    omega (arith, a, counted-append u front rest)

-- two splits of a list
pub record Split {T : Type 0} (xs ys zs ws : List T) : Type 0 where
  pub mid : List T
  pub left : xs ≡ zs ++ mid
  pub right : ws ≡ mid ++ ys

-- the one that is cut further to the right has some tokens more in front
pub split_at : {T : Type 0} (xs ys zs ws : List T) → xs ++ ys ≡ zs ++ ws → length ys ≤ length ws → Split xs ys zs ws
split_at xs ys [] ws e b = record { mid = xs; left = refl; right = sym e }
split_at [] ys (z ∷ zs) ws e b =
    absurd (let d : length ys ≡ length (z ∷ (zs ++ ws)) = ap length e in omega (arith, d, length-append zs ws))
split_at {T} (x ∷ xs) ys (z ∷ zs) ws e b =
    let same : x ≡ z = (let q = e in cc) in
    let rest : xs ++ ys ≡ zs ++ ws = (let q = e in cc) in
    let k = split_at xs ys zs ws rest b in
    record {
      mid = k.mid;
      left = ap (λ (v : List T). x ∷ v) k.left ∙
          ap (λ (v : T). v ∷ (zs ++ k.mid)) same;
      right = k.right;
    }

-- where p fails at a token: q passes it or stops at it as at one of w, and no text of M goes on with it
pub record Blocked {T A : Type 0} (u w : T → Bool) (p q : P T A) (M : Lang T A) (ts : List T) : Type 0 where
  pub front : List T
  pub token : T
  pub after : List T
  pub parts : ts ≡ front ++ token ∷ after
  pub fails : p ts ≡ Err (token ∷ after)
  pub past : (more rest : List T) (a : A) → q (front ++ token ∷ more) ≡ Ok (a, rest) →
      (length rest ≤ length more) ⊎ ((rest ≡ token ∷ more) × (w token ≡ true))
  pub never_on : (more : List T) (a : A) → NoneCounts u more → M a (front ++ token ∷ more) → ⊥

-- p answers as q where all tokens count, or is blocked
abbrev pub SameAt : {T A : Type 0} → (T → Bool) → (T → Bool) → P T A → P T A → Lang T A → List T → Type 0
SameAt u w p q M ts = AllCount u ts → (p ts ≡ q ts) ⊎ Blocked u w p q M ts

-- and so on every list
abbrev pub Same : {T A : Type 0} → (T → Bool) → (T → Bool) → P T A → P T A → Lang T A → Type 0
Same {T} u w p q M = (ts : List T) → SameAt u w p q M ts

-- a parser stops where the next begins, or where there is no token
stops_begins : {T : Type 0} (g s : T → Bool) (ts : List T) → Apart g s → (ts ≡ []) ⊎ Begins s ts → Stops g ts
stops_begins g s [] apart b = refl
stops_begins g s (t ∷ ts) apart (inl e) = absurd (cc e)
stops_begins g s (t ∷ ts) apart (inr b) = apart t b

-- how the second of two answers where the first stops at a token of w
abbrev pub Answers : {T B : Type 0} → (T → Bool) → P T B → Type 0
Answers {T} {B} w q' = (t : T) (more rest : List T) (b : B) → w t ≡ true → q' (t ∷ more) ≡ Ok (b, rest) →
    (length rest ≤ length more) ⊎ (rest ≡ t ∷ more)

-- the second passes the token that the first passed or stopped at, or stops at it too
left_past : {T B : Type 0} (w : T → Bool) (q' : P T B) (U' : Lang T B) → Reads q' U' U' → Answers w q' →
    (more rest mid : List T) (t : T) (b : B) → (length mid ≤ length more) ⊎ ((mid ≡ t ∷ more) × (w t ≡ true)) →
    q' mid ≡ Ok (b, rest) →
    (length rest ≤ length more) ⊎ ((rest ≡ t ∷ more) × (w t ≡ true))
left_past w q' U' r right more rest mid t b (inl d) e = let n = leaves q' U' U' r mid rest b e in inl (omega
    (arith, d, n))
left_past w q' U' r right more rest mid t b (inr d) e =
    elim (right t more rest b d.1 (subst (λ z. q' z ≡ Ok (b, rest)) d.0 e)) [
      | inl h ↦ inl h
      | inr h ↦ inr (h, d.1)
    ]

-- so do both
both_past : {T A B : Type 0} (u w : T → Bool) (p q : P T A) (M : Lang T A) (q' : P T B) (U' : Lang T B) →
    Reads q' U' U' → Answers w q' → (ts : List T) (k : Blocked u w p q M ts) →
    (more rest : List T) (c : A × B) → both q q' (k.front ++ k.token ∷ more) ≡ Ok (c, rest) →
    (length rest ≤ length more) ⊎ ((rest ≡ k.token ∷ more) × (w k.token ≡ true))
both_past {T} {A} {B} u w p q M q' U' r right ts k more rest c e =
    let h = bind_ok (q (k.front ++ k.token ∷ more)) (λ x. q' x.1 >>= λ y. Ok ((x.0, y.0), y.1)) (c, rest) e in
    let i = bind_ok (q' h.0.1) (λ y. Ok ((h.0.0, y.0), y.1)) (c, rest) h.2 in
    let same : i.0.1 ≡ rest = ap (λ (z : (A × B) × List T). z.1) (given_is ((h.0.0, i.0.0), i.0.1) (c, rest) i.2) in
    subst (λ (z : List T). (length z ≤ length more) ⊎ ((z ≡ k.token ∷ more) × (w k.token ≡ true))) same
    (left_past w q' U' r right more i.0.1 h.0.1 k.token i.0.0 (k.past more h.0.1 h.0.0 h.1) i.1)

-- where the first is blocked, no text of both goes on
left_never : {T A B : Type 0} (u w : T → Bool) (p q : P T A) (M U : Lang T A) (M' : Lang T B) (g s' : T → Bool) →
    Apart g s' → Apart w s' →
    ((a : A) (front more : List T) → U a front → Stops g more → q (front ++ more) ≡ Ok (a, more)) → Grows M U →
    ((b : B) (l : List T) → M' b l → (l ≡ []) ⊎ Begins s' l) → (ts : List T) (k : Blocked u w p q M ts) →
    (more : List T) (c : A × B) → NoneCounts u more → G.both M M' c (k.front ++ k.token ∷ more) → ⊥
left_never {T} {A} u w p q M U M' g s' apart apart' complete inside begins ts k more c none l =
    let read : q (k.front ++ k.token ∷ more) ≡ Ok (c.0, l.1) =
    subst (λ (z : List T). q z ≡ Ok (c.0, l.1)) (sym l.4) (complete c.0 l.0 l.1 (inside c.0 l.0 l.2)
    (stops_begins g s' l.1 apart (begins c.1 l.1 l.3))) in
    elim (k.past more l.1 c.0 read) [
      | inl d ↦
          let i = split_at l.0 l.1 (k.front ++ k.token ∷ []) more (sym l.4 ∙
          sym (append_assoc k.front (k.token ∷ []) more)) d in
          k.never_on i.mid c.0 (none_count_front u more i.mid l.1 i.right none)
          (subst (λ (z : List T). M c.0 z) (i.left ∙ append_assoc k.front (k.token ∷ []) i.mid) l.2)
      | inr d ↦
          let stop : Stops w (k.token ∷ more) = subst (λ (z : List T). Stops w z) d.0 (stops_begins w s' l.1 apart'
          (begins c.1 l.1 l.3)) in
          cc (stop, d.1)
    ]

-- both answer the same where the first do, and the second do after it
both_err : {T A B : Type 0} (p q : P T A) (p' q' : P T B) (ts : List T) (o : Outcome T A) → p ts ≡ o → q ts ≡ o →
    ((a : A) (mid : List T) → o ≡ Ok (a, mid) → p' mid ≡ q' mid) →
    both p p' ts ≡ both q q' ts
both_err p q p' q' ts (Err d) e f h = rw (e, f) refl
both_err p q p' q' ts (Ok x) e f h = rw (e, f, h x.0 x.1 refl) refl

-- where the second is blocked after the first, both are
right_blocked : {T A B : Type 0} (u w : T → Bool) (p q : P T A) (p' q' : P T B) (M U : Lang T A) (M' : Lang T B)
    (g s' : T → Bool) → Apart g s' → Reads q U U →
    ((a : A) (front more : List T) → U a front → Stops g more → q (front ++ more) ≡ Ok (a, more)) → Grows M U →
    ((b : B) (l : List T) → M' b l → (l ≡ []) ⊎ Begins s' l) → (ts mid : List T) (a : A) → p ts ≡ q ts →
    q ts ≡ Ok (a, mid) → Blocked u w p' q' M' mid →
    Blocked u w (both p p') (both q q') (G.both M M') ts
right_blocked {T} {A} {B} u w p q p' q' M U M' g s' apart r complete inside begins ts mid a e f k =
    let t = r.took ts mid a f in
    record {
      front = t.front ++ k.front;
      token = k.token;
      after = k.after;
      parts = t.parts ∙ ap (λ (z : List T). t.front ++ z) k.parts ∙
          sym (append_assoc t.front k.front (k.token ∷ k.after));
      fails = rw (e, f, k.fails) refl;
      past = λ more rest c h.
          let on : q (t.front ++ (k.front ++ k.token ∷ more)) ≡ Ok
          (a, k.front ++ k.token ∷ more) = resume q U ts mid a t k.front k.token k.after more k.parts in
          let whole : both q q' (t.front ++ (k.front ++ k.token ∷ more)) ≡ Ok (c, rest) = subst (λ
          (z : List T). both q q' z ≡ Ok (c, rest)) (append_assoc t.front k.front (k.token ∷ more)) h in
          let next : (q' (k.front ++ k.token ∷ more) >>= λ y. Ok ((a, y.0), y.1)) ≡ Ok (c, rest) = subst (λ
          (z : Outcome T A). (z >>= λ x. q' x.1 >>= λ y. Ok ((x.0, y.0), y.1)) ≡ Ok (c, rest)) on whole in
          let i = bind_ok (q' (k.front ++ k.token ∷ more)) (λ y. Ok ((a, y.0), y.1)) (c, rest) next in
          let same : i.0.1 ≡ rest = ap (λ (z : (A × B) × List T). z.1) (given_is ((a, i.0.0), i.0.1) (c, rest) i.2) in
          subst (λ (z : List T). (length z ≤ length more) ⊎ ((z ≡ k.token ∷ more) × (w k.token ≡ true))) same
          (k.past more i.0.1 i.0.0 i.1);
      never_on = λ more c none l.
          let on : q (t.front ++ (k.front ++ k.token ∷ more)) ≡ Ok
          (a, k.front ++ k.token ∷ more) = resume q U ts mid a t k.front k.token k.after more k.parts in
          let read : q (l.0 ++ l.1) ≡ Ok (c.0, l.1) = complete c.0 l.0 l.1 (inside c.0 l.0 l.2)
          (stops_begins g s' l.1 apart (begins c.1 l.1 l.3)) in
          let read' : q (t.front ++ (k.front ++ k.token ∷ more)) ≡ Ok (c.0, l.1) = subst (λ (z : List T). q z ≡ Ok
          (c.0, l.1)) (sym l.4 ∙ append_assoc t.front k.front (k.token ∷ more)) read in
          let rests : l.1 ≡ k.front ++ k.token ∷ more = ap (λ (z : A × List T). z.1) (given_is (c.0, l.1)
          (a, k.front ++ k.token ∷ more) (sym read' ∙ on)) in
          k.never_on more c.1 none (subst (λ (z : List T). M' c.1 z) rests l.3);
    }

-- one after the other
pub both_at : {T A B : Type 0} (u w : T → Bool) (p q : P T A) (p' q' : P T B) (M U : Lang T A) (M' U' : Lang T B)
    (g s' : T → Bool) → Apart g s' → Apart w s' → Reads q U U → Reads q' U' U' →
    ((a : A) (front more : List T) → U a front → Stops g more → q (front ++ more) ≡ Ok (a, more)) → Grows M U →
    ((b : B) (l : List T) → M' b l → (l ≡ []) ⊎ Begins s' l) → Answers w q' →
    (ts : List T) → SameAt u w p q M ts → ((a : A) (mid : List T) → q ts ≡ Ok (a, mid) → SameAt u w p' q' M' mid) →
    SameAt u w (both p p') (both q q') (G.both M M') ts
both_at {T} {A} {B} u w p q p' q' M U M' U' g s' apart apart' r r' complete inside begins right ts x y all =
    elim (x all) [
      | inr k ↦ inr (record {
        front = k.front;
        token = k.token;
        after = k.after;
        parts = k.parts;
        fails = rw k.fails refl;
        past = both_past u w p q M q' U' r' right ts k;
        never_on = left_never u w p q M U M' g s' apart apart' complete inside begins ts k;
      })
      | inl e ↦ by_outcome e (q ts) refl
    ]
  where
    by_outcome : p ts ≡ q ts → (o : Outcome T A) → q ts ≡ o →
        (both p p' ts ≡ both q q' ts) ⊎ Blocked u w (both p p') (both q q') (G.both M M') ts
    by_outcome e (Err d) f = inl (rw (e, f) refl)
    by_outcome e (Ok (a, mid)) f =
        let t = r.took ts mid a f in
        elim (y a mid f (all_count_end u ts t.front mid t.parts all)) [
          | inl h ↦ inl (rw (e, f, h) refl)
          | inr k ↦ inr (right_blocked u w p q p' q' M U M' g s' apart r complete inside begins ts mid a e f k)
        ]

-- the tree that f makes of it
pub made_at : {T A B : Type 0} (u w : T → Bool) (f : A → B) (p q : P T A) (M : Lang T A) (ts : List T) →
    SameAt u w p q M ts → SameAt u w (made f p) (made f q) (G.made f M) ts
made_at {T} {A} {B} u w f p q M ts x all =
    elim (x all) [
      | inl e ↦ inl (rw e refl)
      | inr k ↦ inr (record {
        front = k.front;
        token = k.token;
        after = k.after;
        parts = k.parts;
        fails = rw k.fails refl;
        past = λ more rest b e.
            let h = bind_ok (q (k.front ++ k.token ∷ more)) (λ y. Ok (f y.0, y.1)) (b, rest) e in
            let same : h.0.1 ≡ rest = ap (λ (z : B × List T). z.1) (given_is (f h.0.0, h.0.1) (b, rest) h.2) in
            subst (λ (z : List T). (length z ≤ length more) ⊎ ((z ≡ k.token ∷ more) × (w k.token ≡ true))) same
            (k.past more h.0.1 h.0.0 h.1);
        never_on = λ more b none l. k.never_on more l.0 none l.1;
      })
    ]

-- the same with other names
pub for_at : {T A : Type 0} (u w : T → Bool) (p q p' q' : P T A) (M M' : Lang T A) → ((ts : List T) → p' ts ≡ p ts) →
    ((ts : List T) → q' ts ≡ q ts) → Grows M' M →
    (ts : List T) → SameAt u w p q M ts → SameAt u w p' q' M' ts
for_at {T} {A} u w p q p' q' M M' e e' less ts x all =
    elim (x all) [
      | inl h ↦ inl (e ts ∙ h ∙ sym (e' ts))
      | inr k ↦ inr (record {
        front = k.front;
        token = k.token;
        after = k.after;
        parts = k.parts;
        fails = e ts ∙ k.fails;
        past = λ more rest a h. k.past more rest a (sym (e' (k.front ++ k.token ∷ more)) ∙ h);
        never_on = λ more a none l. k.never_on more a none (less a (k.front ++ k.token ∷ more) l);
      })
    ]

-- what the next token chooses on both sides
chosen_at : {T A : Type 0} (u w s : T → Bool) (b : Bool) (p q p' q' : P T A) (M M' : Lang T A) → ((ts : List T) →
    opens s ts ≡ b → p' ts ≡ p ts) → ((ts : List T) → opens s ts ≡ b → q' ts ≡ q ts) →
    ((a : A) (l : List T) → opens s l ≡ b → M' a l → M a l) → (ts : List T) → opens s ts ≡ b → SameAt u w p q M ts →
    SameAt u w p' q' M' ts
chosen_at {T} {A} u w s b p q p' q' M M' e e' less ts o x all =
    elim (x all) [
      | inl h ↦ inl (e ts o ∙ h ∙ sym (e' ts o))
      | inr k ↦
          let seen : (more : List T) → opens s (k.front ++ k.token ∷ more) ≡ b =
          λ more. opens_again s k.front k.token k.after more ∙ ap (opens s) (sym k.parts) ∙ o in
          inr (record {
            front = k.front;
            token = k.token;
            after = k.after;
            parts = k.parts;
            fails = e ts o ∙ k.fails;
            past = λ more rest a h. k.past more rest a (sym (e' (k.front ++ k.token ∷ more) (seen more)) ∙ h);
            never_on = λ more a none l. k.never_on more a none (less a (k.front ++ k.token ∷ more) (seen more) l);
          })
    ]

-- a list does not both begin and not begin with such a token
not_both : {T : Type 0} (s : T → Bool) (l : List T) → Begins s l → opens s l ≡ false → ⊥
not_both s l b o = let d = b in cc (d, o)

-- the one or the other
pub either_at : {T A : Type 0} (u w s s' : T → Bool) → Apart s s' → (p q p' q' : P T A) (M M' : Lang T A) →
    ((a : A) (l : List T) → M a l → Begins s l) → ((a : A) (l : List T) → M' a l → Begins s' l) →
    (ts : List T) → SameAt u w p q M ts → SameAt u w p' q' M' ts →
    SameAt u w (either s p p') (either s q q') (G.either M M') ts
either_at {T} {A} u w s s' apart p q p' q' M M' b b' ts x y =
    elim (bool_is (opens s ts)) [
      | inl o ↦ chosen_at u w s true p q (either s p p') (either s q q') M (G.either M M') (λ us g. rw g refl)
          (λ us g. rw g refl) first ts o x
      | inr o ↦ chosen_at u w s false p' q' (either s p p') (either s q q') M' (G.either M M') (λ us g. rw g refl)
          (λ us g. rw g refl) last ts o y
    ]
  where
    first : (a : A) (l : List T) → opens s l ≡ true → G.either M M' a l → M a l
    first a l o (inl m) = m
    first a l o (inr m) = absurd (let d = stops_begins s s' l apart (inr (b' a l m)) in cc (o, d))

    last : (a : A) (l : List T) → opens s l ≡ false → G.either M M' a l → M' a l
    last a l o (inl m) = absurd (let d = b a l m in cc (o, d))
    last a l o (inr m) = m

-- it, or no token
pub maybe_at : {T A : Type 0} (u w s : T → Bool) (p q : P T A) (M : Lang T A) → ((a : A) (l : List T) → M a l →
    Begins s l) →
    (ts : List T) → SameAt u w p q M ts → SameAt u w (maybe s p) (maybe s q) (G.optional M) ts
maybe_at {T} {A} u w s p q M b ts x all =
    elim (bool_is (opens s ts)) [
      | inl o ↦ chosen_at u w s true (made Some p) (made Some q) (maybe s p) (maybe s q) (G.made Some M)
          (G.optional M) (λ us g. rw g refl) (λ us g. rw g refl) there ts o
          (made_at u w Some p q M ts x) all
      | inr o ↦ inl (rw o refl)
    ]
  where
    there : (a : Option A) (l : List T) → opens s l ≡ true → G.optional M a l → G.made Some M a l
    there None l o m = absurd (let d = m in let z : opens s [] ≡ true = subst (λ v. opens s v ≡ true) d o in cc z)
    there (Some a) l o m = (a, m, refl)

-- one with no limit, then the other
pub then_at : {T A B : Type 0} (u w : T → Bool) (q : P T A) (p' q' : P T B) (U : Lang T A) (M' : Lang T B)
    (g s' : T → Bool) → Apart g s' → Reads q U U →
    ((a : A) (front more : List T) → U a front → Stops g more → q (front ++ more) ≡ Ok (a, more)) →
    ((b : B) (l : List T) → M' b l → (l ≡ []) ⊎ Begins s' l) →
    Same u w p' q' M' → (ts : List T) → SameAt u w (both q p') (both q q') (G.both U M') ts
then_at {T} {A} {B} u w q p' q' U M' g s' apart r complete begins y ts all = by_outcome (q ts) refl
  where
    by_outcome : (o : Outcome T A) → q ts ≡ o → (both q p' ts ≡ both q q' ts) ⊎ Blocked u w (both q p') (both q q')
        (G.both U M') ts
    by_outcome (Err d) f = inl (rw f refl)
    by_outcome (Ok (a, mid)) f =
        let t = r.took ts mid a f in
        elim (y mid (all_count_end u ts t.front mid t.parts all)) [
          | inl h ↦ inl (rw (f, h) refl)
          | inr k ↦ inr (right_blocked u w q q p' q' U U M' g s' apart r complete
              (λ c l m. m) begins ts mid a refl f k)
        ]
