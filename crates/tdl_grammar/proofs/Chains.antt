-- Operands with operators between them, and lists with a sign between the items.
use Rattle.std.proofs.Common.{◌≡◌, ◌∙◌, inl, inr, ℕ, zero, suc, Bool, true, List, [], ◌∷◌, length, Ok, Err, refl}
use Rattle.tdl_grammar.specs.Grammar as G
use Rattle.tdl_grammar.specs.Grammar.{Lang, joined, second, listed}
use Rattle.tdl_grammar.specs.Parsing.{Outcome, P, ◌>>=◌, one, both, made, repeat, many, separated, tail, chain}
use Rattle.tdl_grammar.specs.Goodness.{Good, Apart, never, any}
use Rattle.tdl_grammar.proofs.Outcomes.{bool_is}
use Rattle.tdl_grammar.proofs.Goods.{good_one, good_both, good_after, good_made, good_same}
use Rattle.tdl_grammar.proofs.Many.{nullable_many}

-- the operands after a first one, joined
abbrev finish : {T A B : Type 0} → (A → T → B → A) → A → Outcome T (List (T × B)) → Outcome T A
finish f left o = o >>= λ y. Ok (joined f left y.0, y.1)

-- one operand more before the others
front_is : {T A B : Type 0} (f : A → T → B → A) (left : A) (t : T) (b : B) (o : Outcome T (List (T × B))) →
    finish f (f left t b) o ≡ finish f left (o >>= λ y. Ok ((t, b) ∷ y.0, y.1))
front_is f left t b (Ok y) = refl
front_is f left t b (Err d) = refl

-- the next operand is joined to the left one
next_is : {T A B : Type 0} (f : A → T → B → A) (left : A) (t : T) (after : A → P T A) (rest : P T (List (T × B))) →
    ((a : A) (ts : List T) → after a ts ≡ finish f a (rest ts)) → (o : Outcome T B) →
    (o >>= λ x. after (f left t x.0) x.1) ≡ finish f left ((o >>= λ y. Ok (
      (t, y.0),
      y.1,
    )) >>= λ x. rest x.1 >>= λ y. Ok (x.0 ∷ y.0, y.1))
next_is f left t after rest same (Ok x) = same (f left t x.0) x.1 ∙ front_is f left t x.0 (rest x.1)
next_is f left t after rest same (Err d) = refl

-- what joins as it reads gives what is read and then joined
tail_is : {T A : Type 0} (op : T → Bool) (f : A → T → A → A) (p : P T A) (n : ℕ) (left : A) (ts : List T) →
    tail op f p n left ts ≡ finish f left (repeat op (both (one op) p) n ts)
tail_is op f p zero left ts = refl
tail_is op f p (suc n) left [] = refl
tail_is op f p (suc n) left (t ∷ ts) =
    elim (bool_is (op t)) [
      | inl e ↦ rw e (next_is f left t (tail op f p n) (repeat op (both (one op) p) n) (tail_is op f p n) (p ts))
      | inr e ↦ rw e refl
    ]

-- a tree before another
abbrev paired : {T A B : Type 0} → A → Outcome T B → Outcome T (A × B)
paired a o = o >>= λ y. Ok ((a, y.0), y.1)

-- a first operand and the others, joined
abbrev joins : {T A B : Type 0} → (A → T → B → A) → Outcome T (A × List (T × B)) → Outcome T A
joins f o = o >>= λ z. Ok (joined f z.0.0 z.0.1, z.1)

-- the others after a first operand
pair_is : {T A B : Type 0} (f : A → T → B → A) (a : A) (o : Outcome T (List (T × B))) →
    finish f a o ≡ joins f (paired a o)
pair_is f a (Ok y) = refl
pair_is f a (Err d) = refl

-- the first operand, and what is read after it
first_is : {T A B : Type 0} (f : A → T → B → A) (after : A → P T A) (rest : P T (List (T × B))) →
    ((a : A) (ts : List T) → after a ts ≡ finish f a (rest ts)) → (o : Outcome T A) →
    (o >>= λ x. after x.0 x.1) ≡ joins f (o >>= λ x. paired x.0 (rest x.1))
first_is f after rest same (Ok x) = same x.0 x.1 ∙ pair_is f x.0 (rest x.1)
first_is f after rest same (Err d) = refl

-- to join while reading is to read and then to join
pub chain_is : {T A : Type 0} (op : T → Bool) (f : A → T → A → A) (p : P T A) (ts : List T) →
    chain op f p ts ≡ made (λ x. joined f x.0 x.1) (both p (many op (both (one op) p))) ts
chain_is op f p ts =
    first_is f (λ a us. tail op f p (length us) a us) (many op (both (one op) p)) (λ a us. tail_is op f p
    (length us) a us) (p ts)

-- x { op x }, joined to the left
pub good_chain : {T A : Type 0} (op : T → Bool) (some : T) → op some ≡ true → (f : A → T → A →
    A) (p : P T A) (L M : Lang T A) (s g : T → Bool) → Apart g op →
    Good p L M s g → Good (chain op f p) (G.chain op f L) (G.chain op f M) s (any g (any op g))
good_chain op some h f p L M s g apart x =
    let next = good_both (one op) p (G.one op) (G.one op) L M op never s g (λ t e. refl) (good_one op some h) x in
    good_same (made (λ z. joined f z.0 z.1) (both p (many op (both (one op) p)))) (chain op f p) _ _ s (any g
    (any op g)) (chain_is op f p)
    (good_made (λ z. joined f z.0 z.1) _ _ _ s (any g (any op g))
    (good_after p (many op (both (one op) p)) L M (G.many (G.both (G.one op) L)) (G.many (G.both
    (G.one op) M)) s g op (any op g) apart x
    (nullable_many (both (one op) p) (G.both (G.one op) L) (G.both (G.one op) M) op g apart next)))

-- x { op x }, the trees of x
pub good_separated : {T A : Type 0} (op : T → Bool) (some : T) → op some ≡ true → (p : P T A) (L M : Lang T A)
    (s g : T → Bool) → Apart g op →
    Good p L M s g → Good (separated op p) (G.separated op L) (G.separated op M) s (any g (any op g))
good_separated op some h p L M s g apart x =
    let next = good_made second (both (one op) p) (G.both (G.one op) L) (G.both (G.one op) M) op g
    (good_both (one op) p (G.one op) (G.one op) L M op never s g (λ t e. refl) (good_one op some h) x) in
    good_made listed _ _ _ s (any g (any op g))
    (good_after p (many op (made second (both (one op) p))) L M (G.many (G.made second (G.both (G.one op) L)))
    (G.many (G.made second (G.both (G.one op) M)))
    s g op (any op g) apart x (nullable_many (made second (both (one op) p)) _ _ op g apart next))
