-- A word of larger languages has more, also among short texts alone.
use Rattle.std.proofs.Common.{◌≡◌, ◌∙◌, inl, inr, ◌+◌, arith, ℕ, zero, suc, Bool, [], ◌∷◌, length, None, Some, subst, ap}
use Rattle.std.proofs.lemmas.List.{length-append}
use Rattle.tdl_grammar.specs.Grammar as G
use Rattle.tdl_grammar.specs.Grammar.{Lang}
use Rattle.tdl_grammar.specs.Goodness.{Grows, GrowsTo}

-- what holds for texts of every length holds
pub grow : {T A : Type 0} (L L' : Lang T A) → ((k : ℕ) → GrowsTo k L L') → Grows L L'
grow L L' x a ts l = x (length ts) a ts (omega arith) l

-- what holds for every text holds for short ones
pub grow_to : {T A : Type 0} (k : ℕ) (L L' : Lang T A) → Grows L L' → GrowsTo k L L'
grow_to k L L' x a ts b l = x a ts l

-- of a language itself
pub grow_same : {T A : Type 0} (k : ℕ) (L : Lang T A) → GrowsTo k L L
grow_same k L a ts b l = l

-- of one after the other
pub grow_both : {T A B : Type 0} (k : ℕ) (L L' : Lang T A) (M M' : Lang T B) → GrowsTo k L L' → GrowsTo k M M' →
    GrowsTo k (G.both L M) (G.both L' M')
grow_both k L L' M M' x y c ts b l =
    let n : length ts ≡ length l.0 + length l.1 = ap length l.4 ∙ length-append l.0 l.1 in
    (l.0, l.1, x c.0 l.0 (omega arith) l.2, y c.1 l.1 (omega arith) l.3, l.4)

-- of what f makes
pub grow_made : {T A B : Type 0} (k : ℕ) (f : A → B) (L L' : Lang T A) → GrowsTo k L L' →
    GrowsTo k (G.made f L) (G.made f L')
grow_made k f L L' x c ts b l = (l.0, x l.0 ts b l.1, l.2)

-- of the one or the other
pub grow_either : {T A : Type 0} (k : ℕ) (L L' M M' : Lang T A) → GrowsTo k L L' → GrowsTo k M M' →
    GrowsTo k (G.either L M) (G.either L' M')
grow_either k L L' M M' x y a ts b (inl l) = inl (x a ts b l)
grow_either k L L' M M' x y a ts b (inr l) = inr (y a ts b l)

-- of it or no token
pub grow_optional : {T A : Type 0} (k : ℕ) (L L' : Lang T A) → GrowsTo k L L' → GrowsTo k (G.optional L) (G.optional L')
grow_optional k L L' x None ts b l = l
grow_optional k L L' x (Some a) ts b l = x a ts b l

-- of any number
pub grow_many : {T A : Type 0} (k : ℕ) (L L' : Lang T A) → GrowsTo k L L' → GrowsTo k (G.many L) (G.many L')
grow_many k L L' x [] ts b l = l
grow_many k L L' x (a ∷ more) ts b l =
    let n : length ts ≡ length l.0 + length l.1 = ap length l.4 ∙ length-append l.0 l.1 in
    (l.0, l.1, x a l.0 (omega arith) l.2, grow_many k L L' x more l.1 (omega arith) l.3, l.4)

-- of operands with operators between them
pub grow_chain : {T A : Type 0} (k : ℕ) (op : T → Bool) (f : A → T → A → A) (L L' : Lang T A) → GrowsTo k L L' →
    GrowsTo k (G.chain op f L) (G.chain op f L')
grow_chain k op f L L' x =
    grow_made k _ _ _ (grow_both k L L' _ _ x (grow_many k _ _ (grow_both k (G.one op) (G.one op) L L' (grow_same k
    (G.one op)) x)))

-- of items with a sign between them
pub grow_separated : {T A : Type 0} (k : ℕ) (op : T → Bool) (L L' : Lang T A) → GrowsTo k L L' →
    GrowsTo k (G.separated op L) (G.separated op L')
grow_separated k op L L' x =
    grow_made k _ _ _ (grow_both k L L' _ _ x (grow_many k _ _ (grow_made k _ _ _ (grow_both k (G.one op)
    (G.one op) L L' (grow_same k (G.one op)) x))))

-- a family of languages that grows has at a greater depth all that it has at a smaller one
pub grow_by : {T A : Type 0} (L : ℕ → Lang T A) → ((n : ℕ) → Grows (L n) (L (suc n))) → (j n : ℕ) →
    Grows (L n) (L (j + n))
grow_by L more zero n a ts l = let e : n ≡ 0 + n = omega arith in subst (λ (z : ℕ). L z a ts) e l
grow_by L more (suc j) n a ts l =
    let e : suc (j + n) ≡ suc j + n = omega arith in
    subst (λ (z : ℕ). L z a ts) e (more (j + n) a ts (grow_by L more j n a ts l))
