-- A family of parsers by depth, at the depth that the tokens are enough for.
use Rattle.std.proofs.Common.{◌≡◌, ◌∙◌, ◌+◌, ◌<◌, arith, ℕ, suc, Bool, List, [], ◌∷◌, ◌++◌, length, Ok, Err, sym, subst, refl}
use Rattle.std.proofs.lemmas.List.{length-append, append_cancel_right, append-nil}
use Rattle.tdl_grammar.specs.Grammar.{Lang, some_depth}
use Rattle.tdl_grammar.specs.Parsing.{P, by_length}
use Rattle.tdl_grammar.proofs.Growing.{grow_by}
use Rattle.tdl_grammar.specs.Goodness.{Took, Failed, Reads, Good, Grows, GrowsTo, Begins, Stops, Agreeing, Shrinks}

-- a text that begins has a token
shrinks_by : {T : Type 0} (s : T → Bool) (ts front rest : List T) → Begins s front → ts ≡ front ++ rest →
    length rest < length ts
shrinks_by s ts [] rest b e = absurd (cc b)
shrinks_by s ts (f ∷ fs) rest b e = rw e (omega (arith, length-append fs rest))

-- a good parser reads at least one token
pub shrinks : {T A : Type 0} (p : P T A) (L M : Lang T A) (s g : T → Bool) → Good p L M s g → Shrinks p
shrinks p L M s g x ts rest a e = let k = x.reads.took ts rest a e in shrinks_by s ts k.front rest
    (x.begins a k.front k.spelled) k.parts

-- what is read with as much depth as there are tokens
took_by_length : {T A : Type 0} (q : ℕ → P T A) (L M : ℕ → Lang T A) → Agreeing q → ((n : ℕ) →
    Reads (q n) (L n) (M n)) →
    (ts rest : List T) (a : A) → by_length q ts ≡ Ok (a, rest) → Took (by_length q) (some_depth L) ts a rest
took_by_length {T} {A} q L M agree x ts rest a e =
    let k = (x (length ts)).took ts rest a e in
    record {
      front = k.front;
      parts = k.parts;
      spelled = (length ts, k.spelled);
      again = λ t r other d.
          let other_ts : List T = k.front ++ t ∷ other in
          let n : ℕ = length ts + length other_ts in
          let deep = (x n).took ts rest a (agree (length ts) n (length ts) (omega arith) (omega arith) ts
          (omega arith) ∙ e) in
          let fronts : deep.front ≡ k.front = append_cancel_right deep.front k.front rest (sym deep.parts ∙ k.parts) in
          agree (length other_ts) (length other_ts) n (omega arith) (omega arith) other_ts (omega arith) ∙
          subst (λ (z : List T). q n (z ++ t ∷ other) ≡ Ok (a, t ∷ other)) fronts (deep.again t r other d);
    }

-- where it fails
failed_by_length : {T A : Type 0} (q : ℕ → P T A) (L M : ℕ → Lang T A) → Agreeing q → ((n : ℕ) →
    Reads (q n) (L n) (M n)) →
    (ts rest : List T) → by_length q ts ≡ Err rest → Failed (by_length q) (some_depth M) ts rest
failed_by_length {T} {A} q L M agree x ts rest e =
    let k = (x (length ts)).failed ts rest e in
    record {
      front = k.front;
      parts = k.parts;
      others = k.others;
      tree = k.tree;
      begun = (length ts, k.begun);
      again = λ t r other d.
          let other_ts : List T = k.front ++ t ∷ other in
          let n : ℕ = length ts + length other_ts in
          let deep = (x n).failed ts rest (agree (length ts) n (length ts) (omega arith) (omega arith) ts
          (omega arith) ∙ e) in
          let fronts : deep.front ≡ k.front = append_cancel_right deep.front k.front rest (sym deep.parts ∙ k.parts) in
          agree (length other_ts) (length other_ts) n (omega arith) (omega arith) other_ts (omega arith) ∙
          subst (λ (z : List T). q n (z ++ t ∷ other) ≡ Err (t ∷ other)) fronts (deep.again t r other d);
    }

-- a family that reads its languages reads them to any depth
pub reads_by_length : {T A : Type 0} (q : ℕ → P T A) (L M : ℕ → Lang T A) → Agreeing q → ((n : ℕ) →
    Reads (q n) (L n) (M n)) →
    Reads (by_length q) (some_depth L) (some_depth M)
reads_by_length q L M agree x = record {
  took = took_by_length q L M agree x;
  failed = failed_by_length q L M agree x;
  inside = λ a ts l. (l.0, (x l.0).inside a ts l.1);
  some = (x 0).some;
  some_text = (x 0).some_text;
  some_spelled = (0, (x 0).some_spelled);
}

-- all texts of any depth are read
complete_by_length : {T A : Type 0} (q : ℕ → P T A) (L M : ℕ → Lang T A) (s g : T → Bool) → Agreeing q → ((n : ℕ) →
    Grows (L n) (L (suc n))) →
    ((n : ℕ) → Good (q n) (L n) (M n) s g) → (a : A) (front more : List T) → some_depth L a front → Stops g more →
    by_length q (front ++ more) ≡ Ok (a, more)
complete_by_length {T} q L M s g agree grows x a front more l stops =
    let ts : List T = front ++ more in
    let n : ℕ = length ts + l.0 in
    agree (length ts) (length ts) n (omega arith) (omega arith) ts (omega arith) ∙
    (x n).complete a front more (grow_by L grows (length ts) l.0 a front l.1) stops

-- a family that is good at each depth is good for its languages at any depth
pub good_by_length : {T A : Type 0} (q : ℕ → P T A) (L M : ℕ → Lang T A) (s g : T → Bool) → Agreeing q → ((n : ℕ) →
    Grows (L n) (L (suc n))) →
    ((n : ℕ) → Good (q n) (L n) (M n) s g) → Good (by_length q) (some_depth L) (some_depth M) s g
good_by_length q L M s g agree grows x = record {
  reads = reads_by_length q L M agree (λ n. (x n).reads);
  complete = complete_by_length q L M s g agree grows x;
  begins = λ a front l. (x l.0).begins a front l.1;
}

-- a text of the family needs no greater depth than it has tokens
pub shallow : {T A : Type 0} (q : ℕ → P T A) (L M : ℕ → Lang T A) (s g : T → Bool) → Agreeing q →
    ((n : ℕ) → Grows (L n) (L (suc n))) → ((n : ℕ) → Good (q n) (L n) (M n) s g) → (n : ℕ) →
    GrowsTo n (some_depth L) (L n)
shallow {T} q L M s g agree grows x n a ts b l =
    let m : ℕ = n + l.0 in
    let found : q m (ts ++ []) ≡ Ok (a, []) = (x m).complete a ts [] (grow_by L grows n l.0 a ts l.1) refl in
    let read : q n ts ≡ Ok (a, []) =
    agree n n m (omega arith) (omega arith) ts b ∙ subst (λ (z : List T). q m z ≡ Ok (a, [])) (append-nil ts) found in
    let k = (x n).reads.took ts [] a read in
    subst (λ (z : List T). L n a z) (sym (append-nil k.front) ∙ sym k.parts) k.spelled
