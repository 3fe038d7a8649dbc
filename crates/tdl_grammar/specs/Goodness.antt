-- When a parser is good for a language.
use Rattle.std.specs.Prelude.{◌≡◌, ◌≤◌, ◌<◌, ◌⊎◌, ℕ, Bool, true, false, cond, List, [], ◌∷◌, ◌++◌, length, Ok, Err}
use Rattle.tdl_grammar.specs.Grammar.{Lang}
use Rattle.tdl_grammar.specs.Parsing.{P, opens}

-- of no token
abbrev pub never : {T : Type 0} → T → Bool
never t = false

-- of the one or the other
abbrev pub any : {T : Type 0} → (T → Bool) → (T → Bool) → T → Bool
any s s' t = cond (s t) true (s' t)

-- the list begins with such a token
abbrev pub Begins : {T : Type 0} → (T → Bool) → List T → Type 0
Begins starts ts = opens starts ts ≡ true

-- the next token is none on which a parser goes on, or there is none
abbrev pub Stops : {T : Type 0} → (T → Bool) → List T → Type 0
Stops goes ts = opens goes ts ≡ false

-- no token is in both
abbrev pub Apart : {T : Type 0} → (T → Bool) → (T → Bool) → Type 0
Apart {T} goes starts = (t : T) → starts t ≡ true → goes t ≡ false

-- each token of the one is one of the other
abbrev pub Within : {T : Type 0} → (T → Bool) → (T → Bool) → Type 0
Within {T} s s' = (t : T) → s t ≡ true → s' t ≡ true

-- the second language has all that the first has
abbrev pub Grows : {T A : Type 0} → Lang T A → Lang T A → Type 0
Grows {T} {A} L M = (a : A) (ts : List T) → L a ts → M a ts

-- and so for texts of at most k tokens
abbrev pub GrowsTo : {T A : Type 0} → ℕ → Lang T A → Lang T A → Type 0
GrowsTo {T} {A} k L M = (a : A) (ts : List T) → length ts ≤ k → L a ts → M a ts

-- the same answers on lists of at most k tokens
abbrev pub Agree : {T A : Type 0} → ℕ → P T A → P T A → Type 0
Agree {T} k p q = (ts : List T) → length ts ≤ k → p ts ≡ q ts

-- the members of a family agree where the tokens are no more than their numbers
abbrev pub Agreeing : {T A : Type 0} → (ℕ → P T A) → Type 0
Agreeing q = (k n m : ℕ) → k ≤ n → k ≤ m → Agree k (q n) (q m)

-- what is read has at least one token
abbrev pub Shrinks : {T A : Type 0} → P T A → Type 0
Shrinks {T} {A} p = (ts rest : List T) (a : A) → p ts ≡ Ok (a, rest) → length rest < length ts

-- what was read is the text of the tree, and what stands after the next token doesn't matter
pub record Took {T A : Type 0} (p : P T A) (L : Lang T A) (ts : List T) (a : A) (rest : List T) : Type 0 where
  pub front : List T
  pub parts : ts ≡ front ++ rest
  pub spelled : L a front
  pub again : (t : T) (r other : List T) → rest ≡ t ∷ r → p (front ++ t ∷ other) ≡ Ok (a, t ∷ other)

-- the tokens before the fault begin a text, and what stands after the next token doesn't matter
pub record Failed {T A : Type 0} (p : P T A) (M : Lang T A) (ts rest : List T) : Type 0 where
  pub front : List T
  pub parts : ts ≡ front ++ rest
  pub others : List T
  pub tree : A
  pub begun : M tree (front ++ others)
  pub again : (t : T) (r other : List T) → rest ≡ t ∷ r → p (front ++ t ∷ other) ≡ Err (t ∷ other)

-- all that p reads is of L, and where it fails the tokens before begin a text of M, which has L
pub record Reads {T A : Type 0} (p : P T A) (L M : Lang T A) : Type 0 where
  pub took : (ts rest : List T) (a : A) → p ts ≡ Ok (a, rest) → Took p L ts a rest
  pub failed : (ts rest : List T) → p ts ≡ Err rest → Failed p M ts rest
  pub inside : Grows L M
  pub some : A
  pub some_text : List T
  pub some_spelled : M some some_text

-- p reads all of L, up to the first token that is not in `goes`; each text begins with one of `starts`
pub record Good {T A : Type 0} (p : P T A) (L M : Lang T A) (starts goes : T → Bool) : Type 0 where
  pub reads : Reads p L M
  pub complete : (a : A) (front more : List T) → L a front → Stops goes more → p (front ++ more) ≡ Ok (a, more)
  pub begins : (a : A) (front : List T) → L a front → Begins starts front

-- the same, where a text may have no token
pub record Nullable {T A : Type 0} (p : P T A) (L M : Lang T A) (starts goes : T → Bool) : Type 0 where
  pub reads : Reads p L M
  pub complete : (a : A) (front more : List T) → L a front → Stops goes more → p (front ++ more) ≡ Ok (a, more)
  pub begins : (a : A) (front : List T) → L a front → (front ≡ []) ⊎ Begins starts front
