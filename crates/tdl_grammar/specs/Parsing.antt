-- Parsers on lists with one token of sight, in the words of languages.
use Rattle.std.specs.Prelude.{ℕ, zero, suc, Bool, false, cond, List, [], ◌∷◌, ◌++◌, length, take, drop, Option, None, Some, Result, Ok, Err}
use Rattle.tdl_grammar.specs.Grammar.{second, listed}

-- a tree and the tokens after it, or the tokens from the fault on
abbrev pub Outcome : Type 0 → Type 0 → Type 0
Outcome T A = Result (A × List T) (List T)

abbrev pub P : Type 0 → Type 0 → Type 0
P T A = List T → Outcome T A

infixl 10 ◌>>=◌
-- f of what was read
abbrev pub ◌>>=◌ : {T A B : Type 0} → Outcome T A → (A × List T → Outcome T B) → Outcome T B
(Ok x) >>= f = f x
(Err e) >>= f = Err e

-- the test holds of the next token
abbrev pub opens : {T : Type 0} → (T → Bool) → List T → Bool
opens test [] = false
opens test (t ∷ ts) = test t

-- one token of which the test holds
abbrev pub one : {T : Type 0} → (T → Bool) → P T T
one test [] = Err []
one test (t ∷ ts) = cond (test t) (Ok (t, ts)) (Err (t ∷ ts))

-- the one, then the other
abbrev pub both : {T A B : Type 0} → P T A → P T B → P T (A × B)
both p q ts = p ts >>= λ x. q x.1 >>= λ y. Ok ((x.0, y.0), y.1)

-- the tree that f makes of it
abbrev pub made : {T A B : Type 0} → (A → B) → P T A → P T B
made f p ts = p ts >>= λ x. Ok (f x.0, x.1)

-- the one where the next token begins it, else the other
abbrev pub either : {T A : Type 0} → (T → Bool) → P T A → P T A → P T A
either starts p q ts = cond (opens starts ts) (p ts) (q ts)

-- it where the next token begins it, else no token
abbrev pub maybe : {T A : Type 0} → (T → Bool) → P T A → P T (Option A)
maybe starts p ts = cond (opens starts ts) (p ts >>= λ x. Ok (Some x.0, x.1)) (Ok (None, ts))

-- the one, and the other where the next token begins it
abbrev pub follow : {T A B : Type 0} → (T → Bool) → P T A → P T B → P T (A × Option B)
follow starts p q = both p (maybe starts q)

-- as many as the next token begins, and at most n
abbrev pub repeat : {T A : Type 0} → (T → Bool) → P T A → ℕ → P T (List A)
repeat starts p zero ts = Ok ([], ts)
repeat starts p (suc n) ts =
    cond (opens starts ts) (p ts >>= λ x. repeat starts p n x.1 >>= λ y. Ok (x.0 ∷ y.0, y.1)) (Ok ([], ts))

-- the member of a family that the tokens are enough for
abbrev pub by_length : {T A : Type 0} → (ℕ → P T A) → P T A
by_length q ts = q (length ts) ts

-- as many as the next token begins
abbrev pub many : {T A : Type 0} → (T → Bool) → P T A → P T (List A)
many starts p = by_length (repeat starts p)

-- the items so far before those that are read
abbrev pub with_front : {T A : Type 0} → List A → Outcome T (List A) → Outcome T (List A)
with_front front o = o >>= λ y. Ok (front ++ y.0, y.1)

-- x { op x }, the trees of x
abbrev pub separated : {T A : Type 0} → (T → Bool) → P T A → P T (List A)
separated op p = made listed (both p (many op (made second (both (one op) p))))

-- what stands after a first operand, joined to the left as it is read, at most n operands
abbrev pub tail : {T A : Type 0} → (T → Bool) → (A → T → A → A) → P T A → ℕ → A → P T A
tail op f p zero left ts = Ok (left, ts)
tail op f p (suc n) left [] = Ok (left, [])
tail op f p (suc n) left (t ∷ ts) = cond (op t) (p ts >>= λ x. tail op f p n (f left t x.0) x.1) (Ok (left, t ∷ ts))

-- x { op x }, joined to the left
abbrev pub chain : {T A : Type 0} → (T → Bool) → (A → T → A → A) → P T A → P T A
chain op f p ts = p ts >>= λ x. tail op f p (length x.1) x.0 x.1

-- no list at all
abbrev pub refuse : {T A : Type 0} → P T A
refuse ts = Err ts

-- the tree of the cut, unless it goes on after it
abbrev pub ended : {T A : Type 0} → (T → Bool) → A → P T A
ended goes a over = cond (opens goes over) (Err over) (Ok (a, over))

-- an outcome at the first tokens, with the tokens after these put back
abbrev pub close : {T A : Type 0} → (T → Bool) → Outcome T A → P T A
close goes (Ok (a, [])) over = ended goes a over
close goes (Ok (a, t ∷ r)) over = Ok (a, t ∷ (r ++ over))
close goes (Err r) over = Err (r ++ over)

-- it, with at most k tokens; `goes` are the tokens on which it goes on
abbrev pub capped : {T A : Type 0} → ℕ → (T → Bool) → P T A → P T A
capped k goes p ts = close goes (p (take k ts)) (drop k ts)

-- a tree with no token after it
abbrev pub whole : {T A : Type 0} → A × List T → Result A (List T)
whole (a, []) = Ok a
whole (a, t ∷ ts) = Err (t ∷ ts)

-- the tree of a whole text, or the tokens from the fault on
abbrev pub all : {T A : Type 0} → Outcome T A → Result A (List T)
all (Ok x) = whole x
all (Err rest) = Err rest
