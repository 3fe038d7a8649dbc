-- Languages: which lists of tokens spell a tree.
use Rattle.std.specs.Prelude.{◌≡◌, ◌≤◌, ◌⊎◌, ℕ, Bool, true, List, [], ◌∷◌, ◌++◌, length, Option, None, Some}

-- the lists of tokens that spell each tree
abbrev pub Lang : Type 0 → Type 0 → Type 1
Lang T A = A → List T → Type 0

-- one token of which the test holds
abbrev pub one : {T : Type 0} → (T → Bool) → Lang T T
one test t ts = (test t ≡ true) × (ts ≡ t ∷ [])

-- the one, then the other
abbrev pub both : {T A B : Type 0} → Lang T A → Lang T B → Lang T (A × B)
both {T} L M x ts = (front : List T) × (back : List T) × L x.0 front × M x.1 back × (ts ≡ front ++ back)

-- the tree that f makes of it
abbrev pub made : {T A B : Type 0} → (A → B) → Lang T A → Lang T B
made {T} {A} f L b ts = (a : A) × L a ts × (b ≡ f a)

-- the one or the other
abbrev pub either : {T A : Type 0} → Lang T A → Lang T A → Lang T A
either L M a ts = L a ts ⊎ M a ts

-- it, or no token
abbrev pub optional : {T A : Type 0} → Lang T A → Lang T (Option A)
optional L None ts = ts ≡ []
optional L (Some a) ts = L a ts

-- any number of them, one after the other
abbrev pub many : {T A : Type 0} → Lang T A → Lang T (List A)
many L [] ts = ts ≡ []
many {T} L (a ∷ more) ts = (front : List T) × (back : List T) × L a front × many L more back × (ts ≡ front ++ back)

-- it, with at most k tokens
abbrev pub at_most : {T A : Type 0} → ℕ → Lang T A → Lang T A
at_most k L a ts = L a ts × (length ts ≤ k)

-- it, nested to some depth
abbrev pub some_depth : {T A : Type 0} → (ℕ → Lang T A) → Lang T A
some_depth L a ts = (n : ℕ) × L n a ts

-- no list at all
abbrev pub nowhere : {T A : Type 0} → Lang T A
nowhere a ts = ⊥

-- the second of two trees
abbrev pub second : {A B : Type 0} → A × B → B
second x = x.1

-- a list of its first item and the others
abbrev pub listed : {A : Type 0} → A × List A → List A
listed x = x.0 ∷ x.1

-- x { op x }, the trees of x
abbrev pub separated : {T A : Type 0} → (T → Bool) → Lang T A → Lang T (List A)
separated op L = made listed (both L (many (made second (both (one op) L))))

-- operands joined to the left, each with the operator before it
abbrev pub joined : {T A B : Type 0} → (A → T → B → A) → A → List (T × B) → A
joined f a [] = a
joined f a (x ∷ more) = joined f (f a x.0 x.1) more

-- x { op x }, joined to the left
abbrev pub chain : {T A : Type 0} → (T → Bool) → (A → T → A → A) → Lang T A → Lang T A
chain op f L = made (λ x. joined f x.0 x.1) (both L (many (both (one op) L)))

-- `rest` begins with the first token out of place, or the tokens end too early and it is empty
pub record IsFault {T A : Type 0} (L : Lang T A) (ts rest : List T) : Type 0 where
  pub front : List T
  pub parts : ts ≡ front ++ rest
  pub others : List T
  pub tree : A
  -- the tokens before it begin a sentence
  pub begun : L tree (front ++ others)
  -- and no sentence begins with these and the token
  pub never_on : (t : T) (r : List T) → rest ≡ t ∷ r → (a : A) (more : List T) → L a (front ++ t ∷ more) → ⊥
