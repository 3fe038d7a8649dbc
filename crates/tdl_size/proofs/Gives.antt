-- What the trees of a language keep, where each token of its lists keeps something.
use Rattle.std.proofs.Common.{◌≡◌, inl, inr, Bool, true, List, [], ◌∷◌, ◌++◌, All, None, Some, sym, subst}
use Rattle.std.specs.Prelude.{IfSome}
use Rattle.std.proofs.lemmas.List.Elements.{All-nil, All-cons, All-head, All-tail}
use Rattle.tdl_grammar.specs.Grammar as G
use Rattle.tdl_grammar.specs.Grammar.{Lang}

-- what holds of all items of two lists holds of those of the first
pub all-front : {A : Type 0} (P : A → Type 0) (xs ys : List A) → All P (xs ++ ys) → All P xs
all-front P [] ys h = All-nil P
all-front P (x ∷ xs) ys h =
    All-cons P x xs (All-head P x (xs ++ ys) h) (all-front P xs ys (All-tail P x (xs ++ ys) h))

-- and of the second
pub all-back : {A : Type 0} (P : A → Type 0) (xs ys : List A) → All P (xs ++ ys) → All P ys
all-back P [] ys h = h
all-back P (x ∷ xs) ys h = all-back P xs ys (All-tail P x (xs ++ ys) h)

module _ {T : Type 0} (Good : T → Type 0) where
  -- each tree that good tokens spell keeps P
  abbrev pub Gives : {A : Type 0} → Lang T A → (A → Type 0) → Type 0
  Gives {A} L P = (a : A) (ts : List T) → All Good ts → L a ts → P a

  -- of one after the other
  pub gives_both : {A B : Type 0} (L : Lang T A) (M : Lang T B) (P : A → Type 0) (Q : B → Type 0) → Gives L P →
      Gives M Q → Gives (G.both L M) (λ x. P x.0 × Q x.1)
  gives_both L M P Q g h x ts good l =
      let each : All Good (l.0 ++ l.1) = subst (All Good) l.4 good in
      (g x.0 l.0 (all-front Good l.0 l.1 each) l.2, h x.1 l.1 (all-back Good l.0 l.1 each) l.3)

  -- of the first of two
  pub gives_first : {A B : Type 0} (L : Lang T A) (M : Lang T B) (P : A → Type 0) → Gives L P →
      Gives (G.both L M) (λ x. P x.0)
  gives_first L M P g x ts good l = g x.0 l.0 (all-front Good l.0 l.1 (subst (All Good) l.4 good)) l.2

  -- of the second of two
  pub gives_second : {A B : Type 0} (L : Lang T A) (M : Lang T B) (Q : B → Type 0) → Gives M Q →
      Gives (G.both L M) (λ x. Q x.1)
  gives_second L M Q h x ts good l = h x.1 l.1 (all-back Good l.0 l.1 (subst (All Good) l.4 good)) l.3

  -- of what f makes
  pub gives_made : {A B : Type 0} (f : A → B) (L : Lang T A) (P : B → Type 0) → Gives L (λ a. P (f a)) →
      Gives (G.made f L) P
  gives_made f L P g b ts good l = subst P (sym l.2) (g l.0 ts good l.1)

  -- of the one or the other
  pub gives_either : {A : Type 0} (L M : Lang T A) (P : A → Type 0) → Gives L P → Gives M P → Gives (G.either L M) P
  gives_either L M P g h a ts good (inl l) = g a ts good l
  gives_either L M P g h a ts good (inr l) = h a ts good l

  -- of it or no token
  pub gives_optional : {A : Type 0} (L : Lang T A) (P : A → Type 0) → Gives L P →
      Gives (G.optional L) (λ o. IfSome o P)
  gives_optional L P g None ts good l = tt
  gives_optional L P g (Some a) ts good l = g a ts good l

  -- of any number
  pub gives_many : {A : Type 0} (L : Lang T A) (P : A → Type 0) → Gives L P → Gives (G.many L) (All P)
  gives_many L P g [] ts good l = All-nil P
  gives_many L P g (a ∷ more) ts good l =
      let each : All Good (l.0 ++ l.1) = subst (All Good) l.4 good in
      All-cons P a more (g a l.0 (all-front Good l.0 l.1 each) l.2)
      (gives_many L P g more l.1 (all-back Good l.0 l.1 each) l.3)

  -- of items with a sign between them
  pub gives_separated : {A : Type 0} (op : T → Bool) (L : Lang T A) (P : A → Type 0) → Gives L P →
      Gives (G.separated op L) (All P)
  gives_separated op L P g =
      gives_made G.listed _ (All P) (λ x ts good l.
      let two = gives_both L _ P (All P) g
      (gives_many _ P (gives_made G.second _ P (gives_second (G.one op) L P g))) x ts good l in
      All-cons P x.0 x.1 two.0 two.1)

  -- the token of a test is good, and passes it
  pub gives_one : (test : T → Bool) → Gives (G.one test) (λ t. (test t ≡ true) × Good t)
  gives_one test t ts good l = (l.0, All-head Good t [] (subst (All Good) l.1 good))
