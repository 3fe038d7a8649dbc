-- The first fault of lists that are told one after the other.
use Rattle.std.proofs.Common.{◌≡◌, List, [], ◌∷◌, ◌++◌, Option, Some, None, refl, sym, ◌∙◌}
use Rattle.tdl_base.specs.Lists.{first_of}

-- the first item of two lists is that of the first list, where it has one
pub in_first : {A : Type 0} (xs ys : List A) (o : Option A) (x : A) → o ≡ first_of xs → o ≡ Some x →
    Some x ≡ first_of (xs ++ ys)
in_first [] ys o x e is = absurd (cc (sym is ∙ e))
in_first (y ∷ xs) ys o x e is = sym is ∙ e

-- and that of the second, where it has none
pub in_second : {A : Type 0} (xs ys : List A) (o p : Option A) → o ≡ first_of xs → o ≡ None → p ≡ first_of ys →
    p ≡ first_of (xs ++ ys)
in_second [] ys o p e none is = is
in_second (x ∷ xs) ys o p e none is = absurd (cc (sym none ∙ e))

-- a list without a first item is empty
pub none-first : {A : Type 0} (xs : List A) (o : Option A) → o ≡ first_of xs → o ≡ None → xs ≡ []
none-first [] o e none = refl
none-first (x ∷ xs) o e none = absurd (cc (sym none ∙ e))
