-- The numbers of arguments, one after the other.
use Rattle.std.proofs.Common.{◌≡◌, ℕ, zero, suc, pos, List, [], ◌∷◌, length, get_or, slice_get, Some, refl, ap}
use Rattle.tdl_base.specs.declared.kinds.Kind.{Kind}
use Rattle.tdl_base.specs.declared.kinds.Kind.TheVariants.{Long}
use Rattle.tdl_base.specs.Numbers.{narrowed}
use Rattle.tdl_body.specs.declared.tree.Expr.{Expr}
use Rattle.tdl_body.specs.Values.{Look, value_of}
use Rattle.tdl_mode.specs.Phases.{narrowed_args}

-- as many numbers as arguments
pub args-length : (kinds : List Kind) (args : List Expr) (look : Look) →
    length (narrowed_args kinds args look) ≡ length args
args-length kinds [] look = refl
args-length [] (e ∷ es) look = ap suc (args-length [] es look)
args-length (k ∷ ks) (e ∷ es) look = ap suc (args-length ks es look)

-- the number of one argument
pub args-at : (kinds : List Kind) (args : List Expr) (look : Look) (i : ℕ) (e : Expr) → slice_get args i ≡ Some e →
    get_or (narrowed_args kinds args look) i (pos 0) ≡ narrowed (get_or kinds i Long) (value_of e look)
args-at kinds [] look i e at = absurd cc
args-at [] (a ∷ es) look zero e at = let same : a ≡ e = cc in ap (λ z. narrowed Long (value_of z look)) same
args-at (k ∷ ks) (a ∷ es) look zero e at = let same : a ≡ e = cc in ap (λ z. narrowed k (value_of z look)) same
args-at [] (a ∷ es) look (suc i) e at = args-at [] es look i e at
args-at (k ∷ ks) (a ∷ es) look (suc i) e at = args-at ks es look i e at
