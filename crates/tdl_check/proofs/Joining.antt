-- Passes of rules one after another, in another order than the list of all faults.
use Rattle.std.proofs.Common.{◌≡◌, List, [], ◌∷◌, ◌++◌, Option, None, refl, sym, ap, ◌∙◌, append_assoc}
use Rattle.tdl_base.specs.Lists.{joined}
use Rattle.tdl_rules.specs.declared.fault.Fault.{Fault}
use Rattle.tdl_rules.specs.Earliest.{earliest}
use Rattle.tdl_walk.proofs.Minimum.{in_turn}
use Rattle.tdl_check.proofs.Members.{earliest-swap}

-- a pass before others
pub pass : (best one last : Option Fault) (xs : List Fault) (more : List (List Fault)) → one ≡ earliest best xs →
    last ≡ earliest one (joined more) → last ≡ earliest best (joined (xs ∷ more))
pass best one last xs more first rest = in_turn best one last xs (joined more) rest first

-- no pass
pub no_pass : (best : Option Fault) → best ≡ earliest best (joined [])
unfolding earliest
no_pass best = refl

-- lists of faults before the rest, as all faults are listed
abbrev pub onto : List (List Fault) → List Fault → List Fault
onto [] rest = rest
onto (xs ∷ more) rest = xs ++ onto more rest

-- they are one list before the rest
onto-joined : (lists : List (List Fault)) (rest : List Fault) → onto lists rest ≡ joined lists ++ rest
onto-joined [] rest = refl
onto-joined (xs ∷ more) rest =
    ap (λ (z : List Fault). xs ++ z) (onto-joined more rest) ∙ sym (append_assoc xs (joined more) rest)

-- the last of four lists may come first
last-first : (a n m b : List Fault) → earliest None (((a ++ n) ++ m) ++ b) ≡ earliest None (n ++ (m ++ (b ++ a)))
last-first a n m b =
    ap (earliest None) (append_assoc (a ++ n) m b ∙ append_assoc a n (m ++ b))
    ∙ earliest-swap a (n ++ (m ++ b))
    ∙ ap (earliest None) (append_assoc n (m ++ b) a ∙ ap (λ (z : List Fault). n ++ z) (append_assoc m b a))

-- the last of the lists may be passed first
pub passed_first : (a : List Fault) (n m b : List (List Fault)) →
    earliest None (((a ++ joined n) ++ joined m) ++ joined b) ≡ earliest None (onto n (onto m (onto b a)))
passed_first a n m b =
    last-first a (joined n) (joined m) (joined b)
    ∙ ap (earliest None)
    (sym (onto-joined n (onto m (onto b a))
    ∙ ap (λ (z : List Fault). joined n ++ z)
    (onto-joined m (onto b a) ∙ ap (λ (z : List Fault). joined m ++ z) (onto-joined b a))))
