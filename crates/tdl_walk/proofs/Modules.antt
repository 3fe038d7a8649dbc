-- Where the lists that are walked by number end.
use Rattle.std.proofs.Common.{◌≡◌, ℕ, suc, ◌≤◌, List, [], ◌∷◌, length, None, Some, slice_get, refl, ap, ◌∙◌, inl, inr}
use Rattle.std.proofs.lemmas.Option.{slice_get_cases}
use Rattle.tdl_base.specs.Lists.{numbered}
use Rattle.tdl_tree.specs.declared.declarations.Tree.{Tree}
use Rattle.tdl_rules.specs.Parts.{modules}

-- where no item stands the list is over
pub over : {A : Type 0} (xs : List A) (k : ℕ) → None ≡ slice_get xs k → length xs ≤ k
over xs k e =
    elim (slice_get_cases xs k).1 [
      | inl w ↦ let some : None ≡ Some w.0 = e ∙ w.2 in absurd (cc)
      | inr past ↦ past.0
    ]

-- a numbered list is as long as the list
length-numbered : {A B : Type 0} (f : ℕ → A → B) (xs : List A) (k : ℕ) → length (numbered k f xs) ≡ length xs
length-numbered f [] k = refl
length-numbered f (x ∷ xs) k = ap (λ (n : ℕ). suc n) (length-numbered f xs (suc k))

-- there are as many modules as sources
pub length-modules : (trees : List Tree) → length (modules trees) ≡ length trees
length-modules trees = length-numbered (λ (k : ℕ) (tree : Tree). record { sources = trees; file = k; tree = tree; body = None }) trees 0
