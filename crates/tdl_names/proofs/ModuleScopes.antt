-- The scopes of modules, by their numbers.
use Rattle.std.proofs.Common.{◌≡◌, ℕ, zero, suc, ◌+◌, List, [], ◌∷◌, Some, option_map, slice_get, refl, ap, arith}
use Rattle.tdl_base.specs.Lists.{numbered}
use Rattle.tdl_tree.specs.declared.declarations.Tree.{Tree}
use Rattle.tdl_rules.specs.Parts.{modules}
use Rattle.tdl_names.specs.Standing.{outside}

-- what stands at a number of a numbered list
pub numbered-at : {A B : Type 0} (f : ℕ → A → B) (xs : List A) (j k m : ℕ) → m ≡ j + k →
    slice_get (numbered j f xs) k ≡ option_map (λ x. f m x) (slice_get xs k)
numbered-at f [] j k m e = refl
numbered-at f (x ∷ xs) j zero m e = let h : j ≡ m = omega arith in ap (λ (n : ℕ). Some (f n x)) h
numbered-at f (x ∷ xs) j (suc k) m e = numbered-at f xs (suc j) k m (omega arith)

-- the scope of the module of a number
pub scope_of_module : (trees : List Tree) (k : ℕ) →
    slice_get (modules trees) k ≡ option_map (outside trees k) (slice_get trees k)
scope_of_module trees k = numbered-at (outside trees) trees 0 k k (omega arith)
