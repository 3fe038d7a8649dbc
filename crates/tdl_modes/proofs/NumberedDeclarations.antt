-- The declarations of a module with their numbers.
use Rattle.std.proofs.Common.{◌≡◌, ℕ, suc, ◌≤◌, List, [], ◌∷◌, length, Some, None, option_map, slice_get, refl, sym, ap, ◌∙◌, arith}
use Rattle.tdl_base.specs.Lists.{numbered}
use Rattle.tdl_names.proofs.ModuleScopes.{numbered-at}
use Rattle.tdl_tree.specs.declared.declarations.Decl.{Decl}
use Rattle.tdl_walk.proofs.Modules.{over}

-- the declarations with their numbers from j on
abbrev pub by_number : ℕ → List Decl → List (ℕ × Decl)
by_number j decls = numbered j (λ k d. (k, d)) decls

-- what stands at a number
pub there : (decls : List Decl) (k : ℕ) (d : Decl) → Some d ≡ slice_get decls k → slice_get (by_number 0 decls) k ≡ Some (k, d)
there decls k d here =
    let pair : ℕ → Decl → ℕ × Decl = λ j y. (j, y) in
    numbered-at pair decls 0 k k (omega arith) ∙ ap (option_map (pair k)) (sym here)

-- they are as many
long : (j : ℕ) (decls : List Decl) → length (by_number j decls) ≡ length decls
long j [] = refl
long j (d ∷ ds) = ap (λ (n : ℕ). suc n) (long (suc j) ds)

-- where they end
pub past_all : (decls : List Decl) (k : ℕ) → length decls ≤ k → length (by_number 0 decls) ≤ k
past_all decls k past = omega (arith, past, long 0 decls)

-- where none stands they are over
pub none_there : (decls : List Decl) (k : ℕ) → None ≡ slice_get decls k → length (by_number 0 decls) ≤ k
none_there decls k none = past_all decls k (over decls k none)
