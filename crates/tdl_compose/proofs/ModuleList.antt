-- The list of modules, walked by number.
use Rattle.std.proofs.Common.{◌≡◌, ℕ, suc, ◌≤◌, List, [], ◌∷◌, length, None, refl, ap, ◌∙◌, inl, inr, arith}
use Rattle.std.specs.Prelude.{slice_get}
use Rattle.std.proofs.lemmas.Option.{slice_get_cases}
use Rattle.tdl_base.specs.Lists.{numbered}
use Rattle.tdl_tree.specs.declared.declarations.Tree.{Tree}
use Rattle.tdl_rules.specs.Parts.{modules}
use Rattle.tdl_names.specs.Standing.{outside}

-- a numbered list is as long as the list
length-numbered : {A B : Type 0} (f : ℕ → A → B) (k : ℕ) (xs : List A) → length (numbered k f xs) ≡ length xs
length-numbered f k [] = refl
length-numbered f k (x ∷ xs) = ap (λ (n : ℕ). suc n) (length-numbered f (suc k) xs)

-- where no number is left, no module is
pub past_sources : (sources : List Tree) (k : ℕ) → length sources ≤ k → length (modules sources) ≤ k
past_sources sources k past =
    let as_many : length (modules sources) ≡ length sources = length-numbered (outside sources) 0 sources in
    omega (arith, as_many, past)

-- where none stands, none is left
pub past_modules : (sources named : List Tree) (k : ℕ) → named ≡ sources → None ≡ slice_get (modules named) k →
    length (modules sources) ≤ k
past_modules sources named k same none =
    elim (slice_get_cases (modules sources) k).1 [
      | inl w ↦ absurd (cc (none ∙ ap (λ (s : List Tree). slice_get (modules s) k) same ∙ w.2))
      | inr past ↦ past.0
    ]
