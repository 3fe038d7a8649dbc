-- Texts in which some tokens count.
use Rattle.std.specs.Prelude.{ℕ, suc, Bool, cond, List, [], ◌∷◌, ◌≤◌}
use Rattle.tdl_grammar.specs.Grammar.{Lang}

-- how many tokens count
abbrev pub counted : {T : Type 0} → (T → Bool) → List T → ℕ
counted counts [] = 0
counted counts (t ∷ ts) = cond (counts t) (suc (counted counts ts)) (counted counts ts)

-- it, with at most k tokens that count
abbrev pub at_most_counted : {T A : Type 0} → (T → Bool) → ℕ → Lang T A → Lang T A
at_most_counted counts k L a ts = L a ts × (counted counts ts ≤ k)
