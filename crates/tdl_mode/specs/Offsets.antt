-- The offsets of a mode: where something may begin or end in its period.
use Rattle.std.specs.Prelude.{ℕ, ◌==◌, Bool, List, [], ◌∷◌, ◌++◌, map, if◌then◌else◌, nat_lt, min, ◌≡◌, ◌≤◌, true}
use Rattle.std.specs.List.{list_any}
use Rattle.tdl_base.specs.Lists.{inserted}
use Rattle.tdl_mode.specs.declared.program.Mode.{Mode}

-- all offsets of a mode: 0, its period, the start and the end of each invocation, each update, each switch
abbrev pub offset_list : Mode → List ℕ
offset_list mode =
    0 ∷ mode.period.0 ∷ []
    ++ map (λ i. i.s.0) mode.invocations
    ++ map (λ i. i.e.0) mode.invocations
    ++ map (λ u. u.at.0) mode.updates
    ++ map (λ s. s.at.0) mode.switches

-- o is an offset of the mode
abbrev pub is_offset : Mode → ℕ → Bool
is_offset mode o = list_any (λ p. p == o) (offset_list mode)

-- the least number of a list that is above o and below `best`, or `best`
abbrev pub least_above : ℕ → List ℕ → ℕ → ℕ
least_above o [] best = best
least_above o (p ∷ ps) best = least_above o ps (if nat_lt o p then min p best else best)

-- the least offset above o; every o below the period has one
abbrev pub next_offset : Mode → ℕ → ℕ
next_offset mode o = least_above o (offset_list mode) mode.period.0

-- the numbers of a list, ascending and each once
abbrev pub ascending : List ℕ → List ℕ
ascending [] = []
ascending (o ∷ os) = if list_any (λ p. p == o) os then ascending os else inserted nat_lt o (ascending os)

-- the offsets of a mode, ascending and distinct
abbrev pub offsets : Mode → List ℕ
offsets mode = ascending (offset_list mode)

-- o is the least offset of the mode from d on
pub record IsNext (mode : Mode) (d o : ℕ) : Type 0 where
  pub at : is_offset mode o ≡ true
  pub from : d ≤ o
  pub least : (p : ℕ) → is_offset mode p ≡ true → d ≤ p → o ≤ p
