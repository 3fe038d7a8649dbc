-- What a placement that breaks no rule keeps.
use Rattle.std.specs.Prelude.{◌≡◌, ◌≤◌, ℕ, true, false, List, [], ◌∷◌, length, map, All, Option, Some, None}
use Rattle.tdl_base.specs.declared.limits.TheConstants.{NODES}
use Rattle.tdl_mode.specs.declared.program.Program.{Program}
use Rattle.tdl_scan.specs.Lexemes.{is_identifier}
use Rattle.tdl_deploy.specs.Passes.{WellPlaced, Invoked}
use Rattle.tdl_deploy.specs.Placed.{is_remote}
use Rattle.tdl_deploy.specs.declared.placement.Placement.{Placement}
use Rattle.tdl_deploy.specs.declared.placement.PlacedNode.{PlacedNode}
use Rattle.tdl_deploy.specs.declared.placement.BusCost.{BusCost}
use Rattle.tdl_place.specs.declared.limits.TheConstants.{COST_US}

-- names that differ
abbrev pub AreApart : List (List ℕ) → Type 0
AreApart [] = Unit {0}
AreApart (name ∷ names) = All (λ (other : List ℕ). other ≡ name → ⊥) names × AreApart names

-- a bus on which each cost is within the limit
abbrev pub HasCosts : Option BusCost → Type 0
HasCosts None = Unit {0}
HasCosts (Some cost) = (cost.overhead ≤ COST_US) × (cost.per_byte ≤ COST_US)

-- a placement of the modules of a program
pub record IsLawful (program : Program) (placement : Placement) : Type 0 where
  pub well_placed : WellPlaced program placement
  pub nodes : length placement.nodes ≤ NODES
  pub names : All (λ (n : PlacedNode). is_identifier n.name ≡ true) placement.nodes
  pub apart : AreApart (map (λ (n : PlacedNode). n.name) placement.nodes)
  pub costs : HasCosts placement.bus
  -- without a bus no invocation is remote
  pub near : placement.bus ≡ None → (m k n : ℕ) (i : Invoked program m k n) →
      is_remote program placement m i.task ≡ false
