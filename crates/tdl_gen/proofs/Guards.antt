-- A guard of a block, and what the codes of a module read.
use Rattle.std.proofs.Common.{◌≡◌, ℕ, ℤ, Bool, suc, ◌+◌, List, [], ◌∷◌, ◌++◌, length, true, false, Option, Some, None, ap, ◌∙◌, subst, arith}
use Rattle.std.specs.Prelude.{slice_get, unwrap_or, if◌then◌else◌}
use Rattle.tdl_base.specs.Numbers.{is_true}
use Rattle.tdl_body.specs.declared.tree.Expr.{Expr}
use Rattle.tdl_body.specs.Values.{Look, value_of, holds}
use Rattle.tdl_mode.specs.declared.program.Module.{Module}
use Rattle.tdl_stack.specs.Running.{no_cells}
use Rattle.tdl_trace.specs.Shown.{Shown}
use Rattle.tdl_ecode.specs.declared.instr.EInstr.{EInstr}
use Rattle.tdl_ecode.specs.declared.instr.EInstr.TheVariants as ec
use Rattle.tdl_image.specs.declared.hosted.Hosted.{Hosted}
use Rattle.tdl_base.specs.Sensed.{Sensed}
use Rattle.tdl_verify.specs.States.{HostNow, Part, Times, value_on, outer_on}
use Rattle.tdl_verify.specs.Turns.{Acted, Spot, code_at, no_code}
use Rattle.tdl_gen.specs.BlockNames.{guard_names, number_in}
use Rattle.tdl_gen.specs.Blocks.{index_after, guarded}
use Rattle.tdl_gen.specs.Tables.{coded}
pub use Rattle.tdl_gen.specs.HostSteps.{HasGuard}
use Rattle.tdl_lower.proofs.ExprCodes.{code_value-expr_code}
use Rattle.tdl_lower.specs.Looks.{looked}
use Rattle.tdl_verify.proofs.Leads.{Leads, nothing, one_on}
use Rattle.tdl_verify.proofs.EndBlocks.{HasAt}

-- the code of each expression has, on these parts, the number of the expression
abbrev pub Reads : List Part → Sensed → ℕ → Look → Type 0
Reads parts sensed k look = (ex : Expr) → value_on parts sensed k (coded ex) ≡ value_of ex look

-- the codes read what the parts show
pub reads : (parts : List Part) (sensed : Sensed) (k : ℕ) →
    Reads parts sensed k (looked (outer_on parts sensed k) no_cells)
reads parts sensed k ex = code_value-expr_code ex (outer_on parts sensed k)

-- a guard's instruction, if there is a guard
abbrev pub cost : Option Expr → ℕ
cost None = 0
cost (Some g) = 1

module _ (x node : ℕ) (sensed : Sensed) (times : Times) (h : Hosted) (b : ℕ) (front back : List Part) (m : Module)
    (k act : ℕ) (look : Look) where
  -- at most so many instructions lead from one spot and these parts to another, with these plain rows
  abbrev Runs : ℕ → Spot → List Part → Spot → List Part → List Shown → Type 0
  Runs most from ps to qs rows = Leads x node sensed times most from ps to qs rows

  -- the parts of the node, with the host in this state
  abbrev parts : HostNow → List Part
  parts s = front ++ Part.Host h s ∷ back

  -- a place in the block
  abbrev spot : ℕ → Spot
  spot pc = Spot.In (length front) b pc

  -- the number of the guard
  abbrev guard_number : ℕ
  guard_number = number_in (guard_names m) k act

  -- the code of a guarded activity is one longer than what it guards
  pub guard_length : (guard : Option Expr) (pc : ℕ) (body : List EInstr) →
      length (guarded m k act guard pc body) ≡ cost guard + length body
  guard_length None pc body = omega arith
  guard_length (Some g) pc body = omega arith

  -- where a guard's instruction leads: on where the guard holds, otherwise past what it guards
  abbrev past : ℕ → List EInstr → Bool → ℕ
  past pc body t = if t then suc pc else index_after pc body

  -- the instruction reads the guard at its number
  guard_read : (g : Expr) (s : HostNow) (pc : ℕ) (body : List EInstr) → Reads (parts s) sensed h.number.0 look →
      HasGuard h guard_number (Some g) →
      Acted.On (Part.Host h s) [] (past pc body
      (is_true (value_on (parts s) sensed h.number.0 (unwrap_or (slice_get h.guards guard_number) no_code)))) ≡
      Acted.On (Part.Host h s) [] (past pc body (holds (Some g) look))
  guard_read g s pc body reads at =
      let acted : ℤ → Acted = λ v. Acted.On (Part.Host h s) [] (past pc body (is_true v)) in
      ap (λ c. acted (value_on (parts s) sensed h.number.0 (unwrap_or c no_code))) at ∙ ap acted (reads g)

  -- a guard that holds leads into what it guards
  pub guard_true : (guard : Option Expr) (s : HostNow) (pc : ℕ) (body : List EInstr) →
      Reads (parts s) sensed h.number.0 look → HasGuard h (number_in (guard_names m) k act) guard →
      HasAt (code_at b (Part.Host h s)) pc (guarded m k act guard pc body) → holds guard look ≡ true →
      Runs (cost guard) (spot pc) (parts s) (spot (pc + cost guard)) (parts s) [] ×
      HasAt (code_at b (Part.Host h s)) (pc + cost guard) body
  guard_true None s pc body reads at has it =
      let here : pc ≡ pc + 0 = omega arith in (
        subst (λ q. Runs 0 (spot pc) (parts s) (spot q) (parts s) []) here
            (nothing x node sensed times 0 (spot pc) (parts s)),
        subst (λ q. HasAt (code_at b (Part.Host h s)) q body) here has,
      )
  guard_true (Some g) s pc body reads at has it =
      let next : suc pc ≡ pc + 1 = omega arith in
      let acts = guard_read g s pc body reads at ∙ ap (λ t. Acted.On (Part.Host h s) [] (past pc body t)) it in (
        subst (λ q. Runs 1 (spot pc) (parts s) (spot q) (parts s) []) next
            (one_on x node sensed times front (Part.Host h s) back b pc (ec.If guard_number (index_after pc body))
            (Part.Host h s) [] (suc pc) has.0 acts),
        subst (λ q. HasAt (code_at b (Part.Host h s)) q body) next has.1,
      )

  -- a guard that does not hold leads past what it guards
  pub guard_false : (guard : Option Expr) (s : HostNow) (pc : ℕ) (body : List EInstr) →
      Reads (parts s) sensed h.number.0 look → HasGuard h (number_in (guard_names m) k act) guard →
      HasAt (code_at b (Part.Host h s)) pc (guarded m k act guard pc body) → holds guard look ≡ false →
      Runs (cost guard) (spot pc) (parts s) (spot (pc + length (guarded m k act guard pc body))) (parts s) []
  guard_false None s pc body reads at has it = absurd (cc it)
  guard_false (Some g) s pc body reads at has it =
      let lands : index_after pc body ≡ pc + suc (length body) = omega arith in
      let acts = guard_read g s pc body reads at ∙ ap (λ t. Acted.On (Part.Host h s) [] (past pc body t)) it in
      subst (λ q. Runs 1 (spot pc) (parts s) (spot q) (parts s) []) lands
      (one_on x node sensed times front (Part.Host h s) back b pc (ec.If guard_number (index_after pc body))
      (Part.Host h s) [] (index_after pc body) has.0 acts)
