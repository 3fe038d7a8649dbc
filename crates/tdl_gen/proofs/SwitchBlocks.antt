-- The block of phase 3: the first switch whose guard holds, or the next cycle, or on.
use Rattle.std.proofs.Common.{◌≡◌, ℕ, suc, ◌+◌, ◌≤◌, List, [], ◌∷◌, ◌++◌, length, Bool, true, false, Option, Some, None, filter, refl, sym, ◌∙◌, subst, arith, append-nil}
use Rattle.std.specs.Prelude.{if◌then◌else◌, find}
use Rattle.std.proofs.lemmas.List.{length-append}
use Rattle.tdl_body.specs.Values.{Look, holds}
use Rattle.tdl_mode.specs.declared.program.Module.{Module}
use Rattle.tdl_mode.specs.declared.program.Switch.{Switch}
use Rattle.tdl_trace.specs.Shown.{Shown}
use Rattle.tdl_ecode.specs.declared.instr.EInstr.{EInstr}
use Rattle.tdl_ecode.specs.declared.instr.EInstr.TheVariants as ec
use Rattle.tdl_image.specs.declared.hosted.Hosted.{Hosted}
use Rattle.tdl_base.specs.Sensed.{Sensed}
use Rattle.tdl_verify.specs.States.{HostNow, Part, Times}
use Rattle.tdl_verify.specs.Turns.{Spot, code_at, is_mode}
use Rattle.tdl_verify.specs.Runs.{is_plain}
use Rattle.tdl_gen.specs.BlockNames.{BlockName, block_number, guard_names, number_in}
use Rattle.tdl_gen.specs.Blocks.{laid, switch_code}
use Rattle.tdl_gen.specs.HostSteps.{armed}
use Rattle.tdl_gen.specs.HostSteps as steps
use Rattle.tdl_verify.proofs.Leads.{Leads, nothing, leads_on, wider, one_on, one_over}
use Rattle.tdl_verify.proofs.EndBlocks.{HasAt, has-append}
use Rattle.tdl_gen.proofs.Guards.{Reads, HasGuard, cost, guard_length, guard_true, guard_false}

module _ (x node : ℕ) (sensed : Sensed) (times : Times) (h : Hosted) (b : ℕ) (front back : List Part) where
  -- at most so many instructions lead from one spot and these parts to another, with these plain rows
  abbrev Runs : ℕ → Spot → List Part → Spot → List Part → List Shown → Type 0
  Runs most from ps to qs rows = Leads x node sensed times most from ps to qs rows

  -- the parts of the node, with the host in this state
  abbrev parts : HostNow → List Part
  parts s = front ++ Part.Host h s ∷ back

  -- a place in the block
  abbrev spot : ℕ → Spot
  spot pc = Spot.In (length front) b pc

  -- the two last instructions of a block: a trigger is set and the block is over
  pub future_run : (s : HostNow) (pc dt nb : ℕ) →
      HasAt (code_at b (Part.Host h s)) pc (ec.Future dt nb ∷ ec.Return ∷ []) →
      Runs 2 (spot pc) (parts s) Spot.Between (parts (armed s (x + dt) nb)) []
  future_run s pc dt nb has =
      leads_on x node sensed times 1 1 _ _ _ _ _ _ _ _
      (one_on x node sensed times front (Part.Host h s) back b pc (ec.Future dt nb)
      (Part.Host h (armed s (x + dt) nb)) [] (suc pc) has.0 refl)
      (one_over x node sensed times front (Part.Host h (armed s (x + dt) nb)) back b (suc pc) ec.Return
      (Part.Host h (armed s (x + dt) nb)) [] has.1.0 refl)

  -- a mode is entered
  abbrev pub in_mode : HostNow → ℕ → HostNow
  in_mode s k = record s { mode = Some k; base = x }

  -- the row of a mode that is entered from another
  abbrev pub mode_shown : ℕ → HostNow → List Shown
  mode_shown k s = steps.entered_rows x node h k s

  -- the row of an entered mode is no line of the log
  plain-mode : (t : Bool) (k : ℕ) → filter is_plain (if t then [] else Shown.Mode x node h.number.0 k ∷ []) ≡
      (if t then [] else Shown.Mode x node h.number.0 k ∷ [])
  plain-mode true k = refl
  plain-mode false k = refl

  -- a mode is entered, the trigger of its first starts is set and the block is over
  pub mode_run : (s : HostNow) (pc k nb : ℕ) →
      HasAt (code_at b (Part.Host h s)) pc (ec.Mode k ∷ ec.Future 0 nb ∷ ec.Return ∷ []) →
      Runs 3 (spot pc) (parts s) Spot.Between (parts (armed (in_mode s k) (x + 0) nb)) (mode_shown k s)
  mode_run s pc k nb has =
      subst (λ rs. Runs 3 (spot pc) (parts s) Spot.Between (parts (armed (in_mode s k) (x + 0) nb)) rs)
      (append-nil (filter is_plain (mode_shown k s)) ∙ plain-mode (is_mode k s.mode) k)
      (leads_on x node sensed times 1 2 _ _ _ _ _ _ _ _
      (one_on x node sensed times front (Part.Host h s) back b pc (ec.Mode k) (Part.Host h (in_mode s k))
      (mode_shown k s) (suc pc) has.0 refl)
      (future_run (in_mode s k) (suc pc) 0 nb has.1))

  module _ (m : Module) (k : ℕ) (look : Look) where
    -- the guards of these switches stand at their numbers
    abbrev pub AllGuards : List Switch → Type 0
    AllGuards ws = steps.AllGuards h m k ws

    -- the host that enters a mode
    abbrev pub entering : HostNow → ℕ → HostNow
    entering s t = armed (in_mode s t) (x + 0) (block_number m (BlockName.Starts t 0))

    -- where the switches lead: into the mode of the first that holds, or after them
    abbrev pub Leads_to : HostNow → ℕ → ℕ → Option Switch → Type 0
    Leads_to s pc n None = Runs n (spot pc) (parts s) (spot (pc + n)) (parts s) []
    Leads_to s pc n (Some w) = Runs n (spot pc) (parts s) Spot.Between (parts (entering s w.target.0))
        (mode_shown w.target.0 s)

    -- what a switch does
    abbrev body : Switch → List EInstr
    body w = ec.Mode w.target.0 ∷ ec.Future 0 (block_number m (BlockName.Starts w.target.0 0)) ∷ ec.Return ∷ []

    -- what follows a switch whose guard does not hold
    after_switch : (s : HostNow) (pc n c : ℕ) (o : Option Switch) →
        Runs c (spot pc) (parts s) (spot (pc + c)) (parts s) [] → Leads_to s (pc + c) n o → Leads_to s pc (c + n) o
    after_switch s pc n c None first rest =
        let q : (pc + c) + n ≡ pc + (c + n) = omega arith in
        subst (λ p. Runs (c + n) (spot pc) (parts s) (spot p) (parts s) []) q
        (leads_on x node sensed times c n _ _ _ _ _ _ _ _ first rest)
    after_switch s pc n c (Some w) first rest = leads_on x node sensed times c n _ _ _ _ _ _ _ _ first rest

    -- the code of one switch, and of those after it where its guard does not hold
    switch_one : (w : Switch) (ws : List Switch) (s : HostNow) (pc : ℕ) (t : Bool) → holds w.guard look ≡ t →
        HasGuard h (number_in (guard_names m) k w.act) w.guard → Reads (parts s) sensed h.number.0 look →
        HasAt (code_at b (Part.Host h s)) pc (switch_code m k pc w) →
        Leads_to s (pc + length (switch_code m k pc w))
        (length (laid (switch_code m k) (pc + length (switch_code m k pc w)) ws))
        (find (λ v. holds v.guard look) ws) →
        Leads_to s pc (length (switch_code m k pc w) + length
        (laid (switch_code m k) (pc + length (switch_code m k pc w)) ws))
        (if t then Some w else find (λ v. holds v.guard look) ws)
    switch_one w ws s pc true t has reads at rest =
        let in' = guard_true x node sensed times h b front back m k w.act look w.guard s pc (body w) reads has at t in
        let first : ℕ = length (switch_code m k pc w) in
        let more : ℕ = length (laid (switch_code m k) (pc + first) ws) in
        let l : cost w.guard + 3 ≤ first + more =
        omega (arith, guard_length x node sensed times h b front back m k w.act look w.guard pc (body w)) in
        wider x node sensed times (cost w.guard + 3) _ _ _ _ _ _ l
        (leads_on x node sensed times (cost w.guard) 3 _ _ _ _ _ _ _ _ in'.0
        (mode_run s (pc + cost w.guard) w.target.0 (block_number m (BlockName.Starts w.target.0 0)) in'.1))
    switch_one w ws s pc false t has reads at rest =
        let l : cost w.guard ≤ length (switch_code m k pc w) =
        omega (arith, guard_length x node sensed times h b front back m k w.act look w.guard pc (body w)) in
        after_switch s pc (length (laid (switch_code m k) (pc + length (switch_code m k pc w)) ws))
        (length (switch_code m k pc w)) (find (λ v. holds v.guard look) ws)
        (wider x node sensed times (cost w.guard) (length (switch_code m k pc w)) _ _ _ _ _ l
        (guard_false x node sensed times h b front back m k w.act look w.guard s pc (body w) reads has at t))
        rest

    -- the code of switches leads where the first that holds leads, or after them
    pub switches_run : (ws : List Switch) (s : HostNow) (pc : ℕ) → AllGuards ws →
        Reads (parts s) sensed h.number.0 look → HasAt (code_at b (Part.Host h s)) pc (laid (switch_code m k) pc ws) →
        Leads_to s pc (length (laid (switch_code m k) pc ws)) (find (λ v. holds v.guard look) ws)
    switches_run [] s pc has reads at =
        let q : pc ≡ pc + 0 = omega arith in
        subst (λ n. Runs 0 (spot pc) (parts s) (spot n) (parts s) []) q
        (nothing x node sensed times 0 (spot pc) (parts s))
    switches_run (w ∷ ws) s pc has reads at =
        let first : List EInstr = switch_code m k pc w in
        let rest : List EInstr = laid (switch_code m k) (pc + length first) ws in
        let cut = has-append (code_at b (Part.Host h s)) pc first rest at in
        subst (λ n. Leads_to s pc n (find (λ v. holds v.guard look) (w ∷ ws))) (sym (length-append first rest))
        (switch_one w ws s pc (holds w.guard look) refl has.0 reads cut.0
        (switches_run ws s (pc + length first) has.1 reads cut.1))
