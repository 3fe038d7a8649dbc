-- The walk over the lines of a file.
use Rattle.std.proofs.Common.{◌≡◌, ◌<◌, ◌≤◌, ◌+◌, ℕ, Bool, not, List, [], ◌∷◌, length, drop, get_or, Option, None, sym, ap, ◌∙◌}
use Rattle.std.proofs.lemmas.List.{drop_more, drop_all}
use Rattle.std.specs.List.{list_any}
use Rattle.tdl_lines.specs.declared.fault.Fault.{Fault}
use Rattle.tdl_lines.specs.declared.said.Said.{Said}
use Rattle.tdl_lines.specs.Faults.{earliest, fault_if}
use Rattle.tdl_scenario.specs.declared.entry.Entry.{Entry}
use Rattle.tdl_scenario.specs.Rules.{Seen, after, seen_of, line_faults, is_horizon, faults_after, faults_of}
use Rattle.tdl_scenario.proofs.Noting.{in_turn}
use Rattle.tdl_lines.proofs.FirstFault.{earliest-append}

-- lines before a place are over: what they say is known, and the fault that is noted is the first of theirs
abbrev pub IsOver : ℕ → List (Said Entry) → ℕ → Seen → Option Fault → Type 0
IsOver nodes lines place seen best =
    (before : List Entry) × (seen ≡ seen_of before)
    × (earliest None (faults_after nodes [] lines) ≡ earliest best (faults_after nodes before (drop place lines)))

-- one more line is over
pub one_more : (nodes : ℕ) (lines : List (Said Entry)) (place : ℕ) (seen new : Seen) (best next : Option Fault)
    (x : Said Entry) →
    place < length lines → x ≡ get_or lines place x → IsOver nodes lines place seen best →
    next ≡ earliest best (line_faults nodes seen x) → new ≡ after x.what seen → IsOver nodes lines (place + 1) new next
one_more nodes lines place seen new best next x inside here over noted learnt = (
  x.what ∷ over.0,
  learnt ∙ ap (after x.what) over.1,
  over.2
      ∙ ap (λ (rest : List (Said Entry)). earliest best (faults_after nodes over.0 rest))
      (drop_more lines place x inside ∙ ap (λ (y : Said Entry). y ∷ drop (place + 1) lines) (sym here))
      ∙ earliest-append best (line_faults nodes (seen_of over.0) x) (faults_after nodes (x.what ∷ over.0) (drop
      (place + 1) lines))
      ∙ ap (λ (s : Seen). earliest (earliest best (line_faults nodes s x)) (faults_after nodes (x.what ∷ over.0)
      (drop (place + 1) lines)))
      (sym over.1)
      ∙ ap (λ (b : Option Fault). earliest b (faults_after nodes (x.what ∷ over.0) (drop (place + 1) lines)))
      (sym noted),
)

-- all lines are over
pub all_over : (nodes : ℕ) (lines : List (Said Entry)) (place : ℕ) (seen : Seen) (best : Option Fault) →
    length lines ≤ place → IsOver nodes lines place seen best → best ≡ earliest None (faults_after nodes [] lines)
unfolding earliest
all_over nodes lines place seen best end over =
    sym (over.2 ∙ ap (λ (rest : List (Said Entry)). earliest best (faults_after nodes over.0 rest))
    (drop_all place lines end))

-- the missing horizon comes last
pub with_missing : (nodes line : ℕ) (lines : List (Said Entry)) (best last : Option Fault) (has : Bool) →
    best ≡ earliest None (faults_after nodes [] lines) → has ≡ list_any is_horizon lines →
    last ≡ earliest best (fault_if (not has) line 1) → last ≡ earliest None (faults_of nodes line lines)
with_missing nodes line lines best last has first same noted =
    in_turn None best last (faults_after nodes [] lines) (fault_if (not (list_any is_horizon lines)) line 1) first
    (noted ∙ ap (λ (b : Bool). earliest best (fault_if (not b) line 1)) same)
