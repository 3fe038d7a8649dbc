-- A microsecond of the parts: each comes from after an instant to before the next; its rows are log rows.
use Rattle.std.proofs.Common.{◌≡◌, ℕ, suc, List, [], ◌∷◌, ◌++◌, map, filter, Bool, true, false, Option, Some, None, refl, ap, ap₂, sym, ◌∙◌, subst}
use Rattle.std.specs.Prelude.{slice_get, option_map, unwrap_or, if◌then◌else◌}
use Rattle.std.proofs.lemmas.List.Elements.{filter-append}
use Rattle.tdl_mode.specs.States.{ModuleState}
use Rattle.tdl_trace.specs.Shown.{Shown}
use Rattle.tdl_image.specs.declared.hosted.Hosted.{Hosted}
use Rattle.tdl_verify.specs.States.{HostNow, Part, NodeNow, Stretch}
use Rattle.tdl_verify.specs.Micros.{is_ended, ran_rows, closed}
use Rattle.tdl_verify.specs.Runs.{all_ran, is_plain}
use Rattle.tdl_verify.proofs.NodeSends.{all_parts}
use Rattle.tdl_verify.proofs.RunLemmas.{ran_rows-plain}
use Rattle.tdl_base.proofs.SideBySide.{Zip, zip-left, zip-right}
use Rattle.tdl_meaning.specs.Accepted.{Accepted}
use Rattle.tdl_meaning.proofs.AllParts.{host_of, WasHost}
use Rattle.tdl_meaning.specs.PartFacts.{PartBefore, PartAfterTurn, Parts}
use Rattle.tdl_meaning.specs.OneNode.{Walks}

-- the rows of stretches of all nodes are log rows
pub plain-all : (horizon x k : ℕ) (nodes : List NodeNow) → filter is_plain (all_ran horizon x k nodes) ≡ []
plain-all horizon x k [] = refl
plain-all horizon x k (n ∷ more) =
    filter-append is_plain (ran_rows horizon x k n) (all_ran horizon x (suc k) more)
    ∙ ap₂ (λ a b. a ++ b) (ran_rows-plain horizon x k n) (plain-all horizon x (suc k) more)

-- the end of a stretch leaves the parts
pub closed-parts : (horizon x : ℕ) (nodes : List NodeNow) → all_parts (map (closed horizon x) nodes) ≡ all_parts nodes
unfolding all_parts
closed-parts horizon x [] = refl
closed-parts horizon x (n ∷ more) = ap (λ l. n.parts ++ l) (closed-parts horizon x more)

module _ (given : Accepted) (gone : ℕ → ℕ → Type 0) (x : ℕ) (logic : ℕ → ModuleState) where
  -- what is known of parts after x, and before the next instant
  abbrev AfterTurn : Part → Type 0
  AfterTurn = PartAfterTurn given gone x logic

  -- what is known of parts before the next instant
  abbrev Before : Part → Type 0
  Before = PartBefore given gone (suc x) logic

  -- a part that was right after x is right before the next instant
  part_walked : (q q' : Part) → AfterTurn q → Walks given x logic q q' → Before q'
  part_walked (Part.Host h s) q' b (s', is, facts) =
      subst Before (sym is) (record { tables = b.tables; facts = facts b.tables.definition b.tables.there })
  part_walked (Part.Outside q t) q' b is = subst Before (sym is) b

  -- where a host stands after the microsecond, it stood before
  was_host : (parts after : List Part) → Zip (Walks given x logic) parts after → (n : ℕ) (h : Hosted) (s : HostNow) →
      slice_get after n ≡ Some (Part.Host h s) → WasHost parts n h
  was_host parts after z n h s at =
      let l = zip-left (Walks given x logic) parts after z n (Part.Host h s) at in by_part l.item l.at l.holds
    where
      by_part : (q : Part) → slice_get parts n ≡ Some q → Walks given x logic q (Part.Host h s) → WasHost parts n h
      by_part (Part.Host old state) at (s', is, after) =
          record { state = state; at = at ∙ ap (λ g. Some (Part.Host g state)) (sym (ap (host_of h) is)) }
      by_part (Part.Outside q t) at is = absurd (cc is)

  -- all parts that were right after x are right before the next instant
  pub parts_walked : (parts after : List Part) → Parts given AfterTurn parts → Zip (Walks given x logic) parts after →
      Parts given Before after
  parts_walked parts after ps z = record {
    each = λ n q at.
        let l = zip-left (Walks given x logic) parts after z n q at in
        part_walked l.item q (ps.each n l.item l.at) l.holds;
    once = λ i j h h' s s' lt ai bj same.
        let a = was_host parts after z i h s ai in
        let b = was_host parts after z j h' s' bj in
        ps.once i j h h' a.state b.state lt a.at b.at same;
    hosted = λ kk m there.
        let o = ps.hosted kk m there in
        let r = zip-right (Walks given x logic) parts after z o.place (Part.Host o.host o.state) o.at in
        record { place = o.place; host = o.host; state = r.holds.0; at = r.at ∙ ap Some r.holds.1; number = o.number };
  }
