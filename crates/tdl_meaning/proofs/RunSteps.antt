-- A run goes on from instant to instant without a trap, whatever frames are lost.
use Rattle.std.proofs.Common.{true, false, ◌≡◌, ℕ, zero, suc, ℤ, List, ◌++◌, map, filter, length, Option, refl, ap, ap₂, sym, ◌∙◌, subst, append-nil}
use Rattle.std.proofs.lemmas.List.{length-map}
use Rattle.std.proofs.lemmas.List.Elements.{filter-append}
use Rattle.tdl_base.specs.declared.numbers.PortKey.{PortKey}
use Rattle.tdl_mode.specs.States.{ModuleState}
use Rattle.tdl_trace.specs.Shown.{Shown}
use Rattle.tdl_image.specs.declared.bundle.Bundle.{Bundle}
use Rattle.tdl_verify.specs.States.{NodeNow}
use Rattle.tdl_verify.specs.Micros.{closed}
use Rattle.tdl_verify.specs.Bus.{Flight}
use Rattle.tdl_verify.proofs.RunLemmas.{gone_on-alive}
use Rattle.tdl_verify.specs.Runs.{System, Now, Run, Lost, landed, all_ran, next_instant, gone_on, run_to, no_loss, is_plain}
use Rattle.tdl_verify.proofs.NodeSends.{all_parts}
use Rattle.tdl_meaning.proofs.Deliveries.{landed-parts}
use Rattle.tdl_base.proofs.SideBySide.{Zip}
use Rattle.tdl_meaning.proofs.InstantDone.{InstantDone, instant_done}
use Rattle.tdl_meaning.specs.OneNode.{Stepped, Walks}
use Rattle.tdl_meaning.proofs.PartMicros.{plain-all, closed-parts, parts_walked}
use Rattle.tdl_meaning.proofs.NodeShapes.{shapes-closed, shapes-landed, length-landed}
use Rattle.tdl_meaning.proofs.NodeMicros.{MicrosDone, micros_done}
use Rattle.tdl_meaning.proofs.Delivered.{all_land}
use Rattle.tdl_meaning.proofs.NodeTurns.{AllTurns, turns_all}
use Rattle.tdl_meaning.specs.Accepted.{Accepted}
use Rattle.tdl_meaning.specs.PartFacts.{PartBefore, Parts}
use Rattle.tdl_meaning.specs.NodeShape.{Shapes}
use Rattle.tdl_meaning.specs.Conditions.{Conditions, Losses, Gone, Takes}
use Rattle.tdl_meaning.specs.SystemStands.{TakesAlong, Stands, Step, Along, seen_next, logic_next, run_next}

module _ (given : Accepted) (run : Conditions given) (losses : Losses) where
  -- a system that stands after x comes to suc x
  pub step : (x : ℕ) (logic : ℕ → ModuleState) (s : System) → Stands given (Gone losses) x logic s →
      Takes given losses (suc x) logic s.flight → Step given run losses x logic s
  unfolding next_instant
  step x logic s stands lose =
      let m : MicrosDone given (Gone losses) x logic 0 s.nodes =
      micros_done given (Gone losses) x logic 0 s.nodes stands.shapes stands.parts.each in
      let nodes : List NodeNow = map (closed run.horizon (suc x)) m.after in
      let same : all_parts m.after ≡ all_parts nodes = sym (closed-parts run.horizon (suc x) m.after) in
      let walked : Zip (Walks given x logic) (all_parts s.nodes) (all_parts nodes) =
      subst (Zip (Walks given x logic) (all_parts s.nodes)) same m.walked in
      let before : Parts given (PartBefore given (Gone losses) (suc x) logic) (all_parts nodes) =
      parts_walked given (Gone losses) x logic (all_parts s.nodes) (all_parts nodes) stands.parts walked in
      let lands = all_land given (Gone losses) (suc x) logic losses.lost s.flight nodes before stands.bus lose
      (run.course (suc x)) in
      let here : List NodeNow = landed (suc x) losses.lost nodes s.flight in
      let shapes : Shapes given 0 here = shapes-landed given (suc x) losses.lost nodes s.flight
      (shapes-closed given run.horizon (suc x) 0 m.after m.shapes) in
      let size : length here ≡ length given.placement.nodes =
      length-landed (suc x) losses.lost nodes s.flight ∙ length-map m.after (closed run.horizon (suc x)) ∙ m.size
      ∙ stands.size in
      let t : AllTurns given (suc x) (run.course (suc x)) run.times run.within logic (Gone losses) here =
      turns_all given (suc x) (run.course (suc x)) run.times run.within logic (Gone losses) here shapes lands in
      let ran : List Shown = all_ran run.horizon (suc x) 0 m.after in
      let sys : System = record s { nodes = nodes } in
      let seen : ℕ → PortKey → ℤ = seen_next given run losses x logic nodes s.flight in
      let d : InstantDone given (Gone losses) (suc x) (run.course (suc x)) run.times losses.lost seen logic ran sys =
      instant_done given (Gone losses) (suc x) (run.course (suc x)) run.times losses.lost seen logic ran sys before
      stands.bus lose t.steps in
      let is : run_next given run losses x s
      ≡ record { rows = ran ++ d.rows ++ d.sent; sendings = d.sendings; now = Now.Alive d.after } =
      let e = m.is in rw e d.is in
      record {
        nodes = nodes;
        walked = walked;
        before = before;
        shapes = shapes;
        size = size;
        lands = lands;
        after = d.after;
        is = ap (λ (r : Run). r.now) is;
        stepped = subst (λ qs. Zip (Stepped given (suc x) (run.course (suc x)) seen logic) qs (all_parts d.after.nodes))
            (sym (landed-parts (suc x) losses.lost s.flight nodes)) d.stepped;
        stands = record {
          shapes = t.shapes d.after.nodes d.rows d.turns;
          size = t.size d.after.nodes d.rows d.turns ∙ size;
          parts = d.parts;
          bus = d.bus;
        };
        shown = ap (λ (r : Run). filter is_plain r.rows) is ∙ filter-append is_plain (ran ++ d.rows) d.sent
            ∙ ap₂ (λ a b. a ++ b) (filter-append is_plain ran d.rows
            ∙ ap (λ a. a ++ filter is_plain d.rows) (plain-all run.horizon (suc x) 0 m.after)) d.shown
            ∙ append-nil (filter is_plain d.rows) ∙ t.shown d.after.nodes d.rows d.turns;
      }

  -- `Also` is what else is known of a system, and each step keeps
  module _ (Also : ℕ → (ℕ → ModuleState) → System → Type 0)
      (kept : (x : ℕ) (logic : ℕ → ModuleState) (s : System) (st : Step given run losses x logic s) → Also x logic s →
      Also (suc x) (logic_next given run losses x logic st.nodes s.flight) st.after) where
    -- a bundle's run up to x
    abbrev ran : Bundle → ℕ → Run
    ran b = run_to b run.horizon run.course run.times losses.lost

    -- a run that is alive after instant 0 is alive at every instant
    pub along : (b : Bundle) → TakesAlong given run losses b → Along given (Gone losses) Also 0 (ran b 0) → (x : ℕ) →
        Along given (Gone losses) Also x (ran b x)
    unfolding run_to
    along b lose first zero = first
    along b lose first (suc x) =
        let a : Along given (Gone losses) Also x (ran b x) = along b lose first x in
        let st : Step given run losses x a.logic a.sys = step x a.logic a.sys a.stands
        (lose x a.logic a.sys a.is a.stands) in
        record {
          sys = st.after;
          logic = logic_next given run losses x a.logic st.nodes a.sys.flight;
          is = ap (λ (r : Run). r.now) (gone_on-alive (run_next given run losses x) (ran b x) a.sys a.is) ∙ st.is;
          stands = st.stands;
          also = kept x a.logic a.sys st a.also;
        }

-- no frame is lost, and no commit is gone
abbrev pub no_losses : Losses
no_losses = record { lost = no_loss; gone = λ kk at. false }

-- so no frame takes a commit
pub no_takes : (given : Accepted) (x : ℕ) (logic : ℕ → ModuleState) (flight : Option Flight) →
    Takes given no_losses x logic flight
no_takes given x logic flight kk m there f w t a is until lost c n = absurd (cc lost)

-- these frames are lost, and every commit may be gone
abbrev pub any_losses : Lost → Losses
any_losses lost = record { lost = lost; gone = λ kk at. true }

-- so each frame takes its commit
pub any_takes : (given : Accepted) (lost : Lost) (x : ℕ) (logic : ℕ → ModuleState) (flight : Option Flight) →
    Takes given (any_losses lost) x logic flight
any_takes given lost x logic flight kk m there f w t a is until gone c n = refl
