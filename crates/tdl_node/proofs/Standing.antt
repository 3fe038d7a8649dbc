-- The run of a bundle, one step after the other, while its one node is the machine.
use Rattle.std.proofs.Common.{◌≡◌, ℕ, suc, zero, ◌+◌, List, [], ◌++◌, filter, None, refl, ap, sym, ◌∙◌, subst, arith, append-nil, append_assoc}
use Rattle.std.proofs.lemmas.List.Elements.{filter-append}
use Rattle.tdl_trace.specs.declared.why.Why.{Why}
use Rattle.tdl_trace.specs.Shown.{Shown}
use Rattle.tdl_image.specs.declared.bundle.Bundle.{Bundle}
use Rattle.tdl_base.specs.Sensed.{Sensed}
use Rattle.tdl_verify.specs.States.{Part, Times, NodeNow}
use Rattle.tdl_verify.specs.Turns.{Turned}
use Rattle.tdl_verify.specs.Runs.{System, Run, Now, instant, next_instant, run_to, gone_on, no_loss, is_plain, system_first}
use Rattle.tdl_verify.proofs.RunLemmas.{gone_on-alive, gone_on-dead}
use Rattle.tdl_node.specs.Machines.{IsOffBus, IsBegun}
use Rattle.tdl_node.specs.Steps.{turned_at, micro_and_turn}
use Rattle.tdl_node.proofs.Steps.{alone, Stands, Went, instant_goes, instant_traps, next_goes, next_traps}

-- ---- a run that goes on

gone_went : (d : ℕ) (later : List Part) (rows : List Shown) (next : System → Run) (r : Run) (s : System) →
    r.now ≡ Now.Alive s →
    Went d later [] rows (next s) → Went d later (filter is_plain r.rows) rows (gone_on next r)
gone_went d later rows next r s e w =
    rw (gone_on-alive next r s e)
    (record {
      stands = record { running = w.stands.running; now = w.stands.now };
      rows = filter-append is_plain r.rows (next s).rows ∙ ap (λ (a : List Shown). filter is_plain r.rows ++ a) w.rows;
    })

-- the rows of a run are the first rows of one that went on from it
pub record Grows (r q : Run) : Type 0 where
  pub more : List Shown
  pub rows : q.rows ≡ r.rows ++ more

gone_grows : (next : System → Run) (r : Run) → Grows r (gone_on next r)
gone_grows next r = by_now r.now refl
  where
    by_now : (now : Now) → r.now ≡ now → Grows r (gone_on next r)
    by_now (Now.Alive s) e = rw (gone_on-alive next r s e) (record { more = (next s).rows; rows = refl })
    by_now (Now.Dead node at reason) e =
        rw (gone_on-dead next r node at reason e) (record { more = []; rows = sym (append-nil r.rows) })

grows_on : (r q p : Run) → Grows r q → Grows q p → Grows r p
grows_on r q p g k = record {
  more = g.more ++ k.more;
  rows = k.rows ∙ ap (λ (a : List Shown). a ++ k.more) g.rows ∙ append_assoc r.rows g.more k.more;
}

-- ---- the run of a bundle

first_system : (b : Bundle) (d : ℕ) (parts : List Part) → IsBegun b d parts → system_first b ≡ alone d parts None
first_system b d parts e = ap (λ (nodes : List NodeNow). record { nodes = nodes; flight = None; sent = 0 }) e

module _ (b : Bundle) (h : ℕ) (course : ℕ → Sensed) (times : Times) where
  -- the run up to x
  abbrev pub reached : ℕ → Run
  reached x = run_to b h course times no_loss x

  pub begins : (d : ℕ) (parts later : List Part) (rows : List Shown) → IsBegun b d parts → IsOffBus later →
      turned_at d (course 0) times 0 parts ≡ Turned.Finished later rows → Went d later [] rows (reached 0)
  unfolding run_to
  begins d parts later rows begun off e =
      subst (λ (s : System). Went d later [] rows (instant 0 (course 0) times no_loss [] s))
      (sym (first_system b d parts begun))
      (instant_goes 0 d parts later None [] rows (course 0) times off refl e)

  pub begins_dead : (d : ℕ) (parts : List Part) (reason : Why) → IsBegun b d parts →
      turned_at d (course 0) times 0 parts ≡ Turned.Trapped reason → (reached 0).now ≡ Now.Dead 0 0 reason
  unfolding run_to
  begins_dead d parts reason begun e =
      subst (λ (s : System). (instant 0 (course 0) times no_loss [] s).now ≡ Now.Dead 0 0 reason)
      (sym (first_system b d parts begun))
      (ap (λ (r : Run). r.now) (instant_traps 0 d parts None [] (course 0) times reason e))

  pub goes_on : (x d : ℕ) (parts later : List Part) (rows : List Shown) → Stands d parts (reached x) → IsOffBus later →
      micro_and_turn d (course (suc x)) times x parts ≡ Turned.Finished later rows →
      Went d later (filter is_plain (reached x).rows) rows (reached (suc x))
  unfolding run_to
  goes_on x d parts later rows s off e =
      gone_went d later rows (next_instant h x (course (suc x)) times no_loss) (reached x) (alone d parts s.running)
      s.now
      (next_goes h x d parts later s.running rows (course (suc x)) times off e)

  pub dies : (x d : ℕ) (parts : List Part) (reason : Why) → Stands d parts (reached x) →
      micro_and_turn d (course (suc x)) times x parts ≡ Turned.Trapped reason → (reached (suc x)).now
      ≡ Now.Dead 0 (suc x) reason
  unfolding run_to
  dies x d parts reason s e =
      ap (λ (r : Run). r.now)
      (gone_on-alive (next_instant h x (course (suc x)) times no_loss) (reached x) (alone d parts s.running) s.now)
      ∙ ap (λ (r : Run). r.now) (next_traps h x d parts s.running (course (suc x)) times reason e)

  next_dead : (x node at : ℕ) (reason : Why) → (reached x).now ≡ Now.Dead node at reason →
      (reached (suc x)).now ≡ Now.Dead node at reason
  unfolding run_to
  next_dead x node at reason e =
      ap (λ (r : Run). r.now)
      (gone_on-dead (next_instant h x (course (suc x)) times no_loss) (reached x) node at reason e)
      ∙ e

  next_grows : (x : ℕ) → Grows (reached x) (reached (suc x))
  unfolding run_to
  next_grows x = gone_grows (next_instant h x (course (suc x)) times no_loss) (reached x)

  -- a run that is dead stays dead
  pub stays_dead : (x more y : ℕ) (node at : ℕ) (reason : Why) → y ≡ x + more →
      (reached x).now ≡ Now.Dead node at reason →
      (reached y).now ≡ Now.Dead node at reason
  stays_dead x zero y node at reason e dies = ap (λ (k : ℕ). (reached k).now) (omega (arith, e)) ∙ dies
  stays_dead x (suc more) y node at reason e dies =
      stays_dead (suc x) more y node at reason (omega (arith, e)) (next_dead x node at reason dies)

  -- a later instant has the rows of an earlier one
  pub grows_to : (x more y : ℕ) → y ≡ x + more → Grows (reached x) (reached y)
  grows_to x zero y e =
      subst (λ (k : ℕ). Grows (reached x) (reached k)) (omega (arith, e))
      (record { more = []; rows = sym (append-nil (reached x).rows) })
  grows_to x (suc more) y e =
      grows_on (reached x) (reached (suc x)) (reached y) (next_grows x) (grows_to (suc x) more y (omega (arith, e)))
