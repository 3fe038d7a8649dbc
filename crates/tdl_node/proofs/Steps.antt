-- One instant and one microsecond of a machine, in the run of its bundle.
use Rattle.std.proofs.Common.{◌≡◌, ℕ, suc, Bool, true, false, nat_lt, List, [], ◌∷◌, ◌++◌, filter, flat_map, length, map, Option, Some, None, if◌then◌else◌, option_map, unwrap_or, refl, ap, ap₂, sym, ◌∙◌, append-nil}
use Rattle.std.proofs.lemmas.List.Elements.{filter-append}
use Rattle.tdl_trace.specs.declared.why.Why.{Why}
use Rattle.tdl_trace.specs.declared.why.Why.TheVariants as why
use Rattle.tdl_trace.specs.Shown.{Shown}
use Rattle.tdl_base.specs.Sensed.{Sensed}
use Rattle.tdl_verify.specs.States.{Part, Times, Stretch, NodeNow}
use Rattle.tdl_verify.specs.Turns.{Spot, Turned, turn}
use Rattle.tdl_base.specs.Lists.{first_of}
use Rattle.tdl_verify.proofs.RunLemmas.{ran_rows-plain}
use Rattle.tdl_verify.specs.Micros.{live, run_part, ran_rows, is_ended, closed, opened, stretches}
use Rattle.tdl_verify.specs.Bus.{starts}
use Rattle.tdl_verify.specs.Runs.{System, Run, Now, instant, next_instant, no_loss, is_plain, dead}
use Rattle.tdl_node.specs.Machines.{plain_turned, IsOffBus}
use Rattle.tdl_node.specs.Steps.{turned_at, micro_and_turn}
use Rattle.tdl_node.proofs.OffBus.{nothing_starts}

-- a system of one node with nothing on the bus
abbrev pub alone : ℕ → List Part → Option Stretch → System
alone declared parts running =
    record { nodes = record { declared = declared; parts = parts; running = running } ∷ []; flight = None; sent = 0 }

-- ---- an instant

instant_finished : (x d : ℕ) (parts later : List Part) (running : Option Stretch) (ran rows : List Shown)
    (sensed : Sensed) (times : Times) →
    turn d x 0 sensed times Spot.Between parts [] ≡ Turned.Finished later rows → flat_map (starts x) later ≡ [] →
    instant x sensed times no_loss ran (alone d parts running)
    ≡ record { rows = ran ++ (rows ++ []) ++ []; sendings = []; now = Now.Alive (alone d later running) }
unfolding instant
instant_finished x d parts later running ran rows sensed times e g = rw (e, g) refl

instant_trapped : (x d : ℕ) (parts : List Part) (running : Option Stretch) (ran : List Shown) (sensed : Sensed)
    (times : Times) (reason : Why) →
    turn d x 0 sensed times Spot.Between parts [] ≡ Turned.Trapped reason →
    instant x sensed times no_loss ran (alone d parts running) ≡ dead 0 x reason
unfolding instant
instant_trapped x d parts running ran sensed times reason e = rw e refl

-- ---- a microsecond

-- the node of some parts after the microsecond x
abbrev walked_node : ℕ → ℕ → List Part → Option Stretch → NodeNow
walked_node x d parts running =
    record {
      declared = d;
      parts = map (run_part x) parts;
      running = opened running
          (first_of (flat_map (stretches x) parts));
    }

micro_walked : (h x d : ℕ) (parts : List Part) (running : Option Stretch) (sensed : Sensed) (times : Times) →
    nat_lt 1 (length (flat_map (live x) parts)) ≡ false →
    next_instant h x sensed times no_loss (alone d parts running)
    ≡ instant (suc x) sensed times no_loss (ran_rows h (suc x) 0 (walked_node x d parts running) ++ [])
    (alone d (map (run_part x) parts) (closed h (suc x) (walked_node x d parts running)).running)
unfolding next_instant
micro_walked h x d parts running sensed times e = rw e refl

micro_clashed : (h x d : ℕ) (parts : List Part) (running : Option Stretch) (sensed : Sensed) (times : Times) →
    nat_lt 1 (length (flat_map (live x) parts)) ≡ true →
    next_instant h x sensed times no_loss (alone d parts running) ≡ dead 0 (suc x) why.Clash
unfolding next_instant
micro_clashed h x d parts running sensed times e = rw e refl

-- the rows of ended stretches are not plain
ran_none : (h x : ℕ) (n : NodeNow) → filter is_plain (ran_rows h x 0 n ++ []) ≡ []
ran_none h x n = ap (filter is_plain) (append-nil (ran_rows h x 0 n)) ∙ ran_rows-plain h x 0 n

-- ---- turns with and without their log lines

-- a turn that comes to these parts and plain rows
record Comes (t : Turned) (parts : List Part) (plain : List Shown) : Type 0 where
  rows : List Shown
  is : t ≡ Turned.Finished parts rows
  shown : filter is_plain rows ≡ plain

abbrev parts_of : Turned → List Part
parts_of (Turned.Finished parts rows) = parts
parts_of (Turned.Trapped reason) = []

abbrev rows_of : Turned → List Shown
rows_of (Turned.Finished parts rows) = rows
rows_of (Turned.Trapped reason) = []

abbrev is_finished : Turned → Bool
is_finished (Turned.Finished parts rows) = true
is_finished (Turned.Trapped reason) = false

not_both : {P : Type 0} → false ≡ true → P
not_both e = absurd (cc e)

comes : (t : Turned) (parts : List Part) (plain : List Shown) → plain_turned t ≡ Turned.Finished parts plain →
    Comes t parts plain
comes (Turned.Finished ps rows) parts plain e =
    record { rows = rows; is = ap (λ (p : List Part). Turned.Finished p rows) (ap parts_of e); shown = ap rows_of e }
comes (Turned.Trapped reason) parts plain e = not_both (ap is_finished e)

traps : (t : Turned) (reason : Why) → plain_turned t ≡ Turned.Trapped reason → t ≡ Turned.Trapped reason
traps (Turned.Finished ps rows) reason e = not_both (sym (ap is_finished e))
traps (Turned.Trapped why) reason e = e

-- ---- runs

-- a run whose one node has these parts and this count
pub record Stands (d : ℕ) (parts : List Part) (r : Run) : Type 0 where
  pub running : Option Stretch
  pub now : r.now ≡ Now.Alive (alone d parts running)

-- a run that came to these parts, by these plain rows after those before
pub record Went (d : ℕ) (parts : List Part) (before more : List Shown) (r : Run) : Type 0 where
  pub stands : Stands d parts r
  pub rows : filter is_plain r.rows ≡ before ++ more

-- the plain rows of an instant
rows_on : (ran turned T : List Shown) → filter is_plain ran ≡ [] → filter is_plain turned ≡ T →
    filter is_plain (ran ++ (turned ++ []) ++ []) ≡ T
rows_on ran turned T g h =
    ap (filter is_plain) (append-nil (ran ++ (turned ++ [])) ∙ ap (λ (a : List Shown). ran ++ a) (append-nil turned))
    ∙ filter-append is_plain ran turned
    ∙ ap₂ (λ (a b : List Shown). a ++ b) g h

instant_comes : (x d : ℕ) (parts later : List Part) (running : Option Stretch) (ran rows : List Shown)
    (sensed : Sensed) (times : Times) →
    IsOffBus later → filter is_plain ran ≡ [] → Comes (turn d x 0 sensed times Spot.Between parts []) later rows →
    Went d later [] rows (instant x sensed times no_loss ran (alone d parts running))
instant_comes x d parts later running ran rows sensed times off none c =
    rw (instant_finished x d parts later running ran c.rows sensed times c.is (nothing_starts x later off))
    (record { stands = record { running = running; now = refl }; rows = rows_on ran c.rows rows none c.shown })

-- an instant whose turn is over
pub instant_goes : (x d : ℕ) (parts later : List Part) (running : Option Stretch) (ran rows : List Shown)
    (sensed : Sensed) (times : Times) →
    IsOffBus later → filter is_plain ran ≡ [] → turned_at d sensed times x parts ≡ Turned.Finished later rows →
    Went d later [] rows (instant x sensed times no_loss ran (alone d parts running))
instant_goes x d parts later running ran rows sensed times off none e =
    instant_comes x d parts later running ran rows sensed times off none
    (comes (turn d x 0 sensed times Spot.Between parts []) later rows e)

-- an instant whose turn traps
pub instant_traps : (x d : ℕ) (parts : List Part) (running : Option Stretch) (ran : List Shown) (sensed : Sensed)
    (times : Times) (reason : Why) →
    turned_at d sensed times x parts ≡ Turned.Trapped reason →
    instant x sensed times no_loss ran (alone d parts running) ≡ dead 0 x reason
instant_traps x d parts running ran sensed times reason e =
    instant_trapped x d parts running ran sensed times reason
    (traps (turn d x 0 sensed times Spot.Between parts []) reason e)

-- a microsecond and an instant whose turn is over
pub next_goes : (h x d : ℕ) (parts later : List Part) (running : Option Stretch) (rows : List Shown) (sensed : Sensed)
    (times : Times) →
    IsOffBus later → micro_and_turn d sensed times x parts ≡ Turned.Finished later rows →
    Went d later [] rows (next_instant h x sensed times no_loss (alone d parts running))
next_goes h x d parts later running rows sensed times off e = by_test (nat_lt 1 (length (flat_map (live x) parts))) refl
  where
    by_test : (b : Bool) → nat_lt 1 (length (flat_map (live x) parts)) ≡ b →
        Went d later [] rows (next_instant h x sensed times no_loss (alone d parts running))
    by_test true g = not_both (ap is_finished (rw g at e))
    by_test false g =
        rw (micro_walked h x d parts running sensed times g)
        (instant_goes (suc x) d (map (run_part x) parts) later _ _ rows sensed times off
        (ran_none h (suc x) (walked_node x d parts running)) (rw g at e))

-- a microsecond and an instant that trap
pub next_traps : (h x d : ℕ) (parts : List Part) (running : Option Stretch) (sensed : Sensed) (times : Times)
    (reason : Why) →
    micro_and_turn d sensed times x parts ≡ Turned.Trapped reason →
    next_instant h x sensed times no_loss (alone d parts running) ≡ dead 0 (suc x) reason
next_traps h x d parts running sensed times reason e = by_test (nat_lt 1 (length (flat_map (live x) parts))) refl
  where
    same_reason : (r : Why) → Turned.Trapped r ≡ Turned.Trapped reason → dead 0 (suc x) r ≡ dead 0 (suc x) reason
    same_reason r g = ap (dead 0 (suc x)) (ap (why_of r) g)
      where
        why_of : Why → Turned → Why
        why_of r (Turned.Finished ps rows) = r
        why_of r (Turned.Trapped other) = other

    by_test : (b : Bool) → nat_lt 1 (length (flat_map (live x) parts)) ≡ b →
        next_instant h x sensed times no_loss (alone d parts running) ≡ dead 0 (suc x) reason
    by_test true g = micro_clashed h x d parts running sensed times g ∙ same_reason why.Clash (rw g at e)
    by_test false g =
        micro_walked h x d parts running sensed times g
        ∙ instant_traps (suc x) d (map (run_part x) parts) _ _ sensed times reason (rw g at e)
