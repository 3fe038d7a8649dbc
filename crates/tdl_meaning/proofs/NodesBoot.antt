-- Instant 0 of all nodes: none traps, and what stands after it.
use Rattle.std.proofs.Common.{◌≡◌, ℕ, suc, ◌+◌, ◌≤◌, ℤ, List, [], ◌∷◌, ◌++◌, map, filter, length, true, Option, Some, None, refl, ap, ap₂, sym, ◌∙◌, subst, arith}
use Rattle.std.specs.Prelude.{flat_map, option_map, unwrap_or, slice_get}
use Rattle.std.proofs.lemmas.List.Elements.{filter-append}
use Rattle.tdl_base.specs.declared.numbers.PortKey.{PortKey}
use Rattle.tdl_mode.specs.declared.program.Module.{Module}
use Rattle.tdl_base.specs.Sensed.{Sensed}
use Rattle.tdl_mode.specs.States.{ModuleState}
use Rattle.tdl_deploy.specs.Placed.{hosts}
use Rattle.tdl_trace.specs.Shown.{Shown}
use Rattle.tdl_verify.specs.States.{HostNow, Part, NodeNow, Times, part_number}
use Rattle.tdl_verify.specs.Runs.{Turns, and_turn, all_turns, is_plain}
use Rattle.tdl_gen.specs.Counts.{module_count}
use Rattle.tdl_gen.specs.Realises.{IsWithinWorst}
use Rattle.tdl_meaning.proofs.PhaseFour.{Timely}
use Rattle.tdl_meaning.proofs.OneLive.{ascends-apart}
use Rattle.tdl_gen.proofs.HostMoves.{Apart}
use Rattle.tdl_meaning.proofs.PartsBoot as boot
use Rattle.tdl_verify.proofs.NodeSends.{all_parts}
use Rattle.tdl_base.proofs.SideBySide.{Zip, zip-append}
use Rattle.std.proofs.lemmas.Option.{same_Some}
use Rattle.tdl_meaning.proofs.JobTimes.{timely_all}
use Rattle.tdl_meaning.proofs.NodeShapes.{Same, AllSame, node_kept}
use Rattle.tdl_meaning.proofs.PartsBeforeZero.{PartAt, NodeAt, NodesAt}
use Rattle.tdl_meaning.specs.Accepted.{Accepted}
use Rattle.tdl_meaning.specs.HostInStep.{HostAfter}
use Rattle.tdl_meaning.specs.NodeShape.{Shape, shares, NodeShape, Shapes}
use Rattle.tdl_meaning.specs.AllItems.{Every}
use Rattle.tdl_meaning.specs.OneNode.{first_sees, state_first, first_row_of, Started, FirstDone}

module _ (given : Accepted) (sensed : Sensed) (times : Times) (within : IsWithinWorst given.program times) where
  -- the times of each module's jobs are within its worst cases
  abbrev pub boot_timely : (n : ℕ) (m : Module) → slice_get given.program.modules n ≡ Some m → Timely times n m
  boot_timely = timely_all given.program times within

  -- the parts of node j are as its boot needs them
  abbrev pub firsts : (j : ℕ) (qs : List Part) → Every (PartAt given j) qs →
      boot.AllFirst given j sensed times boot_timely qs
  firsts j [] as' = tt
  firsts j (Part.Host h s ∷ qs) as' =
      (record { definition = as'.0.definition; there = as'.0.there; is = as'.0.is }, firsts j qs as'.1)
  firsts j (Part.Outside q t ∷ qs) as' = (as'.0.is, firsts j qs as'.1)

  -- their shares are within the declared ones
  shares-first : (j : ℕ) (qs : List Part) (gs : Every (Shape given j) qs) (as' : Every (PartAt given j) qs) →
      boot.shares given j sensed times boot_timely qs (firsts j qs as') ≤ shares given j qs gs
  shares-first j [] gs as' = omega arith
  shares-first j (Part.Outside q t ∷ qs) gs as' = let r = shares-first j qs gs.1 as'.1 in omega (arith, r)
  shares-first j (Part.Host h s ∷ qs) gs as' =
      let g = gs.0 in
      let a = as'.0 in
      let r = shares-first j qs gs.1 as'.1 in
      let e : module_count a.definition ≡ module_count g.definition =
      ap module_count (same_Some a.definition g.definition (sym a.there ∙ g.there)) in
      omega (arith, r, e)

  -- the rows of a node's boot are those of its parts
  rows-first : (j : ℕ) (seen : PortKey → ℤ) (ns : List ℕ) (apart : Apart ns) (qs : List Part)
      (as' : Every (PartAt given j) qs) →
      boot.entered_rows given j sensed times boot_timely seen ns apart qs (firsts j qs as')
      ≡ flat_map (first_row_of given j) qs
  rows-first j seen ns apart [] as' = refl
  rows-first j seen ns apart (Part.Host h s ∷ qs) as' =
      let a = as'.0 in
      ap₂ (λ o l. (Shown.Mode 0 j h.number.0 (unwrap_or (option_map (λ (m : Module). m.start.0) o) 0) ∷ []) ++ l)
      (sym a.there) (rows-first j seen ns apart qs as'.1)
  rows-first j seen ns apart (Part.Outside q t ∷ qs) as' = rows-first j seen ns apart qs as'.1

  -- what a part comes to
  abbrev Comes : (PortKey → ℤ) → Part → Part → Type 0
  Comes seen = Started given sensed (λ kk. seen)

  -- parts that have started are the same, but for their states
  same_started : (j : ℕ) (seen : PortKey → ℤ) (qs rs : List Part) (gs : Every (Shape given j) qs) →
      Zip (Comes seen) qs rs → AllSame given j qs gs rs
  same_started j seen [] [] gs z = tt
  same_started j seen [] (r ∷ rs) gs z = absurd z
  same_started j seen (q ∷ qs) [] gs z = absurd z
  same_started j seen (Part.Outside q t ∷ qs) (r ∷ rs) gs z = (
    subst (Same given j (Part.Outside q t) gs.0) (sym z.0)
        (record { shape = gs.0; number = refl; count = refl; first = refl }),
    same_started j seen qs rs gs.1 z.1,
  )
  same_started j seen (Part.Host h s ∷ qs) (r ∷ rs) gs z = (
    subst (Same given j (Part.Host h s) gs.0) (sym z.0.1)
        (record { shape = gs.0; number = refl; count = refl; first = refl }),
    same_started j seen qs rs gs.1 z.1,
  )

  -- instant 0 of a node of the compiler's ends
  pub first_done : (j : ℕ) (n : NodeNow) → NodeShape given j n → NodeAt given j n → FirstDone given j sensed times n
  first_done j n g as' =
      let count = shares-first j n.parts g.each as' in
      let enough = g.enough in
      let seen : PortKey → ℤ = first_sees n.parts in
      let apart : Apart (map part_number n.parts) = ascends-apart 0 n.parts g.up in
      let d = boot.boot_done given j sensed times boot_timely seen (map part_number n.parts) apart n.declared n.parts
      (firsts j n.parts as') refl refl (omega (arith, count, enough)) in
      record {
        after = d.after;
        rows = d.rows;
        is = d.is;
        started = d.stepped;
        shown = d.shown ∙ rows-first j seen (map part_number n.parts) apart n.parts as';
        shape = node_kept given j n g d.after (same_started j seen n.parts d.after g.each d.stepped);
      }

  -- the rows of all nodes, the first having number k
  abbrev pub entered_all : ℕ → List NodeNow → List Shown
  entered_all k [] = []
  entered_all k (n ∷ more) = flat_map (first_row_of given k) n.parts ++ entered_all (suc k) more

  -- `module_sees` is what each module sees
  module _ (module_sees : ℕ → PortKey → ℤ) where
    -- the state of module kk after instant 0, or one without tasks where there is no module
    abbrev pub start_of : ℕ → Option Module → ModuleState
    start_of kk None = record {
      definition = record {
        name = [];
        imports = [];
        constants = [];
        sensors = [];
        actuators = [];
        tasks = [];
        modes = [];
        start = record { 0 = 0 };
      };
      mode = 0;
      base = 0;
      tasks = [];
      actuators = [];
    }
    start_of kk (Some m) = state_first kk sensed (module_sees kk) m

    -- the states of the program's modules after instant 0
    abbrev pub logic_first : ℕ → ModuleState
    logic_first kk = start_of kk (slice_get given.program.modules kk)

    -- a host comes to its module's state, a stub stays as it is
    abbrev pub HasStarted : Part → Part → Type 0
    HasStarted (Part.Host h s) q' = (s' : HostNow) × (q' ≡ Part.Host h s')
        × ((m : Module) → slice_get given.program.modules h.number.0 ≡ Some m →
        HostAfter m h 0 (logic_first h.number.0) s')
    HasStarted (Part.Outside q t) q' = q' ≡ Part.Outside q t

    -- the parts of node j have started, where each of its modules sees what the node does
    zip_started : (j : ℕ) (seen : PortKey → ℤ) (qs rs : List Part) → Every (Shape given j) qs →
        ((kk : ℕ) → hosts given.placement j kk ≡ true → module_sees kk ≡ seen) → Zip (Comes seen) qs rs →
        Zip HasStarted qs rs
    zip_started j seen [] [] gs same z = tt
    zip_started j seen [] (r ∷ rs) gs same z = absurd z
    zip_started j seen (q ∷ qs) [] gs same z = absurd z
    zip_started j seen (Part.Outside q t ∷ qs) (r ∷ rs) gs same z = (z.0, zip_started j seen qs rs gs.1 same z.1)
    zip_started j seen (Part.Host h s ∷ qs) (r ∷ rs) gs same z = (
      (
        z.0.0,
        z.0.1,
        λ m at. subst (λ o. HostAfter m h 0 (start_of h.number.0 o) z.0.0) (sym at)
            (subst (λ (f : PortKey → ℤ). HostAfter m h 0 (state_first h.number.0 sensed f m) z.0.0)
            (sym (same h.number.0 gs.0.hosted)) (z.0.2 m at)),
      ),
      zip_started j seen qs rs gs.1 same z.1,
    )

    -- instant 0 of all nodes, the first having number k, and what stands after it
    pub record AllBooted (k : ℕ) (nodes : List NodeNow) : Type 0 where
      pub after : List NodeNow
      pub rows : List Shown
      pub is : all_turns 0 sensed times k nodes ≡ Turns.All after rows
      pub shapes : Shapes given k after
      pub size : length after ≡ length nodes
      pub started : Zip HasStarted (all_parts nodes) (all_parts after)
      pub shown : filter is_plain rows ≡ entered_all k nodes

    -- each module that node j hosts sees what the node does, whose parts are these
    abbrev SeesAs : ℕ → NodeNow → Type 0
    SeesAs j n = (kk : ℕ) → hosts given.placement j kk ≡ true → module_sees kk ≡ first_sees n.parts

    -- none traps, where each module sees what its node does
    pub all_booted : (k : ℕ) (nodes : List NodeNow) (gs : Shapes given k nodes) (as' : NodesAt given k nodes) →
        ((i : ℕ) (n : NodeNow) → slice_get nodes i ≡ Some n → (kk : ℕ) → hosts given.placement (k + i) kk ≡ true →
        module_sees kk ≡ first_sees n.parts) → AllBooted k nodes
    unfolding all_parts
    all_booted k [] gs as' same = record {
      after = [];
      rows = [];
      is = refl;
      shapes = tt;
      size = refl;
      started = tt;
      shown = refl;
    }
    all_booted k (n ∷ more) gs as' same =
        let g = gs.0 in
        let d : FirstDone given k sensed times n = first_done k n g as'.0 in
        let here : k + 0 ≡ k = omega arith in
        let rest = all_booted (suc k) more gs.1 as'.1 (λ i m at. let s : k + suc i ≡ suc k + i = omega arith in
        subst (λ j. SeesAs j m) s (same (suc i) m at)) in
        let z : Zip HasStarted n.parts d.after =
        zip_started k (first_sees n.parts) n.parts d.after g.each (subst (λ j. SeesAs j n) here (same 0 n refl))
        d.started in
        record {
          after = record n { parts = d.after } ∷ rest.after;
          rows = d.rows ++ rest.rows;
          is = ap₂ (λ a b. and_turn k n a b) d.is rest.is;
          shapes = (d.shape, rest.shapes);
          size = ap suc rest.size;
          started = zip-append HasStarted n.parts (all_parts more) d.after (all_parts rest.after) z rest.started;
          shown = filter-append is_plain d.rows rest.rows ∙ ap₂ (λ a b. a ++ b) d.shown rest.shown;
        }
