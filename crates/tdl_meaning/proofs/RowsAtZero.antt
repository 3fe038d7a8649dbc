-- The plain rows of instant 0 are the logical ones.
use Rattle.std.proofs.Common.{Option, ◌≡◌, ℕ, suc, ◌+◌, List, [], ◌∷◌, ◌++◌, map, filter, Bool, true, false, Some, refl, ap, ap₂, sym, ◌∙◌, subst, arith, append-nil}
use Rattle.std.specs.Prelude.{slice_get, unwrap_or, option_map, flat_map, if◌then◌else◌}
use Rattle.tdl_base.specs.Lists.{joined, numbered}
use Rattle.tdl_mode.specs.declared.program.Module.{Module}
use Rattle.tdl_base.specs.Sensed.{Course}
use Rattle.tdl_mode.specs.States.{ModuleState, State}
use Rattle.tdl_mode.specs.Phases.{phase_four}
use Rattle.tdl_mode.specs.Instants.{entered, begun, state_at, look_in}
use Rattle.tdl_deploy.specs.declared.placement.PlacedNode.{PlacedNode}
use Rattle.tdl_deploy.specs.Placed.{hosts, imports}
use Rattle.tdl_deploy.specs.Rows.{first_rows, rows_at}
use Rattle.tdl_trace.specs.Shown.{Shown}
use Rattle.tdl_image.specs.declared.bundle.Bundle.{Bundle}
use Rattle.tdl_verify.specs.States.{Part, NodeNow, Times, node_first, host_first, stub_first}
use Rattle.tdl_verify.specs.Runs.{Run, Lost, run_to, is_plain}
use Rattle.tdl_gen.specs.Tables.{hosted_of, stub_of}
use Rattle.tdl_gen.specs.Realises.{image_of, bundle_of, IsWithinWorst, HasTables, HasCounts, part_at}
use Rattle.tdl_gen.proofs.OneBundle.{one_bundle}
use Rattle.tdl_base.proofs.NumberedLists.{numbered-numbered, numbered-map}
use Rattle.tdl_gen.proofs.PartOrder.{parts-are}
use Rattle.tdl_meaning.proofs.NodesBoot.{entered_all}
use Rattle.tdl_meaning.proofs.InstantZero.{booted, first_is}
use Rattle.tdl_meaning.specs.Accepted.{Accepted}
use Rattle.tdl_meaning.specs.OneNode.{first_row_of}

module _ (given : Accepted) (course : Course) (times : Times) (within : IsWithinWorst given.program times) where
  -- the row of module k on node j, where it is hosted there
  abbrev row_of_module : ℕ → ℕ → Module → List Shown
  row_of_module j k m = if hosts given.placement j k then Shown.Mode 0 j k m.start.0 ∷ [] else []

  -- the rows of the compiler's parts of node j, module by module, the first having number n
  in_order : (j n : ℕ) (ms : List Module) →
      ((i : ℕ) (m : Module) → slice_get ms i ≡ Some m → slice_get given.program.modules (n + i) ≡ Some m) →
      flat_map (first_row_of given j) (joined (numbered n (part_at given.program given.placement given.schedule j) ms))
      ≡ joined (numbered n (row_of_module j) ms)
  in_order j n [] at = refl
  in_order j n (m ∷ ms) at =
      let z : n ≡ n + 0 = omega arith in
      by_test (in_order j (suc n) ms (λ i d e. let s : suc n + i ≡ n + suc i = omega arith in
      ap (slice_get given.program.modules) s ∙ at (suc i) d e)) (ap (slice_get given.program.modules) z ∙ at 0 m refl)
      (hosts given.placement j n) (imports given.program given.placement j n)
    where
      more : List Part
      more = joined (numbered (suc n) (part_at given.program given.placement given.schedule j) ms)

      first_row : ℕ → Option Module → List Shown
      first_row n o = Shown.Mode 0 j n (unwrap_or (option_map (λ (m : Module). m.start.0) o) 0) ∷ []

      by_test : flat_map (first_row_of given j) more ≡ joined (numbered (suc n) (row_of_module j) ms) →
          slice_get given.program.modules n ≡ Some m → (b c : Bool) →
          flat_map (first_row_of given j) ((if b then host_first (hosted_of given.schedule n m) ∷ [] else
          (if c then stub_first (stub_of given.program given.placement given.schedule n m) ∷ [] else [])) ++ more)
          ≡ (if b then Shown.Mode 0 j n m.start.0 ∷ [] else []) ++ joined (numbered (suc n) (row_of_module j) ms)
      by_test rest there true c = ap₂ (λ o l. first_row n o ++ l) there rest
      by_test rest there false true = rest
      by_test rest there false false = rest

  -- they are the first rows of the node
  first-are : (j : ℕ) → joined (numbered 0 (row_of_module j) given.program.modules)
      ≡ first_rows given.placement (begun given.program (course 0)) j
  unfolding begun
  first-are j =
      let state : State = map entered given.program.modules in
      let row : ℕ → ModuleState → List Shown =
      λ k s. if hosts given.placement j k then Shown.Mode 0 j k s.mode ∷ [] else [] in
      sym (ap joined (numbered-numbered row (λ k r. phase_four 0 (look_in state (course 0) k r) r) 0 state
      ∙ numbered-map (λ k r. row k (phase_four 0 (look_in state (course 0) k r) r)) entered 0 given.program.modules))

  -- the compiler's nodes for these, the first having number k, before instant 0
  abbrev nodes_from : ℕ → List PlacedNode → List NodeNow
  nodes_from k ns = map node_first (numbered k (image_of given.program given.placement given.schedule) ns)

  -- their rows at instant 0 are the first rows of the nodes
  nodes-rows : (k : ℕ) (ns : List PlacedNode) → entered_all given (course 0) times within k (nodes_from k ns)
      ≡ joined (numbered k (λ node n. first_rows given.placement (begun given.program (course 0)) node) ns)
  nodes-rows k [] = refl
  nodes-rows k (n ∷ ns) =
      ap₂ (λ a b. a ++ b)
      (ap (flat_map (first_row_of given k)) (parts-are given.program given.placement given.schedule k n)
      ∙ in_order k 0 given.program.modules (λ i m e. let z : 0 + i ≡ i = omega arith in
      ap (slice_get given.program.modules) z ∙ e)
      ∙ first-are k)
      (nodes-rows (suc k) ns)

  module _ (horizon : ℕ) (lost : Lost) where
    -- the plain rows of a bundle's run at instant 0 are the logical ones
    abbrev HasFirstRows : Bundle → Type 0
    HasFirstRows b =
        filter is_plain (run_to b horizon course times lost 0).rows ≡ rows_at given.program given.placement course 0

    -- those of the compiler's bundle are
    rows_zero : HasFirstRows (bundle_of given.program given.placement given.schedule)
    unfolding run_to rows_at state_at
    rows_zero =
        let d = booted given course times within in
        ap (λ (r : Run). filter is_plain r.rows) (first_is given course times within lost)
        ∙ ap (filter is_plain) (append-nil d.rows) ∙ d.shown
        ∙ nodes-rows 0 given.placement.nodes

    -- so are those of each bundle with its tables and counts
    pub rows_first : (b : Bundle) → HasTables b given.program given.placement given.schedule →
        HasCounts b given.program given.placement given.schedule → HasFirstRows b
    rows_first b tables counts =
        subst HasFirstRows (sym (one_bundle b given.program given.placement given.schedule tables counts)) rows_zero
