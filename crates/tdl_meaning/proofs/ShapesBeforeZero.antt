-- The shapes of the compiler's nodes before instant 0: their parts ascend in number, and the declared count is enough
-- for them.
use Rattle.std.proofs.Common.{◌≡◌, ℕ, zero, suc, ◌+◌, ◌≤◌, List, [], ◌∷◌, ◌++◌, map, Bool, true, false, not, ◌&&◌, Some, None, refl, ap, sym, ◌∙◌, subst, arith}
use Rattle.std.specs.Prelude.{sum, slice_get, option_map, unwrap_or, if◌then◌else◌}
use Rattle.std.proofs.lemmas.List.{length-map}
use Rattle.std.proofs.lemmas.Option.{slice_get-map}
use Rattle.tdl_base.specs.Lists.{joined, numbered}
use Rattle.tdl_mode.specs.declared.program.Module.{Module}
use Rattle.tdl_deploy.specs.declared.placement.PlacedNode.{PlacedNode}
use Rattle.tdl_deploy.specs.Placed.{hosts, imports}
use Rattle.tdl_image.specs.declared.stub.Receive.{Receive}
use Rattle.tdl_image.specs.declared.stub.Stub.{Stub}
use Rattle.tdl_verify.specs.States.{Part, host_first, stub_first, stub_initials, node_first, initial_values}
use Rattle.tdl_gen.specs.Counts.{module_count, stub_count, declared_of}
use Rattle.tdl_gen.specs.Tables.{hosted_of, stub_of, receives, take_block}
use Rattle.tdl_gen.specs.Realises.{image_of, part_at}
use Rattle.tdl_gen.proofs.PartOrder.{parts-are}
use Rattle.tdl_meaning.specs.Accepted.{Accepted}
use Rattle.std.specs.List.{fold}
use Rattle.tdl_meaning.specs.NodeShape.{Ascends, first_part, Shape, shares, NodeShape, Shapes}
use Rattle.tdl_meaning.specs.AllItems.{Every}
use Rattle.tdl_image.specs.declared.stub.StubTask.{StubTask}
use Rattle.tdl_gen.proofs.PartCounts.{fold-from}

-- entries with their places for blocks, the first having place k
abbrev placed_from : ℕ → List Receive → List Receive
placed_from k es = numbered k (λ r (e : Receive). record e { block = r }) es

-- the block of the entry at a place is that place
block-at : (k n : ℕ) (es : List Receive) (e : Receive) → slice_get (placed_from k es) n ≡ Some e → e.block ≡ k + n
block-at k n [] e at = absurd (cc at)
block-at k zero (a ∷ es) e at =
    let q : k ≡ e.block = ap (λ o. unwrap_or (option_map (λ (b : Receive). b.block) o) k) at in omega (arith, q)
block-at k (suc n) (a ∷ es) e at = let r = block-at (suc k) n es e at in omega (arith, r)

-- so the block of each entry takes that entry
own-blocks : (es : List Receive) (n : ℕ) (e : Receive) → slice_get (placed_from 0 es) n ≡ Some e →
    slice_get (map (λ (a : Receive). take_block a.block) (placed_from 0 es)) e.block ≡ Some (take_block n)
own-blocks es n e at =
    let b : e.block ≡ n = let q = block-at 0 n es e at in omega (arith, q) in
    ap (slice_get (map (λ (a : Receive). take_block a.block) (placed_from 0 es))) b
    ∙ slice_get-map (λ (a : Receive). take_block a.block) (placed_from 0 es) n
    ∙ ap (option_map (λ (a : Receive). take_block a.block)) at ∙ ap (λ c. Some (take_block c)) b

module _ (given : Accepted) (node : ℕ) where
  -- the host of module n before instant 0
  abbrev host_at : ℕ → Module → Part
  host_at n m = host_first (hosted_of given.schedule n m)

  -- the stub of module n
  abbrev stub_at : ℕ → Module → Stub
  stub_at n m = stub_of given.program given.placement given.schedule n m

  -- the node's parts of modules, the first having number n
  abbrev parts_from : ℕ → List Module → List Part
  parts_from n ms = joined (numbered n (part_at given.program given.placement given.schedule node) ms)

  -- the counts of those it hosts
  abbrev hosted_counts : ℕ → List Module → List ℕ
  hosted_counts n ms = joined (numbered n (λ k m. if hosts given.placement node k then module_count m ∷ [] else []) ms)

  -- the stubs of those it imports
  abbrev stubs_from : ℕ → List Module → List Stub
  stubs_from n ms = joined (numbered n (λ k m. if not (hosts given.placement node k)
      && imports given.program given.placement node k then stub_at k m ∷ [] else []) ms)

  -- the parts of modules from number n on: their shapes, in ascending number, with the shares that are declared
  record First (n : ℕ) (ms : List Module) : Type 0 where
    each : Every (Shape given node) (parts_from n ms)
    up : Ascends n (parts_from n ms)
    count : shares given node (parts_from n ms) each ≡ sum (hosted_counts n ms) + sum (map stub_count (stubs_from n ms))
    firsts : map first_part (parts_from n ms) ≡ parts_from n ms

  -- what ascends from k on ascends from any number below
  lower : (n k : ℕ) (qs : List Part) → n ≤ k → Ascends k qs → Ascends n qs
  lower n k [] le up = tt
  lower n k (q ∷ qs) le up = let u = up.0 in (omega (arith, le, u), up.1)

  -- the part of module n, where it is hosted, or else imported
  abbrev part_if : ℕ → Module → Bool → Bool → List Part
  part_if n m hosted imported =
      if hosted then host_at n m ∷ [] else (if imported then stub_first (stub_at n m) ∷ [] else [])

  -- the same with one more module in front
  record Made (n : ℕ) (m : Module) (ms : List Module) (hosted imported : Bool) : Type 0 where
    each : Every (Shape given node) (part_if n m hosted imported ++ parts_from (suc n) ms)
    up : Ascends n (part_if n m hosted imported ++ parts_from (suc n) ms)
    count : shares given node (part_if n m hosted imported ++ parts_from (suc n) ms) each
        ≡ sum ((if hosted then module_count m ∷ [] else []) ++ hosted_counts (suc n) ms)
        + sum (map stub_count ((if not hosted && imported then stub_at n m ∷ [] else []) ++ stubs_from (suc n) ms))
    firsts : map first_part (part_if n m hosted imported ++ parts_from (suc n) ms)
        ≡ part_if n m hosted imported ++ parts_from (suc n) ms

  -- one more module keeps it
  made : (n : ℕ) (m : Module) (ms : List Module) → slice_get given.program.modules n ≡ Some m → First (suc n) ms →
      (hosted : Bool) → hosts given.placement node n ≡ hosted → (imported : Bool) → Made n m ms hosted imported
  made n m ms at rest true e imported =
      let sums = fold-from (0 + module_count m) (hosted_counts (suc n) ms) in
      let count = rest.count in
      record {
        each = (record { definition = m; there = at; tables = refl; hosted = e }, rest.each);
        up = (omega arith, rest.up);
        count = omega (arith, sums, count);
        firsts = ap (λ l. host_at n m ∷ l) rest.firsts;
      }
  made n m ms at rest false e true =
      let q : Stub = stub_at n m in
      let sums = fold-from (0 + stub_count q) (map stub_count (stubs_from (suc n) ms)) in
      let count = rest.count in
      let size = length-map (receives given.program given.placement given.schedule n m)
      (λ (a : Receive). record { copy = stub_initials q a.task; due = None }) in
      let outputs = length-map q.tasks (λ (k : StubTask). initial_values k.outputs) in
      record {
        each = (record { own = own-blocks _; size = sym size; outputs = sym outputs }, rest.each);
        up = (omega arith, rest.up);
        count = omega (arith, sums, count);
        firsts = ap (λ l. stub_first q ∷ l) rest.firsts;
      }
  made n m ms at rest false e false = record {
    each = rest.each;
    up = lower n (suc n) (parts_from (suc n) ms) (omega arith) rest.up;
    count = rest.count;
    firsts = rest.firsts;
  }

  -- the parts of the program's modules from number n on are so
  first : (n : ℕ) (ms : List Module) →
      ((j : ℕ) (m : Module) → slice_get ms j ≡ Some m → slice_get given.program.modules (n + j) ≡ Some m) → First n ms
  first n [] at = record { each = tt; up = tt; count = refl; firsts = refl }
  first n (m ∷ ms) at =
      let z : n ≡ n + 0 = omega arith in
      let rest = first (suc n) ms (λ j d e. let s : suc n + j ≡ n + suc j = omega arith in
      ap (slice_get given.program.modules) s ∙ at (suc j) d e) in
      let d = made n m ms (ap (slice_get given.program.modules) z ∙ at 0 m refl) rest
      (hosts given.placement node n) refl (imports given.program given.placement node n) in
      record { each = d.each; up = d.up; count = d.count; firsts = d.firsts }

  -- a node of the compiler's bundle has its shape
  node_shape : (n : PlacedNode) →
      NodeShape given node (node_first (image_of given.program given.placement given.schedule node n))
  node_shape n =
      let f = first 0 given.program.modules (λ j m e. let z : 0 + j ≡ j = omega arith in
      ap (slice_get given.program.modules) z ∙ e) in
      let count = f.count in
      let declared : ℕ = declared_of given.program given.placement given.schedule node in
      subst (λ ps. NodeShape given node (record { declared = declared; parts = ps; running = None }))
      (sym (parts-are given.program given.placement given.schedule node n))
      (record { each = f.each; up = f.up; enough = omega (arith, count); order = f.firsts })

-- so have all nodes of it
pub first_shapes : (given : Accepted) (k : ℕ) (ns : List PlacedNode) →
    Shapes given k (map node_first (numbered k (image_of given.program given.placement given.schedule) ns))
first_shapes given k [] = tt
first_shapes given k (n ∷ ns) = (node_shape given k n, first_shapes given (suc k) ns)
