-- What stays of a node: its tables, the order of its parts, and a declared count that is enough for them.
use Rattle.tdl_gen.specs.Realises.{part_at}
use Rattle.tdl_gen.specs.Takes.{OwnBlocks}
use Rattle.std.specs.Prelude.{List, Some, [], length, map, slice_get, suc, true, ℕ, ◌+◌, ◌∷◌, ◌≡◌, ◌≤◌}
use Rattle.tdl_base.specs.Lists.{joined, numbered}
use Rattle.tdl_deploy.specs.Placed.{hosts}
use Rattle.tdl_gen.specs.Counts.{module_count, stub_count}
use Rattle.tdl_gen.specs.Tables.{hosted_of}
use Rattle.tdl_image.specs.declared.hosted.Hosted.{Hosted}
use Rattle.tdl_image.specs.declared.stub.Stub.{Stub}
use Rattle.tdl_meaning.specs.Accepted.{Accepted}
use Rattle.tdl_meaning.specs.AllItems.{AllNodes, Every}
use Rattle.tdl_mode.specs.declared.program.Module.{Module}
use Rattle.tdl_verify.specs.States.{NodeNow, Part, StubNow, host_first, part_number, stub_first}

-- part numbers ascend, from n on
abbrev pub Ascends : ℕ → List Part → Type 0
Ascends n [] = Unit {0}
Ascends n (q ∷ qs) = (n ≤ part_number q) × Ascends (suc (part_number q)) qs

-- a part as it was before instant 0
abbrev pub first_part : Part → Part
first_part (Part.Host h s) = host_first h
first_part (Part.Outside q t) = stub_first q

-- the entries of a stub have blocks of their own, and a state each; its tasks have outputs each
pub record StubShape (q : Stub) (t : StubNow) : Type 0 where
  pub own : OwnBlocks q
  pub size : length q.entries ≡ length t.entries
  pub outputs : length q.tasks ≡ length t.outputs

module _ (given : Accepted) where
  -- the parts of node j are those of the compiler, in their order
  abbrev pub Ordered : ℕ → List Part → Type 0
  Ordered j qs = map first_part qs
      ≡ joined (numbered 0 (part_at given.program given.placement given.schedule j) given.program.modules)

  -- a host of node j has the compiler's tables of a module that the node hosts
  pub record HostShape (j : ℕ) (h : Hosted) : Type 0 where
    pub definition : Module
    pub there : slice_get given.program.modules h.number.0 ≡ Some definition
    pub tables : h ≡ hosted_of given.schedule h.number.0 definition
    pub hosted : hosts given.placement j h.number.0 ≡ true

  -- what stays of a part of node j
  abbrev pub Shape : ℕ → Part → Type 0
  Shape j (Part.Host h s) = HostShape j h
  Shape j (Part.Outside q t) = StubShape q t

  -- the share of a part in its node's declared count
  abbrev pub share : (j : ℕ) (q : Part) → Shape j q → ℕ
  share j (Part.Host h s) g = module_count g.definition
  share j (Part.Outside q t) g = stub_count q

  -- the shares of all parts
  abbrev pub shares : (j : ℕ) (qs : List Part) → Every (Shape j) qs → ℕ
  shares j [] gs = 0
  shares j (q ∷ qs) gs = share j q gs.0 + shares j qs gs.1

  -- what stays of node j: its parts in ascending number, within the declared count, in the compiler's order
  pub record NodeShape (j : ℕ) (n : NodeNow) : Type 0 where
    pub each : Every (Shape j) n.parts
    pub up : Ascends 0 n.parts
    pub enough : shares j n.parts each ≤ n.declared
    pub order : Ordered j n.parts

  -- what stays of all nodes, the first having number k
  abbrev pub Shapes : ℕ → List NodeNow → Type 0
  Shapes = AllNodes NodeShape
