-- The parts of the compiler's nodes before instant 0: which module each is of, and that its tables are the compiler's.
use Rattle.std.proofs.Common.{◌≡◌, ℕ, suc, ◌+◌, ◌<◌, ℤ, List, [], ◌∷◌, ◌++◌, map, Bool, true, false, Some, None, refl, ap, sym, ◌∙◌, subst, arith}
use Rattle.std.specs.Prelude.{slice_get, if◌then◌else◌}
use Rattle.tdl_base.specs.Lists.{joined, numbered}
use Rattle.tdl_mode.specs.declared.program.Module.{Module}
use Rattle.tdl_mode.specs.States.{ModuleState, invocation_of}
use Rattle.tdl_deploy.specs.declared.placement.PlacedNode.{PlacedNode}
use Rattle.tdl_deploy.specs.Placed.{hosts, imports}
use Rattle.tdl_image.specs.declared.hosted.Hosted.{Hosted}
use Rattle.tdl_image.specs.declared.hosted.ImageWindow.{ImageWindow}
use Rattle.tdl_image.specs.declared.stub.Stub.{Stub}
use Rattle.tdl_image.specs.declared.stub.Receive.{Receive}
use Rattle.tdl_verify.specs.States.{HostNow, StubNow, Part, NodeNow, host_first, stub_first, stub_initials, node_first}
use Rattle.tdl_gen.specs.Tables.{hosted_of, stub_of}
use Rattle.tdl_gen.specs.Realises.{image_of, part_at}
use Rattle.tdl_gen.proofs.PartOrder.{parts-are}
use Rattle.tdl_meaning.specs.Accepted.{Accepted}
use Rattle.tdl_meaning.specs.Entries.{EntryFact, Got}
use Rattle.tdl_meaning.specs.BusTables.{WellReceive, Sender}
use Rattle.tdl_meaning.specs.AllItems.{AllEntries, AllNodes, Every}

module _ (given : Accepted) where
  -- a host of node j before instant 0: the compiler's, of a module that the node hosts
  pub record HostAt (j : ℕ) (h : Hosted) (s : HostNow) : Type 0 where
    pub definition : Module
    pub there : slice_get given.program.modules h.number.0 ≡ Some definition
    pub is : Part.Host h s ≡ host_first (hosted_of given.schedule h.number.0 definition)
    pub tables : h ≡ hosted_of given.schedule h.number.0 definition
    pub hosted : hosts given.placement j h.number.0 ≡ true

  -- a stub of node j before instant 0: the compiler's, of a module that the node imports and does not host
  pub record StubAt (j : ℕ) (q : Stub) (t : StubNow) : Type 0 where
    pub definition : Module
    pub there : slice_get given.program.modules q.number.0 ≡ Some definition
    pub is : Part.Outside q t ≡ stub_first q
    pub entries : t.entries ≡ map (λ (e : Receive). record { copy = stub_initials q e.task; due = None }) q.entries
    pub tables : q ≡ stub_of given.program given.placement given.schedule q.number.0 definition
    pub away : hosts given.placement j q.number.0 ≡ false
    pub near : imports given.program given.placement j q.number.0 ≡ true

  -- a part of node j before instant 0
  abbrev pub PartAt : ℕ → Part → Type 0
  PartAt j (Part.Host h s) = HostAt j h s
  PartAt j (Part.Outside q t) = StubAt j q t

  -- the compiler's parts of node j for these modules, the first having number n
  abbrev parts_from : ℕ → ℕ → List Module → List Part
  parts_from j n ms = joined (numbered n (part_at given.program given.placement given.schedule j) ms)

  -- they are such
  pub parts_at : (j n : ℕ) (ms : List Module) →
      ((i : ℕ) (m : Module) → slice_get ms i ≡ Some m → slice_get given.program.modules (n + i) ≡ Some m) →
      Every (PartAt j) (joined (numbered n (part_at given.program given.placement given.schedule j) ms))
  parts_at j n [] at = tt
  parts_at j n (m ∷ ms) at =
      let z : n ≡ n + 0 = omega arith in
      by_test (parts_at j (suc n) ms (λ i d e. let s : suc n + i ≡ n + suc i = omega arith in
      ap (slice_get given.program.modules) s ∙ at (suc i) d e)) (ap (slice_get given.program.modules) z ∙ at 0 m refl)
      (hosts given.placement j n) refl (imports given.program given.placement j n) refl
    where
      by_test : Every (PartAt j) (parts_from j (suc n) ms) → slice_get given.program.modules n ≡ Some m →
          (b : Bool) → hosts given.placement j n ≡ b → (c : Bool) → imports given.program given.placement j n ≡ c →
          Every (PartAt j) ((if b then host_first (hosted_of given.schedule n m) ∷ [] else
          (if c then stub_first (stub_of given.program given.placement given.schedule n m) ∷ [] else []))
          ++ parts_from j (suc n) ms)
      by_test rest there true e c f =
          (record { definition = m; there = there; is = refl; tables = refl; hosted = e }, rest)
      by_test rest there false e true f = (
        record { definition = m; there = there; is = refl; entries = refl; tables = refl; away = e; near = f },
        rest,
      )
      by_test rest there false e false f = rest

  -- all parts of node j are such
  abbrev pub NodeAt : ℕ → NodeNow → Type 0
  NodeAt j n = Every (PartAt j) n.parts

  -- those of the compiler's image are
  node_at : (j : ℕ) (n : PlacedNode) →
      NodeAt j (node_first (image_of given.program given.placement given.schedule j n))
  node_at j n =
      subst (Every (PartAt j)) (sym (parts-are given.program given.placement given.schedule j n))
      (parts_at j 0 given.program.modules (λ i m e. let z : 0 + i ≡ i = omega arith in
      ap (slice_get given.program.modules) z ∙ e))

  -- the same of all nodes, the first having number k
  abbrev pub NodesAt : ℕ → List NodeNow → Type 0
  NodesAt = AllNodes NodeAt

  -- those of the compiler's bundle are such
  pub nodes_at : (k : ℕ) (ns : List PlacedNode) →
      NodesAt k (map node_first (numbered k (image_of given.program given.placement given.schedule) ns))
  nodes_at k [] = tt
  nodes_at k (n ∷ ns) = (node_at k n, nodes_at (suc k) ns)

-- entries without a trigger wait for nothing
pub none_waits : (m : Module) (x : ℕ) (r : ModuleState) (copy : Receive → List ℤ) (es : List Receive) →
    AllEntries (EntryFact m x r) es (map (λ (e : Receive). record { copy = copy e; due = None }) es)
none_waits m x r copy [] = tt
none_waits m x r copy (e ∷ es) = ((λ at is. absurd (cc is)), none_waits m x r copy es)

-- at instant 0 no frame has arrived
pub none_got : (gone : ℕ → Type 0) (m : Module) (r : ModuleState) (ws : List ImageWindow) (copy : Receive → List ℤ)
    (es : List Receive) → ((n : ℕ) (e : Receive) → slice_get es n ≡ Some e → WellReceive m ws e) →
    ((n : ℕ) (e : Receive) → slice_get es n ≡ Some e → Sender m ws e) →
    AllEntries (Got gone m 1 1 r) es (map (λ (e : Receive). record { copy = copy e; due = None }) es)
none_got gone m r ws copy [] wells senders = tt
none_got gone m r ws copy (e ∷ es) wells senders =
    (here, none_got gone m r ws copy es (λ n. wells (suc n)) (λ n. senders (suc n)))
  where
    here : Got gone m 1 1 r e (record { copy = copy e; due = None })
    here a mode inv arrived =
        let v = senders 0 e refl in
        let km : slice_get m.modes e.mode ≡ Some a.mode = ap (slice_get m.modes) mode ∙ a.mode_at in
        let ni : invocation_of a.mode.invocations e.invocation ≡ Some a.invocation =
        ap (invocation_of a.mode.invocations) inv ∙ a.at in
        let d = (wells 0 e refl a.mode a.invocation v.place v.window km ni v.at v.bus v.mode' v.invocation).1 in
        let b = v.begins a.mode a.invocation km ni in
        let early : r.base + a.invocation.e.0 < 1 + e.delta = arrived in
        absurd (omega (arith, d, b, early))
