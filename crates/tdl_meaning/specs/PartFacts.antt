-- What is known of the parts of all nodes before an instant, after delivery, and after the turns.
use Rattle.std.specs.Prelude.{List, Some, slice_get, suc, ℕ, ◌<◌, ◌≡◌}
use Rattle.tdl_image.specs.declared.hosted.Hosted.{Hosted}
use Rattle.tdl_image.specs.declared.stub.Stub.{Stub}
use Rattle.tdl_meaning.specs.Accepted.{Accepted}
use Rattle.tdl_meaning.specs.AllItems.{AllEntries}
use Rattle.tdl_meaning.specs.BusTables.{HostTables, StubTables}
use Rattle.tdl_meaning.specs.Entries.{EntryFact, Got}
use Rattle.tdl_meaning.specs.HostInStep.{HostAfter, HostFacts}
use Rattle.tdl_mode.specs.States.{ModuleState}
use Rattle.tdl_mode.specs.declared.program.Module.{Module}
use Rattle.tdl_verify.specs.States.{HostNow, Part, StubNow}

module _ (given : Accepted) where
  -- what is known of a hosted module before x
  pub record HostBefore (x : ℕ) (logic : ℕ → ModuleState) (h : Hosted) (s : HostNow) : Type 0 where
    pub tables : HostTables given h
    pub facts : HostFacts tables.definition h x (logic h.number.0) s

  -- what is known of a hosted module after its turn at x
  pub record HostAfterTurn (x : ℕ) (logic : ℕ → ModuleState) (h : Hosted) (s : HostNow) : Type 0 where
    pub tables : HostTables given h
    pub facts : HostAfter tables.definition h x (logic h.number.0) s

  -- the host of a module
  pub record Owner (parts : List Part) (kk : ℕ) : Type 0 where
    pub place : ℕ
    pub host : Hosted
    pub state : HostNow
    pub at : slice_get parts place ≡ Some (Part.Host host state)
    pub number : host.number.0 ≡ kk

  -- P holds of all parts; no two host one module, and each module is hosted
  pub record Parts (P : Part → Type 0) (parts : List Part) : Type 0 where
    pub each : (n : ℕ) (q : Part) → slice_get parts n ≡ Some q → P q
    pub once : (i j : ℕ) (h h' : Hosted) (s s' : HostNow) → i < j → slice_get parts i ≡ Some (Part.Host h s) →
        slice_get parts j ≡ Some (Part.Host h' s') → h.number.0 ≡ h'.number.0 → ⊥
    pub hosted : (kk : ℕ) (m : Module) → slice_get given.program.modules kk ≡ Some m → Owner parts kk

  module _ (gone : ℕ → ℕ → Type 0) where
    -- what is known of a stub: what its entries hold, and that what arrived before y is there or gone
    pub record StubFacts (y x : ℕ) (logic : ℕ → ModuleState) (q : Stub) (t : StubNow) : Type 0 where
      pub tables : StubTables given q
      pub facts : AllEntries (EntryFact tables.definition x (logic q.number.0)) q.entries t.entries
      pub gots : AllEntries (Got (gone q.number.0) tables.definition y x (logic q.number.0)) q.entries t.entries

    -- what is known of a part before x
    abbrev pub PartBefore : ℕ → (ℕ → ModuleState) → Part → Type 0
    PartBefore x logic (Part.Host h s) = HostBefore x logic h s
    PartBefore x logic (Part.Outside q t) = StubFacts x x logic q t

    -- what is known of a part after its turn at x
    abbrev pub PartAfterTurn : ℕ → (ℕ → ModuleState) → Part → Type 0
    PartAfterTurn x logic (Part.Host h s) = HostAfterTurn x logic h s
    PartAfterTurn x logic (Part.Outside q t) = StubFacts (suc x) (suc x) logic q t

    module _ (x : ℕ) (logic : ℕ → ModuleState) where
      -- a host is as it was before the instant; a stub has the copy of each frame that was to end at x, unless it
      -- is gone
      abbrev pub PartLanded : Part → Type 0
      PartLanded (Part.Host h s) = HostBefore x logic h s
      PartLanded (Part.Outside q t) = StubFacts (suc x) x logic q t
