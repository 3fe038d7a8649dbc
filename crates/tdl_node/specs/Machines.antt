-- Bundles of one hosted module, and the words that a machine's calls use.
use Rattle.std.specs.Prelude.{◌≡◌, ℕ, false, List, [], ◌∷◌, map, filter, All, None}
use Rattle.tdl_trace.specs.declared.why.Why.{Why}
use Rattle.tdl_image.specs.declared.bundle.Bundle.{Bundle}
use Rattle.tdl_image.specs.declared.hosted.Hosted.{Hosted}
use Rattle.tdl_image.specs.declared.hosted.ImageWindow.{ImageWindow}
use Rattle.tdl_verify.specs.States.{Part, node_first}
use Rattle.tdl_verify.specs.Turns.{Turned}
use Rattle.tdl_verify.specs.Runs.{is_plain}
use Rattle.tdl_node.specs.declared.machine.Stop.{Stop}
use Rattle.tdl_node.specs.declared.machine.Stop.TheVariants as stop

-- the bundle has one node, which hosts one module, has no stub and sends no frame
pub record IsOneHost (b : Bundle) : Type 0 where
  pub node : List ℕ
  pub declared : ℕ
  pub host : Hosted
  pub is : b ≡ record { images = record { node = node; declared = declared; hosted = host ∷ []; stubs = [] } ∷ [] }
  pub off_bus : All (λ (w : ImageWindow). w.bus ≡ false) host.windows

-- a turn without its log lines
abbrev pub plain_turned : Turned → Turned
plain_turned (Turned.Finished parts rows) = Turned.Finished parts (filter is_plain rows)
plain_turned (Turned.Trapped reason) = Turned.Trapped reason

-- a part has no window on the bus
abbrev pub IsPartOffBus : Part → Type 0
IsPartOffBus (Part.Host h s) = All (λ (w : ImageWindow). w.bus ≡ false) h.windows
IsPartOffBus (Part.Outside p s) = Unit {0}

-- no part has a window on the bus
abbrev pub IsOffBus : List Part → Type 0
IsOffBus parts = All IsPartOffBus parts

-- where a machine trapped, this holds of the trap
abbrev pub IsTrap : (Why → Type 0) → Stop → Type 0
IsTrap says (stop.Trapped reason) = says reason
IsTrap says stop.NoMemory = Unit {0}

-- where a machine trapped, it was this trap, and this holds
abbrev pub IsTrapOf : Why → Type 0 → Stop → Type 0
IsTrapOf reason holds (stop.Trapped other) = (other ≡ reason) × holds
IsTrapOf reason holds stop.NoMemory = Unit {0}

-- the machine stands where the bundle begins: its one node has these parts and this count
abbrev pub IsBegun : Bundle → ℕ → List Part → Type 0
IsBegun b declared parts = map node_first b.images ≡ record { declared = declared; parts = parts; running = None } ∷ []
