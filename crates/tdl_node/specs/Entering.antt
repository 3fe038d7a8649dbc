-- A module without tasks, whose only block enters its only mode.
use Rattle.std.specs.Prelude.{◌≡◌, ℕ, Bool, true, false, codes, List, [], ◌∷◌, Option, Some, None}
use Rattle.tdl_ecode.specs.declared.instr.EInstr.TheVariants.{Mode, Return}
use Rattle.tdl_image.specs.declared.hosted.Hosted.{Hosted}
use Rattle.tdl_image.specs.declared.bundle.Bundle.{Bundle}
use Rattle.tdl_verify.specs.States.{Part, Trigger}

-- its tables
abbrev pub entering_host : Hosted
entering_host = record {
  number = record { 0 = 0 };
  name = codes "P";
  sensors = [];
  actuators = [];
  tasks = [];
  modes = codes "main" ∷ [];
  calls = [];
  releases = [];
  guards = [];
  drivers = [];
  windows = [];
  blocks = record { phase = 3; code = Mode 0 ∷ Return ∷ [] } ∷ [];
  entry = 0;
}

-- the bundle of one node that hosts it
abbrev pub entering_bundle : Bundle
entering_bundle =
    record { images = record { node = codes "n1"; declared = 2; hosted = entering_host ∷ []; stubs = [] } ∷ [] }

-- its mode: none before it is entered
abbrev pub mode_once : Bool → Option ℕ
mode_once false = None
mode_once true = Some 0

-- its trigger: at instant 0 before the mode is entered, and none after that
abbrev pub trigger_once : Bool → Option Trigger
trigger_once false = Some (record { at = 0; block = 0 })
trigger_once true = None

-- the module before and after the entry of its mode
abbrev pub entering_parts : Bool → List Part
entering_parts has_entered = Part.Host entering_host (record {
  mode = mode_once has_entered;
  base = 0;
  trigger = trigger_once has_entered;
  tasks = [];
  actuators = [];
}) ∷ []

-- before the mode is entered the next instant is 0
abbrev pub IsFirstDue : Bool → ℕ → Type 0
IsFirstDue false at = at ≡ 0
IsFirstDue true at = Unit {0}
