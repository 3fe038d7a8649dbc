-- Nodes that import a module that they do not host.
use Rattle.std.specs.Prelude.{ℕ, Bool, not, ◌&&◌}
use Rattle.std.specs.List.{list_any}
use Rattle.tdl_mode.specs.Imports.{is_among, imports_of}
use Rattle.tdl_mode.specs.declared.program.Program.{Program}
use Rattle.tdl_deploy.specs.declared.placement.PlacedNode.{PlacedNode}

-- the node does not host module m, and some module on it imports m directly
abbrev pub imports_afar : Program → ℕ → PlacedNode → Bool
imports_afar program m node =
    not (is_among m node.modules) && list_any (λ h. is_among m (imports_of program h.0)) node.modules
