-- Parts without a window on the bus send nothing.
use Rattle.std.proofs.Common.{◌≡◌, ℕ, false, List, [], ◌∷◌, filter, flat_map, map, refl, ap, All}
use Rattle.std.proofs.lemmas.List.Elements.{All-head, All-tail}
use Rattle.tdl_image.specs.declared.hosted.ImageWindow.{ImageWindow}
use Rattle.tdl_verify.specs.States.{HostNow, Part}
use Rattle.tdl_verify.specs.Bus.{starts_at, start_of, starts}
use Rattle.tdl_node.specs.Machines.{IsPartOffBus, IsOffBus}

no_window_starts : (x : ℕ) (s : HostNow) (windows : List ImageWindow) →
    All (λ (w : ImageWindow). w.bus ≡ false) windows →
    filter (starts_at x s) windows ≡ []
no_window_starts x s [] off = refl
no_window_starts x s (w ∷ windows) off =
    rw (All-head (λ (w : ImageWindow). w.bus ≡ false) w windows off)
    (no_window_starts x s windows (All-tail (λ (w : ImageWindow). w.bus ≡ false) w windows off))

part_starts : (x : ℕ) (p : Part) → IsPartOffBus p → starts x p ≡ []
part_starts x (Part.Host h s) off = ap (map (start_of h s)) (no_window_starts x s h.windows off)
part_starts x (Part.Outside p s) off = refl

-- nothing starts
pub nothing_starts : (x : ℕ) (parts : List Part) → IsOffBus parts → flat_map (starts x) parts ≡ []
nothing_starts x [] off = refl
nothing_starts x (p ∷ parts) off =
    rw (
      part_starts x p (All-head IsPartOffBus p parts off),
      nothing_starts x parts (All-tail IsPartOffBus p parts off),
    ) refl
