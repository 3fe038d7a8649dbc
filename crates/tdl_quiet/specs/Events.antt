-- When a module is called, and the next event of all modules.
use Rattle.std.specs.Prelude.{◌≡◌, ℕ, suc, ◌+◌, ◌-◌, ◌<◌, min, Bool, true, false, ◌==◌, List, [], ◌∷◌, Some, option_map, unwrap_or, slice_get}
use Rattle.std.specs.List.{list_any}
use Rattle.tdl_mode.specs.Offsets.{offset_list, next_offset}
use Rattle.tdl_mode.specs.States.{ModuleState, State, present}

-- the offsets of the mode that a module is in
abbrev pub offsets_now : ModuleState → List ℕ
offsets_now m = unwrap_or (option_map offset_list (present m)) []

-- the module is called at x: an offset of its mode falls on x in its present cycle
abbrev pub is_called : ℕ → ModuleState → Bool
is_called x m = list_any (λ o. m.base + o == x) (offsets_now m)

-- where the next offset after x falls in the present cycle; without a mode, the instant after x
abbrev pub next_of : ModuleState → ℕ → ℕ
next_of m x = unwrap_or (option_map (λ mode. m.base + next_offset mode (x - m.base)) (present m)) (suc x)

-- the earliest of these over all modules; without a module, the instant after x
abbrev pub next_event : State → ℕ → ℕ
next_event [] x = suc x
next_event (m ∷ []) x = next_of m x
next_event (m ∷ n ∷ more) x = min (next_of m x) (next_event (n ∷ more) x)

-- n is the first instant after x at which the module is called, as long as its cycle lasts
pub record IsNextCall (m : ModuleState) (x n : ℕ) : Type 0 where
  pub called : is_called n m ≡ true
  pub above : x < n
  pub none : (y : ℕ) → x < y → y < n → is_called y m ≡ false

-- n is the first instant after x at which some module of the state is called
pub record IsNextEvent (state : State) (x n : ℕ) : Type 0 where
  pub place : ℕ
  pub item : ModuleState
  pub at : slice_get state place ≡ Some item
  pub called : is_called n item ≡ true
  pub above : x < n
  pub none : (k y : ℕ) (m : ModuleState) → slice_get state k ≡ Some m → x < y → y < n → is_called y m ≡ false
