-- What reading a bundle answers.
use Rattle.std.specs.Prelude.{◌≡◌, ◌⊎◌, ℕ, Result, Ok, Err}
use Rattle.tdl_decode.specs.declared.fault.BundleError.{BundleError}
use Rattle.tdl_decode.specs.declared.fault.BundleError.TheVariants.{BadBundle, NoMemory}

-- P holds of the rule and the place of a fault that was answered
abbrev pub IfBad : {X : Type 0} → Result X BundleError → (ℕ → ℕ → Type 0) → Type 0
IfBad (Ok x) P = Unit {0}
IfBad (Err (BadBundle rule at)) P = P rule at
IfBad (Err NoMemory) P = Unit {0}

-- the result is this answer, or memory was wanting
abbrev pub OrNoMemory : {X : Type 0} → Result X BundleError → Result X BundleError → Type 0
OrNoMemory answer result = (result ≡ answer) ⊎ (result ≡ Err NoMemory)
