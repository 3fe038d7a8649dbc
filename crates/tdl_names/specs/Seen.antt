-- What the code holds by reference.
use Rattle.std.specs.Prelude.{ℕ, Option, option_map}
use denote.Ref.{Bor}
use Rattle.tdl_names.specs.declared.meanings.Meant.{Meant}
use Rattle.tdl_names.specs.declared.meanings.Meant.TheVariants as code
use Rattle.tdl_rules.specs.Naming.{Meaning, Imported, Says}

-- the meaning that is held by reference
abbrev pub seen : Meant → Meaning
seen code.Imported = Imported
seen (code.Says number decl) = Says number decl

-- an item with its number, that is held by reference
abbrev pub held : {A : Type 0} → Option (ℕ × Bor A) → Option (ℕ × A)
held o = option_map (λ e. (e.0, e.1.now)) o
