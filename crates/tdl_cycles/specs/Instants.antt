-- The offsets of a mode as instants, in order of the text.
use Rattle.std.specs.Prelude.{List, [], ◌∷◌, ◌++◌, map}
use Rattle.tdl_base.specs.declared.numbers.Us.{Us}
use Rattle.tdl_mode.specs.declared.program.Mode.{Mode}

-- 0, the period, the start and the end of each invocation, each update, each switch
abbrev pub instants_of : Mode → List Us
instants_of mode =
    record { 0 = 0 } ∷ mode.period ∷ []
    ++ map (λ i. i.s) mode.invocations
    ++ map (λ i. i.e) mode.invocations
    ++ map (λ u. u.at) mode.updates
    ++ map (λ s. s.at) mode.switches
