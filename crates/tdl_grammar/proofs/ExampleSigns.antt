-- The signs of the example.
use Rattle.std.proofs.Common.{◌≡◌, Bool, true, not, List, [], ◌∷◌}
use Rattle.tdl_grammar.specs.declared.signs.Sign.{Sign}
use Rattle.tdl_grammar.specs.declared.signs.Sign.TheVariants as sign
use Rattle.tdl_grammar.specs.Goodness.{Apart, Within}
use Rattle.tdl_grammar.proofs.Tests.{Covers, all_true, implies, at_true, apart_by, within_by}

-- a test at each sign
abbrev pub values : (Sign → Bool) → List Bool
values f = f sign.One ∷ f sign.Two ∷ f sign.Plus ∷ f sign.Comma ∷ f sign.Semicolon ∷ f sign.Open ∷ f sign.Close ∷
    f sign.Begin ∷ f sign.End ∷ f sign.Minus ∷ []

-- there are no other signs
covers : Covers values
covers f e sign.One = at_true (values f) 0 e
covers f e sign.Two = at_true (values f) 1 e
covers f e sign.Plus = at_true (values f) 2 e
covers f e sign.Comma = at_true (values f) 3 e
covers f e sign.Semicolon = at_true (values f) 4 e
covers f e sign.Open = at_true (values f) 5 e
covers f e sign.Close = at_true (values f) 6 e
covers f e sign.Begin = at_true (values f) 7 e
covers f e sign.End = at_true (values f) 8 e
covers f e sign.Minus = at_true (values f) 9 e

-- no sign is in both, by computing
pub apart : (goes starts : Sign → Bool) → all_true (values (λ j. implies (starts j) (not (goes j)))) ≡ true →
    Apart goes starts
apart = apart_by values covers

-- each sign of the one is one of the other, by computing
pub within : (s s' : Sign → Bool) → all_true (values (λ j. implies (s j) (s' j))) ≡ true → Within s s'
within = within_by values covers
