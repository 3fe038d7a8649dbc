-- What a sink holds after several puts.
use Rattle.std.proofs.Common.{ℕ, List, [], ◌++◌, length, Option, Some, None, refl, ap, sym, ◌∙◌, append_assoc, append-nil, length-append, arith, ◌≤◌}
use Rattle.std.proofs.Math.Seq.{take-append-add}
use Rattle.std.proofs.lemmas.List.{take-append-le, length-take}
use Rattle.tdl_io.specs.Outside.{IsPart, Appends, AppendsPart}

pub appends_none : (held : Option (List ℕ)) → Appends held held []
appends_none None = tt
appends_none (Some bytes) = sym (append-nil bytes)

-- two puts
pub appends_more : (a b c : Option (List ℕ)) (xs ys : List ℕ) → Appends a b xs → Appends b c ys → Appends a c (xs ++ ys)
appends_more None b c xs ys h g = tt
appends_more (Some a) None c xs ys h g = absurd h
appends_more (Some a) (Some b) None xs ys h g = absurd g
appends_more (Some a) (Some b) (Some c) xs ys h g = g ∙ ap (λ (z : List ℕ). z ++ ys) h ∙ append_assoc a xs ys

part_longer : (xs part ys : List ℕ) → IsPart part ys → IsPart (xs ++ part) (xs ++ ys)
part_longer xs part ys h = rw (length-append, take-append-add) (ap (λ (z : List ℕ). xs ++ z) h)

part_fits : (part xs : List ℕ) → IsPart part xs → length part ≤ length xs
part_fits part xs h = omega (arith, ap length h, length-take (length part) xs)

part_of_more : (part xs ys : List ℕ) → IsPart part xs → IsPart part (xs ++ ys)
part_of_more part xs ys h = let fits = part_fits part xs h in take-append-le (length part) xs ys fits ∙ h

-- a put, and one that fails
pub part_more : (a b c : Option (List ℕ)) (xs ys : List ℕ) → Appends a b xs → AppendsPart b c ys →
    AppendsPart a c (xs ++ ys)
part_more a b c xs ys h p = (xs ++ p.0, part_longer xs p.0 ys p.1, appends_more a b c xs p.0 h p.2)

-- a part of a text is a part of a longer one
pub part_wider : (a b : Option (List ℕ)) (xs ys : List ℕ) → AppendsPart a b xs → AppendsPart a b (xs ++ ys)
part_wider a b xs ys p = (p.0, part_of_more p.0 xs ys p.1, p.2)

-- nothing is a part of any text
pub part_none : (held : Option (List ℕ)) (ys : List ℕ) → AppendsPart held held ys
part_none held ys = ([], refl, appends_none held)
