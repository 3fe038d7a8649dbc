-- What a sink holds after several puts.
use Rattle.std.proofs.Common.{ℕ, ◌≤◌, List, ◌++◌, length, Option, None, Some, arith, ap, ◌∙◌, append_assoc}
use Rattle.std.proofs.lemmas.List.{length-take, length-append, take-append-le}
use Rattle.std.proofs.Math.Seq.{take-append-add}
use Rattle.tdl_io.specs.Outside.{IsPart, Appends, AppendsPart}

-- a part is no longer than the bytes that it begins
pub part_length : (part bytes : List ℕ) → IsPart part bytes → length part ≤ length bytes
part_length part bytes is = omega (arith, simp length-take at (ap length is))

-- bytes that were appended one after the other
pub appends_then : (before mid now : Option (List ℕ)) (first second : List ℕ) → Appends before mid first →
    Appends mid now second → Appends before now (first ++ second)
appends_then None mid now first second early late = tt
appends_then (Some before) None now first second early late = absurd early
appends_then (Some before) (Some mid) None first second early late = absurd late
appends_then (Some before) (Some mid) (Some now) first second early late =
    late ∙ ap (λ xs. xs ++ second) early ∙ append_assoc before first second

-- a part of the bytes is a part of more bytes
pub part_of_more : (part bytes more : List ℕ) → IsPart part bytes → IsPart part (bytes ++ more)
part_of_more part bytes more is = take-append-le (length part) bytes more (part_length part bytes is) ∙ is

-- bytes, and then a part of more bytes
pub part_after : (front part bytes : List ℕ) → IsPart part bytes → IsPart (front ++ part) (front ++ bytes)
part_after front part bytes is =
    rw length-append (take-append-add front bytes (length part) ∙ ap (λ xs. front ++ xs) is)

-- bytes that were appended, and then a part of more bytes
pub appends_then_part : (before mid now : Option (List ℕ)) (first second : List ℕ) → Appends before mid first →
    AppendsPart mid now second → AppendsPart before now (first ++ second)
appends_then_part before mid now first second early late =
    (first ++ late.0, part_after first late.0 second late.1, appends_then before mid now first late.0 early late.2)
