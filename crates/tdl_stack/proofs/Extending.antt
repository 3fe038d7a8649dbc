-- Bytes to which more are put.
use Rattle.std.proofs.Common.{◌≤◌, ℕ, List, length, take, ap, sym, ◌∙◌, arith}
use Rattle.std.proofs.lemmas.List.{take-take, length-take}
use Rattle.tdl_stack.specs.Texts.{Extends}

-- there is room for the first bytes
first_fits : (a b : List ℕ) → Extends a b → length a ≤ length b
first_fits a b h = omega (arith, ap length h.is, length-take (length a) b)

-- more is put, and then more
pub and_more : (a b c : List ℕ) → Extends a b → Extends b c → Extends a c
and_more a b c h g = record {
  is =
      let fits : length a ≤ length b = first_fits a b h in
      sym (take-take (length a) (length b) c fits) ∙ ap (take (length a)) g.is ∙ h.is;
}
