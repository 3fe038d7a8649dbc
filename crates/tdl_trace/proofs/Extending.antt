-- Bytes to which more are put.
use Rattle.std.proofs.Common.{◌≡◌, ◌++◌, ◌≤◌, ℕ, List, length, take, ap, sym, ◌∙◌, arith, append_assoc}
use Rattle.std.proofs.lemmas.List.{take-take, length-take}
use Rattle.tdl_trace.specs.Extended.{Extends}

-- there is room for the first bytes
first_fits : (a b : List ℕ) → Extends a b → length a ≤ length b
first_fits a b h = omega (arith, ap length h.is, length-take (length a) b)

-- more is put, and then more
pub and_more : (a b c : List ℕ) → Extends a b → Extends b c → Extends a c
and_more a b c h g = record {
  is =
      let fits : length a ≤ length b = first_fits a b h in
      sym (take-take (length a) (length b) c fits) ∙ ap (take (length a)) g.is ∙ h.is;
}

-- what four parts put after one another: a head with a module's name, two names after their dots, and an end
pub in_order : (a h m p n b q o c w d s t u v : List ℕ) →
    s ≡ (a ++ h) ++ m → n ≡ b → t ≡ (s ++ p) ++ n → o ≡ c → u ≡ (t ++ q) ++ o → v ≡ u ++ w → w ≡ d →
    v ≡ a ++ ((((((h ++ m) ++ p) ++ b) ++ q) ++ c) ++ d)
in_order a h m p n b q o c w d s t u v first name second other third last end =
    last ∙ ap (λ x. x ++ w) (third ∙ ap (λ x. (x ++ q) ++ o) (second ∙ ap (λ x. (x ++ p) ++ n) first))
    ∙ simp (append_assoc) (ap (λ x. a ++ (h ++ (m ++ (p ++ (x ++ (q ++ (o ++ w))))))) name
    ∙ ap (λ x. a ++ (h ++ (m ++ (p ++ (b ++ (q ++ (x ++ w))))))) other
    ∙ ap (λ x. a ++ (h ++ (m ++ (p ++ (b ++ (q ++ (c ++ x))))))) end)
