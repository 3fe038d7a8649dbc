-- The number beside a key, by the key's place.
use Rattle.std.proofs.Common.{◌≡◌, ℕ, suc, ◌+◌, ◌∷◌, [], List, ℤ, pos, Bool, true, false, not, cond, nat_lt, length, position, Option, Some, None, slice_index_or, refl, ap, sym, ◌∙◌, arith, if◌then◌else◌}
use Rattle.std.specs.List.{position_or_len}
use Rattle.std.proofs.lemmas.Bool.{lt-ltb, le-ltb, ltb-true, ltb-false}
use Rattle.tdl_base.specs.declared.numbers.PortKey.{PortKey}
use Rattle.tdl_eval.specs.Envs.{is_same, number_beside}

-- the number at a place that was looked for
abbrev pub at_place : Option ℕ → List ℤ → ℤ
at_place None ports = pos 0
at_place (Some place) ports = slice_index_or ports place (pos 0)

-- a place among so many items, if it is one
abbrev placed : ℕ → ℕ → Option ℕ
placed place count = cond (nat_lt place count) (Some place) None

module _ (v : ℤ) (ports : List ℤ) where
  -- the first place has the first number
  at_first : (count : ℕ) → v ≡ at_place (placed 0 (suc count)) (v ∷ ports)
  at_first count = let e : nat_lt 0 (suc count) ≡ true = lt-ltb 0 (suc count) (omega arith) in rw e refl

  -- a later place has the number that it has in what follows the first
  at_later : (place count : ℕ) →
      at_place (placed place count) ports ≡ at_place (placed (suc place) (suc count)) (v ∷ ports)
  at_later place count = by_test (nat_lt place count) refl
    where
      same : (t u : Bool) → u ≡ t →
          at_place (cond t (Some place) None) ports ≡ at_place (cond u (Some (suc place)) None) (v ∷ ports)
      same true u e = rw e refl
      same false u e = rw e refl

      by_test : (t : Bool) → nat_lt place count ≡ t →
          at_place (placed place count) ports ≡ at_place (placed (suc place) (suc count)) (v ∷ ports)
      by_test true e =
          let later : nat_lt (suc place) (suc count) ≡ true =
          lt-ltb (suc place) (suc count) (omega (arith, ltb-true place count e)) in
          same (nat_lt place count) (nat_lt (suc place) (suc count)) (later ∙ sym e)
      by_test false e =
          let later : nat_lt (suc place) (suc count) ≡ false =
          le-ltb (suc place) (suc count) (omega (arith, ltb-false place count e)) in
          same (nat_lt place count) (nat_lt (suc place) (suc count)) (later ∙ sym e)

-- the number beside a key stands at the first place of the key
pub number_beside-at : (key : PortKey) (keys : List PortKey) (ports : List ℤ) →
    number_beside key keys ports ≡ at_place (position (λ k. is_same k key) keys) ports
number_beside-at key [] ports = refl
number_beside-at key (k ∷ keys) [] = no_number (position (λ k. is_same k key) (k ∷ keys))
  where
    no_number : (place : Option ℕ) → pos 0 ≡ at_place place []
    no_number None = refl
    no_number (Some place) = refl
number_beside-at key (k ∷ keys) (v ∷ ports) = by_test (is_same k key) (number_beside-at key keys ports)
  where
    first : ℕ
    first = position_or_len (λ other. is_same other key) keys

    by_test : (t : Bool) → number_beside key keys ports ≡ at_place (placed first (length keys)) ports →
        (if t then v else number_beside key keys ports)
        ≡ at_place (placed (cond (not t) (1 + first) 0) (suc (length keys))) (v ∷ ports)
    by_test true rest = at_first v ports (length keys)
    by_test false rest =
        let next : suc first ≡ 1 + first = omega arith in
        rest ∙ at_later v ports first (length keys)
        ∙ ap (λ place. at_place (placed place (suc (length keys))) (v ∷ ports)) next
