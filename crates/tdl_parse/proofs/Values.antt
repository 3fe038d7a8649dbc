-- The value of digits, one digit further on.
use Rattle.std.proofs.Common.{◌≡◌, ℕ, ◌+◌, ◌-◌, ◌*◌, ◌^◌, ◌<◌, min, List, [], ◌∷◌, ◌++◌, length, take, get_or, refl, ap, ◌∙◌, arith, pow-suc, add-one}
use Rattle.std.proofs.lemmas.List.{take_more, length_push}
use Rattle.tdl_tree.specs.Names.{value_of_digits, greatest}

-- ten times a sum of two
tenfold : (a p v d : ℕ) → a * (p * 10) + (v * 10 + d) ≡ (a * p + v) * 10 + d
tenfold a p v d = omega arith

-- one digit more
value_of_digits-push : (xs : List ℕ) (c : ℕ) → value_of_digits (xs ++ c ∷ []) ≡ value_of_digits xs * 10 + (c - 48)
value_of_digits-push [] c = omega arith
value_of_digits-push (x ∷ xs) c =
    let power : 10 ^ (length xs + 1) ≡ 10 ^ length xs * 10 = rw (add-one, pow-suc) refl in
    rw (length_push xs c, value_of_digits-push xs c, power)
    (tenfold (x - 48) (10 ^ length xs) (value_of_digits xs) (c - 48))

-- the capped value, one digit further on
pub capped_value-step : (digits : List ℕ) (i v tens digit next : ℕ) → i < length digits →
    v ≡ min (value_of_digits (take i digits)) greatest → tens ≡ min (v * 10) greatest →
    digit ≡ get_or digits i 0 - 48 → next ≡ min (tens + digit) greatest →
    next ≡ min (value_of_digits (take (i + 1) digits)) greatest
capped_value-step digits i v tens digit next within e by_ten by_digit sum =
    let more : value_of_digits (take (i + 1) digits) ≡ value_of_digits (take i digits) * 10 + (get_or digits i 0 - 48) =
    ap value_of_digits (take_more digits i 0 within) ∙ value_of_digits-push (take i digits) (get_or digits i 0) in
    omega arith
