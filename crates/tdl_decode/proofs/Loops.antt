-- Items that are read one after the other, as a loop does.
use Rattle.std.proofs.Common.{◌≡◌, ℕ, suc, ◌-◌, ◌+◌, ◌≤◌, ◌<◌, List, [], ◌∷◌, ◌++◌, Ok, Err, refl, sym, ap, ◌∙◌, append_assoc, append-nil, arith}
use Rattle.tdl_decode.specs.declared.flaw.Flaw.{Flaw}
use Rattle.tdl_decode.specs.declared.flaw.Flaw.TheVariants.{NoMemory, Broken}
use Rattle.tdl_decode.specs.Reading.{Read, ◌>>=◌, Fails, items_in, ascending_items_in}

-- what was read before, and what is still read
abbrev pub with_front : {X : Type 0} → List X → Read (List X) → Read (List X)
with_front front read = read >>= λ xs bytes. Ok (front ++ xs, bytes)

-- one more item before the others
regroup : {X : Type 0} (front : List X) (x : X) (read : Read (List X)) →
    with_front front (read >>= λ xs bytes. Ok (x ∷ xs, bytes)) ≡ with_front (front ++ x ∷ []) read
regroup front x (Ok read) = ap (λ xs. Ok (xs, read.1)) (sym (append_assoc front (x ∷ []) read.0))
regroup front x (Err flaw) = refl

-- an item was read
pub goes_on : {X : Type 0} (item : List ℕ → Read X) (front : List X) (count i : ℕ) (bytes : List ℕ) (x : X)
    (after : List ℕ) (total : Read (List X)) → i < count → item bytes ≡ Ok (x, after) →
    with_front front (items_in item (count - i) bytes) ≡ total →
    with_front (front ++ x ∷ []) (items_in item (count - (i + 1)) after) ≡ total
unfolding items_in
goes_on item front count i bytes x after total lt h so_far =
    let k : count - i ≡ suc (count - (i + 1)) = omega arith in
    let one : with_front front (items_in item (count - i) bytes)
    ≡ with_front (front ++ x ∷ []) (items_in item (count - (i + 1)) after) =
    rw (k, h) (regroup front x (items_in item (count - (i + 1)) after)) in
    sym one ∙ so_far

-- an item was not read
pub ends : {X : Type 0} (item : List ℕ → Read X) (flaw : Flaw) (front : List X) (count i : ℕ) (bytes : List ℕ)
    (total : Read (List X)) → i < count → Fails flaw (item bytes) →
    with_front front (items_in item (count - i) bytes) ≡ total → Fails flaw total
unfolding items_in
ends item NoMemory front count i bytes total lt h so_far = tt
ends item (Broken rule left) front count i bytes total lt h so_far =
    let k : count - i ≡ suc (count - (i + 1)) = omega arith in
    let one : with_front front (items_in item (count - i) bytes) ≡ Err (rule, left) = rw (k, h) refl in
    sym so_far ∙ one

-- all items were read
pub is_done : {X : Type 0} (item : List ℕ → Read X) (front : List X) (count i : ℕ) (bytes : List ℕ)
    (total : Read (List X)) → count ≤ i →
    with_front front (items_in item (count - i) bytes) ≡ total → total ≡ Ok (front, bytes)
unfolding items_in
is_done item front count i bytes total le so_far =
    let k : count - i ≡ 0 = omega arith in
    let one : with_front front (items_in item (count - i) bytes) ≡ Ok (front, bytes) =
    rw k (ap (λ xs. Ok (xs, bytes)) (append-nil front)) in
    sym so_far ∙ one

-- an item with a number was read
pub rises : {X : Type 0} (item : ℕ → List ℕ → Read X) (number_of : X → ℕ) (front : List X) (least count i : ℕ)
    (bytes : List ℕ) (x : X) (after : List ℕ) (next : ℕ) (total : Read (List X)) → i < count →
    item least bytes ≡ Ok (x, after) → next ≡ suc (number_of x) →
    with_front front (ascending_items_in item number_of least (count - i) bytes) ≡ total →
    with_front (front ++ x ∷ []) (ascending_items_in item number_of next (count - (i + 1)) after) ≡ total
unfolding ascending_items_in
rises item number_of front least count i bytes x after next total lt h is so_far =
    let k : count - i ≡ suc (count - (i + 1)) = omega arith in
    let one : with_front front (ascending_items_in item number_of least (count - i) bytes)
    ≡ with_front (front ++ x ∷ []) (ascending_items_in item number_of (suc (number_of x)) (count - (i + 1)) after) =
    rw (k, h) (regroup front x (ascending_items_in item number_of (suc (number_of x)) (count - (i + 1)) after)) in
    ap (λ n. with_front (front ++ x ∷ []) (ascending_items_in item number_of n (count - (i + 1)) after)) is
    ∙ sym one ∙ so_far

-- an item with a number was not read
pub stops : {X : Type 0} (item : ℕ → List ℕ → Read X) (number_of : X → ℕ) (flaw : Flaw) (front : List X)
    (least count i : ℕ) (bytes : List ℕ) (total : Read (List X)) → i < count → Fails flaw (item least bytes) →
    with_front front (ascending_items_in item number_of least (count - i) bytes) ≡ total → Fails flaw total
unfolding ascending_items_in
stops item number_of NoMemory front least count i bytes total lt h so_far = tt
stops item number_of (Broken rule left) front least count i bytes total lt h so_far =
    let k : count - i ≡ suc (count - (i + 1)) = omega arith in
    let one : with_front front (ascending_items_in item number_of least (count - i) bytes) ≡ Err (rule, left) =
    rw (k, h) refl in
    sym so_far ∙ one

-- all items with numbers were read
pub is_risen : {X : Type 0} (item : ℕ → List ℕ → Read X) (number_of : X → ℕ) (front : List X) (least count i : ℕ)
    (bytes : List ℕ) (total : Read (List X)) → count ≤ i →
    with_front front (ascending_items_in item number_of least (count - i) bytes) ≡ total → total ≡ Ok (front, bytes)
unfolding ascending_items_in
is_risen item number_of front least count i bytes total le so_far =
    let k : count - i ≡ 0 = omega arith in
    let one : with_front front (ascending_items_in item number_of least (count - i) bytes) ≡ Ok (front, bytes) =
    rw k (ap (λ xs. Ok (xs, bytes)) (append-nil front)) in
    sym so_far ∙ one
