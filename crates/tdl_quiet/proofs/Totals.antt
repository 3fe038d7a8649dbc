-- How long joined lists are.
use Rattle.std.proofs.Common.{◌≡◌, ℕ, zero, suc, ◌+◌, ◌*◌, ◌≤◌, List, [], ◌∷◌, map, length, refl, ap, arith}
use Rattle.std.proofs.lemmas.List.{length-append}
use Rattle.tdl_base.specs.Lists.{Zip, changed_at, joined, numbered}
use Rattle.tdl_quiet.specs.Room.{total}

-- where no item makes more than b, all make no more than b for each
pub joined-each : {A B : Type 0} (f : ℕ → A → List B) (b k : ℕ) (xs : List A) →
    ((i : ℕ) (x : A) → length (f i x) ≤ b) → length (joined (numbered k f xs)) ≤ length xs * b
joined-each f b k [] each = omega arith
joined-each f b k (x ∷ xs) each =
    let sum = length-append (f k x) (joined (numbered (suc k) f xs)) in
    step (length xs) (length (f k x)) (length (joined (numbered (suc k) f xs))) _ (each k x)
    (joined-each f b (suc k) xs each) sum
  where
    step : (n p q r : ℕ) → p ≤ b → q ≤ n * b → r ≡ p + q → r ≤ suc n * b
    step n p q r le rest e = grind (arith, le, rest, e)

-- where the items of two lists go together, the one makes no more than the size of the other, and so do all
pub joined-within : {A B C : Type 0} (R : A → C → Type 0) (f : ℕ → A → List B) (size : C → ℕ) →
    ((i : ℕ) (x : A) (y : C) → R x y → length (f i x) ≤ size y) →
    (k : ℕ) (xs : List A) (ys : List C) → Zip R xs ys → length (joined (numbered k f xs)) ≤ total size ys
joined-within R f size each k [] [] z = omega arith
joined-within R f size each k [] (y ∷ ys) z = absurd z
joined-within R f size each k (x ∷ xs) [] z = absurd z
joined-within R f size each k (x ∷ xs) (y ∷ ys) z =
    let sum = length-append (f k x) (joined (numbered (suc k) f xs)) in
    step (length (f k x)) (size y) (length (joined (numbered (suc k) f xs))) (total size ys) _ (each k x y z.0)
    (joined-within R f size each (suc k) xs ys z.1) sum
  where
    step : (p q r s t : ℕ) → p ≤ q → r ≤ s → t ≡ p + r → t ≤ q + s
    step p q r s t le rest e = omega (arith, le, rest, e)

-- the total of two sizes and one more for each item
pub total-three : {A : Type 0} (a b : A → ℕ) (xs : List A) →
    total (λ x. a x + b x + 1) xs ≡ total a xs + total b xs + length xs
total-three a b [] = omega arith
total-three a b (x ∷ xs) =
    let rest : total (λ x. a x + b x + 1) xs ≡ total a xs + total b xs + length xs = total-three a b xs in
    omega (arith, rest)

-- ---- lists that go together

-- they are of one length
pub zip-length : {A C : Type 0} (R : A → C → Type 0) (xs : List A) (ys : List C) → Zip R xs ys →
    length xs ≡ length ys
zip-length R [] [] z = refl
zip-length R [] (y ∷ ys) z = absurd z
zip-length R (x ∷ xs) [] z = absurd z
zip-length R (x ∷ xs) (y ∷ ys) z = ap suc (zip-length R xs ys z.1)

-- so they do after a change of each item on the left that keeps what holds
pub zip-numbered : {A C : Type 0} (R : A → C → Type 0) (f : ℕ → A → A) →
    ((i : ℕ) (x : A) (y : C) → R x y → R (f i x) y) →
    (k : ℕ) (xs : List A) (ys : List C) → Zip R xs ys → Zip R (numbered k f xs) ys
zip-numbered R f keeps k [] [] z = z
zip-numbered R f keeps k [] (y ∷ ys) z = absurd z
zip-numbered R f keeps k (x ∷ xs) [] z = absurd z
zip-numbered R f keeps k (x ∷ xs) (y ∷ ys) z = (keeps k x y z.0, zip-numbered R f keeps (suc k) xs ys z.1)

-- the same without numbers
pub zip-map : {A C : Type 0} (R : A → C → Type 0) (f : A → A) → ((x : A) (y : C) → R x y → R (f x) y) →
    (xs : List A) (ys : List C) → Zip R xs ys → Zip R (map f xs) ys
zip-map R f keeps [] [] z = z
zip-map R f keeps [] (y ∷ ys) z = absurd z
zip-map R f keeps (x ∷ xs) [] z = absurd z
zip-map R f keeps (x ∷ xs) (y ∷ ys) z = (keeps x y z.0, zip-map R f keeps xs ys z.1)

-- the same at one place
pub zip-changed : {A C : Type 0} (R : A → C → Type 0) (f : A → A) → ((x : A) (y : C) → R x y → R (f x) y) →
    (k : ℕ) (xs : List A) (ys : List C) → Zip R xs ys → Zip R (changed_at k f xs) ys
zip-changed R f keeps k [] [] z = z
zip-changed R f keeps k [] (y ∷ ys) z = absurd z
zip-changed R f keeps k (x ∷ xs) [] z = absurd z
zip-changed R f keeps zero (x ∷ xs) (y ∷ ys) z = (keeps x y z.0, z.1)
zip-changed R f keeps (suc k) (x ∷ xs) (y ∷ ys) z = (z.0, zip-changed R f keeps k xs ys z.1)

-- what is made of each item goes with it
pub zip-made : {A C : Type 0} (R : A → C → Type 0) (f : C → A) → ((y : C) → R (f y) y) →
    (ys : List C) → Zip R (map f ys) ys
zip-made R f made [] = tt
zip-made R f made (y ∷ ys) = (made y, zip-made R f made ys)
