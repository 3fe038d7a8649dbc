-- One instruction more is counted.
use Rattle.std.proofs.Common.{◌≡◌, ℕ, suc, ◌+◌, ◌*◌, ◌<◌, ◌≤◌, Bool, true, false, nat_lt, List, [], ◌∷◌, length, refl, sym, ap, ◌∙◌, subst, arith, ltb-true, ltb-false, lt-ltb, one-mul, mul_assoc, zero-add}
use Rattle.std.specs.Prelude.{slice_get, if◌then◌else◌}
use Rattle.std.proofs.Math.Path.{ap₂}
use Rattle.tdl_stack.specs.declared.bodies.OpenBody.{OpenBody}
use Rattle.tdl_stack.specs.declared.instr.Instr.{Instr}
use Rattle.tdl_stack.specs.declared.instr.Instr.TheVariants.{Const, Load, Store, Un, Bin, Jz, Jmp, Rep}
use Rattle.tdl_stack.specs.Lawful.{Repeats, body_length, turns, bodies_at, turns_at}
use Rattle.tdl_stack.specs.Counting.{Count, counted}
use Rattle.tdl_stack.proofs.CountStands.{turns_in, bodies_in, FromReps, IsOpen, CountStands, Nests, turns-here, bodies-here, turns-now}

-- a body of a `rep` before a place is one before the next
from-later : (code : List Instr) (p : ℕ) (bs : List OpenBody) → FromReps code p bs → FromReps code (suc p) bs
from-later code p [] f = tt
from-later code p (b ∷ bs) f =
    let r = f.0 in
    let l : r.0 < p = r.4 in ((r.0, r.1, r.2, r.3, omega (arith, l), r.5), from-later code p bs f.1)

-- nothing is below 0
pub lt-zero : (d : ℕ) → nat_lt d 0 ≡ false
lt-zero d = by_test (nat_lt d 0) refl
  where
    by_test : (t : Bool) → nat_lt d 0 ≡ t → nat_lt d 0 ≡ false
    by_test true e = absurd (omega (arith, ltb-true d 0 e))
    by_test false e = e

-- an instruction without a body: the next place
stands-plain : (code : List Instr) (c next : Count) (i : Instr) (rest : List Instr) → CountStands code c (i ∷ rest) →
    IsOpen c.place c.open_bodies → body_length i ≡ 0 →
    next ≡ record { place = suc c.place; turns = c.turns; cost = c.cost + c.turns; open_bodies = c.open_bodies } →
    CountStands code next rest
stands-plain code c next i rest s lasting none is = subst (λ n. CountStands code n rest) (sym is) (record {
  items = λ d. let e : suc c.place + d ≡ c.place + suc d = omega arith in rw e (s.items (suc d));
  turns = λ d. let e : suc c.place + d ≡ c.place + suc d = omega arith in
      rw e (s.turns (suc d)
      ∙ ap (λ t. turns_in c.turns c.open_bodies (c.place + suc d) * ((if t then turns i else 1) * turns_at rest d))
      (ap (nat_lt d) none ∙ lt-zero d)
      ∙ ap (λ m. turns_in c.turns c.open_bodies (c.place + suc d) * m) (one-mul (turns_at rest d)));
  bodies = λ d. let e : suc c.place + d ≡ c.place + suc d = omega arith in
      rw e (s.bodies (suc d)
      ∙ ap (λ t. bodies_in c.open_bodies (c.place + suc d) + ((if t then 1 else 0) + bodies_at rest d))
      (ap (nat_lt d) none ∙ lt-zero d)
      ∙ ap (λ m. bodies_in c.open_bodies (c.place + suc d) + m) (zero-add (bodies_at rest d)));
  cost = ap₂ (λ a b. a + b) s.cost (sym (turns-now code c (i ∷ rest) s lasting));
  from = from-later code c.place c.open_bodies s.from;
})

-- the body of a `rep` ends within the innermost body that it stands in
fits_in : (code : List Instr) (c : Count) (times n : ℕ) → Nests code → Repeats code c.place times n →
    FromReps code c.place c.open_bodies → IsOpen c.place c.open_bodies → (q : ℕ) → q ≤ c.place + n → c.place ≤ q →
    IsOpen q c.open_bodies
fits_in code c times n nests at from lasting q within later = by_body c.open_bodies from lasting
  where
    by_body : (bs : List OpenBody) → FromReps code c.place bs → IsOpen c.place bs → IsOpen q bs
    by_body [] f h = tt
    by_body (b ∷ bs) f h =
        let r = f.0 in
        let before : r.0 < c.place = r.4 in
        let end : b.end ≡ suc (r.0 + r.2) = r.5 in
        let l : c.place + n ≤ r.0 + r.2 =
        nests c.place n r.0 r.1 r.2 (Rep times n, at, refl) r.3 (before, omega (arith, h, end)) in
        omega (arith, l, end)

-- a `rep`: the next place, in one body more
stands-rep : (code : List Instr) (c : Count) (times n : ℕ) (rest : List Instr) → Nests code →
    CountStands code c (Rep times n ∷ rest) → IsOpen c.place c.open_bodies →
    CountStands code (counted (Rep times n) c) rest
stands-rep code c times n rest nests s lasting = record {
  items = λ d. let e : suc c.place + d ≡ c.place + suc d = omega arith in rw e (s.items (suc d));
  turns = λ d. let e : suc c.place + d ≡ c.place + suc d = omega arith in
      ap (turns_at code) e ∙ s.turns (suc d) ∙ turns_by d (nat_lt d n) refl;
  bodies = λ d. let e : suc c.place + d ≡ c.place + suc d = omega arith in
      ap (bodies_at code) e ∙ s.bodies (suc d) ∙ bodies_by d (nat_lt d n) refl;
  cost = ap₂ (λ a b. a + b) s.cost (sym (turns-now code c (Rep times n ∷ rest) s lasting));
  from = ((c.place, times, n, at, omega arith, refl), from-later code c.place c.open_bodies s.from);
}
  where
    at : Repeats code c.place times n
    at = let e : c.place + 0 ≡ c.place = omega arith in ap (slice_get code) (sym e) ∙ s.items 0

    still : (d : ℕ) → d < n → IsOpen (c.place + suc d) c.open_bodies
    still d l = fits_in code c times n nests at s.from lasting (c.place + suc d) (omega (arith, l)) (omega arith)

    same_test : (d : ℕ) (t : Bool) → nat_lt d n ≡ t → nat_lt (suc c.place + d) (suc (c.place + n)) ≡ t
    same_test d true e = let l : d < n = ltb-true d n e in lt-ltb (suc c.place + d) (suc (c.place + n)) (omega arith)
    same_test d false e = let l : n ≤ d = ltb-false d n e in not_lt (suc c.place + d) (suc (c.place + n)) (omega arith)
      where
        not_lt : (a b : ℕ) → b ≤ a → nat_lt a b ≡ false
        not_lt a b l = by_test (nat_lt a b) refl
          where
            by_test : (t : Bool) → nat_lt a b ≡ t → nat_lt a b ≡ false
            by_test true e = absurd (omega (arith, ltb-true a b e))
            by_test false e = e

    turns_by : (d : ℕ) (t : Bool) → nat_lt d n ≡ t →
        turns_in c.turns c.open_bodies (c.place + suc d) * ((if nat_lt d n then times else 1) * turns_at rest d)
        ≡ (if nat_lt (suc c.place + d) (suc (c.place + n)) then c.turns * times
        else turns_in c.turns c.open_bodies (suc c.place + d)) * turns_at rest d
    turns_by d true e =
        let l : d < n = ltb-true d n e in
        ap₂ (λ a t. a * ((if t then times else 1) * turns_at rest d))
        (turns-here (c.place + suc d) c.turns c.open_bodies (still d l)) e
        ∙ sym (mul_assoc c.turns times (turns_at rest d))
        ∙ sym (ap
        (λ t. (if t then c.turns * times else turns_in c.turns c.open_bodies (suc c.place + d)) * turns_at rest d)
        (same_test d true e))
    turns_by d false e =
        let p : suc c.place + d ≡ c.place + suc d = omega arith in
        ap (λ t. turns_in c.turns c.open_bodies (c.place + suc d) * ((if t then times else 1) * turns_at rest d)) e
        ∙ ap (λ m. turns_in c.turns c.open_bodies (c.place + suc d) * m) (one-mul (turns_at rest d))
        ∙ ap (λ q. turns_in c.turns c.open_bodies q * turns_at rest d) (sym p)
        ∙ sym (ap
        (λ t. (if t then c.turns * times else turns_in c.turns c.open_bodies (suc c.place + d)) * turns_at rest d)
        (same_test d false e))

    bodies_by : (d : ℕ) (t : Bool) → nat_lt d n ≡ t →
        bodies_in c.open_bodies (c.place + suc d) + ((if nat_lt d n then 1 else 0) + bodies_at rest d)
        ≡ (if nat_lt (suc c.place + d) (suc (c.place + n)) then suc (length c.open_bodies)
        else bodies_in c.open_bodies (suc c.place + d)) + bodies_at rest d
    bodies_by d true e =
        let l : d < n = ltb-true d n e in
        let e2 : length c.open_bodies + (1 + bodies_at rest d) ≡ suc (length c.open_bodies) + bodies_at rest d =
        omega arith in
        ap₂ (λ a t. a + ((if t then 1 else 0) + bodies_at rest d))
        (bodies-here (c.place + suc d) c.open_bodies (still d l)) e
        ∙ e2
        ∙ sym (ap
        (λ t. (if t then suc (length c.open_bodies) else bodies_in c.open_bodies (suc c.place + d)) + bodies_at rest d)
        (same_test d true e))
    bodies_by d false e =
        let p : suc c.place + d ≡ c.place + suc d = omega arith in
        ap (λ t. bodies_in c.open_bodies (c.place + suc d) + ((if t then 1 else 0) + bodies_at rest d)) e
        ∙ ap (λ m. bodies_in c.open_bodies (c.place + suc d) + m) (zero-add (bodies_at rest d))
        ∙ ap (λ q. bodies_in c.open_bodies q + bodies_at rest d) (sym p)
        ∙ sym (ap
        (λ t. (if t then suc (length c.open_bodies) else bodies_in c.open_bodies (suc c.place + d)) + bodies_at rest d)
        (same_test d false e))

-- an instruction more
pub stands-counted : (code : List Instr) (c : Count) (i : Instr) (rest : List Instr) → Nests code →
    CountStands code c (i ∷ rest) → IsOpen c.place c.open_bodies → CountStands code (counted i c) rest
stands-counted code c (Rep times n) rest nests s lasting = stands-rep code c times n rest nests s lasting
stands-counted code c (Const v) rest nests s lasting = stands-plain code c _ (Const v) rest s lasting refl refl
stands-counted code c (Load place) rest nests s lasting = stands-plain code c _ (Load place) rest s lasting refl refl
stands-counted code c (Store k) rest nests s lasting = stands-plain code c _ (Store k) rest s lasting refl refl
stands-counted code c (Un op) rest nests s lasting = stands-plain code c _ (Un op) rest s lasting refl refl
stands-counted code c (Bin op) rest nests s lasting = stands-plain code c _ (Bin op) rest s lasting refl refl
stands-counted code c (Jz n) rest nests s lasting = stands-plain code c _ (Jz n) rest s lasting refl refl
stands-counted code c (Jmp n) rest nests s lasting = stands-plain code c _ (Jmp n) rest s lasting refl refl
