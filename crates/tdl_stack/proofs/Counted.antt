-- Counting a code counts its cost and its open bodies at each place.
use Rattle.std.proofs.Common.{◌≡◌, ℕ, zero, suc, ◌+◌, ◌-◌, ◌<◌, ◌≤◌, List, [], ◌∷◌, length, Some, refl, sym, ap, ◌∙◌, subst, arith, one-mul, zero-add}
use Rattle.std.specs.Prelude.{slice_get}
use Rattle.std.proofs.lemmas.Option.{same_Some}
use Rattle.tdl_stack.specs.declared.limits.TheConstants.{NESTED_BODIES, CODE_COST}
use Rattle.tdl_stack.specs.declared.instr.Instr.{Instr}
use Rattle.tdl_stack.specs.declared.instr.Instr.TheVariants.{Const, Load, Store, Un, Bin, Jz, Jmp, Rep}
use Rattle.tdl_stack.specs.Lawful.{Repeats, bodies_at, turns_at, cost_before}
use Rattle.tdl_stack.proofs.Places.{slice_get-within}
use Rattle.tdl_stack.specs.Counting.{Count, no_count, after_bodies, counted, HasRoom, CountsAt, Counts}
use Rattle.tdl_stack.proofs.CountStands.{IsOpen, CountStands, Nests, closed-same, stands-closed, turns-now, bodies-now}
use Rattle.tdl_stack.proofs.CountSteps.{stands-counted}

-- the two rules at a place
pub record CountsHere (code : List Instr) (q : ℕ) (i : Instr) : Type 0 where
  pub depth : (times n : ℕ) → i ≡ Rep times n → bodies_at code q < NESTED_BODIES
  pub cost : cost_before code (suc q) ≤ CODE_COST

-- where there is room for a body, few stand around it
room-depth : (i : Instr) (c : Count) → HasRoom i c → (times n : ℕ) → i ≡ Rep times n →
    length c.open_bodies < NESTED_BODIES
room-depth i c room times n e = subst (λ x. HasRoom x c) e room

-- where few bodies stand around it, there is room for a body
depth-room : (i : Instr) (c : Count) →
    ((times n : ℕ) → i ≡ Rep times n → length c.open_bodies < NESTED_BODIES) → HasRoom i c
depth-room (Rep times n) c h = h times n refl
depth-room (Const v) c h = tt
depth-room (Load place) c h = tt
depth-room (Store k) c h = tt
depth-room (Un op) c h = tt
depth-room (Bin op) c h = tt
depth-room (Jz n) c h = tt
depth-room (Jmp n) c h = tt

-- an instruction that can be counted keeps the two rules
counts-here : (code : List Instr) (c : Count) (i : Instr) (rest : List Instr) → CountStands code c (i ∷ rest) →
    IsOpen c.place c.open_bodies → CountsAt i c → CountsHere code c.place i
counts-here code c i rest s lasting at = record {
  depth = λ times n e. let l = room-depth i c at.1 times n e in
      omega (arith, l, bodies-now code c (i ∷ rest) s lasting);
  cost = let l = at.0 in omega (arith, l, s.cost, turns-now code c (i ∷ rest) s lasting);
}

-- one that keeps the two rules can be counted
here-counts : (code : List Instr) (c : Count) (i : Instr) (rest : List Instr) → CountStands code c (i ∷ rest) →
    IsOpen c.place c.open_bodies → CountsHere code c.place i → CountsAt i c
here-counts code c i rest s lasting here = (
  let l = here.cost in omega (arith, l, s.cost, turns-now code c (i ∷ rest) s lasting),
  depth-room i c (λ times n e. let l = here.depth times n e in
      omega (arith, l, bodies-now code c (i ∷ rest) s lasting)),
)

-- the next place
next-place : (i : Instr) (c : Count) → (counted i c).place ≡ suc c.place
next-place (Rep times n) c = refl
next-place (Const v) c = refl
next-place (Load place) c = refl
next-place (Store k) c = refl
next-place (Un op) c = refl
next-place (Bin op) c = refl
next-place (Jz n) c = refl
next-place (Jmp n) c = refl

-- the place after an instruction, once bodies are closed
later : (i : Instr) (c : Count) (d : ℕ) → (counted i (after_bodies c)).place + d ≡ c.place + suc d
later i c d = omega (arith, next-place i (after_bodies c), (closed-same c.place c.turns c.cost c.open_bodies).place)

-- of a code that can be counted each instruction keeps the two rules
pub counts-each : (code : List Instr) (c : Count) (rest : List Instr) → Nests code → CountStands code c rest →
    Counts c rest → (d : ℕ) (i : Instr) → slice_get rest d ≡ Some i → CountsHere code (c.place + d) i
counts-each code c [] nests s counts d i at = absurd (cc at)
counts-each code c (x ∷ rest) nests s counts zero i at =
    let now = stands-closed code c (x ∷ rest) s in
    let place : (after_bodies c).place ≡ c.place + 0 =
    omega (arith, (closed-same c.place c.turns c.cost c.open_bodies).place) in
    let lasting : IsOpen (after_bodies c).place (after_bodies c).open_bodies =
    subst (λ p. IsOpen p (after_bodies c).open_bodies)
    (sym (closed-same c.place c.turns c.cost c.open_bodies).place) now.1 in
    subst (λ p. CountsHere code p i) place
    (subst (λ y. CountsHere code (after_bodies c).place y) (same_Some x i at)
    (counts-here code (after_bodies c) x rest now.0 lasting counts.0))
counts-each code c (x ∷ rest) nests s counts (suc d) i at =
    let now = stands-closed code c (x ∷ rest) s in
    let lasting : IsOpen (after_bodies c).place (after_bodies c).open_bodies =
    subst (λ p. IsOpen p (after_bodies c).open_bodies)
    (sym (closed-same c.place c.turns c.cost c.open_bodies).place) now.1 in
    subst (λ p. CountsHere code p i) (later x c d)
    (counts-each code (counted x (after_bodies c)) rest nests
    (stands-counted code (after_bodies c) x rest nests now.0 lasting) counts.1 d i at)

-- a code can be counted where each instruction keeps the two rules
pub each-counts : (code : List Instr) (c : Count) (rest : List Instr) → Nests code → CountStands code c rest →
    ((d : ℕ) (i : Instr) → slice_get rest d ≡ Some i → CountsHere code (c.place + d) i) → Counts c rest
each-counts code c [] nests s here = tt
each-counts code c (x ∷ rest) nests s here =
    let now = stands-closed code c (x ∷ rest) s in
    let place : c.place + 0 ≡ (after_bodies c).place =
    omega (arith, (closed-same c.place c.turns c.cost c.open_bodies).place) in
    let lasting : IsOpen (after_bodies c).place (after_bodies c).open_bodies =
    subst (λ p. IsOpen p (after_bodies c).open_bodies)
    (sym (closed-same c.place c.turns c.cost c.open_bodies).place) now.1 in (
      here-counts code (after_bodies c) x rest now.0 lasting
          (subst (λ p. CountsHere code p x) place (here 0 x refl)),
      each-counts code (counted x (after_bodies c)) rest nests
          (stands-counted code (after_bodies c) x rest nests now.0 lasting)
          (λ d i at. subst (λ p. CountsHere code p i) (sym (later x c d)) (here (suc d) i at)),
    )

-- counting begins at the whole code
begins : (code : List Instr) → CountStands code no_count code
begins code = record {
  items = λ d. ap (slice_get code) (zero-add d);
  turns = λ d. ap (turns_at code) (zero-add d) ∙ sym (one-mul (turns_at code d));
  bodies = λ d. ap (bodies_at code) (zero-add d) ∙ sym (zero-add (bodies_at code d));
  cost = refl;
  from = tt;
}

-- the last instruction of a code
last-item : (code : List Instr) (m : ℕ) → length code ≡ suc m → (i : Instr) × (slice_get code m ≡ Some i)
last-item [] m e = absurd (omega (arith, e))
last-item (x ∷ []) zero e = (x, refl)
last-item (x ∷ []) (suc m) e = absurd (omega (arith, e))
last-item (x ∷ y ∷ code) zero e = absurd (omega (arith, e))
last-item (x ∷ y ∷ code) (suc m) e = last-item (y ∷ code) m (omega (arith, e))

-- a code that can be counted keeps the two rules
pub counts-depth : (code : List Instr) → Nests code → Counts no_count code → (p times n : ℕ) → Repeats code p times n →
    bodies_at code p < NESTED_BODIES
counts-depth code nests counts p times n at =
    let here = counts-each code no_count code nests (begins code) counts p (Rep times n) at in
    let l = here.depth times n refl in omega (arith, l, ap (bodies_at code) (zero-add p))

-- a code that can be counted keeps the rule of its cost
pub counts-cost : (code : List Instr) → Nests code → Counts no_count code → cost_before code (length code) ≤ CODE_COST
counts-cost code nests counts = by_length (length code) refl
  where
    by_length : (m : ℕ) → length code ≡ m → cost_before code (length code) ≤ CODE_COST
    by_length zero e = omega (arith, ap (cost_before code) e)
    by_length (suc m) e =
        let last = last-item code m e in
        let here = counts-each code no_count code nests (begins code) counts m last.0 last.1 in
        let l = here.cost in
        omega (arith, l, ap (cost_before code) e, ap (λ p. cost_before code (suc p)) (zero-add m))

-- what more places cost is no less
cost-more : (code : List Instr) (p d : ℕ) → cost_before code p ≤ cost_before code (d + p)
cost-more code p zero = omega (arith, ap (cost_before code) (zero-add p))
cost-more code p (suc d) =
    let e : suc d + p ≡ suc (d + p) = omega arith in
    omega (arith, cost-more code p d, ap (cost_before code) e)

-- a code that keeps the rules can be counted
pub rules-counts : (code : List Instr) → Nests code →
    ((p times n : ℕ) → Repeats code p times n → bodies_at code p < NESTED_BODIES) →
    cost_before code (length code) ≤ CODE_COST → Counts no_count code
rules-counts code nests depth cost =
    each-counts code no_count code nests (begins code)
    (λ d i at. subst (λ p. CountsHere code p i) (sym (zero-add d)) (record {
      depth = λ times n e. depth d times n (at ∙ ap Some e);
      cost =
          let l = slice_get-within code d i at in
          let e : (length code - suc d) + suc d ≡ length code = omega arith in
          omega (arith, cost, cost-more code (suc d) (length code - suc d), ap (cost_before code) e);
    }))
