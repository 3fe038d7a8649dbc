-- A code is sound where each instruction is sound at its place, and only there.
use Rattle.std.proofs.Common.{◌≡◌, ℕ, zero, suc, ◌+◌, ◌-◌, ◌<◌, ◌≤◌, Bool, true, false, ◌||◌, List, [], ◌∷◌, length, take, drop, fold, Some, None, refl, sym, ap, ◌∙◌, subst, arith, inl, inr, if◌then◌else◌, length-drop}
use Rattle.std.specs.Prelude.{Option, slice_get, ◌⊎◌}
use Rattle.std.proofs.lemmas.Option.{same_Some}
use Rattle.tdl_base.specs.declared.limits.TheConstants.{REPEAT}
use Rattle.tdl_stack.specs.declared.limits.TheConstants.{STACK_NUMBERS}
use Rattle.tdl_stack.specs.declared.instr.Instr.{Instr}
use Rattle.tdl_stack.specs.declared.instr.Instr.TheVariants.{Const, Load, Store, Un, Bin, Jz, Jmp, Rep}
use Rattle.tdl_base.specs.declared.numbers.Place.TheVariants.{Sensor, Port, Cell}
use Rattle.tdl_stack.specs.Lawful.{CodeShape, Suits, Exists, takes, height_after, height_at, span, Spans, Repeats, IsInBody}
use Rattle.tdl_stack.specs.Judging.{Fits, SoundAt, Along, Sound}
use Rattle.tdl_stack.proofs.Places.{slice_get-within, slice_get-drop, fold-next, fold-no_more, fold-stretch}
use Rattle.tdl_stack.proofs.Spans.{is_rep, Closes, spans_well-true}

-- each instruction is as it is asked at its place
abbrev pub AtPlaces : (At : ℕ → Instr → List Instr → Type 0) → ℕ → List Instr → Type 0
AtPlaces At height code = (p : ℕ) (i : Instr) → slice_get code p ≡ Some i →
    At (fold height_after height (take p code)) i (drop (suc p) code)

-- each instruction is sound at its place
abbrev pub SoundPlaces : CodeShape → ℕ → List Instr → Type 0
SoundPlaces shape = AtPlaces (SoundAt shape)

-- how the code ends
abbrev pub EndsAs : CodeShape → ℕ → Type 0
EndsAs shape height = height ≡ (if shape.expression then 1 else 0)

-- what is so along a code is so at each place
pub along-places : (At : ℕ → Instr → List Instr → Type 0) (shape : CodeShape) (h : ℕ) (code : List Instr) →
    Along At shape h code → AtPlaces At h code
along-places At shape h [] s p i at = absurd (cc at)
along-places At shape h (x ∷ code) s zero i at = subst (λ y. At h y code) (same_Some x i at) s.0
along-places At shape h (x ∷ code) s (suc p) i at = along-places At shape (height_after h x) code s.1 p i at

-- and the code ends as its shape asks
pub along-end : (At : ℕ → Instr → List Instr → Type 0) (shape : CodeShape) (h : ℕ) (code : List Instr) →
    Along At shape h code → EndsAs shape (fold height_after h (take (length code) code))
along-end At shape h [] s = s
along-end At shape h (x ∷ code) s = along-end At shape (height_after h x) code s.1

-- where both hold it is so along the code
pub places-along : (At : ℕ → Instr → List Instr → Type 0) (shape : CodeShape) (h : ℕ) (code : List Instr) →
    AtPlaces At h code → EndsAs shape (fold height_after h (take (length code) code)) → Along At shape h code
places-along At shape h [] each end = end
places-along At shape h (x ∷ code) each end =
    (each 0 x refl, places-along At shape (height_after h x) code (λ p i at. each (suc p) i at) end)

-- an instruction by itself
pub fits-suits : (shape : CodeShape) (i : Instr) → Fits shape i → Suits shape.expression i
fits-suits shape (Const v) f = f.0
fits-suits shape (Load (Sensor k)) f = f.0
fits-suits shape (Load (Port key)) f = f.0
fits-suits shape (Load (Cell k)) f = f.0
fits-suits shape (Store k) f = f.0
fits-suits shape (Un op) f = f.0
fits-suits shape (Bin op) f = f.0
fits-suits shape (Jz n) f = f.0
fits-suits shape (Jmp n) f = f.0
fits-suits shape (Rep times n) f = f.0

-- what it names is there
pub fits-exists : (shape : CodeShape) (i : Instr) → Fits shape i → Exists shape i
fits-exists shape (Const v) f = f.1
fits-exists shape (Load (Sensor k)) f = f.1
fits-exists shape (Load (Port key)) f = f.1
fits-exists shape (Load (Cell k)) f = f.1
fits-exists shape (Store k) f = f.1
fits-exists shape (Un op) f = f.1
fits-exists shape (Bin op) f = f.1
fits-exists shape (Jz n) f = f.1
fits-exists shape (Jmp n) f = f.1
fits-exists shape (Rep times n) f = tt

-- where it suits, and what it names is there, it fits
pub of_fits : (shape : CodeShape) (i : Instr) → Suits shape.expression i → Exists shape i →
    ((times n : ℕ) → i ≡ Rep times n → times ≤ REPEAT) → Fits shape i
of_fits shape (Const v) s e r = (s, e)
of_fits shape (Load (Sensor k)) s e r = (s, e)
of_fits shape (Load (Port key)) s e r = (s, e)
of_fits shape (Load (Cell k)) s e r = (s, e)
of_fits shape (Store k) s e r = (s, e)
of_fits shape (Un op) s e r = (s, e)
of_fits shape (Bin op) s e r = (s, e)
of_fits shape (Jz n) s e r = (s, e)
of_fits shape (Jmp n) s e r = (s, e)
of_fits shape (Rep times n) s e r = (s, r times n refl)

-- the rules but those of what bodies stand in one another and of the cost
pub record Rules (code : List Instr) (shape : CodeShape) : Type 0 where
  pub suits : (p : ℕ) (i : Instr) → slice_get code p ≡ Some i → Suits shape.expression i
  pub exist : (p : ℕ) (i : Instr) → slice_get code p ≡ Some i → Exists shape i
  pub supplied : (p : ℕ) (i : Instr) → slice_get code p ≡ Some i → takes i ≤ height_at code p
  pub room : (p : ℕ) → height_at code p ≤ STACK_NUMBERS
  pub within : (p n : ℕ) → Spans code p n → p + n < length code
  pub nested : (p n r times k : ℕ) → Spans code p n → Repeats code r times k → IsInBody r k p → p + n ≤ r + k
  pub outside : (p n r times k : ℕ) → Spans code p n → Repeats code r times k → IsInBody r k (p + n + 1) →
      IsInBody r k p
  pub empty_before : (p n : ℕ) → Spans code p n → height_at code (p + 1) ≡ 0
  pub empty_after : (p n : ℕ) → Spans code p n → height_at code (p + n + 1) ≡ 0
  pub repeat : (p times n : ℕ) → Repeats code p times n → times ≤ REPEAT
  pub end : height_at code (length code) ≡ (if shape.expression then 1 else 0)

-- ---- from sound places to the rules

-- what an instruction at a place spans
closes_at : (shape : CodeShape) (code : List Instr) → SoundPlaces shape 0 code → (p n : ℕ) (s : Spans code p n) →
    Closes (is_rep s.0) n (height_at code (suc p)) (drop (suc p) code)
closes_at shape code each p n s =
    subst (λ h. Closes (is_rep s.0) n h (drop (suc p) code)) (sym (fold-next height_after 0 code p s.0 s.1))
    (spans_well-true s.0 n (height_after (height_at code p) s.0) (drop (suc p) code) (each p s.0 s.1).spans s.2)

-- an instruction within what another one spans
spanned : (shape : CodeShape) (code : List Instr) → SoundPlaces shape 0 code → (p n : ℕ) (s : Spans code p n) →
    (q k : ℕ) (t : Spans code q k) → p < q → q ≤ p + n → (is_rep s.0 || is_rep t.0) ≡ true → q + k ≤ p + n
spanned shape code each p n s q k t later inside rep =
    let c = closes_at shape code each p n s in
    let part : List Instr = take n (drop (suc p) code) in
    let len : length part ≡ n = length-take_le n (drop (suc p) code) c.within in
    let e : suc p + (q - suc p) ≡ q = omega arith in
    let there : slice_get part (q - suc p) ≡ Some t.0 =
    slice_get-take (drop (suc p) code) n (q - suc p) (omega arith) ∙ slice_get-drop code (suc p) (q - suc p)
    ∙ ap (slice_get code) e ∙ t.1 in
    let bound : k ≤ length part - suc (q - suc p) = c.clean.within (q - suc p) t.0 there k t.2 rep in
    omega (arith, bound, len)
  where
    slice_get-take : (xs : List Instr) (n j : ℕ) → j < n → slice_get (take n xs) j ≡ slice_get xs j
    slice_get-take xs zero j l = absurd (omega (arith, l))
    slice_get-take [] (suc n) j l = refl
    slice_get-take (x ∷ xs) (suc n) zero l = refl
    slice_get-take (x ∷ xs) (suc n) (suc j) l = slice_get-take xs n j (omega (arith, l))

    length-take_le : (n : ℕ) (xs : List Instr) → n ≤ length xs → length (take n xs) ≡ n
    length-take_le zero xs l = refl
    length-take_le (suc n) [] l = absurd (omega (arith, l))
    length-take_le (suc n) (x ∷ xs) l = ap suc (length-take_le n xs (omega (arith, l)))

-- a height never passes what the stack has room for, where no instruction makes it pass
pub below_room : (code : List Instr) →
    ((p : ℕ) (i : Instr) → slice_get code p ≡ Some i → height_after (height_at code p) i ≤ STACK_NUMBERS) → (p : ℕ) →
    height_at code p ≤ STACK_NUMBERS
below_room code each zero = omega arith
below_room code each (suc p) = by_item (below_room code each p) (slice_get code p) refl
  where
    by_item : height_at code p ≤ STACK_NUMBERS → (o : Option Instr) → slice_get code p ≡ o →
        height_at code (suc p) ≤ STACK_NUMBERS
    by_item before None at = omega (arith, fold-no_more height_after 0 code p at)
    by_item before (Some i) at = omega (arith, fold-next height_after 0 code p i at, each p i at)

-- of two places, either the first is before, or both are one, or the second is before
pub order : (p q : ℕ) → (p < q) ⊎ ((p ≡ q) ⊎ (q < p))
order zero zero = inr (inl refl)
order zero (suc q) = inl (omega arith)
order (suc p) zero = inr (inr (omega arith))
order (suc p) (suc q) = by_rest (order p q)
  where
    by_rest : (p < q) ⊎ ((p ≡ q) ⊎ (q < p)) → (suc p < suc q) ⊎ ((suc p ≡ suc q) ⊎ (suc q < suc p))
    by_rest (inl l) = inl (omega (arith, l))
    by_rest (inr (inl e)) = inr (inl (ap suc e))
    by_rest (inr (inr l)) = inr (inr (omega (arith, l)))

-- what a `rep` spans
abbrev pub repeats-spans : (code : List Instr) (p times n : ℕ) → Repeats code p times n → Spans code p n
repeats-spans code p times n at = (Rep times n, at, refl)

-- of two tests the second is passed
or_rep : (b : Bool) → (b || true) ≡ true
or_rep true = refl
or_rep false = refl

-- a skip goes into no body that it does not stand in
goes_outside : (shape : CodeShape) (code : List Instr) → SoundPlaces shape 0 code → (p n r times k : ℕ) →
    Spans code p n → Repeats code r times k → IsInBody r k (p + n + 1) → IsInBody r k p
goes_outside shape code each p n r times k s at body = by_order (order r p)
  where
    by_order : (r < p) ⊎ ((r ≡ p) ⊎ (p < r)) → IsInBody r k p
    by_order (inl l) = let b : p + n + 1 ≤ r + k = body.1 in (l, omega arith)
    by_order (inr (inl e)) =
        let same : Rep times k ≡ s.0 = same_Some (Rep times k) s.0 (sym at ∙ ap (slice_get code) e ∙ s.1) in
        let one : k ≡ n = same_Some k n (ap span same ∙ s.2) in
        let b : p + n + 1 ≤ r + k = body.1 in absurd (omega (arith, one, e, b))
    by_order (inr (inr l)) =
        let a : r < p + n + 1 = body.0 in
        let b : p + n + 1 ≤ r + k = body.1 in
        let c : r + k ≤ p + n = spanned shape code each p n s r k (repeats-spans code r times k at) l (omega arith)
        (or_rep (is_rep s.0)) in absurd (omega arith)

-- a sound code keeps the rules
pub sound-rules : (shape : CodeShape) (code : List Instr) → Sound shape 0 code → Rules code shape
sound-rules shape code sound =
    let each : SoundPlaces shape 0 code = along-places (SoundAt shape) shape 0 code sound in
    record {
      suits = λ p i at. fits-suits shape i (each p i at).fits;
      exist = λ p i at. fits-exists shape i (each p i at).fits;
      supplied = λ p i at. (each p i at).supplied;
      room = below_room code (λ p i at. (each p i at).room);
      within = λ p n s. let c = (closes_at shape code each p n s).within in
          let l = slice_get-within code p s.0 s.1 in omega (arith, c, l, length-drop (suc p) code);
      nested = λ p n r times k s at body.
          let a : r < p = body.0 in let b : p ≤ r + k = body.1 in
          spanned shape code each r k (repeats-spans code r times k at) p n s a b refl;
      outside = goes_outside shape code each;
      empty_before = λ p n s. let e : p + 1 ≡ suc p = omega arith in rw e (closes_at shape code each p n s).empty;
      empty_after = λ p n s. let e : p + n + 1 ≡ suc p + n = omega arith in
          let c = closes_at shape code each p n s in
          rw e (fold-stretch height_after 0 code (suc p) n
          ∙ ap (λ h. fold height_after h (take n (drop (suc p) code))) c.empty ∙ c.clean.level);
      repeat = λ p times n at. (each p (Rep times n) at).fits.1;
      end = along-end (SoundAt shape) shape 0 code sound;
    }
