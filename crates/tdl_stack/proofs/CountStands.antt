-- Where counting stands in a code: its open bodies say how often later places are come to.
use Rattle.std.proofs.Common.{◌≡◌, ℕ, suc, ◌+◌, ◌*◌, ◌<◌, ◌≤◌, Bool, true, false, nat_lt, List, [], ◌∷◌, length, refl, sym, ap, ◌∙◌, subst, arith, ltb-true, ltb-false, lt-ltb, mul-one}
use Rattle.std.specs.Prelude.{slice_get, if◌then◌else◌}
use Rattle.std.proofs.Math.Path.{ap₂}
use Rattle.tdl_stack.specs.declared.bodies.OpenBody.{OpenBody}
use Rattle.tdl_stack.specs.declared.instr.Instr.{Instr}
use Rattle.tdl_stack.specs.Lawful.{Spans, Repeats, IsInBody, bodies_at, turns_at, cost_before}
use Rattle.tdl_stack.specs.Counting.{Count, closed, after_bodies}

-- how often a later place is come to by the open bodies alone
abbrev pub turns_in : (turns : ℕ) → List OpenBody → (place : ℕ) → ℕ
turns_in m [] q = m
turns_in m (b ∷ bodies) q = if nat_lt q b.end then m else turns_in b.turns_outside bodies q

-- in how many of the open bodies a later place stands
abbrev pub bodies_in : List OpenBody → (place : ℕ) → ℕ
bodies_in [] q = 0
bodies_in (b ∷ bodies) q = if nat_lt q b.end then length (b ∷ bodies) else bodies_in bodies q

-- each open body is that of a `rep` before the place
abbrev pub FromReps : List Instr → ℕ → List OpenBody → Type 0
FromReps code p [] = Unit {0}
FromReps code p (b ∷ bodies) =
    ((r : ℕ) × (times : ℕ) × (k : ℕ) × Repeats code r times k × (r < p) × (b.end ≡ suc (r + k)))
    × FromReps code p bodies

-- the innermost body does not end yet
abbrev pub IsOpen : ℕ → List OpenBody → Type 0
IsOpen p [] = Unit {0}
IsOpen p (b ∷ bodies) = p < b.end

-- where a count stands in a code, before what is left of it
pub record CountStands (code : List Instr) (c : Count) (rest : List Instr) : Type 0 where
  pub items : (d : ℕ) → slice_get code (c.place + d) ≡ slice_get rest d
  pub turns : (d : ℕ) → turns_at code (c.place + d) ≡ turns_in c.turns c.open_bodies (c.place + d) * turns_at rest d
  pub bodies : (d : ℕ) → bodies_at code (c.place + d) ≡ bodies_in c.open_bodies (c.place + d) + bodies_at rest d
  pub cost : c.cost ≡ cost_before code c.place
  pub from : FromReps code c.place c.open_bodies

-- bodies stand within the bodies that they stand in
abbrev pub Nests : List Instr → Type 0
Nests code = (p n r times k : ℕ) → Spans code p n → Repeats code r times k → IsInBody r k p → p + n ≤ r + k

-- ---- closing

-- closing leaves the place
closed-place : (p m c : ℕ) (bs : List OpenBody) → (closed p m c bs).place ≡ p
closed-place p m c [] = refl
closed-place p m c (b ∷ bs) = by_test (closed-place p b.turns_outside c bs) (nat_lt p b.end)
  where
    by_test : (closed p b.turns_outside c bs).place ≡ p → (t : Bool) →
        (if t then record { place = p; turns = m; cost = c; open_bodies = b ∷ bs }
        else closed p b.turns_outside c bs).place ≡ p
    by_test e true = refl
    by_test e false = e

-- closing bodies at a place changes nothing from it on
pub record SameFrom (p m c : ℕ) (bs : List OpenBody) (now : Count) : Type 0 where
  pub place : now.place ≡ p
  pub cost : now.cost ≡ c
  pub turns : (q : ℕ) → p ≤ q → turns_in m bs q ≡ turns_in now.turns now.open_bodies q
  pub bodies : (q : ℕ) → p ≤ q → bodies_in bs q ≡ bodies_in now.open_bodies q
  pub lasting : IsOpen p now.open_bodies
  pub from : (code : List Instr) (at : ℕ) → FromReps code at bs → FromReps code at now.open_bodies

-- what closing bodies leaves says the same of later places
pub closed-same : (p m c : ℕ) (bs : List OpenBody) → SameFrom p m c bs (closed p m c bs)
closed-same p m c [] =
    record { place = refl; cost = refl; turns = λ q l. refl; bodies = λ q l. refl; lasting = tt; from = λ code at f. f }
closed-same p m c (b ∷ bs) = by_test (closed-same p b.turns_outside c bs) (nat_lt p b.end) refl
  where
    past : (q : ℕ) → p ≤ q → nat_lt p b.end ≡ false → nat_lt q b.end ≡ false
    past q l e = let f : b.end ≤ p = ltb-false p b.end e in not_before q (omega arith) (nat_lt q b.end) refl
      where
        not_before : (q : ℕ) → b.end ≤ q → (t : Bool) → nat_lt q b.end ≡ t → nat_lt q b.end ≡ false
        not_before q l true e = absurd (omega (arith, ltb-true q b.end e))
        not_before q l false e = e

    by_test : SameFrom p b.turns_outside c bs (closed p b.turns_outside c bs) → (t : Bool) → nat_lt p b.end ≡ t →
        SameFrom p m c (b ∷ bs)
        (if t then record { place = p; turns = m; cost = c; open_bodies = b ∷ bs } else closed p b.turns_outside c bs)
    by_test s true e = record {
      place = refl;
      cost = refl;
      turns = λ q l. refl;
      bodies = λ q l. refl;
      lasting = ltb-true p b.end e;
      from = λ code at f. f;
    }
    by_test s false e = record {
      place = s.place;
      cost = s.cost;
      turns = λ q l. ap (λ t. if t then m else turns_in b.turns_outside bs q) (past q l e) ∙ s.turns q l;
      bodies = λ q l. ap (λ t. if t then length (b ∷ bs) else bodies_in bs q) (past q l e) ∙ s.bodies q l;
      lasting = s.lasting;
      from = λ code at f. s.from code at f.1;
    }

-- the count after bodies are closed stands where it stood
pub stands-closed : (code : List Instr) (c : Count) (rest : List Instr) → CountStands code c rest →
    CountStands code (after_bodies c) rest × IsOpen c.place (after_bodies c).open_bodies
stands-closed code c rest s =
    let same : SameFrom c.place c.turns c.cost c.open_bodies (after_bodies c) =
    closed-same c.place c.turns c.cost c.open_bodies in (
      record {
        items = λ d. ap (λ p. slice_get code (p + d)) same.place ∙ s.items d;
        turns = λ d. ap (λ p. turns_at code (p + d)) same.place ∙ s.turns d
            ∙ ap (λ m. m * turns_at rest d)
            (same.turns (c.place + d) (omega arith)
            ∙ ap (λ p. turns_in (after_bodies c).turns (after_bodies c).open_bodies (p + d)) (sym same.place));
        bodies = λ d. ap (λ p. bodies_at code (p + d)) same.place ∙ s.bodies d
            ∙ ap (λ m. m + bodies_at rest d)
            (same.bodies (c.place + d) (omega arith)
            ∙ ap (λ p. bodies_in (after_bodies c).open_bodies (p + d)) (sym same.place));
        cost = same.cost ∙ s.cost ∙ ap (cost_before code) (sym same.place);
        from = subst (λ p. FromReps code p (after_bodies c).open_bodies) (sym same.place)
            (same.from code c.place s.from);
      },
      same.lasting,
    )

-- ---- at a place where no body ends

-- the place is come to as often as the count says
pub turns-here : (p m : ℕ) (bs : List OpenBody) → IsOpen p bs → turns_in m bs p ≡ m
turns-here p m [] lasting = refl
turns-here p m (b ∷ bs) lasting = ap (λ t. if t then m else turns_in b.turns_outside bs p) (lt-ltb p b.end lasting)

-- all open bodies are around the place
pub bodies-here : (p : ℕ) (bs : List OpenBody) → IsOpen p bs → bodies_in bs p ≡ length bs
bodies-here p [] lasting = refl
bodies-here p (b ∷ bs) lasting = ap (λ t. if t then length (b ∷ bs) else bodies_in bs p) (lt-ltb p b.end lasting)

-- the first place is come to once
turns_at-zero : (code : List Instr) → turns_at code 0 ≡ 1
turns_at-zero [] = refl
turns_at-zero (i ∷ code) = refl

-- the first place stands in no body
bodies_at-zero : (code : List Instr) → bodies_at code 0 ≡ 0
bodies_at-zero [] = refl
bodies_at-zero (i ∷ code) = refl

-- how often the place of a count is come to
pub turns-now : (code : List Instr) (c : Count) (rest : List Instr) → CountStands code c rest →
    IsOpen c.place c.open_bodies → turns_at code c.place ≡ c.turns
turns-now code c rest s lasting =
    let e : c.place + 0 ≡ c.place = omega arith in
    ap (turns_at code) (sym e) ∙ s.turns 0
    ∙ ap₂ (λ a b. a * b) (ap (turns_in c.turns c.open_bodies) e ∙ turns-here c.place c.turns c.open_bodies lasting)
    (turns_at-zero rest)
    ∙ mul-one c.turns

-- in how many bodies the place of a count stands
pub bodies-now : (code : List Instr) (c : Count) (rest : List Instr) → CountStands code c rest →
    IsOpen c.place c.open_bodies → bodies_at code c.place ≡ length c.open_bodies
bodies-now code c rest s lasting =
    let e : c.place + 0 ≡ c.place = omega arith in
    let here : bodies_in c.open_bodies (c.place + 0) ≡ length c.open_bodies =
    ap (bodies_in c.open_bodies) e ∙ bodies-here c.place c.open_bodies lasting in
    let all : bodies_at code (c.place + 0) ≡ bodies_in c.open_bodies (c.place + 0) + bodies_at rest 0 = s.bodies 0 in
    ap (bodies_at code) (sym e) ∙ omega (arith, all, here, bodies_at-zero rest)
