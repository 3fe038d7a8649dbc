-- What codes cost and how deep their repetitions stand in one another, whatever code follows.
use Rattle.std.proofs.Common.{◌≡◌, ℕ, suc, ◌+◌, ◌*◌, ◌<◌, ◌≤◌, nat_lt, Bool, true, false, List, [], ◌∷◌, ◌++◌, length, max, refl, sym, ap, ap₂, ◌∙◌, subst, arith, lt-ltb, ltb-true, if◌then◌else◌, mul_assoc, mul-add, append_assoc}
use Rattle.std.proofs.lemmas.List.{length-append}
use Rattle.tdl_stack.specs.declared.limits.TheConstants.{NESTED_BODIES, CODE_COST}
use Rattle.tdl_stack.specs.declared.bodies.OpenBody.{OpenBody}
use Rattle.tdl_stack.specs.declared.instr.Instr.{Instr}
use Rattle.tdl_stack.specs.declared.instr.Instr.TheVariants.{Rep}
use Rattle.tdl_stack.specs.Counting.{Count, closed, after_bodies, counted, HasRoom, CountsAt, Counts}

-- no open body ends before a place
abbrev EndFrom : ℕ → List OpenBody → Type 0
EndFrom place [] = Unit {0}
EndFrom place (b ∷ bodies) = (place ≤ b.end) × EndFrom place bodies

-- nor before an earlier one
earlier : (p q : ℕ) (bodies : List OpenBody) → p ≤ q → EndFrom q bodies → EndFrom p bodies
earlier p q [] le ends = tt
earlier p q (b ∷ bodies) le ends = (omega (arith, ends.0), earlier p q bodies le ends.1)

-- the count after a code that costs k
abbrev pub moved : (length k : ℕ) → Count → Count
moved n k c =
    record { place = c.place + n; turns = c.turns; cost = c.cost + c.turns * k; open_bodies = c.open_bodies }

-- a code that costs k, with so many bodies in one another, can be counted before any other code
pub record CountsThrough (k levels : ℕ) (code : List Instr) : Type 0 where
  pub through : (c : Count) (rest : List Instr) → EndFrom (c.place + length code) c.open_bodies →
      c.cost + c.turns * k ≤ CODE_COST → length c.open_bodies + levels ≤ NESTED_BODIES →
      Counts (moved (length code) k c) rest → Counts c (code ++ rest)

-- bodies that end later stay open
closed-open : (p t k : ℕ) (bodies : List OpenBody) → EndFrom (suc p) bodies →
    closed p t k bodies ≡ record { place = p; turns = t; cost = k; open_bodies = bodies }
closed-open p t k [] ends = refl
closed-open p t k (b ∷ bodies) ends =
    let e : nat_lt p b.end ≡ true = lt-ltb p b.end ends.0 in
    ap (λ x. if x then (record { place = p; turns = t; cost = k; open_bodies = b ∷ bodies }) else closed p b.turns_outside k bodies) e

-- a body that ends here is closed
closed-ended : (p t k outside : ℕ) (bodies : List OpenBody) →
    closed p t k (record { end = p; turns_outside = outside } ∷ bodies) ≡ closed p outside k bodies
closed-ended p t k outside bodies =
    ap (λ x. if x then (record { place = p; turns = t; cost = k; open_bodies = record { end = p; turns_outside = outside } ∷ bodies }) else closed p outside k bodies)
    (by_test (nat_lt p p) refl)
  where
    by_test : (x : Bool) → nat_lt p p ≡ x → nat_lt p p ≡ false
    by_test false e = e
    by_test true e = absurd (omega (arith, ltb-true p p e))

-- an instruction, and those after it, can be counted where no body ends
abbrev CountsNext : Instr → List Instr → Count → Type 0
CountsNext i code c = CountsAt i c × Counts (counted i c) code

-- what can be counted depends on the bodies that are still open alone
same_counts : (c d : Count) (code : List Instr) → after_bodies c ≡ after_bodies d → Counts c code → Counts d code
same_counts c d [] e counts = tt
same_counts c d (i ∷ code) e counts = subst (λ x. CountsNext i code x) e counts

-- an empty code costs nothing
pub counts-nothing : CountsThrough 0 0 []
counts-nothing = record {
  through = λ c rest ends cost levels after.
      subst (λ x. Counts x rest) (ap₂ (λ p k. record { place = p; turns = c.turns; cost = k; open_bodies = c.open_bodies })
      (omega arith) (omega arith)) after;
}

-- an instruction that opens no body costs one
pub counts-plain : (i : Instr) → ((c : Count) → HasRoom i c × (counted i c ≡ record { place = suc c.place; turns = c.turns; cost = c.cost + c.turns; open_bodies = c.open_bodies })) →
    CountsThrough 1 0 (i ∷ [])
counts-plain i plain = record {
  through = λ c rest ends cost levels after.
      let ends' : EndFrom (suc c.place) c.open_bodies = earlier _ _ c.open_bodies (omega arith) ends in
      let still : after_bodies c ≡ c = closed-open c.place c.turns c.cost c.open_bodies ends' in
      let next : moved 1 1 c ≡ counted i c =
      ap₂ (λ p k. record { place = p; turns = c.turns; cost = k; open_bodies = c.open_bodies }) (omega arith) (omega arith)
      ∙ sym (plain c).1 in
      let fits : c.cost + c.turns ≤ CODE_COST = omega (arith, cost) in
      subst (CountsNext i rest) (sym still)
      ((fits, (plain c).0), subst (λ x. Counts x rest) next after);
}

-- one code after another
pub counts-both : (j k l m : ℕ) (first second : List Instr) → CountsThrough j l first → CountsThrough k m second →
    CountsThrough (j + k) (max l m) (first ++ second)
counts-both j k l m first second one two = record {
  through = λ c rest ends cost levels after.
      let n : length (first ++ second) ≡ length first + length second = length-append first second in
      let d : c.turns * (j + k) ≡ c.turns * j + c.turns * k = mul-add c.turns j k in
      let next : moved (length (first ++ second)) (j + k) c ≡ moved (length second) k (moved (length first) j c) =
      ap₂ (λ p q. record { place = p; turns = c.turns; cost = q; open_bodies = c.open_bodies }) (omega (arith, n)) (omega (arith, d)) in
      subst (Counts c) (sym (append_assoc first second rest))
      (one.through c (second ++ rest) (earlier _ _ c.open_bodies (omega (arith, n)) ends) (omega (arith, d, cost)) (omega arith)
      (two.through (moved (length first) j c) rest (earlier _ _ c.open_bodies (omega (arith, n)) ends) (omega (arith, d, cost)) (omega arith)
      (subst (λ x. Counts x rest) next after)));
}

-- a repetition
pub counts-rep : (times k l : ℕ) (block : List Instr) → CountsThrough k l block →
    CountsThrough (times * k + 1) (l + 1) (Rep times (length block) ∷ block)
counts-rep times k l block body = record {
  through = λ c rest ends cost levels after.
      let n : ℕ = length block in
      let ends' : EndFrom (suc c.place) c.open_bodies = earlier _ _ c.open_bodies (omega arith) ends in
      let still : after_bodies c ≡ c = closed-open c.place c.turns c.cost c.open_bodies ends' in
      let e : c.turns * (times * k + 1) ≡ c.turns * times * k + c.turns =
      mul-add c.turns (times * k) 1 ∙ ap₂ (λ a b. a + b) (sym (mul_assoc c.turns times k)) (omega arith) in
      let inside : Count = counted (Rep times n) c in
      let p : suc (c.place + n) ≡ c.place + suc n = omega arith in
      let p' : suc c.place + n ≡ suc (c.place + n) = omega arith in
      let same : after_bodies (moved (suc n) (times * k + 1) c) ≡ after_bodies (moved n k inside) =
      ap₂ (λ a b. closed a c.turns b c.open_bodies) (omega arith) (omega (arith, e))
      ∙ sym (closed-ended (suc (c.place + n)) (c.turns * times) (c.cost + c.turns + c.turns * times * k) c.turns c.open_bodies)
      ∙ ap (λ a. closed a (c.turns * times) (c.cost + c.turns + c.turns * times * k) (record { end = suc (c.place + n); turns_outside = c.turns } ∷ c.open_bodies)) (sym p') in
      let fits : c.cost + c.turns ≤ CODE_COST = omega (arith, e, cost) in
      let room : length c.open_bodies < NESTED_BODIES = omega arith in
      subst (CountsNext (Rep times n) (block ++ rest)) (sym still) (
        (fits, room),
        body.through inside rest (omega arith, earlier _ _ c.open_bodies (omega arith) ends) (omega (arith, e, cost)) (omega arith)
            (same_counts (moved (suc n) (times * k + 1) c) (moved n k inside) rest same after),
      );
}

-- more bodies may stand in one another
pub counts-more_levels : (k l m : ℕ) (code : List Instr) → l ≤ m → CountsThrough k l code → CountsThrough k m code
counts-more_levels k l m code more counts = record {
  through = λ c rest ends cost levels after. counts.through c rest ends cost (omega arith) after;
}
