-- 'Comes before' is a total order of faults.
use Rattle.std.proofs.Common.{◌≡◌, ℕ, ◌≤◌, Bool, true, false, nat_lt, inl, inr, refl, sym, ◌∙◌, arith}
use Rattle.std.proofs.lemmas.Bool.{cases_Bool, false≢true}
use Rattle.std.proofs.lemmas.Bool.Decides.{nat_tests}
use Rattle.tdl_rules.specs.declared.fault.Fault.{Fault}
use Rattle.tdl_rules.specs.Earliest.{key_before, is_before}

-- a key that does not come before another is at least that, and where they are equal the rest decides
key_before-false : (a b : ℕ) (rest : Bool) → key_before b a rest ≡ false → (a ≤ b) × (b ≡ a → rest ≡ false)
key_before-false a b rest h = (grind (arith, nat_tests), λ e. grind (arith, nat_tests))

-- and the other way round
key_before-make : (a b : ℕ) (rest : Bool) → a ≤ b → (b ≡ a → rest ≡ false) → key_before b a rest ≡ false
key_before-make a b true le h = grind (arith, nat_tests)
key_before-make a b false le h = grind (arith, nat_tests)

-- one key more keeps that 'does not come before' is transitive
key_before-trans : (a b c : ℕ) (r s t : Bool) → (r ≡ false → s ≡ false → t ≡ false) →
    key_before b a r ≡ false → key_before c b s ≡ false → key_before c a t ≡ false
key_before-trans a b c r s t rest x y =
    let p = key_before-false a b r x in
    let q = key_before-false b c s y in
    key_before-make a c t (omega (arith, p.0, q.0))
    (λ e. rest (p.1 (omega (arith, p.0, q.0))) (q.1 (omega (arith, p.0, q.0))))

-- so for numbers
nat_lt-trans : (a b c : ℕ) → nat_lt b a ≡ false → nat_lt c b ≡ false → nat_lt c a ≡ false
nat_lt-trans a b c x y = grind (arith, nat_tests)

-- where g does not come before f, and h not before g, h does not come before f
pub is_before-trans : (f g h : Fault) → is_before g f ≡ false → is_before h g ≡ false → is_before h f ≡ false
is_before-trans f g h =
    key_before-trans f.file g.file h.file _ _ _
    (key_before-trans f.line g.line h.line _ _ _
    (key_before-trans f.col g.col h.col _ _ _ (nat_lt-trans f.rule g.rule h.rule)))

-- nothing comes before itself
pub is_before-self : (f : Fault) → is_before f f ≡ false
is_before-self f = grind (arith, nat_tests)

-- of two numbers one is not below the other
nat_lt-asym : (a b : ℕ) → nat_lt b a ≡ true → nat_lt a b ≡ false
nat_lt-asym a b h = grind (arith, nat_tests)

-- one key more keeps that only one of two comes before the other
key_before-asym : (a b : ℕ) (r s : Bool) → (r ≡ true → s ≡ false) → key_before b a r ≡ true → key_before a b s ≡ false
key_before-asym a b true true rest h = let e = rest refl in absurd (false≢true (sym e))
key_before-asym a b false true rest h = grind (arith, nat_tests)
key_before-asym a b r false rest h = grind (arith, nat_tests)

-- of two faults only one comes before the other
pub is_before-asym : (f g : Fault) → is_before g f ≡ true → is_before f g ≡ false
is_before-asym f g =
    key_before-asym f.file g.file _ _
    (key_before-asym f.line g.line _ _ (key_before-asym f.col g.col _ _ (nat_lt-asym f.rule g.rule)))

-- numbers of which none is below the other are equal
nat_lt-same : (a b : ℕ) → nat_lt a b ≡ false → nat_lt b a ≡ false → a ≡ b
nat_lt-same a b x y = grind (arith, nat_tests)

-- keys of which none comes before the other are equal, and the rest decides neither way
key_before-same : (a b : ℕ) (r s : Bool) → key_before a b r ≡ false → key_before b a s ≡ false →
    (a ≡ b) × ((r ≡ false) × (s ≡ false))
key_before-same a b r s x y =
    let p = key_before-false b a r x in
    let q = key_before-false a b s y in
    let same : a ≡ b = omega (arith, p.0, q.0) in
    (same, (p.1 same, q.1 (sym same)))

-- faults of which none comes before the other are one
pub is_before-same : (f g : Fault) → is_before f g ≡ false → is_before g f ≡ false → f ≡ g
is_before-same f g x y =
    let file = key_before-same f.file g.file _ _ x y in
    let line = key_before-same f.line g.line _ _ file.1.0 file.1.1 in
    let col = key_before-same f.col g.col _ _ line.1.0 line.1.1 in
    let rule = nat_lt-same f.rule g.rule col.1.0 col.1.1 in
    λ i. record { rule = rule i; file = file.0 i; line = line.0 i; col = col.0 i }

-- where f comes before b, and g before f, g comes before b
pub is_before-chain : (b f g : Fault) → is_before f b ≡ true → is_before g f ≡ true → is_before g b ≡ true
is_before-chain b f g x y =
    elim (cases_Bool (is_before g b)) [
      | inl z ↦ z
      | inr z ↦ absurd (false≢true (sym (is_before-trans f b g (is_before-asym b f x) z) ∙ y))
    ]
