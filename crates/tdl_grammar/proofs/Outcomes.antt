-- Outcomes of parsers, and what a test sees of a list.
use Rattle.std.proofs.Common.{◌≡◌, ◌⊎◌, inl, inr, Bool, true, false, cond, List, [], ◌∷◌, ◌++◌, Ok, Err, refl, ap}
use Rattle.tdl_grammar.specs.Parsing.{Outcome, ◌>>=◌, opens}

-- what was read in two steps
pub bind_ok : {T A B : Type 0} (o : Outcome T A) (f : A × List T → Outcome T B) (y : B × List T) →
    (o >>= f) ≡ Ok y → (x : A × List T) × (o ≡ Ok x) × (f x ≡ Ok y)
bind_ok (Ok x) f y e = (x, refl, e)
bind_ok (Err d) f y e = absurd (cc e)

-- where two steps failed
pub bind_err : {T A B : Type 0} (o : Outcome T A) (f : A × List T → Outcome T B) (d : List T) →
    (o >>= f) ≡ Err d → (o ≡ Err d) ⊎ ((x : A × List T) × (o ≡ Ok x) × (f x ≡ Err d))
bind_err (Ok x) f d e = inr (x, refl, e)
bind_err {T} {A} (Err c) f d e =
    let g : c ≡ d = cc e in inl (ap (λ (z : List T). let o : Outcome T A = Err z in o) g)

-- what is read
abbrev given : {T A : Type 0} → A × List T → Outcome T A
given x = Ok x

-- one outcome has one tree and one rest
pub given_is : {T A : Type 0} (x y : A × List T) → given x ≡ given y → x ≡ y
given_is x y e = cc e

-- which of the two was chosen
pub chosen : {X : Type 0} (b : Bool) (x y z : X) → cond b x y ≡ z → ((b ≡ true) × (x ≡ z)) ⊎ ((b ≡ false) × (y ≡ z))
chosen true x y z e = inl (refl, e)
chosen false x y z e = inr (refl, e)

-- a test holds or not
pub bool_is : (b : Bool) → (b ≡ true) ⊎ (b ≡ false)
bool_is true = inl refl
bool_is false = inr refl

-- a test that neither of two holds is held by none of them
pub any_false : (b c : Bool) → cond b true c ≡ false → (b ≡ false) × (c ≡ false)
any_false true c e = absurd (cc e)
any_false false c e = (refl, e)

-- what holds of the second of two tests holds of one of them
pub any_right : (b c : Bool) → c ≡ true → cond b true c ≡ true
any_right true c e = refl
any_right false c e = e

-- a test sees the next token alone
pub opens_again : {T : Type 0} (s : T → Bool) (front : List T) (t : T) (r other : List T) →
    opens s (front ++ t ∷ other) ≡ opens s (front ++ t ∷ r)
opens_again s [] t r other = refl
opens_again s (f ∷ fs) t r other = refl

-- and sees no further than a list that it begins
pub opens-append : {T : Type 0} (s : T → Bool) (front more : List T) → opens s front ≡ true →
    opens s (front ++ more) ≡ true
opens-append s [] more e = absurd (cc e)
opens-append s (f ∷ fs) more e = e
