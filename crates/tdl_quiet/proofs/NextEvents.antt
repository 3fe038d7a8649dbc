-- The next event of all modules.
use Rattle.std.proofs.Common.{◌≡◌, ℕ, zero, suc, ◌<◌, ◌≤◌, min, [], ◌∷◌, length, Bool, true, false, nat_le, Some, refl, ap, sym, ◌∙◌, subst, arith}
use Rattle.std.specs.Prelude.{slice_get}
use Rattle.std.proofs.lemmas.Bool.{leb-true, leb-false}
use Rattle.std.proofs.lemmas.Option.{same_Some}
use Rattle.std.proofs.Math.Nat.{min-eq_left, min-eq_right}
use Rattle.tdl_mode.specs.States.{ModuleState, State}
use Rattle.tdl_quiet.specs.Standing.{AllStand}
use Rattle.tdl_quiet.specs.Events.{is_called, next_of, next_event, IsNextEvent}
use Rattle.tdl_quiet.proofs.NextCalls.{next_of-above, next_call}

-- the next event is no later than the next call of any module
pub next_event-within : (state : State) (x k : ℕ) (m : ModuleState) → slice_get state k ≡ Some m →
    next_event state x ≤ next_of m x
next_event-within [] x k m at = absurd (cc at)
next_event-within (r ∷ []) x zero m at = let e = ap (λ q. next_of q x) (same_Some r m at) in omega (arith, e)
next_event-within (r ∷ []) x (suc k) m at = absurd (cc at)
next_event-within (r ∷ n ∷ more) x zero m at =
    let e : next_of r x ≡ next_of m x = ap (λ q. next_of q x) (same_Some r m at) in
    left (next_of r x) (next_event (n ∷ more) x) (next_of m x) e
  where
    left : (a b c : ℕ) → a ≡ c → min a b ≤ c
    left a b c e = omega (arith, e)
next_event-within (r ∷ n ∷ more) x (suc k) m at =
    right (next_of r x) (next_event (n ∷ more) x) (next_of m x) (next_event-within (n ∷ more) x k m at)
  where
    right : (a b c : ℕ) → b ≤ c → min a b ≤ c
    right a b c le = omega (arith, le)

-- the module whose next call is the next event
record Soonest (state : State) (x : ℕ) : Type 0 where
  place : ℕ
  item : ModuleState
  at : slice_get state place ≡ Some item
  is : next_event state x ≡ next_of item x

-- where there is a module, one of them is
soonest : (r : ModuleState) (more : State) (x : ℕ) → Soonest (r ∷ more) x
soonest r [] x = record { place = 0; item = r; at = refl; is = refl }
soonest r (n ∷ more) x = by_test (soonest n more x) (nat_le (next_of r x) (next_event (n ∷ more) x)) refl
  where
    by_test : Soonest (n ∷ more) x → (t : Bool) → nat_le (next_of r x) (next_event (n ∷ more) x) ≡ t →
        Soonest (r ∷ n ∷ more) x
    by_test rest true e = record {
      place = 0;
      item = r;
      at = refl;
      is = min-eq_left (leb-true (next_of r x) (next_event (n ∷ more) x) e);
    }
    by_test rest false e =
        let later = leb-false (next_of r x) (next_event (n ∷ more) x) e in
        record {
          place = suc rest.place;
          item = rest.item;
          at = rest.at;
          is = min-eq_right (omega (arith, later)) ∙ rest.is;
        }

-- the next event comes later
pub next_event-above : (state : State) (x : ℕ) → AllStand x state → x < next_event state x
next_event-above [] x stand = omega arith
next_event-above (r ∷ more) x stand =
    let s = soonest r more x in
    subst (λ n. x < n) (sym s.is) (next_of-above x s.item (stand s.place s.item s.at))

-- it is the first instant at which some module is called
pub next_event-is : (state : State) (x : ℕ) → AllStand x state → 0 < length state →
    IsNextEvent state x (next_event state x)
next_event-is [] x stand some = absurd (omega (arith, some))
next_event-is (r ∷ more) x stand some =
    let s = soonest r more x in
    let call = next_call x s.item (stand s.place s.item s.at) in
    record {
      place = s.place;
      item = s.item;
      at = s.at;
      called = ap (λ n. is_called n s.item) s.is ∙ call.called;
      above = next_event-above (r ∷ more) x stand;
      none = λ k y m at above below.
          (next_call x m (stand k m at)).none y above
          (sooner y (next_event (r ∷ more) x) (next_of m x) below (next_event-within (r ∷ more) x k m at));
    }
  where
    sooner : (y a b : ℕ) → y < a → a ≤ b → y < b
    sooner y a b lt le = omega (arith, lt, le)
