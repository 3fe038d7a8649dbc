-- Parts of a program that are looked up by their own names.
use Rattle.std.proofs.Common.{◌≡◌, ◌<◌, ◌≤◌, ◌+◌, ◌^◌, ℕ, zero, suc, Bool, true, false, List, [], ◌∷◌, Some, option_map, refl, ap, ◌∙◌, arith}
use Rattle.std.specs.Prelude.{if◌then◌else◌, nat_le, slice_get, bytes_eq}
use Rattle.std.proofs.lemmas.Bool.{le-leb}
use Rattle.std.proofs.lemmas.Option.{same_Some}
use Rattle.std.proofs.lemmas.Slice.Eq.{bytes_eq-Decides}
use Rattle.tdl_mode.specs.declared.program.Program.{Program}
use Rattle.tdl_mode.specs.declared.program.Module.{Module}
use Rattle.tdl_mode.specs.declared.program.Mode.{Mode}
use Rattle.tdl_sched.specs.GoodSchedules.{IsThere, WellNamed}
use Rattle.tdl_sched.specs.Looked.{short, first_from, called}

-- what passes alone is found, at its number counted from k
found : {A : Type 0} (p : A → Bool) (xs : List A) (k place number : ℕ) (x : A) → slice_get xs place ≡ Some x →
    p x ≡ true → ((j : ℕ) (y : A) → slice_get xs j ≡ Some y → p y ≡ true → j ≡ place) →
    k + place ≡ number → number ≤ 65535 → first_from p k xs ≡ Some (number, x)
found p [] k place number x at passes alone is few = absurd (cc at)
found p (y ∷ ys) k zero number x at passes alone is few =
    let same : y ≡ x = same_Some y x at in
    let test : p y ≡ true = ap p same ∙ passes in
    let place : k ≡ number = omega (arith, is) in
    let fits : nat_le k 65535 ≡ true = le-leb k 65535 (omega (arith, few, place)) in
    rw (test, fits) (ap (λ (n : ℕ). Some (n, y)) place ∙ ap (λ (z : _). Some (number, z)) same)
found p (y ∷ ys) k (suc place) number x at passes alone is few =
    by_test (p y) refl
    (found p ys (k + 1) place number x at passes
    (λ j z there so. omega (arith, alone (suc j) z there so)) (omega (arith, is)) few)
  where
    by_test : (t : Bool) → p y ≡ t → first_from p (k + 1) ys ≡ Some (number, x) →
        (if t then option_map (λ n. (n, y)) (short k) else first_from p (k + 1) ys) ≡ Some (number, x)
    by_test true e rest = absurd (omega (arith, alone 0 y refl e))
    by_test false e rest = rest

-- a name is itself
same_name : (a b : List ℕ) → a ≡ b → bytes_eq a b ≡ true
same_name a b = (bytes_eq-Decides a b).1

-- names that test equal are
one_name : (a b : List ℕ) → bytes_eq a b ≡ true → a ≡ b
one_name a b = (bytes_eq-Decides a b).0

-- what is called by the parts that are found
called_of : (program : Program) (a b : List ℕ) (m k n : ℕ) (is : IsThere program m k n) →
    first_from (λ (x : Module). bytes_eq x.name a) 0 program.modules ≡ Some (m, is.owner) →
    first_from (λ (x : Mode). bytes_eq x.name b) 0 is.owner.modes ≡ Some (k, is.mode) → nat_le n 65535 ≡ true →
    called program a b n
    ≡ Some (record { «module» = record { 0 = m }; mode = record { 0 = k }; invocation = n })
called_of program a b m k n is owner mode fits = rw (owner, mode, fits, is.invocation_at) refl

-- an invocation that is there is found by its names
pub called-there : (program : Program) (m k n : ℕ) (is : IsThere program m k n) → WellNamed program →
    m < 2 ^ 16 → k < 2 ^ 16 → n < 2 ^ 16 →
    called program is.owner.name is.mode.name n
    ≡ Some (record { «module» = record { 0 = m }; mode = record { 0 = k }; invocation = n })
called-there program m k n is named m_fits k_fits n_fits =
    called_of program is.owner.name is.mode.name m k n is
    (found (λ (x : Module). bytes_eq x.name is.owner.name) program.modules 0 m m is.owner is.owner_at
    (same_name is.owner.name is.owner.name refl)
    (λ j y there same. named.owners j m y is.owner there is.owner_at (one_name y.name is.owner.name same))
    (omega arith) (omega (arith, m_fits)))
    (found (λ (x : Mode). bytes_eq x.name is.mode.name) is.owner.modes 0 k k is.mode is.mode_at
    (same_name is.mode.name is.mode.name refl)
    (λ j y there same.
    named.modes m j k is.owner y is.mode is.owner_at there is.mode_at (one_name y.name is.mode.name same))
    (omega arith) (omega (arith, k_fits)))
    (le-leb n 65535 (omega (arith, n_fits)))
