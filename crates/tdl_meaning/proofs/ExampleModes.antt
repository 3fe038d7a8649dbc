-- A mode of one invocation, and of at most one update or switch besides, is well-formed where its parts are.
use Rattle.std.proofs.Common.{nat_le, ◌≡◌, ℕ, zero, suc, ◌==◌, ◌+◌, ◌<◌, ◌≤◌, List, [], ◌∷◌, length, Bool, true, false, ◌||◌, ◌⊎◌, inl, inr, Some, refl, ap, sym, ◌∙◌, arith}
use Rattle.std.specs.Prelude.{slice_get, unwrap_or}
use Rattle.std.proofs.lemmas.Option.{slice_get_within}
use Rattle.std.proofs.lemmas.Bool.{eqb-true, leb-false}
use Rattle.std.proofs.Math.Bool.{or-false}
use Rattle.tdl_mode.specs.declared.program.Program.{Program}
use Rattle.tdl_mode.specs.declared.program.Module.{Module}
use Rattle.tdl_mode.specs.declared.program.Mode.{Mode}
use Rattle.tdl_mode.specs.declared.program.Invocation.{Invocation}
use Rattle.tdl_mode.specs.declared.program.Update.{Update}
use Rattle.tdl_mode.specs.declared.program.Switch.{Switch}
use Rattle.tdl_mode.specs.States.{invocation_of}
use Rattle.tdl_mode.specs.Imports.{is_among}
use Rattle.tdl_mode.specs.WellFormed.{WellInvocation, WellUpdate, WellSwitch, WellMode}
use Rattle.tdl_meaning.proofs.ExamplePlaces.{Each, from_each, from_each_number}
use Rattle.std.specs.List.{list_any}
use Rattle.tdl_base.specs.declared.numbers.ModuleId.{ModuleId}

-- what is asked of such a mode
pub record SmallMode (program : Program) (k : ℕ) (m : Module) (n : ℕ) (mode : Mode) : Type 0 where
  pub lasts : 0 < mode.period.0
  pub one_call : length mode.invocations ≤ 1
  pub one_more : length mode.updates + length mode.switches ≤ 1
  pub invocations : Each (λ q i. WellInvocation program k m mode i) mode.invocations
  pub updates : Each (λ q u. WellUpdate program k m mode u) mode.updates
  pub switches : Each (λ q w. WellSwitch program k m n mode w) mode.switches
  pub closed : Each (λ q (w : Switch). Each (λ r (i : Invocation). i.s.0 < w.at.0 → w.at.0 < i.e.0 → ⊥)
      mode.invocations) mode.switches
  pub calls_first : Each (λ q (i : Invocation). i.act ≡ 0) mode.invocations
  pub drivers_next : Each (λ q (u : Update). u.act ≡ 1) mode.updates
  pub turns_next : Each (λ q (w : Switch). w.act ≡ 1) mode.switches

-- two places of a list of at most one item are one
same_place : {A : Type 0} (xs : List A) (q r : ℕ) (a b : A) → length xs ≤ 1 →
    slice_get xs q ≡ Some a → slice_get xs r ≡ Some b → q ≡ r
same_place xs q r a b few at bt = omega (arith, few, slice_get_within xs q a at, slice_get_within xs r b bt)

-- and so are the items there
same_item : {A : Type 0} (xs : List A) (q r : ℕ) (a b : A) → length xs ≤ 1 →
    slice_get xs q ≡ Some a → slice_get xs r ≡ Some b → a ≡ b
same_item xs q r a b few at bt =
    ap (λ o. unwrap_or o a) (sym at ∙ ap (slice_get xs) (same_place xs q r a b few at bt) ∙ bt)

-- two invocations of a list of at most one have one number
same_number : (xs : List Invocation) (q r : ℕ) (i j : Invocation) → length xs ≤ 1 →
    invocation_of xs q ≡ Some i → invocation_of xs r ≡ Some j → q ≡ r
same_number xs zero r i j few at bt = absurd (cc at)
same_number xs (suc q) zero i j few at bt = absurd (cc bt)
same_number xs (suc q) (suc r) i j few at bt = ap (λ n. suc n) (same_place xs q r i j few at bt)

-- what is among one module's imports is that import
pub one_import : (i j : ℕ) → is_among i (record { 0 = j } ∷ []) ≡ true → i ≡ j
one_import i j e = sym (eqb-true j i (sym (or-false (j == i)) ∙ e))

-- where no module of a list is of number k or higher, what is among them is lower
pub among_lower : (k i : ℕ) (ms : List ModuleId) → list_any (λ (d : ModuleId). nat_le k d.0) ms ≡ false →
    is_among i ms ≡ true → i < k
among_lower k i [] none e = absurd (cc e)
among_lower k i (d ∷ ms) none e = by_tests (among_lower k i ms) (nat_le k d.0) refl (d.0 == i) refl
  where
    by_tests : (list_any (λ (d : ModuleId). nat_le k d.0) ms ≡ false → is_among i ms ≡ true → i < k) → (a : Bool) →
        nat_le k d.0 ≡ a → (b : Bool) → (d.0 == i) ≡ b → i < k
    by_tests rest true high b q = absurd (cc (none, ap (λ c. c || list_any (λ (d : ModuleId). nat_le k d.0) ms) high))
    by_tests rest false low true q = let lt = leb-false k d.0 low in let is = eqb-true d.0 i q in omega (arith, lt, is)
    by_tests rest false low false q = rest
        (sym (ap (λ c. c || list_any (λ (d : ModuleId). nat_le k d.0) ms) low) ∙ none)
        (sym (ap (λ c. c || is_among i ms) q) ∙ e)

-- what is among two modules is one of them
pub one_of_two : (i j k : ℕ) → is_among i (record { 0 = j } ∷ record { 0 = k } ∷ []) ≡ true → (i ≡ j) ⊎ (i ≡ k)
one_of_two i j k e = by_test (j == i) refl e
  where
    by_test : (t : Bool) → (j == i) ≡ t → (t || is_among i (record { 0 = k } ∷ [])) ≡ true → (i ≡ j) ⊎ (i ≡ k)
    by_test true is h = inl (sym (eqb-true j i is))
    by_test false is h = inr (one_import i k h)

-- a mode with such parts
pub small_mode : (program : Program) (k : ℕ) (m : Module) (n : ℕ) (mode : Mode) →
    SmallMode program k m n mode → WellMode program k m n mode
small_mode program k m n mode small = record {
  lasts = small.lasts;
  invocations = invoked;
  updates = from_each (λ q u. WellUpdate program k m mode u) mode.updates small.updates;
  switches = from_each (λ q w. WellSwitch program k m n mode w) mode.switches small.switches;
  apart = λ q r i j at bt task before after. same_number mode.invocations q r i j small.one_call at bt;
  once = λ q r u v at bt actuator offset. same_place mode.updates q r u v few_updates at bt;
  closed = λ q r w i at bt.
      from_each_number (λ r (i : Invocation). i.s.0 < w.at.0 → w.at.0 < i.e.0 → ⊥) mode.invocations
      (from_each (λ q (w : Switch). Each (λ r (i : Invocation). i.s.0 < w.at.0 → w.at.0 < i.e.0 → ⊥) mode.invocations)
      mode.switches small.closed q w at) r i bt;
  calls = λ q r i j at bt act.
      let same : i ≡ j = same_item mode.invocations q r i j small.one_call at bt in (
        ap (λ (a : Invocation). a.task.0) same,
        ap (λ (a : Invocation). a.args) same,
        ap (λ (a : Invocation). a.guard) same,
      );
  drivers = λ q r u v at bt act.
      let same : u ≡ v = same_item mode.updates q r u v few_updates at bt in
      (ap (λ (a : Update). a.actuator) same, ap (λ (a : Update). a.value) same, ap (λ (a : Update). a.guard) same);
  turns = λ q r w v at bt act.
      let same : w ≡ v = same_item mode.switches q r w v few_switches at bt in
      (ap (λ (a : Switch). a.target.0) same, ap (λ (a : Switch). a.guard) same);
  call_or_driver = λ q r i u at bt act. absurd (omega (
    arith,
    act,
    call_act q i at,
    from_each (λ q (u : Update). u.act ≡ 1) mode.updates small.drivers_next r u bt,
  ));
  call_or_turn = λ q r i w at bt act. absurd (omega (
    arith,
    act,
    call_act q i at,
    from_each (λ q (w : Switch). w.act ≡ 1) mode.switches small.turns_next r w bt,
  ));
  driver_or_turn = λ q r u w at bt act. absurd (omega (
    arith,
    small.one_more,
    slice_get_within mode.updates q u at,
    slice_get_within mode.switches r w bt,
  ));
}
  where
    few_updates : length mode.updates ≤ 1
    few_updates = omega (arith, small.one_more)

    few_switches : length mode.switches ≤ 1
    few_switches = omega (arith, small.one_more)

    invoked : (r : ℕ) (i : Invocation) → invocation_of mode.invocations r ≡ Some i → WellInvocation program k m mode i
    invoked = from_each_number (λ r i. WellInvocation program k m mode i) mode.invocations small.invocations

    call_act : (q : ℕ) (i : Invocation) → slice_get mode.invocations q ≡ Some i → i.act ≡ 0
    call_act = from_each (λ q (i : Invocation). i.act ≡ 0) mode.invocations small.calls_first
