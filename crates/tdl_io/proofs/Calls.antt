-- One more call moves the count of its own kind and name alone.
use Rattle.std.proofs.Common.{◌≡◌, ◌≢◌, ℕ, ◌+◌, List, [], ◌∷◌, ◌++◌, Bool, true, false, ◌&&◌, cond, count_by, refl, sym, ◌∙◌, arith}
use Rattle.std.specs.Prelude.{IsTrue}
use Rattle.std.specs.Str.{bytes_eq}
use Rattle.std.proofs.lemmas.List.Sums.{sum_by-append}
use Rattle.std.proofs.lemmas.Bool.{false_from_ne_true}
use Rattle.std.proofs.lemmas.Slice.Eq.{bytes_eq-Decides}
use Rattle.tdl_io.specs.MemFiles.{is_kind, failures_of}
use Rattle.tdl_io.specs.Outside.{Rose}
use Rattle.tdl_io.specs.declared.mem_files.Call.{Call}
use Rattle.tdl_io.specs.declared.mem_files.CallKind.{CallKind}
use Rattle.tdl_io.specs.declared.mem_files.CallKind.TheVariants.{Load, Save}

abbrev count_if : Bool → ℕ
count_if b = cond b 1 0

-- one more item counts by its test
count_by-push : {X : Type 0} (p : X → Bool) (xs : List X) (x : X) →
    count_by p (xs ++ x ∷ []) ≡ count_by p xs + (0 + count_if (p x))
count_by-push p xs x = sum_by-append (λ y. count_if (p y)) xs (x ∷ [])

-- an item that fails the test counts nothing
count_by-push_fails : {X : Type 0} (p : X → Bool) (xs : List X) (x : X) → p x ≡ false →
    count_by p (xs ++ x ∷ []) ≡ count_by p xs
count_by-push_fails p xs x fails = count_by-push p xs x ∙ rw fails (omega arith)

-- an item that passes the test counts one
count_by-push_passes : {X : Type 0} (p : X → Bool) (xs : List X) (x : X) → p x ≡ true →
    count_by p (xs ++ x ∷ []) ≡ count_by p xs + 1
count_by-push_passes p xs x passes = count_by-push p xs x ∙ rw passes refl

-- a kind is the same as itself
is_kind-same : (kind : CallKind) → is_kind kind kind ≡ true
is_kind-same Load = refl
is_kind-same Save = refl

-- other kinds are not the same
is_kind-other : (other kind : CallKind) → other ≢ kind → is_kind other kind ≡ false
is_kind-other Load Load differ = absurd (differ refl)
is_kind-other Load Save differ = refl
is_kind-other Save Load differ = refl
is_kind-other Save Save differ = absurd (differ refl)

-- a call of another name is no failure of this one
not_of_other : (failed : Bool) (name other : List ℕ) → other ≢ name → (failed && bytes_eq name other) ≡ false
not_of_other true name other differ =
    false_from_ne_true (bytes_eq name other) (λ same. differ (sym ((bytes_eq-Decides name other).0 same)))
not_of_other false name other differ = refl

-- a call of another kind is no failure of this one
not_of_kind : (failed same_kind same_name : Bool) → same_kind ≡ false → (failed && same_kind && same_name) ≡ false
not_of_kind true true same_name differ = absurd (cc)
not_of_kind true false same_name differ = refl
not_of_kind false same_kind same_name differ = refl

-- a call of this kind and name that failed is a failure of them
of_own : (failed : Bool) (kind : CallKind) (name : List ℕ) → IsTrue failed →
    (failed && is_kind kind kind && bytes_eq name name) ≡ true
of_own true kind name is = rw (is_kind-same kind) ((bytes_eq-Decides name name).1 refl)
of_own false kind name is = absurd (cc)

module _ (before now : List Call) (call : Call) (grown : now ≡ before ++ call ∷ []) where
  -- after one more call of a name the counts of the others are the same
  pub others_stay : (kind : CallKind) (name other : List ℕ) → call.name ≡ name → other ≢ name →
      failures_of kind now other ≡ failures_of kind before other
  others_stay kind name other own differ =
      rw grown
      (count_by-push_fails _ before call
      (not_of_other (call.failed && is_kind kind call.kind) call.name other (rw own differ)))

  -- after one more call of a kind the counts of the others are the same
  pub other_kinds_stay : (kind : CallKind) (name : List ℕ) → kind ≢ call.kind →
      failures_of kind now name ≡ failures_of kind before name
  other_kinds_stay kind name differ =
      rw grown (count_by-push_fails _ before call (not_of_kind call.failed _ _ (is_kind-other kind call.kind differ)))

  -- after one more failed call the count of its kind and name has risen
  pub own_rose : (name : List ℕ) → call.name ≡ name → IsTrue call.failed →
      Rose (failures_of call.kind before name) (failures_of call.kind now name)
  own_rose name own failed =
      let more : failures_of call.kind now name ≡ failures_of call.kind before name + 1 =
      rw (grown, ← own) (count_by-push_passes _ before call (of_own call.failed call.kind call.name failed)) in
      omega arith
