-- The outputs of a stub's tasks after a take.
use Rattle.std.proofs.Common.{◌≡◌, ℕ, suc, ℤ, List, [], ◌∷◌, length, Bool, true, false, ◌||◌, ◌==◌, Some, refl, ap, sym, ◌∙◌, arith}
use Rattle.std.specs.Prelude.{slice_get, if◌then◌else◌}
use Rattle.std.proofs.lemmas.Bool.{eqb-true}
use Rattle.tdl_image.specs.declared.stub.StubTask.{StubTask}
use Rattle.tdl_image.specs.declared.stub.Stub.{Stub}
use Rattle.tdl_image.specs.declared.stub.Receive.{Receive}
pub use Rattle.tdl_verify.specs.Laws.{is_numbered}
use Rattle.tdl_verify.specs.States.{EntryNow, StubNow, Part, stub_outputs}
use Rattle.tdl_verify.specs.Turns.{Acted, output_rows, replaced_in, take_acts}

-- the outputs of a task that were replaced are the copy
pub replaced-same : (t : ℕ) (copy : List ℤ) (tasks : List StubTask) (outs : List (List ℤ)) →
    length tasks ≡ length outs →
    is_numbered t tasks ≡ true → stub_outputs t tasks (replaced_in t copy tasks outs) ≡ copy
replaced-same t copy [] outs size h = absurd (cc h)
replaced-same t copy (k ∷ ks) [] size h = absurd (cc size)
replaced-same t copy (k ∷ ks) (o ∷ os) size h =
    by_test (replaced-same t copy ks os (omega (arith, size))) (k.number == t) h
  where
    by_test : (is_numbered t ks ≡ true → stub_outputs t ks (replaced_in t copy ks os) ≡ copy) →
        (b : Bool) → (b || is_numbered t ks) ≡ true →
        (if b then (if b then copy else o) else stub_outputs t ks (replaced_in t copy ks os)) ≡ copy
    by_test rest true h = refl
    by_test rest false h = rest h

-- the outputs of another task stay
pub replaced-other : (t v : ℕ) (copy : List ℤ) → (v ≡ t → ⊥) → (tasks : List StubTask) (outs : List (List ℤ)) →
    stub_outputs t tasks (replaced_in v copy tasks outs) ≡ stub_outputs t tasks outs
replaced-other t v copy ne [] outs = refl
replaced-other t v copy ne (k ∷ ks) [] = refl
replaced-other t v copy ne (k ∷ ks) (o ∷ os) =
    by_test (replaced-other t v copy ne ks os) (k.number == t) (k.number == v) refl refl
  where
    by_test : stub_outputs t ks (replaced_in v copy ks os) ≡ stub_outputs t ks os →
        (b c : Bool) → (k.number == t) ≡ b → (k.number == v) ≡ c →
        (if b then (if c then copy else o) else stub_outputs t ks (replaced_in v copy ks os))
        ≡ (if b then o else stub_outputs t ks os)
    by_test rest false c e f = rest
    by_test rest true false e f = refl
    by_test rest true true e f = absurd (ne (sym (eqb-true k.number v f) ∙ eqb-true k.number t e))

-- a stub has as many outputs as before
pub replaced-length : (t : ℕ) (copy : List ℤ) (tasks : List StubTask) (outs : List (List ℤ)) →
    length (replaced_in t copy tasks outs) ≡ length outs
replaced-length t copy [] outs = refl
replaced-length t copy (k ∷ ks) [] = refl
replaced-length t copy (k ∷ ks) (o ∷ os) = ap suc (replaced-length t copy ks os)

-- an entry that is there is taken: its copy becomes the outputs of its task
pub took-entry : (x node : ℕ) (p : Stub) (s : StubNow) (pc r : ℕ) (e : Receive) (now : EntryNow) →
    slice_get p.entries r ≡ Some e → slice_get s.entries r ≡ Some now →
    take_acts x node p s pc r ≡ Acted.On (Part.Outside p (record s {
      outputs =
          replaced_in e.task now.copy p.tasks s.outputs;
    }))
    (output_rows x node p.number.0 e.task now.copy) (suc pc)
took-entry x node p s pc r e now a b = rw (a, b) refl
