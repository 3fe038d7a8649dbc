-- The outputs of one task that a stub holds after phase 1, by what its due entries hold.
use Rattle.std.proofs.Common.{◌≡◌, ℕ, zero, suc, ℤ, List, [], ◌∷◌, length, Bool, true, false, ◌==◌, Some, refl, ap, sym, ◌∙◌, inl, inr}
use Rattle.std.specs.Prelude.{◌⊎◌, slice_get, if◌then◌else◌}
use Rattle.std.proofs.lemmas.Bool.{eqb-true, eq-eqb}
use Rattle.std.proofs.lemmas.Option.{same_Some}
use Rattle.tdl_image.specs.declared.stub.Stub.{Stub}
use Rattle.tdl_image.specs.declared.stub.Receive.{Receive}
use Rattle.tdl_verify.specs.States.{EntryNow, stub_outputs}
use Rattle.tdl_verify.specs.Turns.{is_at, replaced_in}
use Rattle.tdl_gen.proofs.StubMoves.{taken_outputs}
use Rattle.tdl_verify.proofs.Replaced.{is_numbered, replaced-same, replaced-other, replaced-length}
use Rattle.tdl_meaning.specs.AllItems.{AllEntries}

module _ (x : ℕ) (p : Stub) (t : ℕ) where
  -- the due entries of this task hold these outputs
  abbrev pub Holds : List ℤ → Receive → EntryNow → Type 0
  Holds c e now = is_at x now.due ≡ true → e.task ≡ t → now.copy ≡ c

  -- the stub's outputs after one entry, due or not
  abbrev if_due : Bool → Receive → EntryNow → List (List ℤ) → List (List ℤ)
  if_due b e now outs = if b then replaced_in e.task now.copy p.tasks outs else outs

  -- they are as many as before
  if_length : (b : Bool) (e : Receive) (now : EntryNow) (outs : List (List ℤ)) →
      length (if_due b e now outs) ≡ length outs
  if_length true e now outs = replaced-length e.task now.copy p.tasks outs
  if_length false e now outs = refl

  -- phase 1 leaves as many outputs
  pub taken-length : (es : List Receive) (nows : List EntryNow) (outs : List (List ℤ)) →
      length (taken_outputs x p es nows outs) ≡ length outs
  taken-length [] nows outs = refl
  taken-length (e ∷ es) [] outs = refl
  taken-length (e ∷ es) (now ∷ more) outs = taken-length es more
      (if_due (is_at x now.due) e now outs)
      ∙ if_length (is_at x now.due) e now outs

  -- where no entry of the task is due its outputs stay
  pub taken_none : (es : List Receive) (nows : List EntryNow) (outs : List (List ℤ)) →
      AllEntries (λ e now. is_at x now.due ≡ true → e.task ≡ t → ⊥) es nows →
      stub_outputs t p.tasks (taken_outputs x p es nows outs) ≡ stub_outputs t p.tasks outs
  taken_none [] [] outs ps = refl
  taken_none [] (now ∷ more) outs ps = absurd ps
  taken_none (e ∷ es) [] outs ps = absurd ps
  taken_none (e ∷ es) (now ∷ more) outs ps =
      taken_none es more (if_due (is_at x now.due) e now outs) ps.1
      ∙ by_test (is_at x now.due) refl
    where
      by_test : (b : Bool) → is_at x now.due ≡ b →
          stub_outputs t p.tasks (if_due b e now outs) ≡ stub_outputs t p.tasks outs
      by_test true q = replaced-other t e.task now.copy (ps.0 q) p.tasks outs
      by_test false q = refl

  -- after one entry the outputs of the task are c, where they were or where the entry is due and of the task
  step-holds : is_numbered t p.tasks ≡ true → (c : List ℤ) (e : Receive) (now : EntryNow) → Holds c e now →
      (outs : List (List ℤ)) → length p.tasks ≡ length outs → (b : Bool) → is_at x now.due ≡ b →
      (stub_outputs t p.tasks outs ≡ c) ⊎ ((b ≡ true) × (e.task ≡ t)) →
      stub_outputs t p.tasks (if_due b e now outs) ≡ c
  step-holds has c e now h outs size false q (inl s) = s
  step-holds has c e now h outs size false q (inr s) = absurd (cc s.0)
  step-holds has c e now h outs size true q s = by_task (e.task == t) refl
    where
      old : (e.task ≡ t → ⊥) → (stub_outputs t p.tasks outs ≡ c) ⊎ ((true ≡ true) × (e.task ≡ t)) →
          stub_outputs t p.tasks outs ≡ c
      old ne (inl s) = s
      old ne (inr s) = absurd (ne s.1)

      by_task : (b : Bool) → (e.task == t) ≡ b → stub_outputs t p.tasks (replaced_in e.task now.copy p.tasks outs) ≡ c
      by_task true f =
          let g : e.task ≡ t = eqb-true e.task t f in
          ap (λ j. stub_outputs t p.tasks (replaced_in j now.copy p.tasks outs)) g
          ∙ replaced-same t now.copy p.tasks outs size has ∙ h q g
      by_task false f =
          let ne : e.task ≡ t → ⊥ = λ g. cc (eq-eqb e.task t g, f) in
          replaced-other t e.task now.copy ne p.tasks outs ∙ old ne s

  -- outputs that are c already stay, where each due entry of the task holds c
  taken_stays : is_numbered t p.tasks ≡ true → (c : List ℤ) (es : List Receive) (nows : List EntryNow)
      (outs : List (List ℤ)) → length p.tasks ≡ length outs → AllEntries (Holds c) es nows →
      stub_outputs t p.tasks outs ≡ c → stub_outputs t p.tasks (taken_outputs x p es nows outs) ≡ c
  taken_stays has c [] [] outs size ps s = s
  taken_stays has c [] (now ∷ more) outs size ps s = absurd ps
  taken_stays has c (e ∷ es) [] outs size ps s = absurd ps
  taken_stays has c (e ∷ es) (now ∷ more) outs size ps s =
      taken_stays has c es more (if_due (is_at x now.due) e now outs)
      (size ∙ sym (if_length (is_at x now.due) e now outs)) ps.1
      (step-holds has c e now ps.0 outs size (is_at x now.due) refl (inl s))

  -- the outputs of the task come to be c where an entry of it is due, and each that is due holds c
  pub taken_comes : is_numbered t p.tasks ≡ true → (c : List ℤ) (es : List Receive) (nows : List EntryNow)
      (outs : List (List ℤ)) → length p.tasks ≡ length outs → AllEntries (Holds c) es nows →
      (n : ℕ) (e : Receive) (now : EntryNow) → slice_get es n ≡ Some e → slice_get nows n ≡ Some now →
      is_at x now.due ≡ true → e.task ≡ t → stub_outputs t p.tasks (taken_outputs x p es nows outs) ≡ c
  taken_comes has c [] nows outs size ps n e now at at' due task = absurd (cc at)
  taken_comes has c (e' ∷ es) [] outs size ps n e now at at' due task = absurd ps
  taken_comes has c (e' ∷ es) (now' ∷ more) outs size ps zero e now at at' due task =
      taken_stays has c es more (if_due (is_at x now'.due) e' now' outs)
      (size ∙ sym (if_length (is_at x now'.due) e' now' outs)) ps.1
      (step-holds has c e' now' ps.0 outs size (is_at x now'.due) refl (inr (
        ap (λ (now : EntryNow). is_at x now.due) (same_Some now' now at') ∙ due,
        ap (λ (e : Receive). e.task) (same_Some e' e at) ∙ task,
      )))
  taken_comes has c (e' ∷ es) (now' ∷ more) outs size ps (suc n) e now at at' due task =
      taken_comes has c es more (if_due (is_at x now'.due) e' now' outs)
      (size ∙ sym (if_length (is_at x now'.due) e' now' outs)) ps.1 n e now at at' due task
