-- The rows of the entries that a stub takes at an instant.
use Rattle.std.proofs.Common.{◌≡◌, ℕ, zero, suc, ◌<◌, ℤ, List, [], ◌∷◌, ◌++◌, Bool, true, false, Option, Some, refl, ap, ap₂, sym, ◌∙◌, arith, append_assoc, append-nil}
use Rattle.std.specs.Prelude.{slice_get, unwrap_or, if◌then◌else◌}
use Rattle.tdl_image.specs.declared.stub.Stub.{Stub}
use Rattle.tdl_image.specs.declared.stub.Receive.{Receive}
use Rattle.tdl_verify.specs.States.{EntryNow}
use Rattle.tdl_verify.specs.Turns.{is_at, output_rows}
use Rattle.tdl_gen.proofs.StubMoves.{taken_rows}
use Rattle.tdl_meaning.specs.AllItems.{AllEntries}

-- the states of the entries of two lists, cut between them
pub record Halves (P : Receive → EntryNow → Type 0) (es1 es2 : List Receive) (nows : List EntryNow) : Type 0 where
  pub one : List EntryNow
  pub two : List EntryNow
  pub is : nows ≡ one ++ two
  pub first : AllEntries P es1 one
  pub second : AllEntries P es2 two

-- states of the entries of two lists can be cut
pub halves : (P : Receive → EntryNow → Type 0) (es1 es2 : List Receive) (nows : List EntryNow) →
    AllEntries P (es1 ++ es2) nows → Halves P es1 es2 nows
halves P [] es2 nows ps = record { one = []; two = nows; is = refl; first = tt; second = ps }
halves P (e ∷ es1) es2 [] ps = absurd ps
halves P (e ∷ es1) es2 (now ∷ more) ps =
    let h = halves P es1 es2 more ps.1 in
    record { one = now ∷ h.one; two = h.two; is = ap (λ l. now ∷ l) h.is; first = (ps.0, h.first); second = h.second }

-- the rows of two lists of entries, one after the other
pub rows-append : (P : Receive → EntryNow → Type 0) (x node : ℕ) (q : Stub) (es1 es2 : List Receive)
    (n1 n2 : List EntryNow) → AllEntries P es1 n1 →
    taken_rows x node q (es1 ++ es2) (n1 ++ n2) ≡ taken_rows x node q es1 n1 ++ taken_rows x node q es2 n2
rows-append P x node q [] es2 [] n2 ps = refl
rows-append P x node q [] es2 (now ∷ n1) n2 ps = absurd ps
rows-append P x node q (e ∷ es1) es2 [] n2 ps = absurd ps
rows-append P x node q (e ∷ es1) es2 (now ∷ n1) n2 ps =
    ap (λ l. (if is_at x now.due then output_rows x node q.number.0 e.task now.copy else []) ++ l)
    (rows-append P x node q es1 es2 n1 n2 ps.1)
    ∙ sym (append_assoc (if is_at x now.due then output_rows x node q.number.0 e.task now.copy else [])
    (taken_rows x node q es1 n1) (taken_rows x node q es2 n2))

-- where there is no entry, there are no rows
pub rows-empty : (x node : ℕ) (q : Stub) (es : List Receive) (nows : List EntryNow) → es ≡ [] →
    taken_rows x node q es nows ≡ []
rows-empty x node q [] nows e = refl
rows-empty x node q (d ∷ es) nows e = absurd (cc e)

-- where no entry is due, there are no rows
pub rows-none : (x node : ℕ) (q : Stub) (es : List Receive) (nows : List EntryNow) →
    AllEntries (λ e now. is_at x now.due ≡ true → ⊥) es nows → taken_rows x node q es nows ≡ []
rows-none x node q [] [] ps = refl
rows-none x node q [] (now ∷ more) ps = absurd ps
rows-none x node q (e ∷ es) [] ps = absurd ps
rows-none x node q (e ∷ es) (now ∷ more) ps = by_test (rows-none x node q es more ps.1) (is_at x now.due) refl
  where
    by_test : taken_rows x node q es more ≡ [] → (b : Bool) → is_at x now.due ≡ b →
        (if b then output_rows x node q.number.0 e.task now.copy else []) ++ taken_rows x node q es more ≡ []
    by_test rest true d = absurd (ps.0 d)
    by_test rest false d = rest

-- an entry that is due is of this mode, invocation and task, and its copy is this
abbrev pub IsThatDue : (x k n t : ℕ) → List ℤ → Receive → EntryNow → Type 0
IsThatDue x k n t outs e now = is_at x now.due ≡ true →
    (e.mode ≡ k) × (e.invocation ≡ n) × (e.task ≡ t) × (now.copy ≡ outs)

-- no two entries are of one mode and invocation
abbrev pub Distinct : List Receive → Type 0
Distinct es = (i j : ℕ) (d e : Receive) → i < j → slice_get es i ≡ Some d → slice_get es j ≡ Some e →
    d.mode ≡ e.mode → d.invocation ≡ e.invocation → ⊥

-- where all due entries are of one mode and invocation, and only one entry is of these, the rows are its copy
pub rows-one : (x node : ℕ) (q : Stub) (k n t : ℕ) (outs : List ℤ) (es : List Receive) (nows : List EntryNow) →
    AllEntries (IsThatDue x k n t outs) es nows → Distinct es →
    (j : ℕ) (e : Receive) (now : EntryNow) → slice_get es j ≡ Some e → slice_get nows j ≡ Some now →
    is_at x now.due ≡ true → taken_rows x node q es nows ≡ output_rows x node q.number.0 t outs
rows-one x node q k n t outs [] nows ps apart j e now at at' due = absurd (cc at)
rows-one x node q k n t outs (d ∷ es) [] ps apart j e now at at' due = absurd ps
rows-one x node q k n t outs (d ∷ es) (first ∷ more) ps apart zero e now at at' due =
    let here : is_at x first.due ≡ true = ap (λ (o : Option EntryNow). is_at x (unwrap_or o first).due) at' ∙ due in
    let f = ps.0 here in
    let none = rows-none x node q es more (others 0 es more ps.1
    (λ i e' lt. apart 0 (suc i) d e' (omega arith) refl lt) f.0 f.1) in
    ap₂ (λ b l. (if b then output_rows x node q.number.0 d.task first.copy else []) ++ l) here none
    ∙ append-nil (output_rows x node q.number.0 d.task first.copy)
    ∙ ap₂ (λ s c. output_rows x node q.number.0 s c) f.2 f.3
  where
    others : (s : ℕ) (es : List Receive) (nows : List EntryNow) →
        AllEntries (IsThatDue x k n t outs) es nows →
        ((i : ℕ) (e' : Receive) → slice_get es i ≡ Some e' → d.mode ≡ e'.mode → d.invocation ≡ e'.invocation → ⊥) →
        d.mode ≡ k → d.invocation ≡ n → AllEntries (λ e now. is_at x now.due ≡ true → ⊥) es nows
    others s [] [] ps far m i = tt
    others s [] (now ∷ more) ps far m i = absurd ps
    others s (e ∷ es) [] ps far m i = absurd ps
    others s (e ∷ es) (now ∷ more) ps far m i = (
      (λ due. let g = ps.0 due in far 0 e refl (m ∙ sym g.0) (i ∙ sym g.1)),
      others s es more ps.1 (λ j e' at. far (suc j) e' at) m i,
    )
rows-one x node q k n t outs (d ∷ es) (first ∷ more) ps apart (suc j) e now at at' due =
    by_test (rows-one x node q k n t outs es more ps.1
    (λ i l a b lt ai bl. apart (suc i) (suc l) a b (omega (arith, lt)) ai bl) j e now at at' due)
    (is_at x first.due) refl
  where
    due_at : (es : List Receive) (more : List EntryNow) (j : ℕ) →
        AllEntries (IsThatDue x k n t outs) es more → slice_get es j ≡ Some e → slice_get more j ≡ Some now →
        (e.mode ≡ k) × (e.invocation ≡ n)
    due_at [] more j ps at at' = absurd (cc at)
    due_at (c ∷ es) [] j ps at at' = absurd ps
    due_at (c ∷ es) (f ∷ more) zero ps at at' =
        let g = ps.0 (ap (λ (o : Option EntryNow). is_at x (unwrap_or o f).due) at' ∙ due) in (
          ap (λ (o : Option Receive). (unwrap_or o c).mode) (sym at) ∙ g.0,
          ap (λ (o : Option Receive). (unwrap_or o c).invocation) (sym at) ∙ g.1,
        )
    due_at (c ∷ es) (f ∷ more) (suc j) ps at at' = due_at es more j ps.1 at at'

    by_test : taken_rows x node q es more ≡ output_rows x node q.number.0 t outs → (b : Bool) → is_at x first.due ≡ b →
        (if b then output_rows x node q.number.0 d.task first.copy else []) ++ taken_rows x node q es more
        ≡ output_rows x node q.number.0 t outs
    by_test rest false f = rest
    by_test rest true f =
        let g = ps.0 f in
        let h = due_at es more j ps.1 at at' in
        absurd (apart 0 (suc j) d e (omega arith) refl at (g.0 ∙ sym h.0) (g.1 ∙ sym h.1))

-- what holds of each entry may be weakened, entry by entry
pub entries_weak : (P Q : Receive → EntryNow → Type 0) (es : List Receive) (nows : List EntryNow) →
    ((n : ℕ) (e : Receive) (now : EntryNow) → slice_get es n ≡ Some e → P e now → Q e now) → AllEntries P es nows →
    AllEntries Q es nows
entries_weak P Q [] [] f ps = tt
entries_weak P Q [] (now ∷ more) f ps = absurd ps
entries_weak P Q (e ∷ es) [] f ps = absurd ps
entries_weak P Q (e ∷ es) (now ∷ more) f ps =
    (f 0 e now refl ps.0, entries_weak P Q es more (λ n d now at. f (suc n) d now at) ps.1)
