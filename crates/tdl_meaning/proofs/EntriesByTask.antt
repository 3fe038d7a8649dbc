-- The receive entries of the compiler's stubs stand task by task, each invocation once.
use Rattle.std.proofs.Common.{◌≡◌, ℕ, zero, suc, ◌+◌, ◌-◌, List, [], ◌∷◌, ◌++◌, length, Bool, true, false, ◌==◌, Some, refl, ap, sym, ◌∙◌, subst, inl, inr, arith}
use Rattle.std.specs.Prelude.{slice_get, if◌then◌else◌}
use Rattle.std.proofs.lemmas.Bool.{eq-eqb}
use Rattle.std.proofs.lemmas.Option.{same_Some}
use Rattle.tdl_base.specs.Lists.{numbered, joined}
use Rattle.tdl_mode.specs.declared.program.Module.{Module}
use Rattle.tdl_mode.specs.declared.program.Mode.{Mode}
use Rattle.tdl_mode.specs.declared.program.Task.{Task}
use Rattle.tdl_mode.specs.declared.program.Invocation.{Invocation}
use Rattle.tdl_mode.specs.States.{invocation_of}
use Rattle.tdl_deploy.specs.declared.schedule.Schedule.{Schedule}
use Rattle.tdl_deploy.specs.Placed.{is_remote}
use Rattle.tdl_image.specs.declared.stub.Receive.{Receive}
use Rattle.tdl_gen.specs.Tables.{bus_end, receives_in, receives}
use Rattle.tdl_base.proofs.ListPlaces.{In}
use Rattle.tdl_meaning.proofs.EntryOrder.{Ascending, ascending-from, ascending-distinct, ascending-append, renumber, ascending-renumbered, renumbered-append, unnumbered}
use Rattle.tdl_meaning.proofs.StubRows.{Segment, Grouped}
use Rattle.tdl_meaning.specs.Accepted.{Accepted}
use Rattle.tdl_meaning.proofs.ItemPlaces.{in-joined-at, numbered-at}

module _ (s : Schedule) (kk t : ℕ) where
  -- the entry of an invocation, not yet numbered
  abbrev entry_of : ℕ → ℕ → Invocation → Receive
  entry_of k n i = record { mode = k; invocation = n; task = t; delta = i.e.0 - bus_end s kk k n; block = 0 }

  -- the entry alone, where the invocation is of task t
  abbrev listed : ℕ → ℕ → Invocation → List Receive
  listed k n i = if i.task.0 == t then entry_of k n i ∷ [] else []

  -- the entries of a mode ascend
  mode-ascending : (k n : ℕ) (is : List Invocation) → Ascending k n (joined (numbered n (listed k) is))
  mode-ascending k n [] = tt
  mode-ascending k n (i ∷ is) = by_test (mode-ascending k (suc n) is) (i.task.0 == t)
    where
      by_test : Ascending k (suc n) (joined (numbered (suc n) (listed k) is)) → (b : Bool) →
          Ascending k n ((if b then entry_of k n i ∷ [] else []) ++ joined (numbered (suc n) (listed k) is))
      by_test rest true = (inr (refl, omega arith), rest)
      by_test rest false = ascending-from k n k (suc n) (joined (numbered (suc n) (listed k) is))
          (inr (refl, omega arith)) rest

  -- each entry of a mode is of the mode, and of task t
  mode-is : (k n : ℕ) (is : List Invocation) (j : ℕ) (e : Receive) →
      slice_get (joined (numbered n (listed k) is)) j ≡ Some e → (e.mode ≡ k) × (e.task ≡ t)
  mode-is k n [] j e at = absurd (cc at)
  mode-is k n (i ∷ is) j e at = by_test (mode-is k (suc n) is) (i.task.0 == t) j at
    where
      by_test : ((j : ℕ) (e : Receive) → slice_get (joined (numbered (suc n) (listed k) is)) j ≡ Some e →
          (e.mode ≡ k) × (e.task ≡ t)) → (b : Bool) (j : ℕ) →
          slice_get ((if b then entry_of k n i ∷ [] else []) ++ joined (numbered (suc n) (listed k) is)) j ≡ Some e →
          (e.mode ≡ k) × (e.task ≡ t)
      by_test rest true zero at =
          let same = sym (same_Some (entry_of k n i) e at) in
          (ap (λ (e : Receive). e.mode) same, ap (λ (e : Receive). e.task) same)
      by_test rest true (suc j) at = rest j e at
      by_test rest false j at = rest j e at

  -- the entries of all modes ascend
  modes-ascending : (k : ℕ) (modes : List Mode) → Ascending k 0 (joined (numbered k (receives_in s kk t) modes))
  modes-ascending k [] = tt
  modes-ascending k (mode ∷ modes) =
      ascending-append k 0 (suc k) 0 (receives_in s kk t k mode) (joined (numbered (suc k) (receives_in s kk t) modes))
      (inl (omega arith))
      (ascending-from k 0 k 1 (receives_in s kk t k mode) (inr (refl, omega arith))
      (mode-ascending k 1 mode.invocations))
      (λ j e at. let m = (mode-is k 1 mode.invocations j e at).0 in inl (omega (arith, m)))
      (modes-ascending (suc k) modes)

  -- each entry of all modes is of task t
  task-is : (k : ℕ) (modes : List Mode) (j : ℕ) (e : Receive) →
      slice_get (joined (numbered k (receives_in s kk t) modes)) j ≡ Some e → e.task ≡ t
  task-is k [] j e at = absurd (cc at)
  task-is k (mode ∷ modes) j e at = split (receives_in s kk t k mode)
      (λ j e at. (mode-is k 1 mode.invocations j e at).1) j at (task-is (suc k) modes)
    where
      split : (xs : List Receive) → ((j : ℕ) (e : Receive) → slice_get xs j ≡ Some e → e.task ≡ t) → (j : ℕ) →
          slice_get (xs ++ joined (numbered (suc k) (receives_in s kk t) modes)) j ≡ Some e →
          ((j : ℕ) (e : Receive) → slice_get (joined (numbered (suc k) (receives_in s kk t) modes)) j ≡ Some e →
          e.task ≡ t) → e.task ≡ t
      split [] own j at rest = rest j e at
      split (x ∷ xs) own zero at rest = own 0 e at
      split (x ∷ xs) own (suc j) at rest = split xs (λ j e at. own (suc j) e at) j at rest

  -- each invocation of task t has an entry
  has-entry : (modes : List Mode) (k n : ℕ) (mode : Mode) (i : Invocation) → slice_get modes k ≡ Some mode →
      slice_get mode.invocations n ≡ Some i → i.task.0 ≡ t →
      In (entry_of (0 + k) (1 + n) i) (joined (numbered 0 (receives_in s kk t) modes))
  has-entry modes k n mode i km ni task =
      in-joined-at (receives_in s kk t) 0 modes k mode (entry_of (0 + k) (1 + n) i) km
      (in-joined-at (listed (0 + k)) 1 mode.invocations n i (entry_of (0 + k) (1 + n) i) ni
      (subst (λ b. In (entry_of (0 + k) (1 + n) i) (if b then entry_of (0 + k) (1 + n) i ∷ [] else []))
      (sym (eq-eqb i.task.0 t task)) (record { place = 0; at = refl })))

module _ (given : Accepted) (kk : ℕ) (m : Module)
    (seen : (task : Task) → task.public ≡ true → is_remote given.program given.placement kk task ≡ true)
    (hidden : (task : Task) → task.public ≡ false → is_remote given.program given.placement kk task ≡ false) where
  -- the entries of task t, not yet numbered
  abbrev entries_of : ℕ → List Receive
  entries_of t = joined (numbered 0 (receives_in given.schedule kk t) m.modes)

  -- those that a stub has of it
  abbrev by_task : ℕ → Task → List Receive
  by_task t task = if is_remote given.program given.placement kk task then entries_of t else []

  -- the entries of one task, numbered: of the task, each invocation once, all where it is public
  one_segment : (r n : ℕ) (task : Task) → Segment m n task (numbered r renumber (by_task n task))
  one_segment r n task = by_public task.public refl
    where
      Goal : List Receive → Type 0
      Goal es = Segment m n task (numbered r renumber es)

      empty : task.public ≡ false → Goal []
      empty f = record {
        tasks = λ j e at. absurd (cc at);
        distinct = λ i j d e lt ai bj q v. cc ai;
        hidden = λ h. refl;
        all = λ h. absurd (cc (h, f));
      }

      full : task.public ≡ true → Goal (entries_of n)
      full f = record {
        tasks = λ j e at.
            let o = unnumbered r (entries_of n) j e at in
            o.task' ∙ task-is given.schedule kk n 0 m.modes o.within.place o.old o.within.at;
        distinct = ascending-distinct 0 0 (numbered r renumber (entries_of n))
            (ascending-renumbered 0 0 r (entries_of n) (modes-ascending given.schedule kk n 0 m.modes));
        hidden = λ h. absurd (cc (h, f));
        all = λ h k q mode i km qi task'. by_number k q mode i km qi task';
      }
        where
          by_number : (k q : ℕ) (mode : Mode) (i : Invocation) → slice_get m.modes k ≡ Some mode →
              invocation_of mode.invocations q ≡ Some i → i.task.0 ≡ n →
              (j : ℕ) × (e : Receive) × (slice_get (numbered r renumber (entries_of n)) j ≡ Some e) × (e.mode ≡ k)
              × (e.invocation ≡ q)
          by_number k zero mode i km qi task' = absurd (cc qi)
          by_number k (suc q) mode i km qi task' =
              let h = has-entry given.schedule kk n m.modes k q mode i km qi task' in
              let z : 0 + k ≡ k = omega arith in
              let y : 1 + q ≡ suc q = omega arith in
              (h.place, _, numbered-at renumber r (entries_of n) h.place _ h.at, z, y)

      by_public : (b : Bool) → task.public ≡ b → Goal (by_task n task)
      by_public true f = subst (λ b. Goal (if b then entries_of n else [])) (sym (seen task f)) (full f)
      by_public false f = subst (λ b. Goal (if b then entries_of n else [])) (sym (hidden task f)) (empty f)

  -- the entries of the tasks from number n on stand task by task
  grouped_from : (r n : ℕ) (ts : List Task) → Grouped m n ts (numbered r renumber (joined (numbered n by_task ts)))
  grouped_from r n [] = refl
  grouped_from r n (t ∷ ts) = record {
    front = numbered r renumber (by_task n t);
    back = numbered (r + length (by_task n t)) renumber (joined (numbered (suc n) by_task ts));
    is = renumbered-append r (by_task n t) (joined (numbered (suc n) by_task ts));
    segment = one_segment r n t;
    more = grouped_from (r + length (by_task n t)) (suc n) ts;
  }

  -- the receive entries of the compiler's stub stand task by task
  pub grouped : Grouped m 0 m.tasks (receives given.program given.placement given.schedule kk m)
  grouped = grouped_from 0 0 m.tasks
