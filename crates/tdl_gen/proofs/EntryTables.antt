-- The receive entries of the compiler's stubs: where each comes from, and that its block is its own.
use Rattle.std.proofs.Common.{◌≡◌, ℕ, zero, suc, ◌+◌, ◌-◌, ◌≤◌, List, [], ◌∷◌, ◌++◌, map, Bool, true, false, ◌==◌, Some, refl, ap, ap₂, sym, ◌∙◌, subst, inl, inr, arith}
use Rattle.std.specs.Prelude.{◌⊎◌, slice_get, option_map, if◌then◌else◌}
use Rattle.std.proofs.lemmas.Bool.{eqb-true}
use Rattle.std.proofs.lemmas.Option.{slice_get-map, same_Some}
use Rattle.tdl_base.specs.Lists.{numbered, joined}
use Rattle.tdl_mode.specs.declared.program.Program.{Program}
use Rattle.tdl_mode.specs.declared.program.Module.{Module}
use Rattle.tdl_mode.specs.declared.program.Mode.{Mode}
use Rattle.tdl_mode.specs.declared.program.Task.{Task}
use Rattle.tdl_mode.specs.declared.program.Invocation.{Invocation}
use Rattle.tdl_deploy.specs.declared.placement.Placement.{Placement}
use Rattle.tdl_deploy.specs.declared.schedule.Schedule.{Schedule}
use Rattle.tdl_deploy.specs.Placed.{is_remote}
use Rattle.tdl_image.specs.declared.stub.Receive.{Receive}
use Rattle.tdl_gen.specs.Tables.{bus_end, delta_of, receives_in, receives, take_block, stub_of}
use Rattle.tdl_gen.specs.Takes.{OwnBlocks, IsDueAtEnd}
use Rattle.tdl_mode.specs.States.{invocation_of}
use Rattle.tdl_base.proofs.ListPlaces.{In}

-- an item of two lists is one of the first or one of the second
in-either : {A : Type 0} (a : A) (xs ys : List A) (n : ℕ) → slice_get (xs ++ ys) n ≡ Some a → In a xs ⊎ In a ys
in-either a [] ys n at = inr (record { place = n; at = at })
in-either a (x ∷ xs) ys zero at = inl (record { place = 0; at = at })
in-either a (x ∷ xs) ys (suc n) at = more (in-either a xs ys n at)
  where
    more : In a xs ⊎ In a ys → In a (x ∷ xs) ⊎ In a ys
    more (inl i) = inl (record { place = suc i.place; at = i.at })
    more (inr i) = inr i

-- an item of joined lists stands in the list made of one item
pub record JoinedFrom {A B : Type 0} (f : ℕ → A → List B) (n : ℕ) (xs : List A) (b : B) : Type 0 where
  pub place : ℕ
  pub item : A
  pub at : slice_get xs place ≡ Some item
  pub within : In b (f (n + place) item)

-- an item of joined lists comes from one of them
pub in-joined : {A B : Type 0} (f : ℕ → A → List B) (n : ℕ) (xs : List A) (b : B) → In b (joined (numbered n f xs)) →
    JoinedFrom f n xs b
in-joined f n [] b i = absurd (cc i.at)
in-joined f n (x ∷ xs) b i = by_side (in-either b (f n x) (joined (numbered (suc n) f xs)) i.place i.at)
    (in-joined f (suc n) xs b)
  where
    by_side : In b (f n x) ⊎ In b (joined (numbered (suc n) f xs)) →
        (In b (joined (numbered (suc n) f xs)) → JoinedFrom f (suc n) xs b) → JoinedFrom f n (x ∷ xs) b
    by_side (inl j) go = let z : n ≡ n + 0 = omega arith in
        record { place = 0; item = x; at = refl; within = subst (λ k. In b (f k x)) z j }
    by_side (inr j) go = let r = go j in let z : suc n + r.place ≡ n + suc r.place = omega arith in
        record { place = suc r.place; item = r.item; at = r.at; within = subst (λ k. In b (f k r.item)) z r.within }

-- where an entry comes from
pub record Origin (program : Program) (placement : Placement) (schedule : Schedule) (kk : ℕ) (m : Module)
    (e : Receive) : Type 0 where
  pub task : Task
  pub task_at : slice_get m.tasks e.task ≡ Some task
  pub remote : is_remote program placement kk task ≡ true
  pub mode : Mode
  pub mode_at : slice_get m.modes e.mode ≡ Some mode
  pub place : ℕ
  pub invocation : Invocation
  pub at : slice_get mode.invocations place ≡ Some invocation
  pub number : e.invocation ≡ suc place
  pub of_task : invocation.task.0 ≡ e.task
  pub delta : e.delta ≡ delta_of schedule kk e.mode e.invocation invocation

-- the one item of a list under a test: the test holds and it is that item
pub if_in : {B : Type 0} (b : Bool) (c d : B) → In d (if b then c ∷ [] else []) → (b ≡ true) × (d ≡ c)
if_in true c d i = (refl, by_place i.place i.at)
  where
    by_place : (n : ℕ) → slice_get (c ∷ []) n ≡ Some d → d ≡ c
    by_place zero at = sym (same_Some c d at)
    by_place (suc n) at = absurd (cc at)
if_in false c d i = absurd (cc i.at)

-- an item of a list under a test: the test holds and it is in the list
if_some : {B : Type 0} (b : Bool) (l : List B) (d : B) → In d (if b then l else []) → (b ≡ true) × In d l
if_some true l d i = (refl, i)
if_some false l d i = absurd (cc i.at)

module _ (p : Program) (pl : Placement) (s : Schedule) (kk : ℕ) (m : Module) where
  -- the entries of a task, without their blocks
  abbrev by_task : ℕ → Task → List Receive
  by_task t task = if is_remote p pl kk task then joined (numbered 0 (receives_in s kk t) m.modes) else []

  -- each entry without its block comes from a remote task's invocation
  raw_origin : (e : Receive) → In e (joined (numbered 0 by_task m.tasks)) → Origin p pl s kk m e
  raw_origin e i =
      let a = in-joined by_task 0 m.tasks e i in
      let z : 0 + a.place ≡ a.place = omega arith in
      let b = if_some (is_remote p pl kk a.item) (joined (numbered 0 (receives_in s kk (0 + a.place)) m.modes)) e
      a.within in
      let c = in-joined (receives_in s kk (0 + a.place)) 0 m.modes e b.1 in
      let d = in-joined (λ n i. if i.task.0 == 0 + a.place then record {
        mode = 0 + c.place;
        invocation = n;
        task = 0 + a.place;
        delta = delta_of s kk (0 + c.place) n i;
        block = 0;
      } ∷ [] else []) 1 c.item.invocations e c.within in
      let f = if_in (d.item.task.0 == 0 + a.place)
      (record {
        mode = 0 + c.place;
        invocation = 1 + d.place;
        task = 0 + a.place;
        delta =
            delta_of s kk (0 + c.place) (1 + d.place) d.item;
        block = 0;
      }) e d.within in
      let task : e.task ≡ 0 + a.place = ap (λ (r : Receive). r.task) f.1 in
      let mode : e.mode ≡ 0 + c.place = ap (λ (r : Receive). r.mode) f.1 in
      let number : e.invocation ≡ 1 + d.place = ap (λ (r : Receive). r.invocation) f.1 in
      let y : 0 + c.place ≡ c.place = omega arith in
      let n : 1 + d.place ≡ suc d.place = omega arith in
      record {
        task = a.item;
        task_at = ap (slice_get m.tasks) (task ∙ z) ∙ a.at;
        remote = b.0;
        mode = c.item;
        mode_at = ap (slice_get m.modes) (mode ∙ y) ∙ c.at;
        place = d.place;
        invocation = d.item;
        at = d.at;
        number = number ∙ n;
        of_task = eqb-true d.item.task.0 (0 + a.place) f.0 ∙ sym task;
        delta = ap (λ (r : Receive). r.delta) f.1 ∙ ap₂ (λ k j. delta_of s kk k j d.item) (sym mode) (sym number);
      }

  -- renumbered blocks
  abbrev renumber : ℕ → Receive → Receive
  renumber r e = record e { block = r }

  -- an entry with its block is one of the entries, with its place as its block
  record Renumbered (n : ℕ) (es : List Receive) (j : ℕ) (e : Receive) : Type 0 where
    old : Receive
    at : slice_get es j ≡ Some old
    is : e ≡ renumber (n + j) old

  -- each entry with its block comes from the entry at its place
  renumbered : (n : ℕ) (es : List Receive) (j : ℕ) (e : Receive) → slice_get (numbered n renumber es) j ≡ Some e →
      Renumbered n es j e
  renumbered n [] j e at = absurd (cc at)
  renumbered n (d ∷ es) zero e at = let z : n ≡ n + 0 = omega arith in
      record { old = d; at = refl; is = sym (same_Some (renumber n d) e at) ∙ ap (λ k. renumber k d) z }
  renumbered n (d ∷ es) (suc j) e at = let r = renumbered (suc n) es j e at in let z : suc n + j ≡ n + suc j =
      omega arith in record { old = r.old; at = r.at; is = r.is ∙ ap (λ k. renumber k r.old) z }

  -- each entry of a stub comes from a remote task's invocation
  pub origin : (j : ℕ) (e : Receive) → slice_get (receives p pl s kk m) j ≡ Some e → Origin p pl s kk m e
  origin j e at =
      let r = renumbered 0 (joined (numbered 0 by_task m.tasks)) j e at in
      let o = raw_origin r.old (record { place = j; at = r.at }) in
      subst (Origin p pl s kk m) (sym r.is) (record {
        task = o.task;
        task_at = o.task_at;
        remote = o.remote;
        mode = o.mode;
        mode_at = o.mode_at;
        place = o.place;
        invocation = o.invocation;
        at = o.at;
        number = o.number;
        of_task = o.of_task;
        delta = o.delta;
      })

  -- each entry has a block of its own
  pub own_blocks : OwnBlocks (stub_of p pl s kk m)
  own_blocks j e at =
      let r = renumbered 0 (joined (numbered 0 by_task m.tasks)) j e at in
      let z : 0 + j ≡ j = omega arith in
      let block : e.block ≡ j = ap (λ (d : Receive). d.block) r.is ∙ z in
      ap (slice_get (map (λ (d : Receive). take_block d.block) (receives p pl s kk m))) block
      ∙ slice_get-map (λ (d : Receive). take_block d.block) (receives p pl s kk m) j
      ∙ ap (option_map (λ (d : Receive). take_block d.block)) at ∙ ap (λ b. Some (take_block b)) block

  -- the entry's block is of its own, and it is due at the end of its invocation
  pub due_at_end : (j : ℕ) (e : Receive) → slice_get (receives p pl s kk m) j ≡ Some e →
      IsDueAtEnd s kk m (stub_of p pl s kk m) j e
  due_at_end j e at =
      let o = origin j e at in
      record {
        mode = o.mode;
        mode_at = o.mode_at;
        invocation = o.invocation;
        at = ap (invocation_of o.mode.invocations) o.number ∙ o.at;
        task = o.of_task;
        ends = added o.invocation.e.0 (bus_end s kk e.mode e.invocation) e.delta o.delta;
        block = own_blocks j e at;
      }
    where
      added : (a b d : ℕ) → d ≡ a - b → b ≤ a → b + d ≡ a
      added a b d is le = omega (arith, is, le)
