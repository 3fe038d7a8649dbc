-- The block of phase 2: the updates of actuators.
use Rattle.std.proofs.Common.{◌≡◌, ℕ, suc, ◌+◌, ◌≤◌, ℤ, List, [], ◌∷◌, ◌++◌, length, Bool, true, false, Option, Some, None, refl, ap, sym, ◌∙◌, subst, subst₂, arith, append_assoc, append-nil}
use Rattle.std.specs.Prelude.{slice_get, option_map, unwrap_or, if◌then◌else◌}
use Rattle.std.proofs.lemmas.List.{length-append}
use Rattle.tdl_base.specs.Lists.{changed_at, joined, numbered}
use Rattle.tdl_base.specs.Numbers.{narrowed}
use Rattle.tdl_base.specs.declared.kinds.Kind.{Kind}
use Rattle.tdl_body.specs.Values.{Look, value_of, holds}
use Rattle.tdl_mode.specs.declared.program.Module.{Module}
use Rattle.tdl_mode.specs.declared.program.Update.{Update}
use Rattle.tdl_trace.specs.Shown.{Shown}
use Rattle.std.specs.Option.{option_to_list}
use Rattle.tdl_ecode.specs.declared.instr.EInstr.{EInstr}
use Rattle.tdl_ecode.specs.declared.instr.EInstr.TheVariants as ec
use Rattle.tdl_image.specs.declared.hosted.Hosted.{Hosted}
use Rattle.tdl_base.specs.Sensed.{Sensed}
use Rattle.tdl_verify.specs.States.{HostNow, Part, Times, value_on}
use Rattle.tdl_verify.specs.Turns.{Acted, Spot, code_at, call_acts}
use Rattle.tdl_gen.specs.BlockNames.{driver_names, number_in}
use Rattle.tdl_gen.specs.Blocks.{laid, update_code}
use Rattle.tdl_gen.specs.Tables.{coded}
pub use Rattle.tdl_gen.specs.HostSteps.{AtMostOne}
use Rattle.tdl_gen.specs.HostSteps as steps
use Rattle.tdl_verify.proofs.Leads.{Leads, nothing, leads_on, wider, one_on, changed-seam}
use Rattle.tdl_verify.proofs.EndBlocks.{HasAt, has-append}
use Rattle.tdl_gen.proofs.Guards.{Reads, cost, guard_length, guard_true, guard_false}

-- codes of a list and of another after it
pub laid-append : {A : Type 0} (code : ℕ → A → List EInstr) (index : ℕ) (xs ys : List A) →
    laid code index (xs ++ ys) ≡ laid code index xs ++ laid code (index + length (laid code index xs)) ys
laid-append code index [] ys = let q : index ≡ index + 0 = omega arith in ap (λ n. laid code n ys) q
laid-append code index (x ∷ xs) ys =
    let here : List EInstr = code index x in
    let next : ℕ = index + length here in
    let q : next + length (laid code next xs) ≡ index + length (here ++ laid code next xs) =
    omega (arith, length-append here (laid code next xs)) in
    ap (λ c. here ++ c) (laid-append code next xs ys ∙ ap (λ n. laid code next xs ++ laid code n ys) q)
    ∙ sym (append_assoc here (laid code next xs) (laid code (index + length (here ++ laid code next xs)) ys))

module _ (x node : ℕ) (sensed : Sensed) (times : Times) (h : Hosted) (b : ℕ) (front back : List Part) (m : Module)
    (k : ℕ) (look : Look) where
  -- at most so many instructions lead from one spot and these parts to another, with these plain rows
  abbrev Runs : ℕ → Spot → List Part → Spot → List Part → List Shown → Type 0
  Runs most from ps to qs rows = Leads x node sensed times most from ps to qs rows

  -- the parts of the node, with the host in this state
  abbrev parts : HostNow → List Part
  parts s = front ++ Part.Host h s ∷ back

  -- a place in the block
  abbrev spot : ℕ → Spot
  spot pc = Spot.In (length front) b pc

  -- the host with these actuators
  abbrev pub with_actuators : HostNow → List ℤ → HostNow
  with_actuators s vs = record s { actuators = vs }

  -- the kind of an actuator
  abbrev pub kind_at : ℕ → Kind
  kind_at a = steps.kind_at h a

  -- the update's driver and guard stand at their numbers
  abbrev pub HasUpdate : ℕ → Update → Type 0
  HasUpdate a u = steps.HasUpdate h m k a u

  -- what is taken of the updates of one actuator
  abbrev pub value_taken : ℕ → List Update → Option ℤ
  value_taken a us = steps.value_taken h look a us

  -- the row of an actuator that is updated
  abbrev pub updated_rows : ℕ → Option ℤ → List Shown
  updated_rows a v = option_to_list (option_map (λ w. Shown.Act x node h.number.0 a w) v)

  -- the call of a driver updates its actuator
  one_call : (s : HostNow) (ds vs : List ℤ) (v : ℤ) (pc a d : ℕ) (u : Update) → a ≡ length ds →
      slice_get h.drivers d ≡ Some (record { actuator = a; value = coded u.value }) →
      Reads (parts (with_actuators s (ds ++ v ∷ vs))) sensed h.number.0 look →
      let w : ℤ = narrowed (kind_at a) (value_of u.value look) in
      call_acts x node (value_on (parts (with_actuators s (ds ++ v ∷ vs))) sensed h.number.0) h
      (with_actuators s (ds ++ v ∷ vs)) pc d
      ≡ Acted.On (Part.Host h (with_actuators s (ds ++ w ∷ vs))) (Shown.Act x node h.number.0 a w ∷ []) (suc pc)
  one_call s ds vs v pc a d u is at reads =
      let value : ℤ → Acted = λ n. Acted.On (Part.Host h
      (with_actuators s (changed_at a (λ _. narrowed (kind_at a) n) (ds ++ v ∷ vs))))
      (Shown.Act x node h.number.0 a (narrowed (kind_at a) n) ∷ []) (suc pc) in
      let w : ℤ = narrowed (kind_at a) (value_of u.value look) in
      let first : call_acts x node (value_on (parts (with_actuators s (ds ++ v
      ∷ vs))) sensed h.number.0) h (with_actuators s (ds ++ v ∷ vs)) pc d ≡
      value (value_on (parts (with_actuators s (ds ++ v ∷ vs))) sensed h.number.0 (coded u.value)) = rw at refl in
      first
      ∙ ap value (reads u.value)
      ∙ ap (λ acts. Acted.On (Part.Host h (with_actuators s acts)) (Shown.Act x node h.number.0 a w ∷ [])
      (suc pc)) (ap (λ n. changed_at n (λ _. w) (ds ++ v ∷ vs)) is ∙ changed-seam (λ _. w) ds v vs)

  -- so many instructions lead past an actuator's updates: it takes the value, and its row is shown
  Goal : HostNow → List ℤ → List ℤ → ℤ → ℕ → ℕ → ℕ → Option ℤ → Type 0
  Goal s ds vs v pc n a value =
      Runs n (spot pc) (parts (with_actuators s (ds ++ v ∷ vs))) (spot (pc + n))
      (parts (with_actuators s (ds ++ unwrap_or value v ∷ vs))) (updated_rows a value)

  -- the code of one update changes its actuator where its guard holds
  update_guarded : (s : HostNow) (ds vs : List ℤ) (v : ℤ) (pc a : ℕ) (u : Update) (t : Bool) →
      holds u.guard look ≡ t → a ≡ length ds → HasUpdate a u →
      ((acts : List ℤ) → Reads (parts (with_actuators s acts)) sensed h.number.0 look) →
      HasAt (code_at b (Part.Host h s)) pc (update_code m k pc u) →
      Goal s ds vs v pc (length (update_code m k pc u)) a
      (option_map (λ u. narrowed (kind_at a) (value_of u.value look)) (if t then Some u else None))
  unfolding Goal
  update_guarded s ds vs v pc a u true t is has reads at =
      let s' : HostNow = with_actuators s (ds ++ v ∷ vs) in
      let w : ℤ = narrowed (kind_at a) (value_of u.value look) in
      let d : ℕ = number_in (driver_names m) k u.act in
      let in' = guard_true x node sensed times h b front back m k u.act look u.guard s' pc (ec.Call d ∷ [])
      (reads (ds ++ v ∷ vs)) has.guard at t in
      let call = one_on x node sensed times front (Part.Host h s') back b (pc + cost u.guard) (ec.Call d)
      (Part.Host h (with_actuators s (ds ++ w ∷ vs))) (Shown.Act x node h.number.0 a w ∷ [])
      (suc (pc + cost u.guard)) in'.1.0
      (one_call s ds vs v (pc + cost u.guard) a d u is has.driver (reads (ds ++ v ∷ vs))) in
      let l : cost u.guard + 1 ≡ length (update_code m k pc u) =
      sym (guard_length x node sensed times h b front back m k u.act look u.guard pc (ec.Call d ∷ [])) in
      let r : suc (pc + cost u.guard) ≡ pc + length (update_code m k pc u) = omega (arith, l) in
      subst₂ (λ n q. Runs n (spot pc) (parts s') (spot q) (parts (with_actuators s (ds ++ w ∷ vs)))
      (Shown.Act x node h.number.0 a w ∷ [])) l r
      (leads_on x node sensed times (cost u.guard) 1 _ _ _ _ _ _ _ _ in'.0 call)
  update_guarded s ds vs v pc a u false t is has reads at =
      let s' : HostNow = with_actuators s (ds ++ v ∷ vs) in
      let d : ℕ = number_in (driver_names m) k u.act in
      let l : cost u.guard ≤ length (update_code m k pc u) =
      omega (arith, guard_length x node sensed times h b front back m k u.act look u.guard pc (ec.Call d ∷ [])) in
      wider x node sensed times (cost u.guard) (length (update_code m k pc u)) _ _ _ _ _ l
      (guard_false x node sensed times h b front back m k u.act look u.guard s' pc (ec.Call d ∷ [])
      (reads (ds ++ v ∷ vs)) has.guard at t)

  -- the drivers and guards of all these updates stand at their numbers
  abbrev pub AllHave : ℕ → List Update → Type 0
  AllHave a us = steps.AllHave h m k a us

  -- the code of the updates of one actuator
  updates_one : (us : List Update) (s : HostNow) (ds vs : List ℤ) (v : ℤ) (pc a : ℕ) → AtMostOne us → a ≡ length ds →
      AllHave a us →
      ((acts : List ℤ) → Reads (parts (with_actuators s acts)) sensed h.number.0 look) →
      HasAt (code_at b (Part.Host h s)) pc (laid (update_code m k) pc us) →
      Goal s ds vs v pc (length (laid (update_code m k) pc us)) a (value_taken a us)
  unfolding Goal
  updates_one [] s ds vs v pc a one is has reads at =
      let q : pc ≡ pc + 0 = omega arith in
      subst (λ n. Runs 0 (spot pc) (parts (with_actuators s (ds ++ v ∷ vs))) (spot n)
      (parts (with_actuators s (ds ++ v ∷ vs))) []) q
      (nothing x node sensed times 0 (spot pc) (parts (with_actuators s (ds ++ v ∷ vs))))
  updates_one (u ∷ []) s ds vs v pc a one is has reads at =
      let whole : update_code m k pc u ++ [] ≡ update_code m k pc u = append-nil (update_code m k pc u) in
      subst (λ c. Goal s ds vs v pc (length c) a (value_taken a (u ∷ []))) (sym whole)
      (update_guarded s ds vs v pc a u (holds u.guard look) refl is has.0 reads
      (subst (λ c. HasAt (code_at b (Part.Host h s)) pc c) whole at))
  updates_one (u ∷ w ∷ us) s ds vs v pc a one is has reads at = absurd one

  -- each actuator has at most one update, whose driver and guard stand at their numbers
  abbrev pub AllOnce : (ℕ → List Update) → ℕ → List ℤ → Type 0
  AllOnce f n vs = steps.AllOnce h m k f n vs

  -- the actuators after the updates
  abbrev pub updated : (ℕ → List Update) → ℕ → List ℤ → List ℤ
  updated f n vs = steps.updated h look f n vs

  -- the rows of all actuators that are updated
  abbrev pub all_rows : (ℕ → List Update) → ℕ → List ℤ → List Shown
  all_rows f n vs = steps.updated_rows x node h look f n vs

  -- the code of the updates of all actuators
  pub updates_run : {A : Type 0} (f : ℕ → List Update) (actuators : List A) (s : HostNow) (ds vs : List ℤ)
      (pc n : ℕ) → n ≡ length ds → length actuators ≡ length vs → AllOnce f n vs →
      ((acts : List ℤ) → Reads (parts (with_actuators s acts)) sensed h.number.0 look) →
      HasAt (code_at b (Part.Host h s)) pc (laid (update_code m k) pc
      (joined (numbered n (λ a p. f a) actuators))) →
      Runs (length (laid (update_code m k) pc (joined (numbered n (λ a p. f a) actuators)))) (spot pc)
      (parts (with_actuators s (ds ++ vs)))
      (spot (pc + length (laid (update_code m k) pc (joined (numbered n (λ a p. f a) actuators)))))
      (parts (with_actuators s (ds ++ updated f n vs))) (all_rows f n vs)
  unfolding Goal
  updates_run f [] s ds [] pc n is size once reads at =
      let q : pc ≡ pc + 0 = omega arith in
      subst (λ n. Runs 0 (spot pc) (parts (with_actuators s (ds ++ []))) (spot n)
      (parts (with_actuators s (ds ++ []))) []) q (nothing x node sensed times 0 (spot pc)
      (parts (with_actuators s (ds ++ []))))
  updates_run f [] s ds (v ∷ vs) pc n is size once reads at = absurd (cc size)
  updates_run f (p ∷ ps) s ds [] pc n is size once reads at = absurd (cc size)
  updates_run f (p ∷ ps) s ds (v ∷ vs) pc n is size once reads at =
      let more : List Update = joined (numbered (suc n) (λ a p. f a) ps) in
      let first : List EInstr = laid (update_code m k) pc (f n) in
      let pc' : ℕ = pc + length first in
      let rest : List EInstr = laid (update_code m k) pc' more in
      let both : laid (update_code m k) pc (f n ++ more) ≡ first ++ rest =
      laid-append (update_code m k) pc (f n) more in
      let cut = has-append (code_at b (Part.Host h s)) pc first rest
      (subst (λ c. HasAt (code_at b (Part.Host h s)) pc c) both at) in
      let w : ℤ = unwrap_or (value_taken n (f n)) v in
      let here' = updates_one (f n) s ds vs v pc n once.0.0 is once.0.1 reads cut.0 in
      let there = updates_run f ps s (ds ++ w ∷ []) vs pc' (suc n) (omega (arith, is, length-append ds (w ∷ [])))
      (omega (arith, size)) once.1 reads cut.1 in
      let there' : Runs (length rest) (spot pc') (parts (with_actuators s (ds ++ w
      ∷ vs))) (spot (pc' + length rest)) (parts (with_actuators s (ds ++ w ∷ updated f (suc n) vs)))
      (all_rows f (suc n) vs) =
      subst₂ (λ a c. Runs (length rest) (spot pc') (parts (with_actuators s a)) (spot (pc' + length rest))
      (parts (with_actuators s c)) (all_rows f (suc n) vs))
      (append_assoc ds (w ∷ []) vs) (append_assoc ds (w ∷ []) (updated f (suc n) vs)) there in
      let l : length first + length rest ≡ length (laid (update_code m k) pc (f n ++ more)) =
      sym (ap length both ∙ length-append first rest) in
      let r : pc' + length rest ≡ pc + length (laid (update_code m k) pc (f n ++ more)) = omega (arith, l) in
      subst₂ (λ a c. Runs a (spot pc) (parts (with_actuators s (ds ++ v ∷ vs))) (spot c)
      (parts (with_actuators s (ds ++ w ∷ updated f (suc n) vs)))
      (updated_rows n (value_taken n (f n)) ++ all_rows f (suc n) vs)) l r
      (leads_on x node sensed times (length first) (length rest) _ _ _ _ _ _ _ _ here' there')
