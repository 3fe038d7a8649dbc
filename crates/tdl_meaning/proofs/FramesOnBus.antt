-- The frame of a bus window: what it carries, how it keeps that on the bus, and what it does where it arrives.
use Rattle.std.proofs.Common.{◌≡◌, ℕ, suc, ◌+◌, ◌<◌, ℤ, List, [], ◌∷◌, Bool, true, false, ◌&&◌, ◌==◌, Some, None, refl, ap, ap₂, sym, ◌∙◌, subst, arith}
use Rattle.std.specs.Prelude.{slice_get, option_map, unwrap_or, if◌then◌else◌}
use Rattle.std.proofs.lemmas.Bool.{eqb-true, eq-eqb, and_parts, and_from}
use Rattle.std.proofs.lemmas.Option.{same_Some}
use Rattle.tdl_base.specs.declared.numbers.PortKey.{PortKey}
use Rattle.tdl_mode.specs.declared.program.Module.{Module}
use Rattle.tdl_mode.specs.declared.program.Mode.{Mode}
use Rattle.tdl_mode.specs.declared.program.Invocation.{Invocation}
use Rattle.tdl_base.specs.Sensed.{Sensed}
use Rattle.tdl_mode.specs.States.{Job, ModuleState, invocation_of}
use Rattle.tdl_mode.specs.Instants.{alone}
use Rattle.tdl_frame.specs.Frames.{Member}
use Rattle.tdl_image.specs.declared.hosted.ImageWindow.{ImageWindow}
use Rattle.tdl_image.specs.declared.stub.Receive.{Receive}
use Rattle.tdl_verify.specs.States.{EntryNow}
use Rattle.tdl_verify.specs.Bus.{Flight, received}
use Rattle.tdl_meaning.proofs.ActiveJobs.{WellModes, Standing, stays, kept_across, at_mode, was_active}
use Rattle.tdl_meaning.specs.Entries.{ActiveJob, job_end, EntryFact}
use Rattle.tdl_meaning.specs.BusTables.{WellReceive}
use Rattle.tdl_meaning.specs.BusFrames.{Executed, Carries}

-- ---- while it is in flight

module _ (m : Module) (well : WellModes m) (x : ℕ) (r : ModuleState) (stood : Standing m x r) (kk : ℕ) (sensed : Sensed)
    (seen : PortKey → ℤ) where
  -- the state after x
  abbrev next : ModuleState
  next = alone kk x sensed seen r

  -- a frame that stays on the bus keeps that
  pub flight_kept : (owner : ℕ) (w : ImageWindow) (f : Flight) → Carries m owner x r w f → x < f.until →
      Carries m owner (suc x) next w f
  flight_kept owner w f c later =
      let begun = c.begun in
      let from = c.from in
      let until = c.until in
      let after = c.after in
      let within = c.within in
      let k = kept_across m well x r stood kk sensed seen c.invocation.task.0 w.invocation c.invocation
      (at_mode m well x r stood kk sensed seen c.mode c.mode_at w.invocation c.invocation c.at) refl
      (omega (arith, begun, from, after)) (omega (arith, later, until, within)) in
      let base = k.base in
      record {
        mode' = c.mode' ∙ sym k.mode';
        mode = c.mode;
        mode_at = ap (λ j. slice_get m.modes j) k.mode' ∙ c.mode_at;
        invocation = c.invocation;
        at = c.at;
        after = c.after;
        within = c.within;
        from = omega (arith, from, base);
        until = omega (arith, until, base);
        begun = omega (arith, begun);
        open' = omega (arith, later);
        member = c.member;
        frame = c.frame;
        number = c.number;
        executed = λ e.
            let q = c.executed e in
            let i : q.job.invocation ≡ c.invocation = same_invocation q.job.mode c.mode q.job.mode_at c.mode_at
            q.job.job.invocation w.invocation q.invocation q.job.invocation c.invocation q.job.at c.at in
            let ie : q.job.invocation.e.0 ≡ c.invocation.e.0 = ap (λ (i : Invocation). i.e.0) i in
            let s = stays m well x r stood kk sensed seen c.invocation.task.0 q.job
            (omega (arith, ie, later, until, within)) in
            record {
              job = s.next;
              invocation = ap (λ (j : Job). j.invocation) s.job ∙ q.invocation;
              values' = q.values' ∙ sym s.made;
            };
        idle = λ e a' n.
            let i : a'.invocation ≡ c.invocation = same_invocation a'.mode c.mode
            (ap (λ j. slice_get m.modes j) (sym k.mode') ∙ a'.mode_at) c.mode_at a'.job.invocation w.invocation n
            a'.invocation c.invocation a'.at c.at in
            let is' : a'.invocation.s.0 ≡ c.invocation.s.0 = ap (λ (i : Invocation). i.s.0) i in
            let b = was_active m well x r stood kk sensed seen c.invocation.task.0 a'
            (omega (arith, is', base, after, from, begun)) in
            c.idle e b.job (ap (λ (j : Job). j.invocation) (sym b.same) ∙ n);
      }
    where
      same_invocation : (d d' : Mode) → slice_get m.modes r.mode ≡ Some d → slice_get m.modes r.mode ≡ Some d' →
          (n n' : ℕ) → n ≡ n' → (i i' : Invocation) → invocation_of d.invocations n ≡ Some i →
          invocation_of d'.invocations n' ≡ Some i' → i ≡ i'
      same_invocation d d' at at' n n' e i i' here here' =
          let q : d ≡ d' = same_Some d d' (sym at ∙ at') in
          same_Some i i' (sym here ∙ ap₂ (λ (d : Mode) n. invocation_of d.invocations n) q e ∙ here')

-- ---- where it arrives

-- the entry where a frame brought its member
abbrev pub got_by : ℕ → Member → Receive → EntryNow
got_by x member e = record { copy = member.values; due = Some (x + e.delta) }

-- the member of a frame of this mode is executed and of the entry's mode and invocation
abbrev pub is_for_entry : ℕ → Member → Receive → Bool
is_for_entry mode member e = mode == e.mode && (member.executed && member.invocation == e.invocation)

-- a member that passes the test is executed, and of the entry's mode and invocation
pub for_entry : (mode : ℕ) (member : Member) (e : Receive) → is_for_entry mode member e ≡ true →
    (mode ≡ e.mode) × (member.executed ≡ true) × (member.invocation ≡ e.invocation)
for_entry mode member e test =
    let a = and_parts (mode == e.mode) (member.executed && member.invocation == e.invocation) test in
    let b = and_parts member.executed (member.invocation == e.invocation) a.1 in
    (eqb-true mode e.mode a.0, b.0, eqb-true member.invocation e.invocation b.1)

-- a frame of one member changes the entries that the member is for
pub received-is : (x owner mode : ℕ) (member : Member) (e : Receive) (now : EntryNow) →
    received x (record { owner = owner; mode = mode; members = member ∷ [] }) e now
    ≡ (if is_for_entry mode member e then got_by x member e else now)
received-is x owner mode member e now = by_test (mode == e.mode) (member.executed && member.invocation == e.invocation)
  where
    by_test : (a b : Bool) → unwrap_or (option_map (λ (m : Member). got_by x m e)
        (if a then (if b then Some member else None) else None)) now ≡ (if a && b then got_by x member e else now)
    by_test true true = refl
    by_test true false = refl
    by_test false b = refl

module _ (m : Module) (ws : List ImageWindow) (x : ℕ) (r : ModuleState) where
  -- the job of a bus window's invocation ends where the invocation of its frame does
  same_end : (kk : ℕ) (w : ImageWindow) (f : Flight) (c : Carries m kk x r w f) (t : ℕ) (a : ActiveJob m x r t) →
      a.job.invocation ≡ w.invocation → a.invocation.e.0 ≡ c.invocation.e.0
  same_end kk w f c t a n =
      let mode : a.mode ≡ c.mode = same_Some a.mode c.mode (sym a.mode_at ∙ c.mode_at) in
      ap (λ (i : Invocation). i.e.0) (same_Some a.invocation c.invocation
      (sym a.at ∙ ap₂ (λ (d : Mode) n. invocation_of d.invocations n) mode n ∙ c.at))

  -- an entry of the window's invocation is of its task, and waits from the window's end to the invocation's
  entry_of_window : (kk : ℕ) (w : ImageWindow) (n : ℕ) (f : Flight) → slice_get ws n ≡ Some w → w.bus ≡ true →
      (c : Carries m kk x r w f) (e : Receive) → WellReceive m ws e → w.mode ≡ e.mode → w.invocation ≡ e.invocation →
      (c.invocation.task.0 ≡ e.task) × (w.offset + w.length + e.delta ≡ c.invocation.e.0)
  entry_of_window kk w n f at bus c e well mode named =
      well c.mode c.invocation n w (ap (λ j. slice_get m.modes j) (sym mode ∙ c.mode') ∙ c.mode_at)
      (ap (invocation_of c.mode.invocations) (sym named) ∙ c.at) at bus mode named

  -- an entry keeps its fact where a frame arrives
  pub entry_arrives : (kk : ℕ) (w : ImageWindow) (n : ℕ) (f : Flight) → slice_get ws n ≡ Some w → w.bus ≡ true →
      Carries m kk x r w f → f.until ≡ x → (e : Receive) → WellReceive m ws e → (now : EntryNow) →
      EntryFact m x r e now → EntryFact m x r e (received x f.frame e now)
  entry_arrives kk w n f at bus c end e well now fact =
      subst (λ fr. EntryFact m x r e (received x fr e now)) (sym c.frame)
      (subst (EntryFact m x r e) (sym (received-is x kk w.mode c.member e now))
      (by_test (is_for_entry w.mode c.member e) refl))
    where
      by_test : (b : Bool) → is_for_entry w.mode c.member e ≡ b →
          EntryFact m x r e (if b then got_by x c.member e else now)
      by_test false q = fact
      by_test true q = λ at' due.
          let its = for_entry w.mode c.member e q in
          let named : w.invocation ≡ e.invocation = sym c.number ∙ its.2 in
          let ok = entry_of_window kk w n f at bus c e well its.0 named in
          let until = c.until in
          let delta = ok.1 in
          let job : Executed m x r e.task w.invocation c.member.values =
          subst (λ t. Executed m x r t w.invocation c.member.values) ok.0 (c.executed its.1) in
          let ends = same_end kk w f c e.task job.job job.invocation in
          let when : x + e.delta ≡ at' = same_Some (x + e.delta) at' due in
          record {
            job = job.job;
            mode' = sym its.0 ∙ c.mode';
            invocation = sym named ∙ sym job.invocation;
            when = omega (arith, when, end, until, delta, ends);
            copy = job.values';
          }

  -- where the frame of an entry's bus window arrives and its job is active, the trigger stands at the job's end
  pub got_arrives : (kk : ℕ) (w : ImageWindow) (n : ℕ) (f : Flight) → slice_get ws n ≡ Some w → w.bus ≡ true →
      Carries m kk x r w f → f.until ≡ x → (e : Receive) → WellReceive m ws e → (now : EntryNow) →
      w.mode ≡ e.mode → w.invocation ≡ e.invocation → (a : ActiveJob m x r e.task) → e.invocation ≡ a.job.invocation →
      (received x f.frame e now).due ≡ Some (job_end m x r e.task a)
  got_arrives kk w n f at bus c end e well now mode named a job =
      let ok = entry_of_window kk w n f at bus c e well mode named in
      let test : is_for_entry w.mode c.member e ≡ true =
      and_from _ _ (eq-eqb w.mode e.mode mode) (and_from _ _ (executed ok.0)
      (eq-eqb c.member.invocation e.invocation (c.number ∙ named))) in
      let until = c.until in
      let delta = ok.1 in
      let ends = same_end kk w f c e.task a (sym job ∙ sym named) in
      let when : x + e.delta ≡ job_end m x r e.task a = omega (arith, end, until, delta, ends) in
      ap (λ fr. (received x fr e now).due) c.frame
      ∙ ap (λ (j : EntryNow). j.due) (received-is x kk w.mode c.member e now)
      ∙ ap (λ b. (if b then got_by x c.member e else now).due) test ∙ ap Some when
    where
      executed : c.invocation.task.0 ≡ e.task → c.member.executed ≡ true
      executed task = by_test c.member.executed refl
        where
          by_test : (b : Bool) → c.member.executed ≡ b → c.member.executed ≡ true
          by_test true q = q
          by_test false q = absurd (subst (λ t. (b : ActiveJob m x r t) → b.job.invocation ≡ w.invocation → ⊥) task
              (c.idle q) a (sym job ∙ sym named))
