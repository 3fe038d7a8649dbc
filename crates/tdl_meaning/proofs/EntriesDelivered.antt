-- The receive entries of a stub through delivery and turn: what arrives is there, or its commit is gone.
use Rattle.std.proofs.Common.{◌≡◌, ℕ, suc, ◌+◌, ◌<◌, ℤ, List, [], ◌∷◌, Bool, true, false, ◌==◌, Option, Some, None, refl, ap, sym, ◌∙◌, subst, inl, inr, arith}
use Rattle.std.specs.Prelude.{◌⊎◌, slice_get, if◌then◌else◌}
use Rattle.std.proofs.lemmas.Bool.{eqb-true, eq-eqb, ne_eqb}
use Rattle.std.proofs.lemmas.Bool.Decides.{nat_tests}
use Rattle.tdl_base.specs.declared.numbers.PortKey.{PortKey}
use Rattle.tdl_mode.specs.declared.program.Module.{Module}
use Rattle.tdl_base.specs.Sensed.{Sensed}
use Rattle.tdl_mode.specs.States.{Job, ModuleState, invocation_of}
use Rattle.tdl_mode.specs.Instants.{alone}
use Rattle.tdl_frame.specs.Frames.{Frame}
use Rattle.tdl_image.specs.declared.hosted.ImageWindow.{ImageWindow}
use Rattle.tdl_image.specs.declared.stub.Receive.{Receive}
use Rattle.tdl_verify.specs.States.{EntryNow}
use Rattle.tdl_verify.specs.Turns.{is_at}
use Rattle.tdl_verify.specs.Bus.{Flight, received}
use Rattle.tdl_verify.specs.Runs.{Lost}
use Rattle.tdl_gen.proofs.StubMoves.{freed, left_at}
use Rattle.tdl_gen.specs.Takes.{OfMode}
use Rattle.tdl_meaning.proofs.ActiveJobs.{WellModes, Standing, was_active}
use Rattle.tdl_meaning.proofs.EntryFacts.{at_is}
use Rattle.tdl_meaning.proofs.FramesOnBus.{is_for_entry, for_entry, received-is, got_by, entry_arrives, got_arrives}
use Rattle.tdl_meaning.specs.Entries.{job_end, EntryFact, Got}
use Rattle.tdl_meaning.specs.AllItems.{AllEntries}
use Rattle.tdl_meaning.specs.BusFrames.{Carries, Flies, UnderWay, Loses}
use Rattle.tdl_meaning.specs.BusTables.{WellReceive, Sender}

-- the entries that are due are of the mode that the module was in before x
pub of_mode : (m : Module) (x : ℕ) (r : ModuleState) (es : List Receive) (nows : List EntryNow) →
    AllEntries (EntryFact m x r) es nows → OfMode x r.mode es nows
of_mode m x r [] [] ps = tt
of_mode m x r [] (now ∷ more) ps = absurd ps
of_mode m x r (e ∷ es) [] ps = absurd ps
of_mode m x r (e ∷ es) (now ∷ more) ps = ((λ due. (ps.0 x (at_is x now.due due)).mode'), of_mode m x r es more ps.1)

-- ---- delivery

-- a flight of module kk carries the frame of one of its bus windows
abbrev pub FlightOf : Module → ℕ → List ImageWindow → ℕ → ModuleState → Option Flight → Type 0
FlightOf m kk ws x r flight = (f : Flight) → flight ≡ Some f → f.frame.owner ≡ kk → Flies m kk ws x r f

-- an entry after a frame that arrives or not, is lost or not, and is of its module or not
abbrev pub landed_by : (lands is_lost its : Bool) → ℕ → Flight → Receive → EntryNow → EntryNow
landed_by lands is_lost its x f e now =
    if lands then (if is_lost then now else (if its then received x f.frame e now else now)) else now

-- an entry of module kk's stub after delivery at x
abbrev pub entry_landed : ℕ → Lost → ℕ → Option Flight → Receive → EntryNow → EntryNow
entry_landed x lost kk None e now = now
entry_landed x lost kk (Some f) e now =
    landed_by (f.until == x) (lost f.number f.sent_at f.until) (kk == f.frame.owner) x f e now

-- below the next number is below or equal
below_or_equal : (a b : ℕ) → a < suc b → (a < b) ⊎ (a ≡ b)
below_or_equal a b lt = by_test (a == b) refl
  where
    below : (a b : ℕ) → (a == b) ≡ false → a < suc b → a < b
    below a b e lt = grind (arith, nat_tests, e, lt)

    by_test : (c : Bool) → (a == b) ≡ c → (a < b) ⊎ (a ≡ b)
    by_test true e = inr (eqb-true a b e)
    by_test false e = inl (below a b e lt)

module _ (m : Module) (kk : ℕ) (ws : List ImageWindow) (x : ℕ) (r : ModuleState) (lost : Lost) (flight : Option Flight)
    (flies : FlightOf m kk ws x r flight) where
  -- an entry keeps its fact through the delivery
  pub landed_fact : (e : Receive) → WellReceive m ws e → (now : EntryNow) → EntryFact m x r e now →
      EntryFact m x r e (entry_landed x lost kk flight e now)
  landed_fact e well now fact = by_flight flight refl
    where
      by_tests : (f : Flight) → flight ≡ Some f → (a b c : Bool) → (f.until == x) ≡ a → (kk == f.frame.owner) ≡ c →
          EntryFact m x r e (landed_by a b c x f e now)
      by_tests f is false b c until owner = fact
      by_tests f is true true c until owner = fact
      by_tests f is true false false until owner = fact
      by_tests f is true false true until owner =
          let q = flies f is (sym (eqb-true kk f.frame.owner owner)) in
          entry_arrives m ws x r kk q.window q.place f q.at q.bus q.carries (eqb-true f.until x until) e well now fact

      by_flight : (o : Option Flight) → flight ≡ o → EntryFact m x r e (entry_landed x lost kk o e now)
      by_flight None is = fact
      by_flight (Some f) is =
          by_tests f is (f.until == x) (lost f.number f.sent_at f.until) (kk == f.frame.owner) refl refl

  -- after the delivery at x what arrives at x is there too, or the commit is gone
  pub landed_got : (gone : ℕ → Type 0) → UnderWay m kk ws x r flight → Loses lost gone m kk x r flight → (e : Receive) →
      WellReceive m ws e → Sender m ws e → (now : EntryNow) →
      Got gone m x x r e now → Got gone m (suc x) x r e (entry_landed x lost kk flight e now)
  landed_got gone under loses e well sender now got a mode named late =
      by_time (below_or_equal (job_end m x r e.task a) (x + e.delta) (omega (arith, late)))
    where
      -- the trigger stands at the job's end
      Stands : EntryNow → Type 0
      Stands n = n.due ≡ Some (job_end m x r e.task a)

      -- it does, or the commit is gone
      Goal : EntryNow → Type 0
      Goal n = Stands n ⊎ gone (job_end m x r e.task a)

      -- a frame that arrives leaves the trigger, or sets the same
      rewritten : (f : Flight) → Flies m kk ws x r f → f.until ≡ x → Stands now → Stands (received x f.frame e now)
      rewritten f q lands old = by_test (is_for_entry q.window.mode q.carries.member e) refl
        where
          is : received x f.frame e now
              ≡ (if is_for_entry q.window.mode q.carries.member e then got_by x q.carries.member e else now)
          is = ap (λ fr. received x fr e now) q.carries.frame
              ∙ received-is x kk q.window.mode q.carries.member e now

          by_test : (b : Bool) → is_for_entry q.window.mode q.carries.member e ≡ b → Stands (received x f.frame e now)
          by_test false t =
              ap (λ (n : EntryNow). n.due) (is ∙ ap (λ b. if b then got_by x q.carries.member e else now) t) ∙ old
          by_test true t =
              let its = for_entry q.window.mode q.carries.member e t in
              got_arrives m ws x r kk q.window q.place f q.at q.bus q.carries lands e well now its.0
              (sym q.carries.number ∙ its.2) a named

      -- where it stood before
      kept : (o : Option Flight) → flight ≡ o → Stands now → Stands (entry_landed x lost kk o e now)
      kept None is old = old
      kept (Some f) is old = by_tests (f.until == x) (lost f.number f.sent_at f.until) (kk == f.frame.owner) refl refl
        where
          by_tests : (a' b c : Bool) → (f.until == x) ≡ a' → (kk == f.frame.owner) ≡ c →
              Stands (landed_by a' b c x f e now)
          by_tests false b c until owner = old
          by_tests true true c until owner = old
          by_tests true false false until owner = old
          by_tests true false true until owner =
              rewritten f (flies f is (sym (eqb-true kk f.frame.owner owner))) (eqb-true f.until x until) old

      -- where its frame arrives now
      arrives : job_end m x r e.task a ≡ x + e.delta → Goal (entry_landed x lost kk flight e now)
      arrives end =
          let w : ImageWindow = sender.window in
          let mode_at : slice_get m.modes e.mode ≡ Some a.mode = ap (λ j. slice_get m.modes j) mode ∙ a.mode_at in
          let at : invocation_of a.mode.invocations e.invocation ≡ Some a.invocation =
          ap (invocation_of a.mode.invocations) named ∙ a.at in
          let ok = well a.mode a.invocation sender.place w mode_at at sender.at sender.bus sender.mode'
          sender.invocation in
          let delta = ok.1 in
          let lasts = sender.lasts in
          let u = under sender.place w sender.at sender.bus (sender.mode' ∙ mode) (omega (arith, end, delta, lasts))
          (omega (arith, end, delta)) in
          let until = u.carries.until in
          let lands : u.frame.until ≡ x = omega (arith, until, end, delta) in
          let owner : (kk == u.frame.frame.owner) ≡ true =
          eq-eqb kk u.frame.frame.owner (sym (ap (λ (fr : Frame). fr.owner) u.carries.frame)) in
          subst (λ o. Goal (entry_landed x lost kk o e now)) (sym u.is)
          (by_lost u.frame u.is lands owner u.carries (lost u.frame.number u.frame.sent_at u.frame.until) refl)
        where
          by_lost : (f : Flight) → flight ≡ Some f → f.until ≡ x → (kk == f.frame.owner) ≡ true →
              Carries m kk x r sender.window f → (b : Bool) → lost f.number f.sent_at f.until ≡ b →
              Goal (entry_landed x lost kk (Some f) e now)
          by_lost f is lands owner c true gone' =
              inr (loses f sender.window e.task a is lands gone' c (sym named ∙ sym sender.invocation))
          by_lost f is lands owner c false there =
              let t : (f.until == x) ≡ true = eq-eqb f.until x lands in
              inl (rw (t, there, owner) (got_arrives m ws x r kk sender.window sender.place f sender.at sender.bus
              c lands e well now sender.mode' sender.invocation a named))

      by_time : (job_end m x r e.task a < x + e.delta) ⊎ (job_end m x r e.task a ≡ x + e.delta) →
          Goal (entry_landed x lost kk flight e now)
      by_time (inl lt) = before (got a mode named lt)
        where
          before : Goal now → Goal (entry_landed x lost kk flight e now)
          before (inl old) = inl (kept flight refl old)
          before (inr g) = inr g
      by_time (inr eq) = arrives eq

module _ (m : Module) (well : WellModes m) (x : ℕ) (r : ModuleState) (stood : Standing m x r) (kk : ℕ) (sensed : Sensed)
    (seen : PortKey → ℤ) (ws : List ImageWindow) where
  -- after the turn what has arrived is there too, or its commit is gone
  pub got_kept : (gone : ℕ → Type 0) (e : Receive) → WellReceive m ws e → Sender m ws e → (now : EntryNow) →
      Got gone m (suc x) x r e now → Got gone m (suc x) (suc x) (alone kk x sensed seen r) e (left_at x now)
  got_kept gone e well_e sender now got a' mode named late =
      let mode_at : slice_get m.modes e.mode ≡ Some a'.mode = ap (λ j. slice_get m.modes j) mode ∙ a'.mode_at in
      let at : invocation_of a'.mode.invocations e.invocation ≡ Some a'.invocation =
      ap (invocation_of a'.mode.invocations) named ∙ a'.at in
      let delta = (well_e a'.mode a'.invocation sender.place sender.window mode_at at sender.at sender.bus sender.mode'
      sender.invocation).1 in
      let begins = sender.begins a'.mode a'.invocation mode_at at in
      let lasts = sender.lasts in
      let b = was_active m well x r stood kk sensed seen e.task a' (omega (arith, late, delta, begins, lasts)) in
      let ends = b.ends in
      let open' = a'.open' in
      by_old _ b.ends (omega (arith, open'))
      (got b.job (mode ∙ b.cycle.mode') (named ∙ ap (λ (j : Job). j.invocation) b.same) (omega (arith, late, ends)))
    where
      not_now : (o : Option ℕ) (at : ℕ) → o ≡ Some at → x < at → is_at x o ≡ false
      not_now o at e lt = ap (is_at x) e ∙ ne_eqb at x (λ q. omega (arith, q, lt))

      by_old : (end : ℕ) → job_end m (suc x) (alone kk x sensed seen r) e.task a' ≡ end →
          x < job_end m (suc x) (alone kk x sensed seen r) e.task a' → (now.due ≡ Some end) ⊎ gone end →
          ((left_at x now).due ≡ Some (job_end m (suc x) (alone kk x sensed seen r) e.task a'))
          ⊎ gone (job_end m (suc x) (alone kk x sensed seen r) e.task a')
      by_old end same lt (inl due) = inl (ap (λ b. (if b then freed now else now).due)
          (not_now now.due end due (omega (arith, lt, same))) ∙ due ∙ ap Some (sym same))
      by_old end same lt (inr g) = inr (subst gone (sym same) g)
