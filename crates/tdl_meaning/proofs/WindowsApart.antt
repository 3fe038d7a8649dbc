-- At most one window of a node's processor is live: the windows of one module are apart, those of two modules modulo
-- their grains.
use Rattle.std.proofs.Common.{◌≡◌, ℕ, ◌+◌, ◌-◌, ◌<◌, ◌≤◌, inl, inr, map, length, Bool, true, false, not, ◌&&◌, ◌==◌, nat_lt, nat_le, Some, filter, refl, ap, ap₂, sym, ◌∙◌, subst, arith}
use Rattle.std.specs.Prelude.{◌%◌, slice_get}
use Rattle.std.proofs.lemmas.Bool.{eqb-true, eq-eqb, and_parts}
use Rattle.std.proofs.lemmas.Option.{same_Some}
use Rattle.std.proofs.lemmas.Bool.Decides.{nat_tests}
use Prim.Native.Nat.{◌∣◌}
use native.Mathlib.Nat.{dvd_trans, mod-eq-zero_of_dvd, mod-add-mod}
use Rattle.tdl_mode.specs.declared.program.Module.{Module}
use Rattle.tdl_deploy.specs.declared.schedule.Window.{Window}
use Rattle.tdl_deploy.specs.Placed.{hosts}
use Rattle.tdl_image.specs.declared.hosted.ImageWindow.{ImageWindow}
use Rattle.tdl_verify.specs.States.{HostNow}
use Rattle.tdl_verify.specs.Turns.{is_mode}
use Rattle.tdl_verify.specs.Micros.{is_live}
use Rattle.tdl_gen.specs.Tables.{image_window, windows_of}
use Rattle.tdl_mode.specs.Grains.{DividesCycles}
use Rattle.tdl_deploy.specs.Passes.{ApartModulo, Clear}
use Rattle.tdl_meaning.proofs.Pairwise.{pairwise-made, pairwise-all, filter-few}
use Rattle.tdl_meaning.proofs.CoveredWindows.{FromSchedule}
use Rattle.tdl_meaning.specs.Accepted.{Accepted}

-- a window of the processor and of mode k in which instant x lies, the cycle having begun at `base`
record Lives (x k base : ℕ) (w : ImageWindow) : Type 0 where
  cpu : w.bus ≡ false
  mode' : w.mode ≡ k
  from : base + w.offset ≤ x
  below : x < base + w.offset + w.length

-- a live window of a module in mode k is such a window
lives : (x : ℕ) (s : HostNow) (k : ℕ) → s.mode ≡ Some k → (w : ImageWindow) → is_live x s w ≡ true → Lives x k s.base w
lives x s k mode w h =
    let a = and_parts (not w.bus)
    (is_mode w.mode s.mode && (nat_le (s.base + w.offset) x && nat_lt x (s.base + w.offset + w.length))) h in
    let b = and_parts (is_mode w.mode s.mode)
    (nat_le (s.base + w.offset) x && nat_lt x (s.base + w.offset + w.length)) a.1 in
    let c = and_parts (nat_le (s.base + w.offset) x) (nat_lt x (s.base + w.offset + w.length)) b.1 in
    let m : (k == w.mode) ≡ true = sym (ap (is_mode w.mode) mode) ∙ b.0 in
    record {
      cpu = cpu w.bus a.0;
      mode' = sym (eqb-true k w.mode m);
      from = le (s.base + w.offset) x c.0;
      below = lt x (s.base + w.offset + w.length) c.1;
    }
  where
    cpu : (b : Bool) → not b ≡ true → b ≡ false
    cpu true h = absurd (cc h)
    cpu false h = refl

    le : (a b : ℕ) → nat_le a b ≡ true → a ≤ b
    le a b e = grind (arith, nat_tests, e)

    lt : (a b : ℕ) → nat_lt a b ≡ true → a < b
    lt a b e = grind (arith, nat_tests, e)

-- a place of a cycle and the instant have the same rest modulo what divides the begin of the cycle
same_residue : (d b y x : ℕ) → d ∣ b → b + y ≡ x → y % d ≡ x % d
same_residue d b y x div e =
    let z : y ≡ 0 + y = omega arith in
    ap (λ n. n % d) z ∙ ap (λ c. (c + y) % d) (sym (mod-eq-zero_of_dvd d {n = b} div)) ∙ mod-add-mod b d y
    ∙ ap (λ n. n % d) e

module _ (given : Accepted) (x node : ℕ) where
  -- windows that do not meet are not live together
  not_both : (a b : Window) (ma mb : Module) → slice_get given.program.modules a.module.0 ≡ Some ma →
      slice_get given.program.modules b.module.0 ≡ Some mb → (ba bb : ℕ) →
      ((g : ℕ) → DividesCycles g ma → g ∣ ba) → ((g : ℕ) → DividesCycles g mb → g ∣ bb) →
      ApartModulo given.program a b →
      ba + a.offset ≤ x → x < ba + a.offset + a.length → bb + b.offset ≤ x → x < bb + b.offset + b.length → ⊥
  not_both a b ma mb at at' ba bb ga gb far af al bf bl =
      let la : far.left ≡ ma = same_Some far.left ma (sym far.left_at ∙ at) in
      let lb : far.right ≡ mb = same_Some far.right mb (sym far.right_at ∙ at') in
      let da : far.both ∣ ba = dvd_trans far.both {b = far.grain} {c = ba} far.is_both.0
      (ga far.grain (subst (λ m. DividesCycles far.grain m) la far.is_grain.0)) in
      let db : far.both ∣ bb = dvd_trans far.both {b = far.grain'} {c = bb} far.is_both.1
      (gb far.grain' (subst (λ m. DividesCycles far.grain' m) lb far.is_grain'.0)) in
      let ea : ba + (x - ba) ≡ x = omega (arith, af) in
      let eb : bb + (x - bb) ≡ x = omega (arith, bf) in
      far.apart (record {
        y = x - ba;
        z = x - bb;
        y_from = omega (arith, af);
        y_below = omega (arith, af, al);
        z_from = omega (arith, bf);
        z_below = omega (arith, bf, bl);
        same = same_residue far.both ba (x - ba) x da ea ∙ sym (same_residue far.both bb (x - bb) x db eb);
      })

  -- at most one window of one module is live
  pub one_host_live : (kk : ℕ) (s : HostNow) (k : ℕ) → s.mode ≡ Some k →
      length (filter (is_live x s) (windows_of given.schedule kk)) ≤ 1
  one_host_live kk s k mode =
      filter-few (is_live x s) (windows_of given.schedule kk)
      (pairwise-all NotBoth (λ a b h lb la. h la lb)
      (map image_window (filter (λ w. w.module.0 == kk) given.schedule.windows))
      (pairwise-made NotBoth image_window (λ (w : Window). w.module.0 == kk) given.schedule.windows
      (λ q r a b lt qa rb ma mb la lb.
      let va = lives x s k mode (image_window a) la in
      let vb = lives x s k mode (image_window b) lb in
      clear a b (given.passes.apart q r a b lt qa rb (va.cpu ∙ sym vb.cpu)
      (eqb-true a.module.0 kk ma ∙ sym (eqb-true b.module.0 kk mb)) (va.mode' ∙ sym vb.mode'))
      va vb)))
    where
      NotBoth : ImageWindow → ImageWindow → Type 0
      NotBoth v w = is_live x s v ≡ true → is_live x s w ≡ true → ⊥

      clear : (a b : Window) → Clear a b → Lives x k s.base (image_window a) → Lives x k s.base (image_window b) → ⊥
      clear a b (inl c) va vb = let f = vb.from in let l = va.below in omega (arith, c, f, l)
      clear a b (inr c) va vb = let f = va.from in let l = vb.below in omega (arith, c, f, l)

  -- a hosted module whose cycle began at an instant that its grain divides
  pub record Grained (n : ℕ) (definition : Module) (now : HostNow) : Type 0 where
    pub at : slice_get given.program.modules n ≡ Some definition
    pub hosted : hosts given.placement node n ≡ true
    pub mode : ℕ
    pub mode' : now.mode ≡ Some mode
    pub grain : (g : ℕ) → DividesCycles g definition → g ∣ now.base

  -- windows of two modules of this node are not live together
  pub never_both_live : (n j : ℕ) (m d : Module) (a b : HostNow) → (n == j) ≡ false → Grained n m a → Grained j d b →
      (v w : ImageWindow) → FromSchedule given.schedule n v → FromSchedule given.schedule j w →
      is_live x a v ≡ true → is_live x b w ≡ true → ⊥
  never_both_live n j m d a b apart ga gb v w fv fw lv lw =
      let va = lives x a ga.mode ga.mode' (image_window fv.window) (ap (is_live x a) fv.is ∙ lv) in
      let vb = lives x b gb.mode gb.mode' (image_window fw.window) (ap (is_live x b) fw.is ∙ lw) in
      let ma : slice_get given.program.modules fv.window.module.0 ≡ Some m =
      ap (slice_get given.program.modules) fv.owner ∙ ga.at in
      let mb : slice_get given.program.modules fw.window.module.0 ≡ Some d =
      ap (slice_get given.program.modules) fw.owner ∙ gb.at in
      let ha : hosts given.placement node fv.window.module.0 ≡ true =
      ap (hosts given.placement node) fv.owner ∙ ga.hosted in
      let hb : hosts given.placement node fw.window.module.0 ≡ true =
      ap (hosts given.placement node) fw.owner ∙ gb.hosted in
      let ne : (fv.window.module.0 == fw.window.module.0) ≡ false = ap₂ (λ a b. a == b) fv.owner fw.owner ∙ apart in
      let ne' : (fw.window.module.0 == fv.window.module.0) ≡ false =
      turned (fv.window.module.0) (fw.window.module.0) ne in
      by_order ne
      (λ lt. not_both fv.window fw.window m d ma mb a.base b.base ga.grain gb.grain
      (given.passes.cpu_apart fv.place fw.place node fv.window fw.window lt fv.at fw.at va.cpu vb.cpu ne ha hb)
      va.from va.below vb.from vb.below)
      (λ lt. not_both fw.window fv.window d m mb ma b.base a.base gb.grain ga.grain
      (given.passes.cpu_apart fw.place fv.place node fw.window fv.window lt fw.at fv.at vb.cpu va.cpu ne' hb ha)
      vb.from vb.below va.from va.below)
    where
      turned : (a b : ℕ) → (a == b) ≡ false → (b == a) ≡ false
      turned a b e = grind (arith, nat_tests, e)

      by_order : (fv.window.module.0 == fw.window.module.0) ≡ false → (fv.place < fw.place → ⊥) →
          (fw.place < fv.place → ⊥) → ⊥
      by_order ne f g = by_tests (nat_lt fv.place fw.place) refl (nat_lt fw.place fv.place) refl
        where
          lt : (a b : ℕ) → nat_lt a b ≡ true → a < b
          lt a b e = grind (arith, nat_tests, e)

          eq : (a b : ℕ) → nat_lt a b ≡ false → nat_lt b a ≡ false → a ≡ b
          eq a b e h = grind (arith, nat_tests, e, h)

          by_tests : (c : Bool) → nat_lt fv.place fw.place ≡ c → (d : Bool) → nat_lt fw.place fv.place ≡ d → ⊥
          by_tests true e d h = f (lt fv.place fw.place e)
          by_tests false e true h = g (lt fw.place fv.place h)
          by_tests false e false h =
              let same : fv.window ≡ fw.window = same_Some fv.window fw.window (sym fv.at
              ∙ ap (slice_get given.schedule.windows) (eq fv.place fw.place e h) ∙ fw.at) in
              let meet : (fv.window.module.0 == fw.window.module.0) ≡ true =
              eq-eqb fv.window.module.0 fw.window.module.0 (ap (λ (w : Window). w.module.0) same) in
              absurd (cc (ne, meet))
