-- The last entries of the sensors say what the entries that are over say.
use Rattle.std.proofs.Common.{not, zero, ◌-◌, ◌≡◌, ◌<◌, ◌≤◌, ◌+◌, ◌&&◌, ℕ, suc, ℤ, pos, Bool, true, false, ◌==◌, nat_le, if◌then◌else◌, List, [], ◌∷◌, ◌++◌, length, take, drop, filter, get_or, refl, ap, sym, ◌∙◌, subst, arith}
use mathlib.Core.Path.{fun_ext}
use Rattle.std.proofs.lemmas.Bool.Decides.{nat_tests}
use Rattle.std.proofs.lemmas.List.{get_or-drop, take_more, take-append-drop, length-drop, length-map}
use Rattle.std.specs.List.{slice_index, slice_index_or}
use Rattle.tdl_scen.specs.declared.entries.Sense.{Sense}
use Rattle.tdl_scen.specs.Scenario.{last_from, course_of, is_sensed_by}
use Rattle.tdl_scen.specs.Senses.{AreInOrder, is_other, with_latest, SensesView, IsUpTo, IsSensedAt}

-- entries after others
last_from-append : (v : ℤ) (xs ys : List Sense) (x m k : ℕ) →
    last_from v (xs ++ ys) x m k ≡ last_from (last_from v xs x m k) ys x m k
last_from-append v [] ys x m k = refl
last_from-append v (e ∷ xs) ys x m k = last_from-append (if is_sensed_by e x m k then e.value else v) xs ys x m k

-- an entry of the same sensor as one that is of another sensor than (m, k)
not_here : (a b c d m k : ℕ) (t : Bool) → not (a == c && b == d) ≡ false → (c == m && d == k) ≡ false →
    (a == m && b == k && t) ≡ false
not_here a b c d m k t h g = grind (arith, nat_tests)

-- the entries of another sensor say what all say of (m, k)
last_from-others : (entry : Sense) (v : ℤ) (xs : List Sense) (x m k : ℕ) →
    (entry.module.0 == m && entry.sensor == k) ≡ false →
    last_from v (filter (is_other entry) xs) x m k ≡ last_from v xs x m k
last_from-others entry v [] x m k h = refl
last_from-others entry v (e ∷ more) x m k h =
    by_other (λ w. last_from-others entry w more x m k h) (is_other entry e) refl
  where
    by_other : ((w : ℤ) → last_from w (filter (is_other entry) more) x m k ≡ last_from w more x m k) → (b : Bool) →
        is_other entry e ≡ b →
        last_from v (filter (is_other entry) (e ∷ more)) x m k ≡ last_from v (e ∷ more) x m k
    by_other more_same true g = rw g (more_same (if is_sensed_by e x m k then e.value else v))
    by_other more_same false g =
        rw (g, not_here e.module.0 e.sensor entry.module.0 entry.sensor m k (nat_le e.at.0 x) g h) (more_same v)

-- an entry that is over
over : (t x : ℕ) (b : Bool) → t ≤ x → b ≡ true → (b && nat_le t x) ≡ true
over t x b le e = grind (arith, nat_tests)

-- an entry takes the place of those of its sensor
put_same : (v : ℤ) (latest : List Sense) (entry : Sense) (y m k : ℕ) → entry.at.0 ≤ y →
    last_from v (with_latest latest entry) y m k ≡ last_from v (latest ++ entry ∷ []) y m k
put_same v latest entry y m k le =
    last_from-append v (filter (is_other entry) latest) (entry ∷ []) y m k
    ∙ by_sensor (entry.module.0 == m && entry.sensor == k) refl
    ∙ sym (last_from-append v latest (entry ∷ []) y m k)
  where
    by_sensor : (b : Bool) → (entry.module.0 == m && entry.sensor == k) ≡ b →
        last_from (last_from v (filter (is_other entry) latest) y m k) (entry ∷ []) y m k
        ≡ last_from (last_from v latest y m k) (entry ∷ []) y m k
    by_sensor true g = rw (over entry.at.0 y (entry.module.0 == m && entry.sensor == k) le g) refl
    by_sensor false g =
        ap (λ (w : ℤ). last_from w (entry ∷ []) y m k) (last_from-others entry v latest y m k g)

-- an entry that is later
not_yet : (t x : ℕ) (b : Bool) → x < t → (b && nat_le t x) ≡ false
not_yet t x b lt = grind (arith, nat_tests)

-- entries that are all later
last_from-later : (v : ℤ) (rest : List Sense) (x m k : ℕ) (d : Sense) →
    ((j : ℕ) → j < length rest → x < (slice_index_or rest j d).at.0) →
    last_from v rest x m k ≡ v
last_from-later v [] x m k d later = refl
last_from-later v (e ∷ rest) x m k d later =
    rw (not_yet e.at.0 x (e.module.0 == m && e.sensor == k) (later 0 (omega arith)))
    (last_from-later v rest x m k d (λ j within. later (suc j) (omega arith)))

-- one more entry is over
pub passes : (entries latest : List Sense) (next x : ℕ) (d : Sense) → next < length entries →
    (slice_index_or entries next d).at.0 ≤ x →
    IsUpTo entries x (record { next = next; latest = latest }) →
    IsUpTo entries x (record { next = next + 1; latest = with_latest latest (slice_index_or entries next d) })
passes entries latest next x d lt le up = record {
  within = omega arith;
  same = λ y m k after.
      put_same (pos 0) latest (slice_index_or entries next d) y m k (omega arith)
      ∙ last_from-append (pos 0) latest (slice_index_or entries next d ∷ []) y m k
      ∙ ap (λ (w : ℤ). last_from w (slice_index_or entries next d ∷ []) y m k) (up.same y m k after)
      ∙ sym (last_from-append (pos 0) (take next entries) (slice_index_or entries next d ∷ []) y m k)
      ∙ ap (λ (xs : List Sense). last_from (pos 0) xs y m k) (sym (take_more entries next d lt));
}

-- at an instant before the next entry the last entries say what all say
pub sensed_at : (entries latest : List Sense) (next x : ℕ) (d : Sense) → AreInOrder entries →
    (next < length entries → x < (slice_index_or entries next d).at.0) →
    IsUpTo entries x (record { next = next; latest = latest }) →
    IsSensedAt entries x (record { next = next; latest = latest })
sensed_at entries latest next x d order later up = fun_ext (λ m. fun_ext (λ k. at_sensor m k))
  where
    rest_later : (j : ℕ) → j < length (drop next entries) → x < (slice_index_or (drop next entries) j d).at.0
    rest_later j within =
        let inside : next + j < length entries = omega (arith, length-drop next entries) in
        let first : x < (slice_index_or entries next d).at.0 = later (omega arith) in
        let rises : (slice_index_or entries next d).at.0 ≤ (slice_index_or entries (next + j) d).at.0 =
        order next (next + j) d (omega arith) inside in
        rw (get_or-drop next entries j d) (omega arith)

    at_sensor : (m k : ℕ) → course_of latest x m k ≡ course_of entries x m k
    at_sensor m k =
        up.same x m k (omega arith)
        ∙ sym (last_from-later (last_from (pos 0) (take next entries) x m k) (drop next entries) x m k d rest_later)
        ∙ sym (last_from-append (pos 0) (take next entries) (drop next entries) x m k)
        ∙ ap (λ (xs : List Sense). last_from (pos 0) xs x m k) (take-append-drop next entries)

-- before any entry
pub none_over : (entries : List Sense) (x : ℕ) → IsUpTo entries x (record { next = 0; latest = [] })
none_over entries x = record { within = omega arith; same = λ y m k after. refl }

-- at a later instant
pub up_to_later : (entries : List Sense) (x y : ℕ) (s : SensesView) → x ≤ y → IsUpTo entries x s → IsUpTo entries y s
up_to_later entries x y s le up = record { within = up.within; same = λ z m k after. up.same z m k (omega arith) }

-- what stands where there is no entry
abbrev pub no_entry : Sense
no_entry = record { «module» = record { 0 = 0 }; sensor = 0; at = record { 0 = 0 }; value = pos 0 }
