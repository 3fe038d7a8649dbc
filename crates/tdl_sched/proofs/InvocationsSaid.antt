-- What lines say is there.
use Rattle.std.proofs.Common.{◌≡◌, ◌+◌, ℕ, zero, suc, Bool, true, false, List, [], ◌∷◌, map, Option, Some, None, option_map, option_and_then, unwrap_or, refl, sym, ap, ◌∙◌, subst, arith}
use Rattle.std.specs.Prelude.{if◌then◌else◌, nat_le, slice_get, bytes_eq}
use Rattle.std.specs.List.{cons_option}
use Rattle.std.proofs.lemmas.Option.{same_Some}
use Rattle.tdl_mode.specs.declared.program.Program.{Program}
use Rattle.tdl_mode.specs.declared.program.Module.{Module}
use Rattle.tdl_mode.specs.declared.program.Mode.{Mode}
use Rattle.tdl_mode.specs.declared.program.Invocation.{Invocation}
use Rattle.tdl_mode.specs.States.{invocation_of}
use Rattle.tdl_deploy.specs.declared.schedule.Resource.{Resource}
use Rattle.tdl_deploy.specs.declared.schedule.Window.{Window}
use Rattle.tdl_scen.specs.Lines.{number_of}
use Rattle.tdl_lines.specs.SaidLines.{NumberedLine, words_said}
use Rattle.tdl_sched.specs.declared.entry.Called.{Called}
use Rattle.tdl_sched.specs.declared.entry.Entry.{Entry}
use Rattle.tdl_sched.specs.declared.entry.Entry.TheVariants.{Formless, Reserve}
use Rattle.tdl_sched.specs.Entries.{resource_of, span_of, entry_of}
use Rattle.tdl_sched.specs.GoodSchedules.{IsThere}
use Rattle.tdl_sched.specs.Looked.{short, first_from, module_named, mode_named, numbered_in, called}
use Rattle.tdl_sched.specs.ReadSchedule.{window_in, windows_in}

-- what is found stands at its number, counted from k
record Stands {A : Type 0} (k : ℕ) (xs : List A) (found : ℕ × A) : Type 0 where
  place : ℕ
  number : found.0 ≡ k + place
  at : slice_get xs place ≡ Some found.1

-- so does what is found first
stands : {A : Type 0} (p : A → Bool) (xs : List A) (k : ℕ) (found : ℕ × A) → first_from p k xs ≡ Some found →
    Stands k xs found
stands p [] k found e = absurd (cc e)
stands {A} p (x ∷ xs) k found e = by_test (stands p xs (k + 1) found) (p x) e
  where
    by_size : (t : Bool) →
        option_map (λ (n : ℕ). (n, x)) (if t then Some k else None) ≡ Some found → Stands k (x ∷ xs) found
    by_size true is =
        let same : (k, x) ≡ found = same_Some (k, x) found is in
        record {
          place = 0;
          number = sym (ap (λ (f : ℕ × A). f.0) same) ∙ omega arith;
          at = ap (λ (f : ℕ × A). Some f.1) same;
        }
    by_size false is = absurd (cc is)

    by_test : (first_from p (k + 1) xs ≡ Some found → Stands (k + 1) xs found) → (t : Bool) →
        (if t then option_map (λ number. (number, x)) (short k) else first_from p (k + 1) xs) ≡ Some found →
        Stands k (x ∷ xs) found
    by_test more true is = by_size (nat_le k 65535) is
    by_test more false is =
        let after = more is in
        record { place = suc after.place; number = omega (arith, after.number); at = after.at }

-- what is found first of all stands at its number
stands_at : {A : Type 0} (p : A → Bool) (xs : List A) (found : ℕ × A) → first_from p 0 xs ≡ Some found →
    slice_get xs found.0 ≡ Some found.1
stands_at p xs found e =
    let s = stands p xs 0 found e in
    let same : s.place ≡ found.0 = omega (arith, s.number) in
    subst (λ (n : ℕ). slice_get xs n ≡ Some found.1) same s.at

-- an invocation that may be called is there
abbrev IfCalled : Program → Option Called → Type 0
IfCalled program None = Unit {0}
IfCalled program (Some c) = IsThere program c.«module».0 c.mode.0 c.invocation

-- what is looked up is there
called_there : (program : Program) (a b : List ℕ) (n : ℕ) → IfCalled program (called program a b n)
called_there program a b n = by_module (module_named program.modules a) refl
  where
    by_invocation : (m : ℕ × Module) (k : ℕ × Mode) (number : ℕ) →
        slice_get program.modules m.0 ≡ Some m.1 → slice_get m.1.modes k.0 ≡ Some k.1 →
        (o : Option Invocation) → invocation_of k.1.invocations number ≡ o →
        IfCalled program (option_map (λ number. record {
          «module» = record { 0 = m.0 };
          mode = record { 0 = k.0 };
          invocation = number;
        }) (option_map (λ i. number) o))
    by_invocation m k number owner mode None e = tt
    by_invocation m k number owner mode (Some i) e = record {
      owner = m.1;
      mode = k.1;
      invocation = i;
      owner_at = owner;
      mode_at = mode;
      invocation_at = e;
    }

    by_number : (m : ℕ × Module) (k : ℕ × Mode) →
        slice_get program.modules m.0 ≡ Some m.1 → slice_get m.1.modes k.0 ≡ Some k.1 → (o : Option ℕ) →
        IfCalled program (option_map (λ number. record {
          «module» = record { 0 = m.0 };
          mode = record { 0 = k.0 };
          invocation = number;
        }) (option_and_then (λ number. option_map (λ i. number) (invocation_of k.1.invocations number)) o))
    by_number m k owner mode None = tt
    by_number m k owner mode (Some number) =
        by_invocation m k number owner mode (invocation_of k.1.invocations number) refl

    by_mode : (m : ℕ × Module) → slice_get program.modules m.0 ≡ Some m.1 → (o : Option (ℕ × Mode)) →
        mode_named m.1.modes b ≡ o →
        IfCalled program (option_and_then (λ (k : ℕ × Mode). option_map (λ number. record {
          «module» = record { 0 = m.0 };
          mode = record { 0 = k.0 };
          invocation = number;
        }) (numbered_in k.1.invocations n)) o)
    by_mode m owner None e = tt
    by_mode m owner (Some k) e =
        by_number m k owner (stands_at (λ (x : Mode). bytes_eq x.name b) m.1.modes k e) (short n)

    by_module : (o : Option (ℕ × Module)) → module_named program.modules a ≡ o →
        IfCalled program (option_and_then (λ (m : ℕ × Module). option_and_then (λ (k : ℕ × Mode).
        option_map (λ number. record {
          «module» = record { 0 = m.0 };
          mode = record { 0 = k.0 };
          invocation = number;
        }) (numbered_in k.1.invocations n)) (mode_named m.1.modes b)) o)
    by_module None e = tt
    by_module (Some m) e =
        by_mode m (stands_at (λ (x : Module). bytes_eq x.name a) program.modules m e) (mode_named m.1.modes b) refl

-- what a line says is there
abbrev EntryThere : Program → Entry → Type 0
EntryThere program Formless = Unit {0}
EntryThere program (Reserve resource called span) = IfCalled program called

-- words of any number
said_there : (program : Program) (words : List (List ℕ)) → EntryThere program (entry_of program words)
said_there program (key ∷ a ∷ b ∷ n ∷ o ∷ l ∷ []) =
    by_parts (resource_of key) (number_of n) (number_of o) (number_of l)
  where
    by_parts : (key : Option Resource) (n o l : Option ℕ) →
        EntryThere program (unwrap_or (option_and_then (λ resource. option_and_then (λ n. option_and_then (λ o.
        option_map (λ l. Reserve resource (called program a b n) (span_of o l)) l) o) n) key) Formless)
    by_parts None n o l = tt
    by_parts (Some key) None o l = tt
    by_parts (Some key) (Some n) None l = tt
    by_parts (Some key) (Some n) (Some o) None = tt
    by_parts (Some key) (Some n) (Some o) (Some l) = called_there program a b n
said_there program [] = tt
said_there program (a ∷ []) = tt
said_there program (a ∷ b ∷ []) = tt
said_there program (a ∷ b ∷ c ∷ []) = tt
said_there program (a ∷ b ∷ c ∷ d ∷ []) = tt
said_there program (a ∷ b ∷ c ∷ d ∷ e ∷ []) = tt
said_there program (a ∷ b ∷ c ∷ d ∷ e ∷ f ∷ g ∷ more) = tt

-- the windows of lines that are not skipped
abbrev pub windows_of : Program → List NumberedLine → List Window
windows_of program lines = windows_in (map (λ (line : NumberedLine). record {
  line = line.number;
  what = entry_of program (words_said line.text);
}) lines)

-- each window of lines is there
pub windows_there : (program : Program) (lines : List NumberedLine) (q : ℕ) (w : Window) →
    slice_get (windows_of program lines) q ≡ Some w → IsThere program w.«module».0 w.mode.0 w.invocation
windows_there program [] q w at = absurd (cc at)
windows_there program (x ∷ xs) q w at =
    by_entry (entry_of program (words_said x.text)) (said_there program (words_said x.text)) q at
    (windows_there program xs)
  where
    by_entry : (e : Entry) → EntryThere program e → (q : ℕ) →
        slice_get (cons_option (window_in e) (windows_of program xs)) q ≡ Some w →
        ((q : ℕ) (w : Window) → slice_get (windows_of program xs) q ≡ Some w →
        IsThere program w.«module».0 w.mode.0 w.invocation) →
        IsThere program w.«module».0 w.mode.0 w.invocation
    by_entry Formless there q at more = more q w at
    by_entry (Reserve resource None span) there q at more = more q w at
    by_entry (Reserve resource (Some called) None) there q at more = more q w at
    by_entry (Reserve resource (Some called) (Some span)) there zero at more =
        subst (λ (v : Window). IsThere program v.«module».0 v.mode.0 v.invocation) (same_Some _ w at) there
    by_entry (Reserve resource (Some called) (Some span)) there (suc q) at more = more q w at
