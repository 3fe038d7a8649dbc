-- The text of windows that are there is read as these windows.
use Rattle.std.proofs.Common.{◌≡◌, ◌<◌, ◌≤◌, ◌+◌, ◌*◌, ◌^◌, ℕ, suc, true, false, List, [], ◌∷◌, ◌++◌, length, Some, refl, sym, ap, ap₂, ◌∙◌, subst, append_assoc, arith}
use Rattle.std.specs.Prelude.{nat_eq, nat_le, slice_get, codes}
use Rattle.std.specs.Fmt.{decimal}
use Rattle.std.specs.List.{flat_map, list_all, starts_with}
use Rattle.std.proofs.lemmas.Bool.{and_parts, and_from, le-leb, lt-leb}
use Rattle.std.proofs.lemmas.Bool.Decides.{nat_tests}
use Rattle.std.proofs.lemmas.List.{length-append}
use Rattle.tdl_base.specs.Letters.{is_letter, is_name_byte, is_word}
use Rattle.tdl_base.specs.declared.limits.TheConstants.{WINDOWS}
use Rattle.tdl_mode.specs.declared.program.Program.{Program}
use Rattle.tdl_deploy.specs.declared.schedule.Resource.{Resource}
use Rattle.tdl_deploy.specs.declared.schedule.Resource.TheVariants.{Cpu, Bus}
use Rattle.tdl_deploy.specs.declared.schedule.Window.{Window}
use Rattle.tdl_lines.specs.declared.said.Said.{Said}
use Rattle.tdl_scen.specs.Lines.{number_of, lines_of}
use Rattle.tdl_sched.specs.declared.entry.Called.{Called}
use Rattle.tdl_sched.specs.declared.entry.Span.{Span}
use Rattle.tdl_sched.specs.declared.entry.Entry.{Entry}
use Rattle.tdl_sched.specs.declared.entry.Entry.TheVariants.{Reserve}
use Rattle.tdl_sched.specs.Entries.{resource_of, span_of, entry_of}
use Rattle.tdl_sched.specs.GoodSchedules.{IsThere, IsInRange, WellNamed}
use Rattle.tdl_sched.specs.Looked.{called}
use Rattle.tdl_sched.specs.ReadSchedule.{windows_in}
use Rattle.tdl_sched.specs.ScheduleRules.{faults_after}
use Rattle.tdl_sched.specs.ScheduleText.{resource_word, module_name, mode_name, spaced, words_of_window, window_line}
use Rattle.tdl_sched.proofs.DecimalWords.{number_of-decimal, decimal-plain, decimal-short}
use Rattle.tdl_sched.proofs.NamesFound.{called-there}
use Rattle.tdl_sched.proofs.PlainWords.{is_plain_byte, all_weaker, IsPlain, ArePlain, said_by, said-spaced}

-- the line of a window, as it is read
abbrev reserve : Window → Entry
reserve w =
    Reserve w.resource (Some (record { «module» = w.«module»; mode = w.mode; invocation = w.invocation }))
    (Some (record { offset = w.offset; length = w.length }))

-- the lines of windows, the first of them with the number k
abbrev pub reserving : ℕ → List Window → List (Said Entry)
reserving k [] = []
reserving k (w ∷ ws) = record { line = k; what = reserve w } ∷ reserving (k + 1) ws

-- they break no rule
pub faults_after-reserving : (before k : ℕ) (ws : List Window) → before + length ws ≤ WINDOWS →
    faults_after before (reserving k ws) ≡ []
faults_after-reserving before k [] few = refl
faults_after-reserving before k (w ∷ ws) few =
    let room : nat_le WINDOWS before ≡ false = lt-leb WINDOWS before (omega (arith, few)) in
    rw room (faults_after-reserving (before + 1) (k + 1) ws (omega (arith, few)))

-- they say the windows
pub windows_in-reserving : (k : ℕ) (ws : List Window) → windows_in (reserving k ws) ≡ ws
windows_in-reserving k [] = refl
windows_in-reserving k (w ∷ ws) = ap (λ (vs : List Window). w ∷ vs) (windows_in-reserving (k + 1) ws)

-- a letter is printable
plain_letter : (b : ℕ) → is_letter b ≡ true → is_plain_byte b ≡ true
plain_letter b letter = grind (arith, nat_tests)

-- each byte of an identifier is
plain_name_byte : (b : ℕ) → is_name_byte b ≡ true → is_plain_byte b ≡ true
plain_name_byte b byte = grind (arith, nat_tests)

-- an identifier is a word of a line
name-plain : (name : List ℕ) → is_word name ≡ true → IsPlain name
name-plain [] word = absurd cc
name-plain (b ∷ bs) word =
    let both = and_parts (is_letter b) (list_all is_name_byte bs) word in
    record {
      some = omega arith;
      bytes = and_from (is_plain_byte b) (list_all is_plain_byte bs) (plain_letter b both.0)
          (all_weaker is_name_byte is_plain_byte plain_name_byte bs both.1);
    }

-- the word of a resource is a word of a line
resource-plain : (r : Resource) → IsPlain (resource_word r)
resource-plain Cpu = record { some = omega arith; bytes = refl }
resource-plain Bus = record { some = omega arith; bytes = refl }

-- it begins no comment
resource-kept : (r : Resource) → starts_with nat_eq (resource_word r) (codes "#") ≡ false
resource-kept Cpu = refl
resource-kept Bus = refl

-- it is read again
resource_of-word : (r : Resource) → resource_of (resource_word r) ≡ Some r
resource_of-word Cpu = refl
resource_of-word Bus = refl

-- it has three bytes
resource-length : (r : Resource) → length (resource_word r) ≡ 3
resource-length Cpu = refl
resource-length Bus = refl

-- numbers of 32 bits are an offset and a length
span_of-fits : (offset size : ℕ) → offset < 2 ^ 32 → size < 2 ^ 32 →
    span_of offset size ≡ Some (record { offset = offset; length = size })
span_of-fits offset size first second =
    let one : nat_le offset 4294967295 ≡ true = le-leb offset 4294967295 (omega (arith, first)) in
    let two : nat_le size 4294967295 ≡ true = le-leb size 4294967295 (omega (arith, second)) in
    rw (one, two) refl

-- a window that can be read again
pub record IsGood (program : Program) (w : Window) : Type 0 where
  pub there : IsThere program w.«module».0 w.mode.0 w.invocation
  pub range : IsInRange w

-- the name of the module that is there
module_name-there : (program : Program) (w : Window) (good : IsGood program w) →
    module_name program w.«module».0 ≡ good.there.owner.name
module_name-there program w good = let at = good.there.owner_at in rw at refl

-- the name of the mode that is there
mode_name-there : (program : Program) (w : Window) (good : IsGood program w) →
    mode_name program w.«module».0 w.mode.0 ≡ good.there.mode.name
mode_name-there program w good =
    let owner = good.there.owner_at in let mode = good.there.mode_at in rw (owner, mode) refl

-- words that are read part by part
entry_of-parts : (program : Program) (key a b n o l : List ℕ) (r : Resource) (i f s : ℕ) (c : Called) (span : Span) →
    resource_of key ≡ Some r → number_of n ≡ Some i → number_of o ≡ Some f → number_of l ≡ Some s →
    called program a b i ≡ Some c → span_of f s ≡ Some span →
    entry_of program (key ∷ a ∷ b ∷ n ∷ o ∷ l ∷ []) ≡ Reserve r (Some c) (Some span)
entry_of-parts program key a b n o l r i f s c span word first second third found fits =
    rw (word, first, second, third) (ap₂ (λ x y. Reserve r x y) found fits)

-- the words of a window are read as the window
entry_of-window : (program : Program) (w : Window) → WellNamed program → (good : IsGood program w) →
    entry_of program (words_of_window program w) ≡ reserve w
entry_of-window program w named good =
    let range = good.range in
    entry_of-parts program (resource_word w.resource) (module_name program w.«module».0)
    (mode_name program w.«module».0 w.mode.0) (decimal w.invocation) (decimal w.offset) (decimal w.length)
    w.resource w.invocation w.offset w.length
    (record { «module» = w.«module»; mode = w.mode; invocation = w.invocation })
    (record { offset = w.offset; length = w.length })
    (resource_of-word w.resource) (number_of-decimal w.invocation (omega (arith, range.invocation)))
    (number_of-decimal w.offset range.offset) (number_of-decimal w.length range.size)
    (ap₂ (λ (a b : List ℕ). called program a b w.invocation) (module_name-there program w good)
    (mode_name-there program w good)
    ∙ called-there program w.«module».0 w.mode.0 w.invocation good.there named range.owner range.mode range.invocation)
    (span_of-fits w.offset w.length range.offset range.size)

-- they are words of a line
window-plain : (program : Program) (w : Window) → WellNamed program → (good : IsGood program w) →
    ArePlain (words_of_window program w)
window-plain program w named good =
    let is = good.there in
    let range = good.range in
    let owner = named.owner w.«module».0 is.owner is.owner_at in
    let mode = named.mode w.«module».0 w.mode.0 is.owner is.mode is.owner_at is.mode_at in (
      resource-plain w.resource,
      (
        subst IsPlain (sym (module_name-there program w good)) (name-plain is.owner.name owner.word),
        (
          subst IsPlain (sym (mode_name-there program w good)) (name-plain is.mode.name mode.word),
          (
            decimal-plain w.invocation (omega (arith, range.invocation)),
            (
              decimal-plain w.offset range.offset,
              (decimal-plain w.length range.size, tt),
            ),
          ),
        ),
      ),
    )

-- the text of windows says the windows
pub said_by-text : (program : Program) (k : ℕ) (ws : List Window) → WellNamed program →
    ((q : ℕ) (w : Window) → slice_get ws q ≡ Some w → IsGood program w) →
    said_by (entry_of program) k (lines_of (flat_map (window_line program) ws)) ≡ reserving k ws
said_by-text program k [] named good = refl
said_by-text program k (w ∷ ws) named good =
    let words = words_of_window program w in
    let rest = flat_map (window_line program) ws in
    ap (λ (t : List ℕ). said_by (entry_of program) k (lines_of t)) (append_assoc (spaced words) (10 ∷ []) rest)
    ∙ said-spaced (entry_of program) k words rest (window-plain program w named (good 0 w refl))
    (resource-kept w.resource)
    ∙ ap₂ (λ (e : Entry) (more : List (Said Entry)). record { line = k; what = e } ∷ more)
    (entry_of-window program w named (good 0 w refl))
    (said_by-text program (k + 1) ws named (λ q v at. good (suc q) v at))

-- the length of a line of six words
line-length : (a b c d e f : List ℕ) →
    length (spaced (a ∷ b ∷ c ∷ d ∷ e ∷ f ∷ []) ++ 10 ∷ [])
    ≡ length a + (length b + (length c + (length d + (length e + length f)))) + 6
line-length a b c d e f = simp (length-append) (omega arith)

-- a line of a window has at most so many bytes
window_line-short : (program : Program) (w : Window) → WellNamed program → (good : IsGood program w) →
    length (window_line program w) ≤ 167
window_line-short program w named good =
    let is = good.there in
    let range = good.range in
    let owner = named.owner w.«module».0 is.owner is.owner_at in
    let mode = named.mode w.«module».0 w.mode.0 is.owner is.mode is.owner_at is.mode_at in
    omega (
      arith,
      line-length (resource_word w.resource) (module_name program w.«module».0)
          (mode_name program w.«module».0 w.mode.0) (decimal w.invocation) (decimal w.offset) (decimal w.length),
      resource-length w.resource,
      ap length (module_name-there program w good),
      ap length (mode_name-there program w good),
      owner.short,
      mode.short,
      decimal-short w.invocation (omega (arith, range.invocation)),
      decimal-short w.offset range.offset,
      decimal-short w.length range.size,
    )

-- so many for each window
pub text-short : (program : Program) (ws : List Window) → WellNamed program →
    ((q : ℕ) (w : Window) → slice_get ws q ≡ Some w → IsGood program w) →
    length (flat_map (window_line program) ws) ≤ 167 * length ws
text-short program [] named good = omega arith
text-short program (w ∷ ws) named good =
    omega (
      arith,
      length-append (window_line program w) (flat_map (window_line program) ws),
      window_line-short program w named (good 0 w refl),
      text-short program ws named (λ q v at. good (suc q) v at),
    )
