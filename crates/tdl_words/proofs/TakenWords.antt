-- The words of the calls that are taken.
use Rattle.std.proofs.Common.{◌≡◌, ◌+◌, ◌<◌, ◌≤◌, ℕ, zero, suc, List, [], ◌∷◌, ◌++◌, length, drop, Bool, true, false, not, ◌==◌, refl, ap, arith, ◌∙◌, Some, None}
use Rattle.std.specs.Prelude.{codes, bytes_eq, IsTrue}
use Rattle.std.specs.List.{AllByRecursion}
use Rattle.tdl_base.specs.declared.limits.TheConstants.{SOURCES}
use Rattle.tdl_words.specs.declared.words.Call.TheVariants as call
use Rattle.tdl_words.specs.Words.{Words, AreSources, is_file, files_in, is_count, place_after, follows, call_in}

-- ---- files' names before an option

-- what is false where its opposite is true
false_of_not : (b : Bool) → not b ≡ true → b ≡ false
false_of_not true h = cc h
false_of_not false h = refl

-- a file's name is no option
no_option : (file rest : List ℕ) → is_file file ≡ true → bytes_eq file (45 ∷ rest) ≡ false
no_option [] rest is = cc is
no_option (c ∷ cs) rest is = rw (false_of_not (c == 45) is) refl

-- so many stand before the option
files_in-append : (files rest : Words) (option : List ℕ) → AllByRecursion (λ file. IsTrue (is_file file)) files →
    files_in (files ++ (45 ∷ option) ∷ rest) ≡ length files
files_in-append [] rest option are = refl
files_in-append (file ∷ files) rest option are = rw are.0 (ap suc (files_in-append files rest option are.1))

-- its value stands after them
place_after-append : (files rest : Words) (option : List ℕ) (k : ℕ) →
    AllByRecursion (λ file. IsTrue (is_file file)) files →
    place_after (45 ∷ option) k (files ++ rest) ≡ place_after (45 ∷ option) (k + length files) rest
place_after-append [] rest option k are =
    let e : k + 0 ≡ k = omega arith in rw e refl
place_after-append (file ∷ files) rest option k are =
    let e : k + 1 + length files ≡ k + suc (length files) = omega arith in
    rw (no_option file option are.0) (place_after-append files rest option (k + 1) are.1
    ∙ ap (λ (n : ℕ). place_after (45 ∷ option) n rest) e)

-- the option stands first without them
drop-length-append : (files rest : Words) → drop (length files) (files ++ rest) ≡ rest
drop-length-append [] rest = refl
drop-length-append (file ∷ files) rest = drop-length-append files rest

-- from 1 to 64 are so many
is_count-sources : (n : ℕ) → 1 ≤ n → n ≤ SOURCES → is_count SOURCES n ≡ true
is_count-sources n some most = search (arith, some, most)

-- more are too many
is_count-many : (n : ℕ) → SOURCES < n → is_count SOURCES n ≡ false
is_count-many n many = search (arith, many)

-- ---- the commands

-- `compile`
pub compile : (files : Words) (out : List ℕ) → AreSources files → is_file out ≡ true →
    call_in (codes "compile" ∷ files ++ codes "--out" ∷ out ∷ [])
    ≡ Some (call.Compile (length files) (length files + 2))
unfolding follows
compile files out are o =
    let place : 1 + length files + 1 ≡ length files + 2 = omega arith in
    rw (
      files_in-append files (out ∷ []) (codes "-out") are.named,
      is_count-sources (length files) are.some are.most,
      drop-length-append files (codes "--out" ∷ out ∷ []),
      place_after-append files (codes "--out" ∷ out ∷ []) (codes "-out") 1 are.named,
      o,
      place,
    ) refl

-- `run`, the saved file first
pub run : (files : Words) (out scenario : List ℕ) → AreSources files → is_file out ≡ true → is_file scenario ≡ true →
    call_in (codes "run" ∷ files ++ codes "--out" ∷ out ∷ codes "--scen" ∷ scenario ∷ [])
    ≡ Some (call.Run (length files) (length files + 2) (length files + 4))
unfolding follows
run files out scenario are o s =
    let place : 1 + length files + 1 ≡ length files + 2 = omega arith in
    let later : 1 + length files + 1 + 1 + 1 ≡ length files + 4 = omega arith in
    let tail : Words = codes "--out" ∷ out ∷ codes "--scen" ∷ scenario ∷ [] in
    rw (
      files_in-append files (out ∷ codes "--scen" ∷ scenario ∷ []) (codes "-out") are.named,
      is_count-sources (length files) are.some are.most,
      drop-length-append files tail,
      place_after-append files tail (codes "-out") 1 are.named,
      place_after-append files tail (codes "-scen") 1 are.named,
      o,
      s,
      no_option out (codes "-scen") o,
      no_option scenario (codes "-out") s,
      later,
      place,
    ) refl

-- `run`, the scenario first
pub run_scenario_first : (files : Words) (out scenario : List ℕ) → AreSources files → is_file out ≡ true →
    is_file scenario ≡ true →
    call_in (codes "run" ∷ files ++ codes "--scen" ∷ scenario ∷ codes "--out" ∷ out ∷ [])
    ≡ Some (call.Run (length files) (length files + 4) (length files + 2))
unfolding follows
run_scenario_first files out scenario are o s =
    let place : 1 + length files + 1 ≡ length files + 2 = omega arith in
    let later : 1 + length files + 1 + 1 + 1 ≡ length files + 4 = omega arith in
    let tail : Words = codes "--scen" ∷ scenario ∷ codes "--out" ∷ out ∷ [] in
    rw (
      files_in-append files (scenario ∷ codes "--out" ∷ out ∷ []) (codes "-scen") are.named,
      is_count-sources (length files) are.some are.most,
      drop-length-append files tail,
      place_after-append files tail (codes "-out") 1 are.named,
      place_after-append files tail (codes "-scen") 1 are.named,
      s,
      o,
      no_option scenario (codes "-out") s,
      no_option out (codes "-scen") o,
      later,
      place,
    ) refl

-- `exec`
pub exec : (file scenario : List ℕ) → is_file file ≡ true → is_file scenario ≡ true →
    call_in (codes "exec" ∷ file ∷ codes "--scen" ∷ scenario ∷ []) ≡ Some (call.Exec 3)
unfolding follows
exec file scenario f s = rw (f, s, no_option file (codes "-scen") f) refl

-- too many files
pub too_many : (words : Words) → SOURCES < files_in words →
    (call_in (codes "compile" ∷ words) ≡ None) × (call_in (codes "run" ∷ words) ≡ None)
unfolding follows
too_many words many =
    (rw (is_count-many (files_in words) many) refl, rw (is_count-many (files_in words) many) refl)
