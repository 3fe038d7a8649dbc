-- One answer at most is due, and an answer that is no fault is.
use Rattle.std.proofs.Common.{◌≡◌, ℕ, List, [], refl, ap, sym, ◌∙◌, subst, inl, inr, arith, Option, Some, None}
use Rattle.std.specs.Prelude.{◌⊎◌}
use Rattle.tdl_base.specs.declared.limits.TheConstants.{SCENARIO_BYTES}
use Rattle.tdl_io.specs.Outside.{Held, IsLonger}
use Rattle.tdl_image.specs.declared.bundle.Bundle.{Bundle}
use Rattle.tdl_lines.specs.declared.fault.Fault.{Fault}
use Rattle.tdl_lines.specs.Faults.{IsFirst}
use Rattle.tdl_lines.proofs.FirstFault.{first_is_one}
use Rattle.tdl_scen.specs.declared.entries.Scenario.{Scenario}
use Rattle.tdl_scenario.specs.Rules.{scenario_faults}
use Rattle.tdl_verify.specs.Texts.{bundle_names}
use Rattle.tdl_words.specs.declared.words.Call.{Call}
use Rattle.tdl_words.specs.Words.{Words, word_at, source_count, scenario_word}
use Rattle.tdl_report.specs.declared.status.Status.{Status}
use Rattle.tdl_report.specs.declared.status.Status.TheVariants.{Ok, Usage, TooLong, BadToken, BadSyntax, BadProgram, BadScenario, BadBundle, BadForm}
use Rattle.tdl_report.specs.Calls.{FilesCall, SinkCall}
use Rattle.tdl_top.specs.Sources.{IsRead}
use Rattle.tdl_top.specs.Inputs.{Gives, HasBundle, HasScenario}
use Rattle.tdl_top.specs.Refused.{FirstRefused, ScenarioRefused, IsRefused}
use Rattle.tdl_top.specs.Answers.{HasAsked, Prints, AnswerSaysOf, AnswerSaysBy}
use Rattle.tdl_top.specs.Due.{HoldsInputs, IsDueOf, IsDueBy, IsFault}
use Rattle.tdl_top.proofs.OnceSources.{same_bytes, not_long, sources_once, sources_have, sources_bundle}
use Rattle.tdl_top.proofs.OnceBundle.{file_once, file_has, file_bundle}

-- ---- the sources or the bundle

module _ (held : Held) (words : Words) where
  -- they are refused with one answer at most
  first_once : (o : Option ℕ) (s t : Status) → FirstRefused (Some held) words o s → FirstRefused (Some held) words o t →
      s ≡ t
  first_once (Some n) s t x y = sources_once held words n s t x y
  first_once None s t x y = file_once held words s t x y

  -- where they are refused they give no bundle
  first_has : (o : Option ℕ) (s : Status) (b : Bundle) → FirstRefused (Some held) words o s →
      Gives (Some held) words o b → ⊥
  first_has (Some n) s b x has = sources_have held words n s b x has
  first_has None s b x has = file_has held words s b x has

  -- they give one bundle at most
  gives_once : (o : Option ℕ) (a b : Bundle) → Gives (Some held) words o a → Gives (Some held) words o b → a ≡ b
  gives_once (Some n) a b x y = sources_bundle held words n a b x y
  gives_once None a b x y = file_bundle held words a b x y

module _ (held : Held) (words : Words) (call : Call) where
  -- ---- the scenario

  none_first : (f : Fault) → IsFirst f [] → ⊥
  none_first f first = absurd (omega (arith, first.within.1))

  same_word : (w v : ℕ) → scenario_word call ≡ Some w → scenario_word call ≡ Some v → w ≡ v
  same_word w v x y = by_some (sym x ∙ y)
    where
      by_some : Some w ≡ Some v → w ≡ v
      by_some e = cc e

  -- a scenario that was read is not too long
  long_read : (w v : ℕ) (bytes : List ℕ) → scenario_word call ≡ Some w → scenario_word call ≡ Some v →
      IsLonger (Some held) (word_at words w) SCENARIO_BYTES →
      IsRead (Some held) (word_at words v) SCENARIO_BYTES bytes → ⊥
  long_read w v bytes x y long read =
      not_long held (word_at words v) SCENARIO_BYTES bytes read
      (subst (λ (k : ℕ). IsLonger (Some held) (word_at words k) SCENARIO_BYTES) (same_word w v x y) long)

  -- it is refused with one answer at most
  later_once : (b : Bundle) (s t : Status) → ScenarioRefused (Some held) words call b s →
      ScenarioRefused (Some held) words call b t → s ≡ t
  later_once b (TooLong w) (TooLong v) x y = ap TooLong (same_word w v x.0 y.0)
  later_once b (TooLong w) (BadScenario r l) x y = absurd (long_read w y.word y.bytes x.0 y.asked x.1 y.read)
  later_once b (BadScenario r l) (TooLong v) x y = absurd (long_read v x.word x.bytes y.0 x.asked y.1 x.read)
  later_once b (BadScenario r l) (BadScenario q k) x y =
      let moved : IsRead (Some held) (word_at words y.word) SCENARIO_BYTES x.bytes =
      subst (λ (w : ℕ). IsRead (Some held) (word_at words w) SCENARIO_BYTES x.bytes)
      (same_word x.word y.word x.asked y.asked) x.read in
      let same : x.bytes ≡ y.bytes =
      same_bytes held (word_at words y.word) SCENARIO_BYTES x.bytes y.bytes moved y.read in
      let fault : record { line = l; rule = r } ≡ record { line = k; rule = q } =
      first_is_one (scenario_faults (bundle_names b) [] y.bytes) _ _
      (subst (λ (c : List ℕ). IsFirst (record { line = l; rule = r }) (scenario_faults (bundle_names b) [] c)) same
      x.first) y.first in
      ap (λ (f : Fault). BadScenario f.rule f.line) fault
  later_once b (TooLong w) t x y = absurd y
  later_once b (BadScenario r l) t x y = absurd y
  later_once b s t x y = absurd x

  -- the scenario that is asked for, at its word
  asked_at : (b : Bundle) (w : ℕ) (o : Option ℕ) → o ≡ Some w → HasAsked (Some held) words b o →
      (s : Scenario) × HasScenario (Some held) words (bundle_names b) w s
  asked_at b w o e asked = subst (λ (p : Option ℕ). HasAsked (Some held) words b p) e asked

  -- a scenario that was read is not refused
  later_asked : (b : Bundle) (s : Status) → ScenarioRefused (Some held) words call b s →
      HasAsked (Some held) words b (scenario_word call) → ⊥
  later_asked b (TooLong w) x asked =
      let good = asked_at b w (scenario_word call) x.0 asked in
      not_long held (word_at words w) SCENARIO_BYTES good.1.bytes good.1.read x.1
  later_asked b (BadScenario r l) x asked =
      let good = asked_at b x.word (scenario_word call) x.asked asked in
      let same = same_bytes held (word_at words x.word) SCENARIO_BYTES x.bytes good.1.bytes x.read good.1.read in
      none_first _ (subst (λ (fs : List Fault). IsFirst (record { line = l; rule = r }) fs)
      (ap (λ (c : List ℕ). scenario_faults (bundle_names b) [] c) same ∙ good.1.says.lawful) x.first)
  later_asked b s x asked = absurd x

  -- ---- one answer at most is due

  refused_once : (s t : Status) → IsRefused (Some held) words call s → IsRefused (Some held) words call t → s ≡ t
  refused_once s t x y = elim x [
    | inl a ↦ elim y [
      | inl b ↦ first_once held words (source_count call) s t a b
      | inr b ↦ absurd (first_has held words (source_count call) s b.bundle a b.has)
    ]
    | inr a ↦ elim y [
      | inl b ↦ absurd (first_has held words (source_count call) t a.bundle b a.has)
      | inr b ↦ later_once b.bundle s t
          (subst (λ (c : Bundle). ScenarioRefused (Some held) words call c s)
          (gives_once held words (source_count call) a.bundle b.bundle a.has b.has) a.is) b.is
    ]
  ]

  good_refused : (s : Status) → HoldsInputs held words call → IsRefused (Some held) words call s → ⊥
  good_refused s h x = elim x [
    | inl a ↦ first_has held words (source_count call) s h.bundle a h.has
    | inr a ↦ later_asked h.bundle s
        (subst (λ (c : Bundle). ScenarioRefused (Some held) words call c s)
        (gives_once held words (source_count call) a.bundle h.bundle a.has h.has) a.is) h.asked
  ]

  due_of : (s t : Status) → IsDueOf held words call s → IsDueOf held words call t → s ≡ t
  due_of Ok Ok x y = refl
  due_of Ok t x y = absurd (good_refused t x y)
  due_of s Ok x y = absurd (good_refused s y x)
  due_of s t x y = refused_once s t x y

-- one answer at most is due
pub due_once : (held : Held) (words : Words) (o : Option Call) (s t : Status) → IsDueBy held words o s →
    IsDueBy held words o t → s ≡ t
due_once held words None s t x y = x ∙ sym y
due_once held words (Some call) s t x y = due_of held words call s t x y

-- ---- an answer that is no fault is due

asked_of : (held : Held) (words : Words) (b : Bundle) (out : SinkCall) (o : Option ℕ) →
    Prints (Some held) words b out o → HasAsked (Some held) words b o
asked_of held words b out None prints = tt
asked_of held words b out (Some w) prints = (prints.scenario, prints.read)

module _ (files : FilesCall) (words : Words) (out : SinkCall) (held : Held) (e : files.before.holds ≡ Some held) where
  says_due_of : (call : Call) (s : Status) → AnswerSaysOf files words out call s → IsFault s ⊎ IsDueOf held words call s
  says_due_of call Ok says = inr (record {
    bundle = says.bundle;
    has = subst (λ (h : Option Held). HasBundle h words call says.bundle) e says.has;
    asked = asked_of held words says.bundle out (scenario_word call)
        (subst (λ (h : Option Held). Prints h words says.bundle out (scenario_word call)) e says.prints);
  })
  says_due_of call (TooLong w) says =
      inr (subst (λ (h : Option Held). IsRefused h words call (TooLong w)) e says.0)
  says_due_of call (BadToken w l c) says =
      inr (subst (λ (h : Option Held). IsRefused h words call (BadToken w l c)) e says.0)
  says_due_of call (BadSyntax w l c) says =
      inr (subst (λ (h : Option Held). IsRefused h words call (BadSyntax w l c)) e says.0)
  says_due_of call (BadProgram w r l c) says =
      inr (subst (λ (h : Option Held). IsRefused h words call (BadProgram w r l c)) e says.0)
  says_due_of call (BadScenario r l) says =
      inr (subst (λ (h : Option Held). IsRefused h words call (BadScenario r l)) e says.0)
  says_due_of call (BadBundle r a) says =
      inr (subst (λ (h : Option Held). IsRefused h words call (BadBundle r a)) e says.0)
  says_due_of call (BadForm w) says =
      inr (subst (λ (h : Option Held). IsRefused h words call (BadForm w)) e says.0)
  says_due_of call Usage says = absurd says.0
  says_due_of call s says = inl tt

  says_due : (o : Option Call) (s : Status) → AnswerSaysBy files words out o s → IsFault s ⊎ IsDueBy held words o s
  says_due None s says = inr says.0
  says_due (Some call) s says = says_due_of call s says

  -- where an answer is due, it is given, or a fault is
  pub says_exactly : (o : Option Call) (s t : Status) → AnswerSaysBy files words out o s → IsDueBy held words o t →
      IsFault s ⊎ (s ≡ t)
  says_exactly o s t says due = elim (says_due o s says) [
    | inl fault ↦ inl fault
    | inr mine ↦ inr (due_once held words o s t mine due)
  ]
