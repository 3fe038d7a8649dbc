-- What the inputs of a call say, from what their loads say.
use Rattle.std.proofs.Common.{◌≡◌, ◌∙◌, ℕ, List, [], ◌∷◌, length, get_or, subst, sym, ap, arith, refl, inl, Option, Some, None}
use Rattle.std.specs.Prelude.{◌≢◌}
use Rattle.tdl_base.specs.declared.limits.TheConstants.{BUNDLE_BYTES}
use Rattle.tdl_io.specs.Outside.{Held}
use Rattle.tdl_io.specs.Told.{FilesTold}
use Rattle.tdl_mode.specs.declared.program.Program.{Program}
use Rattle.tdl_tree.specs.declared.declarations.Tree.{Tree}
use Rattle.tdl_rules.specs.Faults.{faults}
use Rattle.tdl_plain.specs.declared.form.Form.{Form}
use Rattle.tdl_plain.specs.PlainSource.{IsPlainForm}
use Rattle.tdl_plain.specs.PlainTree.{IsPlainTree}
use Rattle.tdl_plain.specs.PlainProgram.{program_of}
use Rattle.tdl_scen.specs.declared.entries.Scenario.{Scenario}
use Rattle.tdl_plain.specs.Runnable.{IsRunnable}
use Rattle.tdl_trace.specs.declared.names.Names.{Names}
use Rattle.tdl_image.specs.declared.bundle.Bundle.{Bundle}
use Rattle.tdl_image.specs.Spelling.{bundle_bytes}
use Rattle.tdl_image.specs.Spellable.{IsSpellable}
use Rattle.tdl_image.proofs.OneSpelling.{one_spelling}
use Rattle.tdl_make.specs.PlainBundle.{plain_bundle, IsPlainBundle}
use Rattle.tdl_make.proofs.Spelled.{plain_spellable}
use Rattle.tdl_make.proofs.PlainRealises.{made}
use Rattle.tdl_report.specs.declared.status.Status.{Status}
use Rattle.tdl_report.specs.declared.status.Status.TheVariants.{Ok, LoadFailed, TooLong, BadToken, BadSyntax, BadProgram, SaveFailed, BadScenario, BadBundle, NoMemory, BadForm}
use Rattle.tdl_words.specs.declared.words.Call.{Call}
use Rattle.tdl_words.specs.Words.{Words, word_at, source_count}
use Rattle.tdl_report.specs.Calls.{FilesCall, OnlyLoads}
use Rattle.tdl_top.specs.Sources.{IsRead, SayProgram}
use Rattle.tdl_top.specs.Taken.{AreRead, SayBundle}
use Rattle.tdl_top.specs.Inputs.{HasBundle, HasScenario}
use Rattle.tdl_top.specs.Refused.{InputSays, IsAsked, IsAskedFirst, IsRefused, FirstRefused, BundleRefused, IsFailedLoad}
use Rattle.tdl_top.specs.Loads.{LoadSays, DecodeSays, SourcesSay, RulesSay, FormSays}
use Rattle.tdl_top.proofs.Loading.{named_earlier}

-- ---- the form of a source

-- a plain form's numbers are those that a run needs
pub runnable : (f : Form) → IsPlainForm f → IsRunnable f
runnable f lawful = record {
  worst = omega (arith, lawful.worst_from);
  within = omega (arith, lawful.worst_to);
  period = lawful.period_to;
  initial = lawful.initial_to;
}

-- ---- the trees of sources

-- a list of one item
single : (xs : List Tree) (x : Tree) → length xs ≡ 1 → x ≡ get_or xs 0 x → xs ≡ x ∷ []
single [] x one is = absurd (omega (arith, one))
single (y ∷ []) x one is = ap (λ (z : Tree). z ∷ []) (sym is)
single (y ∷ z ∷ xs) x one is = absurd (omega (arith, one))

-- a plain tree that breaks no rule gives its bundle
pub plain_says : (f : Form) (trees : List Tree) (tree : Tree) → faults trees ≡ [] → length trees ≡ 1 →
    tree ≡ get_or trees 0 tree →
    IsPlainTree f tree → SayBundle trees (plain_bundle f)
plain_says f trees tree obey one is plain = record {
  program = program_of f;
  say = record {
    obey = obey;
    tree = tree;
    only = single trees tree one is;
    says = record { form = f; plain = plain; is = refl };
  };
  made = sym (made f (runnable f plain.lawful));
}

-- a tree that says no form says no program
pub no_form : (trees : List Tree) (tree : Tree) → length trees ≡ 1 → tree ≡ get_or trees 0 tree →
    ((f : Form) → IsPlainTree f tree → ⊥) → (p : Program) → SayProgram trees p → ⊥
no_form trees tree one is none p say =
    let same : say.tree ≡ tree =
    ap (λ (ts : List Tree). get_or ts 0 tree) (sym say.only ∙ single trees tree one is) in
    none say.says.form (subst (λ (t : Tree). IsPlainTree say.says.form t) same say.says.plain)

-- ---- sources

-- what one of the sources is refused for, the inputs are refused for
pub sources_input : (files : FilesCall) (words : Words) (call : Call) (n : ℕ) (s : Status) →
    source_count call ≡ Some n → SourcesSay files words n s → InputSays files words call s
sources_input files words call n (LoadFailed w) is says = (
  inl (subst (λ (o : Option ℕ). IsAskedFirst files.before.holds words o w) (sym is) says.0),
  says.1,
)
sources_input files words call n (TooLong w) is says =
    inl (subst (λ (o : Option ℕ). FirstRefused files.before.holds words o (TooLong w)) (sym is) says)
sources_input files words call n (BadToken w line col) is says =
    inl (subst (λ (o : Option ℕ). FirstRefused files.before.holds words o (BadToken w line col)) (sym is) says)
sources_input files words call n (BadSyntax w line col) is says =
    inl (subst (λ (o : Option ℕ). FirstRefused files.before.holds words o (BadSyntax w line col)) (sym is) says)
sources_input files words call n NoMemory is says = tt
sources_input files words call n s is says = absurd says

-- and so it is for what their trees are refused for
pub form_input : (files : FilesCall) (words : Words) (call : Call) (n : ℕ) (trees : List Tree) (s : Status) →
    source_count call ≡ Some n → AreRead files.before.holds words n trees → FormSays trees s →
    InputSays files words call s
form_input files words call n trees (BadProgram w rule line col) is read says =
    inl (subst (λ (o : Option ℕ). FirstRefused files.before.holds words o (BadProgram w rule line col)) (sym is)
    (record { trees = trees; read = read; fault = says }))
form_input files words call n trees (BadForm w) is read says =
    inl (subst (λ (o : Option ℕ). FirstRefused files.before.holds words o (BadForm w)) (sym is)
    (says.0, record { trees = trees; read = read; obey = says.1; other = says.2 }))
form_input files words call n trees NoMemory is read says = tt
form_input files words call n trees s is read says = absurd says

-- ---- the file of a bundle

-- the first file is refused, of a call that names a bundle
bundle_input : (holds : Option Held) (words : Words) (call : Call) (s : Status) → source_count call ≡ None →
    BundleRefused holds words s → IsRefused holds words call s
bundle_input holds words call s is says =
    inl (subst (λ (o : Option ℕ). FirstRefused holds words o s) (sym is) says)

-- a lawful bundle that is not plain
pub no_plain_bundle : (holds : Option Held) (words : Words) (call : Call) (bytes : List ℕ) (bundle : Bundle) →
    source_count call ≡ None → IsRead holds (word_at words 1) BUNDLE_BYTES bytes → IsSpellable bundle →
    bytes ≡ bundle_bytes bundle → ¬ IsPlainBundle bundle → IsRefused holds words call (BadForm 1)
no_plain_bundle holds words call bytes bundle is read spellable spelled other =
    bundle_input holds words call (BadForm 1) is (
      refl,
      record {
        bytes = bytes;
        read = read;
        holds_of = (
          record { bundle = bundle; spellable = spellable; spelled = spelled },
          λ plain gives. other (subst IsPlainBundle
              (one_spelling plain bundle (plain_spellable plain gives.plain) spellable (sym gives.spelled ∙ spelled))
              gives.plain),
        );
      },
    )

-- ---- what loads leave

-- a load that failed after loads
pub failed_earlier : (a b c : FilesTold) (words : Words) (w : ℕ) → OnlyLoads (record { before = a; after = b }) →
    IsFailedLoad (record { before = b; after = c }) words w → IsFailedLoad (record { before = a; after = c }) words w
failed_earlier a b c words w loads failed = record {
  rose = omega (arith, loads.later, failed.rose);
  named = named_earlier a.failed_loads b.failed_loads c.failed_loads (word_at words w) loads.loads failed.named;
}

-- what a call of inputs says after loads it says from before them
pub says_earlier : (a b c : FilesTold) (words : Words) (call : Call) (s : Status) →
    OnlyLoads (record { before = a; after = b }) →
    InputSays (record { before = b; after = c }) words call s →
    InputSays (record { before = a; after = c }) words call s
says_earlier a b c words call (LoadFailed w) loads says = (
  subst (λ (h : Option Held). IsAsked h words call w) loads.held says.0,
  failed_earlier a b c words w loads says.1,
)
says_earlier a b c words call (TooLong w) loads says =
    subst (λ (h : Option Held). IsRefused h words call (TooLong w)) loads.held says
says_earlier a b c words call (BadToken w line col) loads says =
    subst (λ (h : Option Held). IsRefused h words call (BadToken w line col)) loads.held says
says_earlier a b c words call (BadSyntax w line col) loads says =
    subst (λ (h : Option Held). IsRefused h words call (BadSyntax w line col)) loads.held says
says_earlier a b c words call (BadProgram w rule line col) loads says =
    subst (λ (h : Option Held). IsRefused h words call (BadProgram w rule line col)) loads.held says
says_earlier a b c words call (BadScenario rule line) loads says =
    subst (λ (h : Option Held). IsRefused h words call (BadScenario rule line)) loads.held says
says_earlier a b c words call (BadBundle rule at) loads says =
    subst (λ (h : Option Held). IsRefused h words call (BadBundle rule at)) loads.held says
says_earlier a b c words call (BadForm w) loads says =
    subst (λ (h : Option Held). IsRefused h words call (BadForm w)) loads.held says
says_earlier a b c words call NoMemory loads says = tt
says_earlier a b c words call s loads says = absurd says

-- a bundle that was read before loads is still there after them
pub bundle_still : (a b : FilesTold) (words : Words) (call : Call) (bundle : Bundle) →
    OnlyLoads (record { before = a; after = b }) →
    HasBundle a.holds words call bundle → HasBundle b.holds words call bundle
bundle_still a b words call bundle loads has =
    subst (λ (h : Option Held). HasBundle h words call bundle) (sym loads.held) has

-- a scenario that was read after loads was there before them
pub scenario_since : (a b : FilesTold) (words : Words) (names : Names) (w : ℕ) (s : Scenario) →
    OnlyLoads (record { before = a; after = b }) →
    HasScenario b.holds words names w s → HasScenario a.holds words names w s
scenario_since a b words names w s loads has = subst (λ (h : Option Held). HasScenario h words names w s) loads.held has

-- ---- what a refused input is not

-- a refused input is not Ok
pub input_not_ok : (files : FilesCall) (words : Words) (call : Call) (s : Status) → InputSays files words call s →
    s ≢ Ok
input_not_ok files words call s says = λ e. subst (λ (t : Status). InputSays files words call t) e says

-- nor a failed save
pub input_no_save : (files : FilesCall) (words : Words) (call : Call) (s : Status) → InputSays files words call s →
    (w : ℕ) → s ≢ SaveFailed w
input_no_save files words call s says = λ w e. subst (λ (t : Status). InputSays files words call t) e says
