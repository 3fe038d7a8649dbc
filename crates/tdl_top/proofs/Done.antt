-- What a call that goes well has done, in the words of programs.
use Rattle.std.proofs.Common.{◌≡◌, ℕ, List, [], subst, sym, ap, refl, ◌∙◌, Some}
use Rattle.tdl_mode.specs.declared.program.Program.{Program}
use Rattle.tdl_deploy.specs.Named.{names_of}
use Rattle.tdl_deploy.specs.Texts.{logical_text}
use Rattle.tdl_tree.specs.declared.declarations.Tree.{Tree}
use Rattle.tdl_plain.specs.declared.form.Form.{Form}
use Rattle.tdl_plain.specs.PlainSource.{IsPlainForm}
use Rattle.tdl_plain.specs.PlainProgram.{program_of}
use Rattle.tdl_trace.specs.declared.names.Names.{Names}
use Rattle.tdl_image.specs.declared.bundle.Bundle.{Bundle}
use Rattle.tdl_scen.specs.declared.entries.Scenario.{Scenario}
use Rattle.tdl_scen.specs.Scenario.{course_of}
use Rattle.tdl_verify.specs.Texts.{bundle_names, bundle_run, bundle_text}
use Rattle.tdl_verify.specs.Runs.{IsAlive}
use Rattle.tdl_gen.specs.Realises.{Realises}
use Rattle.tdl_make.specs.PlainBundle.{plain_bundle, IsPlainBundle}
use Rattle.tdl_make.proofs.PlainText.{plain_alive, plain_names, plain_text}
use Rattle.tdl_scenario.specs.LawfulScenario.{IsLawful}
use Rattle.tdl_scenario.proofs.Lawful as scenarios
use Rattle.tdl_make.proofs.PlainRealises.{made, realises}
use Rattle.tdl_words.specs.declared.words.Call.TheVariants.{Compile, Run, Exec}
use Rattle.tdl_words.specs.Words.{Words}
use Rattle.tdl_report.specs.Calls.{FilesCall, SinkCall, IsSilent, IsUnchanged}
use Rattle.tdl_top.specs.Taken.{placement_of, schedule_of, bundle_for, SayBundle}
use Rattle.tdl_top.specs.Inputs.{HaveBundle, IsScenarioOf}
use Rattle.tdl_top.specs.Answers.{IsDone, Leaves}
use Rattle.tdl_top.specs.Headline.{SavesProgram, Compiles, Runs, Executes}
use Rattle.tdl_top.proofs.InputsSay.{runnable}

-- a scenario of names is lawful for them
pub lawful_for : (names : Names) (bytes : List ℕ) (s : Scenario) → IsScenarioOf names bytes s → IsLawful names s
lawful_for names bytes s says =
    subst (IsLawful names) (sym says.said) (scenarios.lawful names [] bytes says.lawful)

-- ---- the bundle of sources

module _ (bundle : Bundle) (trees : List Tree) (say : SayBundle trees bundle) where
  abbrev form : Form
  form = say.say.says.form

  abbrev lawful : IsPlainForm form
  lawful = say.say.says.plain.lawful

  -- it is the plain bundle
  is_plain : bundle ≡ plain_bundle form
  is_plain = say.made ∙ ap bundle_for say.say.says.is ∙ made form (runnable form lawful)

  -- it realises the program
  bundle_realises : Realises bundle say.program (placement_of say.program)
      (schedule_of say.program (placement_of say.program))
  bundle_realises =
      subst (λ (p : Program). Realises bundle p (placement_of p) (schedule_of p (placement_of p))) (sym say.say.says.is)
      (subst (λ (b : Bundle). Realises b (program_of form) (placement_of (program_of form))
      (schedule_of (program_of form) (placement_of (program_of form)))) (sym is_plain)
      (realises form (runnable form lawful)))

  -- its names are those of the program
  names_are : bundle_names bundle ≡ names_of say.program (placement_of say.program)
  names_are = ap bundle_names is_plain ∙ sym (ap (λ (p : Program). names_of p (placement_of p)) say.say.says.is)

  -- the text of its run is that of the program's logical rows
  text_is : (s : Scenario) → IsLawful (bundle_names bundle) s →
      bundle_text bundle s ≡ logical_text say.program (placement_of say.program) (course_of s.senses) s.horizon.0
  text_is s fits =
      let own : IsLawful (plain_names form) s =
      subst (λ (b : Bundle). IsLawful (bundle_names b) s) is_plain fits in
      ap (λ (b : Bundle). bundle_text b s) is_plain ∙ plain_text form (runnable form lawful) s own.times
      ∙ sym (ap (λ (p : Program). logical_text p (placement_of p) (course_of s.senses) s.horizon.0) say.say.says.is)

-- ---- the calls

-- what was saved is the bundle of the program
saves_program : (files : FilesCall) (words : Words) (n w : ℕ) (bundle : Bundle) →
    (have : HaveBundle files.before.holds words n bundle) → Leaves files words bundle (Some w) →
    SavesProgram files words n w have.say.program (placement_of have.say.program)
    (schedule_of have.say.program (placement_of have.say.program)) bundle
saves_program files words n w bundle have leaves = record {
  takes = record {
    sources = record { trees = have.trees; read = have.read; say = have.say.say };
    placed = refl;
    scheduled = refl;
  };
  realises = bundle_realises bundle have.trees have.say;
  saved = leaves.0;
  others = leaves.1;
}

pub compiles : (files : FilesCall) (words : Words) (out : SinkCall) (n w : ℕ) → IsDone files words (Compile n w) out →
    Compiles files words n w × IsSilent out
compiles files words out n w done = (
  record {
    program = done.has.say.program;
    placement = placement_of done.has.say.program;
    schedule = schedule_of done.has.say.program (placement_of done.has.say.program);
    bundle = done.bundle;
    saves = saves_program files words n w done.bundle done.has done.leaves;
  },
  done.prints,
)

pub runs : (files : FilesCall) (words : Words) (out : SinkCall) (n w v : ℕ) → IsDone files words (Run n w v) out →
    Runs files words out n w v
runs files words out n w v done = record {
  program = done.has.say.program;
  placement = placement_of done.has.say.program;
  schedule = schedule_of done.has.say.program (placement_of done.has.say.program);
  bundle = done.bundle;
  scenario = done.prints.scenario;
  saves = saves_program files words n w done.bundle done.has done.leaves;
  read = record {
    bytes = done.prints.read.bytes;
    read = done.prints.read.read;
    says = subst (λ (names : Names). IsScenarioOf names done.prints.read.bytes done.prints.scenario)
        (names_are done.bundle done.has.trees done.has.say) done.prints.read.says;
  };
  printed = done.prints.printed;
  logical = text_is done.bundle done.has.trees done.has.say done.prints.scenario
      (lawful_for (bundle_names done.bundle) done.prints.read.bytes done.prints.scenario done.prints.read.says);
}

-- the run of a plain bundle has no trap
pub bundle_alive : (b : Bundle) (s : Scenario) → IsPlainBundle b → IsLawful (bundle_names b) s →
    IsAlive (bundle_run b s).now
bundle_alive b s plain fits =
    let own : IsLawful (plain_names plain.form) s =
    subst (λ (c : Bundle). IsLawful (bundle_names c) s) plain.is fits in
    subst (λ (c : Bundle). IsAlive (bundle_run c s).now) (sym plain.is)
    (plain_alive plain.form (runnable plain.form plain.lawful) s own.times)

pub executes : (files : FilesCall) (words : Words) (out : SinkCall) (v : ℕ) → IsDone files words (Exec v) out →
    Executes files words out v × IsUnchanged files
executes files words out v done = (
  record {
    bundle = done.bundle;
    scenario = done.prints.scenario;
    bundle_read = done.has;
    read = done.prints.read;
    alive = bundle_alive done.bundle done.prints.scenario done.has.spelling.plain
        (lawful_for (bundle_names done.bundle) done.prints.read.bytes done.prints.scenario done.prints.read.says);
    printed = done.prints.printed;
  },
  done.leaves,
)
