use Rattle.std.proofs.Common.{refl, ap, sym, ◌∙◌, Some}
use Rattle.std.proofs.lemmas.Result.{IfErr-weaker}
use Rattle.tdl_words.specs.declared.words.Call.TheVariants.{Compile, Run}
use Rattle.tdl_words.specs.Words.{texts, call_in}
use Rattle.tdl_words.proofs.FewSources.{few_sources}
use Rattle.tdl_report.specs.Calls.{files_call, sink_call}
use Rattle.tdl_top.proofs.Reported.{says_called}
use Rattle.tdl_top.proofs.top.perform.Goals as goal

pub compile_sources-requires : goal.compile_sources-requires
compile_sources-requires g c =
    few_sources (texts c.args.words.now) (Compile c.in-Some-Compile.sources c.in-Some-Compile.place)
    c.in-Some-Compile.sources (sym (ap Some (sym c.in-Some-Compile.field-0-is) ∙ c.in-Some-Compile.ensures)) refl

pub run_sources-requires : goal.run_sources-requires
run_sources-requires g c =
    few_sources (texts c.args.words.now)
    (Run c.in-Some-Run.sources c.in-Some-Run.place c.in-Some-Run.scenario) c.in-Some-Run.sources
    (sym (ap Some (sym c.in-Some-Run.field-0-is) ∙ c.in-Some-Run.ensures)) refl

pub returns-in-Some-Run-clause-refused : goal.returns-in-Some-Run-clause-refused
returns-in-Some-Run-clause-refused g c =
    IfErr-weaker c.run_sources.result _ _ (λ status says.
    says_called
    (files_call g.F.Files.told c.args.files.now c.run_sources.new.files)
    (texts c.args.words.now)
    (sink_call g.O.Sink.told c.args.out.now c.run_sources.new.out)
    (call_in (texts c.args.words.now))
    (Run c.in-Some-Run.sources c.in-Some-Run.place c.in-Some-Run.scenario) status
    (ap Some (sym c.in-Some-Run.field-0-is) ∙ c.in-Some-Run.ensures) says)
    c.run_sources.ensures.refused

pub returns-in-Some-Compile-clause-refused : goal.returns-in-Some-Compile-clause-refused
returns-in-Some-Compile-clause-refused g c =
    IfErr-weaker c.compile_sources.result _ _ (λ status says.
    says_called
    (files_call g.F.Files.told c.args.files.now c.compile_sources.new.files)
    (texts c.args.words.now)
    (sink_call g.O.Sink.told c.args.out.now c.args.out.now)
    (call_in (texts c.args.words.now)) (Compile c.in-Some-Compile.sources c.in-Some-Compile.place) status
    (ap Some (sym c.in-Some-Compile.field-0-is) ∙ c.in-Some-Compile.ensures) says)
    (c.compile_sources.ensures.refused
    (sink_call g.O.Sink.told c.args.out.now c.args.out.now) refl)
