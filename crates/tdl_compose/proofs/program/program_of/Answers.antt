-- One module more, and all.
use Rattle.std.proofs.Common.{List, [], ◌∷◌, ◌++◌, map, ap, ◌∙◌, arith}
use Rattle.std.specs.Prelude.{slice_get}
use Rattle.tdl_mode.specs.declared.program.Module.{Module}
use Rattle.tdl_tree.specs.declared.declarations.Tree.{Tree}
use Rattle.tdl_rules.specs.Faults.{faults}
use Rattle.tdl_rules.specs.Parts as parts
use Rattle.tdl_program.specs.Programs.{module_of}
use Rattle.tdl_slots.proofs.Listing.{item_at, made_more, one_all}
use Rattle.tdl_compose.proofs.ModuleList.{past_sources, past_modules}
use Rattle.tdl_compose.proofs.program.program_of.Goals as goal

pub of-requires : goal.of-requires
of-requires c = ap faults c.in_ok-numbers.ensures ∙ c.requires.kept

pub loop-file-preserved : goal.loop-file-preserved
loop-file-preserved c =
    let scopes = parts.modules c.args.sources.now in
    made_more module_of c.loop-file.modules c.push.new.self (map module_of scopes) scopes c.loop-file.file
    c.in-Some.home
    (item_at scopes c.loop-file.file c.in-Some.home
    (c.in-Some.ensures ∙ ap (λ (s : List Tree). slice_get (parts.modules s) c.loop-file.file) c.in_ok-numbers.ensures))
    (c.in_ok-push.ensures.ok ∙ ap (λ (m : Module). c.loop-file.modules ++ m ∷ []) c.in_ok-module_of.ensures)
    c.loop-file.invariant

pub returns : goal.returns
returns c =
    let scopes = parts.modules c.args.sources.now in
    ap (λ (ms : List Module). record { modules = ms })
    (one_all module_of c.loop-file.modules (map module_of scopes) scopes c.loop-file.file
    (past_sources c.args.sources.now c.loop-file.file (omega (arith, c.len-file-end.ensures, c.loop-file-test.false)))
    c.loop-file.invariant)

pub returns-in_default : goal.returns-in_default
returns-in_default c =
    let scopes = parts.modules c.args.sources.now in
    ap (λ (ms : List Module). record { modules = ms })
    (one_all module_of c.loop-file.modules (map module_of scopes) scopes c.loop-file.file
    (past_modules c.args.sources.now c.in_ok-numbers.numbers c.loop-file.file c.in_ok-numbers.ensures
    c.in_default.ensures)
    c.loop-file.invariant)
