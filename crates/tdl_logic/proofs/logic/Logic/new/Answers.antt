use Rattle.std.proofs.Common.{rules, ◌≡◌, ◌≤◌, List, None, length, map, subst, ap, ap₂, sym, ◌∙◌, arith}
use Rattle.std.specs.List.{All}
use Rattle.std.proofs.lemmas.List.{length-map}
use Rattle.tdl_base.specs.declared.limits.TheConstants.{SOURCES}
use Rattle.tdl_mode.specs.declared.program.Module.{Module}
use Rattle.tdl_mode.specs.Instants.{begun_task}
use Rattle.tdl_logic.specs.Releases.{definitions_of}
use Rattle.tdl_logic.specs.Rooms.{HasInputsOf}
use Rattle.tdl_logic.specs.Wholes.{all_standing, entered_now}
use Rattle.tdl_logic.proofs.Readying.{entered-all, begun-definitions}
use Rattle.tdl_logic.proofs.logic.Logic.new.Goals as goal

pub invariant_of-result : goal.invariant_of-result
invariant_of-result c =
    let ms : List Module = c.args.program.now.modules in
    let em : c.as_slice-modules.result.now ≡ c.args.program.now.modules = c.as_slice-modules.ensures in
    let nows : c.in_ok-nows.nows.items ≡ map entered_now ms =
    c.in_ok-nows.ensures ∙ ap (λ (x : List Module). map entered_now x) em in
    let tasks : c.in_ok-tasks.tasks.items ≡ map (λ m. map begun_task m.tasks) ms =
    c.in_ok-tasks.ensures ∙ ap (λ (x : List Module). map (λ m. map begun_task m.tasks) x) em in
    let count : length c.in_ok-numbers.numbers.items ≡ c.most_inputs.result = search rules in
    let few : length ms ≤ SOURCES = c.requires.few in
    record {
      well = c.requires.well;
      whole = record {
        cycles = ap length nows ∙ length-map ms entered_now;
        tasks = ap length tasks ∙ length-map ms (λ m. map begun_task m.tasks);
        few = omega (arith, few);
      };
      own = ap definitions_of tasks ∙ begun-definitions ms;
      room = subst (λ n. All (HasInputsOf n) ms) (sym count)
          (subst (λ (x : List Module). All (HasInputsOf c.most_inputs.result) x) em c.most_inputs.ensures);
      first = λ _. ap₂ (all_standing ms) nows tasks ∙ entered-all ms;
    }

pub returns : goal.returns
returns c =
    let ms : List Module = c.args.program.now.modules in
    let em : c.as_slice-modules.result.now ≡ c.args.program.now.modules = c.as_slice-modules.ensures in
    let nows : c.in_ok-nows.nows.items ≡ map entered_now ms =
    c.in_ok-nows.ensures ∙ ap (λ (x : List Module). map entered_now x) em in
    let tasks : c.in_ok-tasks.tasks.items ≡ map (λ m. map begun_task m.tasks) ms =
    c.in_ok-tasks.ensures ∙ ap (λ (x : List Module). map (λ m. map begun_task m.tasks) x) em in
    ap (λ s. record {
      program = c.args.program.now;
      placement = c.args.placement.now;
      reached = None;
      state = s;
    }) (ap₂ (all_standing ms) nows tasks ∙ entered-all ms)
