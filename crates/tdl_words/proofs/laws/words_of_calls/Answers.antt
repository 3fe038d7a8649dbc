use Rattle.tdl_words.proofs.TakenWords.{compile, run, run_scenario_first, exec, too_many}
use Rattle.tdl_words.proofs.laws.words_of_calls.Goals as goal

pub returns : goal.returns
returns c = record {
  compile = compile;
  run = run;
  run_scenario_first = run_scenario_first;
  exec = exec;
  too_many = too_many;
}
