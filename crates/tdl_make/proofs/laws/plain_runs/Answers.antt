use Rattle.tdl_make.proofs.PlainText.{plain_alive, plain_text}
use Rattle.tdl_make.proofs.laws.plain_runs.Goals as goal

pub returns : goal.returns
returns c = record {
  alive = plain_alive;
  printed = plain_text;
}
