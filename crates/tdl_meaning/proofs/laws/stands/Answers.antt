use Rattle.tdl_meaning.proofs.InstantZero.{stands_along}
use Rattle.tdl_meaning.proofs.RunInState.{right_along}
use Rattle.tdl_meaning.proofs.Meaning.{rows_right}
use Rattle.tdl_meaning.proofs.laws.stands.Goals as goal

pub returns : goal.returns
returns c = record {
  whatever_is_lost = stands_along;
  in_state = right_along;
  shows = λ given run losses safe b tables counts. rows_right given b tables counts run losses safe;
}
