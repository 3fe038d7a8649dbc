use Rattle.tdl_mode.proofs.Seeing.{alone_same}
use Rattle.tdl_mode.proofs.laws.only_what_is_read.Goals as goal

pub returns : goal.returns
returns c = record {
  same = λ program k x m sensed seen seen' state well definition agree.
      alone_same program k m well x sensed seen seen' state definition agree;
}
