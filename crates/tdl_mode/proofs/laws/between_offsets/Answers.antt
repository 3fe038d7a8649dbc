use Rattle.tdl_mode.proofs.Resting.{alone_idle, not_ended, not_updated}
use Rattle.tdl_mode.proofs.laws.between_offsets.Goals as goal

pub returns-clause-stays : goal.returns-clause-stays
returns-clause-stays c k x sensed seen m n = alone_idle x n.offset n.mode m n.now n.at n.none k sensed seen

pub returns-clause-no_end : goal.returns-clause-no_end
returns-clause-no_end c x m u n = not_ended x n.offset n.mode m n.now n.at n.none u

pub returns-clause-no_update : goal.returns-clause-no_update
returns-clause-no_update c x a m look n = not_updated x n.offset n.mode m n.now n.at n.none look a
