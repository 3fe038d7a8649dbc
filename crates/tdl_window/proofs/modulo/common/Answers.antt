use Rattle.tdl_window.proofs.Commons.{gcd_is}
use Rattle.tdl_window.proofs.modulo.common.Goals as goal

pub returns : goal.returns
returns c = gcd_is c.args.a c.args.b c.gcd.result c.gcd.ensures
