use Rattle.std.proofs.Common.{pos}
use Rattle.tdl_meaning.proofs.BusLaw as law
use Rattle.tdl_meaning.proofs.laws.bus.Goals as goal

pub returns : goal.returns
returns c = record {
  arrives = λ given losses x logic s stands lose. law.arrives given losses x logic s stands lose (λ kk n. pos 0);
  takes = λ given losses x logic s stands. law.takes given losses x logic s stands (λ kk n. pos 0) (λ kk key. pos 0);
  turned = λ given losses x logic s stands lose sensed seen. law.turned given losses x logic s stands sensed seen lose;
  sends = law.sent;
}
