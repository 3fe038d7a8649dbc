use Rattle.tdl_verify.proofs.Leads.{leads_on}
use Rattle.tdl_verify.proofs.laws.adding.Goals as goal

pub returns : goal.returns
returns c x node n m sensed times start middle end first second third rows more =
    leads_on x node sensed times n m start first middle second end third rows more
