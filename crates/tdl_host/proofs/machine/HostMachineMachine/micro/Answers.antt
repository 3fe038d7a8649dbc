use Rattle.std.proofs.Common.{◌*◌, ◌^◌, suc, subst, sym}
use Rattle.std.proofs.lemmas.Result.{on_ok_weaker}
use Rattle.tdl_host.specs.Hosts.{HasReleased, HostView}
use Rattle.tdl_host.proofs.machine.HostMachineMachine.micro.Goals as goal

pub returns-clause-later : goal.returns-clause-later
returns-clause-later c =
    on_ok_weaker c.run_micro.result
    (λ f. f (suc c.args.at * 2 ^ 32)
    (subst (λ (m : HostView). HasReleased (suc c.args.at * 2 ^ 32) m.now) (sym c.self.view_is) c.requires.ready))
    c.run_micro.ensures.released
