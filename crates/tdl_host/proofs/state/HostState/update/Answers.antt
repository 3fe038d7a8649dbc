use Rattle.std.proofs.Common.{◌≡◌, ◌≤◌, ℤ, List, rules, arith, length, ap, sym, set, to_z, of_z, w64, FitsSigned}
use Rattle.std.proofs.lemmas.Int.{to_z-of_z}
use Rattle.tdl_base.specs.Lists.{changed_at}
use Rattle.tdl_verify.specs.States.{HostNow}
use Rattle.tdl_host.specs.Hosts.{HostedNow}
use Rattle.tdl_host.proofs.ListSteps.{changed_at-put, changed_at-past}
use Rattle.tdl_host.proofs.StateLemmas.{changed-now}
use Rattle.tdl_host.proofs.state.HostState.update.Goals as goal

pub returns-then-place-len-clause-now : goal.returns-then-place-len-clause-now
returns-then-place-len-clause-now c =
    let fits : FitsSigned w64 c.args.value = search rules in
    let value : to_z w64 (of_z w64 c.args.value) ≡ c.args.value = to_z-of_z w64 c.args.value fits in
    let put : c.from-place.result ≡ c.args.actuator = c.from-place.ensures in
    rw (put, value)
    (changed-now _ _ c.self.view_is (λ (s : HostNow) (vs : List ℤ). record s { actuators = vs })
    (set c.self.inside.actuators.items c.args.actuator c.args.value)
    (λ (z : HostedNow). changed_at c.args.actuator (λ _. c.args.value) z.now.actuators)
    (sym (changed_at-put c.args.actuator c.args.value c.self.inside.actuators.items)))

pub returns-else-place-len-clause-now : goal.returns-else-place-len-clause-now
returns-else-place-len-clause-now c =
    let past : length c.self.inside.actuators.items ≤ c.args.actuator = omega arith in
    let same : changed_at c.args.actuator (λ _. c.args.value) c.args.self.now.now.actuators
    ≡ c.args.self.now.now.actuators =
    changed_at-past c.args.actuator (λ _. c.args.value) c.args.self.now.now.actuators
    (let e : length c.self.inside.actuators.items ≡ length c.args.self.now.now.actuators =
    ap (λ (z : HostedNow). length z.now.actuators) c.self.view_is in omega arith) in
    ap (λ (vs : List ℤ). record c.args.self.now.now { actuators = vs }) (sym same)
