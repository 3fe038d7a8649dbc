use Rattle.std.proofs.Common.{◌≡◌, ◌++◌, ℕ, List, [], length, map, false, ap, subst, arith}
use Rattle.std.proofs.lemmas.List.{length-append, length-map}
use Rattle.tdl_base.specs.declared.kinds.Kind.{Kind}
use Rattle.tdl_stack.specs.Lawful.{IsLawful}
use Rattle.tdl_image.specs.declared.bundle.Initial.{Initial}
use Rattle.tdl_host.proofs.samples.table.Goals as goal

-- one input, one output and one local are three cells
three-cells : (ins locals : List Kind) (outs : List Initial) → length ins ≡ 1 → length outs ≡ 1 → length locals ≡ 1 →
    3 ≡ length (ins ++ map (λ (o : Initial). o.kind) outs ++ locals)
three-cells ins locals outs a b c =
    let ports : length (map (λ (o : Initial). o.kind) outs) ≡ length outs = length-map outs (λ (o : Initial). o.kind) in
    let front = length-append ins (map (λ (o : Initial). o.kind) outs) in
    let whole = length-append (ins ++ map (λ (o : Initial). o.kind) outs) locals in
    omega (arith, a, b, c, ports, front, whole)

pub returns-clause-checked : goal.returns-clause-checked
returns-clause-checked c =
    let one : length c.in_ok-only.field-0 ≡ 1 = ap (λ (ks : List Kind). length ks) c.in_ok-only.ensures in
    let last : length c.in_ok-only-2.field-0 ≡ 1 = ap (λ (ks : List Kind). length ks) c.in_ok-only-2.ensures in
    record {
      body = subst
          (λ (n : ℕ). IsLawful c.in_ok-code.field-0.instrs
          (record { cells = n; sensors = 0; keys = []; expression = false }))
          (three-cells c.in_ok-only.field-0 c.in_ok-only-2.field-0 c.in_ok-port.field-0 one c.in_ok-port.ensures last)
          c.in_ok-code.ensures;
      takes_time = omega arith;
    }
