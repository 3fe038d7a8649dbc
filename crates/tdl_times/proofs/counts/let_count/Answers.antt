-- The logical execution times are counted.
use Rattle.std.proofs.Common.{◌≡◌, ℕ, ◌+◌, min, true, sym, ap, ◌∙◌}
use Rattle.tdl_base.specs.declared.limits.TheConstants.{OCCURRENCES}
use Rattle.tdl_rules.specs.Times as times
use Rattle.tdl_times.proofs.Counting.{let_count-none}
use Rattle.tdl_times.proofs.counts.let_count.Goals as goal

pub returns-then-len-eq0 : goal.returns-then-len-eq0
returns-then-len-eq0 c =
    let here : times.occurs (times.time_us c.args.period.now) c.args.act.now ≡ true =
    sym c.occurs.ensures ∙ c.if-not-occurs.false in
    c.capped.ensures ∙ ap (λ (n : ℕ). min n (OCCURRENCES + 1))
    (sym (let_count-none (times.time_us c.args.period.now) c.args.act.now here (sym c.len.ensures ∙ c.if-len-eq0.true)))
