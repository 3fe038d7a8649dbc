use Rattle.std.proofs.Common.{ℕ, ◌+◌, Err, rules, refl, ap₂, inl, arith}
use Rattle.tdl_scan.specs.declared.scanner.ScanError.TheVariants.{BadToken}
use Rattle.tdl_scan.proofs.Found.{scanned_step, scanned_within, scanned_whole, scanned_stuck, next_piece, one_list, never_both, one_place}
use Rattle.tdl_scan.proofs.scanner.scan.Goals as goal

pub returns-in_default-clause-only : goal.returns-in_default-clause-only
returns-in_default-clause-only c = λ tokens is.
    absurd (never_both c.args.source.now tokens c.loop-left.place.line c.loop-left.place.col is
    (scanned_stuck _ c.loop-left.place c.loop-left.from _ _ c.loop-left.left.now c.args.source.now c.loop-left.invariant
    (search rules) c.in_default.ensures refl))

pub returns-in_default-clause-fault_only : goal.returns-in_default-clause-fault_only
returns-in_default-clause-fault_only c = λ line col fault.
    let same = one_place c.args.source.now c.loop-left.place.line c.loop-left.place.col line col
    (scanned_stuck _ c.loop-left.place c.loop-left.from _ _ c.loop-left.left.now c.args.source.now c.loop-left.invariant
    (search rules) c.in_default.ensures refl) fault in
    inl (ap₂ (λ (l k : ℕ). Err (BadToken l k)) same.0 same.1)

pub after-place-requires-clause-col : goal.after-place-requires-clause-col
after-place-requires-clause-col c =
    let within = scanned_within _ c.loop-left.place c.loop-left.from c.loop-left.left.now c.args.source.now
    c.loop-left.invariant in
    omega (arith, within.bytes, within.cols, c.split_at.ensures.front_len, c.in-Some.ensures.0, c.requires)

pub loop-left-smaller : goal.loop-left-smaller
loop-left-smaller c =
    (next_piece c.in-Some.length c.split_at.result.0.now c.split_at.result.1.now c.loop-left.left.now c.in-Some.ensures
    c.split_at.ensures.front c.split_at.ensures.back).shorter

pub loop-left-preserved : goal.loop-left-preserved
loop-left-preserved c =
    let next = next_piece c.in-Some.length c.split_at.result.0.now c.split_at.result.1.now c.loop-left.left.now
    c.in-Some.ensures c.split_at.ensures.front c.split_at.ensures.back in
    scanned_step c.loop-left.tokens.items c.add_token.new.tokens.items c.loop-left.place c.after-place.result
    c.loop-left.from (c.loop-left.from + c.in-Some.length) c.split_at.result.0.now c.split_at.result.1.now
    c.loop-left.left.now c.args.source.now c.loop-left.invariant next.parts next.is c.in_ok-add_token.ensures.ok
    c.after-place.ensures (search rules)

pub returns-clause-only : goal.returns-clause-only
returns-clause-only c = λ tokens is.
    one_list c.args.source.now c.loop-left.tokens.items tokens
    (scanned_whole _ c.loop-left.place c.loop-left.from c.loop-left.left.now c.args.source.now c.loop-left.invariant
    (search rules)) is

pub returns-clause-fault_only : goal.returns-clause-fault_only
returns-clause-fault_only c = λ line col fault.
    absurd (never_both c.args.source.now c.loop-left.tokens.items line col
    (scanned_whole _ c.loop-left.place c.loop-left.from c.loop-left.left.now c.args.source.now c.loop-left.invariant
    (search rules)) fault)
