use Rattle.std.proofs.Common.{ap, inl, arith, Ok}
use Rattle.tdl_decode.proofs.BundleExact.{ok_spelled, ok_only, ok_whole, bad_only, bad_within, read-fault, broken_at, one_answer}
use Rattle.tdl_decode.proofs.bundles.read_bundle.Goals as goal

pub overflow_sub-result : goal.overflow_sub-result
overflow_sub-result c =
    bad_within c.args.bytes.now (λ k. omega (arith, c.type_inv.bytes k)) c.in-Err-Broken.rule c.in-Err-Broken.left
    (broken_at c.args.bytes.now c.in-Err-Broken.field-0 c.in-Err-Broken.rule c.in-Err-Broken.left
    c.in-Err-Broken.field-0-is c.in-Err-Broken.ensures)

pub returns-in-Ok-clause-spellable : goal.returns-in-Ok-clause-spellable
returns-in-Ok-clause-spellable c =
    (ok_spelled c.args.bytes.now (λ k. omega (arith, c.type_inv.bytes k)) c.in-Ok.bundle c.in-Ok.ensures).0

pub returns-in-Ok-clause-spelled : goal.returns-in-Ok-clause-spelled
returns-in-Ok-clause-spelled c =
    (ok_spelled c.args.bytes.now (λ k. omega (arith, c.type_inv.bytes k)) c.in-Ok.bundle c.in-Ok.ensures).1

pub returns-in-Ok-clause-only : goal.returns-in-Ok-clause-only
returns-in-Ok-clause-only c =
    λ bundle p e. inl (ap Ok (ok_only c.args.bytes.now c.in-Ok.bundle bundle c.in-Ok.ensures p e))

pub returns-in-Ok-clause-fault_only : goal.returns-in-Ok-clause-fault_only
returns-in-Ok-clause-fault_only c =
    λ rule at fault.
    absurd (ok_whole c.args.bytes.now (λ k. omega (arith, c.type_inv.bytes k)) c.in-Ok.bundle c.in-Ok.ensures rule at fault)

pub returns-in-Err-Broken-clause-only : goal.returns-in-Err-Broken-clause-only
returns-in-Err-Broken-clause-only c =
    λ bundle p e.
    absurd (bad_only c.args.bytes.now c.in-Err-Broken.rule c.in-Err-Broken.left
    (broken_at c.args.bytes.now c.in-Err-Broken.field-0 c.in-Err-Broken.rule c.in-Err-Broken.left
    c.in-Err-Broken.field-0-is c.in-Err-Broken.ensures) bundle p e)

pub returns-in-Err-Broken-clause-fault : goal.returns-in-Err-Broken-clause-fault
returns-in-Err-Broken-clause-fault c =
    read-fault c.args.bytes.now (λ k. omega (arith, c.type_inv.bytes k)) c.in-Err-Broken.rule c.in-Err-Broken.left
    (broken_at c.args.bytes.now c.in-Err-Broken.field-0 c.in-Err-Broken.rule c.in-Err-Broken.left
    c.in-Err-Broken.field-0-is c.in-Err-Broken.ensures)

pub returns-in-Err-Broken-clause-fault_only : goal.returns-in-Err-Broken-clause-fault_only
returns-in-Err-Broken-clause-fault_only c =
    one_answer c.args.bytes.now (λ k. omega (arith, c.type_inv.bytes k)) c.in-Err-Broken.rule c.in-Err-Broken.left
    (broken_at c.args.bytes.now c.in-Err-Broken.field-0 c.in-Err-Broken.rule c.in-Err-Broken.left
    c.in-Err-Broken.field-0-is c.in-Err-Broken.ensures)
