use Rattle.tdl_io.proofs.Calls.{others_stay, other_kinds_stay, own_rose}
use Rattle.tdl_io.proofs.mem_files.add_call.Goals as goal

pub returns-clause-others : goal.returns-clause-others
returns-clause-others c other differ =
    others_stay _ _ _ c.in_ok-push.ensures.items c.args.kind _ other c.in_ok-from_str.ensures differ

pub returns-clause-named_cause : goal.returns-clause-named_cause
returns-clause-named_cause c = own_rose _ _ _ c.in_ok-push.ensures.items _ c.in_ok-from_str.ensures

pub returns-clause-other_kinds : goal.returns-clause-other_kinds
returns-clause-other_kinds c other differ each = other_kinds_stay _ _ _ c.in_ok-push.ensures.items other each differ
