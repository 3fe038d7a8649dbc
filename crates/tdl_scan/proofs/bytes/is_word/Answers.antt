use Rattle.std.proofs.Common.{sym, ◌∙◌}
use Rattle.tdl_scan.proofs.Values.{word_after}
use Rattle.tdl_scan.proofs.bytes.is_word.Goals as goal

pub returns-then-is_letter : goal.returns-then-is_letter
returns-then-is_letter c =
    c.are_name_bytes.ensures ∙ word_after c.args.text.now (sym c.is_letter.ensures ∙ c.if-is_letter.true)
