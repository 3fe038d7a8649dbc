use Rattle.std.proofs.Common.{ap, ◌∙◌}
use Rattle.tdl_words.specs.Words.{command_of}
use Rattle.tdl_words.proofs.Reading.{call_of-named, call_of-unnamed}
use Rattle.tdl_words.proofs.words.read_call.Goals as goal

pub returns-in-Some : goal.returns-in-Some
returns-in-Some c =
    c.call_by.ensures
    ∙ call_of-named c.args.words.now c.first-item.result c.in-Some.command c.in-len1-up.len_at_least c.first-item.is
    (c.in-Some.ensures ∙ ap command_of c.as_str.ensures.value)

pub returns-in-None : goal.returns-in-None
returns-in-None c =
    call_of-unnamed c.args.words.now c.first-item.result c.in-len1-up.len_at_least c.first-item.is
    (c.in-None.ensures ∙ ap command_of c.as_str.ensures.value)
