use Rattle.std.proofs.Common.{◌∙◌, List, ap, sym}
use Rattle.std.proofs.lemmas.List.{take_rest}
use Rattle.std.specs.Prelude.{String}
use Rattle.std.specs.declared.alloc.Global.{Global}
use Rattle.tdl_words.specs.Words.{texts, takes}
use Rattle.tdl_words.proofs.Reading.{follows-counted, follows-uncounted}
use Rattle.tdl_words.proofs.words.follows.Goals as goal

pub returns-then-not-is_count : goal.returns-then-not-is_count
returns-then-not-is_count c =
    follows-uncounted c.args.rule c.args.words.now c.files_in-files.result c.files_in-files.ensures.exact
    (sym c.is_count.ensures ∙ c.if-not-is_count.true)

pub returns : goal.returns
returns c =
    c.takes.ensures
    ∙ ap (λ (ws : List (String Global)). takes c.args.rule (texts ws))
    (take_rest c.args.words.now c.files_in-files.result)
    ∙ follows-counted c.args.rule c.args.words.now c.files_in-files.result c.files_in-files.ensures.exact
    (sym c.is_count.ensures ∙ c.if-not-is_count.false)
