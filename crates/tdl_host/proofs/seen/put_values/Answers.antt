use Rattle.std.proofs.Common.{subst, sym}
use Rattle.std.proofs.lemmas.List.Elements.{All-get_or}
use Rattle.tdl_host.specs.CheckedCodes.{IsCheckedCode}
use Rattle.tdl_host.proofs.seen.put_values.Goals as goal

pub value-requires : goal.value-requires
value-requires c =
    subst IsCheckedCode (sym c.index-codes-i.is)
    (All-get_or IsCheckedCode c.args.codes.now c.loop-i.i c.index-codes-i.result c.loop-i-test.true c.requires.codes)
