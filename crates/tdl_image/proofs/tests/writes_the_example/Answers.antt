use Rattle.std.proofs.Common.{sym, subst}
use Rattle.tdl_image.specs.Spellable.{IsSpellable}
use Rattle.tdl_image.proofs.Examples.{counting_spellable}
use Rattle.tdl_image.proofs.tests.writes_the_example.Goals as goal

pub write_bundle-requires : goal.write_bundle-requires
write_bundle-requires g c = subst IsSpellable (sym c.in_ok-bundle.ensures) counting_spellable
