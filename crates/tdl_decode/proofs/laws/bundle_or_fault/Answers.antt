use Rattle.tdl_image.proofs.OneSpelling.{one_spelling}
use Rattle.tdl_decode.proofs.BundleExact.{bytes_from, bundle_or_fault, never_both, only_fault}
use Rattle.tdl_decode.proofs.laws.bundle_or_fault.Goals as goal

pub returns-clause-either : goal.returns-clause-either
returns-clause-either c = λ bytes small. bundle_or_fault bytes (bytes_from bytes small)

pub returns-clause-never_both : goal.returns-clause-never_both
returns-clause-never_both c = λ bytes small. never_both bytes (bytes_from bytes small)

pub returns-clause-one_bundle : goal.returns-clause-one_bundle
returns-clause-one_bundle c = one_spelling

pub returns-clause-one_fault : goal.returns-clause-one_fault
returns-clause-one_fault c = λ bytes small. only_fault bytes (bytes_from bytes small)
