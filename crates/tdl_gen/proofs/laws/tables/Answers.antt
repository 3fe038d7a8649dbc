use Rattle.tdl_gen.proofs.TablePlaces.{call_found, driver_found, guard_found}
use Rattle.tdl_gen.proofs.ReleasePlaces.{release_found}
use Rattle.tdl_gen.proofs.laws.tables.Goals as goal

pub returns-clause-calls : goal.returns-clause-calls
returns-clause-calls c m k n mode i at here alike = call_found m k mode at n i here alike

pub returns-clause-drivers : goal.returns-clause-drivers
returns-clause-drivers c m k n mode u at here alike = driver_found m k mode at n u here alike

pub returns-clause-guards : goal.returns-clause-guards
returns-clause-guards c = guard_found

pub returns-clause-releases : goal.returns-clause-releases
returns-clause-releases c = release_found
