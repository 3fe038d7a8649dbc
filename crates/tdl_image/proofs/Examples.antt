-- Which of the examples can be spelled.
use Rattle.std.proofs.Common.{rules, ◌≡◌, ◌<◌, [], ◌∷◌, arith, refl}
use Rattle.std.specs.List.Sorted.{IsStrictlyIncreasing}
use Rattle.std.proofs.lemmas.List.Elements.{All-nil, All-cons, All-head}
use Rattle.tdl_image.specs.Example.{counting, image, host, task, with_declared, with_worst}
use Rattle.tdl_image.specs.Spellable as sp

-- the module can be spelled
host_spellable : sp.IsSpellableHosted host
host_spellable = search rules

-- so can the bundle
pub counting_spellable : sp.IsSpellable counting
counting_spellable = record {
  at_least = omega arith;
  at_most = omega arith;
  images = All-cons sp.IsSpellableImage image [] (record {
    node = search rules;
    declared = omega arith;
    hosted_count = omega arith;
    stub_count = omega arith;
    hosted = All-cons sp.IsSpellableHosted host [] host_spellable (All-nil sp.IsSpellableHosted);
    hosted_order = search rules;
    stubs = All-nil sp.IsSpellableStub;
    stub_order = search rules;
  }) (All-nil sp.IsSpellableImage);
}

-- not with a declared count of more than four bytes
pub declared_not_spellable : ¬ sp.IsSpellable (with_declared 4294967307)
declared_not_spellable h =
    let one = All-head sp.IsSpellableImage (record image { declared = 4294967307 }) [] h.images in
    omega (arith, one.declared)

-- nor with such a worst case
pub worst_not_spellable : ¬ sp.IsSpellable (with_worst 4294967296)
worst_not_spellable h =
    let module_of = record host { tasks = record task { worst = 4294967296 } ∷ [] } in
    let one = All-head sp.IsSpellableImage (record image { hosted = module_of ∷ [] }) [] h.images in
    let hosted = All-head sp.IsSpellableHosted module_of [] one.hosted in
    let table = All-head sp.IsSpellableTask (record task { worst = 4294967296 }) [] hosted.tasks in
    omega (arith, table.worst_fits)
