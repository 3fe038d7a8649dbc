-- The bundle of a plain program realises it, since the bundle of every program that is accepted does.
use Rattle.std.proofs.Common.{◌≡◌, ap, sym, map}
use Rattle.tdl_deploy.specs.declared.placement.Placement.{Placement}
use Rattle.tdl_deploy.specs.Named.{one_node}
use Rattle.tdl_image.specs.declared.bundle.Bundle.{Bundle}
use Rattle.tdl_image.specs.declared.bundle.Image.{Image}
use Rattle.tdl_gen.specs.Realises.{bundle_of, without_counts, HasTables, HasCounts, Realises}
use Rattle.tdl_meaning.specs.Accepted.{Accepted}
use Rattle.tdl_meaning.proofs.Meaning.{meaning}
use Rattle.tdl_plain.specs.declared.form.Form.{Form}
use Rattle.tdl_plain.specs.PlainProgram.{program_of}
use Rattle.tdl_plain.specs.Runnable.{IsRunnable}
use Rattle.tdl_make.specs.PlainBundle.{plain_bundle, plain_schedule}
use Rattle.tdl_make.proofs.Compiled.{bundle_of-plain}
use Rattle.tdl_make.proofs.PlainAccepted.{period_above, well_formed, well_placed, passes}

module _ (f : Form) (runnable : IsRunnable f) where
  -- the modules of the program on one node
  abbrev placed : Placement
  placed = one_node (program_of f)

  -- the program, this placement and its one window are accepted
  abbrev accepted : Accepted
  accepted = record {
    program = program_of f;
    placement = placed;
    schedule = plain_schedule f;
    well_formed = well_formed f runnable;
    well_placed = well_placed f;
    passes = passes f runnable;
  }

  -- the compiler's bundle of the program is the plain one
  pub made : bundle_of (program_of f) placed (plain_schedule f) ≡ plain_bundle f
  made = bundle_of-plain f (period_above f runnable)

  -- the plain bundle has the compiler's tables
  tables : HasTables (plain_bundle f) (program_of f) placed (plain_schedule f)
  tables = ap without_counts (sym made)

  -- and its counts
  counts : HasCounts (plain_bundle f) (program_of f) placed (plain_schedule f)
  unfolding bundle_of
  counts = ap (λ (b : Bundle). map (λ (i : Image). i.declared) b.images) (sym made)

  -- the plain bundle realises the program
  pub realises : Realises (plain_bundle f) (program_of f) placed (plain_schedule f)
  realises = record {
    tables = tables;
    counts = counts;
    meaning = meaning accepted (plain_bundle f) tables counts;
  }
