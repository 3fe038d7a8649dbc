-- The bundle of a plain program is the compiler's.
use Rattle.std.proofs.Common.{◌≡◌, ◌<◌, ℕ, ◌-◌, true, false, nat_lt, min, eqb, [], ◌∷◌, refl, ap, ap₂, ◌∙◌, arith}
use Rattle.std.proofs.lemmas.Bool.{ne_eqb, eq-eqb}
use Rattle.std.proofs.lemmas.Bool.Decides.{nat_tests}
use Rattle.std.proofs.Math.Nat.{min-eq_left}
use Rattle.tdl_lower.proofs.Equations.{expr_code-load}
use Rattle.tdl_deploy.specs.Named.{one_node}
use Rattle.tdl_plain.specs.declared.form.Form.{Form}
use Rattle.tdl_mode.specs.Offsets.{offsets, next_offset}
use Rattle.tdl_plain.specs.PlainProgram.{program_of, plain_module, plain_mode, period_us}
use Rattle.tdl_gen.specs.BlockNames.{BlockName, block_number}
use Rattle.tdl_gen.specs.Counts.{module_count}
use Rattle.tdl_gen.specs.Blocks.{block_of, blocks_of}
use Rattle.tdl_ecode.specs.declared.instr.EInstr.TheVariants as e
use Rattle.tdl_ecode.specs.declared.instr.Block.{Block}
use Rattle.tdl_gen.specs.Realises.{bundle_of}
use Rattle.tdl_gen.proofs.Examples.{body_adds}
use Rattle.tdl_make.specs.PlainBundle.{plain_bundle, plain_blocks, plain_schedule}

-- a number above 0 tests so
above : (p : ℕ) → 0 < p → nat_lt 0 p ≡ true
above p lt = grind (arith, nat_tests)

-- no number is below itself
not_itself : (p : ℕ) → nat_lt p p ≡ false
not_itself p = grind (arith, nat_tests)

module _ (f : Form) (lt : 0 < period_us f) where
  -- the period is not 0
  some : eqb (period_us f) 0 ≡ false
  some = ne_eqb _ _ (λ h. omega (arith, h, lt))

  -- 0 is not the period
  other : eqb 0 (period_us f) ≡ false
  other = ne_eqb _ _ (λ h. omega (arith, h, lt))

  -- the period is itself
  itself : eqb (period_us f) (period_us f) ≡ true
  itself = eq-eqb _ _ refl

  -- the two offsets
  offsets_are : offsets (plain_mode f) ≡ 0 ∷ period_us f ∷ []
  offsets_are = rw (some, above (period_us f) lt, other, itself) refl

  -- the declared count
  counts_are : module_count (plain_module f) ≡ 11
  counts_are = rw (offsets_are, above (period_us f) lt, not_itself (period_us f), itself) refl

  -- the lesser of two equal periods
  least : min (period_us f) (period_us f) ≡ period_us f
  least = min-eq_left (omega arith)

  -- the offset after 0
  next_is : next_offset (plain_mode f) 0 ≡ period_us f
  next_is = rw (above (period_us f) lt, least, least) refl

  -- the number of the block of releases
  starts_number : block_number (plain_module f) (BlockName.Starts 0 0) ≡ 1
  starts_number = rw (offsets_are, above (period_us f) lt) refl

  -- the number of the block of terminations
  ends_number : block_number (plain_module f) (BlockName.Ends 0 (period_us f)) ≡ 2
  ends_number = rw (offsets_are, above (period_us f) lt, itself) refl

  -- the number of the block of updates
  updates_number : block_number (plain_module f) (BlockName.Updates 0 (period_us f)) ≡ 3
  updates_number = rw (offsets_are, above (period_us f) lt, itself) refl

  -- the number of the block at the end of the cycle
  switches_number : block_number (plain_module f) (BlockName.Switches 0 (period_us f)) ≡ 4
  switches_number = rw (offsets_are, above (period_us f) lt, itself) refl

  -- a block that releases the job, and goes on after d microseconds with block n
  abbrev starting_block : ℕ → ℕ → Block
  starting_block d n = record { phase = 4; code = e.Release 0 ∷ e.Future d n ∷ e.Return ∷ [] }

  -- the block of releases
  starts_is : block_of (plain_module f) (BlockName.Starts 0 0) ≡ starting_block (period_us f) 2
  starts_is =
      ap₂ (λ (o n : ℕ). starting_block (o - 0) n) next_is
      (ap (λ (o : ℕ). block_number (plain_module f) (BlockName.Ends 0 o)) next_is ∙ ends_number)
      ∙ ap (λ (d : ℕ). starting_block d 2) (omega arith)

  -- the block of terminations
  ends_is : block_of (plain_module f) (BlockName.Ends 0 (period_us f))
      ≡ record { phase = 1; code = e.End 0 ∷ e.Future 0 3 ∷ e.Return ∷ [] }
  ends_is = rw (updates_number, itself) refl

  -- the block of updates
  updates_is : block_of (plain_module f) (BlockName.Updates 0 (period_us f))
      ≡ record { phase = 2; code = e.Future 0 4 ∷ e.Return ∷ [] }
  updates_is = rw (switches_number) refl

  -- the block at the end of the cycle
  switches_is : block_of (plain_module f) (BlockName.Switches 0 (period_us f))
      ≡ record { phase = 3; code = e.Mode 0 ∷ e.Future 0 1 ∷ e.Return ∷ [] }
  switches_is = rw (starts_number, itself) refl

  -- all blocks
  blocks_are : blocks_of (plain_module f) ≡ plain_blocks f
  blocks_are =
      rw (offsets_are, above (period_us f) lt, not_itself (period_us f))
      (rw (starts_is, ends_is, updates_is, switches_is) refl)

  -- the compiler's bundle of a plain program is the plain bundle
  pub bundle_of-plain : bundle_of (program_of f) (one_node (program_of f)) (plain_schedule f) ≡ plain_bundle f
  unfolding bundle_of
  bundle_of-plain = rw (counts_are, blocks_are, body_adds, expr_code-load) refl
