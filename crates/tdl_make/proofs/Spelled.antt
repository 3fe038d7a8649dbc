-- The bundle of a plain program can be spelled.
use Rattle.std.proofs.Common.{◌≡◌, ◌≤◌, ℕ, pos, true, nat_le, List, [], ◌∷◌, length, All, IsTrue, not, refl, sym, subst, arith}
use Rattle.std.proofs.lemmas.Bool.Decides.{nat_tests}
use Rattle.std.proofs.lemmas.List.Elements.{All-nil, All-cons, All-from_recursion}
use Rattle.std.proofs.lemmas.Int.{ints}
use Rattle.std.specs.List.Sorted.{IsStrictlyIncreasing}
use Rattle.tdl_base.specs.Letters.{is_word}
use Rattle.std.proofs.lemmas.Bool.{and_parts}
use Rattle.tdl_base.specs.declared.kinds.Kind.TheVariants.{Int}
use Rattle.tdl_stack.specs.Spelling as stack
use Rattle.tdl_ecode.specs.Spelling as ecode
use Rattle.tdl_ecode.specs.declared.instr.EInstr.{EInstr}
use Rattle.tdl_ecode.specs.declared.instr.EInstr.TheVariants.{Future, Return}
use Rattle.tdl_image.specs.Identifiers.{IsIdentifier}
use Rattle.tdl_image.specs.Spellable as sp
use Rattle.tdl_plain.specs.declared.form.Form.{Form}
use Rattle.tdl_plain.specs.PlainSource.{IsPlainForm, is_name, is_reserved}
use Rattle.tdl_plain.specs.PlainSource.{is_identifier}
use Rattle.tdl_image.specs.declared.bundle.Bundle.{Bundle}
use Rattle.tdl_image.specs.Spellable.{IsSpellable}
use Rattle.tdl_make.specs.PlainBundle.{add_code, plain_bundle, plain_hosted, plain_table, plain_blocks, IsPlainBundle}

-- a number that tests as at most b
at_most : (a b : ℕ) → nat_le a b ≡ true → a ≤ b
at_most a b h = grind (arith, nat_tests)

-- a name is an identifier
identifier : (t : List ℕ) → IsTrue (is_name t) → IsIdentifier t
identifier t h =
    let parts : (is_word t ≡ true) × (nat_le (length t) 64 ≡ true) =
    and_parts (is_word t) (nat_le (length t) 64) (and_parts (is_identifier t) (not (is_reserved t)) h).0 in
    record { word = parts.0; short = at_most (length t) 64 parts.1 }

-- a list of one item
one : {X : Type 0} (P : X → Type 0) (x : X) → P x → All P (x ∷ [])
one P x p = All-cons P x [] p (All-nil P)

-- a list of one number increases
alone : (n : ℕ) → IsStrictlyIncreasing (n ∷ [])
alone n k lt = absurd (omega (arith, lt))

-- an empty list increases
none : IsStrictlyIncreasing []
none k lt = absurd (omega (arith, lt))

-- a block of three instructions
three_instrs : (phase : ℕ) (i j k : EInstr) → 1 ≤ phase → phase ≤ 4 → ecode.IsInRange i → ecode.IsInRange j →
    ecode.IsInRange k →
    sp.IsSpellableBlock (record { phase = phase; code = i ∷ j ∷ k ∷ [] })
three_instrs phase i j k from to p q r = record {
  at_least = from;
  at_most = to;
  count = omega arith;
  code = All-from_recursion ecode.IsInRange (i ∷ j ∷ k ∷ []) (p, (q, (r, tt)));
}

module _ (f : Form) (lawful : IsPlainForm f) where
  -- the initial number can be spelled
  output : sp.IsSpellableInitial (record { kind = Int; name = f.output; initial = pos f.initial })
  output = record {
    name = identifier f.output lawful.output_name;
    initial = (omega (arith, ints), omega (arith, ints, lawful.initial_to));
  }

  -- the task's table can be spelled
  table : sp.IsSpellableTask (plain_table f)
  table = record {
    name = identifier f.task lawful.task_name;
    worst = lawful.worst_from;
    worst_fits = omega (arith, lawful.worst_to, lawful.period_to);
    input_count = omega arith;
    output_count = omega arith;
    local_count = omega arith;
    outputs = one sp.IsSpellableInitial _ output;
    body = record {
      count = omega arith;
      instrs = All-from_recursion stack.IsInRange add_code.instrs
          (omega arith, (omega arith, (tt, (omega arith, tt))));
    };
  }

  -- the five blocks can be spelled
  blocks : All sp.IsSpellableBlock (plain_blocks f)
  blocks = All-from_recursion sp.IsSpellableBlock (plain_blocks f) (
    three_instrs 3 _ _ _ (omega arith) (omega arith) (omega arith) (omega arith, omega arith) tt,
    (
      three_instrs 4 _ _ _ (omega arith) (omega arith) (omega arith) (omega (arith, lawful.period_to), omega arith) tt,
      (
        three_instrs 1 _ _ _ (omega arith) (omega arith) (omega arith) (omega arith, omega arith) tt,
        (
          record {
            at_least = omega arith;
            at_most = omega arith;
            count = omega arith;
            code = All-from_recursion ecode.IsInRange (Future 0 4 ∷ Return ∷ []) ((omega arith, omega arith), (tt, tt));
          },
          (three_instrs 3 _ _ _ (omega arith) (omega arith) (omega arith) (omega arith, omega arith) tt, tt),
        ),
      ),
    ),
  )

  -- the module can be spelled
  host : sp.IsSpellableHosted (plain_hosted f)
  host = record {
    number = omega arith;
    name = identifier f.module lawful.module_name;
    sensor_count = omega arith;
    actuator_count = omega arith;
    task_count = omega arith;
    mode_count = omega arith;
    call_count = omega arith;
    release_count = omega arith;
    guard_count = omega arith;
    driver_count = omega arith;
    window_count = omega arith;
    block_count = omega arith;
    sensors = one sp.IsSpellableSensor _ (record { name = identifier f.sensor lawful.sensor_name });
    actuators = All-nil sp.IsSpellableInitial;
    tasks = one sp.IsSpellableTask _ table;
    modes = one IsIdentifier f.mode (identifier f.mode lawful.mode_name);
    calls = one sp.IsSpellableCall _ (record {
      task = omega arith;
      count = omega arith;
      args = one sp.IsSpellableCode _ (record { count = omega arith; instrs = one stack.IsInRange _ (omega arith) });
    });
    releases =
        one sp.IsSpellableRelease _ (record { mode = omega arith; invocation = omega arith; call = omega arith });
    guards = All-nil sp.IsSpellableCode;
    drivers = All-nil sp.IsSpellableDriver;
    windows = one sp.IsSpellableWindow _ (record {
      mode = omega arith;
      invocation = omega arith;
      offset = omega arith;
      length = omega (arith, lawful.worst_to, lawful.period_to);
    });
    blocks = blocks;
    entry = omega arith;
  }

  -- the one image can be spelled
  image : All sp.IsSpellableImage (plain_bundle f).images
  image = one sp.IsSpellableImage _ (record {
    node = record { word = refl; short = omega arith };
    declared = omega arith;
    hosted_count = omega arith;
    stub_count = omega arith;
    hosted = one sp.IsSpellableHosted _ host;
    hosted_order = alone 0;
    stubs = All-nil sp.IsSpellableStub;
    stub_order = none;
  })

  -- the bundle can be spelled
  pub spellable : sp.IsSpellable (plain_bundle f)
  spellable = record { at_least = omega arith; at_most = omega arith; images = image }

-- so can the bundle of a plain program
pub plain_spellable : (b : Bundle) → IsPlainBundle b → IsSpellable b
plain_spellable b plain = subst IsSpellable (sym plain.is) (spellable plain.form plain.lawful)
