-- Instructions of the E-machine are read exactly.
use Rattle.std.proofs.Common.{◌≡◌, ℕ, List, ◌++◌, length, drop, Result, Ok, Err, inl, inr, refl, sym, ap, subst, ◌∙◌, arith}
use Rattle.std.specs.Prelude.{IfOk}
use Rattle.std.proofs.Math.Seq.{drop-append_seam}
use Rattle.tdl_base.proofs.NumbersInBytes.{AreBytes}
use Rattle.tdl_ecode.specs.declared.instr.EInstr.{EInstr}
use Rattle.tdl_ecode.specs.declared.fault.InstrFault.{InstrFault}
use Rattle.tdl_ecode.specs.declared.fault.InstrFault.TheVariants.{Short, Unknown}
use Rattle.tdl_ecode.specs.Spelling.{einstr_bytes, BeginsWith, IsUnfinished, HasNoOpcode}
use Rattle.tdl_ecode.specs.Reading.{instr_at, with_len, reading}
use Rattle.tdl_ecode.proofs.Readings.{reading_begins, begins_whole}
use Rattle.tdl_ecode.proofs.Unfinished.{short_is, short_from, unknown_is, unknown_from}
use Rattle.tdl_ecode.proofs.Apart.{reading-spelled}
use Rattle.tdl_decode.specs.Grammar.{Reads, field}
use Rattle.tdl_decode.specs.BundleGrammar.{einstr}
use Rattle.tdl_decode.specs.Reading.{Read}
use Rattle.tdl_decode.specs.BundleReading.{einstr_of, einstr_in}
use Rattle.tdl_decode.proofs.Exact.{Exact, Faults, same_fault, one_fault}

-- what was read stands at the front
sound : (bytes : List ℕ) → AreBytes bytes → (read : Result EInstr InstrFault) → instr_at bytes ≡ read →
    IfOk (einstr_of bytes (with_len read)) (λ r. Reads einstr r.0 bytes r.1)
sound bytes small (Ok i) is =
    let begins : BeginsWith bytes i =
    subst (λ r. IfOk (with_len r) (λ r. BeginsWith bytes r.0)) is (reading_begins bytes small) in
    record { lawful = begins.fits; front = sym (begins_whole bytes i begins) }
sound bytes small (Err Short) is = tt
sound bytes small (Err Unknown) is = tt

-- where none was read, the bytes end too early, or their first one is no opcode
faults : (bytes : List ℕ) → AreBytes bytes → (read : Result (EInstr × ℕ) InstrFault) → reading bytes ≡ read →
    Faults (field 4 IsUnfinished HasNoOpcode) bytes (einstr_of bytes read)
faults bytes small (Ok r) is = record {
  told = λ rule left e. absurd cc;
  within = λ rule left e. absurd cc;
  fails = fails;
}
  where
    fails : (rule left : ℕ) → field 4 IsUnfinished HasNoOpcode bytes rule left →
        ◌≡◌ {A = Read EInstr} (Ok (r.0, drop r.1 bytes)) (Err (rule, left))
    fails rule left (inl broken) = absurd (cc (sym is ∙ short_from bytes broken.0))
    fails rule left (inr broken) = absurd (cc (sym is ∙ unknown_from bytes broken.0))
faults bytes small (Err Short) is = record {
  told = λ rule left e. let same = same_fault 2 0 rule left e in inl (short_is bytes small is, same.0, same.1);
  within = λ rule left e. let none = (same_fault 2 0 rule left e).1 in omega (arith, none);
  fails = fails;
}
  where
    fails : (rule left : ℕ) → field 4 IsUnfinished HasNoOpcode bytes rule left →
        ◌≡◌ {A = Read EInstr} (Err (2, 0)) (Err (rule, left))
    fails rule left (inl broken) = one_fault 2 0 rule left broken.1 broken.2
    fails rule left (inr broken) = absurd (cc (sym is ∙ unknown_from bytes broken.0))
faults bytes small (Err Unknown) is = record {
  told = λ rule left e. let same = same_fault 4 (length bytes) rule left e in inr (unknown_is bytes is, same.0, same.1);
  within = λ rule left e. let all = (same_fault 4 (length bytes) rule left e).1 in omega (arith, all);
  fails = fails;
}
  where
    fails : (rule left : ℕ) → field 4 IsUnfinished HasNoOpcode bytes rule left →
        ◌≡◌ {A = Read EInstr} (Err (4, length bytes)) (Err (rule, left))
    fails rule left (inl broken) = absurd (cc (sym is ∙ short_from bytes broken.0))
    fails rule left (inr broken) = one_fault 4 (length bytes) rule left broken.1 broken.2

pub einstr-exact : Exact einstr einstr_in
unfolding einstr_in
einstr-exact = record {
  sound = λ bytes small. sound bytes small (instr_at bytes) refl;
  again = λ i rest fits.
      ap (einstr_of (einstr_bytes i ++ rest)) (reading-spelled i rest fits)
      ∙ ap (λ b. Ok (i, b)) (drop-append_seam (einstr_bytes i) rest);
  faults = λ bytes small. faults bytes small (reading bytes) refl;
}
