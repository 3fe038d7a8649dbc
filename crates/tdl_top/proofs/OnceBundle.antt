-- Of the file of a bundle, where the files tell what they hold, one answer at most is due.
use Rattle.std.proofs.Common.{◌≡◌, ℕ, List, ap, sym, ◌∙◌, Some}
use Rattle.tdl_base.specs.declared.limits.TheConstants.{BUNDLE_BYTES}
use Rattle.tdl_io.specs.Outside.{Held}
use Rattle.tdl_image.specs.declared.bundle.Bundle.{Bundle}
use Rattle.tdl_image.proofs.OneSpelling.{one_spelling}
use Rattle.tdl_decode.specs.BundleGrammar.{IsBundleFault}
use Rattle.tdl_decode.proofs.BundleExact as decoded
use Rattle.tdl_make.proofs.Spelled.{plain_spellable}
use Rattle.tdl_words.specs.Words.{Words, word_at}
use Rattle.tdl_report.specs.declared.status.Status.{Status}
use Rattle.tdl_report.specs.declared.status.Status.TheVariants.{TooLong, BadBundle, BadForm}
use Rattle.tdl_top.specs.Sources.{IsRead}
use Rattle.tdl_top.specs.Inputs.{ReadsBundle}
use Rattle.tdl_top.specs.Refused.{IsSpelling, IsOtherSpelling, ReadsAsBundle, BundleRefused}
use Rattle.tdl_top.proofs.OnceSources.{same_bytes, not_long, moved}

module _ (held : Held) (words : Words) where
  abbrev fault_at : (rule at : ℕ) → List ℕ → Type 0
  fault_at rule at bytes = IsBundleFault bytes rule at

  here : (P : List ℕ → Type 0) (bytes : List ℕ) → IsRead (Some held) (word_at words 1) BUNDLE_BYTES bytes →
      ReadsAsBundle (Some held) words P → P bytes
  here P bytes read x = moved held (word_at words 1) BUNDLE_BYTES P bytes read x

  -- bytes that spell a bundle break no rule
  broken : (bytes : List ℕ) → IsRead (Some held) (word_at words 1) BUNDLE_BYTES bytes → IsSpelling bytes →
      (r a : ℕ) → IsBundleFault bytes r a → ⊥
  broken bytes read x r a fault =
      decoded.never_both bytes (decoded.bytes_from bytes read.in_range) x.bundle x.spellable x.spelled r a fault

  -- it is refused with one answer at most
  pub file_once : (s t : Status) → BundleRefused (Some held) words s → BundleRefused (Some held) words t → s ≡ t
  file_once (TooLong w) (TooLong v) x y = ap TooLong (x.0 ∙ sym y.0)
  file_once (TooLong w) (BadBundle r a) x y =
      absurd (not_long held (word_at words 1) BUNDLE_BYTES y.bytes y.read x.1)
  file_once (TooLong w) (BadForm v) x y =
      absurd (not_long held (word_at words 1) BUNDLE_BYTES y.1.bytes y.1.read x.1)
  file_once (BadBundle r a) (TooLong v) x y =
      absurd (not_long held (word_at words 1) BUNDLE_BYTES x.bytes x.read y.1)
  file_once (BadBundle r a) (BadBundle q b) x y =
      let places = decoded.only_fault y.bytes (decoded.bytes_from y.bytes y.read.in_range) r a q b
      (here (fault_at r a) y.bytes y.read x) y.holds_of in
      λ i. BadBundle (places.0 i) (places.1 i)
  file_once (BadBundle r a) (BadForm v) x y =
      absurd (broken y.1.bytes y.1.read y.1.holds_of.0 r a (here (fault_at r a) y.1.bytes y.1.read x))
  file_once (BadForm w) (TooLong v) x y =
      absurd (not_long held (word_at words 1) BUNDLE_BYTES x.1.bytes x.1.read y.1)
  file_once (BadForm w) (BadBundle r a) x y =
      absurd (broken x.1.bytes x.1.read x.1.holds_of.0 r a (here (fault_at r a) x.1.bytes x.1.read y))
  file_once (BadForm w) (BadForm v) x y = ap BadForm (x.0 ∙ sym y.0)
  file_once (TooLong w) t x y = absurd y
  file_once (BadBundle r a) t x y = absurd y
  file_once (BadForm w) t x y = absurd y
  file_once s t x y = absurd x

  -- where it is refused it gives no bundle
  pub file_has : (s : Status) (b : Bundle) → BundleRefused (Some held) words s → ReadsBundle (Some held) words b → ⊥
  file_has (TooLong w) b x has = not_long held (word_at words 1) BUNDLE_BYTES has.bytes has.read x.1
  file_has (BadBundle r a) b x has =
      broken has.bytes has.read
      (record { bundle = b; spellable = plain_spellable b has.spelling.plain; spelled = has.spelling.spelled }) r a
      (here (fault_at r a) has.bytes has.read x)
  file_has (BadForm w) b x has = (here IsOtherSpelling has.bytes has.read x.1).1 b has.spelling
  file_has s b x has = absurd x

  -- it gives one bundle at most
  pub file_bundle : (a b : Bundle) → ReadsBundle (Some held) words a → ReadsBundle (Some held) words b → a ≡ b
  file_bundle a b x y =
      one_spelling a b (plain_spellable a x.spelling.plain) (plain_spellable b y.spelling.plain)
      (sym x.spelling.spelled
      ∙ same_bytes held (word_at words 1) BUNDLE_BYTES x.bytes y.bytes x.read y.read ∙ y.spelling.spelled)
