-- A bundle is read exactly.
use Rattle.std.proofs.Common.{◌≡◌, ℕ, ◌-◌, ◌<◌, ◌≤◌, ◌⊎◌, List, [], ◌∷◌, ◌++◌, length, codes, nat_lt, Result, Ok, Err, inl, inr, refl, sym, ap, subst, ◌∙◌, append_assoc, append-nil, arith, All}
use Rattle.std.specs.Prelude.{IfOk, if◌then◌else◌}
use Rattle.std.specs.List.{flat_map}
use Rattle.std.specs.Int.{w16}
use Rattle.std.proofs.lemmas.Bool.{cases_lt}
use Rattle.std.proofs.lemmas.List.{get_or_past}
use Rattle.tdl_base.specs.Bytes.{short}
use Rattle.tdl_base.proofs.NumbersInBytes.{AreBytes}
use Rattle.tdl_image.specs.declared.bundle.Bundle.{Bundle}
use Rattle.tdl_image.specs.Spelling.{short_list, image_bytes, bundle_bytes}
use Rattle.tdl_image.specs.Spellable.{IsSpellable}
use Rattle.tdl_decode.specs.Grammar.{Reads, short_from_to}
use Rattle.tdl_decode.specs.BundleGrammar.{version, images, ended, breaks_bundle, IsBundleFault}
use Rattle.tdl_decode.specs.declared.flaw.Flaw.{Flaw}
use Rattle.tdl_decode.specs.declared.flaw.Flaw.TheVariants.{Broken}
use Rattle.tdl_decode.specs.declared.fault.BundleError.TheVariants.{BadBundle}
use Rattle.tdl_decode.specs.Answers.{OrNoMemory}
use Rattle.tdl_decode.specs.Reading.{Fails, items_in, short_in, number_in}
use Rattle.tdl_decode.specs.BundleReading.{image_in, images_in, bundle_in}
use Rattle.tdl_decode.proofs.Exact.{Exact, Faults, faults_then, holds_then, sound_then, again_then, kept_sound, same_fault, one_fault}
use Rattle.tdl_decode.proofs.NumberFields.{short-exact, seq3, too_few}
use Rattle.tdl_decode.proofs.LongExact.{magic-exact}
use Rattle.tdl_decode.proofs.ListedExact.{items-exact}
use Rattle.tdl_decode.proofs.ImageExact.{image-exact}

-- the count of the images
count-exact : Exact (short_from_to 1 16) (short_in 1 16)
count-exact = short-exact 4 1 16 (omega arith)

-- the version
version-exact : Exact version (number_in w16 1 1 1)
version-exact = short-exact 1 1 1 (omega arith)

-- the images
pub images-exact : Exact images images_in
unfolding images_in
images-exact = record {
  sound = λ bytes small.
      sound_then images (λ b. b) _ count-exact
      (λ n m lawful small.
      kept_sound (items-exact image-exact n) (λ r. Reads images r.0 (short n ++ m) r.1) m small
      (λ xs rest others front. record {
        lawful = (omega (arith, others.0, lawful.0), omega (arith, others.0, lawful.1), others.1);
        front = ap (λ b. short n ++ b) front ∙ sym (append_assoc (short n) (flat_map image_bytes xs) rest)
            ∙ ap (λ k. (short k ++ flat_map image_bytes xs) ++ rest) (sym others.0);
      })) bytes small;
  again = λ xs rest lawful.
      ap images_in (append_assoc (short (length xs)) (flat_map image_bytes xs) rest)
      ∙ again_then (items_in image_in) count-exact (length xs) (flat_map image_bytes xs ++ rest)
      (lawful.0, lawful.1)
      ∙ (items-exact image-exact (length xs)).again xs rest (refl, lawful.2);
  faults = λ bytes small.
      faults_then count-exact (λ n m small. (items-exact image-exact n).faults m small) bytes small;
}

-- bytes that are left after a bundle
ended-faults : (bundle : Bundle) (bytes : List ℕ) →
    Faults ended bytes (if nat_lt 0 (length bytes) then Err (3, length bytes) else Ok bundle)
ended-faults bundle [] = record {
  told = λ rule left e. absurd cc;
  within = λ rule left e. absurd cc;
  fails = λ rule left broken. absurd (broken.0 refl);
}
ended-faults bundle (b ∷ bytes) = rw (too_few 0 (length (b ∷ bytes)) (omega arith)) (record {
  told = λ rule left e.
      let same = same_fault 3 (length (b ∷ bytes)) rule left e in ((λ none. absurd cc), same.0, same.1);
  within = λ rule left e. let all = (same_fault 3 (length (b ∷ bytes)) rule left e).1 in omega (arith, all);
  fails = λ rule left broken. one_fault 3 (length (b ∷ bytes)) rule left broken.1 broken.2;
})

-- a bundle fails where its grammar is broken
pub bundle-faults : (bytes : List ℕ) → AreBytes bytes → Faults breaks_bundle bytes (bundle_in bytes)
unfolding bundle_in
bundle-faults bytes small =
    faults_then magic-exact (λ u b s. faults_then version-exact (λ v b s. faults_then images-exact
    (λ xs b s. ended-faults (record { images = xs }) b) b s) b s) bytes small

-- what is read is the bytes of a bundle that can be spelled
abbrev IsSpelledBy : List ℕ → Bundle → Type 0
IsSpelledBy bytes bundle = IsSpellable bundle × (bytes ≡ bundle_bytes bundle)

-- nothing is left after it
whole : (front : List ℕ → List ℕ) (bundle : Bundle) (bytes : List ℕ) → (bytes ≡ [] → IsSpelledBy (front bytes) bundle) →
    IfOk {E = ℕ × ℕ} (if nat_lt 0 (length bytes) then Err (3, length bytes) else Ok bundle) (IsSpelledBy (front bytes))
whole front bundle [] spelled = spelled refl
whole front bundle (b ∷ bytes) spelled = rw (too_few 0 (length (b ∷ bytes)) (omega arith)) tt

pub bundle-sound : (bytes : List ℕ) → AreBytes bytes → IfOk (bundle_in bytes) (IsSpelledBy bytes)
unfolding bundle_in
bundle-sound bytes small =
    holds_then IsSpelledBy _ magic-exact
    (λ u m0 p0 s0. holds_then (λ b. IsSpelledBy (codes "TDLB" ++ b)) _ version-exact
    (λ v m1 p1 s1. holds_then (λ b. IsSpelledBy (codes "TDLB" ++ (short v ++ b))) _ images-exact
    (λ xs m2 p2 s2. whole (λ b. codes "TDLB" ++ (short v ++ (short_list image_bytes xs ++ b))) (record { images = xs }) m2
    (λ none.
    let one : v ≡ 1 = omega (arith, p1.0, p1.1) in (
      record { at_least = p2.0; at_most = p2.1; images = p2.2 },
      seq3 (codes "TDLB") (short v) (short_list image_bytes xs) m2
          ∙ ap (λ b. (codes "TDLB" ++ short v ++ short_list image_bytes xs) ++ b) none
          ∙ append-nil (codes "TDLB" ++ short v ++ short_list image_bytes xs)
          ∙ ap (λ n. codes "TDLB" ++ short n ++ short_list image_bytes xs) one,
    ))) m1 s1) m0 s0) bytes small

-- and a bundle that can be spelled is read again
pub bundle-again : (bundle : Bundle) → IsSpellable bundle → bundle_in (bundle_bytes bundle) ≡ Ok bundle
unfolding bundle_in
bundle-again bundle p =
    ap bundle_in
    (sym (append-nil (bundle_bytes bundle)) ∙ sym (seq3 (codes "TDLB") (short 1) (short_list image_bytes bundle.images) []))
    ∙ again_then _ magic-exact tt _ tt
    ∙ again_then _ version-exact 1 _ (omega arith, omega arith)
    ∙ again_then _ images-exact bundle.images [] (p.at_least, p.at_most, p.images)

-- numbers below 256 are bytes
pub bytes_from : (bytes : List ℕ) → All (λ b. b < 256) bytes → AreBytes bytes
bytes_from bytes small k =
    elim (cases_lt k (length bytes)) [
      | inl lt ↦ small k 0 lt
      | inr le ↦ rw (get_or_past bytes k 0 le) (omega arith)
    ]

-- what reading gives at a fault
pub fault-read : (bytes : List ℕ) → AreBytes bytes → (rule at : ℕ) → (fault : IsBundleFault bytes rule at) →
    bundle_in bytes ≡ Err (rule, fault.left)
fault-read bytes small rule at fault = (bundle-faults bytes small).fails rule fault.left fault.breaks

-- where reading fails there is a fault
pub read-fault : (bytes : List ℕ) → AreBytes bytes → (rule left : ℕ) → bundle_in bytes ≡ Err (rule, left) →
    IsBundleFault bytes rule (length bytes - left)
read-fault bytes small rule left e =
    let faults = bundle-faults bytes small in
    let within = faults.within rule left e in
    record { left = left; breaks = faults.told rule left e; place = omega (arith, within) }

-- bytes are those of a bundle, or have a fault
pub bundle_or_fault : (bytes : List ℕ) → AreBytes bytes →
    ((bundle : Bundle) × IsSpellable bundle × (bytes ≡ bundle_bytes bundle))
    ⊎ ((rule : ℕ) × (at : ℕ) × IsBundleFault bytes rule at)
bundle_or_fault bytes small = by_read (bundle_in bytes) refl
  where
    by_read : (read : Result Bundle (ℕ × ℕ)) → bundle_in bytes ≡ read →
        ((bundle : Bundle) × IsSpellable bundle × (bytes ≡ bundle_bytes bundle))
        ⊎ ((rule : ℕ) × (at : ℕ) × IsBundleFault bytes rule at)
    by_read (Ok bundle) is =
        let spelled = subst (λ (r : Result Bundle (ℕ × ℕ)). IfOk r (IsSpelledBy bytes)) is (bundle-sound bytes small) in
        inl (bundle, spelled.0, spelled.1)
    by_read (Err flaw) is = inr (flaw.0, length bytes - flaw.1, read-fault bytes small flaw.0 flaw.1 is)

-- never both
pub never_both : (bytes : List ℕ) → AreBytes bytes → (bundle : Bundle) → IsSpellable bundle → bytes ≡ bundle_bytes bundle →
    (rule at : ℕ) → IsBundleFault bytes rule at → ⊥
never_both bytes small bundle p e rule at fault =
    absurd (cc (fault-read bytes small rule at fault, ap bundle_in e ∙ bundle-again bundle p))

-- and one fault at most
pub only_fault : (bytes : List ℕ) → AreBytes bytes → (r a s b : ℕ) → IsBundleFault bytes r a → IsBundleFault bytes s b →
    (r ≡ s) × (a ≡ b)
only_fault bytes small r a s b one other =
    let same = same_fault {Y = Bundle} r one.left s other.left
    (sym (fault-read bytes small r a one) ∙ fault-read bytes small s b other) in
    (sym same.0, omega (arith, same.1, one.place, other.place))

-- ---- what the answers of the reader say

pub ok_spelled : (bytes : List ℕ) → AreBytes bytes → (bundle : Bundle) → bundle_in bytes ≡ Ok bundle →
    IsSpellable bundle × (bytes ≡ bundle_bytes bundle)
ok_spelled bytes small bundle is =
    let spelled = subst (λ (r : Result Bundle (ℕ × ℕ)). IfOk r (IsSpelledBy bytes)) is (bundle-sound bytes small) in
    (spelled.0, spelled.1)

pub ok_only : (bytes : List ℕ) (found bundle : Bundle) → bundle_in bytes ≡ Ok found → IsSpellable bundle →
    bytes ≡ bundle_bytes bundle → found ≡ bundle
ok_only bytes found bundle is p e = cc (ap bundle_in e ∙ bundle-again bundle p)

pub ok_whole : (bytes : List ℕ) → AreBytes bytes → (found : Bundle) → bundle_in bytes ≡ Ok found → (rule at : ℕ) →
    IsBundleFault bytes rule at → ⊥
ok_whole bytes small found is rule at fault = absurd (cc (fault-read bytes small rule at fault))

pub bad_only : (bytes : List ℕ) (rule left : ℕ) → bundle_in bytes ≡ Err (rule, left) → (bundle : Bundle) →
    IsSpellable bundle → bytes ≡ bundle_bytes bundle → ⊥
bad_only bytes rule left is bundle p e = absurd (cc (ap bundle_in e ∙ bundle-again bundle p))

pub bad_fault : (bytes : List ℕ) → AreBytes bytes → (rule left : ℕ) → bundle_in bytes ≡ Err (rule, left) → (r at : ℕ) →
    IsBundleFault bytes r at → (r ≡ rule) × (at ≡ length bytes - left)
bad_fault bytes small rule left is r at fault =
    only_fault bytes small r at rule (length bytes - left) fault (read-fault bytes small rule left is)

pub bad_within : (bytes : List ℕ) → AreBytes bytes → (rule left : ℕ) → bundle_in bytes ≡ Err (rule, left) →
    left ≤ length bytes
bad_within bytes small rule left is = (bundle-faults bytes small).within rule left is

-- what is known in the arm of a broken rule
pub broken_at : (bytes : List ℕ) (flaw : Flaw) (rule left : ℕ) → flaw ≡ Broken rule left →
    Fails flaw (bundle_in bytes) → bundle_in bytes ≡ Err (rule, left)
broken_at bytes flaw rule left e fails = subst (λ f. Fails f (bundle_in bytes)) e fails

-- the answer is the fault
pub one_answer : (bytes : List ℕ) → AreBytes bytes → (rule left : ℕ) → bundle_in bytes ≡ Err (rule, left) → (r at : ℕ) →
    IsBundleFault bytes r at →
    OrNoMemory {X = Bundle} (Err (BadBundle r at)) (Err (BadBundle rule (length bytes - left)))
one_answer bytes small rule left is r at fault =
    let same = bad_fault bytes small rule left is r at fault in
    inl (λ i. Err (BadBundle (sym same.0 i) (sym same.1 i)))
