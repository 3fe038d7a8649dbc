-- What is seen of the parts of a node while one of them changes, and when a host is not due.
use Rattle.std.proofs.Common.{◌≡◌, ℕ, ◌<◌, ℤ, List, [], ◌∷◌, ◌++◌, map, Bool, true, false, ◌&&◌, ◌==◌, Some, refl, ap, sym, ◌∙◌, arith}
use Rattle.std.specs.Prelude.{if◌then◌else◌}
use Rattle.std.proofs.lemmas.Bool.{ne_eqb}
use Rattle.tdl_base.specs.declared.numbers.PortKey.{PortKey}
use Rattle.tdl_image.specs.declared.hosted.Hosted.{Hosted}
use Rattle.tdl_verify.specs.States.{HostNow, Part, part_number, part_outputs}
pub use Rattle.tdl_verify.specs.Sweeps.{NotIn, Apart, Sees}
use Rattle.tdl_verify.specs.Turns.{Due, due_of, phase_of}
use Rattle.tdl_gen.proofs.Seen.{NoneNumbered, outputs_on-same}

-- the numbers of parts around one part
numbers-cut : (front : List Part) (p : Part) (back : List Part) →
    map part_number (front ++ p ∷ back) ≡ map part_number front ++ part_number p ∷ map part_number back
numbers-cut [] p back = refl
numbers-cut (a ∷ front) p back = ap (λ ns. part_number a ∷ ns) (numbers-cut front p back)

-- a number that is not among the parts' is no part's
none-numbered : (n : ℕ) (front : List Part) → NotIn n (map part_number front) → NoneNumbered n front
none-numbered n [] h = tt
none-numbered n (p ∷ ps) h = (h.0, none-numbered n ps h.1)

-- the parts in front of a part have other numbers
pub sees-none : (seen : PortKey → ℤ) (ns : List ℕ) → Apart ns → (front : List Part) (p : Part) (back : List Part) →
    Sees seen ns (front ++ p ∷ back) → NoneNumbered (part_number p) front
sees-none seen ns apart front p back fit =
    none-numbered (part_number p) front (apart (map part_number front) (part_number p) (map part_number back)
    (sym fit.numbers ∙ numbers-cut front p back))

-- a part with the same number and outputs in its place leaves what is seen
pub sees-kept : (seen : PortKey → ℤ) (ns : List ℕ) (front : List Part) (p q : Part) (back : List Part) →
    part_number p ≡ part_number q → ((t : ℕ) → part_outputs p t ≡ part_outputs q t) →
    Sees seen ns (front ++ p ∷ back) → Sees seen ns (front ++ q ∷ back)
sees-kept seen ns front p q back number outputs fit = record {
  outputs = sym (outputs_on-same front p q back number outputs) ∙ fit.outputs;
  numbers = numbers-cut front q back ∙ ap (λ n. map part_number front ++ n ∷ map part_number back) (sym number)
      ∙ sym (numbers-cut front p back) ∙ fit.numbers;
}

-- a host whose trigger is due in a later phase
pub quiet : (x q n : ℕ) (h : Hosted) (s : HostNow) (at block phase : ℕ) → phase_of h.blocks block ≡ phase →
    q < phase → due_of x q n (Part.Host h (record s { trigger = Some (record { at = at; block = block }) })) ≡ []
quiet x q n h s at block phase is lt =
    let e : (phase_of h.blocks block == q) ≡ false =
    ne_eqb (phase_of h.blocks block) q (λ e. omega (arith, e, is, lt)) in
    ap (λ c. one (at == x && c)) e ∙ none (at == x)
  where
    one : Bool → List Due
    one b = if b then record { part = n; entry = 0 } ∷ [] else []

    none : (b : Bool) → (if b && false then record { part = n; entry = 0 } ∷ [] else one false) ≡ one false
    none true = refl
    none false = refl
