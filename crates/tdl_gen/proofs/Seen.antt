-- What the codes of a hosted module read is what the module may read in its logical state.
use Rattle.std.proofs.Common.{◌≡◌, ℕ, ℤ, pos, List, [], ◌∷◌, ◌++◌, map, Bool, true, false, ◌==◌, Option, Some, refl, ap, sym, ◌∙◌, subst}
use Rattle.std.specs.Prelude.{slice_get, slice_index_or, option_map, unwrap_or, if◌then◌else◌, find}
use Rattle.std.proofs.lemmas.Bool.{eqb-true, eq-eqb}
use Rattle.std.proofs.lemmas.Option.{slice_get-map}
use Rattle.tdl_base.specs.declared.numbers.PortKey.{PortKey}
use Rattle.tdl_mode.specs.States.{TaskState, output_at, look_of}
use Rattle.tdl_stack.specs.Running.{no_cells}
use Rattle.tdl_image.specs.declared.hosted.Hosted.{Hosted}
use Rattle.tdl_base.specs.Sensed.{Sensed}
use Rattle.tdl_verify.specs.States.{TaskNow, HostNow, Part, part_number, part_outputs, outputs_on, outer_on}
use Rattle.tdl_lower.specs.Looks.{looked}
use Rattle.tdl_gen.proofs.Guards.{Reads, reads}

-- the outputs of a task of a part that is found; none where there is no such part
found_outputs : ℕ → Option Part → List ℤ
found_outputs t o = unwrap_or (option_map (λ p. part_outputs p t) o) []

-- a step of one part that leaves its number and outputs leaves what is seen of all
find-same : (n t : ℕ) (front : List Part) (p q : Part) (back : List Part) → part_number p ≡ part_number q →
    part_outputs p t ≡ part_outputs q t →
    found_outputs t (find (λ r. part_number r == n) (front ++ p ∷ back)) ≡
    found_outputs t (find (λ r. part_number r == n) (front ++ q ∷ back))
unfolding found_outputs
find-same n t [] p q back number outputs =
    ap (λ m. unwrap_or (option_map (λ p. part_outputs p t)
    (if m == n then Some p else find (λ r. part_number r == n) back)) []) number
    ∙ by_test (part_number q == n)
  where
    by_test : (b : Bool) → unwrap_or (option_map (λ p. part_outputs p t)
        (if b then Some p else find (λ r. part_number r == n) back)) [] ≡
        unwrap_or (option_map (λ p. part_outputs p t) (if b then Some q else find (λ r. part_number r == n) back)) []
    by_test true = outputs
    by_test false = refl
find-same n t (a ∷ front) p q back number outputs =
    by_test (find-same n t front p q back number outputs) (part_number a == n)
  where
    by_test : found_outputs t (find (λ r. part_number r == n) (front ++ p ∷ back)) ≡
        found_outputs t (find (λ r. part_number r == n) (front ++ q ∷ back)) → (b : Bool) →
        unwrap_or (option_map (λ p. part_outputs p t)
        (if b then Some a else find (λ r. part_number r == n) (front ++ p ∷ back))) [] ≡
        unwrap_or (option_map (λ p. part_outputs p t)
        (if b then Some a else find (λ r. part_number r == n) (front ++ q ∷ back))) []
    by_test rest true = refl
    by_test rest false = rest

-- a part with the same number and outputs in its place leaves what is seen of all
pub outputs_on-same : (front : List Part) (p q : Part) (back : List Part) → part_number p ≡ part_number q →
    ((t : ℕ) → part_outputs p t ≡ part_outputs q t) → outputs_on (front ++ p ∷ back) ≡ outputs_on (front ++ q ∷ back)
unfolding found_outputs
outputs_on-same front p q back number outputs =
    λ i. λ key. ap (λ vs. slice_index_or vs key.output (pos 0))
    (find-same key.module.0 key.task.0 front p q back number (outputs key.task.0)) i

-- no part has this number
abbrev pub NoneNumbered : ℕ → List Part → Type 0
NoneNumbered n [] = Unit {0}
NoneNumbered n (p ∷ ps) = ((part_number p == n) ≡ false) × NoneNumbered n ps

-- the first part of a number, where the parts in front have other numbers
find-own : (n : ℕ) (front : List Part) (p : Part) (back : List Part) → NoneNumbered n front → part_number p ≡ n →
    find (λ r. part_number r == n) (front ++ p ∷ back) ≡ Some p
find-own n [] p back none is = let e = eq-eqb (part_number p) n is in rw e refl
find-own n (a ∷ front) p back none is = let e = none.0 in rw e (find-own n front p back none.1 is)

-- the outputs of tasks, in the logical state and on the machine
outputs-agree : (us : List TaskState) (ws : List TaskNow) (t : ℕ) →
    map (λ (w : TaskNow). w.outputs) ws ≡ map (λ (u : TaskState). u.outputs) us →
    option_map (λ (w : TaskNow). w.outputs) (slice_get ws t) ≡
    option_map (λ (u : TaskState). u.outputs) (slice_get us t)
outputs-agree us ws t same =
    sym (slice_get-map (λ (w : TaskNow). w.outputs) ws t) ∙ ap (λ os. slice_get os t) same
    ∙ slice_get-map (λ (u : TaskState). u.outputs) us t

-- a module looks at the same on the parts as in its logical state
pub look-agrees : (front : List Part) (h : Hosted) (s : HostNow) (back : List Part) (sensed : Sensed)
    (us : List TaskState) → NoneNumbered h.number.0 front →
    map (λ (w : TaskNow). w.outputs) s.tasks ≡ map (λ (u : TaskState). u.outputs) us →
    looked (outer_on (front ++ Part.Host h s ∷ back) sensed h.number.0) no_cells ≡
    look_of h.number.0 us sensed (outputs_on (front ++ Part.Host h s ∷ back))
look-agrees front h s back sensed us none same =
    λ i. record { cell = λ k. pos 0; sensor = sensed h.number.0; port = λ key. port key i }
  where
    own : (key : PortKey) → key.module.0 ≡ h.number.0 →
        outputs_on (front ++ Part.Host h s ∷ back) key ≡ output_at us key.task.0 key.output
    own key is =
        ap (λ o. slice_index_or (unwrap_or (option_map (λ p. part_outputs p key.task.0) o) []) key.output (pos 0))
        (ap (λ n. find (λ r. part_number r == n) (front ++ Part.Host h s ∷ back)) is
        ∙ find-own h.number.0 front (Part.Host h s) back none refl)
        ∙ ap (λ o. slice_index_or (unwrap_or o []) key.output (pos 0)) (outputs-agree us s.tasks key.task.0 same)

    by_test : (key : PortKey) (b : Bool) → (key.module.0 == h.number.0) ≡ b →
        outputs_on (front ++ Part.Host h s ∷ back) key ≡
        (if b then output_at us key.task.0 key.output else outputs_on (front ++ Part.Host h s ∷ back) key)
    by_test key true e = own key (eqb-true key.module.0 h.number.0 e)
    by_test key false e = refl

    port : (key : PortKey) → outputs_on (front ++ Part.Host h s ∷ back) key ≡
        (look_of h.number.0 us sensed (outputs_on (front ++ Part.Host h s ∷ back))).port key
    port key = by_test key (key.module.0 == h.number.0) refl

-- each code of a module has, on the parts, the number of its expression in the logical state
pub reads-logical : (front : List Part) (h : Hosted) (s : HostNow) (back : List Part) (sensed : Sensed)
    (us : List TaskState) (seen : PortKey → ℤ) → NoneNumbered h.number.0 front →
    map (λ (w : TaskNow). w.outputs) s.tasks ≡ map (λ (u : TaskState). u.outputs) us →
    outputs_on (front ++ Part.Host h s ∷ back) ≡ seen →
    Reads (front ++ Part.Host h s ∷ back) sensed h.number.0 (look_of h.number.0 us sensed seen)
reads-logical front h s back sensed us seen none same is =
    subst (λ look. Reads (front ++ Part.Host h s ∷ back) sensed h.number.0 look)
    (look-agrees front h s back sensed us none same ∙ ap (λ f. look_of h.number.0 us sensed f) is)
    (reads (front ++ Part.Host h s ∷ back) sensed h.number.0)
