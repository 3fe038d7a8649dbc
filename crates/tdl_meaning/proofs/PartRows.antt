-- Rows of parts that depend on their numbers alone.
use Rattle.tdl_gen.specs.Realises.{part_at}
use Rattle.std.proofs.Common.{◌≡◌, ℕ, suc, ◌+◌, List, [], ◌∷◌, ◌++◌, map, length, Bool, true, false, Some, refl, ap, ap₂, ◌∙◌, subst, arith}
use Rattle.std.specs.Prelude.{slice_get, flat_map, if◌then◌else◌}
use Rattle.tdl_base.specs.Lists.{joined, numbered}
use Rattle.tdl_mode.specs.declared.program.Program.{Program}
use Rattle.tdl_mode.specs.declared.program.Module.{Module}
use Rattle.tdl_mode.specs.States.{ModuleState}
use Rattle.tdl_deploy.specs.declared.placement.Placement.{Placement}
use Rattle.tdl_deploy.specs.declared.schedule.Schedule.{Schedule}
use Rattle.tdl_deploy.specs.Placed.{hosts, imports}
use Rattle.tdl_trace.specs.Shown.{Shown}
use Rattle.tdl_verify.specs.States.{Part, host_first, stub_first}
use Rattle.tdl_gen.specs.Tables.{hosted_of, stub_of}
use Rattle.tdl_meaning.specs.NodeShape.{first_part}

-- rows of a part by its number, of hosts and of stubs
abbrev pub row_of : (ℕ → List Shown) → (ℕ → List Shown) → Part → List Shown
row_of f g (Part.Host h s) = f h.number.0
row_of f g (Part.Outside q t) = g q.number.0

-- they are those of the parts before instant 0
flat_first : (f g : ℕ → List Shown) (qs : List Part) →
    flat_map (row_of f g) qs ≡ flat_map (row_of f g) (map first_part qs)
flat_first f g [] = refl
flat_first f g (Part.Host h s ∷ qs) = ap (λ l. f h.number.0 ++ l) (flat_first f g qs)
flat_first f g (Part.Outside q t ∷ qs) = ap (λ l. g q.number.0 ++ l) (flat_first f g qs)

-- the rows of module k on node j, where it has a part there
abbrev pub of_module : Program → Placement → ℕ → (ℕ → List Shown) → (ℕ → List Shown) → ℕ → List Shown
of_module p pl j f g k = if hosts pl j k then f k else (if imports p pl j k then g k else [])

-- the rows of the compiler's parts of a node, module by module
flat_parts : (program : Program) (placement : Placement) (sched : Schedule) (j : ℕ) (f g : ℕ → List Shown) (n : ℕ)
    (ms : List Module) →
    flat_map (row_of f g) (joined (numbered n (part_at program placement sched j) ms))
    ≡ joined (numbered n (λ k m. of_module program placement j f g k) ms)
flat_parts program placement sched j f g n [] = refl
flat_parts program placement sched j f g n (m ∷ ms) =
    by_test (flat_parts program placement sched j f g (suc n) ms) (hosts placement j n) (imports program placement j n)
  where
    more : List Part
    more = joined (numbered (suc n) (part_at program placement sched j) ms)

    by_test : flat_map (row_of f g) more ≡ joined (numbered (suc n) (λ k m. of_module program placement j f g k) ms) →
        (b c : Bool) →
        flat_map (row_of f g) ((if b then host_first (hosted_of sched n m) ∷ [] else
        (if c then stub_first (stub_of program placement sched n m) ∷ [] else [])) ++ more)
        ≡ (if b then f n else (if c then g n else []))
        ++ joined (numbered (suc n) (λ k m. of_module program placement j f g k) ms)
    by_test rest true c = ap (λ l. f n ++ l) rest
    by_test rest false true = ap (λ l. g n ++ l) rest
    by_test rest false false = rest

-- the rows of parts in the compiler's order, module by module
pub in_modules : (program : Program) (placement : Placement) (sched : Schedule) (j : ℕ) (f g : ℕ → List Shown)
    (qs : List Part) →
    map first_part qs ≡ joined (numbered 0 (part_at program placement sched j) program.modules) →
    flat_map (row_of f g) qs ≡ joined (numbered 0 (λ k m. of_module program placement j f g k) program.modules)
in_modules program placement sched j f g qs order =
    flat_first f g qs ∙ ap (flat_map (row_of f g)) order ∙ flat_parts program placement sched j f g 0 program.modules

-- where each module shows the rows of its state, all show those of all states, the first having number n
pub beside : (F : ℕ → List Shown) (G : ℕ → ModuleState → List Shown) (n : ℕ) (ms : List Module)
    (rs : List ModuleState) → length ms ≡ length rs →
    ((k : ℕ) (m : Module) (r : ModuleState) → slice_get ms k ≡ Some m → slice_get rs k ≡ Some r →
    F (n + k) ≡ G (n + k) r) → joined (numbered n (λ k m. F k) ms) ≡ joined (numbered n G rs)
beside F G n [] [] size h = refl
beside F G n [] (r ∷ rs) size h = absurd (cc size)
beside F G n (m ∷ ms) [] size h = absurd (cc size)
beside F G n (m ∷ ms) (r ∷ rs) size h =
    let z : n + 0 ≡ n = omega arith in
    ap₂ (λ a b. a ++ b) (subst (λ i. F i ≡ G i r) z (h 0 m r refl refl))
    (beside F G (suc n) ms rs (omega (arith, size)) (λ k d s at there. let w : n + suc k ≡ suc n + k = omega arith in
    subst (λ i. F i ≡ G i s) w (h (suc k) d s at there)))
