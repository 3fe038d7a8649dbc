-- The names of the compiler's bundle are the names of the program and its placement.
use Rattle.std.proofs.Common.{◌≡◌, ℕ, zero, suc, ◌+◌, ◌<◌, List, [], ◌∷◌, ◌++◌, map, length, Bool, true, false, ◌||◌, refl, ap, ap₂, sym, ◌∙◌, arith}
use Rattle.std.specs.Prelude.{slice_get, option_map, unwrap_or, if◌then◌else◌, nat_lt}
use Rattle.std.proofs.lemmas.Bool.Decides.{nat_tests}
use Rattle.tdl_base.specs.Lists.{joined, numbered, inserted}
use Rattle.std.proofs.lemmas.Bool.{or_left, or_right}
use Rattle.tdl_mode.specs.declared.program.Program.{Program}
use Rattle.tdl_mode.specs.declared.program.Module.{Module}
use Rattle.tdl_mode.specs.declared.program.Task.{Task}
use Rattle.tdl_mode.specs.declared.program.PortDef.{PortDef}
use Rattle.tdl_mode.specs.Imports.{is_among}
use Rattle.tdl_trace.specs.declared.names.ModuleNames.{ModuleNames}
use Rattle.tdl_deploy.specs.declared.placement.Placement.{Placement}
use Rattle.tdl_deploy.specs.declared.placement.PlacedNode.{PlacedNode}
use Rattle.tdl_deploy.specs.declared.schedule.Schedule.{Schedule}
use Rattle.tdl_deploy.specs.Placed.{hosts}
use Rattle.tdl_deploy.specs.Named.{named, task_names, host_from, module_names, names_of}
use Rattle.tdl_deploy.specs.Passes.{WellPlaced}
use Rattle.tdl_image.specs.declared.bundle.Image.{Image}
use Rattle.tdl_verify.specs.Texts.{sensor_named, port_named, table_names, hosted_names, names_sorted, bundle_names, is_named_before}
use Rattle.tdl_gen.specs.Tables.{kind_names, initials, task_table, hosted_of}
use Rattle.tdl_gen.specs.Realises.{bundle_of, image_of}

-- ---- names in order

-- names, each in its place among those of ascending number, the last one first
abbrev all_placed : List ModuleNames → List ModuleNames → List ModuleNames
all_placed [] names = names
all_placed (n ∷ ns) names = inserted is_named_before n (all_placed ns names)

-- names in front of others are sorted by their places among these
names_sorted-append : (ns ks : List ModuleNames) → names_sorted (ns ++ ks) ≡ all_placed ns (names_sorted ks)
names_sorted-append [] ks = refl
names_sorted-append (n ∷ ns) ks = ap (inserted is_named_before n) (names_sorted-append ns ks)

-- all these modules have greater numbers
abbrev Above : ℕ → List ModuleNames → Type 0
Above j [] = Unit {0}
Above j (n ∷ ns) = (j < n.number.0) × Above j ns

-- the names of a module below all others stand first
names_placed-first : (n : ModuleNames) (ks : List ModuleNames) → Above n.number.0 ks →
    inserted is_named_before n ks ≡ n ∷ ks
names_placed-first n [] above = refl
names_placed-first n (k ∷ ks) above =
    ap (λ t. if t then n ∷ k ∷ ks else k ∷ inserted is_named_before n ks) (less n.number.0 k.number.0 above.0)
  where
    less : (a b : ℕ) → a < b → nat_lt a b ≡ true
    less a b lt = grind (arith, nat_tests, lt)

-- the names of modules above another stand after it
all_placed-after : (k : ModuleNames) (ns ks : List ModuleNames) → Above k.number.0 ns →
    all_placed ns (k ∷ ks) ≡ k ∷ all_placed ns ks
all_placed-after k [] ks above = refl
all_placed-after k (n ∷ ns) ks above =
    ap (inserted is_named_before n) (all_placed-after k ns ks above.1)
    ∙ ap (λ t. if t then n ∷ k ∷ all_placed ns ks else k ∷ inserted is_named_before n (all_placed ns ks))
    (greater n.number.0 k.number.0 above.0)
  where
    greater : (a b : ℕ) → b < a → nat_lt a b ≡ false
    greater a b lt = grind (arith, nat_tests, lt)

-- ---- the node of a module

-- some node of a list hosts the module: the node of this place
abbrev is_on : ℕ → List PlacedNode → ℕ → Bool
is_on m nodes i = is_among m (unwrap_or (option_map (λ n. n.modules) (slice_get nodes i)) [])

-- the first node that hosts a module is the only one that does
host_from-is : (m k i : ℕ) (nodes : List PlacedNode) → is_on m nodes i ≡ true →
    ((q : ℕ) → is_on m nodes q ≡ true → q ≡ i) → host_from m k nodes ≡ k + i
host_from-is m k i [] here once = absurd (cc here)
host_from-is m k zero (n ∷ nodes) here once =
    let whole : k ≡ k + 0 = omega arith in
    ap (λ t. if t then k else host_from m (suc k) nodes) here ∙ whole
host_from-is m k (suc i) (n ∷ nodes) here once =
    by_test (is_among m n.modules) refl
    (host_from-is m (suc k) i nodes here (λ q on. let same = once (suc q) on in omega (arith, same)))
  where
    by_test : (t : Bool) → is_among m n.modules ≡ t → host_from m (suc k) nodes ≡ suc k + i →
        (if t then k else host_from m (suc k) nodes) ≡ k + suc i
    by_test true e rest = let no = once 0 e in absurd (omega (arith, no))
    by_test false e rest = let next : suc k + i ≡ k + suc i = omega arith in rest ∙ next

-- a node that hosts a module is there
is_on-there : (m i : ℕ) (nodes : List PlacedNode) → is_on m nodes i ≡ true → i < length nodes
is_on-there m i [] on = absurd (cc on)
is_on-there m zero (n ∷ nodes) on = omega arith
is_on-there m (suc i) (n ∷ nodes) on = let more = is_on-there m i nodes on in omega (arith, more)

-- ---- the names of a module

-- the kinds and names of sensors
sensors-named : (ports : List PortDef) → map sensor_named (kind_names ports) ≡ map named ports
sensors-named [] = refl
sensors-named (p ∷ ps) = ap (λ ns. named p ∷ ns) (sensors-named ps)

-- the kinds and names of actuators and outputs
ports-named : (ports : List PortDef) → map port_named (initials ports) ≡ map named ports
ports-named [] = refl
ports-named (p ∷ ps) = ap (λ ns. named p ∷ ns) (ports-named ps)

-- the names of tasks and their outputs
tasks-named : (tasks : List Task) → map table_names (map task_table tasks) ≡ map task_names tasks
tasks-named [] = refl
tasks-named (t ∷ ts) =
    ap₂ (λ outputs ns. record { name = t.name; worst = t.worst; outputs = outputs } ∷ ns) (ports-named t.outputs)
    (tasks-named ts)

module _ (p : Program) (pl : Placement) (s : Schedule) (placed : WellPlaced p pl) where
  -- the names of a module in the bundle, where it is hosted, are its names
  hosted_names-is : (j k : ℕ) (m : Module) → hosts pl j k ≡ true →
      hosted_names j (hosted_of s k m) ≡ module_names pl k m
  hosted_names-is j k m here =
      let first : 0 + j ≡ j = omega arith in
      let node : host_from k 0 pl.nodes ≡ j =
      host_from-is k 0 j pl.nodes here (λ q on. placed.once k q j on here) ∙ first in
      λ q. record {
        number = record { 0 = k };
        node = record { 0 = sym node q };
        name = m.name;
        sensors = sensors-named m.sensors q;
        actuators = ports-named m.actuators q;
        tasks = tasks-named m.tasks q;
        modes = map (λ mode. mode.name) m.modes;
      }

  -- the names of the modules from number n on that pass
  abbrev chosen : (ℕ → Bool) → ℕ → List Module → List ModuleNames
  chosen passes n ms = joined (numbered n (λ k m. if passes k then module_names pl k m ∷ [] else []) ms)

  -- the modules from a number on have greater numbers than those below it
  chosen-above : (passes : ℕ → Bool) (j n : ℕ) (ms : List Module) → j < n → Above j (chosen passes n ms)
  chosen-above passes j n [] lt = tt
  chosen-above passes j n (m ∷ ms) lt = by_test (chosen-above passes j (suc n) ms (omega (arith, lt))) (passes n)
    where
      by_test : Above j (chosen passes (suc n) ms) → (t : Bool) →
          Above j ((if t then module_names pl n m ∷ [] else []) ++ chosen passes (suc n) ms)
      by_test rest true = (lt, rest)
      by_test rest false = rest

  -- where no module passes there are no names
  chosen-none : (n : ℕ) (ms : List Module) → chosen (λ k. false) n ms ≡ []
  chosen-none n [] = refl
  chosen-none n (m ∷ ms) = chosen-none (suc n) ms

  -- where all modules pass these are the names of all
  chosen-all : (passes : ℕ → Bool) (n : ℕ) (ms : List Module) → ((i : ℕ) → i < length ms → passes (n + i) ≡ true) →
      chosen passes n ms ≡ numbered n (module_names pl) ms
  chosen-all passes n [] all = refl
  chosen-all passes n (m ∷ ms) all =
      let first : n ≡ n + 0 = omega arith in
      ap₂ (λ t ns. (if t then module_names pl n m ∷ [] else []) ++ ns) (ap passes first ∙ all 0 (omega arith))
      (chosen-all passes (suc n) ms
      (λ i lt. let next : suc n + i ≡ n + suc i = omega arith in ap passes next ∙ all (suc i) (omega (arith, lt))))

  -- those that pass one test, placed among those that pass another, are those that pass the one or the other
  all_placed-chosen : (a b : ℕ → Bool) → ((k : ℕ) → a k ≡ true → b k ≡ true → ⊥) → (n : ℕ) (ms : List Module) →
      all_placed (chosen a n ms) (chosen b n ms) ≡ chosen (λ k. a k || b k) n ms
  all_placed-chosen a b apart n [] = refl
  all_placed-chosen a b apart n (m ∷ ms) = by_tests (a n) (b n) (apart n) (all_placed-chosen a b apart (suc n) ms)
    where
      name : ModuleNames
      name = module_names pl n m

      more : (ℕ → Bool) → List ModuleNames
      more passes = chosen passes (suc n) ms

      by_tests : (t u : Bool) → (t ≡ true → u ≡ true → ⊥) → all_placed (more a) (more b) ≡ more (λ k. a k || b k) →
          all_placed ((if t then name ∷ [] else []) ++ more a) ((if u then name ∷ [] else []) ++ more b) ≡
          (if t || u then name ∷ [] else []) ++ more (λ k. a k || b k)
      by_tests true true not_both rest = absurd (not_both refl refl)
      by_tests true false not_both rest =
          ap (inserted is_named_before name) rest
          ∙ names_placed-first name (more (λ k. a k || b k)) (chosen-above (λ k. a k || b k) n (suc n) ms (omega arith))
      by_tests false true not_both rest =
          all_placed-after name (more a) (more b) (chosen-above a n (suc n) ms (omega arith))
          ∙ ap (λ ns. name ∷ ns) rest
      by_tests false false not_both rest = rest

  -- the names on one node
  node-names : (j n : ℕ) (ms : List Module) →
      map (hosted_names j) (joined (numbered n (λ k m. if hosts pl j k then hosted_of s k m ∷ [] else []) ms)) ≡
      chosen (hosts pl j) n ms
  node-names j n [] = refl
  node-names j n (m ∷ ms) = by_test (hosts pl j n) refl (node-names j (suc n) ms)
    where
      by_test : (t : Bool) → hosts pl j n ≡ t →
          map (hosted_names j) (joined (numbered (suc n) (λ k m. if hosts pl j k then hosted_of s k m ∷ [] else [])
          ms)) ≡
          chosen (hosts pl j) (suc n) ms →
          map (hosted_names j) ((if t then hosted_of s n m ∷ [] else []) ++
          joined (numbered (suc n) (λ k m. if hosts pl j k then hosted_of s k m ∷ [] else []) ms)) ≡
          (if t then module_names pl n m ∷ [] else []) ++ chosen (hosts pl j) (suc n) ms
      by_test true e rest = ap₂ (λ name ns. name ∷ ns) (hosted_names-is j n m e) rest
      by_test false e rest = rest

  -- a module is on one of so many nodes from number j on
  abbrev on_some : ℕ → ℕ → ℕ → Bool
  on_some j zero k = false
  on_some j (suc count) k = hosts pl j k || on_some (suc j) count k

  -- a module on a node is on none of the nodes after it
  on_some-not : (i j count k : ℕ) → i < j → hosts pl i k ≡ true → on_some j count k ≡ true → ⊥
  on_some-not i j zero k lt here some = cc some
  on_some-not i j (suc count) k lt here some =
      by_test (hosts pl j k) refl (on_some-not i (suc j) count k (omega (arith, lt)) here)
    where
      by_test : (t : Bool) → hosts pl j k ≡ t → (on_some (suc j) count k ≡ true → ⊥) → ⊥
      by_test true e rest = let same = placed.once k i j here e in omega (arith, same, lt)
      by_test false e rest = rest (sym (ap (λ t. t || on_some (suc j) count k) e) ∙ some)

  -- a module on a node is on one of the nodes
  on_some-is : (i j count k : ℕ) → i < count → hosts pl (j + i) k ≡ true → on_some j count k ≡ true
  on_some-is i j zero k lt here = absurd (omega (arith, lt))
  on_some-is zero j (suc count) k lt here =
      let first : j ≡ j + 0 = omega arith in or_left (hosts pl j k) _ (ap (λ n. hosts pl n k) first ∙ here)
  on_some-is (suc i) j (suc count) k lt here =
      let next : suc j + i ≡ j + suc i = omega arith in
      or_right (hosts pl j k) _ (on_some-is i (suc j) count k (omega (arith, lt)) (ap (λ n. hosts pl n k) next ∙ here))

  -- the names on the nodes from number j on, in order
  nodes-names : (j : ℕ) (nodes : List PlacedNode) →
      names_sorted (joined (numbered j (λ k (i : Image). map (hosted_names k) i.hosted)
      (numbered j (image_of p pl s) nodes))) ≡
      chosen (on_some j (length nodes)) 0 p.modules
  nodes-names j [] = sym (chosen-none 0 p.modules)
  nodes-names j (n ∷ nodes) =
      names_sorted-append (map (hosted_names j) (image_of p pl s j n).hosted)
      (joined (numbered (suc j) (λ k (i : Image). map (hosted_names k) i.hosted)
      (numbered (suc j) (image_of p pl s) nodes)))
      ∙ ap₂ all_placed (node-names j 0 p.modules) (nodes-names (suc j) nodes)
      ∙ all_placed-chosen (hosts pl j) (on_some (suc j) (length nodes))
      (λ k here. on_some-not j (suc j) (length nodes) k (omega arith) here) 0 p.modules

  -- every module is on a node
  all-on : (k : ℕ) → k < length p.modules → on_some 0 (length pl.nodes) (0 + k) ≡ true
  all-on k lt =
      let whole : 0 + k ≡ k = omega arith in
      let host = placed.hosted k lt in
      let node : ℕ = host.0 in
      let first : node ≡ 0 + node = omega arith in
      ap (on_some 0 (length pl.nodes)) whole
      ∙ on_some-is node 0 (length pl.nodes) k (is_on-there k node pl.nodes host.1)
      (ap (λ n. hosts pl n k) (sym first) ∙ host.1)

  -- the names of the nodes
  node_names-are : (j : ℕ) (nodes : List PlacedNode) →
      map (λ (i : Image). i.node) (numbered j (image_of p pl s) nodes) ≡ map (λ n. n.name) nodes
  node_names-are j [] = refl
  node_names-are j (n ∷ nodes) = ap (λ ns. n.name ∷ ns) (node_names-are (suc j) nodes)

  -- the names of the bundle are those of the program and its placement
  pub bundle_names-are : bundle_names (bundle_of p pl s) ≡ names_of p pl
  unfolding bundle_of
  bundle_names-are =
      let modules = nodes-names 0 pl.nodes ∙ chosen-all (on_some 0 (length pl.nodes)) 0 p.modules all-on in
      λ q. record { nodes = node_names-are 0 pl.nodes q; modules = modules q }
