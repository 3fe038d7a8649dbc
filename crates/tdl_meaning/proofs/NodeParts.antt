-- The parts of a node, in the compiler's order: which module each is of, and that each import of a hosted module has
-- one.
use Rattle.tdl_gen.specs.Realises.{part_at}
use Rattle.std.proofs.Common.{◌≡◌, ℕ, zero, suc, ◌+◌, List, [], ◌∷◌, ◌++◌, Bool, true, false, ◌==◌, Option, Some, refl, ap, sym, ◌∙◌, subst, subst₂, inl, inr, arith}
use Rattle.std.specs.Prelude.{◌⊎◌, slice_get, unwrap_or, option_map, if◌then◌else◌}
use Rattle.std.proofs.lemmas.Bool.{eqb-true}
use Rattle.std.proofs.lemmas.Option.{slice_get_within, same_Some}
use Rattle.tdl_base.specs.Lists.{joined, numbered}
use Rattle.tdl_base.specs.declared.numbers.ModuleId.{ModuleId}
use Rattle.tdl_mode.specs.declared.program.Module.{Module}
use Rattle.tdl_deploy.specs.Placed.{hosts, modules_on, imports}
use Rattle.tdl_mode.specs.Imports.{imports_of, is_among}
use Rattle.tdl_image.specs.declared.hosted.Hosted.{Hosted}
use Rattle.tdl_image.specs.declared.stub.Stub.{Stub}
use Rattle.tdl_verify.specs.States.{HostNow, Part, NodeNow, part_number, host_first, stub_first}
use Rattle.tdl_gen.specs.Tables.{hosted_of, stub_of, stub_tasks}
use Rattle.tdl_verify.proofs.NodeSends.{all_parts}
use Rattle.tdl_base.proofs.ListPlaces.{In}
use Rattle.tdl_meaning.proofs.MappedLists.{map-at, map-to}
use Rattle.tdl_meaning.proofs.PartsBeforeZero.{PartAt, parts_at}
use Rattle.tdl_meaning.proofs.ItemPlaces.{item_at, in-joined-at, any-weak}
use Rattle.tdl_meaning.specs.Accepted.{Accepted}
use Rattle.tdl_meaning.proofs.Every.{all-at}
use Rattle.tdl_meaning.specs.NodeShape.{first_part, Ordered, Shape, Shapes}

-- a part of two lists is of the one or of the other
split-at : (xs ys : List Part) (n : ℕ) (q : Part) → slice_get (xs ++ ys) n ≡ Some q → In q xs ⊎ In q ys
split-at [] ys n q at = inr (record { place = n; at = at })
split-at (x ∷ xs) ys zero q at = inl (record { place = 0; at = at })
split-at (x ∷ xs) ys (suc n) q at = by_side (split-at xs ys n q at)
  where
    by_side : In q xs ⊎ In q ys → In q (x ∷ xs) ⊎ In q ys
    by_side (inl i) = inl (record { place = suc i.place; at = i.at })
    by_side (inr i) = inr i

-- a part keeps its number
number-first : (q : Part) → part_number (first_part q) ≡ part_number q
number-first (Part.Host h s) = refl
number-first (Part.Outside q t) = refl

module _ (given : Accepted) where
  -- the compiler's parts of a node
  abbrev parts_of : ℕ → List Part
  parts_of j = joined (numbered 0 (part_at given.program given.placement given.schedule j) given.program.modules)

  -- what a hosted module imports is imported on its node
  imported : (j kk i : ℕ) (m : Module) → slice_get given.program.modules kk ≡ Some m →
      hosts given.placement j kk ≡ true → is_among i m.imports ≡ true → imports given.program given.placement j i ≡ true
  imported j kk i m there h among =
      any-weak (λ (d : ModuleId). d.0 == kk) (λ (d : ModuleId). is_among i (imports_of given.program d.0))
      (λ d e. ap (λ k. is_among i (imports_of given.program k)) (eqb-true d.0 kk e)
      ∙ ap (λ (o : Option Module). is_among i (unwrap_or (option_map (λ d. d.imports) o) [])) there ∙ among)
      (modules_on given.placement j) h

  -- a part of a module on a node
  record HasPart (j i : ℕ) : Type 0 where
    item : Part
    within : In item (parts_of j)
    number : part_number item ≡ i

  -- a module that is imported on a node has a part there
  has_part : (j i : ℕ) (e : Module) → slice_get given.program.modules i ≡ Some e →
      imports given.program given.placement j i ≡ true → HasPart j i
  has_part j i e there imp = by_test (hosts given.placement j i) refl
    where
      z : 0 + i ≡ i
      z = omega arith

      host : Part
      host = host_first (hosted_of given.schedule i e)

      stub : Part
      stub = stub_first (stub_of given.program given.placement given.schedule i e)

      within : (q : Part) → In q (part_at given.program given.placement given.schedule j i e) → In q (parts_of j)
      within q one = in-joined-at (part_at given.program given.placement given.schedule j) 0 given.program.modules i e q
          there (subst (λ k. In q (part_at given.program given.placement given.schedule j k e)) (sym z) one)

      by_test : (b : Bool) → hosts given.placement j i ≡ b → HasPart j i
      by_test true h = record {
        item = host;
        within = within host (subst (λ b. In host (if b then host ∷ [] else
            (if imports given.program given.placement j i then stub ∷ [] else []))) (sym h)
            (record { place = 0; at = refl }));
        number = refl;
      }
      by_test false h = record {
        item = stub;
        within = within stub (subst₂ (λ b c. In stub (if b then host ∷ [] else (if c then stub ∷ [] else []))) (sym h)
            (sym imp) (record { place = 0; at = refl }));
        number = refl;
      }

  -- so each import of a hosted module has a part among those of its node
  pub has_import : (j : ℕ) (qs : List Part) → Ordered given j qs → (kk : ℕ) (m : Module) →
      slice_get given.program.modules kk ≡ Some m → hosts given.placement j kk ≡ true → (i : ℕ) →
      is_among i m.imports ≡ true →
      (n : ℕ) × (q : Part) × (slice_get qs n ≡ Some q) × (part_number q ≡ i)
  has_import j qs order kk m there h i among =
      let below = slice_get_within given.program.modules kk m there in
      let before = (given.well_formed.modules kk m there).imports i among in
      let e = item_at given.program.modules i (omega (arith, below, before)) in
      let f = has_part j i e.item e.at (imported j kk i m there h among) in
      let w = map-at first_part qs f.within.place f.item (ap (λ l. slice_get l f.within.place) order ∙ f.within.at) in
      (f.within.place, w.item, w.at, sym (number-first w.item) ∙ ap part_number (sym w.is) ∙ f.number)

  -- each part of a node is, but for its state, one of the compiler's
  pub each_at : (j : ℕ) (qs : List Part) → Ordered given j qs → (n : ℕ) (q : Part) → slice_get qs n ≡ Some q →
      PartAt given j (first_part q)
  each_at j qs order n q at =
      all-at (PartAt given j) (parts_of j)
      (parts_at given j 0 given.program.modules (λ i m e. let z : 0 + i ≡ i = omega arith in
      ap (slice_get given.program.modules) z ∙ e)) n (first_part q)
      (ap (λ l. slice_get l n) (sym order) ∙ map-to first_part qs n q at)

  -- a stub has the public tasks of its module
  abbrev pub TasksOf : Part → Type 0
  TasksOf (Part.Host h s) = Unit {0}
  TasksOf (Part.Outside q t) = (m : Module) → slice_get given.program.modules q.number.0 ≡ Some m →
      q.tasks ≡ stub_tasks m

  -- so has each of the compiler's
  pub tasks_of : (j : ℕ) (q : Part) → PartAt given j (first_part q) → TasksOf q
  tasks_of j (Part.Host h s) a = tt
  tasks_of j (Part.Outside q t) a =
      λ m at. ap (λ (s : Stub). s.tasks) a.tables ∙ ap stub_tasks (same_Some a.definition m (sym a.there ∙ at))

  -- the node of a host
  pub record NodeWith (k : ℕ) (nodes : List NodeNow) (h : Hosted) : Type 0 where
    pub index : ℕ
    pub node : NodeNow
    pub at : slice_get nodes index ≡ Some node
    pub hosted : hosts given.placement (k + index) h.number.0 ≡ true

  -- each host has a node that hosts its module
  pub node_with : (k : ℕ) (nodes : List NodeNow) → Shapes given k nodes → (n : ℕ) (h : Hosted) (s : HostNow) →
      slice_get (all_parts nodes) n ≡ Some (Part.Host h s) → NodeWith k nodes h
  unfolding all_parts
  node_with k [] gs n h s at = absurd (cc at)
  node_with k (m ∷ more) gs n h s at = by_side (λ i. node_with (suc k) more gs.1 i h s)
      (split-at m.parts (all_parts more) n (Part.Host h s) at)
    where
      by_side : ((i : ℕ) → slice_get (all_parts more) i ≡ Some (Part.Host h s) → NodeWith (suc k) more h) →
          In (Part.Host h s) m.parts ⊎ In (Part.Host h s) (all_parts more) → NodeWith k (m ∷ more) h
      by_side rest (inl i) =
          let z : k ≡ k + 0 = omega arith in
          let g = all-at (Shape given k) m.parts gs.0.each i.place (Part.Host h s) i.at in
          record {
            index = 0;
            node = m;
            at = refl;
            hosted = ap (λ c. hosts given.placement c h.number.0) (sym z) ∙ g.hosted;
          }
      by_side rest (inr i) =
          let r = rest i.place i.at in
          let z : suc k + r.index ≡ k + suc r.index = omega arith in
          record {
            index = suc r.index;
            node = r.node;
            at = r.at;
            hosted = ap (λ c. hosts given.placement c h.number.0) (sym z) ∙ r.hosted;
          }
