-- Each module is hosted once among all parts, and somewhere.
use Rattle.std.proofs.Common.{◌≡◌, ℕ, zero, suc, ◌+◌, ◌<◌, List, [], ◌∷◌, ◌++◌, true, Option, Some, None, refl, ap, sym, ◌∙◌, subst, arith}
use Rattle.std.specs.Prelude.{slice_get, unwrap_or, option_map, if◌then◌else◌}
use Rattle.std.proofs.lemmas.Option.{slice_get-map, slice_get_within, same_Some}
use Rattle.tdl_base.specs.Lists.{numbered}
use Rattle.tdl_mode.specs.declared.program.Module.{Module}
use Rattle.tdl_deploy.specs.declared.placement.PlacedNode.{PlacedNode}
use Rattle.tdl_deploy.specs.Placed.{hosts, imports}
use Rattle.tdl_mode.specs.Imports.{is_among}
use Rattle.tdl_image.specs.declared.hosted.Hosted.{Hosted}
use Rattle.tdl_image.specs.declared.bundle.Image.{Image}
use Rattle.tdl_verify.specs.States.{HostNow, Part, NodeNow, host_first, stub_first, node_first}
use Rattle.tdl_gen.specs.Tables.{hosted_of, stub_of}
use Rattle.tdl_gen.specs.Realises.{image_of, part_at}
use Rattle.tdl_gen.proofs.PartOrder.{parts-are}
use Rattle.tdl_verify.proofs.NodeSends.{all_parts}
use Rattle.tdl_base.proofs.ListPlaces.{In, in-flat}
use Rattle.tdl_meaning.proofs.ItemPlaces.{numbered-at, in-joined-at}
use Rattle.tdl_meaning.specs.Accepted.{Accepted}
use Rattle.tdl_meaning.proofs.Every.{all-at, all-of, all-append}
use Rattle.tdl_meaning.specs.NodeShape.{Ascends, Shape, Shapes}
use Rattle.tdl_meaning.specs.AllItems.{Every}
use Rattle.tdl_meaning.specs.SystemStands.{first_nodes}

-- a part that is not the host of module k
abbrev Not : ℕ → Part → Type 0
Not k (Part.Host h s) = h.number.0 ≡ k → ⊥
Not k (Part.Outside q t) = Unit {0}

-- two parts that are not hosts of one module
abbrev NotSame : Part → Part → Type 0
NotSame (Part.Host h s) r = Not h.number.0 r
NotSame (Part.Outside q t) r = Unit {0}

-- no two parts are hosts of one module
abbrev Once : List Part → Type 0
Once [] = Unit {0}
Once (q ∷ qs) = Every (NotSame q) qs × Once qs

-- so at two places there are hosts of two modules
once-place : (qs : List Part) → Once qs → (i j : ℕ) (h h' : Hosted) (s s' : HostNow) → i < j →
    slice_get qs i ≡ Some (Part.Host h s) → slice_get qs j ≡ Some (Part.Host h' s') → h.number.0 ≡ h'.number.0 → ⊥
once-place [] o i j h h' s s' lt ai bj e = absurd (cc ai)
once-place (q ∷ qs) o zero zero h h' s s' lt ai bj e = absurd (omega (arith, lt))
once-place (q ∷ qs) o zero (suc j) h h' s s' lt ai bj e =
    let n : NotSame q (Part.Host h' s') = all-at (NotSame q) qs o.0 j (Part.Host h' s') bj in
    let m : NotSame (Part.Host h s) (Part.Host h' s') =
    subst (λ c. NotSame c (Part.Host h' s')) (same_Some q (Part.Host h s) ai) n in
    m (sym e)
once-place (q ∷ qs) o (suc i) zero h h' s s' lt ai bj e = absurd (omega (arith, lt))
once-place (q ∷ qs) o (suc i) (suc j) h h' s s' lt ai bj e = once-place qs o.1 i j h h' s s' (omega (arith, lt)) ai bj e

-- parts of greater numbers are not the host of module m
above : (k m : ℕ) (qs : List Part) → m < k → Ascends k qs → Every (Not m) qs
above k m [] lt up = tt
above k m (Part.Host h s ∷ qs) lt up =
    let u = up.0 in
    ((λ e. absurd (omega (arith, u, lt, e))), above (suc h.number.0) m qs (omega (arith, u, lt)) up.1)
above k m (Part.Outside q t ∷ qs) lt up = let u = up.0 in (tt, above (suc q.number.0) m qs (omega (arith, u, lt)) up.1)

-- parts whose numbers ascend are hosts of each module once
once-up : (k : ℕ) (qs : List Part) → Ascends k qs → Once qs
once-up k [] up = tt
once-up k (Part.Host h s ∷ qs) up =
    (above (suc h.number.0) h.number.0 qs (omega arith) up.1, once-up (suc h.number.0) qs up.1)
once-up k (Part.Outside q t ∷ qs) up =
    (all-of (NotSame (Part.Outside q t)) qs (λ n r at. tt), once-up (suc q.number.0) qs up.1)

-- so are two lists, where none of the one is of a module of the other
once-append : (xs ys : List Part) → Once xs → Once ys → Every (λ q. Every (NotSame q) ys) xs → Once (xs ++ ys)
once-append [] ys a b c = b
once-append (x ∷ xs) ys a b c = (all-append (NotSame x) xs ys a.0 c.0, once-append xs ys a.1 b c.1)

module _ (given : Accepted) where
  -- a module that an earlier node hosts has no host on a later one
  later : (j k : ℕ) (nodes : List NodeNow) → Shapes given k nodes → j < k → (kk : ℕ) →
      hosts given.placement j kk ≡ true → Every (Not kk) (all_parts nodes)
  unfolding all_parts
  later j k [] gs lt kk h = tt
  later j k (n ∷ more) gs lt kk h = all-append (Not kk) n.parts (all_parts more) (on n.parts gs.0.each)
      (later j (suc k) more gs.1 (omega (arith, lt)) kk h)
    where
      on : (qs : List Part) → Every (Shape given k) qs → Every (Not kk) qs
      on [] g = tt
      on (Part.Host c s ∷ qs) g = (
        (λ e. let q = given.well_placed.once kk j k h (ap (hosts given.placement k) (sym e) ∙ g.0.hosted) in
            absurd (omega (arith, q, lt))),
        on qs g.1,
      )
      on (Part.Outside c t ∷ qs) g = (tt, on qs g.1)

  -- the parts of all nodes are hosts of each module once
  once_all : (k : ℕ) (nodes : List NodeNow) → Shapes given k nodes → Once (all_parts nodes)
  unfolding all_parts
  once_all k [] gs = tt
  once_all k (n ∷ more) gs = once-append n.parts (all_parts more) (once-up 0 n.parts gs.0.up)
      (once_all (suc k) more gs.1) (cross n.parts gs.0.each)
    where
      cross : (qs : List Part) → Every (Shape given k) qs → Every (λ q. Every (NotSame q) (all_parts more)) qs
      cross [] g = tt
      cross (Part.Host h s ∷ qs) g = (later k (suc k) more gs.1 (omega arith) h.number.0 g.0.hosted, cross qs g.1)
      cross (Part.Outside q t ∷ qs) g =
          (all-of (NotSame (Part.Outside q t)) (all_parts more) (λ n r at. tt), cross qs g.1)

  -- no two hosts of one module
  pub hosted_once : (k : ℕ) (nodes : List NodeNow) → Shapes given k nodes →
      (i j : ℕ) (h h' : Hosted) (s s' : HostNow) → i < j → slice_get (all_parts nodes) i ≡ Some (Part.Host h s) →
      slice_get (all_parts nodes) j ≡ Some (Part.Host h' s') → h.number.0 ≡ h'.number.0 → ⊥
  hosted_once k nodes gs = once-place (all_parts nodes) (once_all k nodes gs)

  -- the placed node of number n
  record NodeOf (n : ℕ) : Type 0 where
    node : PlacedNode
    at : slice_get given.placement.nodes n ≡ Some node

  -- what hosts a module is one
  node_of : (n kk : ℕ) → hosts given.placement n kk ≡ true → NodeOf n
  node_of n kk h = by_node (slice_get given.placement.nodes n) refl
    where
      by_node : (o : Option PlacedNode) → slice_get given.placement.nodes n ≡ o → NodeOf n
      by_node None e = absurd (cc (
        sym h,
        ap (λ (o : Option PlacedNode). is_among kk (unwrap_or (option_map (λ n. n.modules) o) [])) e,
      ))
      by_node (Some node) e = record { node = node; at = e }

  -- each module has its host among their parts
  pub hosted_in : (kk : ℕ) (m : Module) → slice_get given.program.modules kk ≡ Some m →
      In (host_first (hosted_of given.schedule kk m)) (all_parts (first_nodes given))
  unfolding all_parts
  hosted_in kk m there =
      let host : Part = host_first (hosted_of given.schedule kk m) in
      let stub : Part = stub_first (stub_of given.program given.placement given.schedule kk m) in
      let image : ℕ → PlacedNode → Image = image_of given.program given.placement given.schedule in
      let part : ℕ → ℕ → Module → List Part = part_at given.program given.placement given.schedule in
      let w = given.well_placed.hosted kk (slice_get_within given.program.modules kk m there) in
      let o = node_of w.0 kk w.1 in
      let z : 0 + kk ≡ kk = omega arith in
      let y : 0 + w.0 ≡ w.0 = omega arith in
      let at : slice_get (first_nodes given) w.0 ≡ Some (node_first (image w.0 o.node)) =
      slice_get-map node_first (numbered 0 image given.placement.nodes) w.0
      ∙ ap (option_map node_first) (numbered-at image 0 given.placement.nodes w.0 o.node o.at
      ∙ ap (λ k. Some (image k o.node)) y) in
      let one : In host (part w.0 kk m) =
      subst (λ b. In host (if b then host ∷ [] else
      (if imports given.program given.placement w.0 kk then stub ∷ [] else []))) (sym w.1)
      (record { place = 0; at = refl }) in
      let within : In host (node_first (image w.0 o.node)).parts =
      subst (In host) (sym (parts-are given.program given.placement given.schedule w.0 o.node))
      (in-joined-at (part w.0) 0 given.program.modules kk m host there
      (subst (λ k. In host (part w.0 k m)) (sym z) one)) in
      in-flat (λ (n : NodeNow). n.parts) (first_nodes given) w.0 (node_first (image w.0 o.node)) host at within
