-- What stays of a node from instant to instant: the tables and the order of its parts, and a declared count that is
-- enough for them.
use Rattle.std.proofs.Common.{◌≡◌, ℕ, suc, ◌+◌, ◌≤◌, List, [], ◌∷◌, map, length, Bool, true, false, ◌==◌, Option, Some, None, refl, ap, ap₂, sym, ◌∙◌, subst, arith}
use Rattle.std.specs.Prelude.{if◌then◌else◌}
use Rattle.std.proofs.lemmas.List.{length-map}
use Rattle.tdl_frame.specs.Frames.{Frame}
use Rattle.tdl_image.specs.declared.stub.Receive.{Receive}
use Rattle.tdl_verify.specs.States.{EntryNow, Part, NodeNow, part_number}
use Rattle.tdl_verify.specs.Micros.{closed}
use Rattle.tdl_verify.specs.Bus.{Flight, entries_received, part_received, node_received}
use Rattle.tdl_verify.specs.Runs.{Lost, landed}
use Rattle.tdl_meaning.specs.Accepted.{Accepted}
use Rattle.tdl_meaning.specs.NodeShape.{Ascends, first_part, Shape, share, shares, NodeShape, Shapes}
use Rattle.tdl_meaning.specs.AllItems.{Every}

-- a frame leaves the number of a stub's entries
received-size : (x : ℕ) (f : Frame) (es : List Receive) (nows : List EntryNow) →
    length (entries_received x f es nows) ≡ length nows
received-size x f [] nows = refl
received-size x f (e ∷ es) [] = refl
received-size x f (e ∷ es) (now ∷ more) = ap suc (received-size x f es more)

-- delivery leaves the number of nodes
pub length-landed : (x : ℕ) (lost : Lost) (nodes : List NodeNow) (flight : Option Flight) →
    length (landed x lost nodes flight) ≡ length nodes
length-landed x lost nodes None = refl
length-landed x lost nodes (Some f) = by_test (f.until == x) (lost f.number f.sent_at f.until)
  where
    by_test : (a b : Bool) →
        length (if a then (if b then nodes else map (node_received x f.frame) nodes) else nodes) ≡ length nodes
    by_test true true = refl
    by_test true false = length-map nodes (node_received x f.frame)
    by_test false b = refl

module _ (given : Accepted) where
  -- part r is part q, but for its state
  pub record Same (j : ℕ) (q : Part) (g : Shape given j q) (r : Part) : Type 0 where
    pub shape : Shape given j r
    pub number : part_number r ≡ part_number q
    pub count : share given j r shape ≡ share given j q g
    pub first : first_part r ≡ first_part q

  -- the parts rs are the parts qs, but for their states
  abbrev pub AllSame : (j : ℕ) (qs : List Part) → Every (Shape given j) qs → List Part → Type 0
  AllSame j [] gs [] = Unit {0}
  AllSame j (q ∷ qs) gs (r ∷ rs) = Same j q gs.0 r × AllSame j qs gs.1 rs
  AllSame j qs gs rs = ⊥

  -- what stays of such parts
  record Kept (j k : ℕ) (qs : List Part) (gs : Every (Shape given j) qs) (rs : List Part) : Type 0 where
    each : Every (Shape given j) rs
    up : Ascends k rs
    same : shares given j rs each ≡ shares given j qs gs
    firsts : map first_part rs ≡ map first_part qs

  -- such parts keep all of it
  kept : (j k : ℕ) (qs : List Part) (gs : Every (Shape given j) qs) (rs : List Part) → Ascends k qs →
      AllSame j qs gs rs → Kept j k qs gs rs
  kept j k [] gs [] up ss = record { each = tt; up = tt; same = refl; firsts = refl }
  kept j k [] gs (r ∷ rs) up ss = absurd ss
  kept j k (q ∷ qs) gs [] up ss = absurd ss
  kept j k (q ∷ qs) gs (r ∷ rs) up ss =
      let s = ss.0 in
      let n : part_number q ≡ part_number r = sym s.number in
      let rest = kept j (suc (part_number q)) qs gs.1 rs up.1 ss.1 in
      record {
        each = (s.shape, rest.each);
        up = (subst (λ c. k ≤ c) n up.0, subst (λ c. Ascends (suc c) rs) n rest.up);
        same = ap₂ (λ a b. a + b) s.count rest.same;
        firsts = ap₂ (λ a b. a ∷ b) s.first rest.firsts;
      }

  -- a node with such parts keeps its shape
  pub node_kept : (j : ℕ) (n : NodeNow) (g : NodeShape given j n) (rs : List Part) → AllSame j n.parts g.each rs →
      NodeShape given j (record n { parts = rs })
  node_kept j n g rs ss =
      let k = kept j 0 n.parts g.each rs g.up ss in
      let same = k.same in
      let enough = g.enough in
      record { each = k.each; up = k.up; enough = omega (arith, same, enough); order = k.firsts ∙ g.order }

  -- the end of a stretch leaves the shapes
  pub shapes-closed : (horizon x k : ℕ) (nodes : List NodeNow) → Shapes given k nodes →
      Shapes given k (map (closed horizon x) nodes)
  shapes-closed horizon x k [] gs = tt
  shapes-closed horizon x k (n ∷ more) gs =
      let g = gs.0 in (
        record { each = g.each; up = g.up; enough = g.enough; order = g.order },
        shapes-closed horizon x (suc k) more gs.1,
      )

  -- a frame leaves a part, but for its state
  part-same : (x j : ℕ) (f : Frame) (q : Part) (g : Shape given j q) → Same j q g (part_received x f q)
  part-same x j f (Part.Host h s) g = record { shape = g; number = refl; count = refl; first = refl }
  part-same x j f (Part.Outside q t) g = by_test (q.number.0 == f.owner)
    where
      by_test : (b : Bool) → Same j (Part.Outside q t) g (if b then
          Part.Outside q (record t { entries = entries_received x f q.entries t.entries }) else Part.Outside q t)
      by_test true = record {
        shape = record {
          own = g.own;
          size = g.size ∙ sym (received-size x f q.entries t.entries);
          outputs = g.outputs;
        };
        number = refl;
        count = refl;
        first = refl;
      }
      by_test false = record { shape = g; number = refl; count = refl; first = refl }

  -- a frame leaves all parts, but for their states
  parts-same : (x j : ℕ) (f : Frame) (qs : List Part) (gs : Every (Shape given j) qs) →
      AllSame j qs gs (map (part_received x f) qs)
  parts-same x j f [] gs = tt
  parts-same x j f (q ∷ qs) gs = (part-same x j f q gs.0, parts-same x j f qs gs.1)

  -- a frame leaves the shapes of all nodes
  shapes-received : (x k : ℕ) (f : Frame) (nodes : List NodeNow) → Shapes given k nodes →
      Shapes given k (map (node_received x f) nodes)
  shapes-received x k f [] gs = tt
  shapes-received x k f (n ∷ more) gs = (
    node_kept k n gs.0 (map (part_received x f) n.parts) (parts-same x k f n.parts gs.0.each),
    shapes-received x (suc k) f more gs.1,
  )

  -- delivery leaves the shapes of all nodes
  pub shapes-landed : (x : ℕ) (lost : Lost) (nodes : List NodeNow) (flight : Option Flight) → Shapes given 0 nodes →
      Shapes given 0 (landed x lost nodes flight)
  shapes-landed x lost nodes None gs = gs
  shapes-landed x lost nodes (Some f) gs = by_test (f.until == x) (lost f.number f.sent_at f.until)
    where
      by_test : (a b : Bool) →
          Shapes given 0 (if a then (if b then nodes else map (node_received x f.frame) nodes) else nodes)
      by_test true true = gs
      by_test true false = shapes-received x 0 f.frame nodes gs
      by_test false b = gs
