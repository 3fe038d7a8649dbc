-- Delivery on all nodes, part by part; and the turns of all nodes, from those of each.
use Rattle.std.proofs.Common.{◌≡◌, ℕ, suc, ◌+◌, List, [], ◌∷◌, ◌++◌, map, Bool, true, false, ◌==◌, Option, Some, None, refl, ap, ap₂, sym, ◌∙◌, subst, arith}
use Rattle.std.specs.Prelude.{slice_get, if◌then◌else◌}
use Rattle.std.proofs.lemmas.List.{map-append, map-id}
use Rattle.tdl_trace.specs.Shown.{Shown}
use Rattle.tdl_image.specs.declared.stub.Receive.{Receive}
use Rattle.tdl_image.specs.declared.stub.Stub.{Stub}
use Rattle.tdl_base.specs.Sensed.{Sensed}
use Rattle.tdl_verify.specs.States.{EntryNow, StubNow, Part, NodeNow, Times}
use Rattle.tdl_verify.specs.Turns.{Spot, Turned, turn}
use Rattle.tdl_verify.specs.Bus.{Flight, entries_received, part_received, node_received}
use Rattle.tdl_verify.specs.Runs.{Lost, Turns, landed, and_turn, all_turns}
use Rattle.tdl_meaning.proofs.EntryLists.{each_entry, received-each}
use Rattle.tdl_meaning.proofs.EntriesDelivered.{landed_by, entry_landed}
use Rattle.tdl_verify.proofs.NodeSends.{all_parts}
use Rattle.tdl_base.proofs.SideBySide.{Zip, zip-append}

-- a part after delivery at x
abbrev pub part_landed : ℕ → Lost → Option Flight → Part → Part
part_landed x lost flight (Part.Host h s) = Part.Host h s
part_landed x lost flight (Part.Outside q t) = Part.Outside q
    (record t { entries = each_entry (entry_landed x lost q.number.0 flight) q.entries t.entries })

-- a step that leaves each entry leaves all
each-same : (es : List Receive) (nows : List EntryNow) → each_entry (λ e now. now) es nows ≡ nows
each-same [] nows = refl
each-same (e ∷ es) [] = refl
each-same (e ∷ es) (now ∷ more) = ap (λ l. now ∷ l) (each-same es more)

-- delivery from a free bus leaves each part
same_part : (q : Part) → part_landed 0 (λ a b c. false) None q ≡ q
same_part (Part.Host h s) = refl
same_part (Part.Outside q t) =
    ap (λ es. Part.Outside q (record t { entries = es })) (each-same q.entries t.entries)

-- to map by two words that agree on each part gives the same
map-same : (f g : Part → Part) → ((q : Part) → f q ≡ g q) → (qs : List Part) → map f qs ≡ map g qs
map-same f g h [] = refl
map-same f g h (q ∷ qs) = ap₂ (λ a b. a ∷ b) (h q) (map-same f g h qs)

-- to map by a word that leaves each part leaves all
map-left : (f : Part → Part) → ((q : Part) → f q ≡ q) → (qs : List Part) → map f qs ≡ qs
map-left f h qs = map-same f (λ q. q) h qs ∙ map-id qs

-- the parts of all nodes after a frame
received-parts : (x : ℕ) (f : Flight) (nodes : List NodeNow) →
    all_parts (map (node_received x f.frame) nodes) ≡ map (part_received x f.frame) (all_parts nodes)
unfolding all_parts
received-parts x f [] = refl
received-parts x f (n ∷ more) = ap (λ l. map (part_received x f.frame) n.parts ++ l) (received-parts x f more)
    ∙ sym (map-append (part_received x f.frame) n.parts (all_parts more))

-- a stub after a frame that arrives or not, is lost or not, and is of its module or not
abbrev stub_by : (lands is_lost its : Bool) → ℕ → Flight → Stub → StubNow → Part
stub_by lands is_lost its x f q t =
    Part.Outside q
    (record t { entries = each_entry (λ e now. landed_by lands is_lost its x f e now) q.entries t.entries })

-- a step that leaves each entry leaves the stub
stub-same : (q : Stub) (t : StubNow) →
    Part.Outside q (record t { entries = each_entry (λ e now. now) q.entries t.entries }) ≡ Part.Outside q t
stub-same q t = ap (λ es. Part.Outside q (record t { entries = es })) (each-same q.entries t.entries)

-- a frame that arrives changes each part as delivery does
part-is : (x : ℕ) (lost : Lost) (f : Flight) → (f.until == x) ≡ true → lost f.number f.sent_at f.until ≡ false →
    (q : Part) → part_received x f.frame q ≡ part_landed x lost (Some f) q
part-is x lost f lands kept (Part.Host h s) = refl
part-is x lost f lands kept (Part.Outside q t) = by_owner (q.number.0 == f.frame.owner)
    ∙ sym (ap₂ (λ a b. stub_by a b (q.number.0 == f.frame.owner) x f q t) lands kept)
  where
    by_owner : (c : Bool) →
        (if c then Part.Outside q (record t { entries = entries_received x f.frame q.entries t.entries })
        else Part.Outside q t)
        ≡ stub_by true false c x f q t
    by_owner true = ap (λ es. Part.Outside q (record t { entries = es })) (received-each x f q.entries t.entries)
    by_owner false = sym (stub-same q t)

-- a frame that does not arrive at x leaves each part
stays-late : (x : ℕ) (lost : Lost) (f : Flight) → (f.until == x) ≡ false → (q : Part) →
    part_landed x lost (Some f) q ≡ q
stays-late x lost f late (Part.Host h s) = refl
stays-late x lost f late (Part.Outside q t) =
    ap (λ a. stub_by a (lost f.number f.sent_at f.until) (q.number.0 == f.frame.owner) x f q t) late ∙ stub-same q t

-- a frame that is lost leaves each part
stays-lost : (x : ℕ) (lost : Lost) (f : Flight) → (f.until == x) ≡ true → lost f.number f.sent_at f.until ≡ true →
    (q : Part) → part_landed x lost (Some f) q ≡ q
stays-lost x lost f lands is_lost (Part.Host h s) = refl
stays-lost x lost f lands is_lost (Part.Outside q t) =
    ap₂ (λ a b. stub_by a b (q.number.0 == f.frame.owner) x f q t) lands is_lost ∙ stub-same q t

-- delivery on all nodes is delivery part by part
pub landed-parts : (x : ℕ) (lost : Lost) (flight : Option Flight) (nodes : List NodeNow) →
    all_parts (landed x lost nodes flight) ≡ map (part_landed x lost flight) (all_parts nodes)
landed-parts x lost None nodes = sym (map-left (part_landed x lost None) same_part (all_parts nodes))
landed-parts x lost (Some f) nodes = by_test (f.until == x) refl (lost f.number f.sent_at f.until) refl
  where
    by_test : (a : Bool) → (f.until == x) ≡ a → (b : Bool) → lost f.number f.sent_at f.until ≡ b →
        all_parts (if a then (if b then nodes else map (node_received x f.frame) nodes) else nodes)
        ≡ map (part_landed x lost (Some f)) (all_parts nodes)
    by_test false e b g = sym (map-left (part_landed x lost (Some f)) (stays-late x lost f e) (all_parts nodes))
    by_test true e true g = sym (map-left (part_landed x lost (Some f)) (stays-lost x lost f e g) (all_parts nodes))
    by_test true e false g = received-parts x f nodes ∙ map-same (part_received x f.frame) (part_landed x lost (Some f))
        (part-is x lost f e g) (all_parts nodes)

-- ---- turns

module _ (x : ℕ) (sensed : Sensed) (times : Times) (R : Part → Part → Type 0) where
  -- the turn of a node ends, and R joins each part before it to the part after it
  pub record NodeStep (node : ℕ) (n : NodeNow) : Type 0 where
    pub parts : List Part
    pub rows : List Shown
    pub is : turn n.declared x node sensed times Spot.Between n.parts [] ≡ Turned.Finished parts rows
    pub stepped : Zip R n.parts parts

  -- the turns of the nodes from number k on end, and R joins each part before them to the part after them
  pub record AllSteps (k : ℕ) (nodes : List NodeNow) : Type 0 where
    pub after : List NodeNow
    pub rows : List Shown
    pub is : all_turns x sensed times k nodes ≡ Turns.All after rows
    pub stepped : Zip R (all_parts nodes) (all_parts after)

  -- the turns of all nodes end where that of each does
  pub all_steps : (k : ℕ) (nodes : List NodeNow) → ((j : ℕ) (n : NodeNow) → slice_get nodes j ≡ Some n →
      NodeStep (k + j) n) → AllSteps k nodes
  unfolding all_parts
  all_steps k [] step = record { after = []; rows = []; is = refl; stepped = tt }
  all_steps k (n ∷ more) step =
      let z : k + 0 ≡ k = omega arith in
      let a : NodeStep k n = subst (λ j. NodeStep j n) z (step 0 n refl) in
      let r : AllSteps (suc k) more = all_steps (suc k) more (λ j m at.
      let s : k + suc j ≡ suc k + j = omega arith in
      subst (λ i. NodeStep i m) s (step (suc j) m at)) in
      record {
        after = record n { parts = a.parts } ∷ r.after;
        rows = a.rows ++ r.rows;
        is = ap₂ (λ t rest. and_turn k n t rest) a.is r.is;
        stepped = zip-append R n.parts (all_parts more) a.parts (all_parts r.after) a.stepped r.stepped;
      }
