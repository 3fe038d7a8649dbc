-- The sends of all nodes, where no frame starts or one does while none is in flight.
use Rattle.std.proofs.Common.{◌≡◌, ℕ, suc, List, [], ◌∷◌, ◌++◌, filter, Option, Some, None, refl, ap, ap₂, sym, ◌∙◌}
use Rattle.std.specs.Prelude.{flat_map}
use Rattle.std.proofs.lemmas.Grind.{flat_map-append}
use Rattle.tdl_trace.specs.Shown.{Shown}
use Rattle.tdl_frame.specs.Frames.{Frame, frame_bytes}
unfoldable pub use Rattle.tdl_verify.specs.States.{all_parts}
use Rattle.tdl_verify.specs.States.{NodeNow, Part}
use Rattle.tdl_verify.specs.Bus.{Flight, Start, starts, one_start, node_start}
use Rattle.tdl_verify.specs.Runs.{Sending, Sends, frame_invocation, put_on, and_sends, all_sends, is_plain}
use Rattle.tdl_verify.proofs.Sweeps.{append-empty}

-- the starts of all nodes
abbrev pub all_starts : ℕ → List NodeNow → List Start
all_starts x nodes = flat_map (λ (n : NodeNow). flat_map (starts x) n.parts) nodes

-- where no frame starts, nothing is sent and what is in flight stays there
pub sends_none : (x k : ℕ) (nodes : List NodeNow) (flight : Option Flight) (count : ℕ) → all_starts x nodes ≡ [] →
    all_sends x k nodes flight count ≡ Sends.Sent flight count [] []
sends_none x k [] flight count none = refl
sends_none x k (n ∷ more) flight count none =
    let cut = append-empty (flat_map (starts x) n.parts) (all_starts x more) none in
    ap (λ l. and_sends (put_on x k (one_start l) flight count) (λ f c. all_sends x (suc k) more f c)) cut.0
    ∙ ap (λ s. and_sends (Sends.Sent flight count [] []) (λ f c. s)) (sends_none x (suc k) more flight count cut.1)

-- a frame is in flight, is listed as the next sending, and shows no plain row
pub record OneSent (x : ℕ) (frame : Frame) (until count : ℕ) (sends : Sends) : Type 0 where
  pub rows : List Shown
  pub sendings : List Sending
  pub is : sends
      ≡ Sends.Sent (Some (record { number = suc count; sent_at = x; until = until; frame = frame }))
      (suc count) rows sendings
  pub shown : filter is_plain rows ≡ []
  pub listed : sendings ≡ record { number = suc count; at = x; until = until; frame = frame } ∷ []

-- where one frame starts and none is in flight, it is sent
pub sends_one : (x k : ℕ) (nodes : List NodeNow) (count : ℕ) (frame : Frame) (until : ℕ) →
    all_starts x nodes ≡ Start.Sends frame until ∷ [] → OneSent x frame until count (all_sends x k nodes None count)
sends_one x k [] count frame until one = absurd (cc one)
sends_one x k (n ∷ more) count frame until one =
    by_list (flat_map (starts x) n.parts) refl (sends_one x (suc k) more count frame until) one
  where
    flight : Flight
    flight = record { number = suc count; sent_at = x; until = until; frame = frame }

    rest_of : {A : Type 0} → List A → List A
    rest_of [] = []
    rest_of (a ∷ as') = as'

    head_of : Start → List Start → Start
    head_of s [] = s
    head_of s (t ∷ ts) = t

    by_list : (l : List Start) → flat_map (starts x) n.parts ≡ l →
        (all_starts x more ≡ Start.Sends frame until ∷ [] →
        OneSent x frame until count (all_sends x (suc k) more None count)) →
        l ++ all_starts x more ≡ Start.Sends frame until ∷ [] →
        OneSent x frame until count (and_sends (put_on x k (node_start x n) None count)
        (λ f c. all_sends x (suc k) more f c))
    by_list [] e rest one =
        let r = rest one in
        record {
          rows = r.rows;
          sendings = r.sendings;
          is = ap (λ l. and_sends (put_on x k (one_start l) None count) (λ f c. all_sends x (suc k) more f c)) e
              ∙ ap (λ s. and_sends (Sends.Sent None count [] []) (λ f c. s)) r.is;
          shown = r.shown;
          listed = r.listed;
        }
    by_list (s ∷ l) e rest one =
        let cut = append-empty l (all_starts x more) (ap rest_of one) in
        let h : s ≡ Start.Sends frame until = ap (head_of s) one in
        record {
          rows = (Shown.Send x k frame.owner frame.mode (frame_invocation frame) (frame_bytes frame) ∷ []) ++ [];
          sendings = (record { number = suc count; at = x; until = until; frame = frame } ∷ []) ++ [];
          is = ap (λ l. and_sends (put_on x k (one_start l) None count) (λ f c. all_sends x (suc k) more f c))
              (e ∙ ap₂ (λ a b. a ∷ b) h cut.0)
              ∙ ap (λ s. and_sends (put_on x k (Start.Sends frame until) None count) (λ f c. s))
              (sends_none x (suc k) more (Some flight) (suc count) cut.1);
          shown = refl;
          listed = refl;
        }

-- the starts of all nodes are those of all parts
pub starts-parts : (x : ℕ) (nodes : List NodeNow) → all_starts x nodes ≡ flat_map (starts x) (all_parts nodes)
unfolding all_parts
starts-parts x [] = refl
starts-parts x (n ∷ more) =
    ap (λ l. flat_map (starts x) n.parts ++ l) (starts-parts x more)
    ∙ sym (flat_map-append (starts x) n.parts (all_parts more))
