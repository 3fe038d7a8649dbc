-- What leaves and what arrives: the mode of a frame, and when and with what an entry is due.
use Rattle.std.proofs.Common.{◌≡◌, ℕ, zero, suc, ◌+◌, List, [], ◌∷◌, map, length, Bool, true, false, ◌&&◌, ◌==◌, Option, Some, None, filter, refl, ap, sym, ◌∙◌, inl, inr}
use Rattle.std.specs.Prelude.{◌⊎◌, slice_get, find, option_map, unwrap_or, if◌then◌else◌}
use Rattle.std.proofs.lemmas.Bool.{eqb-true, eq-eqb, and_parts}
use Rattle.tdl_frame.specs.Frames.{Member, Frame}
use Rattle.tdl_image.specs.declared.hosted.Hosted.{Hosted}
use Rattle.tdl_image.specs.declared.hosted.ImageWindow.{ImageWindow}
use Rattle.tdl_image.specs.declared.stub.Stub.{Stub}
use Rattle.tdl_image.specs.declared.stub.Receive.{Receive}
use Rattle.tdl_verify.specs.States.{HostNow, EntryNow, StubNow, Part, part_outputs}
use Rattle.tdl_verify.specs.Turns.{is_at, is_mode, replaced_in}
use Rattle.tdl_verify.specs.Bus.{Start, starts, starts_at, member_of, start_by, start_of, executed_member, received, entries_received, part_received}
use Rattle.tdl_verify.specs.Laws.{IsFrameOf, NoneExecuted, IsForEntry, TakesEntry}
use Rattle.tdl_verify.proofs.LiveWindows.{mode-is}
use Rattle.tdl_verify.proofs.Replaced.{is_numbered, replaced-same, replaced-other, took-entry}

module _ (x : ℕ) (h : Hosted) (s : HostNow) (frame : Frame) (until : ℕ) where
  -- the frame that a window of the module's mode sends is of that mode
  of-window : (w : ImageWindow) → s.mode ≡ Some w.mode → (m : Option Member) →
      Some (start_by h s w m) ≡ Some (Start.Sends frame until) → IsFrameOf h s frame
  of-window w mode None e = absurd (cc e)
  of-window w mode (Some m) e =
      let same : record { owner = h.number.0; mode = w.mode; members = m ∷ [] } ≡ frame = cc e in
      record {
        owner = ap (λ (f : Frame). f.owner) (sym same);
        mode = mode ∙ ap (λ (f : Frame). Some f.mode) same;
      }

  -- a frame of some windows is of the mode that the module is in
  of-windows : (ws : List ImageWindow) (i : ℕ) →
      slice_get (map (start_of h s) (filter (starts_at x s) ws)) i ≡ Some (Start.Sends frame until) →
      IsFrameOf h s frame
  of-windows [] i e = absurd (cc e)
  of-windows (w ∷ ws) i e = by_test (of-windows ws) (starts_at x s w) refl i e
    where
      by_test : ((i : ℕ) → slice_get (map (start_of h s) (filter (starts_at x s) ws)) i
          ≡ Some (Start.Sends frame until) → IsFrameOf h s frame) →
          (b : Bool) → starts_at x s w ≡ b → (i : ℕ) →
          slice_get (map (start_of h s) (if b then w ∷ filter (starts_at x s) ws else filter (starts_at x s) ws)) i
          ≡ Some (Start.Sends frame until) → IsFrameOf h s frame
      by_test rest true q zero e =
          of-window w (mode-is w.mode s.mode (and_parts (is_mode w.mode s.mode) _ (and_parts w.bus _ q).1).0)
          (member_of h s w) e
      by_test rest true q (suc i) e = rest i e
      by_test rest false q i e = rest i e

  -- a frame that starts is of the mode that its module is in
  pub starts-in_mode : (i : ℕ) → slice_get (starts x (Part.Host h s)) i ≡ Some (Start.Sends frame until) →
      IsFrameOf h s frame
  starts-in_mode i e = of-windows h.windows i e

-- ---- arrival

-- a frame that arrives leaves what is seen of a part
pub received-outputs : (x : ℕ) (f : Frame) (q : Part) (t : ℕ) →
    part_outputs (part_received x f q) t ≡ part_outputs q t
received-outputs x f (Part.Host h s) t = refl
received-outputs x f (Part.Outside p s) t = by_test (p.number.0 == f.owner)
  where
    by_test : (b : Bool) →
        part_outputs (if b then Part.Outside p (record s { entries = entries_received x f p.entries s.entries })
        else Part.Outside p s) t ≡ part_outputs (Part.Outside p s) t
    by_test true = refl
    by_test false = refl

-- an entry that is due was due, or its frame arrived so much earlier
pub due-after : (x y : ℕ) (f : Frame) (e : Receive) (now : EntryNow) → is_at y (received x f e now).due ≡ true →
    (is_at y now.due ≡ true) ⊎ (x + e.delta ≡ y)
due-after x y f e now h = by_member (executed_member f e) h
  where
    by_member : (o : Option Member) → is_at y (unwrap_or (option_map (λ (m : Member).
        record { copy = m.values; due = Some (x + e.delta) }) o) now).due ≡ true →
        (is_at y now.due ≡ true) ⊎ (x + e.delta ≡ y)
    by_member None h = inl h
    by_member (Some m) h = inr (eqb-true (x + e.delta) y h)

-- no member that was not executed is found
none-found : (e : Receive) (ms : List Member) →
    ((k : ℕ) (m : Member) → slice_get ms k ≡ Some m → m.executed ≡ false) →
    find (λ (m : Member). m.executed && m.invocation == e.invocation) ms ≡ None
none-found e [] none = refl
none-found e (m ∷ ms) none =
    let absent = none 0 m refl in rw absent (none-found e ms (λ k n at. none (suc k) n at))

-- a frame of no executed job leaves an entry
pub none-arrives : (x : ℕ) (f : Frame) (e : Receive) (now : EntryNow) → NoneExecuted f → received x f e now ≡ now
none-arrives x f e now none =
    ap (λ o. unwrap_or (option_map (λ (m : Member). record { copy = m.values; due = Some (x + e.delta) }) o) now)
    (by_mode (f.mode == e.mode))
  where
    by_mode : (b : Bool) →
        (if b then find (λ (m : Member). m.executed && m.invocation == e.invocation) f.members else None) ≡ None
    by_mode true = none-found e f.members none
    by_mode false = refl

-- a frame of an executed job of the entry puts its outputs there
pub job-arrives : (x : ℕ) (f : Frame) (e : Receive) (m : Member) (now : EntryNow) → IsForEntry f e m →
    (received x f e now).copy ≡ m.values
job-arrives x f e m now is =
    let mode = eq-eqb f.mode e.mode is.mode in
    let invocation = eq-eqb m.invocation e.invocation is.invocation in
    let executed = is.executed in
    let members = is.members in
    rw (mode, members, executed, invocation) refl

-- and the entry is due when its time has passed
pub job-due : (x : ℕ) (f : Frame) (e : Receive) (m : Member) (now : EntryNow) → IsForEntry f e m →
    is_at (x + e.delta) (received x f e now).due ≡ true
job-due x f e m now is =
    let mode = eq-eqb f.mode e.mode is.mode in
    let invocation = eq-eqb m.invocation e.invocation is.invocation in
    let executed = is.executed in
    let members = is.members in
    let self = eq-eqb (x + e.delta) (x + e.delta) refl in
    rw (mode, members, executed, invocation) self

-- an entry that is there is taken
pub entry-taken : (x node : ℕ) (p : Stub) (s : StubNow) (pc r : ℕ) (e : Receive) (now : EntryNow) →
    slice_get p.entries r ≡ Some e → slice_get s.entries r ≡ Some now → length p.tasks ≡ length s.outputs →
    is_numbered e.task p.tasks ≡ true → TakesEntry x node p s pc r e now
entry-taken x node p s pc r e now entry at size there = record {
  after = record s { outputs = replaced_in e.task now.copy p.tasks s.outputs };
  acts = took-entry x node p s pc r e now entry at;
  same = replaced-same e.task now.copy p.tasks s.outputs size there;
  others = λ t other. replaced-other t e.task now.copy (λ q. other (sym q)) p.tasks s.outputs;
}
