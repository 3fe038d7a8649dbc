-- What holds of each receive entry of a stub, and steps that change each entry by itself.
use Rattle.std.proofs.Common.{◌≡◌, ℕ, suc, List, [], ◌∷◌, map, Some, refl, ap}
use Rattle.std.specs.Prelude.{slice_get}
use Rattle.tdl_image.specs.declared.stub.Receive.{Receive}
use Rattle.tdl_verify.specs.States.{EntryNow}
use Rattle.tdl_verify.specs.Bus.{Flight, received, entries_received}
use Rattle.tdl_base.proofs.SideBySide.{zip-right}
use Rattle.tdl_gen.proofs.StubMoves.{left_at}
use Rattle.tdl_meaning.specs.AllItems.{AllEntries}

-- each entry's state changed by itself
abbrev pub each_entry : (Receive → EntryNow → EntryNow) → List Receive → List EntryNow → List EntryNow
each_entry f (e ∷ es) (now ∷ more) = f e now ∷ each_entry f es more
each_entry f es more = more

-- what holds of each entry, where a step leads from one fact to the other
pub entries_each : (P Q : Receive → EntryNow → Type 0) (f : Receive → EntryNow → EntryNow) (es : List Receive)
    (nows : List EntryNow) →
    ((n : ℕ) (e : Receive) (now : EntryNow) → slice_get es n ≡ Some e → P e now → Q e (f e now)) →
    AllEntries P es nows → AllEntries Q es (each_entry f es nows)
entries_each P Q f [] [] step ps = tt
entries_each P Q f [] (now ∷ more) step ps = absurd ps
entries_each P Q f (e ∷ es) [] step ps = absurd ps
entries_each P Q f (e ∷ es) (now ∷ more) step ps = (
  step 0 e now refl ps.0,
  entries_each P Q f es more (λ n a b at. step (suc n) a b at) ps.1,
)

-- what holds of each entry, where one fact says the other
pub entries_map : (P Q : Receive → EntryNow → Type 0) → ((e : Receive) (now : EntryNow) → P e now → Q e now) →
    (es : List Receive) (nows : List EntryNow) → AllEntries P es nows → AllEntries Q es nows
entries_map P Q f [] [] ps = tt
entries_map P Q f [] (now ∷ more) ps = absurd ps
entries_map P Q f (e ∷ es) [] ps = absurd ps
entries_map P Q f (e ∷ es) (now ∷ more) ps = (f e now ps.0, entries_map P Q f es more ps.1)

-- the state of entry e at place n, of which P holds
pub record EntryAt (P : Receive → EntryNow → Type 0) (n : ℕ) (e : Receive) (nows : List EntryNow) : Type 0 where
  pub now : EntryNow
  pub at : slice_get nows n ≡ Some now
  pub holds : P e now

-- each entry has a state at its place
pub entry_at : (P : Receive → EntryNow → Type 0) (es : List Receive) (nows : List EntryNow) → AllEntries P es nows →
    (n : ℕ) (e : Receive) → slice_get es n ≡ Some e → EntryAt P n e nows
entry_at P es nows ps n e at =
    let r = zip-right P es nows ps n e at in
    record { now = r.item; at = r.at; holds = r.holds }

-- what phase 1 leaves of the entries, entry by entry
pub left-each : (P : Receive → EntryNow → Type 0) (x : ℕ) (es : List Receive) (nows : List EntryNow) →
    AllEntries P es nows → map (left_at x) nows ≡ each_entry (λ e now. left_at x now) es nows
left-each P x [] [] ps = refl
left-each P x [] (now ∷ more) ps = absurd ps
left-each P x (e ∷ es) [] ps = absurd ps
left-each P x (e ∷ es) (now ∷ more) ps = ap (λ l. left_at x now ∷ l) (left-each P x es more ps.1)

-- what a frame leaves of the entries, entry by entry
pub received-each : (x : ℕ) (f : Flight) (es : List Receive) (nows : List EntryNow) →
    entries_received x f.frame es nows ≡ each_entry (received x f.frame) es nows
received-each x f [] nows = refl
received-each x f (e ∷ es) [] = refl
received-each x f (e ∷ es) (now ∷ more) = ap (λ l. received x f.frame e now ∷ l) (received-each x f es more)
