-- The listed times of a task, entry by entry.
use Rattle.std.proofs.Common.{◌≡◌, ℕ, zero, suc, ◌+◌, ◌-◌, not, ◌<◌, ◌≤◌, Bool, true, false, ◌==◌, ◌&&◌, List, [], ◌∷◌, ◌++◌, length, slice_get, unwrap_or, Some, refl, ap, sym, ◌∙◌, arith}
use Rattle.std.specs.Prelude.{if◌then◌else◌}
use Rattle.std.specs.List.{All}
use Rattle.std.proofs.lemmas.List.Elements.{All-nil, All-append, All-head, All-tail}
use Rattle.tdl_scen.specs.declared.entries.TaskTimes.{TaskTimes}
use Rattle.tdl_scen.specs.Scenario.{times_of, time_of}
use Rattle.tdl_host.specs.Lasting.{AreLasting}

-- a time above 0
abbrev IsLasting : ℕ → Type 0
IsLasting time = 0 < time

-- an item of the first of two lists
item-first : {A : Type 0} (xs ys : List A) (k : ℕ) → k < length xs → slice_get (xs ++ ys) k ≡ slice_get xs k
item-first [] ys k lt = absurd (omega arith)
item-first (x ∷ xs) ys zero lt = refl
item-first (x ∷ xs) ys (suc k) lt = item-first xs ys k (omega arith)

-- an item past the first of two lists
item-second : {A : Type 0} (xs ys : List A) (k j : ℕ) → k ≡ length xs + j →
    slice_get (xs ++ ys) k ≡ slice_get ys j
item-second [] ys k j e = let same : k ≡ j = omega arith in ap (slice_get ys) same
item-second (x ∷ xs) ys zero j e = absurd (omega arith)
item-second (x ∷ xs) ys (suc k) j e = item-second xs ys k j (omega arith)

-- two tests that are not reversed to false hold
pub both-hold : (p q : Bool) → false ≡ not p → false ≡ not q → (p && q) ≡ true
both-hold true true e f = refl
both-hold true false e f = absurd cc
both-hold false q e f = absurd cc

-- the next time of a task is in the entry that is first of those that are left
pub time-found : (entry : TaskTimes) (more times : List TaskTimes) (worst m t left k time : ℕ) →
    (entry.module.0 == m && entry.task.0 == t) ≡ true → slice_get entry.times left ≡ Some time →
    left < length entry.times → slice_get (times_of (entry ∷ more) m t) left ≡ slice_get (times_of times m t) k →
    time ≡ time_of times worst m t (suc k)
time-found entry more times worst m t left k time own at lt same =
    let here : slice_get (times_of times m t) k ≡ Some time =
    sym same
    ∙ rw own (item-first entry.times (times_of more m t) left lt)
    ∙ at in
    rw here refl

-- its times are over
pub time-past : (entry : TaskTimes) (more : List TaskTimes) (m t left : ℕ) →
    (entry.module.0 == m && entry.task.0 == t) ≡ true → length entry.times ≤ left →
    slice_get (times_of (entry ∷ more) m t) left ≡ slice_get (times_of more m t) (left - length entry.times)
time-past entry more m t left own le =
    rw own (item-second entry.times (times_of more m t) left (left - length entry.times) (omega arith))

-- times that are taken or left out stay above 0
lasting-if : (taken : Bool) (times : List ℕ) → All IsLasting times → All IsLasting (if taken then times else [])
lasting-if true times some = some
lasting-if false times some = All-nil IsLasting

-- the listed times of a task are above 0
times-lasting : (times : List TaskTimes) (m t : ℕ) → AreLasting times → All IsLasting (times_of times m t)
times-lasting [] m t some = All-nil IsLasting
times-lasting (entry ∷ more) m t some =
    All-append IsLasting (if entry.module.0 == m && entry.task.0 == t then entry.times else []) (times_of more m t)
    (lasting-if (entry.module.0 == m && entry.task.0 == t) entry.times
    (All-head (λ (own : TaskTimes). All IsLasting own.times) entry more some))
    (times-lasting more m t (All-tail (λ (own : TaskTimes). All IsLasting own.times) entry more some))

-- a time that is in place, or the worst case
lasting-at : (times : List ℕ) (k worst : ℕ) → All IsLasting times → 0 < worst → 0 < unwrap_or (slice_get times k) worst
lasting-at [] k worst some lt = lt
lasting-at (time ∷ more) zero worst some lt = All-head IsLasting time more some
lasting-at (time ∷ more) (suc k) worst some lt = lasting-at more k worst (All-tail IsLasting time more some) lt

-- each job takes some time
pub time-lasts : (times : List TaskTimes) (worst m t k : ℕ) → AreLasting times → 0 < worst →
    0 < time_of times worst m t (suc k)
time-lasts times worst m t k some lt = lasting-at (times_of times m t) k worst (times-lasting times m t some) lt
