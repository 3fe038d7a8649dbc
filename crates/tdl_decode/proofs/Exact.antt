-- Reading that is exactly a grammar, and the steps that carry this from the parts to what is made of them.
use Rattle.std.proofs.Common.{◌≡◌, ℕ, ◌+◌, ◌≤◌, Bool, true, false, List, ◌++◌, length, get_or, Result, Ok, Err, inl, inr, refl, sym, ap, subst, ◌∙◌, arith, length-append}
use Rattle.std.specs.Prelude.{IfOk, if◌then◌else◌}
use Rattle.std.proofs.lemmas.List.{get_or-append-add}
use Rattle.tdl_base.proofs.NumbersInBytes.{AreBytes}
use Rattle.tdl_decode.specs.Grammar.{Breaks, Grammar, Reads, field, nothing, ◌▷=◌}
use Rattle.tdl_decode.specs.Reading.{Read, ◌>>=◌}

-- reading fails exactly where the bytes break the rule, at one of their places
pub record Faults {Y : Type 0} (breaks : Breaks) (bytes : List ℕ) (read : Result Y (ℕ × ℕ)) : Type 0 where
  pub told : (rule left : ℕ) → read ≡ Err (rule, left) → breaks bytes rule left
  pub within : (rule left : ℕ) → read ≡ Err (rule, left) → left ≤ length bytes
  pub fails : (rule left : ℕ) → breaks bytes rule left → read ≡ Err (rule, left)

-- reading gives what is spelled, gives again what was spelled, and fails where the bytes break a rule
pub record Exact {X : Type 0} (grammar : Grammar X) (reading : List ℕ → Read X) : Type 0 where
  pub sound : (bytes : List ℕ) → AreBytes bytes → IfOk (reading bytes) (λ r. Reads grammar r.0 bytes r.1)
  pub again : (x : X) (rest : List ℕ) → grammar.spellable x → reading (grammar.spelling x ++ rest) ≡ Ok (x, rest)
  pub faults : (bytes : List ℕ) → AreBytes bytes → Faults grammar.breaks bytes (reading bytes)

-- what follows other bytes is bytes
pub bytes_behind : (front rest bytes : List ℕ) → bytes ≡ front ++ rest → AreBytes bytes → AreBytes rest
bytes_behind front rest bytes e small k =
    let at = get_or-append-add front rest k 0 in
    let same = ap (λ b. get_or b (length front + k) 0) e in
    omega (arith, at, same, small (length front + k))

-- what was read, where it is known
sound_at : {X : Type 0} {G : Grammar X} {p : List ℕ → Read X} → Exact G p → (bytes : List ℕ) → AreBytes bytes →
    (read : X × List ℕ) → p bytes ≡ Ok read → Reads G read.0 bytes read.1
sound_at {G = G} exact bytes small read e =
    subst (λ (r : Read _). IfOk r (λ r. Reads G r.0 bytes r.1)) e (exact.sound bytes small)

-- what is lawful at the front is read
read_at : {X : Type 0} {G : Grammar X} {p : List ℕ → Read X} → Exact G p → (bytes : List ℕ) (x : X) (rest : List ℕ) →
    Reads G x bytes rest → p bytes ≡ Ok (x, rest)
read_at {p = p} exact bytes x rest reads = ap p reads.front ∙ exact.again x rest reads.lawful

-- a fault of one thing or of what comes after it
pub faults_then : {X Y : Type 0} {G : Grammar X} {p : List ℕ → Read X} {B : X → Breaks}
    {k : X → List ℕ → Result Y (ℕ × ℕ)} → Exact G p → ((x : X) (rest : List ℕ) → AreBytes rest → Faults (B x) rest (k x rest)) →
    (bytes : List ℕ) → AreBytes bytes → Faults (G ▷= B) bytes (p bytes >>= k)
faults_then {X = X} {Y = Y} {G = G} {p = p} {B = B} {k = k} exact next bytes small = record {
  told = λ rule left e. (by_read (p bytes) refl rule left e).0;
  within = λ rule left e. (by_read (p bytes) refl rule left e).1;
  fails = fails;
}
  where
    by_read : (read : Read X) → p bytes ≡ read → (rule left : ℕ) → (read >>= k) ≡ Err (rule, left) →
        (G ▷= B) bytes rule left × (left ≤ length bytes)
    by_read (Ok read) is rule left e =
        let reads = sound_at exact bytes small read is in
        let after = next read.0 read.1 (bytes_behind _ read.1 bytes reads.front small) in
        let lens = ap length reads.front ∙ length-append (G.spelling read.0) read.1 in
        (inr (read.0, read.1, reads, after.told rule left e), omega (arith, after.within rule left e, lens))
    by_read (Err flaw) is rule left e =
        let same : p bytes ≡ Err (rule, left) = is ∙ cc in
        let faults = exact.faults bytes small in
        (inl (faults.told rule left same), faults.within rule left same)

    fails : (rule left : ℕ) → (G ▷= B) bytes rule left → (p bytes >>= k) ≡ Err (rule, left)
    fails rule left (inl broken) = ap (λ read. read >>= k) ((exact.faults bytes small).fails rule left broken)
    fails rule left (inr later) =
        let reads = later.2 in
        ap (λ read. read >>= k) (read_at exact bytes later.0 later.1 reads)
        ∙ (next later.0 later.1 (bytes_behind _ later.1 bytes reads.front small)).fails rule left later.3

-- nothing more is broken
pub faults_none : {Y : Type 0} (y : Y) (bytes : List ℕ) → Faults nothing bytes (Ok y)
faults_none y bytes = record {
  told = λ rule left e. absurd cc;
  within = λ rule left e. absurd cc;
  fails = λ rule left broken. absurd broken;
}

-- what holds of what is made of one thing and of what comes after it
pub holds_then : {X Y : Type 0} {G : Grammar X} {p : List ℕ → Read X} (Q : List ℕ → Y → Type 0)
    (k : X → List ℕ → Result Y (ℕ × ℕ)) → Exact G p →
    ((x : X) (rest : List ℕ) → G.spellable x → AreBytes rest → IfOk (k x rest) (Q (G.spelling x ++ rest))) →
    (bytes : List ℕ) → AreBytes bytes → IfOk (p bytes >>= k) (Q bytes)
holds_then {X = X} {G = G} {p = p} Q k exact next bytes small = by_read (p bytes) refl
  where
    by_read : (read : Read X) → p bytes ≡ read → IfOk (read >>= k) (Q bytes)
    by_read (Ok read) is =
        let reads = sound_at exact bytes small read is in
        subst (λ b. IfOk (k read.0 read.1) (Q b)) (sym reads.front)
        (next read.0 read.1 reads.lawful (bytes_behind _ read.1 bytes reads.front small))
    by_read (Err flaw) is = tt

-- what is made of one thing and of what comes after it
pub sound_then : {X Y : Type 0} {G : Grammar X} {p : List ℕ → Read X} (H : Grammar Y) (front : List ℕ → List ℕ)
    (k : X → List ℕ → Read Y) → Exact G p →
    ((x : X) (rest : List ℕ) → G.spellable x → AreBytes rest →
    IfOk (k x rest) (λ r. Reads H r.0 (front (G.spelling x ++ rest)) r.1)) →
    (bytes : List ℕ) → AreBytes bytes → IfOk (p bytes >>= k) (λ r. Reads H r.0 (front bytes) r.1)
sound_then H front k exact next bytes small = holds_then (λ b r. Reads H r.0 (front b) r.1) k exact next bytes small

-- what was spelled is read again, and what comes after it
pub again_then : {X Y : Type 0} {G : Grammar X} {p : List ℕ → Read X} (k : X → List ℕ → Result Y (ℕ × ℕ)) → Exact G p →
    (x : X) (rest : List ℕ) → G.spellable x → (p (G.spelling x ++ rest) >>= k) ≡ k x rest
again_then k exact x rest lawful = ap (λ read. read >>= k) (exact.again x rest lawful)

-- two faults are one in both of their numbers
pub same_fault : {Y : Type 0} (a b rule left : ℕ) → ◌≡◌ {A = Result Y (ℕ × ℕ)} (Err (a, b)) (Err (rule, left)) →
    (rule ≡ a) × (left ≡ b)
same_fault a b rule left e =
    let pair : ◌≡◌ {A = ℕ × ℕ} (a, b) (rule, left) = cc in
    (sym (ap (λ (p : ℕ × ℕ). p.0) pair), sym (ap (λ (p : ℕ × ℕ). p.1) pair))

-- and faults with the same numbers are one
pub one_fault : {Y : Type 0} (a b rule left : ℕ) → rule ≡ a → left ≡ b → ◌≡◌ {A = Result Y (ℕ × ℕ)} (Err (a, b)) (Err (rule, left))
one_fault a b rule left r l = λ i. Err (sym r i, sym l i)

-- a field fails by two tests
pub field_faults : {Y : Type 0} (given : ℕ) (IsCut IsWrong : List ℕ → Type 0) (bytes : List ℕ) (cut good : Bool) (y : Y) →
    (cut ≡ true → IsCut bytes) → (cut ≡ false → good ≡ false → IsWrong bytes) → (IsCut bytes → cut ≡ true) →
    (IsWrong bytes → (cut ≡ false) × (good ≡ false)) →
    Faults (field given IsCut IsWrong) bytes
    (if cut then Err (2, 0) else if good then Ok y else Err (given, length bytes))
field_faults {Y = Y} given IsCut IsWrong bytes true good y is_cut is_wrong from_cut from_wrong = record {
  told = λ rule left e. let same = same_fault 2 0 rule left e in inl (is_cut refl, same.0, same.1);
  within = λ rule left e. let none = (same_fault 2 0 rule left e).1 in omega (arith, none);
  fails = fails;
}
  where
    fails : (rule left : ℕ) → field given IsCut IsWrong bytes rule left → ◌≡◌ {A = Result Y (ℕ × ℕ)} (Err (2, 0)) (Err (rule, left))
    fails rule left (inl broken) = one_fault 2 0 rule left broken.1 broken.2
    fails rule left (inr broken) = absurd (cc ((from_wrong broken.0).0))
field_faults {Y = Y} given IsCut IsWrong bytes false true y is_cut is_wrong from_cut from_wrong = record {
  told = λ rule left e. absurd cc;
  within = λ rule left e. absurd cc;
  fails = fails;
}
  where
    fails : (rule left : ℕ) → field given IsCut IsWrong bytes rule left → ◌≡◌ {A = Result Y (ℕ × ℕ)} (Ok y) (Err (rule, left))
    fails rule left (inl broken) = absurd (cc (from_cut broken.0))
    fails rule left (inr broken) = absurd (cc ((from_wrong broken.0).1))
field_faults {Y = Y} given IsCut IsWrong bytes false false y is_cut is_wrong from_cut from_wrong = record {
  told = λ rule left e.
      let same = same_fault given (length bytes) rule left e in inr (is_wrong refl refl, same.0, same.1);
  within = λ rule left e. let all = (same_fault given (length bytes) rule left e).1 in omega (arith, all);
  fails = fails;
}
  where
    fails : (rule left : ℕ) → field given IsCut IsWrong bytes rule left →
        ◌≡◌ {A = Result Y (ℕ × ℕ)} (Err (given, length bytes)) (Err (rule, left))
    fails rule left (inl broken) = absurd (cc (from_cut broken.0))
    fails rule left (inr broken) = one_fault given (length bytes) rule left broken.1 broken.2

-- to make something of what was read changes no fault
pub kept_faults : {X Y : Type 0} {B : Breaks} {bytes : List ℕ} {read : Read X} (made : X → List ℕ → Y) →
    Faults B bytes read → Faults B bytes (read >>= λ x rest. Ok (made x rest))
kept_faults {X = X} {B = B} {bytes = bytes} {read = read} made faults = by_read read faults
  where
    by_read : (read : Read X) → Faults B bytes read → Faults B bytes (read >>= λ x rest. Ok (made x rest))
    by_read (Ok r) faults = record {
      told = λ rule left e. absurd cc;
      within = λ rule left e. absurd cc;
      fails = λ rule left broken. absurd (cc (faults.fails rule left broken));
    }
    by_read (Err flaw) faults = record {
      told = λ rule left e. faults.told rule left (let same : flaw ≡ (rule, left) = cc in ap Err same);
      within = λ rule left e. faults.within rule left (let same : flaw ≡ (rule, left) = cc in ap Err same);
      fails = λ rule left broken. let e = faults.fails rule left broken in let same : flaw ≡ (rule, left) = cc e in ap Err same;
    }

-- what was read may be said otherwise
pub kept_sound : {X : Type 0} {G : Grammar X} {p : List ℕ → Read X} → Exact G p → (Q : X × List ℕ → Type 0)
    (bytes : List ℕ) → AreBytes bytes → ((x : X) (rest : List ℕ) → G.spellable x → bytes ≡ G.spelling x ++ rest → Q (x, rest)) →
    IfOk (p bytes) Q
kept_sound {X = X} {G = G} {p = p} exact Q bytes small holds = by_read (p bytes) refl
  where
    by_read : (read : Read X) → p bytes ≡ read → IfOk read Q
    by_read (Ok read) is =
        let reads = sound_at exact bytes small read is in holds read.0 read.1 reads.lawful reads.front
    by_read (Err flaw) is = tt

-- what is made of what was read
pub sound_last : {X Y : Type 0} {G : Grammar X} {p : List ℕ → Read X} (H : Grammar Y) → Exact G p →
    (made : X → List ℕ → Y × List ℕ) (bytes : List ℕ) → AreBytes bytes →
    ((x : X) (rest : List ℕ) → G.spellable x → bytes ≡ G.spelling x ++ rest →
    Reads H ((made x rest).0) bytes ((made x rest).1)) →
    IfOk (p bytes >>= λ x rest. Ok (made x rest)) (λ r. Reads H r.0 bytes r.1)
sound_last {X = X} {G = G} {p = p} H exact made bytes small holds = by_read (p bytes) refl
  where
    by_read : (read : Read X) → p bytes ≡ read → IfOk (read >>= λ x rest. Ok (made x rest)) (λ r. Reads H r.0 bytes r.1)
    by_read (Ok read) is =
        let reads = sound_at exact bytes small read is in holds read.0 read.1 reads.lawful reads.front
    by_read (Err flaw) is = tt
