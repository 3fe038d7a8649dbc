-- Parsers are good for the language of the same words.
use Rattle.std.proofs.Common.{◌≡◌, ◌∙◌, ◌⊎◌, inl, inr, Bool, true, false, List, [], ◌∷◌, ◌++◌, Option, None, Some, Ok, refl, append_assoc}
use Rattle.tdl_grammar.specs.Grammar as G
use Rattle.tdl_grammar.specs.Grammar.{Lang}
use Rattle.tdl_grammar.specs.Parsing.{P, one, both, made, either, maybe, refuse}
use Rattle.tdl_grammar.specs.Goodness.{Good, Nullable, Grows, Begins, Stops, Apart, Within, never, any}
use Rattle.tdl_grammar.proofs.Outcomes.{any_false, any_right, opens-append}
use Rattle.tdl_grammar.proofs.Reading.{reads_one, reads_both, reads_made}
use Rattle.tdl_grammar.proofs.ReadingChoices.{reads_either, reads_maybe}
use Rattle.tdl_grammar.proofs.ReadingOthers.{reads_same, reads_for, reads_refuse}

-- ---- tests

-- where a text begins, the parser before it stops
pub stops_apart : {T : Type 0} (goes starts : T → Bool) (front more : List T) → Apart goes starts →
    Begins starts front → Stops goes (front ++ more)
stops_apart goes starts [] more apart b = absurd (cc b)
stops_apart goes starts (t ∷ ts) more apart b = apart t b

-- on none of two is not on the first
pub stops_left : {T : Type 0} (g g' : T → Bool) (more : List T) → Stops (any g g') more → Stops g more
stops_left g g' [] h = refl
stops_left g g' (t ∷ r) h = (any_false (g t) (g' t) h).0

-- nor on the second
pub stops_right : {T : Type 0} (g g' : T → Bool) (more : List T) → Stops (any g g') more → Stops g' more
stops_right g g' [] h = refl
stops_right g g' (t ∷ r) h = (any_false (g t) (g' t) h).1

-- what begins with the first begins with one of two
begins_left : {T : Type 0} (s s' : T → Bool) (front : List T) → Begins s front → Begins (any s s') front
begins_left s s' [] h = absurd (cc h)
begins_left s s' (t ∷ r) h = rw h refl

-- and with the second
begins_right : {T : Type 0} (s s' : T → Bool) (front : List T) → Begins s' front → Begins (any s s') front
begins_right s s' [] h = absurd (cc h)
begins_right s s' (t ∷ r) h = any_right (s t) (s' t) h

-- what is not in the larger is not in the smaller
outside : (b c : Bool) → (b ≡ true → c ≡ true) → c ≡ false → b ≡ false
outside true c h e = absurd (let d = h refl in cc)
outside false c h e = refl

-- on none of the larger is on none of the smaller
stops_within : {T : Type 0} (g g' : T → Bool) → Within g g' → (more : List T) → Stops g' more → Stops g more
stops_within g g' w [] h = refl
stops_within g g' w (t ∷ r) h = outside (g t) (g' t) (w t) h

-- what begins with one of the smaller begins with one of the larger
begins_within : {T : Type 0} (s s' : T → Bool) → Within s s' → (front : List T) → Begins s front → Begins s' front
begins_within s s' w [] h = absurd (cc h)
begins_within s s' w (t ∷ r) h = w t h

-- ---- the words

-- one token of which the test holds; `some` is such a token
pub good_one : {T : Type 0} (test : T → Bool) (some : T) → test some ≡ true → Good (one test) (G.one test)
    (G.one test) test never
good_one test some h = record {
  reads = reads_one test some h;
  complete = λ a front more l stops. rw (l.1, l.0) refl;
  begins = λ a front l. rw l.1 l.0;
}

-- the one, then the other
pub good_both : {T A B : Type 0} (p : P T A) (q : P T B) (L L' : Lang T A) (M M' : Lang T B) (s g s' g' : T → Bool) →
    Apart g s' →
    Good p L L' s g → Good q M M' s' g' → Good (both p q) (G.both L M) (G.both L' M') s g'
good_both p q L L' M M' s g s' g' apart x y = record {
  reads = reads_both p q L L' M M' x.reads y.reads;
  complete = λ c front more l stops.
      rw (
        l.4,
        append_assoc l.0 l.1 more,
        x.complete c.0 l.0 (l.1 ++ more) l.2 (stops_apart g s' l.1 more apart (y.begins c.1 l.1 l.3)),
        y.complete c.1 l.1 more l.3 stops,
      ) refl;
  begins = λ c front l. rw l.4 (opens-append s l.0 l.1 (x.begins c.0 l.0 l.2));
}

-- the one stops where the other begins, or after it where it has no token
stops_after : {T : Type 0} (g s' g' : T → Bool) (back more : List T) → Apart g s' → (back ≡ []) ⊎ Begins s' back →
    Stops (any g g') more → Stops g (back ++ more)
stops_after g s' g' back more apart (inl e) stops = rw e (stops_left g g' more stops)
stops_after g s' g' back more apart (inr b) stops = stops_apart g s' back more apart b

-- the one, then the other, which may have no token
pub good_after : {T A B : Type 0} (p : P T A) (q : P T B) (L L' : Lang T A) (M M' : Lang T B) (s g s' g' : T →
    Bool) → Apart g s' →
    Good p L L' s g → Nullable q M M' s' g' → Good (both p q) (G.both L M) (G.both L' M') s (any g g')
good_after p q L L' M M' s g s' g' apart x y = record {
  reads = reads_both p q L L' M M' x.reads y.reads;
  complete = λ c front more l stops.
      rw (
        l.4,
        append_assoc l.0 l.1 more,
        x.complete c.0 l.0 (l.1 ++ more) l.2 (stops_after g s' g' l.1 more apart (y.begins c.1 l.1 l.3) stops),
        y.complete c.1 l.1 more l.3 (stops_right g g' more stops),
      ) refl;
  begins = λ c front l. rw l.4 (opens-append s l.0 l.1 (x.begins c.0 l.0 l.2));
}

-- a text begins with the first, or with the second where the first has no token
begins_before : {T : Type 0} (s s' : T → Bool) (front back : List T) → (front ≡ []) ⊎ Begins s front →
    Begins s' back → Begins (any s s') (front ++ back)
begins_before s s' front back (inl e) b = rw e (begins_right s s' back b)
begins_before s s' front back (inr a) b = opens-append (any s s') front back (begins_left s s' front a)

-- the one, which may have no token, then the other
pub good_before : {T A B : Type 0} (p : P T A) (q : P T B) (L L' : Lang T A) (M M' : Lang T B) (s g s' g' : T →
    Bool) → Apart g s' →
    Nullable p L L' s g → Good q M M' s' g' → Good (both p q) (G.both L M) (G.both L' M') (any s s') g'
good_before p q L L' M M' s g s' g' apart x y = record {
  reads = reads_both p q L L' M M' x.reads y.reads;
  complete = λ c front more l stops.
      rw (
        l.4,
        append_assoc l.0 l.1 more,
        x.complete c.0 l.0 (l.1 ++ more) l.2 (stops_apart g s' l.1 more apart (y.begins c.1 l.1 l.3)),
        y.complete c.1 l.1 more l.3 stops,
      ) refl;
  begins = λ c front l. rw l.4 (begins_before s s' l.0 l.1 (x.begins c.0 l.0 l.2) (y.begins c.1 l.1 l.3));
}

-- the tree that f makes of it
pub good_made : {T A B : Type 0} (f : A → B) (p : P T A) (L L' : Lang T A) (s g : T → Bool) →
    Good p L L' s g → Good (made f p) (G.made f L) (G.made f L') s g
good_made f p L L' s g x = record {
  reads = reads_made f p L L' x.reads;
  complete = λ b front more l stops. rw (x.complete l.0 front more l.1 stops, l.2) refl;
  begins = λ b front l. x.begins l.0 front l.1;
}

-- each text of the one or the other is read
either_complete : {T A : Type 0} (p q : P T A) (L L' M M' : Lang T A) (s g s' g' : T → Bool) → Apart s s' →
    Good p L L' s g → Good q M M' s' g' →
    (a : A) (front more : List T) → G.either L M a front → Stops (any g g') more → either s p q (front ++ more) ≡ Ok
    (a, more)
either_complete p q L L' M M' s g s' g' apart x y a front more (inl l) stops =
    rw (opens-append s front more (x.begins a front l)) (x.complete a front more l (stops_left g g' more stops))
either_complete p q L L' M M' s g s' g' apart x y a front more (inr l) stops =
    rw (stops_apart s s' front more apart (y.begins a front l)) (y.complete a front more l
    (stops_right g g' more stops))

-- what the one or the other begins with
either_begins : {T A : Type 0} (p q : P T A) (L L' M M' : Lang T A) (s g s' g' : T → Bool) → Good p L L' s g →
    Good q M M' s' g' →
    (a : A) (front : List T) → G.either L M a front → Begins (any s s') front
either_begins p q L L' M M' s g s' g' x y a front (inl l) = begins_left s s' front (x.begins a front l)
either_begins p q L L' M M' s g s' g' x y a front (inr l) = begins_right s s' front (y.begins a front l)

-- the one or the other: no token begins both
pub good_either : {T A : Type 0} (p q : P T A) (L L' M M' : Lang T A) (s g s' g' : T → Bool) → Apart s s' →
    Good p L L' s g → Good q M M' s' g' → Good (either s p q) (G.either L M) (G.either L' M') (any s s') (any g g')
good_either p q L L' M M' s g s' g' apart x y = record {
  reads = reads_either s p q L L' M M' x.reads y.reads;
  complete = either_complete p q L L' M M' s g s' g' apart x y;
  begins = either_begins p q L L' M M' s g s' g' x y;
}

-- a text is read, and no token where none begins it
maybe_complete : {T A : Type 0} (p : P T A) (L L' : Lang T A) (s g : T → Bool) → Good p L L' s g →
    (o : Option A) (front more : List T) → G.optional L o front → Stops (any s g) more →
    maybe s p (front ++ more) ≡ Ok (o, more)
maybe_complete p L L' s g x None front more l stops = rw (l, stops_left s g more stops) refl
maybe_complete p L L' s g x (Some a) front more l stops =
    rw (opens-append s front more (x.begins a front l), x.complete a front more l (stops_right s g more stops)) refl

-- what it begins with, if it has a token
maybe_begins : {T A : Type 0} (p : P T A) (L L' : Lang T A) (s g : T → Bool) → Good p L L' s g →
    (o : Option A) (front : List T) → G.optional L o front → (front ≡ []) ⊎ Begins s front
maybe_begins p L L' s g x None front l = inl l
maybe_begins p L L' s g x (Some a) front l = inr (x.begins a front l)

-- it, or no token
pub nullable_maybe : {T A : Type 0} (p : P T A) (L L' : Lang T A) (s g : T → Bool) →
    Good p L L' s g → Nullable (maybe s p) (G.optional L) (G.optional L') s (any s g)
nullable_maybe p L L' s g x = record {
  reads = reads_maybe s p L L' x.reads;
  complete = maybe_complete p L L' s g x;
  begins = maybe_begins p L L' s g x;
}

-- no list at all, where there is a text of M
pub good_refuse : {T A : Type 0} (M : Lang T A) (a : A) (text : List T) → M a text → Good refuse G.nowhere M never never
good_refuse M a text l = record {
  reads = reads_refuse M a text l;
  complete = λ b front more n stops. absurd n;
  begins = λ b front n. absurd n;
}

-- ---- other tests, parsers and languages

-- more tokens to begin with, and more to go on
pub good_widen : {T A : Type 0} (p : P T A) (L M : Lang T A) (s g s' g' : T → Bool) → Within s s' → Within g g' →
    Good p L M s g → Good p L M s' g'
good_widen p L M s g s' g' ws wg x = record {
  reads = x.reads;
  complete = λ a front more l stops. x.complete a front more l (stops_within g g' wg more stops);
  begins = λ a front l. begins_within s s' ws front (x.begins a front l);
}

-- a parser with the same answers is as good
pub good_same : {T A : Type 0} (p q : P T A) (L M : Lang T A) (s g : T → Bool) → ((ts : List T) → q ts ≡ p ts) →
    Good p L M s g → Good q L M s g
good_same p q L M s g same x = record {
  reads = reads_same p q L M same x.reads;
  complete = λ a front more l stops. same (front ++ more) ∙ x.complete a front more l stops;
  begins = x.begins;
}

-- it is as good for a language with the same texts, and fails well in a larger one
pub good_for : {T A : Type 0} (p : P T A) (L M L' M' : Lang T A) (s g : T → Bool) → Grows L L' → Grows L' L →
    Grows M M' →
    Good p L M s g → Good p L' M' s g
good_for p L M L' M' s g more less begun x = record {
  reads = reads_for p L M L' M' more begun (λ a ts l. begun a ts (x.reads.inside a ts (less a ts l))) x.reads;
  complete = λ a front rest l stops. x.complete a front rest (less a front l) stops;
  begins = λ a front l. x.begins a front (less a front l);
}
