-- What a parser reads that looks at the next token first.
use Rattle.std.proofs.Common.{◌≡◌, ◌∙◌, inl, inr, Bool, true, false, List, [], ◌∷◌, ◌++◌, Option, None, Some, Ok, Err, refl, sym, ap, subst}
use Rattle.tdl_grammar.specs.Grammar as G
use Rattle.tdl_grammar.specs.Grammar.{Lang}
use Rattle.tdl_grammar.specs.Parsing.{P, opens, made, either, maybe}
use Rattle.tdl_grammar.specs.Goodness.{Took, Failed, Reads}
use Rattle.tdl_grammar.proofs.Growing.{grow, grow_to, grow_either, grow_optional}
use Rattle.tdl_grammar.proofs.Outcomes.{given_is, chosen, opens_again}
use Rattle.tdl_grammar.proofs.Reading.{made_took, made_failed}

-- where two parsers agree after a test, they agree after the same front and next token
abbrev Sees : {T A : Type 0} → (T → Bool) → Bool → P T A → P T A → Type 0
Sees {T} s b p q = (ts : List T) → opens s ts ≡ b → p ts ≡ q ts

-- what is read where the next token says so
took_sees : {T A : Type 0} (s : T → Bool) (b : Bool) (p q : P T A) (L M : Lang T A) → Sees s b q p →
    ((a : A) (us : List T) → L a us → M a us) →
    (ts rest : List T) (a : A) → opens s ts ≡ b → Took p L ts a rest → Took q M ts a rest
took_sees {T} s b p q L M same grows ts rest a h k = record {
  front = k.front;
  parts = k.parts;
  spelled = grows a k.front k.spelled;
  again = λ t r other d.
      let parts : ts ≡ k.front ++ t ∷ r = k.parts ∙ ap (λ (z : List T). k.front ++ z) d in
      same (k.front ++ t ∷ other) (opens_again s k.front t r other ∙ ap (opens s) (sym parts) ∙ h) ∙
      k.again t r other d;
}

-- where it fails
failed_sees : {T A : Type 0} (s : T → Bool) (b : Bool) (p q : P T A) (L M : Lang T A) → Sees s b q p →
    ((a : A) (us : List T) → L a us → M a us) →
    (ts rest : List T) → opens s ts ≡ b → Failed p L ts rest → Failed q M ts rest
failed_sees {T} s b p q L M same grows ts rest h k = record {
  front = k.front;
  parts = k.parts;
  others = k.others;
  tree = k.tree;
  begun = grows k.tree (k.front ++ k.others) k.begun;
  again = λ t r other d.
      let parts : ts ≡ k.front ++ t ∷ r = k.parts ∙ ap (λ (z : List T). k.front ++ z) d in
      same (k.front ++ t ∷ other) (opens_again s k.front t r other ∙ ap (opens s) (sym parts) ∙ h) ∙
      k.again t r other d;
}

-- what is read as the one or the other
either_took : {T A : Type 0} (s : T → Bool) (p q : P T A) (L L' M M' : Lang T A) → Reads p L L' → Reads q M M' →
    (ts rest : List T) (a : A) → either s p q ts ≡ Ok (a, rest) → Took (either s p q) (G.either L M) ts a rest
either_took s p q L L' M M' x y ts rest a e =
    elim (chosen (opens s ts) _ _ _ e) [
      | inl h ↦ took_sees s true p (either s p q) L (G.either L M) (λ us g. rw g refl)
          (λ c us l. inl l) ts rest a h.0 (x.took ts rest a h.1)
      | inr h ↦ took_sees s false q (either s p q) M (G.either L M) (λ us g. rw g refl)
          (λ c us l. inr l) ts rest a h.0 (y.took ts rest a h.1)
    ]

-- where it fails
either_failed : {T A : Type 0} (s : T → Bool) (p q : P T A) (L L' M M' : Lang T A) → Reads p L L' → Reads q M M' →
    (ts rest : List T) → either s p q ts ≡ Err rest → Failed (either s p q) (G.either L' M') ts rest
either_failed s p q L L' M M' x y ts rest e =
    elim (chosen (opens s ts) _ _ _ e) [
      | inl h ↦ failed_sees s true p (either s p q) L' (G.either L' M') (λ us g. rw g refl)
          (λ c us l. inl l) ts rest h.0 (x.failed ts rest h.1)
      | inr h ↦ failed_sees s false q (either s p q) M' (G.either L' M') (λ us g. rw g refl)
          (λ c us l. inr l) ts rest h.0 (y.failed ts rest h.1)
    ]

-- the one or the other
pub reads_either : {T A : Type 0} (s : T → Bool) (p q : P T A) (L L' M M' : Lang T A) → Reads p L L' → Reads q M M' →
    Reads (either s p q) (G.either L M) (G.either L' M')
reads_either s p q L L' M M' x y = record {
  took = either_took s p q L L' M M' x y;
  failed = either_failed s p q L L' M M' x y;
  inside = grow _ _ (λ k. grow_either k L L' M M' (grow_to k L L' x.inside) (grow_to k M M' y.inside));
  some = x.some;
  some_text = x.some_text;
  some_spelled = inl x.some_spelled;
}

-- ---- it, or no token

-- what is there
abbrev found : {T A : Type 0} → P T A → P T (Option A)
found p = made Some p

-- what is not there
abbrev absent : {T A : Type 0} → P T (Option A)
absent ts = Ok (None, ts)

-- no token
took_none : {T A : Type 0} (L : Lang T A) (ts rest : List T) (o : Option A) → absent ts ≡ Ok (o, rest) →
    Took absent (G.optional L) ts o rest
took_none {T} {A} L ts rest o e =
    subst (λ (z : Option A × List T). Took absent (G.optional L) ts z.0 z.1) (given_is (None, ts) (o, rest) e)
    (record { front = []; parts = refl; spelled = refl; again = λ t r other d. refl })

-- a text is one of what may be there
some_text_of : {T A : Type 0} (L : Lang T A) (o : Option A) (ts : List T) → G.made Some L o ts → G.optional L o ts
some_text_of L o ts l = subst (λ z. G.optional L z ts) (sym l.2) l.1

-- what is read where it may be there
maybe_took : {T A : Type 0} (s : T → Bool) (p : P T A) (L L' : Lang T A) → Reads p L L' →
    (ts rest : List T) (o : Option A) → maybe s p ts ≡ Ok (o, rest) → Took (maybe s p) (G.optional L) ts o rest
maybe_took s p L L' x ts rest o e =
    elim (chosen (opens s ts) _ _ _ e) [
      | inl h ↦ took_sees s true (found p) (maybe s p) (G.made Some L) (G.optional L) (λ us g. rw g refl)
          (some_text_of L) ts rest o h.0
          (made_took Some p L L' x ts rest o h.1)
      | inr h ↦ took_sees s false absent (maybe s p) (G.optional L) (G.optional L) (λ us g. rw g refl)
          (λ c us l. l) ts rest o h.0
          (took_none L ts rest o h.1)
    ]

-- where it fails
maybe_failed : {T A : Type 0} (s : T → Bool) (p : P T A) (L L' : Lang T A) → Reads p L L' →
    (ts rest : List T) → maybe s p ts ≡ Err rest → Failed (maybe s p) (G.optional L') ts rest
maybe_failed s p L L' x ts rest e =
    elim (chosen (opens s ts) _ _ _ e) [
      | inl h ↦ failed_sees s true (found p) (maybe s p) (G.made Some L') (G.optional L') (λ us g. rw g refl)
          (some_text_of L') ts rest h.0
          (made_failed Some p L L' x ts rest h.1)
      | inr h ↦ absurd (let d = h.1 in cc)
    ]

-- it, or no token
pub reads_maybe : {T A : Type 0} (s : T → Bool) (p : P T A) (L L' : Lang T A) → Reads p L L' →
    Reads (maybe s p) (G.optional L) (G.optional L')
reads_maybe s p L L' x = record {
  took = maybe_took s p L L' x;
  failed = maybe_failed s p L L' x;
  inside = grow _ _ (λ k. grow_optional k L L' (grow_to k L L' x.inside));
  some = None;
  some_text = [];
  some_spelled = refl;
}
