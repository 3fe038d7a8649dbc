-- What parsers with the same answers read, what they read for other languages, and no list at all.
use Rattle.std.proofs.Common.{◌≡◌, ◌∙◌, List, [], ◌∷◌, ◌++◌, Err, refl, sym}
use Rattle.tdl_grammar.specs.Grammar as G
use Rattle.tdl_grammar.specs.Grammar.{Lang}
use Rattle.tdl_grammar.specs.Parsing.{P, refuse}
use Rattle.tdl_grammar.specs.Goodness.{Failed, Reads, Grows}

-- the same answers read as much
pub reads_same : {T A : Type 0} (p q : P T A) (L M : Lang T A) → ((ts : List T) → q ts ≡ p ts) → Reads p L M →
    Reads q L M
reads_same p q L M same x = record {
  took = λ ts rest a e. let k = x.took ts rest a (sym (same ts) ∙ e) in
      record {
        front = k.front;
        parts = k.parts;
        spelled = k.spelled;
        again = λ t r other d. same (k.front ++ t ∷
            other) ∙ k.again t r other d;
      };
  failed = λ ts rest e. let k = x.failed ts rest (sym (same ts) ∙ e) in
      record { front = k.front; parts = k.parts; others = k.others; tree = k.tree; begun = k.begun; again = λ t r other d. same (k.front ++ t ∷ other) ∙ k.again t r other d };
  inside = x.inside;
  some = x.some;
  some_text = x.some_text;
  some_spelled = x.some_spelled;
}

-- larger languages
pub reads_for : {T A : Type 0} (p : P T A) (L M L' M' : Lang T A) → Grows L L' → Grows M M' → Grows L' M' →
    Reads p L M → Reads p L' M'
reads_for p L M L' M' more begun inside x = record {
  took = λ ts rest a e. let k = x.took ts rest a e in
      record { front = k.front; parts = k.parts; spelled = more a k.front k.spelled; again = k.again };
  failed = λ ts rest e. let k = x.failed ts rest e in
      record {
        front = k.front;
        parts = k.parts;
        others = k.others;
        tree = k.tree;
        begun = begun k.tree
            (k.front ++ k.others) k.begun;
        again = k.again;
      };
  inside = inside;
  some = x.some;
  some_text = x.some_text;
  some_spelled = begun x.some x.some_text x.some_spelled;
}

-- no list at all fails where it begins
failed_refuse : {T A : Type 0} (M : Lang T A) (a : A) (text : List T) → M a text → (ts rest : List T) →
    refuse {T = T} {A = A} ts ≡ Err rest → Failed refuse M ts rest
failed_refuse M a text l ts rest e =
    let d : ts ≡ rest = cc e in
    record { front = []; parts = d; others = text; tree = a; begun = l; again = λ t r other h. refl }

-- no list at all, where there is a text of M
pub reads_refuse : {T A : Type 0} (M : Lang T A) (a : A) (text : List T) → M a text → Reads refuse G.nowhere M
reads_refuse M a text l = record {
  took = λ ts rest b e. absurd (cc e);
  failed = failed_refuse M a text l;
  inside = λ b ts n. absurd n;
  some = a;
  some_text = text;
  some_spelled = l;
}
