-- Where the parser with its limits fails, it is at the first word out of place.
use Rattle.std.proofs.Common.{◌≡◌, ◌∙◌, inl, inr, ◌≤◌, arith, List, [], ◌∷◌, ◌++◌, length, Result, Ok, Err, refl, sym, ap, subst, append_assoc}
use Rattle.std.proofs.lemmas.List.{append-nil, append_cancel_right, length-append}
use Rattle.tdl_grammar.specs.Parsing.{Outcome, all}
use Rattle.tdl_grammar.specs.Goodness.{never}
use Rattle.tdl_grammar.proofs.Limiting.{AllCount, Blocked}
use Rattle.tdl_grammar.proofs.Whole.{all_ok, all_fault, seen}
use Rattle.tdl_tree.specs.declared.words.Word.{Word}
use Rattle.tdl_tree.specs.declared.words.WordKind.TheVariants as k
use Rattle.tdl_tree.specs.declared.declarations.Tree.{Tree}
use Rattle.tdl_tree.specs.Kinds.{is}
use Rattle.tdl_tree.specs.Sentences.{Sentence}
use Rattle.tdl_tree.specs.Faults.{is_written, Within, IsOutOfPlace, IsSyntaxFault}
use Rattle.tdl_parse.specs.ReadingExpressions.{goes_on}
use Rattle.tdl_parse.specs.ReadingDeclarations as R
use Rattle.tdl_parse.proofs.Unlimited.{AnySource, any_source, good_any_source}
use Rattle.tdl_parse.proofs.Sentences.{good_limited, limited_read}
use Rattle.tdl_parse.proofs.LimitedSources.{limited_any}
use Rattle.tdl_parse.proofs.EndSources.{ends_limited}

-- all words are written
abbrev pub Written : List Word → Type 0
Written words = AllCount is_written words

-- what the parser answers
abbrev pub answer : List Word → Result Tree (List Word)
answer words = all (R.limited words)

-- a text that ends too early is no whole text, and has no tree with words after it
ends_early : (o : Outcome Word Tree) → all o ≡ Err [] → o ≡ Err []
ends_early (Ok (a, [])) e = absurd (cc e)
ends_early (Ok (a, w ∷ ws)) e = absurd (cc e)
ends_early (Err []) e = refl
ends_early (Err (w ∷ ws)) e = absurd (cc e)

-- ---- words that are passed are in place

-- where the words up to one are a text, it is in place
in_place_read : (before : List Word) (word : Word) (tree : Tree) → answer (before ++ word ∷ []) ≡ Ok tree →
    IsOutOfPlace before word → ⊥
in_place_read before word tree e out =
    let t = ends_limited.takes (before ++ word ∷ []) [] tree (all_ok (R.limited (before ++ word ∷ [])) tree e) in
    let whole : t.front ≡ before ++ word ∷ [] = sym (append-nil t.front) ∙ sym t.parts in
    out tree [] refl (subst (Within tree) whole t.text)

-- where they end too early, it is in place
in_place_early : (before : List Word) (word : Word) → answer (before ++ word ∷ []) ≡ Err [] →
    IsOutOfPlace before word → ⊥
in_place_early before word e out =
    let r = ends_limited.goes_on (before ++ word ∷ []) (ends_early (R.limited (before ++ word ∷ [])) e) in
    out r.tree r.more r.none (subst (Within r.tree) (append_assoc before (word ∷ []) r.more) r.text)

-- where they fail at some word, so do all words, at the same place
fails_before : (words before after : List Word) (word t : Word) (r : List Word) → words ≡ before ++ word ∷ after →
    answer (before ++ word ∷ []) ≡ Err (t ∷ r) →
    answer words ≡ Err (t ∷ (r ++ after))
fails_before words before after word t r e f =
    let s = seen R.limited _ _ good_limited.reads (before ++ word ∷ []) (t ∷ r) f in
    let same : words ≡ s.front ++ t ∷ (r ++ after) =
    e ∙ sym (append_assoc before (word ∷ []) after) ∙ ap (λ (z : List Word). z ++ after) s.parts ∙
    append_assoc s.front (t ∷ r) after in
    ap answer same ∙ s.again t r (r ++ after) refl

-- a word is in place where the parser does not fail at it or before it
in_place : (words before after : List Word) (word : Word) → words ≡ before ++ word ∷ after →
    ((rest : List Word) → answer words ≡ Err rest → length rest ≤ length after) → (o : Result Tree (List Word)) →
    answer (before ++ word ∷ []) ≡ o →
    IsOutOfPlace before word → ⊥
in_place words before after word e passed (Ok tree) f out = in_place_read before word tree f out
in_place words before after word e passed (Err []) f out = in_place_early before word f out
in_place words before after word e passed (Err (t ∷ r)) f out =
    let n = passed (t ∷ (r ++ after)) (fails_before words before after word t r e f) in
    absurd (omega (arith, n, length-append r after))

-- ---- the word where it fails is out of place

-- where the parser without limits fails at it
out_unlimited : (words front rest : List Word) → words ≡ front ++ rest → all (any_source words) ≡ Err rest →
    (word : Word) (after : List Word) → rest ≡ word ∷ after → IsOutOfPlace front word
out_unlimited words front rest e f word after h tree more none l =
    let i = all_fault any_source AnySource (is k.Module) never good_any_source words rest f in
    let fronts : i.front ≡ front = append_cancel_right i.front front rest (sym i.parts ∙ e) in
    i.never_on word after h tree more (subst (λ (z : List Word). AnySource tree (z ++ word ∷ more)) (sym fronts)
    (limited_any.inside tree (front ++ word ∷ more) l))

-- where it is the limit
out_limited : (words front rest : List Word) → words ≡ front ++ rest → answer words ≡ Err rest →
    Blocked is_written goes_on R.limited any_source Within words →
    (word : Word) (after : List Word) → rest ≡ word ∷ after → IsOutOfPlace front word
out_limited words front rest e f b word after h tree more none l =
    let told : answer words ≡ Err (b.token ∷ b.after) = rw b.fails refl in
    let rests : b.token ∷ b.after ≡ word ∷ after = (let d : b.token ∷ b.after ≡ rest = (let z = sym told ∙
    f in cc) in d ∙ h) in
    let same : b.token ≡ word = cc rests in
    let fronts : b.front ≡ front = append_cancel_right b.front front rest (ap (λ (z : List Word). b.front ++ z) (h ∙
    sym rests) ∙ sym b.parts ∙ e) in
    b.never_on more tree none (subst (λ (z : List Word). Within tree (z ++ b.token ∷ more)) (sym fronts) (subst (λ
    (z : Word). Within tree (front ++ z ∷ more)) (sym same) l))

-- in any case
out_of_place : (words front rest : List Word) → Written words → words ≡ front ++ rest → answer words ≡ Err rest →
    (word : Word) (after : List Word) → rest ≡ word ∷ after → IsOutOfPlace front word
out_of_place words front rest written e f word after h =
    elim (limited_any.same words written) [
      | inl i ↦ out_unlimited words front rest e (ap all (sym i) ∙ f) word after h
      | inr i ↦ out_limited words front rest e f i word after h
    ]

-- ---- the fault

-- one answer at most
one_answer : (words rest rest' : List Word) → answer words ≡ Err rest → answer words ≡ Err rest' → rest ≡ rest'
one_answer words rest rest' e f = let h = sym e ∙ f in cc h

-- a sentence is read
sentence_read : (words : List Word) (tree : Tree) → Sentence tree words → answer words ≡ Ok tree
sentence_read words tree l = ap all (limited_read words tree l)

-- where the parser fails, it is at the first word out of place
pub answer_fault : (words rest : List Word) → Written words → answer words ≡ Err rest → IsSyntaxFault words rest
answer_fault words rest written e =
    let s = seen R.limited _ _ good_limited.reads words rest e in
    record {
      front = s.front;
      parts = s.parts;
      in_place = λ before after word d out.
          let parts : words ≡ before ++ word ∷ (after ++ rest) = s.parts ∙ ap (λ (z : List Word). z ++ rest) d ∙
          append_assoc before (word ∷ after) rest in
          in_place words before (after ++ rest) word parts
          (λ other f. omega (arith, ap length (one_answer words other rest f e), length-append after rest)) (answer
          (before ++ word ∷ [])) refl out;
      out_of_place = out_of_place words s.front rest written s.parts e;
      ended = λ h tree l. let d = sym e ∙ sentence_read words tree l in cc d;
    }

-- a sentence has no fault
pub sentence_no_fault : (words rest : List Word) (tree : Tree) → Sentence tree words → IsSyntaxFault words rest → ⊥
sentence_no_fault words [] tree l x = x.ended refl tree l
sentence_no_fault words (t ∷ r) tree l x =
    in_place words x.front r t x.parts (λ other f. absurd (let d = sym f ∙
    sentence_read words tree l in cc d)) (answer (x.front ++ t ∷ [])) refl (x.out_of_place t r refl)
