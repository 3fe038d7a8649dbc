-- Words before, after and around a text.
use Rattle.std.proofs.Common.{◌≡◌, Bool, true, refl}
use Rattle.tdl_grammar.specs.Grammar as G
use Rattle.tdl_grammar.specs.Parsing.{one, both, many}
use Rattle.tdl_grammar.specs.Goodness.{Good, Apart, never, any}
use Rattle.tdl_grammar.proofs.Goods.{good_one, good_both, good_before, good_made}
use Rattle.tdl_grammar.proofs.Many.{nullable_many}
use Rattle.tdl_tree.specs.declared.words.Word.{Word}
use Rattle.tdl_tree.specs.declared.words.WordKind.{WordKind}
use Rattle.tdl_tree.specs.Kinds.{is}
use Rattle.tdl_tree.specs.Words as W
use Rattle.tdl_tree.specs.Words.{Text, first}
use Rattle.tdl_parse.specs.Reading as R
use Rattle.tdl_parse.specs.Reading.{Parser}
use Rattle.tdl_parse.proofs.WordTests.{word_of}

-- nothing goes on where nothing does
pub never_apart : (s : Word → Bool) → Apart never s
never_apart s word e = refl

-- a word of a kind
pub good_word : (kind : WordKind) → is kind (word_of kind) ≡ true → Good (one (is kind)) (G.one (is kind)) (G.one
    (is kind)) (is kind) never
good_word kind e = good_one (is kind) (word_of kind) e

-- a word of this kind that stands for a
pub good_says : {A : Type 0} (kind : WordKind) → is kind (word_of kind) ≡ true → (a : A) →
    Good (R.says kind a) (W.says kind a) (W.says kind a) (is kind) never
good_says kind e a = good_made (λ _. a) (one (is kind)) _ _ (is kind) never (good_word kind e)

-- a word of this kind, then p
pub good_after : {A : Type 0} (kind : WordKind) → is kind (word_of kind) ≡ true → (p : Parser A) (L M : Text A)
    (s g : Word → Bool) → Good p L M s g →
    Good (R.after kind p) (W.after kind L) (W.after kind M) (is kind) g
good_after kind e p L M s g x =
    good_made G.second (both (one (is kind)) p) _ _ (is kind) g
    (good_both (one (is kind)) p (G.one (is kind)) (G.one (is kind)) L M (is kind) never s g (never_apart s)
    (good_word kind e) x)

-- p, then a word of this kind
pub good_before_word : {A : Type 0} (kind : WordKind) → is kind (word_of kind) ≡ true →
    (p : Parser A) (L M : Text A) (s g : Word → Bool) → Apart g (is kind) → Good p L M s g →
    Good (R.before kind p) (W.before kind L) (W.before kind M) s never
good_before_word kind e p L M s g apart x =
    good_made first (both p (one (is kind))) _ _ s never
    (good_both p (one (is kind)) L M (G.one (is kind)) (G.one (is kind)) s g (is kind) never apart x (good_word kind e))

-- any number of p, then a word of this kind
pub good_all_before : {A : Type 0} (kind : WordKind) → is kind (word_of kind) ≡ true → (p : Parser A) (L M : Text A)
    (s g : Word → Bool) → Apart g s → Apart (any s g) (is kind) → Good p L M s g →
    Good (R.all_before s kind p) (W.all_before kind L) (W.all_before kind M) (any s (is kind)) never
good_all_before kind e p L M s g apart ends x =
    good_made first (both (many s p) (one (is kind))) _ _ (any s (is kind)) never
    (good_before (many s p) (one (is kind)) (G.many L) (G.many M) (G.one (is kind)) (G.one (is kind)) s (any s g)
    (is kind) never ends
    (nullable_many p L M s g apart x) (good_word kind e))
