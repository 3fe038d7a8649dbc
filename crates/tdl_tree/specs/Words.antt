-- Languages of words: a reserved word or a sign before, after or around another text.
use Rattle.std.specs.Prelude.{ℕ, Bool, ◌&&◌, List, bytes_eq}
use Rattle.tdl_grammar.specs.Grammar.{Lang, one, both, made, many, second}
use Rattle.tdl_tree.specs.declared.words.Word.{Word}
use Rattle.tdl_tree.specs.declared.words.WordKind.{WordKind}
use Rattle.tdl_tree.specs.declared.words.WordKind.TheVariants as k
use Rattle.tdl_tree.specs.Kinds.{is}

-- the lists of words that spell each tree
abbrev pub Text : Type 0 → Type 1
Text A = Lang Word A

-- the first of two trees
abbrev pub first : {A B : Type 0} → A × B → A
first x = x.0

-- a word of this kind that stands for a
abbrev pub says : {A : Type 0} → WordKind → A → Text A
says kind a = made (λ _. a) (one (is kind))

-- a word of this kind, then L
abbrev pub after : {A : Type 0} → WordKind → Text A → Text A
after kind L = made second (both (one (is kind)) L)

-- L, then a word of this kind
abbrev pub before : {A : Type 0} → WordKind → Text A → Text A
before kind L = made first (both L (one (is kind)))

-- any number of L, then a word of this kind
abbrev pub all_before : {A : Type 0} → WordKind → Text A → Text (List A)
all_before kind L = made first (both (many L) (one (is kind)))

-- the word is this name
abbrev pub is_named : List ℕ → Word → Bool
is_named text word = is k.Name word && bytes_eq word.text text
