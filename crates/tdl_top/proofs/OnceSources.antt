-- Of sources that are read one after the other, where the files tell what they hold, one answer at most is due.
use Rattle.std.proofs.Common.{◌≡◌, ◌≤◌, ◌<◌, ◌-◌, ℕ, suc, List, [], ◌∷◌, length, refl, ap, sym, ◌∙◌, subst, arith, inl, inr, Option, Some}
use Rattle.tdl_io.specs.Outside.{Held, IsLonger}
use Rattle.tdl_base.specs.declared.limits.TheConstants.{ALL_SOURCES_BYTES}
use Rattle.tdl_scan.specs.Tokens.{IsTokenFault}
use Rattle.tdl_scan.proofs.Found.{one_place, never_both}
use Rattle.tdl_tree.specs.declared.declarations.Tree.{Tree}
use Rattle.tdl_image.specs.declared.bundle.Bundle.{Bundle}
use Rattle.tdl_words.specs.Words.{Words, words_from}
use Rattle.tdl_report.specs.declared.status.Status.{Status}
use Rattle.tdl_report.specs.declared.status.Status.TheVariants.{TooLong, BadToken, BadSyntax, BadProgram, BadForm}
use Rattle.tdl_top.specs.Sources.{HasTree, HasSyntaxFault, IsRead, IsGood, HaveTrees, AtSource, SayProgram, HaveFault, limit_of}
use Rattle.tdl_top.specs.Taken.{bundle_for}
use Rattle.tdl_top.specs.Inputs.{HaveBundle}
use Rattle.tdl_top.specs.Refused.{ReadsSome, SourceRefused, SourcesRefused}
use Rattle.tdl_top.proofs.OneSource.{tree_once, program_once, fault_once, no_fault, syntax_once, syntax_tree}

-- ---- one file

module _ (held : Held) (name : List ℕ) (limit : ℕ) where
  -- two readings of a file are one
  pub same_bytes : (a b : List ℕ) → IsRead (Some held) name limit a → IsRead (Some held) name limit b → a ≡ b
  same_bytes a b x y = x.reads ∙ sym y.reads

  -- a file that was read within its limit is not longer
  pub not_long : (a : List ℕ) → IsRead (Some held) name limit a → IsLonger (Some held) name limit → ⊥
  not_long a x long = let le =
      subst (λ (b : List ℕ). length b ≤ limit) x.reads x.within in omega (arith, le, long)

  -- what holds of a file's bytes, at those of another reading of it
  pub moved : (P : List ℕ → Type 0) (bytes : List ℕ) → IsRead (Some held) name limit bytes →
      ReadsSome (Some held) name limit P → P bytes
  moved P bytes read x = subst P (same_bytes x.bytes bytes x.read read) x.holds_of

-- ---- one source

module _ (held : Held) (name : List ℕ) (left w : ℕ) where
  abbrev token_fault : (line col : ℕ) → List ℕ → Type 0
  token_fault line col bytes = IsTokenFault bytes line col

  abbrev syntax_fault : (line col : ℕ) → List ℕ → Type 0
  syntax_fault line col bytes = HasSyntaxFault bytes line col

  -- it is refused with one answer at most
  source_once : (s t : Status) → SourceRefused (Some held) s name left w →
      SourceRefused (Some held) t name left w → s ≡ t
  source_once (TooLong v) (TooLong u) x y = ap TooLong (x.0 ∙ sym y.0)
  source_once (TooLong v) (BadToken u l c) x y = absurd (not_long held name (limit_of left) y.1.bytes y.1.read x.1)
  source_once (TooLong v) (BadSyntax u l c) x y = absurd (not_long held name (limit_of left) y.1.bytes y.1.read x.1)
  source_once (BadToken v l c) (TooLong u) x y = absurd (not_long held name (limit_of left) x.1.bytes x.1.read y.1)
  source_once (BadToken v l c) (BadToken u m d) x y =
      let places = one_place y.1.bytes l c m d
      (moved held name (limit_of left) (token_fault l c) y.1.bytes y.1.read x.1) y.1.holds_of in
      λ i. BadToken ((x.0 ∙ sym y.0) i) (places.0 i) (places.1 i)
  source_once (BadToken v l c) (BadSyntax u m d) x y =
      absurd (never_both y.1.bytes y.1.holds_of.tokens l c y.1.holds_of.scanned
      (moved held name (limit_of left) (token_fault l c) y.1.bytes y.1.read x.1))
  source_once (BadSyntax v l c) (TooLong u) x y = absurd (not_long held name (limit_of left) x.1.bytes x.1.read y.1)
  source_once (BadSyntax v l c) (BadToken u m d) x y =
      absurd (never_both x.1.bytes x.1.holds_of.tokens m d x.1.holds_of.scanned
      (moved held name (limit_of left) (token_fault m d) x.1.bytes x.1.read y.1))
  source_once (BadSyntax v l c) (BadSyntax u m d) x y =
      let places = syntax_once y.1.bytes l c m d
      (moved held name (limit_of left) (syntax_fault l c) y.1.bytes y.1.read x.1) y.1.holds_of in
      λ i. BadSyntax ((x.0 ∙ sym y.0) i) (places.0 i) (places.1 i)
  source_once (TooLong v) t x y = absurd y
  source_once (BadToken v l c) t x y = absurd y
  source_once (BadSyntax v l c) t x y = absurd y
  source_once s t x y = absurd x

  -- where it is refused, it is not good
  source_good : (s : Status) (tree : Tree) (rest : ℕ) → SourceRefused (Some held) s name left w →
      IsGood (Some held) name left tree rest → ⊥
  source_good (TooLong v) tree rest x good = not_long held name (limit_of left) good.bytes good.read x.1
  source_good (BadToken v l c) tree rest x good =
      never_both good.bytes good.spelled.tokens l c good.spelled.scanned
      (moved held name (limit_of left) (token_fault l c) good.bytes good.read x.1)
  source_good (BadSyntax v l c) tree rest x good =
      syntax_tree good.bytes l c tree
      (moved held name (limit_of left) (syntax_fault l c) good.bytes good.read x.1) good.spelled
  source_good s tree rest x good = absurd x

  -- it has one tree, and leaves one number of bytes
  good_once : (a b : Tree) (q r : ℕ) → IsGood (Some held) name left a q → IsGood (Some held) name left b r →
      (a ≡ b) × (q ≡ r)
  good_once a b q r x y =
      let same : x.bytes ≡ y.bytes = same_bytes held name (limit_of left) x.bytes y.bytes x.read y.read in (
        tree_once y.bytes a b (subst (λ (bytes : List ℕ). HasTree bytes a) same x.spelled) y.spelled,
        x.leaves ∙ ap (λ (bytes : List ℕ). left - length bytes) same ∙ sym y.leaves,
      )

-- ---- sources in turn

module _ (held : Held) where
  -- they are refused with one answer at most
  in_turn_once : (names : List (List ℕ)) (left w : ℕ) (s t : Status) →
      AtSource (Some held) (SourceRefused (Some held) s) names left w →
      AtSource (Some held) (SourceRefused (Some held) t) names left w → s ≡ t
  in_turn_once [] left w s t x y = absurd x
  in_turn_once (name ∷ names) left w s t x y = elim x [
    | inl a ↦ elim y [
      | inl b ↦ source_once held name left w s t a b
      | inr b ↦ absurd (source_good held name left w s b.0 b.1 a b.2)
    ]
    | inr a ↦ elim y [
      | inl b ↦ absurd (source_good held name left w t a.0 a.1 b a.2)
      | inr b ↦ in_turn_once names b.1 (suc w) s t
          (subst (λ (rest : ℕ). AtSource (Some held) (SourceRefused (Some held) s) names rest (suc w))
          (good_once held name left w a.0 b.0 a.1 b.1 a.2 b.2).1 a.3) b.3
    ]
  ]

  -- where one is refused, they have no trees
  in_turn_good : (names : List (List ℕ)) (left w : ℕ) (s : Status) (trees : List Tree) →
      AtSource (Some held) (SourceRefused (Some held) s) names left w → HaveTrees (Some held) names left trees → ⊥
  in_turn_good [] left w s trees x y = x
  in_turn_good (name ∷ names) left w s [] x y = y
  in_turn_good (name ∷ names) left w s (tree ∷ trees) x y = elim x [
    | inl a ↦ source_good held name left w s tree y.0 a y.1
    | inr a ↦ in_turn_good names y.0 (suc w) s trees
        (subst (λ (rest : ℕ). AtSource (Some held) (SourceRefused (Some held) s) names rest (suc w))
        (good_once held name left w a.0 tree a.1 y.0 a.2 y.1).1 a.3) y.2
  ]

  -- they have one list of trees
  trees_once : (names : List (List ℕ)) (left w : ℕ) (a b : List Tree) → HaveTrees (Some held) names left a →
      HaveTrees (Some held) names left b → a ≡ b
  trees_once [] left w [] [] x y = refl
  trees_once [] left w [] (d ∷ ds) x y = absurd y
  trees_once [] left w (c ∷ cs) b x y = absurd x
  trees_once (name ∷ names) left w [] b x y = absurd x
  trees_once (name ∷ names) left w (c ∷ cs) [] x y = absurd y
  trees_once (name ∷ names) left w (c ∷ cs) (d ∷ ds) x y =
      let same = good_once held name left w c d x.0 y.0 x.1 y.1 in
      let more = trees_once names y.0 (suc w) cs ds
      (subst (λ (rest : ℕ). HaveTrees (Some held) names rest cs) same.1 x.2) y.2 in
      λ i. same.0 i ∷ more i

module _ (held : Held) (words : Words) (n : ℕ) where
  -- the trees of n sources are those of another reading of them
  trees_same : (a b : List Tree) → HaveTrees (Some held) (words_from words 1 n) ALL_SOURCES_BYTES a →
      HaveTrees (Some held) (words_from words 1 n) ALL_SOURCES_BYTES b → a ≡ b
  trees_same a b x y = trees_once held (words_from words 1 n) ALL_SOURCES_BYTES 1 a b x y

  -- the first fault of the trees of n sources is that of another reading of them
  fault_same : (a b : List Tree) (w rule line col : ℕ) →
      HaveTrees (Some held) (words_from words 1 n) ALL_SOURCES_BYTES a →
      HaveTrees (Some held) (words_from words 1 n) ALL_SOURCES_BYTES b →
      HaveFault a w rule line col → HaveFault b w rule line col
  fault_same a b w rule line col x y fault =
      subst (λ (trees : List Tree). HaveFault trees w rule line col) (trees_same a b x y) fault

  -- n sources are refused with one answer at most
  pub sources_once : (s t : Status) → SourcesRefused (Some held) words n s →
      SourcesRefused (Some held) words n t → s ≡ t
  sources_once (BadForm w) (BadForm v) x y = ap BadForm (x.0 ∙ sym y.0)
  sources_once (BadForm w) (BadProgram v r l c) x y =
      absurd (no_fault x.1.trees v r l c x.1.obey
      (fault_same y.trees x.1.trees v r l c y.read x.1.read y.fault))
  sources_once (BadProgram v r l c) (BadForm w) x y =
      absurd (no_fault y.1.trees v r l c y.1.obey
      (fault_same x.trees y.1.trees v r l c x.read y.1.read x.fault))
  sources_once (BadProgram w r l c) (BadProgram v s m d) x y =
      let same = fault_once y.trees w r l c v s m d (fault_same x.trees y.trees w r l c x.read y.read x.fault) y.fault in
      λ i. BadProgram (same.0 i) (same.1 i) (same.2 i) (same.3 i)
  sources_once (BadProgram w r l c) t x y =
      absurd (in_turn_good held (words_from words 1 n) ALL_SOURCES_BYTES 1 t x.trees y x.read)
  sources_once s (BadProgram v r l c) x y =
      absurd (in_turn_good held (words_from words 1 n) ALL_SOURCES_BYTES 1 s y.trees x y.read)
  sources_once (BadForm w) t x y =
      absurd (in_turn_good held (words_from words 1 n) ALL_SOURCES_BYTES 1 t x.1.trees y x.1.read)
  sources_once s (BadForm v) x y =
      absurd (in_turn_good held (words_from words 1 n) ALL_SOURCES_BYTES 1 s y.1.trees x y.1.read)
  sources_once s t x y = in_turn_once held (words_from words 1 n) ALL_SOURCES_BYTES 1 s t x y

  -- where they are refused they give no bundle
  pub sources_have : (s : Status) (b : Bundle) → SourcesRefused (Some held) words n s →
      HaveBundle (Some held) words n b → ⊥
  sources_have (BadForm w) b x has =
      x.1.other has.say.program
      (subst (λ (trees : List Tree). SayProgram trees has.say.program)
      (trees_same has.trees x.1.trees has.read x.1.read) has.say.say)
  sources_have (BadProgram w r l c) b x has =
      no_fault has.trees w r l c has.say.say.obey
      (fault_same x.trees has.trees w r l c x.read has.read x.fault)
  sources_have s b x has =
      in_turn_good held (words_from words 1 n) ALL_SOURCES_BYTES 1 s has.trees x has.read

  -- they give one bundle at most
  pub sources_bundle : (a b : Bundle) → HaveBundle (Some held) words n a → HaveBundle (Some held) words n b → a ≡ b
  sources_bundle a b x y =
      x.say.made
      ∙ ap bundle_for (program_once y.trees x.say.program y.say.program
      (subst (λ (trees : List Tree). SayProgram trees x.say.program)
      (trees_same x.trees y.trees x.read y.read) x.say.say) y.say.say)
      ∙ sym y.say.made
