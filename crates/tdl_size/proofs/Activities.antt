-- What activities evaluate is within the limits of the grammar.
use Rattle.std.proofs.Common.{◌≡◌, inl, inr, ℕ, List, [], ◌∷◌, All, Option, None, Some}
use Rattle.std.specs.Prelude.{IfSome}
use Rattle.std.proofs.lemmas.List.Elements.{All-nil, All-cons, All-append}
use Rattle.tdl_grammar.specs.Grammar as G
use Rattle.tdl_tree.specs.declared.words.Word.{Word}
use Rattle.tdl_tree.specs.declared.words.WordKind.TheVariants as k
use Rattle.tdl_tree.specs.declared.activities.ActKind.{ActKind}
use Rattle.tdl_tree.specs.declared.activities.ActKind.TheVariants as acts
use Rattle.tdl_tree.specs.declared.expressions.ExprTree.{ExprTree}
use Rattle.tdl_tree.specs.Kinds.{is}
use Rattle.tdl_tree.specs.Words as W
use Rattle.tdl_tree.specs.Words.{Text}
use Rattle.tdl_tree.specs.Names as N
use Rattle.tdl_tree.specs.Activities as A
use Rattle.tdl_rules.specs.Trees.{expressions_in, guard_expressions}
use Rattle.tdl_size.specs.Sized.{IsSmall, IsSmallActivity}
use Rattle.tdl_size.proofs.Gives.{Gives, gives_both, gives_second, gives_made, gives_either, gives_optional, gives_separated}
use Rattle.tdl_size.proofs.Statements.{E, outermost_small, gives_after, gives_before}

-- a guard
guard_small : (guard : Option ExprTree) → IfSome guard IsSmall → All IsSmall (guard_expressions guard)
guard_small None h = All-nil IsSmall
guard_small (Some e) h = All-cons IsSmall e [] h (All-nil IsSmall)

module _ (Good : Word → Type 0) (d : ℕ) where
  -- arguments
  arguments_small : Gives Good (A.arguments (E Good d)) (All IsSmall)
  arguments_small args ts good (inl l) = none args l.2
    where
      none : (args : List ExprTree) → args ≡ [] → All IsSmall args
      none [] e = All-nil IsSmall
      none (a ∷ more) e = absurd (cc e)
  arguments_small args ts good (inr l) =
      gives_before Good d k.RightParenthesis _ (All IsSmall)
      (gives_separated Good (is k.Comma) (E Good d) IsSmall (outermost_small Good d)) args ts good l

  -- what an activity does evaluates small expressions
  abbrev DoesSmall : ActKind → Type 0
  DoesSmall what = All IsSmall (expressions_in what)

  -- an invocation
  task_small :
      Gives Good (G.made A.task_of (G.both N.id (W.after k.LeftParenthesis (A.arguments (E Good d))))) DoesSmall
  task_small =
      gives_made Good A.task_of _ DoesSmall
      (gives_second Good N.id _ (All IsSmall) (gives_after Good d k.LeftParenthesis _ (All IsSmall) arguments_small))

  -- an update
  update_small : Gives Good (G.made A.update_of (G.both N.id (W.after k.Becomes (E Good d)))) DoesSmall
  update_small =
      gives_made Good A.update_of _ DoesSmall (λ x ts good l.
      All-cons IsSmall x.1 [] (gives_second Good N.id _ IsSmall (gives_after Good d k.Becomes (E Good d) IsSmall
      (outermost_small Good d)) x ts good l) (All-nil IsSmall))

  -- what is written before a guard
  deed_small : Gives Good (A.deed (E Good d)) (λ x. DoesSmall x.1.1)
  deed_small =
      gives_either Good _ _ _
      (gives_second Good _ _ (λ x. DoesSmall x.1) (gives_second Good A.freq _ DoesSmall task_small))
      (gives_either Good _ _ _
      (gives_second Good _ _ (λ x. DoesSmall x.1) (gives_second Good A.freq _ DoesSmall update_small))
      (gives_second Good _ _ (λ x. DoesSmall x.1) (gives_second Good A.freq _ DoesSmall
      (gives_made Good acts.Switch _ DoesSmall (λ x ts good l. All-nil IsSmall)))))

  -- an activity
  pub act_small : Gives Good (A.act (E Good d)) IsSmallActivity
  act_small =
      gives_made Good A.act_of _ IsSmallActivity (λ x ts good l.
      let parts = gives_before Good d k.Semicolon _ _ (gives_both Good (A.deed (E Good d)) _
      (λ x. DoesSmall x.1.1) (λ o. IfSome o IsSmall) deed_small
      (gives_optional Good _ IsSmall (gives_after Good d k.If (E Good d) IsSmall (outermost_small Good d))))
      x ts good l in
      All-append IsSmall (expressions_in x.0.1.1) (guard_expressions x.1) parts.0 (guard_small x.1 parts.1))
