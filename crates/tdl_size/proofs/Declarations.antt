-- Declarations and sources are within the limits of the grammar, and declare identifiers.
use Rattle.std.proofs.Common.{◌≡◌, ℕ, Bool, true, false, List, All}
use Rattle.tdl_base.specs.declared.limits.TheConstants.{NESTED_BLOCKS}
use Rattle.tdl_grammar.specs.Grammar as G
use Rattle.tdl_tree.specs.declared.words.Word.{Word}
use Rattle.tdl_tree.specs.declared.words.WordKind.TheVariants as k
use Rattle.tdl_tree.specs.declared.names.Id.{Id}
use Rattle.tdl_tree.specs.declared.declarations.PortDecl.{PortDecl}
use Rattle.tdl_tree.specs.declared.declarations.Sort.TheVariants as sort
use Rattle.tdl_tree.specs.declared.declarations.Tree.{Tree}
use Rattle.tdl_tree.specs.declared.statements.StmtTree.{StmtTree}
use Rattle.tdl_tree.specs.Kinds.{is}
use Rattle.tdl_tree.specs.Words as W
use Rattle.tdl_tree.specs.Words.{Text}
use Rattle.tdl_tree.specs.Names as N
use Rattle.tdl_tree.specs.Statements as S
use Rattle.tdl_tree.specs.Activities as A
use Rattle.tdl_tree.specs.Declarations as D
use Rattle.tdl_tree.specs.Sentences.{Sentence}
use Rattle.tdl_size.specs.Sized.{IsIdentifier, IsSmallActivity, IsSizedBody, IsSizedDecl, IsSized}
use Rattle.tdl_size.proofs.Gives.{Gives, gives_both, gives_first, gives_second, gives_made, gives_either, gives_many, gives_one}
use Rattle.tdl_size.proofs.Statements.{E, Fits, Within, within_all, statements_fit, gives_after, gives_before, gives_all_before}
use Rattle.tdl_size.proofs.Activities.{act_small}

-- where the word is a name, it is an identifier
abbrev pub IsNamed : Word → Type 0
IsNamed word = is k.Name word ≡ true → IsIdentifier word.text

-- a name is an identifier
abbrev Named : Id → Type 0
Named name = IsIdentifier name.text

id_named : Gives IsNamed N.id Named
id_named =
    gives_made IsNamed N.id_of _ Named (λ word ts good l.
    let own = gives_one IsNamed (is k.Name) word ts good l in own.1 own.0)

-- a body's statements are those of a sized body
sized_body : (body : List StmtTree) → Within NESTED_BLOCKS body → IsSizedBody body
sized_body body h = record { statements = h.statements; levels = h.deep }

module _ (d : ℕ) where
  -- a constant
  const_sized : (public : Bool) → Gives IsNamed (D.const public) IsSizedDecl
  const_sized public =
      gives_made IsNamed (D.const_of public) _ IsSizedDecl
      (gives_after IsNamed d k.Const _ (λ x. Named x.1.0)
      (gives_second IsNamed N.kind _ (λ x. Named x.0) (gives_first IsNamed N.id _ Named id_named)))

  -- a sensor
  sensor_sized : Gives IsNamed D.sensor IsSizedDecl
  sensor_sized =
      gives_made IsNamed D.sensor_of _ IsSizedDecl
      (gives_after IsNamed d k.Sensor _ (λ x. Named x.1.0)
      (gives_second IsNamed N.kind _ (λ x. Named x.0)
      (gives_before IsNamed d k.Semicolon _ (λ x. Named x.0) (gives_first IsNamed N.id _ Named id_named))))

  -- an actuator
  actuator_sized : Gives IsNamed D.actuator IsSizedDecl
  actuator_sized =
      gives_made IsNamed D.actuator_of _ IsSizedDecl
      (gives_after IsNamed d k.Actuator _ (λ x. Named x.1.0.0)
      (gives_second IsNamed N.kind _ (λ x. Named x.0.0)
      (gives_before IsNamed d k.Semicolon _ (λ x. Named x.0.0)
      (gives_first IsNamed _ _ (λ x. Named x.0) (gives_first IsNamed N.id _ Named id_named)))))

  -- a port
  abbrev PortNamed : PortDecl → Type 0
  PortNamed port = Named port.name

  -- one without a literal
  plain_named : (sort : _) (kind : _) →
      Gives IsNamed (G.made (D.port_of sort) (W.after kind (G.both N.kind (W.before k.Semicolon N.id)))) PortNamed
  plain_named sort kind =
      gives_made IsNamed (D.port_of sort) _ PortNamed
      (gives_after IsNamed d kind _ (λ x. Named x.1)
      (gives_second IsNamed N.kind _ Named (gives_before IsNamed d k.Semicolon N.id Named id_named)))

  port_named : Gives IsNamed D.port PortNamed
  port_named =
      gives_either IsNamed _ _ PortNamed (plain_named sort.Input k.Input)
      (gives_either IsNamed _ _ PortNamed
      (gives_made IsNamed D.output_of _ PortNamed
      (gives_after IsNamed d k.Output _ (λ x. Named x.1.0)
      (gives_second IsNamed N.kind _ (λ x. Named x.0)
      (gives_before IsNamed d k.Semicolon _ (λ x. Named x.0) (gives_first IsNamed N.id _ Named id_named)))))
      (plain_named sort.Local k.Local))

  -- blocks within the limit
  abbrev B : Text (List StmtTree)
  B = S.block NESTED_BLOCKS (E IsNamed d)

  -- a task
  task_sized : (public : Bool) → Gives IsNamed (D.task public (E IsNamed d) B) IsSizedDecl
  task_sized public =
      gives_made IsNamed (D.task_of public) _ IsSizedDecl (λ x ts good l.
      let parts = gives_after IsNamed d k.Task _ _
      (gives_both IsNamed N.id _ Named _ id_named
      (gives_second IsNamed _ _ _
      (gives_after IsNamed d k.LeftBrace _ _
      (gives_both IsNamed (G.many D.port) _ (All PortNamed) (All (Fits NESTED_BLOCKS))
      (gives_many IsNamed D.port PortNamed port_named)
      (gives_all_before IsNamed d k.RightBrace _ (Fits NESTED_BLOCKS) (statements_fit IsNamed d NESTED_BLOCKS)))))) x
      ts good l in
      (parts.0, parts.1.0, sized_body x.1.1.1 (within_all NESTED_BLOCKS x.1.1.1 parts.1.1)))

  -- a mode
  mode_sized : (start : Bool) → Gives IsNamed (A.mode start (E IsNamed d)) IsSizedDecl
  mode_sized start =
      gives_made IsNamed (A.mode_of start) _ IsSizedDecl (λ x ts good l.
      gives_after IsNamed d k.Mode _ (λ x. Named x.0 × All IsSmallActivity x.1.1)
      (gives_both IsNamed N.id _ Named (λ x. All IsSmallActivity x.1) id_named
      (gives_second IsNamed _ _ (All IsSmallActivity)
      (gives_after IsNamed d k.LeftBrace _ (All IsSmallActivity)
      (gives_all_before IsNamed d k.RightBrace _ IsSmallActivity (act_small IsNamed d))))) x ts good l)

  -- a declaration
  decl_sized : Gives IsNamed (D.decl (E IsNamed d) B) IsSizedDecl
  decl_sized =
      gives_either IsNamed _ _ IsSizedDecl
      (gives_after IsNamed d k.Public _ IsSizedDecl
      (gives_either IsNamed _ _ IsSizedDecl (const_sized true) (task_sized true)))
      (gives_either IsNamed _ _ IsSizedDecl (const_sized false)
      (gives_either IsNamed _ _ IsSizedDecl (task_sized false)
      (gives_either IsNamed _ _ IsSizedDecl sensor_sized
      (gives_either IsNamed _ _ IsSizedDecl actuator_sized
      (gives_either IsNamed _ _ IsSizedDecl
      (gives_after IsNamed d k.Start _ IsSizedDecl (mode_sized true)) (mode_sized false))))))

  -- a source
  pub source_sized : Gives IsNamed (D.source (E IsNamed d) B) IsSized
  source_sized =
      gives_made IsNamed D.tree_of _ IsSized (λ x ts good l.
      let parts = gives_after IsNamed d k.Module _ _
      (gives_both IsNamed N.id _ Named _ id_named
      (gives_after IsNamed d k.LeftBrace _ _
      (gives_second IsNamed _ _ (All IsSizedDecl)
      (gives_all_before IsNamed d k.RightBrace _ IsSizedDecl decl_sized)))) x ts good l in
      record { name = parts.0; decls = parts.1 })

-- the tree of a sentence whose names are identifiers
pub sentence_sized : (tree : Tree) (words : List Word) → All IsNamed words → Sentence tree words → IsSized tree
sentence_sized tree words good s = source_sized s.0 tree words good s.1
