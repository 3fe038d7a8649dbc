-- Over larger languages of expressions and blocks there are more sources.
use Rattle.std.proofs.Common.{ℕ, zero, suc, Bool, true, false, List, []}
use Rattle.tdl_grammar.specs.Grammar as G
use Rattle.tdl_grammar.specs.Goodness.{GrowsTo}
use Rattle.tdl_grammar.proofs.Growing.{grow_same, grow_both, grow_made, grow_either, grow_optional, grow_many, grow_separated}
use Rattle.tdl_tree.specs.declared.words.WordKind.{WordKind}
use Rattle.tdl_tree.specs.declared.words.WordKind.TheVariants as k
use Rattle.tdl_tree.specs.declared.expressions.ExprTree.{ExprTree}
use Rattle.tdl_tree.specs.declared.statements.StmtTree.{StmtTree}
use Rattle.tdl_tree.specs.declared.activities.ActKind.TheVariants as acts
use Rattle.tdl_tree.specs.Kinds.{is}
use Rattle.tdl_tree.specs.Words as W
use Rattle.tdl_tree.specs.Words.{Text, first}
use Rattle.tdl_tree.specs.Names as N
use Rattle.tdl_tree.specs.Statements as S
use Rattle.tdl_tree.specs.Activities as A
use Rattle.tdl_tree.specs.Declarations as D

-- ---- words around a text

grow_after : {A : Type 0} (d : ℕ) (kind : WordKind) (L L' : Text A) → GrowsTo d L L' → GrowsTo d (W.after kind L)
    (W.after kind L')
grow_after d kind L L' x = grow_made d G.second _ _ (grow_both d (G.one (is kind)) (G.one (is kind)) L L'
    (grow_same d (G.one (is kind))) x)

grow_before : {A : Type 0} (d : ℕ) (kind : WordKind) (L L' : Text A) → GrowsTo d L L' → GrowsTo d (W.before kind L)
    (W.before kind L')
grow_before d kind L L' x = grow_made d first _ _ (grow_both d L L' (G.one (is kind)) (G.one (is kind)) x
    (grow_same d (G.one (is kind))))

grow_all_before : {A : Type 0} (d : ℕ) (kind : WordKind) (L L' : Text A) → GrowsTo d L L' →
    GrowsTo d (W.all_before kind L) (W.all_before kind L')
grow_all_before d kind L L' x =
    grow_made d first _ _ (grow_both d (G.many L) (G.many L') (G.one (is kind)) (G.one (is kind))
    (grow_many d L L' x) (grow_same d (G.one (is kind))))

-- ---- statements and blocks

pub grow_stmt : (d : ℕ) (E E' : Text ExprTree) → GrowsTo d E E' → (B B' : Text (List StmtTree)) → GrowsTo d B B' →
    GrowsTo d (S.stmt E B) (S.stmt E' B')
grow_stmt d E E' x B B' y =
    grow_either d _ _ _ _
    (grow_made d S.assign_of _ _ (grow_both d N.id N.id _ _ (grow_same d N.id) (grow_after d k.Becomes _ _
    (grow_before d k.Semicolon E E' x))))
    (grow_either d _ _ _ _
    (grow_made d S.if_of _ _ (grow_after d k.If _ _ (grow_both d E E' _ _ x (grow_both d B B' _ _ y (grow_optional d
    _ _ (grow_after d k.Else B B' y))))))
    (grow_made d S.repeat_of _ _ (grow_after d k.Repeat _ _ (grow_both d N.number N.number B B'
    (grow_same d N.number) y))))

-- of larger expressions
pub grow_block : (d : ℕ) (E E' : Text ExprTree) → GrowsTo d E E' → (n : ℕ) → GrowsTo d (S.block n E) (S.block n E')
unfolding S.block
grow_block d E E' x zero = λ a ts b l. l
grow_block d E E' x (suc n) =
    grow_after d k.LeftBrace _ _ (grow_all_before d k.RightBrace (S.stmt E (S.block n E)) (S.stmt E' (S.block n E'))
    (grow_stmt d E E' x (S.block n E) (S.block n E') (grow_block d E E' x n)))

-- one deeper
pub deepen_block : (d : ℕ) (E : Text ExprTree) (n : ℕ) → GrowsTo d (S.block n E) (S.block (suc n) E)
unfolding S.block
deepen_block d E zero = λ a ts b l. absurd l
deepen_block d E (suc n) =
    grow_after d k.LeftBrace _ _ (grow_all_before d k.RightBrace (S.stmt E (S.block n E)) (S.stmt E (S.block (suc n) E))
    (grow_stmt d E E (grow_same d E) (S.block n E) (S.block (suc n) E) (deepen_block d E n)))

-- ---- activities and modes

grow_arguments : (d : ℕ) (E E' : Text ExprTree) → GrowsTo d E E' → GrowsTo d (A.arguments E) (A.arguments E')
grow_arguments d E E' x =
    grow_either d _ _ _ _ (grow_same d (W.says k.RightParenthesis [])) (grow_before d k.RightParenthesis _ _
    (grow_separated d (is k.Comma) E E' x))

grow_deed : (d : ℕ) (E E' : Text ExprTree) → GrowsTo d E E' → GrowsTo d (A.deed E) (A.deed E')
grow_deed d E E' x =
    grow_either d _ _ _ _
    (grow_both d (G.one (is k.Task)) (G.one (is k.Task)) _ _ (grow_same d (G.one (is k.Task)))
    (grow_both d A.freq A.freq _ _ (grow_same d A.freq)
    (grow_made d A.task_of _ _ (grow_both d N.id N.id _ _ (grow_same d N.id) (grow_after d k.LeftParenthesis _ _
    (grow_arguments d E E' x))))))
    (grow_either d _ _ _ _
    (grow_both d (G.one (is k.Update)) (G.one (is k.Update)) _ _ (grow_same d (G.one (is k.Update)))
    (grow_both d A.freq A.freq _ _ (grow_same d A.freq)
    (grow_made d A.update_of _ _ (grow_both d N.id N.id _ _ (grow_same d N.id) (grow_after d k.Becomes E E' x)))))
    (grow_same d (G.both (G.one (is k.Switch)) (G.both A.freq (G.made acts.Switch (W.after k.To N.id))))))

grow_act : (d : ℕ) (E E' : Text ExprTree) → GrowsTo d E E' → GrowsTo d (A.act E) (A.act E')
grow_act d E E' x =
    grow_made d A.act_of _ _ (grow_before d k.Semicolon _ _
    (grow_both d (A.deed E) (A.deed E') _ _ (grow_deed d E E' x) (grow_optional d _ _ (grow_after d k.If E E' x))))

grow_mode : (d : ℕ) (start : Bool) (E E' : Text ExprTree) → GrowsTo d E E' → GrowsTo d (A.mode start E)
    (A.mode start E')
grow_mode d start E E' x =
    grow_made d (A.mode_of start) _ _ (grow_after d k.Mode _ _
    (grow_both d N.id N.id _ _ (grow_same d N.id)
    (grow_both d _ _ _ _ (grow_same d (W.after k.LeftBracket (W.after k.Period (W.after k.Equals
    (W.before k.RightBracket N.time)))))
    (grow_after d k.LeftBrace _ _ (grow_all_before d k.RightBrace (A.act E) (A.act E') (grow_act d E E' x))))))

-- ---- declarations and sources

grow_task : (d : ℕ) (public : Bool) (E E' : Text ExprTree) → GrowsTo d E E' → (B B' : Text (List StmtTree)) →
    GrowsTo d B B' → GrowsTo d (D.task public E B) (D.task public E' B')
grow_task d public E E' x B B' y =
    grow_made d (D.task_of public) _ _ (grow_after d k.Task _ _
    (grow_both d N.id N.id _ _ (grow_same d N.id)
    (grow_both d _ _ _ _ (grow_same d (W.after k.LeftBracket (W.after k.Wcet (W.after k.Equals
    (W.before k.RightBracket N.time)))))
    (grow_after d k.LeftBrace _ _ (grow_both d (G.many D.port) (G.many D.port) _ _ (grow_same d (G.many D.port))
    (grow_all_before d k.RightBrace (S.stmt E B) (S.stmt E' B') (grow_stmt d E E' x B B' y)))))))

grow_decl : (d : ℕ) (E E' : Text ExprTree) → GrowsTo d E E' → (B B' : Text (List StmtTree)) → GrowsTo d B B' →
    GrowsTo d (D.decl E B) (D.decl E' B')
grow_decl d E E' x B B' y =
    grow_either d _ _ _ _ (grow_after d k.Public _ _ (grow_either d (D.const true) (D.const true) _ _ (grow_same d
    (D.const true)) (grow_task d true E E' x B B' y)))
    (grow_either d (D.const false) (D.const false) _ _ (grow_same d (D.const false))
    (grow_either d _ _ _ _ (grow_task d false E E' x B B' y)
    (grow_either d D.sensor D.sensor _ _ (grow_same d D.sensor)
    (grow_either d D.actuator D.actuator _ _ (grow_same d D.actuator)
    (grow_either d _ _ _ _ (grow_after d k.Start _ _ (grow_mode d true E E' x)) (grow_mode d false E E' x))))))

-- sources
pub grow_source : (d : ℕ) (E E' : Text ExprTree) → GrowsTo d E E' → (B B' : Text (List StmtTree)) → GrowsTo d B B' →
    GrowsTo d (D.source E B) (D.source E' B')
grow_source d E E' x B B' y =
    grow_made d D.tree_of _ _ (grow_after d k.Module _ _
    (grow_both d N.id N.id _ _ (grow_same d N.id)
    (grow_after d k.LeftBrace _ _
    (grow_both d _ _ _ _ (grow_same d (G.many (W.after k.Import (W.before k.Semicolon N.id))))
    (grow_all_before d k.RightBrace (D.decl E B) (D.decl E' B') (grow_decl d E E' x B B' y))))))
