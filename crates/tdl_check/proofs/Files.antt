-- Rules whose faults are in their scope's file: of whatever parts of a set of sources they are asked.
use Rattle.std.proofs.Common.{ℕ, suc, ◌+◌, ◌<◌, ◌≤◌, List, [], ◌∷◌, ◌++◌, map, All, Bool, true, false, Some, length, arith}
use Rattle.std.proofs.lemmas.List.Elements.{All-nil, All-cons, All-append}
use Rattle.tdl_base.specs.Lists.{numbered}
use Rattle.tdl_tree.specs.declared.activities.Act.{Act}
use Rattle.tdl_tree.specs.declared.declarations.Decl.{Decl}
use Rattle.tdl_tree.specs.declared.declarations.Decl.TheVariants as decl
use Rattle.tdl_tree.specs.declared.declarations.Tree.{Tree}
use Rattle.tdl_tree.specs.declared.expressions.ExprTree.{ExprTree}
use Rattle.tdl_tree.specs.declared.statements.StmtTree.{StmtTree}
use Rattle.tdl_tree.specs.declared.statements.StmtTree.TheOpen.{StmtTree-F}
use Rattle.tdl_tree.specs.declared.statements.StmtTree.TheViews.{out-StmtTree}
use Rattle.tdl_rules.specs.declared.fault.Fault.{Fault}
use Rattle.tdl_rules.specs.Lists.{each}
use Rattle.tdl_rules.specs.Naming.{Scope}
use Rattle.tdl_rules.specs.Times.{time_us}
use Rattle.tdl_rules.specs.Trees.{within, expressions_of, activity_expressions, body_statements}
use Rattle.tdl_rules.specs.Parts.{fault_if, modules, in_declarations, at_statements, in_statements, at_activities, in_activities, in_outermost, in_expressions, at_mode, in_modes}
use Rattle.tdl_names.specs.Standing.{outside}

-- what holds of all that is made of each item
pub all_each : {A B : Type 0} (P : B → Type 0) (f : A → List B) → ((x : A) → All P (f x)) → (xs : List A) →
    All P (each f xs)
all_each P f all [] = All-nil P
all_each P f all (x ∷ xs) = All-append P (f x) (each f xs) (all x) (all_each P f all xs)

module _ (n : ℕ) where
  -- the fault is in one of the first n files
  abbrev pub IsIn : Fault → Type 0
  IsIn f = f.file < n

  -- so are all of a list
  abbrev pub AllIn : List Fault → Type 0
  AllIn fs = All IsIn fs

  -- no fault
  pub none : AllIn []
  none = All-nil IsIn

  -- one, in this file
  pub one : (f : Fault) → f.file < n → AllIn (f ∷ [])
  one f here = All-cons IsIn f [] here none

  -- two lists
  pub both : (fs gs : List Fault) → AllIn fs → AllIn gs → AllIn (fs ++ gs)
  both fs gs a b = All-append IsIn fs gs a b

  -- one that may be
  pub if_one : (t : Bool) (f : Fault) → f.file < n → AllIn (fault_if t f)
  if_one true f here = one f here
  if_one false f here = none

  -- those of each item
  pub of_each : {A : Type 0} (f : A → List Fault) → ((x : A) → AllIn (f x)) → (xs : List A) → AllIn (each f xs)
  of_each f all xs = all_each IsIn f all xs

  -- one of each item
  pub of_map : {A : Type 0} (f : A → Fault) → ((x : A) → IsIn (f x)) → (xs : List A) → AllIn (map f xs)
  of_map f all [] = none
  of_map f all (x ∷ xs) = All-cons IsIn (f x) (map f xs) (all x) (of_map f all xs)

module _ (sources : List Tree) where
  -- the faults that a rule gives in a scope are in the files of these sources, where the scope is
  abbrev pub Sound : (Scope → List Fault) → Type 0
  Sound f = (scope : Scope) → scope.file < length sources → AllIn (length sources) (f scope)

  -- what holds of all that is made of the sources from number k on
  from : {B : Type 0} (P : B → Type 0) (f : Scope → List B) →
      ((scope : Scope) → scope.file < length sources → All P (f scope)) → (k : ℕ) (trees : List Tree) →
      k + length trees ≤ length sources → All P (each f (numbered k (outside sources) trees))
  from P f all k [] few = All-nil P
  from P f all k (tree ∷ trees) few =
      All-append P (f (outside sources k tree)) (each f (numbered (suc k) (outside sources) trees))
      (all (outside sources k tree) (omega (arith, few))) (from P f all (suc k) trees (omega (arith, few)))

  -- of each module
  pub all_modules : {B : Type 0} (P : B → Type 0) (f : Scope → List B) →
      ((scope : Scope) → scope.file < length sources → All P (f scope)) → All P (each f (modules sources))
  all_modules P f all = from P f all 0 sources (omega arith)

  -- in each module
  pub of_modules : (f : Scope → List Fault) → Sound f → AllIn (length sources) (each f (modules sources))
  of_modules f sound = all_modules (IsIn (length sources)) f sound

  -- in each declaration
  pub of_declarations : (f : Scope → Decl → List Fault) → ((d : Decl) → Sound (λ scope. f scope d)) →
      AllIn (length sources) (in_declarations f sources)
  of_declarations f sound =
      of_modules (λ scope. each (f scope) scope.tree.decls)
      (λ scope here. of_each (length sources) (f scope) (λ d. sound d scope here) scope.tree.decls)

  -- in each statement
  pub of_statements : (f : Scope → StmtTree-F StmtTree → List Fault) →
      ((layer : StmtTree-F StmtTree) → Sound (λ scope. f scope layer)) →
      AllIn (length sources) (in_statements f sources)
  of_statements f sound = of_declarations (at_statements (λ scope s. f scope (out-StmtTree s))) by_declaration
    where
      by_declaration : (d : Decl) → Sound (λ scope. at_statements (λ scope s. f scope (out-StmtTree s)) scope d)
      by_declaration (decl.Task public name worst ports body) scope here =
          of_each (length sources) (λ (s : StmtTree). f (record scope { body = Some ports }) (out-StmtTree s))
          (λ s. sound (out-StmtTree s) (record scope { body = Some ports }) here) (body_statements body)
      by_declaration (decl.Const public kind name value) scope here = none (length sources)
      by_declaration (decl.Sensor kind name) scope here = none (length sources)
      by_declaration (decl.Actuator kind name initial) scope here = none (length sources)
      by_declaration (decl.Mode start name period acts) scope here = none (length sources)

  -- in each list of activities
  pub of_modes : (f : Scope → ℕ → List Act → List Fault) →
      ((period : ℕ) (acts : List Act) → Sound (λ scope. f scope period acts)) →
      AllIn (length sources) (in_modes f sources)
  of_modes f sound = of_declarations (at_mode f) by_declaration
    where
      by_declaration : (d : Decl) → Sound (λ scope. at_mode f scope d)
      by_declaration (decl.Mode start name period acts) scope here = sound (time_us period) acts scope here
      by_declaration (decl.Const public kind name value) scope here = none (length sources)
      by_declaration (decl.Sensor kind name) scope here = none (length sources)
      by_declaration (decl.Actuator kind name initial) scope here = none (length sources)
      by_declaration (decl.Task public name worst ports body) scope here = none (length sources)

  -- in each activity
  pub of_activities : (f : Scope → ℕ → Act → List Fault) →
      ((period : ℕ) (activity : Act) → Sound (λ scope. f scope period activity)) →
      AllIn (length sources) (in_activities f sources)
  of_activities f sound = of_declarations (at_activities f) by_declaration
    where
      by_declaration : (d : Decl) → Sound (λ scope. at_activities f scope d)
      by_declaration (decl.Mode start name period acts) scope here =
          of_each (length sources) (f scope (time_us period)) (λ activity. sound
          (time_us period) activity scope here) acts
      by_declaration (decl.Const public kind name value) scope here = none (length sources)
      by_declaration (decl.Sensor kind name) scope here = none (length sources)
      by_declaration (decl.Actuator kind name initial) scope here = none (length sources)
      by_declaration (decl.Task public name worst ports body) scope here = none (length sources)

  -- in each outermost expression
  pub of_outermost : (f : Scope → ExprTree → List Fault) → ((e : ExprTree) → Sound (λ scope. f scope e)) →
      AllIn (length sources) (in_outermost f sources)
  of_outermost f sound =
      both (length sources) (in_statements (λ scope s. each (f scope) (expressions_of s)) sources)
      (in_activities (λ scope period activity. each (f scope) (activity_expressions activity)) sources)
      (of_statements (λ scope s. each (f scope) (expressions_of s))
      (λ s scope here. of_each (length sources) (f scope) (λ e. sound e scope here) (expressions_of s)))
      (of_activities (λ scope period activity. each (f scope) (activity_expressions activity))
      (λ period activity scope here.
      of_each (length sources) (f scope) (λ e. sound e scope here) (activity_expressions activity)))

  -- in each expression
  pub of_expressions : (f : Scope → ExprTree → List Fault) → ((e : ExprTree) → Sound (λ scope. f scope e)) →
      AllIn (length sources) (in_expressions f sources)
  of_expressions f sound =
      of_outermost (λ scope e. each (f scope) (within e))
      (λ e scope here. of_each (length sources) (f scope) (λ inner. sound inner scope here) (within e))
