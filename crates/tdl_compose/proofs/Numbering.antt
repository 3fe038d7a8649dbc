-- The numbers that tables give are those that the sources say.
use Rattle.std.proofs.Common.{◌≡◌, ℕ, ◌<◌, List, Bool, Option, Some, None, length, ap, sym, ◌∙◌, arith}
use Rattle.std.specs.Prelude.{slice_get, option_map, unwrap_or, IfSome}
use Rattle.std.proofs.lemmas.Option.{slice_get_within}
use Rattle.tdl_base.specs.declared.kinds.Kind.{Kind}
use Rattle.tdl_base.specs.declared.numbers.ModeId.{ModeId}
use Rattle.tdl_base.specs.declared.numbers.TaskId.{TaskId}
use Rattle.tdl_tree.specs.declared.declarations.Decl.{Decl}
use Rattle.tdl_tree.specs.declared.declarations.Tree.{Tree}
use Rattle.tdl_tree.specs.declared.names.Id.{Id}
use Rattle.tdl_rules.specs.Lists.{first_place}
use Rattle.tdl_rules.specs.Naming.{Scope, TaskMeant, meant, as_task, as_actuator, as_mode, exporter}
use Rattle.tdl_program.specs.Ordinals.{ordinal, is_task, is_actuator, is_mode, declarations_of}
use Rattle.tdl_program.specs.Activities.{task_number, actuator_number, mode_number}
use Rattle.tdl_program.specs.Programs.{is_start, start_of}
use Rattle.tdl_program.proofs.Looking.{exporter-at}
use Rattle.tdl_compose.specs.Bounds.{KeepsBounds, IsFaultless}
use Rattle.tdl_compose.proofs.Bounded.{scope_stands, own_declarations, keeps_bounds}

module _ (sources : List Tree) (scope now : Scope) (home : IsFaultless sources scope) (view : scope ≡ now) where
  -- an ordinal among the declarations of the source is one among those of the module
  own_ordinal : (passes : Decl → Bool) (file k result : ℕ) → file ≡ scope.file →
      result ≡ ordinal passes (declarations_of sources file) k → result ≡ ordinal passes now.tree.decls k
  own_ordinal passes file k result here counted =
      counted ∙ ap (λ (f : ℕ). ordinal passes (declarations_of sources f) k) here
      ∙ ap (λ (ds : List Decl). ordinal passes ds k) (own_declarations sources scope home)
      ∙ ap (λ (s : Scope). ordinal passes s.tree.decls k) view

  -- the tree is the module's
  own_tree : (tree : Tree) → tree ≡ scope.tree → tree ≡ now.tree
  own_tree tree own = own ∙ ap (λ (s : Scope). s.tree) view

  -- a task
  pub task_numbered : (file number result : ℕ) (tree : Tree) (x : Id) (t : TaskMeant) → file ≡ scope.file →
      tree ≡ scope.tree → number ≡ t.number → Some t ≡ as_task (meant tree x.text) →
      result ≡ ordinal is_task (declarations_of sources file) number →
      ◌≡◌ {A = TaskId} (record { 0 = result }) (task_number now x)
  task_numbered file number result tree x t here own same is counted =
      ap (λ (n : ℕ). record { 0 = n }) (own_ordinal is_task file number result here counted
      ∙ ap (ordinal is_task now.tree.decls) same
      ∙ ap (λ (o : Option TaskMeant).
      unwrap_or (option_map (λ (t : TaskMeant). ordinal is_task now.tree.decls t.number) o) 0)
      (is ∙ ap (λ (tree : Tree). as_task (meant tree x.text)) (own_tree tree own)))

  -- an actuator
  pub actuator_numbered : (file number result : ℕ) (tree : Tree) (x : Id) (kind : Kind) → file ≡ scope.file →
      tree ≡ scope.tree → Some (number, kind) ≡ as_actuator (meant tree x.text) →
      result ≡ ordinal is_actuator (declarations_of sources file) number → result ≡ actuator_number now x
  actuator_numbered file number result tree x kind here own is counted =
      own_ordinal is_actuator file number result here counted
      ∙ ap (λ (o : Option (ℕ × Kind)).
      unwrap_or (option_map (λ (a : ℕ × Kind). ordinal is_actuator now.tree.decls a.0) o) 0)
      (is ∙ ap (λ (tree : Tree). as_actuator (meant tree x.text)) (own_tree tree own))

  -- a mode
  pub mode_numbered : (file number result : ℕ) (tree : Tree) (x : Id) → file ≡ scope.file → tree ≡ scope.tree →
      Some number ≡ as_mode (meant tree x.text) → result ≡ ordinal is_mode (declarations_of sources file) number →
      ◌≡◌ {A = ModeId} (record { 0 = result }) (mode_number now x)
  mode_numbered file number result tree x here own is counted =
      ap (λ (n : ℕ). record { 0 = n }) (own_ordinal is_mode file number result here counted
      ∙ ap (λ (o : Option ℕ). unwrap_or (option_map (λ (k : ℕ). ordinal is_mode now.tree.decls k) o) 0)
      (is ∙ ap (λ (tree : Tree). as_mode (meant tree x.text)) (own_tree tree own)))

  -- the start mode
  pub start_numbered : (file number result : ℕ) (decls : List Decl) → file ≡ scope.file → decls ≡ now.tree.decls →
      Some number ≡ first_place is_start decls → result ≡ ordinal is_mode (declarations_of sources file) number →
      ◌≡◌ {A = ModeId} (record { 0 = result }) (start_of now.tree.decls)
  start_numbered file number result decls here own is counted =
      ap (λ (n : ℕ). record { 0 = n }) (own_ordinal is_mode file number result here counted
      ∙ ap (λ (o : Option ℕ). unwrap_or (option_map (ordinal is_mode now.tree.decls) o) 0)
      (is ∙ ap (first_place is_start) own))

  -- a module that is imported is one of the sources
  pub import_within : (file : ℕ) (tree : Tree) (x : List ℕ) → Some (file, tree) ≡ exporter scope x →
      file < length sources
  import_within file tree x is =
      let earlier = (exporter-at scope x file tree (sym is)).below in
      let own = slice_get_within sources scope.file scope.tree (scope_stands sources scope home).there in
      omega (arith, earlier, own)

  -- a declaration keeps its bounds
  pub entry_bounded : (number : ℕ) (tree : Tree) (o : Option Decl) → tree ≡ scope.tree →
      o ≡ slice_get tree.decls number → IfSome o KeepsBounds
  entry_bounded number tree None own is = tt
  entry_bounded number tree (Some d) own is =
      keeps_bounds sources scope home number d
      (ap (λ (tree : Tree). slice_get tree.decls number) (sym own) ∙ sym is)
