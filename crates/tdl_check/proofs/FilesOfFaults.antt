-- Each fault of a set of sources is in one of them.
use Rattle.std.proofs.Common.{ℕ, ◌<◌, ◌-◌, List, [], ◌∷◌, ◌++◌, map, All, Bool, true, false, length}
use Rattle.std.specs.Prelude.{if◌then◌else◌, nat_lt}
use Rattle.std.proofs.lemmas.List.Elements.{All-nil, All-cons, All-head, All-tail, All-contains}
use Rattle.tdl_base.specs.declared.kinds.Kind.{Kind}
use Rattle.tdl_base.specs.declared.limits.TheConstants.{OCCURRENCES}
use Rattle.tdl_base.specs.Lists.{numbered}
use Rattle.tdl_tree.specs.declared.activities.Act.{Act}
use Rattle.tdl_tree.specs.declared.declarations.Decl.{Decl}
use Rattle.tdl_tree.specs.declared.declarations.Decl.TheVariants as decl
use Rattle.tdl_tree.specs.declared.declarations.PortDecl.{PortDecl}
use Rattle.tdl_tree.specs.declared.declarations.Tree.{Tree}
use Rattle.tdl_tree.specs.declared.expressions.ExprNode.TheViews.{out-ExprNode}
use Rattle.tdl_tree.specs.declared.names.Id.{Id}
use Rattle.tdl_tree.specs.declared.names.Lit.{Lit}
use Rattle.tdl_rules.specs.declared.fault.Fault.{Fault}
use Rattle.tdl_rules.specs.Earliest.{IsFirst}
use Rattle.tdl_rules.specs.Lists.{each, clashes}
use Rattle.tdl_rules.specs.Naming.{Scope, spot_of, space, ports_in}
use Rattle.tdl_rules.specs.Times.{time_us, bad_range}
use Rattle.tdl_rules.specs.Parts.{broken, modules, in_declarations, in_statements, in_activities, in_expressions}
use Rattle.tdl_rules.specs.NameRules.{later_names, c1_module, c1_modules, c1_spaces, c1_ports, c1, c2_import, c2, c3_name, c3_target, c3_activity, c3_c4, c6_statement, c6, c7_what, c7}
use Rattle.tdl_rules.specs.SortRules.{c5_operands, c5_statement, c5_activity, c5_literal, c5_literals, c5, literals, what_needs, guard_needs, c8_literal, c8_node, c8}
use Rattle.tdl_rules.specs.ModeRules.{c9_declaration, c9, c10_activity, c10, c11_activity, c11, start_of, starts_broken, c12, Invoked, invoked, overlap, c13_mode, c13, Updated, updated, same_update, c14_mode, c14, mode_lets, c15_activity, c15_mode, c15, c16_mode, c16, c17_declaration, c17_what, c17}
use Rattle.tdl_rules.specs.BoundRules.{c18_statement, c18, c19_outermost, c19, c20_declaration, c20, c21_module, c21_ports, count_of, counted, passes, c21}
use Rattle.tdl_rules.specs.Faults.{faults}
use Rattle.tdl_check.proofs.Files.{IsIn, AllIn, all_each, all_modules, none, one, both, if_one, of_each, of_map, of_modules, of_declarations, of_statements, of_modes, of_activities, of_outermost, of_expressions}
use Rattle.tdl_check.proofs.FilesOfRules.{lost_name, lost_target, no_value, as_many, operands_in, statement_in, what_in, guard_in, great_literal, great_number, period_in, range_in, starts_in, cut_in, own_mode_in, worst_in, short_in, turns_in, steps_in, past_in, counts_in}

module _ (sources : List Tree) where
  -- how many sources there are
  abbrev n : ℕ
  n = length sources

  -- C1
  c1_in : AllIn n (c1 sources)
  c1_in =
      both n (c1_modules sources ++ c1_spaces sources) (in_declarations c1_ports sources)
      (both n (c1_modules sources) (c1_spaces sources)
      (of_modules sources c1_module (λ scope here. if_one n _ _ here))
      (of_modules sources (λ scope. map (λ id. broken 1 scope.file (spot_of id)) (later_names (space scope.tree)))
      (λ scope here. of_map n (λ (id : Id). broken 1 scope.file (spot_of id)) (λ id. here) (later_names
      (space scope.tree)))))
      (of_declarations sources c1_ports (λ d scope here.
      of_map n (λ (id : Id). broken 1 scope.file (spot_of id)) (λ id. here)
      (later_names (map (λ (port : PortDecl). port.name) (ports_in d)))))

  -- C2
  c2_in : AllIn n (c2 sources)
  c2_in =
      of_modules sources (λ scope. each (c2_import scope) scope.tree.imports)
      (λ scope here. of_each n (c2_import scope) (λ id. if_one n _ _ here) scope.tree.imports)

  -- C3 and C4
  c3_c4_in : AllIn n (c3_c4 sources)
  c3_c4_in =
      both n (in_expressions c3_name sources ++ in_statements c3_target sources) (in_activities c3_activity sources)
      (both n (in_expressions c3_name sources) (in_statements c3_target sources)
      (of_expressions sources c3_name (λ e scope here. lost_name n scope here (out-ExprNode e.node)))
      (of_statements sources c3_target (λ layer scope here. lost_target n scope here layer)))
      (of_activities sources c3_activity (λ period activity scope here. if_one n _ _ here))

  -- C5
  c5_in : AllIn n (c5 sources)
  c5_in =
      both n _ (in_declarations c5_literals sources)
      (both n _ (in_activities c5_activity sources)
      (both n (in_expressions c5_operands sources) (in_statements c5_statement sources)
      (of_expressions sources c5_operands (λ e scope here. operands_in n scope here (out-ExprNode e.node)))
      (of_statements sources c5_statement (λ layer scope here. statement_in n scope here layer)))
      (of_activities sources c5_activity (λ period activity scope here.
      both n (what_needs scope activity.what) (guard_needs scope activity.guard) (what_in n scope here activity.what)
      (guard_in n scope here activity.guard))))
      (of_declarations sources c5_literals (λ d scope here.
      of_each n (λ (literal : Kind × Lit). c5_literal scope.file literal.0 literal.1) (λ literal. if_one n _ _ here)
      (literals d)))

  -- C6
  c6_in : AllIn n (c6 sources)
  c6_in = of_statements sources c6_statement (λ layer scope here. no_value n scope here layer)

  -- C7
  c7_in : AllIn n (c7 sources)
  c7_in =
      of_activities sources (λ scope period activity. c7_what scope activity.what)
      (λ period activity scope here. as_many n scope here activity.what)

  -- C8
  c8_in : AllIn n (c8 sources)
  c8_in =
      both n (in_expressions (λ scope e. c8_node scope (out-ExprNode e.node)) sources)
      (in_declarations (λ scope d. each (λ literal. c8_literal scope.file literal.1.value) (literals d)) sources)
      (of_expressions sources (λ scope e. c8_node scope (out-ExprNode e.node))
      (λ e scope here. great_number n scope here (out-ExprNode e.node)))
      (of_declarations sources (λ scope d. each (λ literal. c8_literal scope.file literal.1.value) (literals d))
      (λ d scope here. of_each n (λ (literal : Kind × Lit). c8_literal scope.file literal.1.value)
      (λ literal. great_literal n scope here literal.1.value) (literals d)))

  -- C9
  c9_in : AllIn n (c9 sources)
  c9_in = of_declarations sources c9_declaration (λ d scope here. period_in n scope here d)

  -- C10
  c10_in : AllIn n (c10 sources)
  c10_in = of_activities sources c10_activity (λ period activity scope here. if_one n _ _ here)

  -- C11
  c11_in : AllIn n (c11 sources)
  c11_in =
      of_activities sources c11_activity
      (λ period activity scope here. range_in n scope here (bad_range activity.freq.value 0 activity.slots))

  -- C12
  c12_in : AllIn n (c12 sources)
  c12_in =
      of_modules sources (λ scope. starts_broken scope (each start_of scope.tree.decls))
      (λ scope here. starts_in n scope here (each start_of scope.tree.decls))

  -- C13
  c13_in : AllIn n (c13 sources)
  c13_in =
      of_modes sources c13_mode (λ period acts scope here.
      of_map n (λ (i : Invoked). broken 13 scope.file (spot_of i.name)) (λ i. here)
      (clashes overlap (each (λ (activity : Act). invoked scope period activity activity.what) acts)))

  -- C14
  c14_in : AllIn n (c14 sources)
  c14_in =
      of_modes sources c14_mode (λ period acts scope here.
      of_map n (λ (u : Updated). broken 14 scope.file (spot_of u.name)) (λ u. here)
      (clashes same_update (each (λ (activity : Act). updated scope period activity activity.what) acts)))

  -- C15
  c15_in : AllIn n (c15 sources)
  c15_in =
      of_modes sources c15_mode (λ period acts scope here.
      of_each n (λ (activity : Act). c15_activity scope period (mode_lets period acts) activity activity.what)
      (λ activity. cut_in n scope here period (mode_lets period acts) activity activity.what) acts)

  -- C16
  c16_in : AllIn n (c16 sources)
  c16_in =
      of_modules sources (λ scope. each (c16_mode scope) (numbered 0 (λ k d. (k, d)) scope.tree.decls))
      (λ scope here. of_each n (c16_mode scope) (λ d. own_mode_in n scope here d)
      (numbered 0 (λ k d. (k, d)) scope.tree.decls))

  -- C17
  c17_in : AllIn n (c17 sources)
  c17_in =
      both n (in_declarations c17_declaration sources)
      (in_activities (λ scope period activity. c17_what scope period activity activity.what) sources)
      (of_declarations sources c17_declaration (λ d scope here. worst_in n scope here d))
      (of_activities sources (λ scope period activity. c17_what scope period activity activity.what)
      (λ period activity scope here. short_in n scope here period activity activity.what))

  -- C18
  c18_in : AllIn n (c18 sources)
  c18_in = of_statements sources c18_statement (λ layer scope here. turns_in n scope here layer)

  -- C19
  c19_in : AllIn n (c19 sources)
  c19_in = of_outermost sources c19_outermost (λ e scope here. if_one n _ _ here)

  -- C20
  c20_in : AllIn n (c20 sources)
  c20_in = of_declarations sources c20_declaration (λ d scope here. steps_in n scope here d)

  -- ---- C21

  -- the fault that an activity may be
  abbrev IsCountedIn : Fault × ℕ → Type 0
  IsCountedIn counted = counted.0.file < n

  -- those of a mode
  mode_in : (scope : Scope) → scope.file < n → (period : ℕ) (acts : List Act) (fault : Act → Fault) →
      ((activity : Act) → (fault activity).file < n) →
      All IsCountedIn (map (λ activity. (fault activity, count_of period activity activity.what)) acts)
  mode_in scope here period [] fault all = All-nil IsCountedIn
  mode_in scope here period (activity ∷ acts) fault all =
      All-cons IsCountedIn (fault activity, count_of period activity activity.what)
      (map (λ activity. (fault activity, count_of period activity activity.what)) acts) (all activity)
      (mode_in scope here period acts fault all)

  -- of a declaration
  counted_in : (scope : Scope) → scope.file < n → (d : Decl) → All IsCountedIn (counted scope d)
  counted_in scope here (decl.Mode start name period acts) = mode_in scope here (time_us period) acts _
      (λ activity. here)
  counted_in scope here (decl.Const public kind name value) = All-nil IsCountedIn
  counted_in scope here (decl.Sensor kind name) = All-nil IsCountedIn
  counted_in scope here (decl.Actuator kind name initial) = All-nil IsCountedIn
  counted_in scope here (decl.Task public name worst ports body) = All-nil IsCountedIn

  -- the first that passes a number
  passes_in : (k : ℕ) (list : List (Fault × ℕ)) → All IsCountedIn list → AllIn n (passes k list)
  passes_in k [] all = none n
  passes_in k (first ∷ more) all =
      by_test (nat_lt k first.1) (passes_in (k - first.1) more (All-tail IsCountedIn first more all))
    where
      by_test : (t : Bool) → AllIn n (passes (k - first.1) more) →
          AllIn n (if t then first.0 ∷ [] else passes (k - first.1) more)
      by_test true rest = one n first.0 (All-head IsCountedIn first more all)
      by_test false rest = rest

  -- C21
  c21_in : AllIn n (c21 sources)
  c21_in =
      both n (each c21_module (modules sources) ++ in_declarations c21_ports sources)
      (passes OCCURRENCES (each (λ scope. each (counted scope) scope.tree.decls) (modules sources)))
      (both n (each c21_module (modules sources)) (in_declarations c21_ports sources)
      (of_modules sources c21_module (λ scope here. counts_in n scope here))
      (of_declarations sources c21_ports (λ d scope here. past_in n scope here _)))
      (passes_in OCCURRENCES (each (λ scope. each (counted scope) scope.tree.decls) (modules sources))
      (all_modules sources IsCountedIn (λ scope. each (counted scope) scope.tree.decls)
      (λ scope here. all_each IsCountedIn (counted scope) (λ d. counted_in scope here d) scope.tree.decls)))

  -- ---- all of them

  -- the faults of C13 and later rules
  later_in : AllIn n (c13 sources ++ (c14 sources ++ (c15 sources ++ (c16 sources ++ (c17 sources ++ (c18 sources
      ++ (c19 sources ++ (c20 sources ++ c21 sources))))))))
  later_in =
      both n (c13 sources) _ c13_in (both n (c14 sources) _ c14_in (both n (c15 sources) _ c15_in
      (both n (c16 sources) _ c16_in (both n (c17 sources) _ c17_in (both n (c18 sources) _ c18_in
      (both n (c19 sources) _ c19_in (both n (c20 sources) (c21 sources) c20_in c21_in)))))))

  -- each fault
  pub faults_in : AllIn n (faults sources)
  faults_in =
      both n (c1 sources) _ c1_in (both n (c2 sources) _ c2_in (both n (c3_c4 sources) _ c3_c4_in
      (both n (c5 sources) _ c5_in (both n (c6 sources) _ c6_in (both n (c7 sources) _ c7_in
      (both n (c8 sources) _ c8_in (both n (c9 sources) _ c9_in (both n (c10 sources) _ c10_in
      (both n (c11 sources) _ c11_in (both n (c12 sources) _ c12_in later_in))))))))))

-- so is the first
pub first_in : (sources : List Tree) (fault : Fault) → IsFirst fault (faults sources) → fault.file < length sources
first_in sources fault first =
    All-contains (IsIn (length sources)) (faults sources) fault (faults_in sources) first.within
