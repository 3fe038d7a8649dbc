-- What the line of each form says of the modules and of the limits.
use Rattle.std.proofs.Common.{◌≡◌, ℕ, suc, ◌+◌, ◌<◌, ◌≤◌, Bool, true, false, nat_le, List, [], ◌∷◌, length, map, filter_map, Option, Some, None, option_map, option_and_then, unwrap_or, is_none, if◌then◌else◌, bytes_eq, codes, refl, sym, ap, ◌∙◌, subst, arith}
use Rattle.std.specs.List.{AllByRecursion, list_any, cons_option}
use Rattle.std.proofs.lemmas.Bool.Decides.{nat_tests}
use Rattle.tdl_base.specs.Lists.{first_of}
use Rattle.tdl_base.specs.declared.numbers.ModuleId.{ModuleId}
use Rattle.tdl_lines.specs.declared.said.Said.{Said}
use Rattle.tdl_lines.specs.SaidLines.{NumberedLine, words_said}
use Rattle.tdl_mode.specs.declared.program.Program.{Program}
use Rattle.tdl_mode.specs.declared.program.Module.{Module}
use Rattle.tdl_scan.specs.Lexemes.{is_identifier}
use Rattle.tdl_scen.specs.Lines.{number_of}
use Rattle.tdl_deploy.specs.declared.placement.PlacedNode.{PlacedNode}
use Rattle.tdl_place.specs.declared.entry.Entry.{Entry}
use Rattle.tdl_place.specs.declared.entry.Entry.TheVariants.{Formless, Node, Bus}
use Rattle.tdl_place.specs.declared.limits.TheConstants.{COST_US}
use Rattle.tdl_place.specs.Entries.{module_from, module_named, within_cost, cost_of, node_of, node_said, bus_entry, bus_said, entry_of}
use Rattle.tdl_place.specs.LawfulPlacement.{HasCosts}
use Rattle.tdl_place.specs.SaidPlaces.{node_at, cost_at, nodes_in, costs_in, without_lines}

-- a node's name is an identifier, and its modules are there
pub record IsThere (program : Program) (n : PlacedNode) : Type 0 where
  pub name : is_identifier n.name ≡ true
  pub modules : AllByRecursion (λ (m : ModuleId). m.0 < length program.modules) n.modules

-- what a line says is so
abbrev pub IsSo : Program → Entry → Type 0
IsSo program (Node n unknown) = IsThere program n
IsSo program (Bus cost) = HasCosts (Some cost)
IsSo program e = Unit {0}

-- the same of a line that may be of no form
abbrev IsFormed : Program → Option Entry → Type 0
IsFormed program said = IsSo program (unwrap_or said Formless)

-- a module that is found by its name is there
named_within : (k : ℕ) (ms : List Module) (name : List ℕ) (m : ModuleId) → module_from k ms name ≡ Some m →
    m.0 < k + length ms
named_within k [] name m e = absurd cc
named_within k (d ∷ ds) name m e = by_test (bytes_eq d.name name) refl (named_within (suc k) ds name m)
  where
    by_test : (b : Bool) → bytes_eq d.name name ≡ b → (module_from (suc k) ds name ≡ Some m → m.0 < suc k + length ds) →
        m.0 < k + length (d ∷ ds)
    by_test true t more =
        let same : Some (record { 0 = k }) ≡ Some m = sym (rw t refl) ∙ e in
        let id : record { 0 = k } ≡ m = cc in
        let n : k ≡ m.0 = ap (λ (i : ModuleId). i.0) id in
        omega (arith, n)
    by_test false t more = let less = more (sym (rw t refl) ∙ e) in omega (arith, less)

-- all modules that words name are there
modules_within : (program : Program) (words : List (List ℕ)) →
    AllByRecursion (λ (m : ModuleId). m.0 < length program.modules) (filter_map (module_named program) words)
modules_within program [] = tt
modules_within program (word ∷ words) = by_name (modules_within program words) (module_named program word) refl
  where
    by_name : AllByRecursion (λ (m : ModuleId). m.0 < length program.modules) (filter_map
        (module_named program) words) →
        (o : Option ModuleId) → module_named program word ≡ o →
        AllByRecursion (λ (m : ModuleId). m.0 < length program.modules)
        (cons_option o (filter_map (module_named program) words))
    by_name more None e = more
    by_name more (Some m) e = let less = named_within 0 program.modules word m e in (omega (arith, less), more)

-- a node
node_so : (program : Program) (words : List (List ℕ)) → IsFormed program (node_said program words)
node_so program [] = tt
node_so program (name ∷ words) = by_name (is_identifier name) refl
  where
    by_name : (b : Bool) → is_identifier name ≡ b →
        IsFormed program (if b then Some (Node (node_of program name words) (list_any
        (λ word. is_none (module_named program word)) words)) else None)
    by_name true e = record { name = e; modules = modules_within program words }
    by_name false e = tt

-- a cost that is read is within the limit
cost_within : (word : List ℕ) (n : ℕ) → cost_of word ≡ Some n → n ≤ COST_US
cost_within word n e = by_number (number_of word) e
  where
    by_test : (k : ℕ) (b : Bool) → nat_le k COST_US ≡ b → (if b then Some k else None) ≡ Some n → n ≤ COST_US
    by_test k true t same =
        let is : k ≡ n = cc in
        let le : k ≤ COST_US = grind (arith, nat_tests) in
        subst (λ (i : ℕ). i ≤ COST_US) is le
    by_test k false t same = absurd cc

    by_number : (o : Option ℕ) → option_and_then within_cost o ≡ Some n → n ≤ COST_US
    by_number None same = absurd cc
    by_number (Some k) same = by_test k (nat_le k COST_US) refl same

-- the costs of a bus
bus_so : (program : Program) (words : List (List ℕ)) → IsFormed program (bus_said words)
bus_so program [] = tt
bus_so program (a ∷ []) = tt
bus_so program (a ∷ b ∷ []) = by_costs (cost_of a) refl (cost_of b) refl
  where
    by_costs : (o : Option ℕ) → cost_of a ≡ o → (p : Option ℕ) → cost_of b ≡ p →
        IsFormed program (option_and_then (λ o. option_map (λ b. bus_entry o b) p) o)
    by_costs None e p f = tt
    by_costs (Some m) e None f = tt
    by_costs (Some m) e (Some n) f = (cost_within a m e, cost_within b n f)
bus_so program (a ∷ b ∷ c ∷ more) = tt

-- one of two
either : (program : Program) (b : Bool) (x y : Option Entry) → IsFormed program x → IsFormed program y →
    IsFormed program (if b then x else y)
either program true x y one other = one
either program false x y one other = other

-- the words of a line
entry_so : (program : Program) (words : List (List ℕ)) → IsSo program (entry_of program words)
entry_so program [] = tt
entry_so program (key ∷ words) =
    either program (bytes_eq key (codes "node")) _ _ (node_so program words)
    (either program (bytes_eq key (codes "bus")) (bus_said words) None (bus_so program words) tt)

-- what the lines of a file say
pub lines_so : (program : Program) (lines : List NumberedLine) →
    AllByRecursion (λ (x : Said Entry). IsSo program x.what)
    (map (λ (line : NumberedLine). record { line = line.number; what = entry_of program (words_said line.text) }) lines)
lines_so program [] = tt
lines_so program (line ∷ lines) = (entry_so program (words_said line.text), lines_so program lines)

-- all nodes are so
pub nodes_so : (program : Program) (lines : List (Said Entry)) → AllByRecursion (λ
    (x : Said Entry). IsSo program x.what) lines →
    AllByRecursion (IsThere program) (without_lines (nodes_in lines))
nodes_so program [] so = tt
nodes_so program (x ∷ xs) so = by_entry x.what so.0 (nodes_so program xs so.1)
  where
    by_entry : (e : Entry) → IsSo program e → AllByRecursion (IsThere program) (without_lines (nodes_in xs)) →
        AllByRecursion (IsThere program) (without_lines (cons_option (node_at x.line e) (nodes_in xs)))
    by_entry (Node n unknown) is more = (is, more)
    by_entry e is more = more

-- the first cost is so
pub costs_so : (program : Program) (lines : List (Said Entry)) → AllByRecursion (λ
    (x : Said Entry). IsSo program x.what) lines →
    HasCosts (first_of (without_lines (costs_in lines)))
costs_so program [] so = tt
costs_so program (x ∷ xs) so = by_entry x.what so.0 (costs_so program xs so.1)
  where
    by_entry : (e : Entry) → IsSo program e → HasCosts (first_of (without_lines (costs_in xs))) →
        HasCosts (first_of (without_lines (cons_option (cost_at x.line e) (costs_in xs))))
    by_entry (Bus cost) is more = is
    by_entry e is more = more
