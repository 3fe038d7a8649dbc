-- What is known of the program that sources say which break no rule.
use Rattle.std.proofs.Common.{◌≡◌, ℕ, suc, ◌≤◌, List, [], ◌∷◌, length, All, refl, ap, sym, ◌∙◌, subst}
use Rattle.std.proofs.lemmas.List.{length-map}
use Rattle.tdl_base.specs.Lists.{numbered}
use Rattle.tdl_base.specs.declared.limits.TheConstants.{SOURCES}
use Rattle.tdl_mode.specs.declared.program.Program.{Program}
use Rattle.tdl_tree.specs.declared.declarations.Tree.{Tree}
use Rattle.tdl_rules.specs.Faults.{faults}
use Rattle.tdl_rules.specs.Parts.{modules}
use Rattle.tdl_program.specs.Programs.{program_of, module_of}
use Rattle.tdl_program.proofs.Limits.{keeps_limits}
use Rattle.tdl_program.proofs.Scopes.{scope_at}
use Rattle.tdl_program.proofs.WellModules.{well_formed}
use Rattle.tdl_kept.proofs.Bodies.{keeps_bodies}
use Rattle.tdl_kept.proofs.Counts.{keeps_counts}
use Rattle.tdl_kept.proofs.Identifiers.{has_identifiers}
use Rattle.tdl_kept.proofs.Names.{keeps_names}
use Rattle.tdl_size.specs.Sized.{IsSized}
use Rattle.tdl_check.specs.IsChecked.{IsChecked}

-- a numbered list is as long as the list
length-numbered : {A B : Type 0} (f : ℕ → A → B) (k : ℕ) (xs : List A) → length (numbered k f xs) ≡ length xs
length-numbered f k [] = refl
length-numbered f k (x ∷ xs) = ap (λ (n : ℕ). suc n) (length-numbered f (suc k) xs)

-- there are as many modules as sources
as_many : (sources : List Tree) → length (program_of sources).modules ≡ length sources
as_many sources = length-map (modules sources) module_of ∙ length-numbered (scope_at sources) 0 sources

-- it has all that is asked of it
pub checked : (sources trees : List Tree) (program : Program) → sources ≡ trees → length trees ≤ SOURCES →
    All IsSized trees → faults sources ≡ [] → program ≡ program_of sources → IsChecked program
checked sources trees program same few sized none made =
    let all = subst (λ (s : List Tree). All IsSized s) (sym same) sized in
    subst IsChecked (sym made) (record {
      well_formed = well_formed sources none;
      limits = keeps_limits sources none;
      bodies = keeps_bodies sources none all;
      counts = keeps_counts sources none;
      names = keeps_names sources none;
      identifiers = has_identifiers sources all;
      few = subst (λ n. n ≤ SOURCES) (sym (as_many sources ∙ ap (λ (s : List Tree). length s) same)) few;
    })
