-- The first start mode is the first among the declarations that are left.
use Rattle.std.proofs.Common.{◌≡◌, ℕ, ◌+◌, drop, option_map}
use Rattle.tdl_rules.specs.Lists.{first_place}
use Rattle.tdl_program.specs.Programs.{is_start}
use Rattle.tdl_compose.proofs.starts.first_start.Given as goal

abbrev pub invariant-loop-decl : goal.invariant-loop-decl
invariant-loop-decl l = record {
  counted : l.number ≡ l.decl-index;
  left : option_map (λ (k : ℕ). l.decl-index + k) (first_place is_start (drop l.decl-index l.decls))
      ≡ first_place is_start l.decls;
}
