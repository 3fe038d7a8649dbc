-- The compiler's stubs have the tables that the bus asks of them.
use Rattle.std.proofs.Common.{◌≡◌, ℕ, [], Bool, true, false, not, ◌&&◌, Option, Some, None, refl, ap, ap₂, sym, ◌∙◌, List}
use Rattle.std.specs.Prelude.{slice_get, option_map, unwrap_or}
use Rattle.std.specs.List.{list_any}
use Rattle.std.proofs.Math.Bool.{and-true}
use Rattle.tdl_base.specs.declared.numbers.ModuleId.{ModuleId}
use Rattle.tdl_mode.specs.declared.program.Program.{Program}
use Rattle.tdl_mode.specs.declared.program.Module.{Module}
use Rattle.tdl_mode.specs.declared.program.Task.{Task}
use Rattle.tdl_deploy.specs.declared.placement.Placement.{Placement}
use Rattle.tdl_deploy.specs.declared.placement.PlacedNode.{PlacedNode}
use Rattle.tdl_deploy.specs.Placed.{hosts, imports, is_remote}
use Rattle.tdl_mode.specs.Imports.{imports_of, is_among}
use Rattle.tdl_gen.specs.Tables.{stub_of}
use Rattle.tdl_base.proofs.Finding.{passing-any}
use Rattle.tdl_gen.proofs.EntryTables.{own_blocks}
use Rattle.tdl_meaning.proofs.BusWindowTables.{well_receive, sender}
use Rattle.tdl_meaning.proofs.EntriesThere.{all_received}
use Rattle.tdl_meaning.specs.Accepted.{Accepted}
use Rattle.tdl_meaning.specs.BusTables.{StubTables}

-- a public task of a module that a node imports and does not host is remote
pub remote-is : (program : Program) (placement : Placement) (node kk : ℕ) →
    hosts placement node kk ≡ false → imports program placement node kk ≡ true →
    (task : Task) → is_remote program placement kk task ≡ task.public
remote-is program placement node kk away near task = by_node (slice_get placement.nodes node) refl
  where
    hosted : Option PlacedNode → List ModuleId
    hosted o = unwrap_or (option_map (λ n. n.modules) o) []

    is_used : List ModuleId → Bool
    is_used ms = list_any (λ h. is_among kk (imports_of program h.0)) ms

    by_node : (o : Option PlacedNode) → slice_get placement.nodes node ≡ o →
        is_remote program placement kk task ≡ task.public
    by_node None at = absurd (cc (ap (λ o. is_used (hosted o)) (sym at) ∙ near))
    by_node (Some n) at =
        let far : is_among kk n.modules ≡ false = ap (λ o. is_among kk (hosted o)) (sym at) ∙ away in
        let uses : is_used n.modules ≡ true = ap (λ o. is_used (hosted o)) (sym at) ∙ near in
        let some =
        passing-any (λ (n : PlacedNode). not (is_among kk n.modules) && is_used n.modules) placement.nodes node n at
        (ap₂ (λ a b. not a && b) far uses) in
        ap (λ b. task.public && b) some ∙ and-true task.public

-- the compiler's stub has the tables that the bus asks of it
pub stub_tables : (given : Accepted) (gone : ℕ → ℕ → Type 0) (node kk : ℕ) (m : Module) →
    slice_get given.program.modules kk ≡ Some m →
    hosts given.placement node kk ≡ false → imports given.program given.placement node kk ≡ true →
    StubTables given (stub_of given.program given.placement given.schedule kk m)
stub_tables given gone node kk m there away near = record {
  definition = m;
  there = there;
  receive = λ n e at. well_receive given kk m there (given.well_formed.modules kk m there) n e at;
  sender = λ n e at. sender given kk m there (given.well_formed.modules kk m there) n e at;
  own = own_blocks given.program given.placement given.schedule kk m;
  all = all_received given kk m (λ task public. remote task ∙ public) (λ task public. remote task ∙ public);
}
  where
    remote : (task : Task) → is_remote given.program given.placement kk task ≡ task.public
    remote = remote-is given.program given.placement node kk away near
