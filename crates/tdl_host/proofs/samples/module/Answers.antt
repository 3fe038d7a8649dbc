use Rattle.std.proofs.Common.{◌≡◌, ℕ, List, [], ◌∷◌, length, slice_get, Some, ap, subst, sym, ◌∙◌}
use Rattle.std.specs.List.{All}
use Rattle.std.proofs.lemmas.List.Elements.{All-nil, All-cons}
use Rattle.tdl_stack.specs.declared.instr.Code.{Code}
use Rattle.tdl_image.specs.declared.hosted.Driver.{Driver}
use Rattle.tdl_image.specs.declared.hosted.TaskTable.{TaskTable}
use Rattle.tdl_host.specs.CheckedCodes.{IsCheckedCode, IsCheckedTask, IsCheckedCall}
use Rattle.tdl_host.proofs.samples.module.Goals as goal

-- what holds of the only item holds of all
only-all : {A : Type 0} (P : A → Type 0) (xs : List A) (x : A) → xs ≡ x ∷ [] → P x → All P xs
only-all P xs x is holds = subst (λ ys. All P ys) (sym is) (All-cons P x [] holds (All-nil P))

-- a call with one argument has as many as its task has inputs
one-input : (tasks : List TaskTable) (table t : TaskTable) (n : ℕ) → tasks ≡ table ∷ [] → length table.inputs ≡ 1 →
    n ≡ 1 → slice_get tasks 0 ≡ Some t → n ≡ length t.inputs
one-input tasks table t n is one count at =
    let both : Some table ≡ Some t = ap (λ (ts : List TaskTable). slice_get ts 0) (sym is) ∙ at in
    let same : table ≡ t = cc in
    count ∙ sym one ∙ ap (λ (u : TaskTable). length u.inputs) same

pub returns-clause-codes : goal.returns-clause-codes
returns-clause-codes c =
    let args : All IsCheckedCode c.in_ok-only.field-0 =
    only-all IsCheckedCode c.in_ok-only.field-0 c.in_ok-load.field-0 c.in_ok-only.ensures c.in_ok-load.ensures in
    let count : length c.in_ok-only.field-0 ≡ 1 = ap (λ (codes : List Code). length codes) c.in_ok-only.ensures in
    let call : IsCheckedCall c.in_ok-only-2.field-0 (record { task = 0; args = c.in_ok-only.field-0 }) =
    record {
      arguments = args;
      count = λ t at. one-input c.in_ok-only-2.field-0 c.in_ok-table.field-0 t (length c.in_ok-only.field-0)
          c.in_ok-only-2.ensures c.in_ok-table.ensures.inputs count at;
    } in
    record {
      tasks = only-all IsCheckedTask _ _ c.in_ok-only-2.ensures c.in_ok-table.ensures.checked;
      calls = only-all (IsCheckedCall c.in_ok-only-2.field-0) _ _ c.in_ok-only-3.ensures call;
      guards = only-all IsCheckedCode _ _ c.in_ok-only-5.ensures c.in_ok-load-3.ensures;
      drivers = only-all (λ (d : Driver). IsCheckedCode d.value) _ _ c.in_ok-only-6.ensures c.in_ok-load-2.ensures;
    }
