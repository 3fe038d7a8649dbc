-- What a module reads among the tasks of all modules is what it reads in their state.
use Rattle.std.proofs.Common.{◌≡◌, ◌==◌, ℕ, zero, suc, ℤ, pos, List, [], ◌∷◌, length, Bool, true, false, Some, slice_get, refl, ap, sym, ◌∙◌, arith}
use Rattle.std.specs.Prelude.{if◌then◌else◌, option_map, unwrap_or}
use Rattle.std.proofs.lemmas.Bool.{eqb-true}
use Rattle.tdl_base.specs.Sensed.{Sensed}
use Rattle.tdl_base.specs.declared.numbers.PortKey.{PortKey}
use Rattle.tdl_mode.specs.declared.program.Module.{Module}
use Rattle.tdl_mode.specs.States.{TaskState, output_at, outputs_in, look_of}
use Rattle.tdl_logic.specs.declared.module_now.ModuleNow.{ModuleNow}
use Rattle.tdl_logic.specs.Looks.{output_in, look_at}
use Rattle.tdl_logic.specs.Wholes.{all_standing}

-- an output of a module of the state
output-at : (ms : List Module) (nows : List ModuleNow) (all : List (List TaskState)) (i t o : ℕ) →
    length nows ≡ length ms → length all ≡ length ms →
    option_map (λ m. output_at m.tasks t o) (slice_get (all_standing ms nows all) i)
    ≡ option_map (λ tasks. output_at tasks t o) (slice_get all i)
output-at [] nows [] i t o en ea = refl
output-at [] nows (tasks ∷ all) i t o en ea = absurd (omega (arith, ea))
output-at (m ∷ ms) [] all i t o en ea = absurd (omega (arith, en))
output-at (m ∷ ms) (now ∷ nows) [] i t o en ea = absurd (omega (arith, ea))
output-at (m ∷ ms) (now ∷ nows) (tasks ∷ all) zero t o en ea = refl
output-at (m ∷ ms) (now ∷ nows) (tasks ∷ all) (suc i) t o en ea =
    let en' : length nows ≡ length ms = omega (arith, en) in
    let ea' : length all ≡ length ms = omega (arith, ea) in
    output-at ms nows all i t o en' ea'

-- all outputs
pub outputs-is : (ms : List Module) (nows : List ModuleNow) (all : List (List TaskState)) (key : PortKey) →
    length nows ≡ length ms → length all ≡ length ms →
    outputs_in (all_standing ms nows all) key ≡ output_in all key
outputs-is ms nows all key en ea =
    ap (λ found. unwrap_or found (pos 0)) (output-at ms nows all key.module.0 key.task.0 key.output en ea)

-- what module k reads, where the outputs of all are those of the state, and it has these tasks
pub look-is : (ms : List Module) (nows : List ModuleNow) (first all : List (List TaskState)) (k : ℕ)
    (tasks : List TaskState) (sensed : Sensed) → length nows ≡ length ms → length first ≡ length ms →
    output_in all ≡ output_in first → slice_get all k ≡ Some tasks →
    look_of k tasks sensed (outputs_in (all_standing ms nows first)) ≡ look_at k sensed all
look-is ms nows first all k tasks sensed en ea same at =
    λ p. record { cell = λ _. pos 0; sensor = sensed k; port = λ key. by_key key p }
  where
    own : (key : PortKey) → key.module.0 ≡ k → output_at tasks key.task.0 key.output ≡ output_in all key
    own key is =
        ap (λ found. unwrap_or (option_map (λ ts. output_at ts key.task.0 key.output) found) (pos 0))
        (sym at ∙ ap (λ n. slice_get all n) (sym is))

    other : (key : PortKey) → outputs_in (all_standing ms nows first) key ≡ output_in all key
    other key = outputs-is ms nows first key en ea ∙ ap (λ (f : PortKey → ℤ). f key) (sym same)

    by_test : (key : PortKey) (t : Bool) → (key.module.0 == k) ≡ t →
        (if t then output_at tasks key.task.0 key.output else outputs_in (all_standing ms nows first) key)
        ≡ output_in all key
    by_test key true is = own key (eqb-true key.module.0 k is)
    by_test key false is = other key

    by_key : (key : PortKey) →
        (if key.module.0 == k then output_at tasks key.task.0 key.output
        else outputs_in (all_standing ms nows first) key) ≡ output_in all key
    by_key key = by_test key (key.module.0 == k) refl
