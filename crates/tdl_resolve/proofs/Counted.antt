-- The counts of the declarations before each.
use Rattle.std.proofs.Common.{◌≡◌, ℕ, zero, suc, ◌+◌, ◌<◌, ◌≤◌, List, [], ◌∷◌, ◌++◌, take, Option, Some, None, Bool, true, false, length, filter, get_or, refl, ap, sym, ◌∙◌, arith}
use Rattle.std.specs.Prelude.{slice_get, unwrap_or, cond}
use Rattle.std.proofs.lemmas.List.{take_all, length-append}
use Rattle.std.proofs.lemmas.List.Filters.{length-filter_more}
use Rattle.std.proofs.lemmas.Option.{same_Some, slice_get_within}
use Rattle.tdl_tree.specs.declared.declarations.Decl.{Decl}
use Rattle.tdl_tree.specs.declared.declarations.Decl.TheVariants as decl
use Rattle.tdl_program.specs.Ordinals.{ordinal, is_sensor, is_actuator, is_task, is_mode}
use Rattle.tdl_resolve.specs.declared.numbers.Counts.{Counts}
use Rattle.tdl_resolve.specs.Counting.{counts_in, counts_at, and_one, IsSmall, AreFew, EachCounted}
use Rattle.tdl_resolve.proofs.Placing.{none_past, noted_more, first_fewer}

-- the counts before any declaration are small where those of all are
pub small_at : (decls : List Decl) (k : ℕ) → AreFew decls → IsSmall (counts_at decls k)
small_at decls k few = record {
  sensors = omega (arith, first_fewer is_sensor decls k, few.sensors);
  actuators = omega (arith, first_fewer is_actuator decls k, few.actuators);
  tasks = omega (arith, first_fewer is_task decls k, few.tasks);
  modes = omega (arith, first_fewer is_mode decls k, few.modes);
}

module _ (decls : List Decl) (i : ℕ) (d : Decl) (below : i < length decls) (is : d ≡ get_or decls i d) where
  -- the number of those that pass, with declaration i
  more : (passes : Decl → Bool) → ordinal passes decls (i + 1) ≡ ordinal passes decls i + cond (passes d) 1 0
  more passes =
      length-filter_more passes decls i d below
      ∙ ap (λ x. ordinal passes decls i + cond (passes x) 1 0) (sym is)

  -- it is one more where that declaration passes
  one : (passes : Decl → Bool) → passes d ≡ true → ordinal passes decls (i + 1) ≡ ordinal passes decls i + 1
  one passes p = more passes ∙ ap (λ t. ordinal passes decls i + cond t 1 0) p

  -- and as before where it does not
  same : (passes : Decl → Bool) → passes d ≡ false → ordinal passes decls (i + 1) ≡ ordinal passes decls i
  same passes p =
      let e : ordinal passes decls (i + 1) ≡ ordinal passes decls i + 0 =
      more passes ∙ ap (λ t. ordinal passes decls i + cond t 1 0) p in
      omega (arith, e)

-- the counts with declaration i
pub counts_next : (decls : List Decl) (i : ℕ) (d : Decl) → i < length decls → d ≡ get_or decls i d →
    counts_at decls (i + 1) ≡ and_one (counts_at decls i) d
counts_next decls i (decl.Sensor kind name) below is = λ j. record {
  sensors = one decls i (decl.Sensor kind name) below is is_sensor refl j;
  actuators = same decls i (decl.Sensor kind name) below is is_actuator refl j;
  tasks = same decls i (decl.Sensor kind name) below is is_task refl j;
  modes = same decls i (decl.Sensor kind name) below is is_mode refl j;
}
counts_next decls i (decl.Actuator kind name initial) below is = λ j. record {
  sensors = same decls i (decl.Actuator kind name initial) below is is_sensor refl j;
  actuators = one decls i (decl.Actuator kind name initial) below is is_actuator refl j;
  tasks = same decls i (decl.Actuator kind name initial) below is is_task refl j;
  modes = same decls i (decl.Actuator kind name initial) below is is_mode refl j;
}
counts_next decls i (decl.Task public name worst ports body) below is = λ j. record {
  sensors = same decls i (decl.Task public name worst ports body) below is is_sensor refl j;
  actuators = same decls i (decl.Task public name worst ports body) below is is_actuator refl j;
  tasks = one decls i (decl.Task public name worst ports body) below is is_task refl j;
  modes = same decls i (decl.Task public name worst ports body) below is is_mode refl j;
}
counts_next decls i (decl.Mode start name period acts) below is = λ j. record {
  sensors = same decls i (decl.Mode start name period acts) below is is_sensor refl j;
  actuators = same decls i (decl.Mode start name period acts) below is is_actuator refl j;
  tasks = same decls i (decl.Mode start name period acts) below is is_task refl j;
  modes = one decls i (decl.Mode start name period acts) below is is_mode refl j;
}
counts_next decls i (decl.Const public kind name value) below is = λ j. record {
  sensors = same decls i (decl.Const public kind name value) below is is_sensor refl j;
  actuators = same decls i (decl.Const public kind name value) below is is_actuator refl j;
  tasks = same decls i (decl.Const public kind name value) below is is_task refl j;
  modes = same decls i (decl.Const public kind name value) below is is_mode refl j;
}

-- one more is noted
pub many_more : (before new : List Counts) (c : Counts) (i : ℕ) → new ≡ before ++ c ∷ [] → length before ≡ i →
    length new ≡ i + 1
many_more before new c i put many =
    let both : length (before ++ c ∷ []) ≡ length before + 1 = length-append before (c ∷ []) in
    let all : length new ≡ length (before ++ c ∷ []) = ap length put in
    omega (arith, both, all, many)

-- and stands in its place
pub noted_next : (decls : List Decl) (before new : List Counts) (c : Counts) (i : ℕ) → new ≡ before ++ c ∷ [] →
    length before ≡ i → c ≡ counts_at decls i →
    ((k : ℕ) → k < i → slice_get before k ≡ Some (counts_at decls k)) →
    (k : ℕ) → k < i + 1 → slice_get new k ≡ Some (counts_at decls k)
noted_next decls before new c i put many is noted k lt =
    ap (λ (cs : List Counts). slice_get cs k) (put ∙ ap (λ z. before ++ z ∷ []) is)
    ∙ noted_more before (counts_at decls) i many noted k (omega (arith, lt))

-- where all are noted in turn, each is found
pub each_counted : (decls : List Decl) (before : List Counts) (all : Counts) (n : ℕ) → length decls ≤ n →
    length before ≡ n → ((k : ℕ) → k < n → slice_get before k ≡ Some (counts_at decls k)) → all ≡ counts_at decls n →
    EachCounted decls before all
each_counted decls before all n over many noted is k = by_item (slice_get before k) refl
  where
    by_item : (o : Option Counts) → slice_get before k ≡ o → unwrap_or o all ≡ counts_at decls k
    by_item (Some c) e =
        let within : k < length before = slice_get_within before k c e in
        same_Some c (counts_at decls k) (sym e ∙ noted k (omega (arith, within, many)))
    by_item None e =
        let past : length before ≤ k = none_past k before e in
        is ∙ ap counts_in (take_all n decls over ∙ sym (take_all k decls (omega (arith, past, many, over))))
