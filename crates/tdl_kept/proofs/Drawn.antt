-- Names that are drawn from the declarations of a module or from the ports of a task.
use Rattle.std.proofs.Common.{◌≡◌, inl, inr, ℕ, List, [], ◌∷◌, ◌++◌, map, filter, take, Bool, true, false, Some, length, refl, ap, sym, ◌∙◌}
use Rattle.std.specs.Prelude.{slice_get, ◌||◌, option_map}
use Rattle.std.proofs.lemmas.Option.{slice_get-map, same_Some}
use Rattle.tdl_base.proofs.ListPlaces.{In}
use Rattle.tdl_tree.specs.declared.names.Id.{Id}
use Rattle.tdl_rules.specs.Lists.{each}
use Rattle.tdl_program.proofs.Counting.{IsSingle, each-place}
use Rattle.tdl_program.proofs.Emptiness.{map-from}
use Rattle.tdl_program.proofs.JoinedPlaces.{in-parts}
use Rattle.tdl_kept.specs.Names.{Differ}
use Rattle.tdl_kept.proofs.Differing.{TextsDiffer, differ-append}

module _ {A : Type 0} (name_of : A → Id) (xs : List A) where
  -- a name is that of an item that passes
  pub record Comes (passes : A → Bool) (name : List ℕ) : Type 0 where
    pub place : ℕ
    pub item : A
    pub at : slice_get xs place ≡ Some item
    pub is : (name_of item).text ≡ name
    pub holds : passes item ≡ true

  -- names that differ, each of an item that passes
  pub record Drawn (passes : A → Bool) (names : List (List ℕ)) : Type 0 where
    pub differ : Differ names
    pub comes : (name : List ℕ) → In name names → Comes passes name

  -- names of items that pass one test and of items that pass another, where none passes both
  pub drawn-append : TextsDiffer (map name_of xs) → (p q : A → Bool) → ((x : A) → p x ≡ true → q x ≡ true → ⊥) →
      (names more : List (List ℕ)) → Drawn p names → Drawn q more → Drawn (λ x. p x || q x) (names ++ more)
  drawn-append differ p q apart names more one two = record {
    differ = differ-append names more one.differ two.differ (λ name here there.
        let c = one.comes name here in
        let d = two.comes name there in
        let same : c.place ≡ d.place =
        differ c.place d.place (name_of c.item) (name_of d.item)
        (slice_get-map name_of xs c.place ∙ ap (option_map name_of) c.at)
        (slice_get-map name_of xs d.place ∙ ap (option_map name_of) d.at) (c.is ∙ sym d.is) in
        let item : c.item ≡ d.item =
        same_Some c.item d.item (sym c.at ∙ ap (λ n. slice_get xs n) same ∙ d.at) in
        apart d.item (ap p (sym item) ∙ c.holds) d.holds);
    comes = λ name within.
        elim (in-parts name names more within.place within.at) [
          | inl i ↦
              let c = one.comes name i in
              record {
                place = c.place;
                item = c.item;
                at = c.at;
                is = c.is;
                holds = left (p c.item)
                    (q c.item) c.holds;
              }
          | inr i ↦
              let c = two.comes name i in
              record {
                place = c.place;
                item = c.item;
                at = c.at;
                is = c.is;
                holds = right (p c.item)
                    (q c.item) c.holds;
              }
        ];
  }
    where
      left : (s t : Bool) → s ≡ true → (s || t) ≡ true
      left true t e = refl
      left false t e = absurd (cc e)

      right : (s t : Bool) → t ≡ true → (s || t) ≡ true
      right true t e = refl
      right false true e = refl
      right false false e = absurd (cc e)

  -- the names of the parts that items make, one each
  pub drawn-each : {B : Type 0} → TextsDiffer (map name_of xs) → (passes : A → Bool) (parts : A → List B)
      (name : B → List ℕ) → IsSingle passes parts →
      ((x : A) (b : B) → parts x ≡ b ∷ [] → ((name_of x).text ≡ name b) × (passes x ≡ true)) →
      Drawn passes (map name (each parts xs))
  drawn-each differ passes parts name single own = record {
    differ = λ p q text at at'.
        let m = map-from name p (each parts xs) text at in
        let n = map-from name q (each parts xs) text at' in
        let r = each-place passes parts single xs p m.item m.at in
        let s = each-place passes parts single xs q n.item n.at in
        let same : r.place ≡ s.place =
        differ r.place s.place (name_of r.item) (name_of s.item)
        (slice_get-map name_of xs r.place ∙ ap (option_map name_of) r.at)
        (slice_get-map name_of xs s.place ∙ ap (option_map name_of) s.at)
        ((own r.item m.item r.own).0 ∙ m.is ∙ sym n.is ∙ sym (own s.item n.item s.own).0) in
        sym r.is ∙ ap (λ k. length (filter passes (take k xs))) same ∙ s.is;
    comes = λ text within.
        let m = map-from name within.place (each parts xs) text within.at in
        let r = each-place passes parts single xs within.place m.item m.at in
        record {
          place = r.place;
          item = r.item;
          at = r.at;
          is = (own r.item m.item r.own).0 ∙ m.is;
          holds = (own r.item m.item r.own).1;
        };
  }
