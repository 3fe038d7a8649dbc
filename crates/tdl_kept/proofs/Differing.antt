-- Lists of which no item stands at two places, and names of which each is the first of its text.
use Rattle.std.proofs.Common.{◌≡◌, ◌⊎◌, inl, inr, ℕ, zero, suc, ◌+◌, ◌≤◌, List, [], ◌∷◌, ◌++◌, map, Bool, true, false, Option, Some, None, length, refl, ap, sym, ◌∙◌, subst, arith}
use Rattle.std.specs.Prelude.{slice_get, if◌then◌else◌, option_map, bytes_eq}
use Rattle.std.proofs.lemmas.Bool.{eqb-true}
use Rattle.std.proofs.lemmas.Option.{same_Some, slice_get-map}
use Rattle.std.proofs.lemmas.Slice.Eq.{bytes_eq-Decides}
use Rattle.tdl_base.specs.Lists.{numbered}
use Rattle.tdl_base.proofs.ListPlaces.{In}
use Rattle.tdl_tree.specs.declared.names.Id.{Id}
use Rattle.tdl_rules.specs.Lists.{first_place, place_of}
use Rattle.tdl_rules.specs.NameRules.{is_first_place, later_names}
use Rattle.tdl_program.proofs.Emptiness.{empty-at, numbered-at}
use Rattle.tdl_program.proofs.Looking.{first_place-some, some-is}
use Rattle.tdl_kept.specs.Names.{Differ}

-- ---- two lists, one after the other

-- what stands in the second list stands after the first
behind : {A : Type 0} (xs ys : List A) (n : ℕ) (a : A) → slice_get ys n ≡ Some a →
    slice_get (xs ++ ys) (length xs + n) ≡ Some a
behind [] ys n a at =
    let same : n ≡ 0 + n = omega arith in
    subst (λ k. slice_get ys k ≡ Some a) same at
behind (x ∷ xs) ys n a at =
    let next : suc (length xs + n) ≡ length (x ∷ xs) + n = omega arith in
    subst (λ k. slice_get (x ∷ (xs ++ ys)) k ≡ Some a) next (behind xs ys n a at)

-- an item of the second list, by its place in both
record IsBehind {A : Type 0} (xs ys : List A) (n : ℕ) (a : A) : Type 0 where
  place : ℕ
  is : n ≡ length xs + place
  at : slice_get ys place ≡ Some a

-- an item of both stands in the first or in the second
parts : {A : Type 0} (xs ys : List A) (n : ℕ) (a : A) → slice_get (xs ++ ys) n ≡ Some a →
    (slice_get xs n ≡ Some a) ⊎ IsBehind xs ys n a
parts [] ys n a at = inr (record { place = n; is = omega arith; at = at })
parts (x ∷ xs) ys zero a at = inl at
parts (x ∷ xs) ys (suc n) a at =
    elim (parts xs ys n a at) [
      | inl here ↦ inl here
      | inr b ↦
          let is : n ≡ length xs + b.place = b.is in
          inr (record { place = b.place; is = omega (arith, is); at = b.at })
    ]

-- lists that differ and have nothing in common differ together
pub differ-append : {A : Type 0} (xs ys : List A) → Differ xs → Differ ys → ((a : A) → In a xs → In a ys → ⊥) →
    Differ (xs ++ ys)
differ-append xs ys own own' apart p q a at at' =
    elim (parts xs ys p a at) [
      | inl i ↦
          elim (parts xs ys q a at') [
            | inl j ↦ own p q a i j
            | inr j ↦ absurd (apart a (record { place = p; at = i }) (record { place = j.place; at = j.at }))
          ]
      | inr i ↦
          elim (parts xs ys q a at') [
            | inl j ↦ absurd (apart a (record { place = q; at = j }) (record { place = i.place; at = i.at }))
            | inr j ↦
                let same : i.place ≡ j.place = own' i.place j.place a i.at j.at in
                let left : p ≡ length xs + i.place = i.is in
                let right : q ≡ length xs + j.place = j.is in
                omega (arith, same, left, right)
          ]
    ]

-- ---- the first of a text

-- no item that passes stands before the first place
pub first-least : {A : Type 0} (passes : A → Bool) (xs : List A) (j p : ℕ) (x : A) → first_place passes xs ≡ Some j →
    slice_get xs p ≡ Some x → passes x ≡ true → j ≤ p
first-least passes [] j p x e at holds = absurd (cc at)
first-least passes (y ∷ ys) j p x e at holds =
    by_test (first-least passes ys) (passes y) refl (first_place passes ys) refl e p at
  where
    by_test : ((j p : ℕ) (x : _) → first_place passes ys ≡ Some j → slice_get ys p ≡ Some x → passes x ≡ true → j ≤ p) →
        (t : Bool) → passes y ≡ t → (o : Option ℕ) → first_place passes ys ≡ o →
        (if t then Some 0 else option_map (λ k. suc k) o) ≡ Some j →
        (p : ℕ) → slice_get (y ∷ ys) p ≡ Some x → j ≤ p
    by_test rest true here o is e p at =
        let first : 0 ≡ j = same_Some 0 j e in omega (arith, first)
    by_test rest false here None is e p at = absurd (cc e)
    by_test rest false here (Some k) is e zero at = absurd (cc (sym here ∙ ap passes (same_Some y x at) ∙ holds))
    by_test rest false here (Some k) is e (suc p) at =
        let next : suc k ≡ j = same_Some (suc k) j e in
        let below : k ≤ p = rest k p x is at holds in
        omega (arith, next, below)

-- no two names of a list have one text
abbrev pub TextsDiffer : List Id → Type 0
TextsDiffer ids = (p q : ℕ) (a b : Id) → slice_get ids p ≡ Some a → slice_get ids q ≡ Some b → a.text ≡ b.text → p ≡ q

-- the place of a name's text is its own, where none is a later one
own_place : (ids : List Id) → later_names ids ≡ [] → (p : ℕ) (a : Id) → slice_get ids p ≡ Some a →
    place_of a.text (map (λ id. id.text) ids) ≡ Some p
own_place ids none p a at =
    let texts = map (λ (id : Id). id.text) ids in
    let text_at : slice_get texts p ≡ Some a.text =
    slice_get-map (λ (id : Id). id.text) ids p ∙ ap (option_map (λ (id : Id). id.text)) at in
    let found = some-is (place_of a.text texts)
    (first_place-some (bytes_eq a.text) texts p a.text text_at ((bytes_eq-Decides a.text a.text).1 refl)) in
    let kept = empty-at (λ (place : ℕ × Id).
    if is_first_place place.0 (place_of place.1.text texts) then [] else place.1 ∷ [])
    (numbered 0 (λ k id. (k, id)) ids) p (0 + p, a) none (numbered-at (λ k id. (k, id)) 0 p ids a at) in
    let same : found.0 ≡ 0 + p =
    eqb-true found.0 (0 + p) (ap (λ o. is_first_place (0 + p) o) (sym found.1)
    ∙ by_test (is_first_place (0 + p) (place_of a.text texts)) refl kept) in
    let number : found.0 ≡ p = omega (arith, same) in
    found.1 ∙ ap (λ n. Some n) number
  where
    by_test : (t : Bool) → is_first_place (0 + p) (place_of a.text (map (λ (id : Id). id.text) ids)) ≡ t →
        (if t then [] else a ∷ []) ≡ [] → is_first_place (0 + p) (place_of a.text (map (λ (id : Id). id.text) ids))
        ≡ true
    by_test true is none = is
    by_test false is none = absurd (cc none)

-- so no two names have one text
pub texts-differ : (ids : List Id) → later_names ids ≡ [] → TextsDiffer ids
texts-differ ids none p q a b at at' same =
    same_Some p q (sym (own_place ids none p a at)
    ∙ ap (λ (text : List ℕ). place_of text (map (λ (id : Id). id.text) ids)) same ∙ own_place ids none q b at')

-- nor of those that stand after others
pub texts-behind : (xs ys : List Id) → TextsDiffer (xs ++ ys) → TextsDiffer ys
texts-behind xs ys differ p q a b at at' same =
    let places : length xs + p ≡ length xs + q =
    differ (length xs + p) (length xs + q) a b (behind xs ys p a at) (behind xs ys q b at') same in
    omega (arith, places)

-- nor of those before
pub texts-before : (xs ys : List Id) → TextsDiffer (xs ++ ys) → TextsDiffer xs
texts-before xs ys differ p q a b at at' same = differ p q a b (front xs p a at) (front xs q b at') same
  where
    front : (xs : List Id) (n : ℕ) (a : Id) → slice_get xs n ≡ Some a → slice_get (xs ++ ys) n ≡ Some a
    front [] n a at = absurd (cc at)
    front (x ∷ xs) zero a at = at
    front (x ∷ xs) (suc n) a at = front xs n a at
