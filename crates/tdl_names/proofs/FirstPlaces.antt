-- The first place of a name in a list that grows.
use Rattle.std.proofs.Common.{◌≡◌, ℕ, suc, Bool, true, false, List, [], ◌∷◌, ◌++◌, length, map, Option, Some, None, option_map, bytes_eq, refl, sym, ap, ◌∙◌, inl, inr, Bor, subst}
use Rattle.std.specs.Map.{update}
use Rattle.std.proofs.lemmas.List.{map-append, length-map}
use Rattle.std.proofs.lemmas.Bool.{cases_Bool, false_from_ne_true, false≢true}
use Rattle.std.proofs.lemmas.Slice.Eq.{bytes_eq-Decides}
use Rattle.tdl_tree.specs.declared.names.Id.{Id}
use Rattle.tdl_rules.specs.Lists.{first_place, place_of}
use Rattle.tdl_names.specs.Places.{or_here}

-- one more place, after one more item
or_here-suc : (o : Option ℕ) (b : Bool) (k : ℕ) →
    option_map (λ (j : ℕ). suc j) (or_here o b k) ≡ or_here (option_map (λ (j : ℕ). suc j) o) b (suc k)
or_here-suc (Some j) b k = refl
or_here-suc None true k = refl
or_here-suc None false k = refl

-- the first place in a list with one more item
pub first_place-push : {A : Type 0} (p : A → Bool) (xs : List A) (y : A) →
    first_place p (xs ++ y ∷ []) ≡ or_here (first_place p xs) (p y) (length xs)
first_place-push p [] y = refl
first_place-push p (x ∷ xs) y =
    elim (cases_Bool (p x)) [
      | inl t ↦ rw t refl
      | inr f ↦
          rw f (ap (option_map (λ (j : ℕ). suc j)) (first_place-push p xs y)
          ∙ or_here-suc (first_place p xs) (p y) (length xs))
    ]

-- where the test fails nothing is set
or_here-false : (o : Option ℕ) (k : ℕ) → o ≡ or_here o false k
or_here-false (Some j) k = refl
or_here-false None k = refl

-- a name that is new is set at its place
pub kept : (old : List ℕ → Option ℕ) (name q : List ℕ) (k : ℕ) → old name ≡ None →
    update bytes_eq old name (Some k) q ≡ or_here (old q) (bytes_eq q name) k
kept old name q k new =
    elim (cases_Bool (bytes_eq name q)) [
      | inl t ↦
          let e : name ≡ q = (bytes_eq-Decides name q).0 t in
          let self : bytes_eq name name ≡ true = (bytes_eq-Decides name name).1 refl in
          subst (λ (z : List ℕ). update bytes_eq old name (Some k) z ≡ or_here (old z) (bytes_eq z name) k) e
          (rw (self, new) refl)
      | inr f ↦
          let same = λ (h : bytes_eq q name ≡ true). (bytes_eq-Decides name q).1 (sym ((bytes_eq-Decides q name).0 h)) in
          let g : bytes_eq q name ≡ false = false_from_ne_true _ (λ h. false≢true (sym f ∙ same h)) in
          rw (f, g) (or_here-false (old q) k)
    ]

-- the texts of names that are held by reference
abbrev pub texts : List (Bor Id) → List (List ℕ)
texts ids = map (λ (id : Id). id.text) (map (λ (r : Bor Id). r.now) ids)

-- the first place of a name among names with one more
pub placed : (q : List ℕ) (ids more : List (Bor Id)) (id : Bor Id) (name : List ℕ) (old new : Option ℕ) (k : ℕ) →
    more ≡ ids ++ id ∷ [] → name ≡ id.now.text → new ≡ or_here old (bytes_eq q name) k →
    old ≡ place_of q (texts ids) → k ≡ length ids → new ≡ place_of q (texts more)
placed q ids more id name old new k e same step before count =
    let parts : texts more ≡ texts ids ++ id.now.text ∷ [] =
    ap texts e ∙ ap (map (λ (i : Id). i.text)) (map-append (λ (r : Bor Id). r.now) ids (id ∷ []))
    ∙ map-append (λ (i : Id). i.text) (map (λ (r : Bor Id). r.now) ids) (id.now ∷ []) in
    let long : k ≡ length (texts ids) =
    count ∙ sym (length-map ids (λ (r : Bor Id). r.now))
    ∙ sym (length-map (map (λ (r : Bor Id). r.now) ids) (λ (i : Id). i.text)) in
    rw (parts, first_place-push (bytes_eq q) (texts ids) id.now.text)
    (step ∙ ap (λ (n : List ℕ). or_here old (bytes_eq q n) k) same
    ∙ ap (λ (o : Option ℕ). or_here o (bytes_eq q id.now.text) k) before
    ∙ ap (λ (n : ℕ). or_here (place_of q (texts ids)) (bytes_eq q id.now.text) n) long)
