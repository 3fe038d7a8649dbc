-- What a look-up by a name finds, and where it stands.
use Rattle.std.proofs.Common.{◌≡◌, ℕ, zero, suc, ◌<◌, ◌-◌, List, [], ◌∷◌, ◌++◌, map, Bool, true, false, Option, Some, None, length, refl, ap, sym, ◌∙◌, subst, arith}
use Rattle.std.specs.Prelude.{slice_get, if◌then◌else◌, option_map, bytes_eq, nat_lt, is_some}
use Rattle.std.proofs.lemmas.Bool.{ltb-true}
use Rattle.std.proofs.lemmas.Option.{same_Some, some_pair_parts}
use Rattle.std.proofs.lemmas.Slice.Eq.{bytes_eq-Decides}
use Rattle.tdl_tree.specs.declared.declarations.Decl.{Decl}
use Rattle.tdl_tree.specs.declared.declarations.PortDecl.{PortDecl}
use Rattle.tdl_tree.specs.declared.declarations.Tree.{Tree}
use Rattle.tdl_tree.specs.declared.names.Id.{Id}
use Rattle.tdl_rules.specs.Lists.{first_place, place_of, with_number}
use Rattle.tdl_rules.specs.Naming.{name_of, space, Meaning, Imported, Says, meaning_at, meant, port_named, Scope, if_below, exporter}
use Rattle.tdl_program.proofs.Emptiness.{map-from}

-- ---- places

-- an item of this place that passes
pub record FirstAt {A : Type 0} (passes : A → Bool) (xs : List A) (k : ℕ) : Type 0 where
  pub item : A
  pub at : slice_get xs k ≡ Some item
  pub holds : passes item ≡ true

-- the first place is one of an item that passes
pub first_place-at : {A : Type 0} (passes : A → Bool) (xs : List A) (k : ℕ) → first_place passes xs ≡ Some k →
    FirstAt passes xs k
first_place-at passes [] k e = absurd (cc e)
first_place-at passes (x ∷ xs) k e = by_test (first_place-at passes xs) (passes x) refl (first_place passes xs) refl e
  where
    by_test : ((k : ℕ) → first_place passes xs ≡ Some k → FirstAt passes xs k) → (t : Bool) → passes x ≡ t →
        (o : Option ℕ) → first_place passes xs ≡ o → (if t then Some 0 else option_map (λ k. suc k) o) ≡ Some k →
        FirstAt passes (x ∷ xs) k
    by_test rest true p o is e =
        subst (FirstAt passes (x ∷ xs)) (same_Some 0 k e) (record { item = x; at = refl; holds = p })
    by_test rest false p None is e = absurd (cc e)
    by_test rest false p (Some j) is e =
        let r = rest j is in
        subst (FirstAt passes (x ∷ xs)) (same_Some (suc j) k e) (record { item = r.item; at = r.at; holds = r.holds })

-- where an item passes, there is a first place
pub first_place-some : {A : Type 0} (passes : A → Bool) (xs : List A) (n : ℕ) (x : A) →
    slice_get xs n ≡ Some x → passes x ≡ true → is_some (first_place passes xs) ≡ true
first_place-some passes [] n x at p = absurd (cc at)
first_place-some passes (y ∷ ys) zero x at p =
    ap (λ t. is_some (if t then Some 0 else option_map (λ k. suc k) (first_place passes ys)))
    (ap passes (same_Some y x at) ∙ p)
first_place-some passes (y ∷ ys) (suc n) x at p =
    by_test (passes y) (first_place passes ys) (first_place-some passes ys n x at p)
  where
    by_test : (t : Bool) (o : Option ℕ) → is_some o ≡ true →
        is_some (if t then Some 0 else option_map (λ k. suc k) o) ≡ true
    by_test true o e = refl
    by_test false (Some k) e = refl
    by_test false None e = absurd (cc e)

-- what is there is Some
pub some-is : {A : Type 0} (o : Option A) → is_some o ≡ true → (x : A) × (o ≡ Some x)
some-is None e = absurd (cc e)
some-is (Some x) e = (x, refl)

-- an item with its number stands there
pub with_number-at : {A : Type 0} (xs : List A) (o : Option ℕ) (k : ℕ) (x : A) → with_number xs o ≡ Some (k, x) →
    slice_get xs k ≡ Some x
with_number-at xs None k x e = absurd (cc e)
with_number-at {A = A} xs (Some j) k x e = by_item (slice_get xs j) refl e
  where
    by_item : (o : Option A) → slice_get xs j ≡ o → option_map {U = ℕ × A} (λ y. (j, y)) o ≡ Some (k, x) →
        slice_get xs k ≡ Some x
    by_item None is e = absurd (cc e)
    by_item (Some y) is e =
        let same = some_pair_parts j k y x e in
        subst (λ n. slice_get xs n ≡ Some x) same.0 (is ∙ ap (λ z. Some z) same.1)

-- a port that is found stands at its number
pub port_named-at : (ports : List PortDecl) (x : List ℕ) (k : ℕ) (port : PortDecl) →
    port_named ports x ≡ Some (k, port) → slice_get ports k ≡ Some port
port_named-at ports x k port e =
    with_number-at ports (place_of x (map (λ (port : PortDecl). port.name.text) ports)) k port e

-- ---- meanings

-- the number and the declaration that a name means
abbrev said : Option Meaning → Option (ℕ × Decl)
said (Some (Says k d)) = Some (k, d)
said _ = None

-- a declaration that is meant stands at its number
pub meant-says : (tree : Tree) (x : List ℕ) (k : ℕ) (d : Decl) → meant tree x ≡ Some (Says k d) →
    slice_get tree.decls k ≡ Some d
meant-says tree x k d e = by_place (place_of x (map (λ (id : Id). id.text) (space tree))) e
  where
    by_item : (n : ℕ) (o : Option Decl) → slice_get tree.decls n ≡ o →
        option_map (λ d. Says n d) o ≡ Some (Says k d) → slice_get tree.decls k ≡ Some d
    by_item n None is e = absurd (cc e)
    by_item n (Some d') is e =
        let same = some_pair_parts n k d' d (ap said e) in
        subst (λ m. slice_get tree.decls m ≡ Some d) same.0 (is ∙ ap (λ z. Some z) same.1)

    by_test : (p : ℕ) (t : Bool) → (if t then Some Imported else
        option_map (λ d. Says (p - length tree.imports) d) (slice_get tree.decls (p - length tree.imports)))
        ≡ Some (Says k d) → slice_get tree.decls k ≡ Some d
    by_test p true e = absurd (cc e)
    by_test p false e = by_item (p - length tree.imports) (slice_get tree.decls (p - length tree.imports)) refl e

    by_place : (o : Option ℕ) → meaning_at tree o ≡ Some (Says k d) → slice_get tree.decls k ≡ Some d
    by_place None e = absurd (cc e)
    by_place (Some p) e = by_test p (nat_lt p (length tree.imports)) e

-- an import with this name
pub record IsImport (tree : Tree) (x : List ℕ) : Type 0 where
  pub place : ℕ
  pub id : Id
  pub at : slice_get tree.imports place ≡ Some id
  pub named : x ≡ id.text

-- an item of the first of two lists
in_front : {A : Type 0} (xs ys : List A) (n : ℕ) (a : A) → n < length xs → slice_get (xs ++ ys) n ≡ Some a →
    slice_get xs n ≡ Some a
in_front [] ys n a lt at = absurd (omega (arith, lt))
in_front (x ∷ xs) ys zero a lt at = at
in_front (x ∷ xs) ys (suc n) a lt at = in_front xs ys n a (omega (arith, lt)) at

-- a name that means an import is that of one
pub meant-imported : (tree : Tree) (x : List ℕ) → meant tree x ≡ Some Imported → IsImport tree x
meant-imported tree x e = by_place (place_of x (map (λ (id : Id). id.text) (space tree))) refl e
  where
    by_item : (o : Option Decl) (n : ℕ) → option_map (λ d. Says n d) o ≡ Some Imported → IsImport tree x
    by_item None n e = absurd (cc e)
    by_item (Some d) n e = absurd (cc e)

    here : (p : ℕ) → place_of x (map (λ (id : Id). id.text) (space tree)) ≡ Some p → p < length tree.imports →
        IsImport tree x
    here p is lt =
        let first = first_place-at (bytes_eq x) (map (λ (id : Id). id.text) (space tree)) p is in
        let id = map-from (λ (id : Id). id.text) p (space tree) first.item first.at in
        record {
          place = p;
          id = id.item;
          at = in_front tree.imports (map name_of tree.decls) p id.item lt id.at;
          named = (bytes_eq-Decides x first.item).0 first.holds ∙ sym id.is;
        }

    by_test : (p : ℕ) → place_of x (map (λ (id : Id). id.text) (space tree)) ≡ Some p →
        (t : Bool) → nat_lt p (length tree.imports) ≡ t → (if t then Some Imported else
        option_map (λ d. Says (p - length tree.imports) d) (slice_get tree.decls (p - length tree.imports)))
        ≡ Some Imported → IsImport tree x
    by_test p is true lt e = here p is (ltb-true p (length tree.imports) lt)
    by_test p is false lt e = by_item (slice_get tree.decls (p - length tree.imports)) (p - length tree.imports) e

    by_place : (o : Option ℕ) → place_of x (map (λ (id : Id). id.text) (space tree)) ≡ o →
        meaning_at tree o ≡ Some Imported → IsImport tree x
    by_place None is e = absurd (cc e)
    by_place (Some p) is e = by_test p is (nat_lt p (length tree.imports)) refl e

-- ---- modules that are imported

-- source m is earlier, and is this tree
pub record IsEarlier (scope : Scope) (m : ℕ) (tree : Tree) : Type 0 where
  pub below : m < scope.file
  pub at : slice_get scope.sources m ≡ Some tree

-- the module that an import names is earlier
pub exporter-at : (scope : Scope) (x : List ℕ) (m : ℕ) (tree : Tree) → exporter scope x ≡ Some (m, tree) →
    IsEarlier scope m tree
exporter-at scope x m tree e =
    by_source (with_number scope.sources (place_of x (map (λ (t : Tree). t.name.text) scope.sources))) refl e
  where
    by_test : (s : ℕ × Tree) (b : Bool) → nat_lt s.0 scope.file ≡ b →
        with_number scope.sources (place_of x (map (λ (t : Tree). t.name.text) scope.sources)) ≡ Some s →
        (if b then Some s else None) ≡ Some (m, tree) → IsEarlier scope m tree
    by_test s false lt is e = absurd (cc e)
    by_test s true lt is e =
        let same = some_pair_parts s.0 m s.1 tree e in
        record {
          below = subst (λ n. n < scope.file) same.0 (ltb-true s.0 scope.file lt);
          at = with_number-at scope.sources (place_of x (map (λ (t : Tree). t.name.text) scope.sources)) m tree (is ∙ e);
        }

    by_source : (o : Option (ℕ × Tree)) →
        with_number scope.sources (place_of x (map (λ (t : Tree). t.name.text) scope.sources)) ≡ o →
        if_below scope.file o ≡ Some (m, tree) → IsEarlier scope m tree
    by_source None is e = absurd (cc e)
    by_source (Some s) is e = by_test s (nat_lt s.0 scope.file) refl is e
