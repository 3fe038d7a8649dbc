-- A bundle with the tables and the counts of the compiler's is the compiler's.
use Rattle.std.proofs.Common.{◌≡◌, ℕ, suc, List, [], ◌∷◌, map, refl, ap, ap₂, sym, ◌∙◌}
use Rattle.tdl_base.specs.Lists.{numbered}
use Rattle.tdl_mode.specs.declared.program.Program.{Program}
use Rattle.tdl_deploy.specs.declared.placement.Placement.{Placement}
use Rattle.tdl_deploy.specs.declared.placement.PlacedNode.{PlacedNode}
use Rattle.tdl_deploy.specs.declared.schedule.Schedule.{Schedule}
use Rattle.tdl_image.specs.declared.bundle.Bundle.{Bundle}
use Rattle.tdl_image.specs.declared.bundle.Image.{Image}
use Rattle.tdl_gen.specs.Counts.{declared_of}
use Rattle.tdl_gen.specs.Realises.{bundle_of, image_of, HasTables, HasCounts}

-- an image without its count
abbrev bare : Image → Image
bare i = record i { declared = 0 }

-- the first item, or this one where there is none
head_or : {A : Type 0} → A → List A → A
head_or a [] = a
head_or a (b ∷ bs) = b

-- the items after the first
rest_of : {A : Type 0} → List A → List A
rest_of [] = []
rest_of (b ∷ bs) = bs

-- equal lists have equal first items
heads : {A : Type 0} (a b : A) (as' bs : List A) → a ∷ as' ≡ b ∷ bs → a ≡ b
unfolding head_or
heads a b as' bs e = ap (head_or a) e

-- equal lists have equal rests
rests : {A : Type 0} (a b : A) (as' bs : List A) → a ∷ as' ≡ b ∷ bs → as' ≡ bs
unfolding rest_of
rests a b as' bs e = ap rest_of e

-- images that are equal but for their counts, and have equal counts, are equal
one_image : (i j : Image) → bare i ≡ bare j → i.declared ≡ j.declared → i ≡ j
one_image i j e d = λ q. record { node = (e q).node; declared = d q; hosted = (e q).hosted; stubs = (e q).stubs }

-- images in a list that are equal but for their counts, and have equal counts, are equal
all_images : (xs ys : List Image) → map bare xs ≡ map bare ys →
    map (λ (i : Image). i.declared) xs ≡ map (λ (i : Image). i.declared) ys → xs ≡ ys
all_images [] [] e d = refl
all_images [] (y ∷ ys) e d = absurd (cc e)
all_images (x ∷ xs) [] e d = absurd (cc e)
all_images (x ∷ xs) (y ∷ ys) e d =
    ap₂ (λ a b. a ∷ b) (one_image x y (heads (bare x) (bare y) (map bare xs) (map bare ys) e)
    (heads x.declared y.declared (map (λ (i : Image). i.declared) xs) (map (λ (i : Image). i.declared) ys) d))
    (all_images xs ys (rests (bare x) (bare y) (map bare xs) (map bare ys) e)
    (rests x.declared y.declared (map (λ (i : Image). i.declared) xs) (map (λ (i : Image). i.declared) ys) d))

-- the counts of the compiler's images are those of their nodes
counts-are : (program : Program) (placement : Placement) (schedule : Schedule) (k : ℕ) (ns : List PlacedNode) →
    map (λ (i : Image). i.declared) (numbered k (image_of program placement schedule) ns) ≡
    numbered k (λ node n. declared_of program placement schedule node) ns
counts-are program placement schedule k [] = refl
counts-are program placement schedule k (n ∷ ns) =
    ap (λ l. declared_of program placement schedule k ∷ l) (counts-are program placement schedule (suc k) ns)

-- a bundle with the tables and the counts of the compiler's bundle is the compiler's bundle
pub one_bundle : (bundle : Bundle) (program : Program) (placement : Placement) (schedule : Schedule) →
    HasTables bundle program placement schedule →
    HasCounts bundle program placement schedule → bundle ≡ bundle_of program placement schedule
unfolding bundle_of
one_bundle bundle program placement schedule tables counts =
    λ q. record {
      images = all_images bundle.images (numbered 0 (image_of program placement schedule) placement.nodes)
          (ap (λ (c : Bundle). c.images) tables) (counts
          ∙ sym (counts-are program placement schedule 0 placement.nodes)) q;
    }
