-- A code keeps the rules where its instructions stand and what they span lands, and only there.
use Rattle.std.proofs.Common.{◌≡◌, ℕ, zero, suc, ◌+◌, ◌<◌, ◌≤◌, List, length, drop, get_or, Some, None, refl, sym, ap, ◌∙◌, subst, arith, inl, inr, length-drop}
use Rattle.std.specs.Prelude.{Option, slice_get, ◌⊎◌}
use Rattle.std.proofs.lemmas.Option.{same_Some}
use Rattle.tdl_stack.specs.declared.instr.Instr.{Instr}
use Rattle.tdl_stack.specs.declared.instr.Instr.TheVariants.{Rep}
use Rattle.tdl_stack.specs.Lawful.{CodeShape, height_after, height_at, span, Spans, Repeats, IsInBody}
use Rattle.tdl_stack.specs.Spanning.{BeginsWell, StandsAt, Stand, IsInnermost, AreInnermost, EndWithin, LandBefore}
use Rattle.tdl_stack.proofs.Places.{slice_get-within, fold-next}
use Rattle.tdl_stack.proofs.Soundness.{AtPlaces, along-places, along-end, places-along, fits-suits, fits-exists, of_fits, below_room, order, repeats-spans, Rules}

-- what is spanned begins with an empty stack and ends within the code
begins-at : (shape : CodeShape) (code : List Instr) → AtPlaces (StandsAt shape) 0 code → (p n : ℕ) →
    Spans code p n → (height_at code (suc p) ≡ 0) × (p + n < length code)
begins-at shape code each p n s =
    let height : ℕ = height_after (height_at code p) s.0 in
    let begins : BeginsWell height (length (drop (suc p) code)) (Some n) =
    subst (BeginsWell height (length (drop (suc p) code))) s.2 (each p s.0 s.1).begins in (
      fold-next height_after 0 code p s.0 s.1 ∙ begins.0,
      omega (arith, begins.1, slice_get-within code p s.0 s.1, length-drop (suc p) code),
    )

-- where its instructions stand, what a code spans ends within it
pub stand-within : (shape : CodeShape) (code : List Instr) → Stand shape 0 code → EndWithin code
stand-within shape code stand p n s =
    (begins-at shape code (along-places (StandsAt shape) shape 0 code stand) p n s).1

-- one place holds one `rep`
one-rep : (code : List Instr) (r times k q again m : ℕ) → Repeats code r times k → Repeats code q again m → r ≡ q →
    k ≡ m
one-rep code r times k q again m at there same =
    same_Some k m (ap span (same_Some (Rep times k) (Rep again m) (sym at ∙ ap (slice_get code) same ∙ there)))

-- what is spanned before a place ends in each body that it stands in
abbrev pub NestBefore : List Instr → ℕ → Type 0
NestBefore code end = (p n r times k : ℕ) → p < end → Spans code p n → Repeats code r times k → IsInBody r k p →
    p + n ≤ r + k

-- what lands ends in each body that it stands in, where the bodies before it do
nest-at : (code : List Instr) → LandBefore code (length code) → (p n b r times k : ℕ) → IsInnermost code p b →
    NestBefore code p → Spans code p n → Repeats code r times k → IsInBody r k p → p + n ≤ r + k
nest-at code land p n zero r times k inner nest s at body =
    let early = inner.latest r times k at body in absurd (omega (arith, early))
nest-at code land p n (suc q) r times k inner nest s at body = by_order (order r q)
  where
    f : (again : ℕ) × (m : ℕ) × Repeats code q again m × IsInBody q m p
    f = inner.found q refl

    in_inner : p + n ≤ q + f.1
    in_inner = (land p (slice_get-within code p s.0 s.1) n s).nested q f.0 f.1 f.2 inner

    by_order : (r < q) ⊎ ((r ≡ q) ⊎ (q < r)) → p + n ≤ r + k
    by_order (inl before) =
        let early : q < p = f.3.0 in
        let end : p ≤ r + k = body.1 in
        let outer : q + f.1 ≤ r + k =
        nest q f.1 r times k early (repeats-spans code q f.0 f.1 f.2) at (before, omega (arith, early, end)) in
        omega (arith, in_inner, outer)
    by_order (inr (inl same)) = omega (arith, in_inner, same, one-rep code r times k q f.0 f.1 at f.2 same)
    by_order (inr (inr after)) =
        let early : r < suc q = inner.latest r times k at body in absurd (omega (arith, early, after))

-- all that lands does
nest-all : (code : List Instr) (bodies : List ℕ) → length bodies ≡ length code + 1 → AreInnermost code bodies →
    LandBefore code (length code) → (end : ℕ) → NestBefore code end
nest-all code bodies count are land zero p n r times k l s at body = absurd (omega (arith, l))
nest-all code bodies count are land (suc end) p n r times k l s at body =
    let nest : NestBefore code end = nest-all code bodies count are land end in
    nest-at code land p n (get_or bodies p 0) r times k
    (are p (omega (arith, count, slice_get-within code p s.0 s.1)))
    (λ q m t again j early. nest q m t again j (omega (arith, early, l))) s at body

-- a code keeps the rules where its instructions stand, and what they span lands
pub stand-rules : (shape : CodeShape) (code : List Instr) (bodies : List ℕ) → length bodies ≡ length code + 1 →
    AreInnermost code bodies → Stand shape 0 code → LandBefore code (length code) → Rules code shape
stand-rules shape code bodies count are stand land =
    let each : AtPlaces (StandsAt shape) 0 code = along-places (StandsAt shape) shape 0 code stand in
    record {
      suits = λ p i at. fits-suits shape i (each p i at).fits;
      exist = λ p i at. fits-exists shape i (each p i at).fits;
      supplied = λ p i at. (each p i at).supplied;
      room = below_room code (λ p i at. (each p i at).room);
      within = stand-within shape code stand;
      nested = λ p n r times k s at body.
          nest-all code bodies count are land (suc p) p n r times k (omega arith) s at body;
      outside = λ p n r times k s at body.
          (land p (slice_get-within code p s.0 s.1) n s).outside r times k at body;
      empty_before = λ p n s. let e : p + 1 ≡ suc p = omega arith in rw e (begins-at shape code each p n s).0;
      empty_after = λ p n s. (land p (slice_get-within code p s.0 s.1) n s).empty;
      repeat = λ p times n at. (each p (Rep times n) at).fits.1;
      end = along-end (StandsAt shape) shape 0 code stand;
    }

-- where a code keeps the rules its instructions stand
pub rules-stand : (shape : CodeShape) (code : List Instr) → Rules code shape → Stand shape 0 code
rules-stand shape code rules =
    places-along (StandsAt shape) shape 0 code
    (λ p i at. record {
      fits = of_fits shape i (rules.suits p i at) (rules.exist p i at)
          (λ times n e. rules.repeat p times n (at ∙ ap Some e));
      supplied = rules.supplied p i at;
      room = let l = rules.room (suc p) in omega (arith, l, fold-next height_after 0 code p i at);
      begins = begins p i at (span i) refl;
    })
    rules.end
  where
    begins : (p : ℕ) (i : Instr) → slice_get code p ≡ Some i → (o : Option ℕ) → span i ≡ o →
        BeginsWell (height_after (height_at code p) i) (length (drop (suc p) code)) o
    begins p i at None is = tt
    begins p i at (Some n) is =
        let e : p + 1 ≡ suc p = omega arith in
        let l = rules.within p n (i, at, is) in (
          sym (fold-next height_after 0 code p i at) ∙ ap (height_at code) (sym e) ∙ rules.empty_before p n (i, at, is),
          omega (arith, l, length-drop (suc p) code),
        )

-- and what they span lands
pub rules-land : (shape : CodeShape) (code : List Instr) → Rules code shape → LandBefore code (length code)
rules-land shape code rules p l n s = record {
  nested = λ r times k at inner. in_inner r times k at (inner.found r refl);
  outside = λ r times k at body. rules.outside p n r times k s at body;
  empty = rules.empty_after p n s;
}
  where
    in_inner : (r times k : ℕ) → Repeats code r times k →
        ((again : ℕ) × (m : ℕ) × Repeats code r again m × IsInBody r m p) → p + n ≤ r + k
    in_inner r times k at f =
        let end : p + n ≤ r + f.1 = rules.nested p n r f.0 f.1 s f.2 f.3 in
        omega (arith, end, one-rep code r times k r f.0 f.1 at f.2 refl)
