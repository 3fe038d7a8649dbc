-- What a look at the tables says of the instructions that are spanned.
use Rattle.std.proofs.Common.{◌≡◌, ℕ, zero, suc, ◌+◌, ◌<◌, ◌≤◌, nat_eq, nat_le, Bool, true, false, List, [], ◌∷◌, length, take, fold, get_or, Some, refl, sym, ap, ◌∙◌, subst, arith, eqb-true, eq-eqb, leb-true, leb-false}
use Rattle.tdl_stack.specs.declared.instr.Instr.{Instr}
use Rattle.tdl_stack.specs.Lawful.{height_after, height_at, span, Spans, Repeats, IsInBody}
use Rattle.std.proofs.lemmas.Option.{same_Some, slice_get-get_or}
use Rattle.tdl_stack.specs.Spanning.{IsInnermost, reaches, empties, AreTables, Lands, LandsAt, LandBefore}
use Rattle.tdl_stack.proofs.Innermost.{rep-reaches, reached}

-- a table of the empty places has one for each place, and one for the end
pub length-empties : (h : ℕ) (code : List Instr) → length (empties h code) ≡ suc (length code)
length-empties h [] = refl
length-empties h (i ∷ code) = ap suc (length-empties (height_after h i) code)

-- it says of each whether the stack is empty
pub empties-at : (h : ℕ) (code : List Instr) (p : ℕ) → p ≤ length code →
    get_or (empties h code) p false ≡ nat_eq (fold height_after h (take p code)) 0
empties-at h [] zero l = refl
empties-at h [] (suc p) l = absurd (omega (arith, l))
empties-at h (i ∷ code) zero l = refl
empties-at h (i ∷ code) (suc p) l = empties-at (height_after h i) code p (omega (arith, l))

-- what lands passes the three looks: the span ends in the innermost body
pub lands-reaches : (code : List Instr) (p n b : ℕ) → IsInnermost code p b → Lands code p n →
    reaches code b (p + n) ≡ true
lands-reaches code p n zero inner lands = refl
lands-reaches code p n (suc r) inner lands =
    let f = inner.found r refl in
    rep-reaches code r (p + n) f.0 f.1 f.2 (lands.nested r f.0 f.1 f.2 inner)

-- the innermost body after the span is around the place
pub lands-outside : (code : List Instr) (p n b : ℕ) → IsInnermost code (p + n + 1) b → Lands code p n → b ≤ p
lands-outside code p n zero inner lands = omega arith
lands-outside code p n (suc r) inner lands =
    let f = inner.found r refl in
    let body : IsInBody r f.1 p = lands.outside r f.0 f.1 f.2 f.3 in let l : r < p = body.0 in omega (arith, l)

-- ---- by the tables

-- what lands ends in the innermost body
pub lands-nested : (code : List Instr) (bodies : List ℕ) (empty : List Bool) (p n : ℕ) → AreTables code bodies empty →
    p + n < length code → Lands code p n → reaches code (get_or bodies p 0) (p + n) ≡ true
lands-nested code bodies empty p n tables within lands =
    lands-reaches code p n (get_or bodies p 0) (tables.bodies_are p (omega (arith, tables.count, within))) lands

-- the innermost body after what lands is around it
pub lands-around : (code : List Instr) (bodies : List ℕ) (empty : List Bool) (p n : ℕ) → AreTables code bodies empty →
    p + n < length code → Lands code p n → get_or bodies (p + n + 1) 0 ≤ p
lands-around code bodies empty p n tables within lands =
    lands-outside code p n (get_or bodies (p + n + 1) 0)
    (tables.bodies_are (p + n + 1) (omega (arith, tables.count, within))) lands

-- the table of empty places says whether the stack is empty after it
empty-there : (code : List Instr) (bodies : List ℕ) (empty : List Bool) (p n : ℕ) → AreTables code bodies empty →
    p + n < length code → get_or empty (p + n + 1) false ≡ nat_eq (height_at code (p + n + 1)) 0
empty-there code bodies empty p n tables within =
    ap (λ table. get_or table (p + n + 1) false) tables.empty_is
    ∙ empties-at 0 code (p + n + 1) (omega (arith, within))

-- and it is empty after what lands
pub lands-empty : (code : List Instr) (bodies : List ℕ) (empty : List Bool) (p n : ℕ) → AreTables code bodies empty →
    p + n < length code → Lands code p n → get_or empty (p + n + 1) false ≡ true
lands-empty code bodies empty p n tables within lands =
    empty-there code bodies empty p n tables within ∙ eq-eqb (height_at code (p + n + 1)) 0 lands.empty

-- what passes the three looks lands
pub looks-land : (code : List Instr) (bodies : List ℕ) (empty : List Bool) (p n : ℕ) → AreTables code bodies empty →
    p + n < length code → reaches code (get_or bodies p 0) (p + n) ≡ true → get_or bodies (p + n + 1) 0 ≤ p →
    get_or empty (p + n + 1) false ≡ true → Lands code p n
looks-land code bodies empty p n tables within reach around is_empty =
    let inner : IsInnermost code p (get_or bodies p 0) =
    tables.bodies_are p (omega (arith, tables.count, within)) in
    let after : IsInnermost code (p + n + 1) (get_or bodies (p + n + 1) 0) =
    tables.bodies_are (p + n + 1) (omega (arith, tables.count, within)) in
    record {
      nested = λ r times k at is. nested_in r times k at (is.found r refl) (get_or bodies p 0) inner is reach;
      outside = λ r times k at body.
          let l : r < get_or bodies (p + n + 1) 0 = after.latest r times k at body in
          let end : p + n + 1 ≤ r + k = body.1 in (omega (arith, l, around), omega (arith, end));
      empty = eqb-true (height_at code (p + n + 1)) 0
          (sym (empty-there code bodies empty p n tables within) ∙ is_empty);
    }
  where
    nested_in : (r times k : ℕ) → Repeats code r times k →
        ((times : ℕ) × (k : ℕ) × Repeats code r times k × IsInBody r k p) → (b : ℕ) → IsInnermost code p b →
        IsInnermost code p (suc r) → reaches code b (p + n) ≡ true → p + n ≤ r + k
    nested_in r times k at f b inner is reach =
        let above : r < b = inner.latest r f.0 f.1 f.2 f.3 in
        by_body b above inner reach
      where
        by_body : (b : ℕ) → r < b → IsInnermost code p b → reaches code b (p + n) ≡ true → p + n ≤ r + k
        by_body zero above inner reach = absurd (omega (arith, above))
        by_body (suc q) above inner reach =
            let g = inner.found q refl in
            let below : q < suc r = is.latest q g.0 g.1 g.2 g.3 in
            let same : q ≡ r = omega (arith, above, below) in
            reached code r (p + n) times k at (subst (λ m. reaches code (suc m) (p + n) ≡ true) same reach)

-- ---- place by place

-- what the instruction at a place spans
pub spans-at : (code : List Instr) (p n : ℕ) (d : Instr) → p < length code → span (get_or code p d) ≡ Some n →
    Spans code p n
spans-at code p n d l is = (get_or code p d, slice_get-get_or code p d l, is)

-- and nothing else
pub at-spans : (code : List Instr) (p n : ℕ) (d : Instr) → p < length code → Spans code p n →
    span (get_or code p d) ≡ Some n
at-spans code p n d l s = ap span (same_Some (get_or code p d) s.0 (sym (slice_get-get_or code p d l) ∙ s.1)) ∙ s.2

-- one place more
pub land-more : (code : List Instr) (p : ℕ) → LandBefore code p → LandsAt code p → LandBefore code (p + 1)
land-more code p before at q l = by_test (nat_le p q) refl
  where
    by_test : (t : Bool) → nat_le p q ≡ t → LandsAt code q
    by_test true e = subst (LandsAt code) (omega (arith, l, leb-true p q e)) at
    by_test false e = before q (leb-false p q e)
