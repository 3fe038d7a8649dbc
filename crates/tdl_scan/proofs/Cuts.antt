-- All bytes are cut into pieces as far as they go, in one way.
use Rattle.std.proofs.Common.{◌≡◌, ◌≢◌, ℕ, zero, suc, ◌≤◌, ◌<◌, true, List, [], ◌∷◌, ◌++◌, length, take, drop, get_or, sym, refl, ap, ap₂, ◌∙◌, subst, inl, inr, ◌⊎◌, arith, append_assoc, append-nil, Option, Some, None, take-append-drop, length-append, nat_le, leb-true, leb-false}
use Rattle.std.specs.List.{prefix_len}
use Rattle.std.proofs.lemmas.Bool.{cases_Bool}
use Rattle.tdl_base.specs.Letters.{is_letter, is_digit, is_name_byte}
use Rattle.tdl_base.specs.Lists.{joined}
use Rattle.tdl_scan.specs.Pieces.{is_no_end, opens_blank, opens_comment, IsPiece, IsCut, IsStuck}
use Rattle.tdl_scan.specs.Lengths.{IsTokenLength, IsPieceLength, begins_sign}
use Rattle.tdl_scan.proofs.Cutting.{IsOther, word_some, word_none, number_some, sign_two, sign_one, sign_none}
use Rattle.tdl_scan.proofs.Pieces.{piece_some, piece_unique, comment_some, blank_some, token_piece}

-- the second list of pieces goes on where the first one ends
abbrev pub Onward : List (List ℕ) → List ℕ → List (List ℕ) → List ℕ → Type 0
Onward ps rest qs other =
    (mid : List (List ℕ)) × (qs ≡ ps ++ mid) × IsCut mid other × (rest ≡ joined mid ++ other)

-- of two cuts of one list of bytes, one goes on where the other ends
cuts : (ps : List (List ℕ)) (rest : List ℕ) (qs : List (List ℕ)) (other : List ℕ) → IsCut ps rest → IsCut qs other →
    joined ps ++ rest ≡ joined qs ++ other → Onward ps rest qs other ⊎ Onward qs other ps rest
cuts [] rest qs other x y e = inl (qs, refl, y, e)
cuts (p ∷ ps) rest [] other x y e = inr (p ∷ ps, refl, x, sym e)
cuts (p ∷ ps) rest (q ∷ qs) other x y e =
    let whole : p ++ (joined ps ++ rest) ≡ q ++ (joined qs ++ other) =
    sym (append_assoc p (joined ps) rest) ∙ e ∙ append_assoc q (joined qs) other in
    let same = piece_unique p (joined ps ++ rest) q (joined qs ++ other) x.0 y.0 whole in
    elim (cuts ps rest qs other x.1 y.1 same.1) [
      | inl m ↦ inl (m.0, ap₂ (λ (z : List ℕ) (zs : List (List ℕ)). z ∷ zs) (sym same.0) m.1, m.2, m.3)
      | inr m ↦ inr (m.0, ap₂ (λ (z : List ℕ) (zs : List (List ℕ)). z ∷ zs) same.0 m.1, m.2, m.3)
    ]

-- no bytes have no pieces
none_cut : (ps : List (List ℕ)) (rest : List ℕ) → IsCut ps rest → [] ≡ joined ps ++ rest → ps ≡ []
none_cut [] rest x e = refl
none_cut (p ∷ ps) rest x e =
    let some : 0 < length p = piece_some p (joined ps ++ rest) x.0 in
    let none : 0 ≡ length (p ++ (joined ps ++ rest)) = ap length (e ∙ append_assoc p (joined ps) rest) in
    absurd (omega (arith, length-append p (joined ps ++ rest)))

-- nor do bytes that no piece begins
stuck_cut : (ps : List (List ℕ)) (rest left : List ℕ) → IsCut ps rest → IsStuck left → left ≡ joined ps ++ rest →
    ps ≡ []
stuck_cut [] rest left x stuck e = refl
stuck_cut (p ∷ ps) rest left x stuck e =
    absurd (stuck p (joined ps ++ rest) (e ∙ append_assoc p (joined ps) rest) x.0)

-- pieces that nothing follows are as a list
ended : (ps mid qs : List (List ℕ)) → qs ≡ ps ++ mid → mid ≡ [] → ps ≡ qs
ended ps mid qs e nil = sym (e ∙ ap (λ (z : List (List ℕ)). ps ++ z) nil ∙ append-nil ps)

-- the whole of the bytes is cut in one way at most
pub whole_cut : (ps qs : List (List ℕ)) (source : List ℕ) → source ≡ joined ps → source ≡ joined qs → IsCut ps [] →
    IsCut qs [] → ps ≡ qs
whole_cut ps qs source e f x y =
    let same : joined ps ++ [] ≡ joined qs ++ [] = ap (λ (z : List ℕ). z ++ []) (sym e ∙ f) in
    elim (cuts ps [] qs [] x y same) [
      | inl m ↦ ended ps m.0 qs m.1 (none_cut m.0 [] m.2 m.3)
      | inr m ↦ sym (ended qs m.0 ps m.1 (none_cut m.0 [] m.2 m.3))
    ]

-- bytes that are cut whole are not cut up to a fault
pub whole_or_stuck : (ps qs : List (List ℕ)) (left source : List ℕ) → source ≡ joined ps → source ≡ joined qs ++ left →
    IsCut ps [] → IsCut qs left → left ≢ [] → IsStuck left → ⊥
whole_or_stuck ps qs left source e f x y some stuck =
    let same : joined ps ++ [] ≡ joined qs ++ left = append-nil (joined ps) ∙ sym e ∙ f in
    elim (cuts ps [] qs left x y same) [
      | inl m ↦
          let nil : m.0 ≡ [] = none_cut m.0 left m.2 m.3 in
          some (sym (m.3 ∙ ap (λ (z : List (List ℕ)). joined z ++ left) nil))
      | inr m ↦
          let nil : m.0 ≡ [] = stuck_cut m.0 [] left m.2 stuck m.3 in
          some (m.3 ∙ ap (λ (z : List (List ℕ)). joined z ++ []) nil)
    ]

-- bytes are cut up to a fault in one way at most
pub stuck_once : (ps : List (List ℕ)) (left : List ℕ) (qs : List (List ℕ)) (other source : List ℕ) →
    source ≡ joined ps ++ left → source ≡ joined qs ++ other → IsCut ps left → IsCut qs other → IsStuck left →
    IsStuck other → ps ≡ qs
stuck_once ps left qs other source e f x y stuck stuck_too =
    elim (cuts ps left qs other x y (sym e ∙ f)) [
      | inl m ↦ ended ps m.0 qs m.1 (stuck_cut m.0 other left m.2 stuck m.3)
      | inr m ↦ sym (ended qs m.0 ps m.1 (stuck_cut m.0 left other m.2 stuck_too m.3))
    ]

-- the bytes of one piece more
pub joined_push : (ps : List (List ℕ)) (p : List ℕ) → joined (ps ++ p ∷ []) ≡ joined ps ++ p
joined_push [] p = append-nil p
joined_push (q ∷ qs) p = ap (λ (z : List ℕ). q ++ z) (joined_push qs p) ∙ sym (append_assoc q (joined qs) p)

-- what follows the pieces, with the next piece among them
pub joined_on : (ps : List (List ℕ)) (p rest : List ℕ) → joined ps ++ (p ++ rest) ≡ joined (ps ++ p ∷ []) ++ rest
joined_on ps p rest = sym (append_assoc (joined ps) p rest) ∙ ap (λ (z : List ℕ). z ++ rest) (sym (joined_push ps p))

-- one piece more
pub cut_push : (ps : List (List ℕ)) (p rest : List ℕ) → IsCut ps (p ++ rest) → IsPiece p rest →
    IsCut (ps ++ p ∷ []) rest
cut_push [] p rest cut piece = (piece, tt)
cut_push (q ∷ qs) p rest cut piece =
    (subst (IsPiece q) (joined_on qs p rest) cut.0, cut_push qs p rest cut.1 piece)

-- the bytes begin with a sign of two bytes or one, or with no token
sign_length : (bytes : List ℕ) → IsOther bytes → (r : Option ℕ) × IsTokenLength r bytes
sign_length bytes other =
    elim (cases_Bool (begins_sign 2 bytes)) [
      | inl two ↦ (Some 2, sign_two bytes other two)
      | inr no_two ↦ elim (cases_Bool (begins_sign 1 bytes)) [
        | inl one ↦ (Some 1, sign_one bytes other no_two one)
        | inr no_one ↦ (None, sign_none bytes other no_two no_one)
      ]
    ]

-- the bytes begin with a word of at most 64 bytes, or with no token
word_length : (bytes : List ℕ) → is_letter (get_or bytes 0 0) ≡ true → (r : Option ℕ) × IsTokenLength r bytes
word_length bytes letter =
    let n : ℕ = prefix_len is_name_byte bytes in
    elim (cases_Bool (nat_le n 64)) [
      | inl short ↦ (Some n, word_some bytes n letter refl (leb-true n 64 short))
      | inr long ↦ (None, word_none bytes letter (leb-false n 64 long))
    ]

-- the bytes begin with a token or with none
token_length : (bytes : List ℕ) → (r : Option ℕ) × IsTokenLength r bytes
token_length bytes =
    elim (cases_Bool (is_letter (get_or bytes 0 0))) [
      | inl letter ↦ word_length bytes letter
      | inr no_letter ↦ elim (cases_Bool (is_digit (get_or bytes 0 0))) [
        | inl digit ↦ (Some (prefix_len is_digit bytes), number_some bytes (prefix_len is_digit bytes) digit refl)
        | inr no_digit ↦ sign_length bytes (record { no_letter = no_letter; no_digit = no_digit })
      ]
    ]

-- the bytes begin with a piece or with none
piece_length : (bytes : List ℕ) → (r : Option ℕ) × IsPieceLength r bytes
piece_length bytes =
    elim (cases_Bool (opens_blank bytes)) [
      | inl blank ↦ (Some 1, blank_some bytes blank)
      | inr no_blank ↦ elim (cases_Bool (opens_comment bytes)) [
        | inl comment ↦ (
          Some (prefix_len is_no_end bytes),
          comment_some bytes (prefix_len is_no_end bytes) comment refl,
        )
        | inr no_comment ↦
            let token = token_length bytes in
            (token.0, token_piece bytes token.0 no_blank no_comment token.1)
      ]
    ]

-- the pieces of the bytes, and what is left where none begins
pub record Pieces (bytes : List ℕ) : Type 0 where
  pub pieces : List (List ℕ)
  pub left : List ℕ
  pub whole : bytes ≡ joined pieces ++ left
  pub cut : IsCut pieces left
  pub end : (left ≡ []) ⊎ ((left ≢ []) × IsStuck left)

-- a piece before other pieces
before_pieces : (n : ℕ) (bytes : List ℕ) → IsPieceLength (Some n) bytes → Pieces (drop n bytes) → Pieces bytes
before_pieces n bytes piece more = record {
  pieces = take n bytes ∷ more.pieces;
  left = more.left;
  whole = sym (take-append-drop n bytes) ∙ ap (λ (z : List ℕ). take n bytes ++ z) more.whole
      ∙ sym (append_assoc (take n bytes) (joined more.pieces) more.left);
  cut = (subst (IsPiece (take n bytes)) more.whole piece.1, more.cut);
  end = more.end;
}

-- the first piece, and those of what follows it
cut_first : (most c : ℕ) (cs : List ℕ) → length (c ∷ cs) ≤ suc most →
    (r : Option ℕ) × IsPieceLength r (c ∷ cs) → ((bytes : List ℕ) → length bytes ≤ most → Pieces bytes) →
    Pieces (c ∷ cs)
cut_first most c cs within (None, stuck) others = record {
  pieces = [];
  left = c ∷ cs;
  whole = refl;
  cut = tt;
  end = inr (λ nil. cc nil, stuck);
}
cut_first most c cs within (Some n, piece) others =
    let some : 0 < length (take n (c ∷ cs)) = piece_some (take n (c ∷ cs)) (drop n (c ∷ cs)) piece.1 in
    let shorter : length (drop n (c ∷ cs)) ≤ most =
    omega (arith, length-append (take n (c ∷ cs)) (drop n (c ∷ cs)), ap length (take-append-drop n (c ∷ cs))) in
    before_pieces n (c ∷ cs) piece (others (drop n (c ∷ cs)) shorter)

-- bytes of at most this length are cut into pieces as far as they go
cut_up_to : (most : ℕ) (bytes : List ℕ) → length bytes ≤ most → Pieces bytes
cut_up_to most [] within = record { pieces = []; left = []; whole = refl; cut = tt; end = inl refl }
cut_up_to zero (c ∷ cs) within = absurd (omega arith)
cut_up_to (suc most) (c ∷ cs) within = cut_first most c cs within (piece_length (c ∷ cs)) (cut_up_to most)

-- all bytes are cut into pieces as far as they go
pub cut_all : (bytes : List ℕ) → Pieces bytes
cut_all bytes = cut_up_to (length bytes) bytes (omega arith)
