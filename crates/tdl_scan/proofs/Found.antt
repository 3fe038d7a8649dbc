-- How far a scan has come, and that its answer is the only one.
use Rattle.std.proofs.Common.{◌≡◌, ◌≢◌, ℕ, ◌+◌, ◌≤◌, ◌<◌, List, [], ◌∷◌, ◌++◌, length, take, drop, sym, refl, ap, ap₂, ◌∙◌, subst, subst₂, take-append-drop, inl, inr, ◌⊎◌, arith, append_assoc, append-nil, Some, length-append}
use Rattle.tdl_base.specs.Lists.{joined}
use Rattle.tdl_scan.specs.declared.place.SourcePlace.{SourcePlace}
use Rattle.tdl_scan.specs.declared.token.Token.{Token}
use Rattle.tdl_scan.specs.Lexemes.{kind_of}
use Rattle.tdl_scan.specs.Pieces.{IsPiece, IsCut, IsStuck}
use Rattle.tdl_scan.specs.Lengths.{IsPieceLength}
use Rattle.tdl_scan.specs.Places.{place_after, line_after, col_after}
use Rattle.tdl_scan.specs.Tokens.{token_list, tokens_after, IsTokensOf, IsTokenFault}
use Rattle.tdl_scan.proofs.Pieces.{piece_some}
use Rattle.tdl_scan.proofs.Cuts.{cut_push, joined_push, joined_on, whole_cut, whole_or_stuck, stuck_once, cut_all}
use Rattle.tdl_scan.proofs.Places.{line_most, col_most}

-- the tokens among one piece more
pub tokens_push : (front : List ℕ) (ps : List (List ℕ)) (p : List ℕ) →
    tokens_after front (ps ++ p ∷ []) ≡ tokens_after front ps
    ++ token_list (place_after (front ++ joined ps)) (length (front ++ joined ps)) (length p) (kind_of p)
tokens_push front [] p =
    append-nil (token_list (place_after front) (length front) (length p) (kind_of p))
    ∙ ap (λ (z : List ℕ). token_list (place_after z) (length z) (length p) (kind_of p)) (sym (append-nil front))
tokens_push front (q ∷ qs) p =
    let own : List Token = token_list (place_after front) (length front) (length q) (kind_of q) in
    let last : List ℕ → List Token = λ z. token_list (place_after z) (length z) (length p) (kind_of p) in
    ap (λ (z : List Token). own ++ z)
    (tokens_push (front ++ q) qs p
    ∙ ap (λ (z : List ℕ). tokens_after (front ++ q) qs ++ last z) (append_assoc front q (joined qs)))
    ∙ sym (append_assoc own (tokens_after (front ++ q) qs) (last (front ++ (q ++ joined qs))))

-- how far the scan has come: the tokens found are those of the pieces up to `left`, which begins at `from`, at `place`
pub record IsScanned (found : List Token) (place : SourcePlace) (from : ℕ) (left source : List ℕ) : Type 0 where
  pub pieces : List (List ℕ)
  pub parts : source ≡ joined pieces ++ left
  pub cut : IsCut pieces left
  pub among : found ≡ tokens_after [] pieces
  pub here : place ≡ place_after (joined pieces)
  pub count : from ≡ length (joined pieces)

-- one piece further on
pub scanned_step : (found more : List Token) (place next : SourcePlace) (from then : ℕ)
    (piece rest left source : List ℕ) →
    IsScanned found place from left source → left ≡ piece ++ rest → IsPiece piece rest →
    more ≡ found ++ token_list place from (length piece) (kind_of piece) →
    ((front : List ℕ) → place ≡ place_after front → next ≡ place_after (front ++ piece)) →
    then ≡ from + length piece → IsScanned more next then rest source
scanned_step found more place next from then piece rest left source s e is_piece added moved count =
    let before : List ℕ = joined s.pieces in
    record {
      pieces = s.pieces ++ piece ∷ [];
      parts = s.parts ∙ ap (λ (z : List ℕ). before ++ z) e ∙ joined_on s.pieces piece rest;
      cut = cut_push s.pieces piece rest (subst (IsCut s.pieces) e s.cut) is_piece;
      among = added
          ∙ ap₂ (λ (f : List Token) (l : List Token). f ++ l) s.among
          (ap₂ (λ (p : SourcePlace) (n : ℕ). token_list p n (length piece) (kind_of piece)) s.here s.count)
          ∙ sym (tokens_push [] s.pieces piece);
      here = moved before s.here ∙ ap place_after (sym (joined_push s.pieces piece));
      count = count ∙ ap (λ (n : ℕ). n + length piece) s.count ∙ sym (length-append before piece)
          ∙ ap length (sym (joined_push s.pieces piece));
    }

-- the piece of n bytes at the front, and what follows it
pub record IsNext (piece rest left : List ℕ) : Type 0 where
  pub parts : left ≡ piece ++ rest
  pub is : IsPiece piece rest
  pub shorter : length rest < length left

-- what is cut off at a piece's length is the piece
pub next_piece : (n : ℕ) (piece rest left : List ℕ) → IsPieceLength (Some n) left → piece ≡ take n left →
    rest ≡ drop n left → IsNext piece rest left
next_piece n piece rest left here front back =
    let parts : left ≡ piece ++ rest =
    sym (take-append-drop n left) ∙ ap₂ (λ (x y : List ℕ). x ++ y) (sym front) (sym back) in
    let is : IsPiece piece rest = subst₂ IsPiece (sym front) (sym back) here.1 in
    record {
      parts = parts;
      is = is;
      shorter = omega (arith, piece_some piece rest is, ap length parts, length-append piece rest);
    }

-- what is counted so far, in bytes, lines and columns
pub record IsWithin (place : SourcePlace) (from : ℕ) (left source : List ℕ) : Type 0 where
  pub bytes : from + length left ≡ length source
  pub lines : place.line ≤ from + 1
  pub cols : place.col ≤ from + 1

-- the place is within the source
pub scanned_within : (found : List Token) (place : SourcePlace) (from : ℕ) (left source : List ℕ) →
    IsScanned found place from left source → IsWithin place from left source
scanned_within found place from left source s = record {
  bytes = omega (arith, s.count, ap length s.parts, length-append (joined s.pieces) left);
  lines = omega (arith, s.count, ap (λ (p : SourcePlace). p.line) s.here, line_most (joined s.pieces));
  cols = omega (arith, s.count, ap (λ (p : SourcePlace). p.col) s.here, col_most (joined s.pieces));
}

-- a list of length 0 has nothing
empty : (xs : List ℕ) → length xs ≡ 0 → xs ≡ []
empty [] e = refl
empty (x ∷ xs) e = absurd (omega arith)

-- at the end the tokens found are those of the source
pub scanned_whole : (found : List Token) (place : SourcePlace) (from : ℕ) (left source : List ℕ) →
    IsScanned found place from left source → length left ≡ 0 → IsTokensOf found source
scanned_whole found place from left source s none = record {
  pieces = s.pieces;
  whole = s.parts ∙ ap (λ (z : List ℕ). joined s.pieces ++ z) (empty left none) ∙ append-nil (joined s.pieces);
  cut = subst (IsCut s.pieces) (empty left none) s.cut;
  among = s.among;
}

-- where no piece begins there is the fault
pub scanned_stuck : (found : List Token) (place : SourcePlace) (from line col : ℕ) (left source : List ℕ) →
    IsScanned found place from left source → left ≢ [] → IsStuck left → record { line = line; col = col } ≡ place →
    IsTokenFault source line col
scanned_stuck found place from line col left source s some stuck e = record {
  pieces = s.pieces;
  left = left;
  whole = s.parts;
  cut = s.cut;
  some_left = some;
  stuck = stuck;
  place = e ∙ s.here;
}

-- a source has one list of tokens at most
pub one_list : (source : List ℕ) (a b : List Token) → IsTokensOf a source → IsTokensOf b source → a ≡ b
one_list source a b x y =
    x.among ∙ ap (tokens_after []) (whole_cut x.pieces y.pieces source x.whole y.whole x.cut y.cut) ∙ sym y.among

-- and no fault beside it
pub never_both : (source : List ℕ) (tokens : List Token) (line col : ℕ) → IsTokensOf tokens source →
    ¬ IsTokenFault source line col
never_both source tokens line col x y =
    whole_or_stuck x.pieces y.pieces y.left source x.whole y.whole x.cut y.cut y.some_left y.stuck

-- and one place of a fault at most
pub one_place : (source : List ℕ) (line col other_line other_col : ℕ) → IsTokenFault source line col →
    IsTokenFault source other_line other_col → (line ≡ other_line) × (col ≡ other_col)
one_place source line col other_line other_col x y =
    let pieces : x.pieces ≡ y.pieces =
    stuck_once x.pieces x.left y.pieces y.left source x.whole y.whole x.cut y.cut x.stuck y.stuck in
    let same = x.place ∙ ap (λ (z : List (List ℕ)). place_after (joined z)) pieces ∙ sym y.place in
    (ap (λ (p : SourcePlace). p.line) same, ap (λ (p : SourcePlace). p.col) same)

-- a source has tokens or a fault
pub one : (source : List ℕ) →
    ((tokens : List Token) × IsTokensOf tokens source) ⊎ ((line : ℕ) × (col : ℕ) × IsTokenFault source line col)
one source =
    let all = cut_all source in
    elim all.end [
      | inl nil ↦ inl (
        tokens_after [] all.pieces,
        record {
          pieces = all.pieces;
          whole = all.whole ∙ ap (λ (z : List ℕ). joined all.pieces ++ z) nil ∙ append-nil (joined all.pieces);
          cut = subst (IsCut all.pieces) nil all.cut;
          among = refl;
        },
      )
      | inr fault ↦ inr (
        line_after (joined all.pieces),
        col_after (joined all.pieces),
        record {
          pieces = all.pieces;
          left = all.left;
          whole = all.whole;
          cut = all.cut;
          some_left = fault.0;
          stuck = fault.1;
          place = refl;
        },
      )
    ]
