-- Tokens stand in the source, one after the other.
use Rattle.std.proofs.Common.{◌≡◌, ℕ, ◌+◌, ◌-◌, ◌≤◌, ◌<◌, true, ◌||◌, List, [], ◌∷◌, ◌++◌, length, sym, refl, ap, ◌∙◌, subst, inl, inr, arith, append_assoc, Option, Some, None, length-append}
use Rattle.std.specs.List.{slice_range, All, AllByRecursion}
use Rattle.std.proofs.lemmas.List.Elements.{All-from_recursion}
use Rattle.std.proofs.lemmas.Bool.{cases_Bool, false≢true, or_left, or_right}
use Rattle.std.proofs.Math.Seq.{drop-append_seam, take-append_seam}
use Rattle.tdl_base.specs.Lists.{joined}
use Rattle.tdl_scan.specs.declared.token.Token.{Token}
use Rattle.tdl_scan.specs.declared.token.TokenKind.{TokenKind}
use Rattle.tdl_scan.specs.declared.token.TokenKind.TheVariants.{Id, Number, Sign}
use Rattle.tdl_scan.specs.Lexemes.{is_identifier, is_number, is_sign, is_token, IsOfKind, kind_of}
use Rattle.tdl_scan.specs.Places.{place_after}
use Rattle.tdl_scan.specs.Tokens.{token_at, token_list, tokens_after, IsTokensOf, IsInSource, IsInOrder}
use Rattle.tdl_scan.proofs.Cutting.{empty_no_token}

-- a text that has a kind is of that kind
kind_is : (t : List ℕ) (kind : TokenKind) → kind_of t ≡ Some kind → IsOfKind kind t
kind_is t kind e =
    elim (cases_Bool (is_identifier t)) [
      | inl name ↦ subst (λ (k : TokenKind). IsOfKind k t) (let same : Id ≡ kind = cc (rw name at e) in same) name
      | inr no_name ↦ elim (cases_Bool (is_number t)) [
        | inl number ↦ subst (λ (k : TokenKind). IsOfKind k t)
            (let same : Number ≡ kind = cc (rw (no_name, number) at e) in same) number
        | inr no_number ↦ elim (cases_Bool (is_sign t)) [
          | inl sign ↦ subst (λ (k : TokenKind). IsOfKind k t)
              (let same : Sign ≡ kind = cc (rw (no_name, no_number, sign) at e) in same) sign
          | inr no_sign ↦ absurd (cc (rw (no_name, no_number, no_sign) at e))
        ]
      ]
    ]

-- what is of a kind is a token's text
kind_token : (kind : TokenKind) (t : List ℕ) → IsOfKind kind t → is_token t ≡ true
kind_token Id t h = or_left (is_identifier t || is_number t) (is_sign t) (or_left (is_identifier t) (is_number t) h)
kind_token Number t h = or_left (is_identifier t || is_number t) (is_sign t) (or_right (is_identifier t) (is_number t) h)
kind_token Sign t h = or_right (is_identifier t || is_number t) (is_sign t) h

-- and is not empty
kind_some : (kind : TokenKind) (t : List ℕ) → IsOfKind kind t → 0 < length t
kind_some kind [] h = absurd (false≢true (sym empty_no_token ∙ kind_token kind [] h))
kind_some kind (c ∷ cs) h = omega arith

-- what stands between two texts
range_middle : (front piece after : List ℕ) →
    slice_range (front ++ (piece ++ after)) (length front) (length front + length piece) ≡ piece
range_middle front piece after =
    let n : length front + length piece - length front ≡ length piece = omega arith in
    rw (n, drop-append_seam front (piece ++ after)) (take-append_seam piece after)

-- a token is in the source where its text stands
in_source : (source front piece after : List ℕ) (kind : TokenKind) → source ≡ front ++ (piece ++ after) →
    IsOfKind kind piece → IsInSource source (token_at (place_after front) (length front) (length piece) kind)
in_source source front piece after kind e is_kind =
    let text : slice_range source (length front) (length front + length piece) ≡ piece =
    ap (λ (z : List ℕ). slice_range z (length front) (length front + length piece)) e
    ∙ range_middle front piece after in
    record {
      some = omega (arith, kind_some kind piece is_kind);
      within = omega (arith, ap length e, length-append front (piece ++ after), length-append piece after);
      kind = subst (IsOfKind kind) (sym text) is_kind;
    }

-- and then all tokens after it are
one_in_source : (source front piece after : List ℕ) (k : Option TokenKind) (more : List Token) → kind_of piece ≡ k →
    source ≡ front ++ (piece ++ after) → AllByRecursion (IsInSource source) more →
    AllByRecursion (IsInSource source) (token_list (place_after front) (length front) (length piece) k ++ more)
one_in_source source front piece after None more is_kind e all = all
one_in_source source front piece after (Some kind) more is_kind e all =
    (in_source source front piece after kind e (kind_is piece kind is_kind), all)

-- all tokens among the pieces are in the source
all_in_source : (source front : List ℕ) (pieces : List (List ℕ)) → source ≡ front ++ joined pieces →
    AllByRecursion (IsInSource source) (tokens_after front pieces)
all_in_source source front [] e = tt
all_in_source source front (piece ∷ pieces) e =
    one_in_source source front piece (joined pieces) (kind_of piece) (tokens_after (front ++ piece) pieces) refl e
    (all_in_source source (front ++ piece) pieces (e ∙ sym (append_assoc front piece (joined pieces))))

-- tokens that stand from byte m on stand from any byte before on
order_weaker : (m n : ℕ) (tokens : List Token) → n ≤ m → IsInOrder m tokens → IsInOrder n tokens
order_weaker m n [] within order = tt
order_weaker m n (token ∷ tokens) within order = let first = order.0 in (omega arith, order.1)

-- a token before tokens in order
one_in_order : (front piece : List ℕ) (k : Option TokenKind) (more : List Token) →
    IsInOrder (length front + length piece) more →
    IsInOrder (length front) (token_list (place_after front) (length front) (length piece) k ++ more)
one_in_order front piece None more order =
    order_weaker (length front + length piece) (length front) more (omega arith) order
one_in_order front piece (Some kind) more order = (omega arith, order)

-- the tokens among the pieces stand in order
all_in_order : (front : List ℕ) (pieces : List (List ℕ)) → IsInOrder (length front) (tokens_after front pieces)
all_in_order front [] = tt
all_in_order front (piece ∷ pieces) =
    one_in_order front piece (kind_of piece) (tokens_after (front ++ piece) pieces)
    (subst (λ (n : ℕ). IsInOrder n (tokens_after (front ++ piece) pieces)) (length-append front piece)
    (all_in_order (front ++ piece) pieces))

-- all tokens of a source are in it
pub tokens_in_source : (source : List ℕ) (tokens : List Token) → IsTokensOf tokens source →
    All (IsInSource source) tokens
tokens_in_source source tokens is =
    subst (All (IsInSource source)) (sym is.among)
    (All-from_recursion (IsInSource source) (tokens_after [] is.pieces) (all_in_source source [] is.pieces is.whole))

-- and they stand in order
pub tokens_in_order : (source : List ℕ) (tokens : List Token) → IsTokensOf tokens source → IsInOrder 0 tokens
tokens_in_order source tokens is = subst (IsInOrder 0) (sym is.among) (all_in_order [] is.pieces)
