-- The parser of the example is good for its grammar, with limits and without.
use Rattle.std.proofs.Common.{inr, arith, ℕ, zero, suc, Bool, List, [], ◌∷◌, length, refl}
use Rattle.tdl_grammar.specs.declared.signs.Sign.{Sign}
use Rattle.tdl_grammar.specs.declared.signs.Sign.TheVariants as sign
use Rattle.tdl_grammar.specs.Grammar as G
use Rattle.tdl_grammar.specs.Grammar.{Lang, some_depth, at_most, nowhere}
use Rattle.tdl_grammar.specs.Parsing.{P, one, both, made, either, maybe, many, chain, capped, by_length}
use Rattle.tdl_grammar.specs.Goodness.{Good, GrowsTo, Agree, Agreeing, never, any}
use Rattle.tdl_grammar.specs.Example
use Rattle.tdl_grammar.proofs.Goods.{good_one, good_both, good_before, good_made, good_either, good_refuse, good_widen, good_same, good_for, nullable_maybe}
use Rattle.tdl_grammar.proofs.Many.{nullable_many}
use Rattle.tdl_grammar.proofs.Chains.{good_chain, good_separated}
use Rattle.tdl_grammar.proofs.Capped.{good_capped, capped_agree}
use Rattle.tdl_grammar.proofs.Depth.{shrinks, good_by_length}
use Rattle.tdl_grammar.proofs.Growing.{grow, grow_same, grow_both, grow_made, grow_either, grow_chain, grow_many}
use Rattle.tdl_grammar.proofs.Agreeing.{agree_made, agree_both, agree_after, agree_either, agree_many, agree_chain}
use Rattle.tdl_grammar.proofs.ExampleSigns.{apart, within}

-- a number
abbrev number : Lang Sign ℕ
number = G.made Example.number_of (G.one Example.is_number)

-- numbers
good_number : Good Example.read_number number number Example.is_number never
good_number = good_made Example.number_of _ _ _ Example.is_number never (good_one Example.is_number sign.One refl)

-- what begins an item
abbrev pub starts : Sign → Bool
starts = any Example.is_open Example.is_number

-- items with a plus between them
abbrev chained : (p : P Sign ℕ) (L : Lang Sign ℕ) → Good p L L starts never →
    Good (chain Example.is_plus Example.weighed p) (G.chain Example.is_plus Example.weighed L)
    (G.chain Example.is_plus Example.weighed L) starts Example.is_plus
chained p L x =
    good_widen _ _ _ starts (any never (any Example.is_plus never)) starts Example.is_plus (λ t e. e) (within _ _ refl)
    (good_chain Example.is_plus sign.Plus refl Example.weighed p L L starts never (apart _ _ refl) x)

-- an item over the parser of sums
abbrev item : P Sign ℕ → P Sign ℕ
item p = either Example.is_open (made Example.inner (both (one Example.is_open) (both p
    (one Example.is_close)))) Example.read_number

-- an item over the language of sums
abbrev items : Lang Sign ℕ → Lang Sign ℕ
items L = G.either (G.made Example.inner (G.both (G.one Example.is_open) (G.both L (G.one Example.is_close)))) number

-- items
good_item : (p : P Sign ℕ) (L : Lang Sign ℕ) → Good p L L starts Example.is_plus →
    Good (item p) (items L) (items L) starts never
good_item p L x =
    good_widen _ _ _ starts (any never never) starts never (λ t e. e) (within _ _ refl)
    (good_either _ Example.read_number _ _ number number Example.is_open never Example.is_number never (apart _ _ refl)
    (good_made Example.inner _ _ _ Example.is_open never
    (good_both (one Example.is_open) _ _ _ _ _ Example.is_open never starts never (apart _ _ refl)
    (good_one Example.is_open sign.Open refl)
    (good_both p (one Example.is_close) _ _ _ _ starts Example.is_plus Example.is_close never (apart _ _ refl)
    x (good_one Example.is_close sign.Close refl))))
    good_number)

-- sums nested at most n deep
good_sum : (n : ℕ) → Good (Example.read_sum n) (Example.sum n) (Example.sum n) starts Example.is_plus
good_sum zero = chained Example.read_number number (good_widen _ _ _ Example.is_number never starts never (within _
    _ refl) (λ t e. e) good_number)
good_sum (suc n) = chained _ _ (good_item (Example.read_sum n) (Example.sum n) (good_sum n))

-- a greater depth reads the same of few tokens
agree_sum : Agreeing Example.read_sum
agree_sum k zero zero a b ts h = refl
agree_sum k zero (suc m) a b [] h = refl
agree_sum k zero (suc m) a b (t ∷ ts) h = absurd (omega arith)
agree_sum k (suc n) zero a b [] h = refl
agree_sum k (suc n) zero a b (t ∷ ts) h = absurd (omega arith)
agree_sum zero (suc n) (suc m) a b [] h = refl
agree_sum zero (suc n) (suc m) a b (t ∷ ts) h = absurd (omega arith)
agree_sum (suc k) (suc n) (suc m) a b ts h =
    let x : Agree k (Example.read_sum n) (Example.read_sum m) = agree_sum k n m (omega arith) (omega arith) in
    agree_chain (suc k) Example.is_plus Example.weighed (item (Example.read_sum n)) (item (Example.read_sum m))
    (shrinks _ _ _ starts never (good_item (Example.read_sum m) (Example.sum m) (good_sum m)))
    (agree_either (suc k) Example.is_open _ _ Example.read_number Example.read_number
    (agree_made (suc k) Example.inner _ _ (agree_after k Example.is_open _ _
    (agree_both k (Example.read_sum n) (Example.read_sum m) (one Example.is_close) (one Example.is_close)
    (Example.sum m) (Example.sum m) (good_sum m).reads x (λ us d. refl))))
    (λ us d. refl)) ts h

-- one deeper
grow_sum : (k n : ℕ) → GrowsTo k (Example.sum n) (Example.sum (suc n))
grow_sum k zero = grow_chain k Example.is_plus Example.weighed number (items (Example.sum zero)) (λ a ts b l. inr l)
grow_sum k (suc n) =
    grow_chain k Example.is_plus Example.weighed (items (Example.sum n)) (items (Example.sum (suc n)))
    (grow_either k _ _ number number
    (grow_made k Example.inner _ _
    (grow_both k (G.one Example.is_open) (G.one Example.is_open) _ _ (grow_same k (G.one Example.is_open))
    (grow_both k _ _ (G.one Example.is_close) (G.one Example.is_close) (grow_sum k n) (grow_same k
    (G.one Example.is_close)))))
    (grow_same k number))

-- sums nested to any depth
good_any : Good (by_length Example.read_sum) Example.Sum Example.Sum starts Example.is_plus
good_any = good_by_length Example.read_sum Example.sum Example.sum starts Example.is_plus agree_sum
    (λ n. grow _ _ (λ k. grow_sum k n)) good_sum

-- sums of at most 5 tokens
good_five : Good (capped 5 Example.is_plus (Example.read_sum 5))
    (at_most 5 Example.Sum) Example.Sum starts Example.is_plus
good_five =
    good_same (capped 5 Example.is_plus (by_length Example.read_sum)) _ _ _ starts Example.is_plus
    (capped_agree 5 Example.is_plus (Example.read_sum 5) (by_length Example.read_sum)
    (λ ts h. agree_sum (length ts) 5 (length ts) h (omega arith) ts (omega arith)))
    (good_capped 5 (by_length Example.read_sum) Example.Sum Example.Sum starts Example.is_plus good_any)

-- ---- blocks

-- lists
good_list : (e : P Sign ℕ) (E E' : Lang Sign ℕ) → Good e E E' starts Example.is_plus → Good (Example.read_list e)
    (Example.list E) (Example.list E') starts never
good_list e E E' x =
    good_made Example.before_sign _ _ _ starts never
    (good_both _ (one Example.is_semicolon) _ _ _ _ starts _ Example.is_semicolon never (apart _ _ refl)
    (good_separated Example.is_comma sign.Comma refl e E E' starts Example.is_plus (apart _ _ refl) x)
    (good_one Example.is_semicolon sign.Semicolon refl))

-- what stands in a block
abbrev piece : P Sign ℕ → P Sign (List ℕ) → P Sign (List ℕ)
piece e b = either Example.is_begin b (Example.read_list e)

-- what stands in a block, over smaller blocks
good_piece : (e : P Sign ℕ) (E E' : Lang Sign ℕ) → Good e E E' starts Example.is_plus →
    (b : P Sign (List ℕ)) (B B' : Lang Sign (List ℕ)) →
    Good b B B' Example.is_begin never → Good (piece e b) (G.either B (Example.list E)) (G.either B'
    (Example.list E')) Example.begins_item never
good_piece e E E' x b B B' y =
    good_widen _ _ _ (any Example.is_begin starts) (any never never) Example.begins_item never (within _ _ refl)
    (within _ _ refl)
    (good_either b (Example.read_list e) B B' (Example.list E) (Example.list E') Example.is_begin never starts never
    (apart _ _ refl) y (good_list e E E' x))

-- blocks; where one fails, the tokens before begin a block that may be deeper
good_block : (e : P Sign ℕ) (E E' : Lang Sign ℕ) → Good e E E' starts Example.is_plus → (n : ℕ) →
    Good (Example.read_block e n) (Example.block E n) (Example.block E' (suc n)) Example.is_begin never
good_block e E E' x zero =
    good_widen _ _ _ never never Example.is_begin never (within _ _ refl) (λ t h. h)
    (good_refuse (Example.block E' 1) [] (sign.Begin ∷ sign.End ∷ []) (
      (sign.Begin, ([], sign.End)),
      (
        sign.Begin ∷ [],
        sign.End ∷ [],
        (refl, refl),
        (
          [],
          sign.End ∷ [],
          refl,
          (
            refl,
            refl,
          ),
          refl,
        ),
        refl,
      ),
      refl,
    ))
good_block e E E' x (suc n) =
    let y = good_piece e E E' x (Example.read_block e n) (Example.block E n) (Example.block E' (suc n))
    (good_block e E E' x n) in
    good_made Example.in_block _ _ _ Example.is_begin never
    (good_both (one Example.is_begin) _ _ _ _ _ Example.is_begin never
    (any Example.begins_item Example.is_end) never (apart _ _ refl) (good_one Example.is_begin sign.Begin refl)
    (good_before (many Example.begins_item (piece e (Example.read_block e n))) (one Example.is_end) _ _ _
    _ Example.begins_item (any Example.begins_item never) Example.is_end never (apart _ _ refl)
    (nullable_many (piece e (Example.read_block e n)) _ _ Example.begins_item never (apart _ _ refl) y)
    (good_one Example.is_end sign.End refl)))

-- a greater depth reads the same of few tokens
agree_block : (e : P Sign ℕ) (E E' : Lang Sign ℕ) → Good e E E' starts Example.is_plus → Agreeing (Example.read_block e)
agree_block e E E' x k zero zero a b ts h = refl
agree_block e E E' x k zero (suc m) a b [] h = refl
agree_block e E E' x k zero (suc m) a b (t ∷ ts) h = absurd (omega arith)
agree_block e E E' x k (suc n) zero a b [] h = refl
agree_block e E E' x k (suc n) zero a b (t ∷ ts) h = absurd (omega arith)
agree_block e E E' x zero (suc n) (suc m) a b [] h = refl
agree_block e E E' x zero (suc n) (suc m) a b (t ∷ ts) h = absurd (omega arith)
agree_block e E E' x (suc k) (suc n) (suc m) a b ts h =
    let y = good_piece e E E' x (Example.read_block e m) (Example.block E m) (Example.block E' (suc m))
    (good_block e E E' x m) in
    agree_made (suc k) Example.in_block _ _ (agree_after k Example.is_begin _ _
    (agree_both k (many Example.begins_item (piece e (Example.read_block e n))) (many Example.begins_item (piece e
    (Example.read_block e m))) (one Example.is_end) (one Example.is_end) _ _
    (nullable_many (piece e (Example.read_block e m)) _ _ Example.begins_item never (apart _ _ refl) y).reads
    (agree_many k Example.begins_item (piece e (Example.read_block e n)) (piece e (Example.read_block e m)) (shrinks
    _ _ _ Example.begins_item never y)
    (agree_either k Example.is_begin _ _ (Example.read_list e) (Example.read_list e) (agree_block e E E' x k n m
    (omega arith) (omega arith)) (λ us d. refl)))
    (λ us d. refl))) ts h

-- one deeper
grow_block : (E : Lang Sign ℕ) (k n : ℕ) → GrowsTo k (Example.block E n) (Example.block E (suc n))
grow_block E k zero = λ a ts b l. absurd l
grow_block E k (suc n) =
    grow_made k Example.in_block _ _
    (grow_both k (G.one Example.is_begin) (G.one Example.is_begin) _ _ (grow_same k (G.one Example.is_begin))
    (grow_both k _ _ (G.one Example.is_end) (G.one Example.is_end)
    (grow_many k _ _ (grow_either k _ _ (Example.list E) (Example.list E) (grow_block E k n) (grow_same k
    (Example.list E))))
    (grow_same k (G.one Example.is_end))))

-- blocks nested to any depth
abbrev blocks : Lang Sign (List ℕ)
blocks = some_depth (Example.block Example.Sum)

-- their parser
abbrev read_blocks : P Sign (List ℕ)
read_blocks = by_length (Example.read_block (by_length Example.read_sum))

-- blocks nested to any depth are read
good_blocks : Good read_blocks blocks blocks Example.is_begin never
good_blocks =
    good_for read_blocks blocks (some_depth (λ n. Example.block Example.Sum
    (suc n))) blocks blocks Example.is_begin never
    (λ a ts l. l) (λ a ts l. l) (λ a ts l. (suc l.0, l.1))
    (good_by_length (Example.read_block (by_length Example.read_sum)) (Example.block Example.Sum)
    (λ n. Example.block Example.Sum (suc n)) Example.is_begin never
    (agree_block (by_length Example.read_sum) Example.Sum Example.Sum good_any)
    (λ n. grow _ _ (λ k. grow_block Example.Sum k n))
    (good_block (by_length Example.read_sum) Example.Sum Example.Sum good_any))

-- texts over blocks
good_text : (b : P Sign (List ℕ)) (B B' : Lang Sign (List ℕ)) → Good b B B' Example.is_begin never →
    Good (Example.read_text b) (Example.text B) (Example.text B') (any Example.is_minus Example.is_begin) never
good_text b B B' y =
    good_made Example.in_text _ _ _ (any Example.is_minus Example.is_begin) never
    (good_before (maybe Example.is_minus (one Example.is_minus)) b _ _ B B' Example.is_minus
    (any Example.is_minus never) Example.is_begin never (apart _ _ refl)
    (nullable_maybe (one Example.is_minus) _ _ Example.is_minus never (good_one Example.is_minus sign.Minus refl)) y)

-- the parser without limits is good for the grammar without limits
pub good_free : Good Example.read_free Example.Text Example.Text (any Example.is_minus Example.is_begin) never
good_free = good_text _ _ _ good_blocks

-- the parser with limits is good for the grammar with limits, and fails in that without
pub good_limited : Good Example.read_limited Example.Limited Example.Text (any Example.is_minus Example.is_begin) never
good_limited =
    good_text _ _ _
    (good_for _ _ (Example.block Example.Sum 3) (Example.block (at_most 5 Example.Sum) 2) blocks Example.is_begin never
    (λ a ts l. l) (λ a ts l. l) (λ a ts l. (3, l))
    (good_block (capped 5 Example.is_plus (Example.read_sum 5)) (at_most 5 Example.Sum) Example.Sum good_five 2))
