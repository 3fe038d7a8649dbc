-- The code of a body keeps to the rules of stack code, whatever code follows.
use Rattle.std.proofs.Common.{◌≡◌, ℕ, ◌+◌, ◌*◌, ◌<◌, ◌≤◌, Bool, true, false, not, ◌||◌, nat_le, [], ◌∷◌, ◌++◌, length, take, max, Some, None, refl, sym, ap, ◌∙◌, subst, arith, append_assoc, append-nil, le-leb}
use Rattle.std.proofs.Math.Seq.{take-append_seam}
use Rattle.std.proofs.Math.Nat.{mul-le-mul_left, mul_left_comm}
use Rattle.std.proofs.lemmas.List.{length-append}
use Rattle.tdl_base.specs.declared.limits.TheConstants.{EXPRESSION_TOKENS, REPEAT}
use Rattle.tdl_stack.specs.declared.limits.TheConstants.{STACK_NUMBERS}
use Rattle.tdl_stack.specs.declared.instr.Instr.{Instr}
use Rattle.tdl_stack.specs.declared.instr.Instr.TheVariants as instr
use Rattle.tdl_stack.specs.Lawful.{CodeShape}
use Rattle.tdl_stack.specs.Judging as judging
use Rattle.tdl_stack.specs.Judging.{closes, Sound}
use Rattle.tdl_stack.proofs.Spans.{of_both}
use Rattle.tdl_stack.proofs.CountsThrough.{CountsThrough, counts-nothing, counts-plain, counts-both, counts-rep, counts-more_levels}
use Rattle.tdl_lower.specs.Templates.{Instructions, if_code}
use Rattle.tdl_lower.proofs.SoundCodes.{Pushes, sound-next}

-- a skip ends within what is left
jump_ends : (b : Bool) (n left : ℕ) → n ≤ left → (not b || nat_le n left) ≡ true
jump_ends true n left h = le-leb n left h
jump_ends false n left h = refl

-- a clean block at the front of a code can be spanned
closes-block : (b : Bool) (n : ℕ) (block after whole : Instructions) → n ≡ length block → whole ≡ block ++ after →
    judging.clean b 0 block ≡ true → closes b n 0 whole ≡ true
closes-block b n block after whole count is clean =
    let within : n ≤ length whole = omega (arith, count, ap length is, length-append block after) in
    let taken : take n whole ≡ block =
    ap (λ k. take k whole) count ∙ ap (take (length block)) is ∙ take-append_seam block after in
    of_both _ _ (le-leb n (length whole) within) (ap (judging.clean b 0) taken ∙ clean)

module _ (shape : CodeShape) (is_body : shape.expression ≡ false) where
  -- a code that leaves the stack empty, is clean, and costs at most 514 for each of so many steps
  pub record Runs (steps levels : ℕ) (code : Instructions) : Type 0 where
    pub sound : (rest : Instructions) → Sound shape 0 rest → Sound shape 0 (code ++ rest)
    pub clean : (b : Bool) (rest : Instructions) → judging.clean b 0 rest ≡ true → judging.clean b 0 (code ++ rest) ≡ true
    pub cost : ℕ
    pub counts : CountsThrough cost levels code
    pub bound : cost ≤ 514 * steps

  -- alone it is clean
  alone : (steps levels : ℕ) (code : Instructions) → Runs steps levels code → (b : Bool) → judging.clean b 0 code ≡ true
  alone steps levels code r b = ap (judging.clean b 0) (sym (append-nil code)) ∙ r.clean b [] refl

  -- the block can be spanned
  spanned : (steps levels : ℕ) (code rest : Instructions) → Runs steps levels code → (b : Bool) →
      closes b (length code) 0 (code ++ rest) ≡ true
  spanned steps levels code rest r b =
      closes-block b (length code) code rest (code ++ rest) refl refl (alone steps levels code r b)

  -- ---- blocks

  pub runs-nothing : Runs 0 0 []
  runs-nothing = record {
    sound = λ rest after. after;
    clean = λ b rest after. after;
    cost = 0;
    counts = counts-nothing;
    bound = omega arith;
  }

  pub runs-both : (s t l m : ℕ) (first second : Instructions) → Runs s l first → Runs t m second →
      Runs (s + t) (max l m) (first ++ second)
  runs-both s t l m first second one two = record {
    sound = λ rest after.
        subst (Sound shape 0) (sym (append_assoc first second rest)) (one.sound (second ++ rest) (two.sound rest after));
    clean = λ b rest after.
        ap (judging.clean b 0) (append_assoc first second rest) ∙ one.clean b (second ++ rest) (two.clean b rest after);
    cost = one.cost + two.cost;
    counts = counts-both one.cost two.cost l m first second one.counts two.counts;
    bound = omega (arith, one.bound, two.bound);
  }

  -- ---- each kind of statement

  pub runs-assign : (k d n : ℕ) (code : Instructions) → k < shape.cells → d ≤ STACK_NUMBERS → n ≤ EXPRESSION_TOKENS →
      Pushes shape d n code → Runs 1 0 (code ++ instr.Store k ∷ [])
  runs-assign k d n code there deep few pushes = record {
    sound = λ rest after.
        subst (Sound shape 0) (sym (append_assoc code (instr.Store k ∷ []) rest))
        (pushes.sound (instr.Store k ∷ rest) 0 (omega arith)
        (sound-next shape (instr.Store k) 1 0 rest (is_body, there) (omega arith) refl (omega arith) refl after));
    clean = λ b rest after.
        ap (judging.clean b 0) (append_assoc code (instr.Store k ∷ []) rest) ∙ pushes.clean b (instr.Store k ∷ rest) 0 ∙ after;
    cost = n + 1;
    counts = counts-both n 1 0 0 code (instr.Store k ∷ []) pushes.counts (counts-plain (instr.Store k) (λ c. (tt, refl)));
    bound = omega arith;
  }

  pub runs-if : (d n s l : ℕ) (test first : Instructions) → d ≤ STACK_NUMBERS → n ≤ EXPRESSION_TOKENS →
      Pushes shape d n test → Runs s l first → Runs (s + 0 + 1) (max l 0 + 1) (if_code test first None)
  runs-if d n s l test first deep few pushes block = record {
    sound = λ rest after.
        subst (Sound shape 0) (sym (append_assoc test (jump ∷ first) rest))
        (pushes.sound (jump ∷ first ++ rest) 0 (omega arith)
        (sound-next shape jump 1 0 (first ++ rest) (is_body, tt) (omega arith) refl (omega arith)
        (spanned s l first rest block false) (block.sound rest after)));
    clean = λ b rest after.
        ap (judging.clean b 0) (append_assoc test (jump ∷ first) rest)
        ∙ pushes.clean b (jump ∷ first ++ rest) 0
        ∙ of_both _ _ (jump_ends b (length first) (length (first ++ rest)) (omega (arith, length-append first rest)))
        (block.clean b rest after);
    cost = n + (1 + block.cost);
    counts =
        counts-more_levels _ (max 0 (max 0 l)) (max l 0 + 1) (test ++ jump ∷ first) (omega arith)
        (counts-both n (1 + block.cost) 0 (max 0 l) test (jump ∷ first) pushes.counts
        (counts-both 1 block.cost 0 l (jump ∷ []) first (counts-plain jump (λ c. (tt, refl))) block.counts));
    bound = omega (arith, block.bound);
  }
    where
      jump : Instr
      jump = instr.Jz (length first)

  pub runs-if_else : (d n s t l m : ℕ) (test first other : Instructions) → d ≤ STACK_NUMBERS → n ≤ EXPRESSION_TOKENS →
      Pushes shape d n test → Runs s l first → Runs t m other →
      Runs (s + t + 1) (max l m + 1) (if_code test first (Some other))
  runs-if_else d n s t l m test first other deep few pushes block block' = record {
    sound = λ rest after.
        subst (Sound shape 0) (sym (text rest))
        (pushes.sound (jump ∷ first ++ (over ∷ other ++ rest)) 0 (omega arith)
        (sound-next shape jump 1 0 (first ++ (over ∷ other ++ rest)) (is_body, tt) (omega arith) refl (omega arith)
        (closes-block false (length first + 1) (first ++ over ∷ []) (other ++ rest) (first ++ (over ∷ other ++ rest))
        (sym (length-append first (over ∷ []))) (sym (append_assoc first (over ∷ []) (other ++ rest)))
        (block.clean false (over ∷ []) refl))
        (block.sound (over ∷ other ++ rest)
        (sound-next shape over 0 0 (other ++ rest) (is_body, tt) (omega arith) refl (omega arith)
        (spanned t m other rest block' false) (block'.sound rest after)))));
    clean = λ b rest after.
        ap (judging.clean b 0) (text rest)
        ∙ pushes.clean b (jump ∷ first ++ (over ∷ other ++ rest)) 0
        ∙ of_both _ _ (jump_ends b (length first + 1) (length (first ++ (over ∷ other ++ rest)))
        (omega (arith, length-append first (over ∷ other ++ rest))))
        (block.clean b (over ∷ other ++ rest)
        (of_both _ _ (jump_ends b (length other) (length (other ++ rest)) (omega (arith, length-append other rest)))
        (block'.clean b rest after)));
    cost = n + (1 + block.cost) + (1 + block'.cost);
    counts =
        counts-more_levels _ (max (max 0 (max 0 l)) (max 0 m)) (max l m + 1) (test ++ jump ∷ first ++ over ∷ other) (omega arith)
        (counts-both (n + (1 + block.cost)) (1 + block'.cost) (max 0 (max 0 l)) (max 0 m) (test ++ jump ∷ first) (over ∷ other)
        (counts-both n (1 + block.cost) 0 (max 0 l) test (jump ∷ first) pushes.counts
        (counts-both 1 block.cost 0 l (jump ∷ []) first (counts-plain jump (λ c. (tt, refl))) block.counts))
        (counts-both 1 block'.cost 0 m (over ∷ []) other (counts-plain over (λ c. (tt, refl))) block'.counts));
    bound = omega (arith, block.bound, block'.bound);
  }
    where
      jump : Instr
      jump = instr.Jz (length first + 1)

      over : Instr
      over = instr.Jmp (length other)

      text : (rest : Instructions) →
          (test ++ jump ∷ first ++ over ∷ other) ++ rest ≡ test ++ (jump ∷ first ++ (over ∷ other ++ rest))
      text rest =
          append_assoc (test ++ jump ∷ first) (over ∷ other) rest ∙ append_assoc test (jump ∷ first) (over ∷ other ++ rest)

  pub runs-repeat : (times s l : ℕ) (block : Instructions) → times ≤ REPEAT → Runs s l block →
      Runs (times * s + 1) (l + 1) (instr.Rep times (length block) ∷ block)
  runs-repeat times s l block few body = record {
    sound = λ rest after.
        sound-next shape (instr.Rep times (length block)) 0 0 (block ++ rest) (is_body, few) (omega arith) refl (omega arith)
        (spanned s l block rest body true) (body.sound rest after);
    clean = λ b rest after.
        of_both _ _ (le-leb (length block) (length (block ++ rest)) (omega (arith, length-append block rest)))
        (body.clean b rest after);
    cost = times * body.cost + 1;
    counts = counts-rep times body.cost l block body.counts;
    bound =
        let p : times * body.cost ≤ times * (514 * s) = mul-le-mul_left times body.bound in
        let q : times * (514 * s) ≡ 514 * (times * s) = mul_left_comm times 514 s in
        omega (arith, p, q);
  }
