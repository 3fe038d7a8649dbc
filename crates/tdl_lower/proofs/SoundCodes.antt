-- The code of an expression pushes one number and keeps to the room of the stack, whatever code follows.
use Rattle.std.proofs.Common.{◌≡◌, ℕ, ℤ, suc, ◌+◌, ◌-◌, ◌≤◌, Bool, true, List, [], ◌∷◌, ◌++◌, max, refl, sym, ap, ◌∙◌, subst, subst₂, arith, append_assoc}
use Rattle.std.specs.List.{AllByRecursion}
use Rattle.tdl_base.specs.declared.arithmetic.BinOp.{BinOp}
use Rattle.tdl_base.specs.declared.arithmetic.UnOp.{UnOp}
use Rattle.tdl_base.specs.declared.numbers.Place.{Place}
use Rattle.tdl_body.specs.declared.tree.Expr.{Expr}
use Rattle.tdl_body.specs.declared.tree.Expr.TheOpen.{Expr-F}
use Rattle.tdl_body.specs.declared.tree.Expr.TheViews.{roll-Expr}
use Rattle.tdl_body.specs.declared.tree.Expr.TheFolds.{ind-Expr, map-Expr}
use Rattle.tdl_body.specs.Places.{places_of, places_step}
use Rattle.tdl_body.specs.Bounds.{nodes_of, nodes_step, depth_of, depth_step}
use Rattle.tdl_body.proofs.Equations.{places_of-roll}
use Rattle.tdl_body.proofs.BoundEquations.{nodes_of-roll, depth_of-roll}
use Rattle.tdl_stack.specs.declared.limits.TheConstants.{STACK_NUMBERS}
use Rattle.tdl_stack.specs.declared.instr.Instr.{Instr}
use Rattle.tdl_stack.specs.declared.instr.Instr.TheVariants as instr
use Rattle.tdl_stack.specs.Lawful.{CodeShape, takes, height_after}
use Rattle.tdl_stack.specs.Judging.{Fits, clean, spans_well, Sound}
use Rattle.tdl_lower.specs.Templates.{Instructions, expr_code, expr_template}
use Rattle.tdl_lower.proofs.Equations.{expr_code-roll}
use Rattle.tdl_stack.proofs.CountsThrough.{CountsThrough, counts-plain, counts-both}

module _ (shape : CodeShape) where
  -- an instruction that fits, and what comes after it
  pub sound-next : (i : Instr) (h g : ℕ) (rest : Instructions) → Fits shape i → takes i ≤ h → height_after h i ≡ g →
      g ≤ STACK_NUMBERS → spans_well i g rest ≡ true → Sound shape g rest → Sound shape h (i ∷ rest)
  sound-next i h g rest fits supplied e room spans after = (
    record {
      fits = fits;
      supplied = supplied;
      room = omega (arith, e);
      spans = subst (λ k. spans_well i k rest ≡ true) (sym e) spans;
    },
    subst (λ k. Sound shape k rest) (sym e) after,
  )

  -- a code that pushes one number, with so many at most beside those below it, and of so many instructions
  pub record Pushes (depth nodes : ℕ) (code : Instructions) : Type 0 where
    pub sound : (rest : Instructions) (h : ℕ) → h + depth ≤ STACK_NUMBERS → Sound shape (suc h) rest →
        Sound shape h (code ++ rest)
    pub clean : (b : Bool) (rest : Instructions) (h : ℕ) → clean b h (code ++ rest) ≡ clean b (suc h) rest
    pub counts : CountsThrough nodes 0 code

  -- a constant
  pushes-const : (v : ℤ) → Pushes 1 1 (instr.Const v ∷ [])
  pushes-const v = record {
    sound = λ rest h room after.
        sound-next (instr.Const v) h (suc h) rest (tt, tt) (omega arith) (omega arith) (omega arith) refl after;
    clean = λ b rest h. let e : h - 0 + 1 ≡ suc h = omega arith in ap (λ k. clean b k rest) e;
    counts = counts-plain (instr.Const v) (λ c. (tt, refl));
  }

  -- a load
  pushes-load : (p : Place) → Fits shape (instr.Load p) → Pushes 1 1 (instr.Load p ∷ [])
  pushes-load p fits = record {
    sound = λ rest h room after.
        sound-next (instr.Load p) h (suc h) rest fits (omega arith) (omega arith) (omega arith) refl after;
    clean = λ b rest h. let e : h - 0 + 1 ≡ suc h = omega arith in ap (λ k. clean b k rest) e;
    counts = counts-plain (instr.Load p) (λ c. (tt, refl));
  }

  -- an operator after its operand
  pushes-un : (op : UnOp) (d n : ℕ) (a : Instructions) → Pushes d n a → Pushes (d + 1) (n + 1) (a ++ instr.Un op ∷ [])
  pushes-un op d n a first = record {
    sound = λ rest h room after.
        subst (Sound shape h) (sym (append_assoc a (instr.Un op ∷ []) rest))
        (first.sound (instr.Un op ∷ rest) h (omega arith)
        (sound-next (instr.Un op) (suc h) (suc h) rest (tt, tt) (omega arith) (omega arith) (omega arith) refl after));
    clean = λ b rest h.
        let e : suc h - 1 + 1 ≡ suc h = omega arith in
        ap (clean b h) (append_assoc a (instr.Un op ∷ []) rest)
        ∙ first.clean b (instr.Un op ∷ rest) h
        ∙ ap (λ k. clean b k rest) e;
    counts = counts-both n 1 0 0 a (instr.Un op ∷ []) first.counts (counts-plain (instr.Un op) (λ c. (tt, refl)));
  }

  -- an operator after its two operands
  pushes-bin : (op : BinOp) (c d m n : ℕ) (a b : Instructions) → Pushes c m a → Pushes d n b →
      Pushes (max c d + 1) (m + n + 1) (a ++ b ++ instr.Bin op ∷ [])
  pushes-bin op c d m n a b first second = record {
    sound = λ rest h room after.
        subst (Sound shape h) (sym (append_assoc (a ++ b) (instr.Bin op ∷ []) rest ∙ append_assoc a b (instr.Bin op ∷ rest)))
        (first.sound (b ++ instr.Bin op ∷ rest) h (omega arith)
        (second.sound (instr.Bin op ∷ rest) (suc h) (omega arith)
        (sound-next (instr.Bin op) (suc (suc h)) (suc h) rest (tt, tt) (omega arith) (omega arith) (omega arith) refl after)));
    clean = λ t rest h.
        let e : suc (suc h) - 2 + 1 ≡ suc h = omega arith in
        ap (clean t h) (append_assoc (a ++ b) (instr.Bin op ∷ []) rest ∙ append_assoc a b (instr.Bin op ∷ rest))
        ∙ first.clean t (b ++ instr.Bin op ∷ rest) h
        ∙ second.clean t (instr.Bin op ∷ rest) (suc h)
        ∙ ap (λ k. clean t k rest) e;
    counts =
        counts-both (m + n) 1 0 0 (a ++ b) (instr.Bin op ∷ []) (counts-both m n 0 0 a b first.counts second.counts)
        (counts-plain (instr.Bin op) (λ c. (tt, refl)));
  }

  -- ---- trees

  -- each of some places may be loaded from
  abbrev pub AllLoad : List Place → Type 0
  AllLoad = AllByRecursion (λ p. Fits shape (instr.Load p))

  -- so each place of both parts of a list
  both_parts : (ps qs : List Place) → AllLoad (ps ++ qs) → AllLoad ps × AllLoad qs
  both_parts [] qs h = (tt, h)
  both_parts (p ∷ ps) qs h = let r = both_parts ps qs h.1 in ((h.0, r.0), r.1)

  -- the code of e pushes one number
  abbrev IsPushed : Expr → Type 0
  IsPushed e = AllLoad (places_of e) → Pushes (depth_of e) (nodes_of e) (expr_code e)

  -- an operand of which this is known
  abbrev Known : Type 0
  Known = (e : Expr) × IsPushed e

  -- the node with its operands as expressions
  abbrev plain : Expr-F Known → Expr-F Expr
  plain node = map-Expr Known Expr (λ e. e.0) node

  -- a node of such operands
  node_pushed : (node : Expr-F Known) → AllLoad (places_step (map-Expr Expr (List Place) places_of (plain node))) →
      Pushes (depth_step (map-Expr Expr ℕ depth_of (plain node))) (nodes_step (map-Expr Expr ℕ nodes_of (plain node)))
      (expr_template (map-Expr Expr Instructions expr_code (plain node)))
  node_pushed (Expr-F.Const v) h = pushes-const v
  node_pushed (Expr-F.Load p) h = pushes-load p h.0
  node_pushed (Expr-F.Un op a) h = pushes-un op (depth_of a.0) (nodes_of a.0) (expr_code a.0) (a.1 h)
  node_pushed (Expr-F.Bin op a b) h =
      let parts = both_parts (places_of a.0) (places_of b.0) h in
      pushes-bin op (depth_of a.0) (depth_of b.0) (nodes_of a.0) (nodes_of b.0) (expr_code a.0) (expr_code b.0)
      (a.1 parts.0) (b.1 parts.1)

  -- the code of an expression that reads what may be read pushes one number
  pub pushed : (e : Expr) → IsPushed e
  pushed = ind-Expr IsPushed (λ x node is.
      subst (λ z. IsPushed (roll-Expr z)) is
      (λ h.
      subst (λ d. Pushes d (nodes_of (roll-Expr (plain node))) (expr_code (roll-Expr (plain node)))) (sym (depth_of-roll (plain node)))
      (subst₂ (Pushes (depth_step (map-Expr Expr ℕ depth_of (plain node)))) (sym (nodes_of-roll (plain node))) (sym (expr_code-roll (plain node)))
      (node_pushed node (subst AllLoad (places_of-roll (plain node)) h)))))
