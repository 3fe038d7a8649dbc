-- What a sink holds while the run of a bundle is printed, instant by instant.
use Rattle.std.proofs.Common.{◌≡◌, ◌≤◌, ◌-◌, ℕ, suc, List, [], ◌++◌, filter, Option, refl, ap, sym, ◌∙◌, subst, arith, append-nil, append_assoc}
use Rattle.std.specs.declared.result.Result.{Result}
use Rattle.std.specs.declared.result.Result.TheVariants.{Ok, Err}
use Rattle.std.specs.Result.{IfErr, IsErrAnd, IsErrOf}
use Rattle.std.proofs.lemmas.List.Elements.{filter-append}
use Rattle.tdl_io.specs.Outside.{Appends, AppendsPart, Rose}
use Rattle.tdl_trace.specs.declared.names.Names.{Names}
use Rattle.tdl_trace.specs.declared.why.Why.{Why}
use Rattle.tdl_trace.specs.Shown.{Shown}
use Rattle.tdl_trace.specs.Lines.{text_of}
use Rattle.tdl_trace.proofs.Texts.{text_of-append}
use Rattle.tdl_io.proofs.Appending.{appends_none, appends_more, part_more, part_wider}
use Rattle.tdl_image.specs.declared.bundle.Bundle.{Bundle}
use Rattle.tdl_base.specs.Sensed.{Sensed}
use Rattle.tdl_verify.specs.States.{Part, Times}
use Rattle.tdl_verify.specs.Turns.{Turned}
use Rattle.tdl_verify.specs.Runs.{Run, Now, IsAlive, no_loss, is_plain, trap_rows, plain_rows, run_to, machine_run}
use Rattle.tdl_node.specs.declared.machine.Stop.{Stop}
use Rattle.tdl_node.specs.declared.machine.Stop.TheVariants as stop
use Rattle.tdl_node.specs.declared.fault.NodeFault.{NodeFault}
use Rattle.tdl_node.specs.declared.fault.NodeFault.TheVariants as fault
use Rattle.tdl_trace.specs.declared.print_fault.PrintFault.{PrintFault}
use Rattle.tdl_trace.specs.declared.print_fault.PrintFault.TheVariants as printing
use Rattle.tdl_node.specs.Machines.{IsOffBus, IsBegun, IsTrap}
use Rattle.tdl_node.specs.Steps.{turned_at, micro_and_turn, fault_of, printing_fault, IsTrapFault, IsDeadFor}
use Rattle.tdl_node.proofs.Steps.{Stands, Went}
use Rattle.tdl_node.proofs.Standing.{Grows, begins, begins_dead, goes_on, dies, stays_dead, grows_to}

-- the plain rows that a run has shown
abbrev shown_by : Run → List Shown
shown_by r = filter is_plain r.rows

-- the plain rows of a longer run
plain_grown : (r q : Run) → (g : Grows r q) → plain_rows q ≡ shown_by r ++ filter is_plain (g.more ++ trap_rows q.now)
plain_grown r q g =
    ap (λ (a : List Shown). filter is_plain (a ++ trap_rows q.now)) g.rows
    ∙ ap (filter is_plain) (append_assoc r.rows g.more (trap_rows q.now))
    ∙ filter-append is_plain r.rows (g.more ++ trap_rows q.now)

-- a first part of what a run has shown is one of what a longer run shows
part_grown : (names : Names) (r q : Run) (a c : Option (List ℕ)) → Grows r q →
    AppendsPart a c (text_of names (shown_by r)) →
    AppendsPart a c (text_of names (plain_rows q))
part_grown names r q a c g p =
    subst (λ (t : List ℕ). AppendsPart a c t)
    (sym (ap (text_of names) (plain_grown r q g)
    ∙ text_of-append names (shown_by r) (filter is_plain (g.more ++ trap_rows q.now))))
    (part_wider a c (text_of names (shown_by r)) (text_of names (filter is_plain (g.more ++ trap_rows q.now))) p)

-- all that is put is a first part of itself
whole_part : (a c : Option (List ℕ)) (xs : List ℕ) → Appends a c xs → AppendsPart a c xs
whole_part a c xs h =
    subst (λ (t : List ℕ). AppendsPart a c t) (append-nil xs) (part_more a c c xs [] h ([], refl, appends_none c))

plain_alive : (d : ℕ) (parts : List Part) (r : Run) → Stands d parts r → plain_rows r ≡ shown_by r
plain_alive d parts r s =
    ap (λ (now : Now). filter is_plain (r.rows ++ trap_rows now)) s.now ∙ ap (filter is_plain) (append-nil r.rows)

-- a dead run is not alive
not_alive : (now : Now) (node at : ℕ) (reason : Why) → now ≡ Now.Dead node at reason → IsAlive now → ⊥
not_alive now node at reason e alive = subst IsAlive e alive

dead_for : (now : Now) (node at : ℕ) (reason : Why) → now ≡ Now.Dead node at reason → IsDeadFor now reason
dead_for now node at reason e = subst (λ (n : Now). IsDeadFor n reason) (sym e) refl

-- the fault of a machine that stopped
abbrev pub Stops : Stop → Result (Unit {0}) NodeFault → Type 0
Stops s r = IsErrAnd r (λ f. f ≡ fault_of s)

-- what follows from a trap holds where the fault is a trap
fault_says : (P Q : Why → Type 0) → ((reason : Why) → P reason → Q reason) →
    (s : Stop) (r : Result (Unit {0}) NodeFault) → Stops s r →
    IsTrap P s → IfErr r (IsTrapFault Q)
fault_says P Q weaker s (Ok x) e h = tt
fault_says P Q weaker (stop.Trapped reason) (Err f) e h = subst (IsTrapFault Q) (sym e) (weaker reason h)
fault_says P Q weaker stop.NoMemory (Err f) e h = subst (IsTrapFault Q) (sym e) tt

-- rows that were not printed, where the fault is that of the sink
pub write_failed : (f : PrintFault) (r : Result (Unit {0}) NodeFault) → IsErrAnd r (λ e. e ≡ printing_fault f) →
    IsErrOf r fault.WriteFailed →
    IsErrOf {T = Unit {0}} (Err f) printing.WriteFailed
write_failed f r e h =
    by_fault f (subst (λ (q : Result (Unit {0}) NodeFault). IsErrAnd q (λ e. e ≡ printing_fault f)) h e)
  where
    by_fault : (f : PrintFault) → fault.WriteFailed ≡ printing_fault f →
        IsErrOf {T = Unit {0}} (Err f) printing.WriteFailed
    by_fault printing.WriteFailed e = refl
    by_fault printing.NoMemory e = absurd (cc e)

-- a count that rose since a later call rose since an earlier one
pub rose_before : (before later now : ℕ) → before ≤ later → Rose later now → Rose before now
rose_before before later now le rose = omega (arith, le, rose)

module _ (b : Bundle) (h : ℕ) (course : ℕ → Sensed) (times : Times) (names : Names) where
  -- the whole text
  abbrev pub whole : List ℕ
  whole = text_of names (plain_rows (machine_run b h course times no_loss))

  -- the run up to x stands at these parts, and the sink holds its lines
  pub record Reaches (x d : ℕ) (parts : List Part) (before now : Option (List ℕ)) : Type 0 where
    pub stands : Stands d parts (run_to b h course times no_loss x)
    pub off : IsOffBus parts
    pub held : Appends before now (text_of names (shown_by (run_to b h course times no_loss x)))

  -- a first part of what is shown up to x is one of the whole text
  part_of_whole : (x : ℕ) (a c : Option (List ℕ)) → x ≤ h →
      AppendsPart a c (text_of names (shown_by (run_to b h course times no_loss x))) → AppendsPart a c whole
  part_of_whole x a c le p =
      part_grown names (run_to b h course times no_loss x) (run_to b h course times no_loss h) a c
      (grows_to b h course times x (h - x) h (omega (arith, le))) p

  -- rows after those that were shown
  text_went : (d : ℕ) (later : List Part) (before rows : List Shown) (r : Run) → Went d later before rows r →
      text_of names (shown_by r) ≡ text_of names before ++ text_of names rows
  text_went d later before rows r w = ap (text_of names) w.rows ∙ text_of-append names before rows

  -- ---- instant 0

  pub first_reached : (d e : ℕ) (parts later : List Part) (rows : List Shown) (a c : Option (List ℕ)) →
      IsBegun b d parts → IsOffBus later →
      turned_at d (course 0) times 0 parts ≡ Turned.Finished later rows → e ≡ d → Appends a c (text_of names rows) →
      Reaches 0 e later a c
  first_reached d e parts later rows a c begun off t same put =
      let w = begins b h course times d parts later rows begun off t in
      subst (λ (k : ℕ). Reaches 0 k later a c) (sym same)
      (record {
        stands = w.stands;
        off = off;
        held = subst (λ (r : List Shown). Appends a c (text_of names r)) (sym w.rows) put;
      })

  pub first_unprinted : (d : ℕ) (parts later : List Part) (rows : List Shown) (a c : Option (List ℕ)) →
      IsBegun b d parts → IsOffBus later →
      turned_at d (course 0) times 0 parts ≡ Turned.Finished later rows → AppendsPart a c (text_of names rows) →
      AppendsPart a c whole
  first_unprinted d parts later rows a c begun off t put =
      let w = begins b h course times d parts later rows begun off t in
      part_of_whole 0 a c (omega arith) (subst (λ (r : List Shown). AppendsPart a c (text_of names r)) (sym w.rows) put)

  first_dead : (d : ℕ) (parts : List Part) (reason : Why) → IsBegun b d parts →
      turned_at d (course 0) times 0 parts ≡ Turned.Trapped reason →
      (machine_run b h course times no_loss).now ≡ Now.Dead 0 0 reason
  first_dead d parts reason begun t =
      stays_dead b h course times 0 h h 0 0 reason (omega arith) (begins_dead b h course times d parts reason begun t)

  pub first_trapped : (d : ℕ) (parts : List Part) (s : Stop) (r : Result (Unit {0}) NodeFault) → IsBegun b d parts →
      Stops s r →
      IsTrap (λ reason. turned_at d (course 0) times 0 parts ≡ Turned.Trapped reason) s →
      IfErr r (IsTrapFault (λ reason. IsAlive (machine_run b h course times no_loss).now → ⊥))
  first_trapped d parts s r begun e h' =
      fault_says (λ reason. turned_at d (course 0) times 0 parts ≡ Turned.Trapped reason) _
      (λ reason t. not_alive _ 0 0 reason (first_dead d parts reason begun t)) s r e h'

  pub first_reason : (d : ℕ) (parts : List Part) (s : Stop) (r : Result (Unit {0}) NodeFault) → IsBegun b d parts →
      Stops s r →
      IsTrap (λ reason. turned_at d (course 0) times 0 parts ≡ Turned.Trapped reason) s →
      IfErr r (IsTrapFault (λ reason. IsDeadFor (machine_run b h course times no_loss).now reason))
  first_reason d parts s r begun e h' =
      fault_says (λ reason. turned_at d (course 0) times 0 parts ≡ Turned.Trapped reason) _
      (λ reason t. dead_for _ 0 0 reason (first_dead d parts reason begun t)) s r e h'

  -- ---- one more instant

  -- the machine's own times are those of the run
  in_times : (own : Times) (x d : ℕ) (parts : List Part) (t : Turned) → own ≡ times →
      micro_and_turn d (course (suc x)) own x parts ≡ t →
      micro_and_turn d (course (suc x)) times x parts ≡ t
  in_times own x d parts t same e = subst (λ (k : Times). micro_and_turn d (course (suc x)) k x parts ≡ t) same e

  pub next_reached : (x y d e : ℕ) (parts later : List Part) (rows : List Shown) (own : Times)
      (a m c : Option (List ℕ)) → Reaches x d parts a m → IsOffBus later →
      own ≡ times → micro_and_turn d (course (suc x)) own x parts ≡ Turned.Finished later rows → y ≡ suc x → e ≡ d →
      Appends m c (text_of names rows) → Reaches y e later a c
  next_reached x y d e parts later rows own a m c at off own_is t is same put =
      let w = goes_on b h course times x d parts later rows at.stands off (in_times own x d parts _ own_is t) in
      subst (λ (k : ℕ). Reaches k e later a c) (sym is)
      (subst (λ (k : ℕ). Reaches (suc x) k later a c) (sym same)
      (record {
        stands = w.stands;
        off = off;
        held = subst (λ (text : List ℕ). Appends a c text) (sym (text_went d later _ rows _ w))
            (appends_more a m c _ _ at.held put);
      }))

  pub next_unprinted : (x d : ℕ) (parts later : List Part) (rows : List Shown) (own : Times) (a m c : Option (List ℕ))
      → Reaches x d parts a m → IsOffBus later →
      own ≡ times → micro_and_turn d (course (suc x)) own x parts ≡ Turned.Finished later rows → suc x ≤ h →
      AppendsPart m c (text_of names rows) → AppendsPart a c whole
  next_unprinted x d parts later rows own a m c at off own_is t le put =
      let w = goes_on b h course times x d parts later rows at.stands off (in_times own x d parts _ own_is t) in
      part_of_whole (suc x) a c le
      (subst (λ (text : List ℕ). AppendsPart a c text) (sym (text_went d later _ rows _ w))
      (part_more a m c _ _ at.held put))

  next_dead : (x d : ℕ) (parts : List Part) (reason : Why) (a m : Option (List ℕ)) → Reaches x d parts a m →
      micro_and_turn d (course (suc x)) times x parts ≡ Turned.Trapped reason → suc x ≤ h →
      (machine_run b h course times no_loss).now ≡ Now.Dead 0 (suc x) reason
  next_dead x d parts reason a m at t le =
      stays_dead b h course times (suc x) (h - suc x) h 0 (suc x) reason (omega (arith, le))
      (dies b h course times x d parts reason at.stands t)

  pub next_trapped : (x d : ℕ) (parts : List Part) (own : Times) (a m : Option (List ℕ)) (s : Stop)
      (r : Result (Unit {0}) NodeFault) →
      Reaches x d parts a m → own ≡ times → suc x ≤ h → Stops s r →
      IsTrap (λ reason. micro_and_turn d (course (suc x)) own x parts ≡ Turned.Trapped reason) s →
      IfErr r (IsTrapFault (λ reason. IsAlive (machine_run b h course times no_loss).now → ⊥))
  next_trapped x d parts own a m s r at same le e h' =
      fault_says (λ reason. micro_and_turn d (course (suc x)) own x parts ≡ Turned.Trapped reason) _
      (λ reason t. not_alive _ 0 (suc x) reason
      (next_dead x d parts reason a m at (in_times own x d parts _ same t) le)) s r e h'

  pub next_reason : (x d : ℕ) (parts : List Part) (own : Times) (a m : Option (List ℕ)) (s : Stop)
      (r : Result (Unit {0}) NodeFault) →
      Reaches x d parts a m → own ≡ times → suc x ≤ h → Stops s r →
      IsTrap (λ reason. micro_and_turn d (course (suc x)) own x parts ≡ Turned.Trapped reason) s →
      IfErr r (IsTrapFault (λ reason. IsDeadFor (machine_run b h course times no_loss).now reason))
  next_reason x d parts own a m s r at same le e h' =
      fault_says (λ reason. micro_and_turn d (course (suc x)) own x parts ≡ Turned.Trapped reason) _
      (λ reason t. dead_for _ 0 (suc x) reason
      (next_dead x d parts reason a m at (in_times own x d parts _ same t) le)) s r e h'

  -- ---- the end

  -- what is put is a first part of the whole text
  pub stops_at : (x d : ℕ) (parts : List Part) (a m : Option (List ℕ)) → Reaches x d parts a m → x ≤ h →
      AppendsPart a m whole
  stops_at x d parts a m at le = part_of_whole x a m le (whole_part a m _ at.held)

  -- the whole text is put
  pub ends_at : (x d : ℕ) (parts : List Part) (a m : Option (List ℕ)) → Reaches x d parts a m → x ≡ h →
      Appends a m whole
  ends_at x d parts a m at e =
      let s = subst (λ (k : ℕ). Reaches k d parts a m) e at in
      subst (λ (r : List Shown). Appends a m (text_of names r)) (sym (plain_alive d parts _ s.stands)) s.held

  pub ends_alive : (x d : ℕ) (parts : List Part) (a m : Option (List ℕ)) → Reaches x d parts a m → x ≡ h →
      IsAlive (machine_run b h course times no_loss).now
  ends_alive x d parts a m at e =
      let s = subst (λ (k : ℕ). Reaches k d parts a m) e at in
      subst IsAlive (sym s.stands.now) tt
