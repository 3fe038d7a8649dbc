-- One step of a turn of one module.
use Rattle.std.proofs.Common.{◌≡◌, ℕ, zero, suc, false, List, [], ◌∷◌, ◌++◌, filter, Option, Some, None, refl, ap, subst, ◌∙◌}
use Rattle.tdl_trace.specs.Shown.{Shown}
use Rattle.tdl_trace.specs.declared.why.Why.{Why}
use Rattle.tdl_trace.specs.declared.why.Why.TheVariants as why
use Rattle.tdl_scen.specs.declared.entries.Sense.{Sense}
use Rattle.tdl_scen.specs.declared.entries.TaskTimes.{TaskTimes}
use Rattle.tdl_scen.specs.Scenario.{course_of}
use Rattle.tdl_ecode.specs.declared.instr.EInstr.{EInstr}
use Rattle.tdl_image.specs.declared.hosted.Hosted.{Hosted}
use Rattle.tdl_verify.specs.States.{HostNow, Part}
use Rattle.tdl_verify.specs.Turns as turns
use Rattle.tdl_verify.specs.Turns.{Acted, Spot, Turned, host_acts, step_row, acted, picked, part_instr, turn}
use Rattle.tdl_verify.specs.Runs.{is_plain}
use Rattle.tdl_node.specs.Machines.{plain_turned}
use Rattle.tdl_host.specs.declared.act.Next.{Next}
use Rattle.tdl_host.specs.declared.step.Place.{Place}
use Rattle.tdl_host.specs.Hosts.{acts, with_rows_before, went, value_at, listed_times, host_turn, picked_by}
use Rattle.tdl_host.proofs.PlainLemmas.{Agrees, IsPlain, both-plain, filter-same, filter-quiet, step_row-quiet, last_go, next_go, turn-plain, host_acts-plain}

-- the spot after an instruction of a block
abbrev pub spot_after : ℕ → Next → Spot
spot_after b (Next.On pc) = Spot.In 0 b pc
spot_after b Next.Over = Spot.Between

-- what an instruction did is what goes on
acted-went : (next : turns.Next) → Agrees next →
    (b : ℕ) (h : Hosted) (s s' : HostNow) (rows rows' : List Shown) (row : Shown) → is_plain row ≡ false →
    (nx : Next) (a : Acted) → with_rows_before rows a ≡ went nx h s' rows' →
    plain_turned (acted next 0 b (Part.Host h s ∷ []) (rows ++ row ∷ []) a)
    ≡ plain_turned (next (spot_after b nx) (Part.Host h s' ∷ []) rows')
acted-went next agree b h s s' rows rows' row quiet (Next.On pc') (Acted.On p more pc) e =
    let ep : p ≡ Part.Host h s' = cc in
    let er : rows ++ more ≡ rows' = cc in
    let epc : pc ≡ pc' = cc in
    agree (Spot.In 0 b pc) (p ∷ []) ((rows ++ row ∷ []) ++ more) (rows
    ++ more) (filter-same (rows ++ row ∷ []) rows more (filter-quiet rows row quiet))
    ∙ ap (λ q. plain_turned (next (Spot.In 0 b pc) (q ∷ []) (rows ++ more))) ep
    ∙ ap (λ z. plain_turned (next (Spot.In 0 b pc) (Part.Host h s' ∷ []) z)) er
    ∙ ap (λ n. plain_turned (next (Spot.In 0 b n) (Part.Host h s' ∷ []) rows')) epc
acted-went next agree b h s s' rows rows' row quiet Next.Over (Acted.Over p more) e =
    let ep : p ≡ Part.Host h s' = cc in
    let er : rows ++ more ≡ rows' = cc in
    agree Spot.Between (p ∷ []) ((rows ++ row ∷ []) ++ more) (rows
    ++ more) (filter-same (rows ++ row ∷ []) rows more (filter-quiet rows row quiet))
    ∙ ap (λ q. plain_turned (next Spot.Between (q ∷ []) (rows ++ more))) ep
    ∙ ap (λ z. plain_turned (next Spot.Between (Part.Host h s' ∷ []) z)) er
acted-went next agree b h s s' rows rows' row quiet (Next.On pc') (Acted.Over p more) e = absurd cc
acted-went next agree b h s s' rows rows' row quiet (Next.On pc') (Acted.Stop reason) e = absurd cc
acted-went next agree b h s s' rows rows' row quiet Next.Over (Acted.On p more pc) e = absurd cc
acted-went next agree b h s s' rows rows' row quiet Next.Over (Acted.Stop reason) e = absurd cc

-- a trap of an instruction ends the turn
acted-trapped : (next : turns.Next) (b : ℕ) (parts : List Part) (rows log : List Shown) (reason : Why) (a : Acted) →
    with_rows_before rows a ≡ Acted.Stop reason → plain_turned (acted next 0 b parts log a) ≡ Turned.Trapped reason
acted-trapped next b parts rows log reason (Acted.On p more pc) e = absurd cc
acted-trapped next b parts rows log reason (Acted.Over p more) e = absurd cc
acted-trapped next b parts rows log reason (Acted.Stop other) e = let same : other ≡ reason =
    cc in ap (λ w. Turned.Trapped w) same

-- plain rows stay plain
plain-kept : (h : Hosted) (s' : HostNow) (rows rows' : List Shown) (nx : Next) (a : Acted) → IsPlain a →
    with_rows_before rows a ≡ went nx h s' rows' → filter is_plain rows ≡ rows → filter is_plain rows' ≡ rows'
plain-kept h s' rows rows' (Next.On pc') (Acted.On p more pc) new e old =
    let er : rows ++ more ≡ rows' = cc in
    subst (λ z. filter is_plain z ≡ z) er (both-plain rows more old new)
plain-kept h s' rows rows' Next.Over (Acted.Over p more) new e old =
    let er : rows ++ more ≡ rows' = cc in
    subst (λ z. filter is_plain z ≡ z) er (both-plain rows more old new)
plain-kept h s' rows rows' (Next.On pc') (Acted.Over p more) new e old = absurd cc
plain-kept h s' rows rows' (Next.On pc') (Acted.Stop reason) new e old = absurd cc
plain-kept h s' rows rows' Next.Over (Acted.On p more pc) new e old = absurd cc
plain-kept h s' rows rows' Next.Over (Acted.Stop reason) new e old = absurd cc

pub acts-plain : (h : Hosted) (times : List TaskTimes) (senses : List Sense) (x : ℕ) (rows rows' : List Shown)
    (s s' : HostNow) (pc : ℕ) (i : EInstr) (nx : Next) → acts h times senses x rows s pc i ≡ went nx h s' rows' →
    filter is_plain rows ≡ rows → filter is_plain rows' ≡ rows'
acts-plain h times senses x rows rows' s s' pc i nx e old =
    plain-kept h s' rows rows' nx (host_acts x 0 (value_at h s senses x) (listed_times h times) h s pc i)
    (host_acts-plain x 0 (value_at h s senses x) (listed_times h times) h s pc i) e old

-- ---- steps

-- what was picked, wherever it goes on
abbrev pub IsPicked : ℕ → Hosted → HostNow → HostNow → Spot → Option Place → Type 0
IsPicked x h s s' spot place =
    (go : ℕ → ℕ → ℕ → List Part → Turned) (rows : List Shown) → picked go x (Part.Host h s ∷ []) rows spot
    ≡ picked_by go h s' rows place

pub step-finished : (n : ℕ) (h : Hosted) (times : List TaskTimes) (senses : List Sense) (x : ℕ) (spot : Spot)
    (s s' : HostNow) (rows : List Shown) → IsPicked x h s s' spot None →
    host_turn n h times senses x spot s rows ≡ Turned.Finished (Part.Host h s' ∷ []) (filter is_plain rows)
unfolding turn
step-finished zero h times senses x spot s s' rows pick = ap plain_turned (pick last_go rows)
step-finished (suc n) h times senses x spot s s' rows pick =
    ap plain_turned
    (pick (next_go (turn n x 0 (course_of senses x) (listed_times h times)) x 0 (course_of senses x)
    (listed_times h times) rows) rows)

pub step-lost : (n : ℕ) (h : Hosted) (times : List TaskTimes) (senses : List Sense) (x : ℕ) (spot : Spot)
    (s s' : HostNow) (rows : List Shown) (place : Place) → IsPicked x h s s' spot (Some place) →
    part_instr (Part.Host h s' ∷ []) 0 place.block place.pc ≡ None →
    host_turn n h times senses x spot s rows ≡ Turned.Trapped why.Lost
unfolding turn
step-lost zero h times senses x spot s s' rows place pick lost = ap plain_turned (pick last_go rows) ∙ rw lost refl
step-lost (suc n) h times senses x spot s s' rows place pick lost =
    ap plain_turned
    (pick (next_go (turn n x 0 (course_of senses x) (listed_times h times)) x 0 (course_of senses x)
    (listed_times h times) rows) rows)
    ∙ rw lost refl

pub step-spent : (h : Hosted) (times : List TaskTimes) (senses : List Sense) (x : ℕ) (spot : Spot) (s s' : HostNow)
    (rows : List Shown) (place : Place) (i : EInstr) → IsPicked x h s s' spot (Some place) →
    part_instr (Part.Host h s' ∷ []) 0 place.block place.pc ≡ Some i →
    host_turn zero h times senses x spot s rows ≡ Turned.Trapped why.Budget
unfolding turn
step-spent h times senses x spot s s' rows place i pick there = ap plain_turned (pick last_go rows) ∙ rw there refl

pub step-went : (n : ℕ) (h : Hosted) (times : List TaskTimes) (senses : List Sense) (x : ℕ) (spot : Spot)
    (s s' s'' : HostNow) (rows rows' : List Shown) (place : Place) (i : EInstr) (nx : Next) →
    IsPicked x h s s' spot (Some place) → part_instr (Part.Host h s' ∷ []) 0 place.block place.pc ≡ Some i →
    acts h times senses x rows s' place.pc i ≡ went nx h s'' rows' →
    host_turn (suc n) h times senses x spot s rows ≡ host_turn n h times senses x (spot_after place.block nx) s'' rows'
unfolding turn
step-went n h times senses x spot s s' s'' rows rows' place i nx pick there e =
    let next = turn n x 0 (course_of senses x) (listed_times h times) in
    let done : plain_turned
    (acted (turn n x 0 (course_of senses x) (listed_times h times)) 0 place.block (Part.Host h s' ∷ []) (rows
    ++ step_row x 0 h.number.0 place.block place.pc i ∷ [])
    (host_acts x 0 (value_at h s' senses x) (listed_times h times) h s' place.pc i))
    ≡ host_turn n h times senses x (spot_after place.block nx) s'' rows' =
    acted-went next (turn-plain n x 0 (course_of senses x) (listed_times h times)) place.block h s' s'' rows rows'
    (step_row x 0 h.number.0 place.block place.pc i) (step_row-quiet x 0 h.number.0 place.block place.pc i) nx
    (host_acts x 0 (value_at h s' senses x) (listed_times h times) h s' place.pc i) e in
    ap plain_turned (pick (next_go next x 0 (course_of senses x) (listed_times h times) rows) rows) ∙ rw there done

pub step-trapped : (n : ℕ) (h : Hosted) (times : List TaskTimes) (senses : List Sense) (x : ℕ) (spot : Spot)
    (s s' : HostNow) (rows : List Shown) (place : Place) (i : EInstr) (reason : Why) →
    IsPicked x h s s' spot (Some place) → part_instr (Part.Host h s' ∷ []) 0 place.block place.pc ≡ Some i →
    acts h times senses x rows s' place.pc i ≡ Acted.Stop reason →
    host_turn (suc n) h times senses x spot s rows ≡ Turned.Trapped reason
unfolding turn
step-trapped n h times senses x spot s s' rows place i reason pick there e =
    let next = turn n x 0 (course_of senses x) (listed_times h times) in
    let done : plain_turned
    (acted (turn n x 0 (course_of senses x) (listed_times h times)) 0 place.block (Part.Host h s' ∷ []) (rows
    ++ step_row x 0 h.number.0 place.block place.pc i ∷ [])
    (host_acts x 0 (value_at h s' senses x) (listed_times h times) h s' place.pc i)) ≡ Turned.Trapped reason =
    acted-trapped next place.block (Part.Host h s' ∷ []) rows (rows
    ++ step_row x 0 h.number.0 place.block place.pc i ∷ []) reason
    (host_acts x 0 (value_at h s' senses x) (listed_times h times) h s' place.pc i) e in
    ap plain_turned (pick (next_go next x 0 (course_of senses x) (listed_times h times) rows) rows) ∙ rw there done
