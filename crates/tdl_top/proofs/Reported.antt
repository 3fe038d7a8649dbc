-- The parts of what an answer says, and what it says after its line was put.
use Rattle.std.proofs.Common.{◌≡◌, ℕ, List, subst, sym, inl, inr, refl, ◌∙◌, Option, Some, None}
use Rattle.std.specs.Prelude.{◌≢◌, ◌⊎◌, ◌↔◌}
use Rattle.tdl_io.specs.Told.{SinkTold}
use Rattle.tdl_report.specs.declared.status.Status.{Status}
use Rattle.tdl_report.specs.declared.status.Status.TheVariants.{Ok, Usage, WriteFailed, SaveFailed, NoMemory}
use Rattle.tdl_words.specs.declared.words.Call.{Call}
use Rattle.tdl_words.specs.Words.{Words}
use Rattle.tdl_report.specs.Calls.{FilesCall, SinkCall, IsUnchanged, IsSilent}
use Rattle.tdl_report.specs.Reports.{IsSaid, IsQuiet, IsToldOfSave}
use Rattle.tdl_top.specs.Answers.{AnswerSaysOf, AnswerSaysBy}

-- ---- the line of an answer

-- an answer that is no failed save has put no line yet
pub told_quiet : (words : Words) (err : SinkCall) (s : Status) → ((w : ℕ) → s ≢ SaveFailed w) → IsQuiet err →
    IsToldOfSave words err s
told_quiet words err (SaveFailed w) save quiet = absurd (save w refl)
told_quiet words err s save quiet = quiet

quiet_of_told : (words : Words) (err : SinkCall) (s : Status) → ((w : ℕ) → s ≢ SaveFailed w) →
    IsToldOfSave words err s → IsQuiet err
quiet_of_told words err (SaveFailed w) save told = absurd (save w refl)
quiet_of_told words err s save told = told

-- a line that is put after a call that put none
pub quiet_said : (words : Words) (s : Status) (a b c : SinkTold) (line : List ℕ) → ((w : ℕ) → s ≢ SaveFailed w) →
    IsToldOfSave words (record { before = a; after = b }) s → IsSaid (record { before = b; after = c }) line →
    IsSaid (record { before = a; after = c }) line
quiet_said words s a b c line save told said =
    let quiet = quiet_of_told words (record { before = a; after = b }) s save told in
    subst (λ (k : ℕ). IsSaid (record { before = record { contents = a.contents; faults = k }; after = c }) line)
    quiet.count
    (subst (λ (h : Option (List ℕ)). IsSaid (record { before = record { contents = h; faults = b.faults }; after = c })
    line) quiet.contents said)

-- ---- an answer that its line may have turned into want of memory

no_memory_of : (files : FilesCall) (words : Words) (out : SinkCall) (call : Call) (s : Status) → s ≢ Ok →
    ((w : ℕ) → s ≢ SaveFailed w) →
    AnswerSaysOf files words out call s → AnswerSaysOf files words out call NoMemory
no_memory_of files words out call Ok ok save says = absurd (ok refl)
no_memory_of files words out call (SaveFailed w) ok save says = absurd (save w refl)
no_memory_of files words out call WriteFailed ok save says = inr says.1
no_memory_of files words out call NoMemory ok save says = says
no_memory_of files words out call s ok save says = inl (says.1, says.2)

is_usage : (s : Status) → (s ≡ Usage) ⊎ (s ≢ Usage)
is_usage Usage = inl refl
is_usage s = inr (λ e. cc)

no_memory_by : (files : FilesCall) (words : Words) (out : SinkCall) (o : Option Call) (s : Status) → s ≢ Ok →
    s ≢ Usage → ((w : ℕ) → s ≢ SaveFailed w) →
    AnswerSaysBy files words out o s → AnswerSaysBy files words out o NoMemory
no_memory_by files words out None s ok usage save says = absurd (usage says.0)
no_memory_by files words out (Some call) s ok usage save says = no_memory_of files words out call s ok save says

-- an answer whose line was put
pub says_reported : (files : FilesCall) (words : Words) (out : SinkCall) (o : Option Call) (s r : Status) → s ≢ Ok →
    ((w : ℕ) → s ≢ SaveFailed w) →
    (r ≡ s) ⊎ (r ≡ NoMemory) → (s ≡ Usage → r ≡ s) → AnswerSaysBy files words out o s → AnswerSaysBy files words out o r
says_reported files words out o s r ok save kept usage says = elim kept [
  | inl same ↦ subst (λ (t : Status). AnswerSaysBy files words out o t) (sym same) says
  | inr less ↦ elim (is_usage s) [
    | inl u ↦ subst (λ (t : Status). AnswerSaysBy files words out o t) (sym (usage u)) says
    | inr other ↦ subst (λ (t : Status). AnswerSaysBy files words out o t) (sym less)
        (no_memory_by files words out o s ok other save says)
  ]
]

-- an answer whose line was put is not Ok
pub reported_not_ok : (s r : Status) → s ≢ Ok → (r ≡ s) ⊎ (r ≡ NoMemory) → r ≢ Ok
reported_not_ok s r ok kept e = elim kept [
  | inl same ↦ ok (sym same ∙ e)
  | inr less ↦ is_ok (sym less ∙ e)
]
  where
    is_ok : NoMemory ≡ Ok → ⊥
    is_ok h = cc h

-- ---- the parts of what an answer says

-- what an answer says, at a call and at a status that it is
pub says_at : (files : FilesCall) (words : Words) (out : SinkCall) (o : Option Call) (s t : Status) (call : Call) →
    o ≡ Some call → s ≡ t →
    AnswerSaysBy files words out o s → AnswerSaysOf files words out call t
says_at files words out o s t call e same says =
    subst (λ (r : Status). AnswerSaysOf files words out call r) same
    (subst (λ (p : Option Call). AnswerSaysBy files words out p s) e says)

-- what the answer to a call says, where the words ask for that call
pub says_called : (files : FilesCall) (words : Words) (out : SinkCall) (o : Option Call) (call : Call) (s : Status) →
    Some call ≡ o →
    AnswerSaysOf files words out call s → AnswerSaysBy files words out o s
says_called files words out o call s e says = subst (λ (p : Option Call). AnswerSaysBy files words out p s) e says

not_usage : (files : FilesCall) (words : Words) (out : SinkCall) (call : Call) (s : Status) →
    AnswerSaysOf files words out call s → s ≢ Usage
not_usage files words out call s says = λ e. (subst (λ (t : Status). AnswerSaysOf files words out call t) e says).0

-- lawful words give no Usage, and others give it
pub says_usage : (files : FilesCall) (words : Words) (out : SinkCall) (o : Option Call) (s : Status) →
    AnswerSaysBy files words out o s → (s ≡ Usage) ↔ (o ≡ None)
says_usage files words out None s says = ((λ e. refl), λ e. says.0)
says_usage files words out (Some call) s says = ((λ e. absurd (not_usage files words out call s says e)), λ e. cc)
