use Rattle.std.proofs.Common.{◌≡◌, ◌∙◌, inl, List, Ok, Err, sym, ap, subst}
use Rattle.tdl_grammar.specs.Parsing.{all}
use Rattle.tdl_tree.specs.declared.words.Word.{Word}
use Rattle.tdl_scan.proofs.Spans.{tokens_in_source}
use Rattle.tdl_parse.specs.declared.fail.Fail.{Fail}
use Rattle.tdl_parse.specs.declared.fail.SyntaxError.TheVariants.{BadSyntax}
use Rattle.tdl_parse.specs.Giving.{EndsAt}
use Rattle.tdl_parse.specs.ReadingDeclarations.{limited}
use Rattle.tdl_parse.specs.Words.{words_of}
use Rattle.tdl_parse.proofs.Answered.{answered_spelled, answered_only, fault_spells_none}
use Rattle.tdl_parse.proofs.Told.{told_fault, fault_told, tree_no_fault}
use Rattle.tdl_parse.proofs.parser.parse.Goals as goal

pub words_of-requires : goal.words_of-requires
words_of-requires c = tokens_in_source c.args.source.now c.args.tokens.now c.requires.tokens

pub returns-in-Ok-clause-tree : goal.returns-in-Ok-clause-tree
returns-in-Ok-clause-tree c =
    let same : c.as_slice.result.now ≡ words_of c.args.source.now c.args.tokens.now =
    c.as_slice.ensures.value ∙ c.in_ok-words.ensures in
    answered_spelled (words_of c.args.source.now c.args.tokens.now) c.in-Ok.tree
    (subst (λ (z : List Word). all (limited z) ≡ Ok c.in-Ok.tree) same c.in-Ok.ensures)

pub returns-in-Ok-clause-only : goal.returns-in-Ok-clause-only
returns-in-Ok-clause-only c = λ tree spelled.
    let same : c.as_slice.result.now ≡ words_of c.args.source.now c.args.tokens.now =
    c.as_slice.ensures.value ∙ c.in_ok-words.ensures in
    answered_only (words_of c.args.source.now c.args.tokens.now) c.in-Ok.tree tree
    (subst (λ (z : List Word). all (limited z) ≡ Ok c.in-Ok.tree) same c.in-Ok.ensures) spelled

pub returns-in-Err-At-clause-only : goal.returns-in-Err-At-clause-only
returns-in-Err-At-clause-only c = λ tree spelled.
    let same : c.as_slice.result.now ≡ words_of c.args.source.now c.args.tokens.now =
    c.as_slice.ensures.value ∙ c.in_ok-words.ensures in
    let fault = subst (λ (e : Fail). EndsAt e (all (limited c.as_slice.result.now)))
    c.in-Err-At.field-0-is c.in-Err-At.ensures in
    absurd (fault_spells_none (words_of c.args.source.now c.args.tokens.now) c.in-Err-At.rest.now tree
    (subst (λ (z : List Word). all (limited z) ≡ Err c.in-Err-At.rest.now) same fault) spelled)

pub returns-in-Ok-clause-fault_only : goal.returns-in-Ok-clause-fault_only
returns-in-Ok-clause-fault_only c = λ line col fault.
    let same : c.as_slice.result.now ≡ words_of c.args.source.now c.args.tokens.now =
    c.as_slice.ensures.value ∙ c.in_ok-words.ensures in
    absurd (tree_no_fault c.args.source.now c.args.tokens.now c.in-Ok.tree line col
    (subst (λ (z : List Word). all (limited z) ≡ Ok c.in-Ok.tree) same c.in-Ok.ensures) fault)

pub returns-in-Err-At-clause-fault : goal.returns-in-Err-At-clause-fault
returns-in-Err-At-clause-fault c = λ line col told.
    let same : c.as_slice.result.now ≡ words_of c.args.source.now c.args.tokens.now =
    c.as_slice.ensures.value ∙ c.in_ok-words.ensures in
    let fault = subst (λ (e : Fail). EndsAt e (all (limited c.as_slice.result.now)))
    c.in-Err-At.field-0-is c.in-Err-At.ensures in
    let error : c.fault_at.result ≡ BadSyntax line col = (let z = told in cc z) in
    told_fault c.args.source.now c.args.tokens.now c.in-Err-At.rest.now line col c.requires.tokens
    (subst (λ (z : List Word). all (limited z) ≡ Err c.in-Err-At.rest.now) same fault) (sym error ∙ c.fault_at.ensures)

pub returns-in-Err-At-clause-fault_only : goal.returns-in-Err-At-clause-fault_only
returns-in-Err-At-clause-fault_only c = λ line col is.
    let same : c.as_slice.result.now ≡ words_of c.args.source.now c.args.tokens.now =
    c.as_slice.ensures.value ∙ c.in_ok-words.ensures in
    let fault = subst (λ (e : Fail). EndsAt e (all (limited c.as_slice.result.now)))
    c.in-Err-At.field-0-is c.in-Err-At.ensures in
    inl (ap Err (c.fault_at.ensures ∙ fault_told c.args.source.now c.args.tokens.now c.in-Err-At.rest.now line col c.requires.tokens
    (subst (λ (z : List Word). all (limited z) ≡ Err c.in-Err-At.rest.now) same fault) is))
