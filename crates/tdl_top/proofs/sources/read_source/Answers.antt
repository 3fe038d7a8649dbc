use Rattle.std.proofs.Common.{◌≡◌, List, ℕ, length, rules, subst}
use Rattle.std.proofs.lemmas.Result.{err_from_is_err_and}
use Rattle.tdl_words.specs.Words.{texts, word_at}
use Rattle.tdl_report.specs.Calls.{files_call}
use Rattle.tdl_top.specs.Loads.{ScanSays, ParseSays}
use Rattle.tdl_top.specs.Sources.{HasTree}
use Rattle.tdl_top.proofs.ReadSource.{load_source, scan_source, parse_source, good_source}
use Rattle.tdl_top.proofs.sources.read_source.Goals as goal

pub returns-in_err-bytes-clause-refused : goal.returns-in_err-bytes-clause-refused
returns-in_err-bytes-clause-refused g c =
    let p = err_from_is_err_and c.from_residual.result c.from_residual.ensures.1 in
    rw (p.1, p.2)
    (load_source (files_call g.F.Files.told c.args.files.now c.load.new.files) (texts c.args.words.now) c.args.at
    c.args.left c.limit_of-limit.result c.in_err-bytes.field-0.0 c.limit_of-limit.ensures.exact
    c.in_err-bytes.ensures.refused)

pub returns-in_err-tokens-clause-refused : goal.returns-in_err-tokens-clause-refused
returns-in_err-tokens-clause-refused g c =
    let p = err_from_is_err_and c.from_residual-in_err-tokens.result c.from_residual-in_err-tokens.ensures.1 in
    rw (p.1, p.2)
    (scan_source (files_call g.F.Files.told c.args.files.now c.load.new.files) (texts c.args.words.now) c.args.at
    c.args.left c.limit_of-limit.result c.in_ok-bytes.bytes.items c.limit_of-limit.ensures.exact
    c.in_ok-bytes.ensures.ok c.in_err-tokens.field-0.0
    (subst (λ (bytes : List ℕ). ScanSays c.args.at bytes c.in_err-tokens.field-0.0) c.deref.ensures.value
    c.in_err-tokens.ensures.refused))

pub returns-in_err-tree-clause-refused : goal.returns-in_err-tree-clause-refused
returns-in_err-tree-clause-refused g c =
    let p = err_from_is_err_and c.from_residual-in_err-tree.result c.from_residual-in_err-tree.ensures.1 in
    rw (p.1, p.2)
    (parse_source (files_call g.F.Files.told c.args.files.now c.load.new.files) (texts c.args.words.now) c.args.at
    c.args.left c.limit_of-limit.result c.in_ok-bytes.bytes.items c.limit_of-limit.ensures.exact
    c.in_ok-bytes.ensures.ok c.in_err-tree.field-0.0
    (subst (λ (bytes : List ℕ). ParseSays c.args.at bytes c.in_err-tree.field-0.0) c.deref-2.ensures.value
    c.in_err-tree.ensures.refused))

pub returns-clause-ok : goal.returns-clause-ok
returns-clause-ok g c =
    let counted : c.len.result ≡ length c.in_ok-bytes.bytes.items = search rules in
    good_source (g.F.Files.told c.args.files.now).holds (word_at (texts c.args.words.now) c.args.at) c.args.left
    c.limit_of-limit.result c.len.result c.in_ok-bytes.bytes.items c.in_ok-tree.tree c.limit_of-limit.ensures.exact
    counted c.in_ok-bytes.ensures.ok
    (subst (λ (bytes : List ℕ). HasTree bytes c.in_ok-tree.tree) c.deref-2.ensures.value c.in_ok-tree.ensures.ok)
