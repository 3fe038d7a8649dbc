use Rattle.std.proofs.Common.{◌+◌, ◌-◌, List, sym, subst, arith}
use Rattle.std.proofs.lemmas.Result.{err_from_is_err_and}
use Rattle.tdl_base.specs.declared.limits.TheConstants.{ALL_SOURCES_BYTES}
use Rattle.tdl_tree.specs.declared.declarations.Tree.{Tree}
use Rattle.tdl_words.specs.Words.{texts, word_at}
use Rattle.tdl_top.proofs.Loading.{no_loads, loads_then}
use Rattle.tdl_top.proofs.InTurn.{AreReadTo, none_read, one_more_read, all_read, source_refused, good_since}
use Rattle.tdl_top.proofs.sources.read_trees.Goals as goal

pub loop-k-init : goal.loop-k-init
loop-k-init g c = record {
  so_far = subst
      (λ (trees : List Tree). AreReadTo (g.F.Files.told c.args.files.now).holds (texts c.args.words.now) c.args.count 1
      (c.args.count - 0) ALL_SOURCES_BYTES trees) (sym c.new-trees.ensures)
      (none_read (g.F.Files.told c.args.files.now).holds (texts c.args.words.now) c.args.count (c.args.count - 0)
      (omega arith));
  loads = no_loads (g.F.Files.told c.args.files.now);
}

pub returns-in_err-tree-clause-refused : goal.returns-in_err-tree-clause-refused
returns-in_err-tree-clause-refused g c =
    let p = err_from_is_err_and c.from_residual.result c.from_residual.ensures.1 in
    rw (p.1, p.2)
    (source_refused (g.F.Files.told c.args.files.now) (g.F.Files.told c.loop-k.files)
    (g.F.Files.told c.read_source.new.files)
    (texts c.args.words.now) c.args.count (1 + c.loop-k.k) (c.args.count - c.loop-k.k) (c.args.count - c.loop-k.k - 1)
    c.loop-k.left c.loop-k.trees c.in_err-tree.field-0.0 (omega (arith, c.loop-k-test.true)) c.loop-k.invariant.loads
    c.loop-k.invariant.so_far c.in_err-tree.ensures.refused)

pub loop-k-preserved : goal.loop-k-preserved
loop-k-preserved g c = record {
  so_far = one_more_read (g.F.Files.told c.args.files.now).holds (texts c.args.words.now) c.args.count (1 + c.loop-k.k)
      (c.args.count - c.loop-k.k) (1 + (c.loop-k.k + 1)) (c.args.count - (c.loop-k.k + 1)) c.loop-k.left
      c.in_ok-tree.rest c.loop-k.trees c.push.new.self c.in_ok-tree.tree (omega (arith, c.loop-k-test.true))
      (omega arith) c.in_ok-push.ensures.ok c.loop-k.invariant.so_far
      (good_since (g.F.Files.told c.args.files.now) (g.F.Files.told c.loop-k.files)
      (word_at (texts c.args.words.now) (1 + c.loop-k.k)) c.loop-k.left c.in_ok-tree.rest c.in_ok-tree.tree
      c.loop-k.invariant.loads c.in_ok-tree.ensures.ok);
  loads = loads_then (g.F.Files.told c.args.files.now) (g.F.Files.told c.loop-k.files)
      (g.F.Files.told c.read_source.new.files) c.loop-k.invariant.loads c.read_source.ensures.loads;
}

pub returns-clause-ok : goal.returns-clause-ok
returns-clause-ok g c =
    all_read (g.F.Files.told c.args.files.now).holds (texts c.args.words.now) c.args.count (1 + c.loop-k.k)
    (c.args.count - c.loop-k.k) c.loop-k.left c.loop-k.trees (omega (arith, c.loop-k-test.false))
    c.loop-k.invariant.so_far
