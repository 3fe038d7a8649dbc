use Rattle.std.proofs.Common.{rules, length, ◌≤◌, ◌<◌, ℕ, List, All, subst}
use Rattle.tdl_io.specs.Outside.{Reads}
use Rattle.tdl_words.specs.Words.{texts, word_at}
use Rattle.tdl_top.proofs.load.load.Goals as goal

pub returns-in-Ok-clause-ok : goal.returns-in-Ok-clause-ok
returns-in-Ok-clause-ok g c =
    let reads : Reads (g.F.Files.told c.args.files.now).holds (word_at (texts c.args.words.now) c.args.at)
    c.load.new.into.items = search rules in
    let within : length c.load.new.into.items ≤ c.args.limit = search rules in
    record {
      reads = reads;
      within = within;
      in_range = subst (λ (bytes : List ℕ). All (λ b. b < 256) bytes)
          c.deref.ensures.value c.tell_range.ensures;
    }
