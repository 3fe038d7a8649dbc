use Rattle.std.proofs.Common.{◌≡◌, ◌++◌, take}
use Rattle.tdl_stack.specs.Texts.{Extends, further_text}
use Rattle.tdl_stack.proofs.list.put_further.Given as goal

-- the texts so far stand at the end
abbrev pub invariant-loop-i : goal.invariant-loop-i
invariant-loop-i l = record {
  text : l.into.items ≡ l.fn.into.items ++ further_text (take l.i-index l.code);
  kept : Extends l.fn.into.items l.into.items;
}
