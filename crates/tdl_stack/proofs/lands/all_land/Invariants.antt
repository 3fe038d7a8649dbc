use Rattle.tdl_stack.specs.Spanning.{LandBefore}
use Rattle.tdl_stack.proofs.lands.all_land.Given as goal

-- what the places so far span may be spanned
abbrev pub invariant-loop-place : goal.invariant-loop-place
invariant-loop-place l = LandBefore l.code l.place
