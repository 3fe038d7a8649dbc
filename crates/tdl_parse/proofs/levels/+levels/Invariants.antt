use Rattle.std.proofs.Common.{◌+◌, ◌*◌, length}
use Rattle.tdl_parse.proofs.levels.+levels.Given as goal

abbrev pub decreases-unary : goal.decreases-unary
decreases-unary l = 10 * length l.words.now + 0

abbrev pub decreases-more_factors : goal.decreases-more_factors
decreases-more_factors l = 10 * length l.words.now + 1

abbrev pub decreases-product : goal.decreases-product
decreases-product l = 10 * length l.words.now + 2

abbrev pub decreases-more_terms : goal.decreases-more_terms
decreases-more_terms l = 10 * length l.words.now + 3

abbrev pub decreases-sum : goal.decreases-sum
decreases-sum l = 10 * length l.words.now + 4

abbrev pub decreases-relation : goal.decreases-relation
decreases-relation l = 10 * length l.words.now + 5

abbrev pub decreases-more_relations : goal.decreases-more_relations
decreases-more_relations l = 10 * length l.words.now + 6

abbrev pub decreases-conjunction : goal.decreases-conjunction
decreases-conjunction l = 10 * length l.words.now + 7

abbrev pub decreases-more_conjunctions : goal.decreases-more_conjunctions
decreases-more_conjunctions l = 10 * length l.words.now + 8

abbrev pub decreases-expression : goal.decreases-expression
decreases-expression l = 10 * length l.words.now + 9
