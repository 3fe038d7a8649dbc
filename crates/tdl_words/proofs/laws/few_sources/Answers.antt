use Rattle.tdl_words.proofs.FewSources.{few_sources}
use Rattle.tdl_words.proofs.laws.few_sources.Goals as goal

pub returns : goal.returns
returns c = few_sources
