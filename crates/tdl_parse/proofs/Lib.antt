mod Values
mod Loops
mod Cuts
mod WordTests
mod GoodWords
mod GoodNames
mod GoodExpressions
mod GoodOutermost
mod GoodStatements
mod GoodActivities
mod GoodDeclarations
mod GrowSources
pub mod Sentences
mod Unlimited
mod LimitedStatements
mod LimitedBlocks
mod LimitedActivities
mod LimitedSources
mod EndNames
mod EndExpressions
mod EndSources
pub mod SyntaxFaults
mod Told
mod Answered
mod Spelling
