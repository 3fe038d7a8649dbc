pub mod CutLemmas
pub mod NumberLemmas
pub mod SensesLemmas
pub mod TimesExamples
