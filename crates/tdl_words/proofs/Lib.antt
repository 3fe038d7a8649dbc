pub mod FewSources
mod Reading
mod TakenWords
