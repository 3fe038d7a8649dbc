pub mod Looked
pub mod Entries
pub mod ScheduleRules
pub mod ReadSchedule
pub mod ScheduleText
pub mod GoodSchedules
