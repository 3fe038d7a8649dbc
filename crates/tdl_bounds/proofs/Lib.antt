mod Deep
mod Capping
mod Counting
