mod Members
mod Joining
mod Facts
mod Files
mod FilesOfRules
mod FilesOfFaults
