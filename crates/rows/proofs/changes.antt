mod Changes
mod Counts
