mod Events
mod Subsequences
mod Counting
mod Entries
