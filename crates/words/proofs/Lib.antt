pub mod WordFields
pub mod Joining
pub mod TableWords
pub mod PartWords
pub mod PackedParts
pub mod PackedRoom
pub mod PackedWords
pub mod SpelledWords
