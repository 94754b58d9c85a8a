pub mod VerdictFits
