pub mod Thursdays
