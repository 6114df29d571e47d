-- Facts about lists that several crates need. All files here are meant to be imported by the crates above.
--   Members     members of lists, and the tests for a member of a list of texts
--   Ascending   two ascending lists with the same members are one
--   Runs        how many of the first bytes of a text pass a test
pub mod Members
pub mod Ascending
pub mod Runs
