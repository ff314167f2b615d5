pub mod Limits
pub mod Order
pub mod Replies
pub mod Laws
pub mod Refusals
pub mod Steps
pub mod History
pub mod Promises
pub mod Runs
pub mod Calls
pub mod First
pub mod Words
-- Lemmas from here on: the proofs of what an impl owes stand in specs/, and no contract cites them.
pub mod Pairs
