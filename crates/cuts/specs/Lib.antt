pub mod Cuts
pub mod Consistent
pub mod Watched
pub mod Channels
pub mod Sides
pub mod Jobs
-- Lemmas from here on: the proofs of what an impl owes stand in specs/, and no contract cites them.
pub mod Views
pub mod Cutting
pub mod Greatest
pub mod Closed
pub mod Wants
pub mod Watching
pub mod Tallies
pub mod Levels
pub mod Emptied
