pub mod Orders
pub mod Stable
pub mod Rivals
pub mod Reply
pub mod Gates
-- Lemmas from here on: the proofs of what an impl owes stand in specs/, and no contract cites them.
pub mod Pigeon
pub mod Positions
pub mod Tables
pub mod Rivalry
pub mod Replies
pub mod Stability
pub mod Agreement
pub mod Lawfulness
