-- Machines by the numbers of their states and symbols, proposals that give each state a class, the smaller machine of a
-- proposal, and the partition into equivalent states, which gives the minimal one: without bytes and without limits.

-- what a reader has to believe
pub mod Machine
pub mod Proposal
-- what is claimed of it: a test of proposals, and the proposer
pub mod Refine
pub mod Test
pub mod Laws
pub mod Tables
pub mod Examples
