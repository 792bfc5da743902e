-- Demands 1 and 3 as statements, Demands, and what they speak of, above it: every public call; histories of them; what a bystander reckons;
-- what happens in a call; the slots that are counted; how a version comes round; which numbers a call may give. Then what they are tried on: two
-- histories, rounds, in which a key comes back, and a season; and a damaged table. The terms are in proofs/Demands.antt.
pub mod Calls
pub mod Histories
pub mod Bystander
pub mod Events
pub mod Slots
pub mod Versions
pub mod Refusals
pub mod Demands
pub mod Rounds
pub mod Season
pub mod Wet
