-- Laws of the rules, each file over those above it.
--
-- Choosing, testing and counting; chains of refusals; headers.
pub mod Choice
pub mod Below
pub mod Refusals
pub mod Chain
pub mod Given
pub mod Headers
-- What the tests tell where they passed: shape, a slot, the links that are followed; full; rebuild's; and a call that answers by a number.
pub mod Shape
pub mod SlotTests
pub mod Links
pub mod Full
pub mod Rebuild
pub mod HopSteps
pub mod RemoveSteps
pub mod Outcomes
pub mod Check
pub mod Access
-- No two outcomes meet one promise.
pub mod Settled
-- Slots from used upward are never read, and nothing is written there: what agreement below a bound is, then call by call.
pub mod Rows
pub mod Agree
pub mod Kept
pub mod NeverRead
pub mod Steady
pub mod InsertReads
pub mod RemoveReads
pub mod HopReads
pub mod CheckReads
pub mod ClearReads
pub mod RetainReads
pub mod RebuildReads
-- The bench.
mod Bench
