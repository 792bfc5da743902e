-- The theory of runs, as definitions: a function of the slot changed at one slot; the fronts of runs in rising order; the abstract
-- machine; its step for every call; how a table of words is a machine; walks of hop steps; and the way over the live slots that
-- retain takes. Why each call of the rules is the machine's step is in proofs/.
pub mod Points
pub mod Rising
pub mod Machine
pub mod Steps
pub mod WholeTable
pub mod Tables
pub mod Walks
pub mod Scans
