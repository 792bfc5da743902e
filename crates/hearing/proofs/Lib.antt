-- What is known of a body and of a phase.
mod Phases
