pub mod Walking
pub mod Tied
pub mod Moves
pub mod Answered
pub mod Law
pub mod Worked
