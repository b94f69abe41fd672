pub mod Cuts
pub mod Lines
pub mod Replies
pub mod Runs
pub mod Sessions
pub mod Tallies
pub mod Texts
pub mod Transcripts
