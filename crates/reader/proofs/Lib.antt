pub mod Pieces
pub mod Numbers
pub mod Search
pub mod Answers
pub mod RoundTrip
