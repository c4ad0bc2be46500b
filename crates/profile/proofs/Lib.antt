pub mod Table
pub mod Tests
pub mod Cells
pub mod Allowed
