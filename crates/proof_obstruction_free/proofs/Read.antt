-- READ alone: over within nine steps, twelve from any line.
pub mod Words
pub mod Embedded
pub mod Step
pub mod Lines
pub mod First
pub mod On
pub mod Licensed
pub mod UnderWay
pub mod Ends
pub mod Holds
pub mod Bounds
