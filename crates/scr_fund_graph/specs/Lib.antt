pub mod Graph
pub mod GraphInside
pub mod Answers
pub mod KeptNumbers
