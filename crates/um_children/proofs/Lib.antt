pub mod EnteredBoxes
