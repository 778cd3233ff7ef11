pub mod Boxes
pub mod Rects
pub mod BoxLaws
pub mod CurveBoxes
pub mod CurveBoxLaws
pub mod IdBoxes
pub mod Shelves
