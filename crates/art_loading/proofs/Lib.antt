pub mod StepsDown
pub mod Next
pub mod PointsOnPath
pub mod PutsAtEnd
pub mod Edges
pub mod Last
