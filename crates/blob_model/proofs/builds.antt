pub mod Growth
pub mod Cells
pub mod Order
pub mod Plans
pub mod PieceNumbers
