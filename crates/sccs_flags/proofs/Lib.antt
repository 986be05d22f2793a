pub mod PieceTests
