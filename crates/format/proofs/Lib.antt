-- the laws of what stands in a file: kinds of blocks, header and blocks in turn, its lists, all rows that judge it, its tables and their turning
pub mod Picks
pub mod BlockKinds
pub mod FileOf
pub mod Puts
pub mod HeadTests
pub mod InTurn
pub mod Lists
pub mod AllRows
pub mod FiledTables
pub mod Turning
