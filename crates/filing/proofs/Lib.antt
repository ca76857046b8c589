-- the file of a filing
pub mod RightBlock
pub mod Written
pub mod Framed
-- theorems: what is filed is well formed; no row refuses a file exactly if it is the file of well-formed tables
pub mod Accepted
pub mod Taken
pub mod Exactly
