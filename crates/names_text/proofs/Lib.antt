pub mod Characters
pub mod OneLine
