-- The words of the contracts: a text's file and why there is none, and what is had of a file; what
-- the program is asked, what it writes, and why it fails; and what the crates below say of files
-- and texts.
pub use Rattle.hex.specs.Hex
pub use Rattle.resb_compile.specs.Compiling
pub use Rattle.resb_tree.specs.View
pub use Rattle.resb_format.specs.Error
pub use Rattle.resb_head.specs.File
pub use Rattle.resb_head.specs.HeadChecks
pub use Rattle.resb_read.specs.Reading
pub use Rattle.resb_read.specs.Resources
pub use Rattle.resb_read.specs.Roots
pub mod Commands
pub mod Program
pub mod Sources
pub mod Files
pub mod Messages
pub mod Names
