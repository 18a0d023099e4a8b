-- The words of the contracts: compiled texts, and, from the crates below, what a text and a written
-- file are, and why either is refused.
pub use Rattle.resb_tree.specs.Tree
pub use Rattle.resb_filter.specs.Filtered
pub use Rattle.resb_grammar.specs.BundleText
pub use Rattle.resb_grammar.specs.Limit
pub use Rattle.resb_icu_grammar.specs.Bundle as IcuBundle
pub use Rattle.resb_icu_grammar.specs.Limit as IcuLimit
pub use Rattle.resb_text.specs.Answer
pub use Rattle.resb_text.specs.Refusal
pub use Rattle.resb_icu_text.specs.Answer as IcuAnswer
pub use Rattle.resb_icu_text.specs.Refusal as IcuRefusal
pub use Rattle.resb_layout.specs.WritingFault
pub use Rattle.resb_layout.specs.TreeFaults
pub use Rattle.resb_layout.specs.Written
pub use Rattle.resb_write.specs.FaultOf
pub use Rattle.resb_write.specs.WrittenWith
pub use Rattle.resb_write.specs.Layouts
pub use Rattle.resb_pool_bundle.specs.Pool
pub mod Compiled
pub mod Compiling
pub mod Errors
