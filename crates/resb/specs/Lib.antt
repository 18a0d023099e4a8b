-- The words of the contracts: compiled texts, and what the crates below say of trees, texts and
-- files. The statements of each crate's laws go by that crate's name.
pub use Rattle.resb_tree.specs.Tree
pub use Rattle.resb_tree.specs.View
pub use Rattle.resb_tree.specs.Equality
pub use Rattle.resb_tree.specs.Bundle
pub use Rattle.resb_tree.specs.Borrowing
pub use Rattle.resb_tree.specs.Maps
pub use Rattle.resb_tree.specs.Keys
pub use Rattle.resb_tree.specs.Aliases
pub use Rattle.resb_tree.specs.Int28
pub use Rattle.resb_tree.specs.LayingOrder
pub use Rattle.resb_tree.specs.Laws as TreeLaws
pub use Rattle.resb_diff.specs.Differences
pub use Rattle.resb_diff.specs.Paths as DiffPaths
pub use Rattle.resb_diff.specs.View as DiffView
pub use Rattle.resb_diff.specs.Laws as DiffLaws
pub use Rattle.resb_diff.specs.Applied as DiffApplied
pub use Rattle.resb_draft.specs.Drafts
pub use Rattle.resb_draft.specs.Pieces as DraftPieces
pub use Rattle.resb_filter.specs.Filtered
pub use Rattle.resb_filter.specs.Lines as RuleLines
pub use Rattle.resb_filter.specs.View as RuleView
pub use Rattle.resb_filter.specs.Messages as RuleMessages
pub use Rattle.resb_filter.specs.Laws as RuleLaws
pub use Rattle.resb_grammar.specs.Ascii
pub use Rattle.resb_grammar.specs.ByteRuns
pub use Rattle.resb_grammar.specs.Lexical
pub use Rattle.resb_grammar.specs.Items
pub use Rattle.resb_grammar.specs.GroupTypes
pub use Rattle.resb_grammar.specs.Group
pub use Rattle.resb_grammar.specs.BundleText
pub use Rattle.resb_grammar.specs.Machine
pub use Rattle.resb_grammar.specs.Stuck
pub use Rattle.resb_grammar.specs.Limit
pub use Rattle.resb_grammar.specs.Expected
pub use Rattle.resb_grammar.specs.Laws as GrammarLaws
pub use Rattle.resb_icu_grammar.specs.Bytes as IcuBytes
pub use Rattle.resb_icu_grammar.specs.Blanks as IcuBlanks
pub use Rattle.resb_icu_grammar.specs.Escapes as IcuEscapes
pub use Rattle.resb_icu_grammar.specs.Pieces as IcuPieces
pub use Rattle.resb_icu_grammar.specs.Words as IcuWords
pub use Rattle.resb_icu_grammar.specs.Groups as IcuGroups
pub use Rattle.resb_icu_grammar.specs.Bundle as IcuBundle
pub use Rattle.resb_icu_grammar.specs.Limit as IcuLimit
pub use Rattle.resb_icu_grammar.specs.Laws as IcuGrammarLaws
pub use Rattle.resb_icu_text.specs.Answer as IcuAnswer
pub use Rattle.resb_icu_grammar.specs.Expected as IcuExpected
pub use Rattle.resb_icu_text.specs.Refusal as IcuRefusal
pub use Rattle.resb_text.specs.Answer
pub use Rattle.resb_text.specs.Borrowed
pub use Rattle.resb_text.specs.Refusal
pub use Rattle.resb_text.specs.Turns
pub use Rattle.resb_print.specs.Spelling
pub use Rattle.resb_print.specs.Printed
pub use Rattle.resb_print.specs.Sizes
pub use Rattle.resb_print.specs.Held
pub use Rattle.resb_print.specs.Quotes
pub use Rattle.resb_print.specs.Paths
pub use Rattle.resb_print.specs.Laws as PrintLaws
pub use Rattle.resb_format.specs.Bytes
pub use Rattle.resb_format.specs.Units
pub use Rattle.resb_format.specs.Strings
pub use Rattle.resb_format.specs.StringMessage
pub use Rattle.resb_format.specs.Types
pub use Rattle.resb_format.specs.Descriptor
pub use Rattle.resb_format.specs.Coded
pub use Rattle.resb_format.specs.DescriptorReading
pub use Rattle.resb_format.specs.Views
pub use Rattle.resb_format.specs.Error
pub use Rattle.resb_format.specs.Parts
pub use Rattle.resb_format.specs.Content
pub use Rattle.resb_format.specs.Denotes
pub use Rattle.resb_head.specs.File
pub use Rattle.resb_format.specs.Laws as FormatLaws
pub use Rattle.resb_head.specs.Codes
pub use Rattle.resb_head.specs.CodeReading
pub use Rattle.resb_head.specs.Head
pub use Rattle.resb_head.specs.HeadChecks
pub use Rattle.resb_head.specs.HeadReading
pub use Rattle.resb_head.specs.Laws as HeadLaws
pub use Rattle.resb_package.specs.Package
pub use Rattle.resb_package.specs.Table as PackageTable
pub use Rattle.resb_package.specs.Checks as PackageChecks
pub use Rattle.resb_package.specs.Items as PackageItems
pub use Rattle.resb_package.specs.Message as PackageMessage
pub use Rattle.resb_package.specs.Laws as PackageLaws
pub use Rattle.resb_swap.specs.Numbers as SwapNumbers
pub use Rattle.resb_swap.specs.Bodies as SwapBodies
pub use Rattle.resb_swap.specs.Roles as SwapRoles
pub use Rattle.resb_swap.specs.Swapped
pub use Rattle.resb_swap.specs.Faults as SwapFaults
pub use Rattle.resb_swap.specs.Message as SwapMessage
pub use Rattle.resb_swap.specs.Laws as SwapLaws
pub use Rattle.resb_swap.specs.Packages as SwapPackages
pub use Rattle.resb_swap.specs.PackageFaults as SwapPackageFaults
pub use Rattle.resb_swap.specs.Orders as SwapOrders
pub use Rattle.resb_pool_bundle.specs.Fields as HeadFields
pub use Rattle.resb_pool_bundle.specs.Pool as PoolBundles
pub use Rattle.resb_pool_bundle.specs.Checks as PoolBundleChecks
pub use Rattle.resb_pool_bundle.specs.FileWith
pub use Rattle.resb_pool_bundle.specs.Heads
pub use Rattle.resb_pool_bundle.specs.Laws as PoolBundleLaws
pub use Rattle.resb_blocks.specs.Links
pub use Rattle.resb_blocks.specs.Wide
pub use Rattle.resb_blocks.specs.Laws as BlocksLaws
pub use Rattle.resb_walk.specs.BlockRefusals
pub use Rattle.resb_walk.specs.Meets
pub use Rattle.resb_walk.specs.Refusals
pub use Rattle.resb_walk.specs.Borrows
pub use Rattle.resb_walk.specs.Pieces
pub use Rattle.resb_walk.specs.Sums
pub use Rattle.resb_walk.specs.TreeBytes
pub use Rattle.resb_walk.specs.Inner.Members
pub use Rattle.resb_read.specs.Places
pub use Rattle.resb_read.specs.Reading
pub use Rattle.resb_read.specs.Leaves
pub use Rattle.resb_read.specs.PlaceRefusals
pub use Rattle.resb_read.specs.RefusedReadings
pub use Rattle.resb_read.specs.Resources
pub use Rattle.resb_read.specs.Roots
pub use Rattle.resb_read.specs.Measuring
pub use Rattle.resb_read.specs.WithPool
pub use Rattle.resb_read.specs.Manners
pub use Rattle.resb_read.specs.Files
pub use Rattle.resb_read.specs.Spots
pub use Rattle.resb_read.specs.Sequences
pub use Rattle.resb_read.specs.Access
pub use Rattle.resb_read.specs.Inner.Elements as AccessElements
pub use Rattle.resb_read.specs.Inner.Named
pub use Rattle.resb_read.specs.TypeLaws
pub use Rattle.resb_read.specs.Laws as ReadLaws
pub use Rattle.resb_read.specs.Tables
pub use Rattle.resb_read.specs.Inside
pub use Rattle.resb_path.specs.Finding
pub use Rattle.resb_path.specs.InFiles
pub use Rattle.resb_fields.specs.Fields
pub use Rattle.resb_fields.specs.FieldLaws
pub use Rattle.resb_pool.specs.Records
pub use Rattle.resb_pool.specs.Pool
pub use Rattle.resb_pool.specs.Plan
pub use Rattle.resb_pool.specs.Refusal as PoolRefusal
pub use Rattle.resb_pool.specs.Laws as PoolLaws
pub use Rattle.resb_layout.specs.Laid
pub use Rattle.resb_layout.specs.InOrder
pub use Rattle.resb_layout.specs.Laws as LayoutLaws
pub use Rattle.resb_layout.specs.KeyBlock
pub use Rattle.resb_layout.specs.PlainSize
pub use Rattle.resb_layout.specs.WritingFault
pub use Rattle.resb_layout.specs.TreeFaults
pub use Rattle.resb_layout.specs.WrittenHead
pub use Rattle.resb_layout.specs.CompactKeys
pub use Rattle.resb_layout.specs.KeyLaws
pub use Rattle.resb_layout.specs.Written
pub use Rattle.resb_write.specs.FaultOf
pub use Rattle.resb_write.specs.WrittenWith
pub use Rattle.resb_write.specs.Layouts
pub use Rattle.resb_write.specs.Laws as WriteLaws
pub use Rattle.resb_pool.specs.Shared as SharedPools
pub use Rattle.resb_pool_bundle.specs.Checksum
pub use Rattle.resb_pool_maker.specs.PoolFile
pub use Rattle.resb_pool_maker.specs.PoolOf
pub use Rattle.resb_pool_maker.specs.Holding as PoolMakers
pub use Rattle.resb_pool_maker.specs.PoolFault
pub use Rattle.resb_pool_maker.specs.Laws as PoolMakerLaws
pub use Rattle.resb_compile.specs.Compiled
pub use Rattle.resb_compile.specs.Compiling
pub use Rattle.resb_compile.specs.Errors as CompileErrors
pub mod Headline
pub mod Laws
pub mod Orders
