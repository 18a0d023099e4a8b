-- What reading a type's number or a descriptor's word answers: the value that is written so, or the
-- refusal where none is.
use Rattle.std.specs.Prelude.{ℕ, codes, Result}
use Rattle.resb_format.specs.Coded.{ReadsCode}
use Rattle.resb_format.specs.Descriptor.{type_number, word_of}
use Rattle.resb_format.specs.declared.error.ReadingError.{ReadingError}
use Rattle.resb_format.specs.declared.repr_type.ResourceReprType.{ResourceReprType}
use Rattle.resb_format.specs.declared.descriptor.ResDescriptor.{ResDescriptor}

-- the type that has this number
abbrev pub ReadsType : ℕ → Result ResourceReprType ReadingError → Type 0
ReadsType = ReadsCode type_number (codes "unrecognized value for ResourceReprType")

-- the descriptor that has this word; where none has, its upper 4 bits are no type's number
abbrev pub ReadsDescriptor : ℕ → Result ResDescriptor ReadingError → Type 0
ReadsDescriptor = ReadsCode word_of (codes "unrecognized value for ResourceReprType")
