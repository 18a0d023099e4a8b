-- Types and descriptors are read back as what they were written for.
use Rattle.std.proofs.Common.{◌≡◌, Result, Ok, Err, ap, refl}
use Rattle.resb_format.specs.Laws.{Survives}
use Rattle.resb_format.specs.Descriptor.{type_number, word_of}
use Rattle.resb_format.specs.DescriptorReading.{ReadsType, ReadsDescriptor}
use Rattle.resb_format.specs.declared.error.ReadingError.{ReadingError}
use Rattle.resb_format.specs.declared.repr_type.ResourceReprType.{ResourceReprType}
use Rattle.resb_format.specs.declared.descriptor.ResDescriptor.{ResDescriptor}
use Rattle.resb_format.proofs.Apart.{type_apart, word_apart}

type_read : (t : ResourceReprType) (r : Result ResourceReprType ReadingError)
    → ReadsType (type_number t) r → r ≡ Ok t
type_read t (Ok u) h = ap Ok (type_apart u t h)
type_read t (Err e) h = absurd (h.0 t refl)

descriptor_read : (d : ResDescriptor) (r : Result ResDescriptor ReadingError)
    → ReadsDescriptor (word_of d) r → r ≡ Ok d
descriptor_read d (Ok e) h = ap Ok (word_apart e d h)
descriptor_read d (Err e) h = absurd (h.0 d refl)

pub type_survives : Survives type_number ReadsType
type_survives = record { read_back = type_read; written_back = λ n x h. h }

pub descriptor_survives : Survives word_of ReadsDescriptor
descriptor_survives = record { read_back = descriptor_read; written_back = λ n x h. h }
