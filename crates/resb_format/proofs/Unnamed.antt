-- Numbers that name no type: those over 9 but 14, which are the upper 4 bits of no descriptor.
use Rattle.std.proofs.Common.{◌≢◌, ℕ, ◌/◌, ◌%◌, ◌^◌, ◌<◌, sym, arith}
use Rattle.resb_format.specs.Descriptor.{type_number, word_of}
use Rattle.resb_format.specs.declared.repr_type.ResourceReprType.{ResourceReprType}
use Rattle.resb_format.specs.declared.repr_type.ResourceReprType.TheVariants as kind
use Rattle.resb_format.specs.declared.descriptor.ResDescriptor.{ResDescriptor}

-- a number that names no type is over 9, and not 14
over_9 : (n : ℕ) → ((t : ResourceReprType) → type_number t ≢ n) → (9 < n) × (n ≢ 14)
over_9 n h = (
  omega (
    arith,
    h kind._String,
    h kind.Binary,
    h kind.Table,
    h kind._Alias,
    h kind._Table32,
    h kind.Table16,
    h kind.StringV2,
    h kind.Int,
    h kind.Array,
    h kind.Array16,
  ),
  λ e. h kind.IntVector (sym e),
)

no_upper_type : (w : ℕ) → ((d : ResDescriptor) → word_of d ≢ w) → (t : ResourceReprType)
    → type_number t ≢ w / 2 ^ 28
no_upper_type w h t e =
    h (record { resource_type = t; value = w % 2 ^ 28; small = omega arith }) (omega (arith, e))

-- the upper 4 bits of a word that is no descriptor's
pub upper_bits_over_9 : (w : ℕ) → ((d : ResDescriptor) → word_of d ≢ w)
    → (9 < w / 2 ^ 28) × (w / 2 ^ 28 ≢ 14)
upper_bits_over_9 w h = over_9 (w / 2 ^ 28) (no_upper_type w h)
