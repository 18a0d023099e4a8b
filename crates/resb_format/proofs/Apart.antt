-- Types and descriptors are told apart by their numbers and words.
use Rattle.std.specs.Prelude.{◌≡◌, ℕ, ◌^◌, ◌<◌, ◌≤◌, nat_eq, if◌then◌else◌}
use Rattle.std.proofs.Common.{refl, sym, ap, ◌∙◌, ◌⊎◌, inl, inr, arith}
use mathlib.Core.HLevel.{Σ_prop_path}
use Rattle.std.specs.Coded.{le_prop}
use Rattle.resb_format.specs.Descriptor.{type_number, word_of}
use Rattle.resb_format.specs.declared.repr_type.ResourceReprType.{ResourceReprType}
use Rattle.resb_format.specs.declared.repr_type.ResourceReprType.TheVariants as kind
use Rattle.resb_format.specs.declared.descriptor.ResDescriptor.{ResDescriptor}
use Rattle.resb_format.proofs.Numbers.{parts_apart}

type_back : ℕ → ResourceReprType
type_back n =
    if nat_eq n 0 then kind._String else if nat_eq n 1 then kind.Binary else
    if nat_eq n 2 then kind.Table else if nat_eq n 3 then kind._Alias else
    if nat_eq n 4 then kind._Table32 else if nat_eq n 5 then kind.Table16 else
    if nat_eq n 6 then kind.StringV2 else if nat_eq n 7 then kind.Int else
    if nat_eq n 8 then kind.Array else if nat_eq n 9 then kind.Array16 else kind.IntVector

type_back-number : (t : ResourceReprType) → type_back (type_number t) ≡ t
unfolding type_back
type_back-number kind._String = refl
type_back-number kind.Binary = refl
type_back-number kind.Table = refl
type_back-number kind._Alias = refl
type_back-number kind._Table32 = refl
type_back-number kind.Table16 = refl
type_back-number kind.StringV2 = refl
type_back-number kind.Int = refl
type_back-number kind.Array = refl
type_back-number kind.Array16 = refl
type_back-number kind.IntVector = refl

-- types of one number are one type
pub type_apart : (t u : ResourceReprType) → type_number t ≡ type_number u → t ≡ u
type_apart t u e = sym (type_back-number t) ∙ ap type_back e ∙ type_back-number u

-- the numbers of types
pub type_small : (t : ResourceReprType) → (type_number t ≤ 9) ⊎ (type_number t ≡ 14)
type_small kind._String = inl (omega arith)
type_small kind.Binary = inl (omega arith)
type_small kind.Table = inl (omega arith)
type_small kind._Alias = inl (omega arith)
type_small kind._Table32 = inl (omega arith)
type_small kind.Table16 = inl (omega arith)
type_small kind.StringV2 = inl (omega arith)
type_small kind.Int = inl (omega arith)
type_small kind.Array = inl (omega arith)
type_small kind.Array16 = inl (omega arith)
type_small kind.IntVector = inr refl

-- a descriptor is told by its word
pub word_apart : (d e : ResDescriptor) → word_of d ≡ word_of e → d ≡ e
word_apart d e h =
    let both = parts_apart (type_number d.resource_type) d.value (type_number e.resource_type)
    e.value d.small e.small h in
    let kinds = type_apart d.resource_type e.resource_type both.0 in
    let pairs : ◌≡◌ {A = (n : ℕ) × (n < 2 ^ 28)} (d.value, d.small) (e.value, e.small) =
    Σ_prop_path (λ n. le_prop) both.1 in
    λ i. record { resource_type = kinds i; value = (pairs i).0; small = (pairs i).1 }
