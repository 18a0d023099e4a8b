-- The word of a string, by how the file is packed.
use Rattle.std.proofs.Common.{◌≡◌, ℕ, ◌+◌, ◌-◌, ◌≤◌, zero, suc, refl, ap, arith}
use Rattle.std.proofs.Common.{◌⊎◌, inl, inr, ◌==◌, false, cond}
use Rattle.std.proofs.lemmas.Bool.{ne_eqb}
use Rattle.resb_layout.specs.Laid.{word_of_string}
use Rattle.resb_pool.specs.declared.packing.Packing.{Packing}
use Rattle.resb_pool.specs.declared.packing.Packing.TheVariants.{Plain, Compact}

-- it is 0 at offset 0 of a compact file, and else tells the offset
pub word_cases : (q : Packing) (k : ℕ) → (word_of_string q k ≡ 0x6000_0000 + k)
    ⊎ ((q ≡ Compact) × (k ≡ 0) × (word_of_string q k ≡ 0))
word_cases Plain k = inl refl
word_cases Compact zero = inr (refl, refl, refl)
word_cases Compact (suc k) =
    let z : (suc k == 0) ≡ false = ne_eqb (suc k) 0 (λ (q : suc k ≡ 0). omega (arith, q)) in
    inl (ap (λ c. cond c 0 (0x6000_0000 + suc k)) z)

pub word_below : (q : Packing) (k : ℕ) → word_of_string q k ≤ 0x6000_0000 + k
word_below q k = elim (word_cases q k) [
  | inl e ↦ omega (arith, e)
  | inr e ↦ omega (arith, e.2)
]

-- what is left of the word is the offset
pub word_offset : (q : Packing) (k : ℕ) → word_of_string q k - 0x6000_0000 ≡ k
word_offset q k = elim (word_cases q k) [
  | inl e ↦ omega (arith, e)
  | inr e ↦ omega (arith, e.1, e.2)
]
