-- What some of a head's checks answer, each a step of reading its index.
use Rattle.std.specs.Prelude.{◌≡◌, ℕ, ◌+◌, ◌*◌, ◌≤◌, ◌&&◌, ◌||◌, List, [], ◌∷◌, min, length}
use Rattle.std.specs.Prelude.{Bool, nat_le, nat_lt, Some, None, Result, MatchResult, codes}
use Rattle.resb_format.specs.Error.{Refusal, invalid, end_of_input, refusal_of, first_refusal}
use Rattle.resb_format.specs.declared.error.ReadingError.{ReadingError}
use Rattle.resb_head.specs.File.{body_of, keys_end}
use Rattle.resb_head.specs.Head.{InfoAt}
use Rattle.resb_head.specs.declared.repr_info.BinReprInfo.{BinReprInfo}
use Rattle.resb_pool_bundle.specs.Checks.{version_checks}
use Rattle.resb_pool_bundle.specs.Fields.{major, index_length, block_end_in}

-- whether a file with this info is read
abbrev pub ReadsVersion : BinReprInfo → {A : Type 0} → Result A ReadingError → Type 0
ReadsVersion info r =
    (bytes : List ℕ) → InfoAt info bytes
    → MatchResult r (λ _. first_refusal (version_checks bytes) ≡ None)
    (λ e. first_refusal (version_checks bytes) ≡ Some (refusal_of e))

-- the first three checks of the sizes: those of the index itself
unfoldable pub field_checks : List ℕ → List (Bool × Refusal)
field_checks bytes =
    let size = length (body_of bytes) in
    (nat_le 8 size, end_of_input)
    ∷ (nat_le 5 (index_length bytes), invalid (codes "invalid index field count"))
    ∷ (nat_le (4 * (1 + min (index_length bytes) 8)) size, end_of_input)
    ∷ []

-- the others: those of the ends that it says
unfoldable pub end_checks : List ℕ → List (Bool × Refusal)
end_checks bytes =
    let size = length (body_of bytes) in
    (nat_le (4 * keys_end bytes) size, end_of_input)
    ∷ (
      nat_lt (major bytes) 2 || nat_le 7 (index_length bytes),
      invalid (codes "offset to the end of 16-bit data not specified"),
    )
    ∷ (
      nat_le (keys_end bytes) (block_end_in bytes) && nat_le (4 * block_end_in bytes) size,
      end_of_input,
    )
    ∷ []

-- the number of fields where they stand in the body
pub record AreCounted (bytes : List ℕ) (fields : ℕ) : Type 0 where
  pub none_fails : first_refusal (field_checks bytes) ≡ None
  pub counted : fields ≡ index_length bytes
  pub enough : 5 ≤ fields
  pub inside : 4 * (1 + min fields 8) ≤ length (body_of bytes)

-- that number, or the first check that fails
abbrev pub CountsFields : List ℕ → Result ℕ ReadingError → Type 0
CountsFields bytes r =
    MatchResult r (λ n. AreCounted bytes n)
    (λ e. first_refusal (field_checks bytes) ≡ Some (refusal_of e))

-- the ends of keys and units, in bytes, where they lie inside
pub record AreEnds (bytes : List ℕ) (keys block : ℕ) : Type 0 where
  pub none_fails : first_refusal (end_checks bytes) ≡ None
  pub keys_said : keys ≡ 4 * keys_end bytes
  pub block_said : block ≡ 4 * block_end_in bytes
  pub ordered : keys ≤ block
  pub inside : block ≤ length (body_of bytes)

-- those ends, or the first check that fails
abbrev pub FindsEnds : List ℕ → Result (ℕ × ℕ) ReadingError → Type 0
FindsEnds bytes r =
    MatchResult r (λ ends. AreEnds bytes ends.0 ends.1)
    (λ e. first_refusal (end_checks bytes) ≡ Some (refusal_of e))
