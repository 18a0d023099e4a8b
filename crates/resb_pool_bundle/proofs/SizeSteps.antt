-- Which check of the sizes is the first that fails, and what holds where none does.
use Rattle.std.proofs.Common.{ℕ, List, ◌++◌, ◌≡◌, ◌+◌, ◌*◌, ◌≤◌, ◌<◌, ◌⊎◌, inl, inr}
use Rattle.std.proofs.Common.{length, min, true, false, ◌&&◌, ◌||◌, nat_le, nat_lt, Some}
use Rattle.std.proofs.Common.{None}
use Rattle.std.proofs.Common.{refl, arith, codes}
use Rattle.std.proofs.lemmas.Bool.{lt-leb, le-leb, lt-ltb, le-ltb, or_right}
use Rattle.std.proofs.lemmas.Bool.Decides.{nat_tests}
use Rattle.resb_format.specs.Error.{IsInvalid, IsEndOfInput, refusal_of, first_refusal}
use Rattle.resb_format.specs.declared.error.ReadingError.{ReadingError}
use Rattle.resb_head.specs.File.{body_of, keys_end, block_end}
use Rattle.resb_pool_bundle.specs.Checks.{size_checks}
use Rattle.resb_pool_bundle.specs.Fields.{major, index_length, block_end_in}
use Rattle.resb_pool_bundle.specs.Inner.Sized.{field_checks, end_checks}

-- the checks of the index, and then those of the ends
pub sizes_in_two : (bs : List ℕ) → size_checks bs ≡ field_checks bs ++ end_checks bs
unfolding size_checks field_checks end_checks
sizes_in_two bs = refl

pub short_body : (bs : List ℕ) (e : ReadingError) → length (body_of bs) < 8 → IsEndOfInput e
    → first_refusal (field_checks bs) ≡ Some (refusal_of e)
unfolding field_checks
short_body bs e h r = rw (lt-leb 8 (length (body_of bs)) h, r.kind_is, r.message_is) refl

pub few_fields : (bs : List ℕ) (e : ReadingError) → 8 ≤ length (body_of bs) → index_length bs < 5
    → IsInvalid e (codes "invalid index field count")
    → first_refusal (field_checks bs) ≡ Some (refusal_of e)
unfolding field_checks
few_fields bs e h k r =
    rw (
      le-leb 8 (length (body_of bs)) h,
      lt-leb 5 (index_length bs) k,
      r.kind_is,
      r.message_is,
    ) refl

pub fields_past : (bs : List ℕ) (e : ReadingError) → 8 ≤ length (body_of bs) → 5 ≤ index_length bs
    → length (body_of bs) < 4 * (1 + min (index_length bs) 8) → IsEndOfInput e
    → first_refusal (field_checks bs) ≡ Some (refusal_of e)
unfolding field_checks
fields_past bs e h k l r =
    rw (
      le-leb 8 (length (body_of bs)) h,
      le-leb 5 (index_length bs) k,
      lt-leb (4 * (1 + min (index_length bs) 8)) (length (body_of bs)) l,
      r.kind_is,
      r.message_is,
    ) refl

pub fields_hold : (bs : List ℕ) → 8 ≤ length (body_of bs) → 5 ≤ index_length bs
    → 4 * (1 + min (index_length bs) 8) ≤ length (body_of bs)
    → first_refusal (field_checks bs) ≡ None
unfolding field_checks
fields_hold bs h k l =
    rw (
      le-leb 8 (length (body_of bs)) h,
      le-leb 5 (index_length bs) k,
      le-leb (4 * (1 + min (index_length bs) 8)) (length (body_of bs)) l,
    ) refl

-- the end of the block is said or not
end_is_said : (a b : ℕ) → (a < 2) ⊎ (7 ≤ b) → (nat_lt a 2 || nat_le 7 b) ≡ true
end_is_said a b (inl h) = rw (lt-ltb a 2 h) refl
end_is_said a b (inr h) = or_right (nat_lt a 2) (nat_le 7 b) (le-leb 7 b h)

end_is_missing : (a b : ℕ) → 2 ≤ a → b < 7 → (nat_lt a 2 || nat_le 7 b) ≡ false
end_is_missing a b h k = rw (le-ltb a 2 h, lt-leb 7 b k) refl

-- the end of the block, by the version
pub block_end_before : (bs : List ℕ) → major bs < 2 → block_end_in bs ≡ keys_end bs
block_end_before bs h = rw (lt-leb 2 (major bs) h) refl

pub block_end_since : (bs : List ℕ) → 2 ≤ major bs → block_end_in bs ≡ block_end bs
block_end_since bs h = rw (le-leb 2 (major bs) h) refl

-- of two tests one fails, or both hold
two_fail : (a b c d : ℕ) → (b < a) ⊎ (d < c) → (nat_le a b && nat_le c d) ≡ false
two_fail a b c d (inl h) = rw (lt-leb a b h) refl
two_fail a b c d (inr h) = grind (arith, nat_tests)

two_hold : (a b c d : ℕ) → a ≤ b → c ≤ d → (nat_le a b && nat_le c d) ≡ true
two_hold a b c d h k = rw (le-leb a b h, le-leb c d k) refl

pub keys_past : (bs : List ℕ) (e : ReadingError) → length (body_of bs) < 4 * keys_end bs
    → IsEndOfInput e → first_refusal (end_checks bs) ≡ Some (refusal_of e)
unfolding end_checks
keys_past bs e h r =
    rw (lt-leb (4 * keys_end bs) (length (body_of bs)) h, r.kind_is, r.message_is) refl

pub end_missing : (bs : List ℕ) (e : ReadingError) → 4 * keys_end bs ≤ length (body_of bs)
    → 2 ≤ major bs → index_length bs < 7
    → IsInvalid e (codes "offset to the end of 16-bit data not specified")
    → first_refusal (end_checks bs) ≡ Some (refusal_of e)
unfolding end_checks
end_missing bs e h k l r =
    rw (
      le-leb (4 * keys_end bs) (length (body_of bs)) h,
      end_is_missing (major bs) (index_length bs) k l,
      r.kind_is,
      r.message_is,
    ) refl

pub block_past : (bs : List ℕ) (e : ReadingError) → 4 * keys_end bs ≤ length (body_of bs)
    → (major bs < 2) ⊎ (7 ≤ index_length bs)
    → (block_end_in bs < keys_end bs) ⊎ (length (body_of bs) < 4 * block_end_in bs)
    → IsEndOfInput e → first_refusal (end_checks bs) ≡ Some (refusal_of e)
unfolding end_checks
block_past bs e h k l r =
    rw (
      le-leb (4 * keys_end bs) (length (body_of bs)) h,
      end_is_said (major bs) (index_length bs) k,
      two_fail (keys_end bs) (block_end_in bs) (4 * block_end_in bs) (length (body_of bs)) l,
      r.kind_is,
      r.message_is,
    ) refl

pub ends_hold : (bs : List ℕ) → 4 * keys_end bs ≤ length (body_of bs)
    → (major bs < 2) ⊎ (7 ≤ index_length bs) → keys_end bs ≤ block_end_in bs
    → 4 * block_end_in bs ≤ length (body_of bs) → first_refusal (end_checks bs) ≡ None
unfolding end_checks
ends_hold bs h k l m =
    rw (
      le-leb (4 * keys_end bs) (length (body_of bs)) h,
      end_is_said (major bs) (index_length bs) k,
      two_hold (keys_end bs) (block_end_in bs) (4 * block_end_in bs) (length (body_of bs)) l m,
    ) refl
