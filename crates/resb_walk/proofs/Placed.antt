-- What lies inside a block, by numbers of bytes.
use Rattle.resb_format.proofs.Spelled.{words_length, units_length, words_drop, units_drop}
use Rattle.std.proofs.Common.{ℕ, List, ◌≡◌}
use Rattle.std.proofs.Common.{Bool, true, false, length, get_or, Some, None}
use Rattle.std.proofs.Common.{refl, sym, ap, ◌∙◌, arith}
use Rattle.std.specs.Prelude.{not}
use Rattle.std.proofs.lemmas.Bool.{not-true, not-false}
use Rattle.std.proofs.lemmas.List.{length-map, drop-map}
use Rattle.std.specs.Char.Utf16.{has_unpaired_surrogate}
use Rattle.resb_format.specs.Bytes.{units_of}
use Rattle.std.specs.Prelude.{nat_lt, ◌&&◌, slice_index, codes, if◌then◌else◌}
use Rattle.resb_format.specs.StringMessage.{string_message}
use Rattle.resb_format.specs.Strings.{is_no_marker}
use Rattle.resb_format.specs.Error.{IsInvalid, end_message}
use Rattle.resb_walk.specs.Refusals.{IsFault}
use Rattle.resb_format.specs.declared.error.ReadingError.{ReadingError}
use Rattle.resb_format.specs.Strings.{text_at, string_at}
use Rattle.resb_walk.specs.Inner.Members.{text_of_bytes}

pub text_some : (block : List ℕ) (u : ℕ) (bs : List ℕ) → string_at block u ≡ Some (units_of bs)
    → true ≡ not (has_unpaired_surrogate (units_of bs)) → text_at block u ≡ Some (text_of_bytes bs)
unfolding text_at
text_some block u bs e h =
    let g : has_unpaired_surrogate (units_of bs) ≡ false = not-true _ (sym h) in rw (e, g) refl

pub text_unpaired : (block : List ℕ) (u : ℕ) (bs : List ℕ) → string_at block u ≡ Some (units_of bs)
    → false ≡ not (has_unpaired_surrogate (units_of bs)) → text_at block u ≡ None
unfolding text_at
text_unpaired block u bs e h =
    let g : has_unpaired_surrogate (units_of bs) ≡ true = not-false _ (sym h) in rw (e, g) refl

-- units that are found to be well-formed
pub paired : (bs : List ℕ) → true ≡ not (has_unpaired_surrogate (units_of bs))
    → has_unpaired_surrogate (units_of bs) ≡ false
paired bs h = not-true _ (sym h)

pub text_none : (block : List ℕ) (u : ℕ) → string_at block u ≡ None → text_at block u ≡ None
unfolding text_at
text_none block u e = rw e refl

-- what is said where no string stands
pub string_fails : (block : List ℕ) (u : ℕ) (e : ReadingError)
    → IsInvalid e (string_message block u)
    → IsFault e
string_fails block u e h = either (nat_lt u (length block) && is_no_marker (slice_index block u)) h
  where
    either : (b : Bool)
        → IsInvalid e (if b then codes "unterminated string with implicit length" else end_message)
        → IsFault e
    either true i =
        record {
          not_memory = λ m. (let k = i.kind_is in cc);
          not_spent = λ m.
              (let h : 117 ≡ 114 = ap (λ xs. get_or xs 0 0) (sym i.message_is ∙ m) in omega arith);
        }
    either false i =
        record {
          not_memory = λ m. (let k = i.kind_is in cc);
          not_spent = λ m.
              (let h : 117 ≡ 114 = ap (λ xs. get_or xs 0 0) (sym i.message_is ∙ m) in omega arith);
        }

-- whether units are a text
pub ruleset texts = (text_some, text_unpaired, paired)

pub ruleset lengths = (length-map, words_length, units_length)

-- the words and units of bytes behind some
pub ruleset numbers_behind = (drop-map, words_drop, units_drop)
