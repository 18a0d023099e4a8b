-- Which check of an index is the first that fails.
use Rattle.std.proofs.Common.{ℕ, List, ◌≡◌, ◌*◌, ◌<◌, ◌≤◌, length, min, Some, None, refl, get_or}
use Rattle.std.proofs.Common.{codes}
use Rattle.resb_format.specs.Bytes.{words_of}
use Rattle.resb_format.specs.Error.{IsInvalid, IsEndOfInput, refusal_of}
use Rattle.resb_format.specs.declared.error.ReadingError.{ReadingError}
use Rattle.resb_head.specs.HeadChecks.{index_refusal, index_checks}
use Rattle.std.proofs.lemmas.Bool.{lt-leb, le-leb}

pub no_count : (bs : List ℕ) (e : ReadingError) → length bs < 4
    → IsEndOfInput e → index_refusal bs ≡ Some (refusal_of e)
unfolding index_refusal index_checks
no_count bs e h r = rw (lt-leb 4 (length bs) h, r.kind_is, r.message_is) refl

pub small_count : (bs : List ℕ) (n : ℕ) (e : ReadingError) → n ≡ get_or (words_of bs) 0 0
    → 4 ≤ length bs → n < 5 → IsInvalid e (codes "invalid index field count")
    → index_refusal bs ≡ Some (refusal_of e)
unfolding index_refusal index_checks
small_count bs n e w h k r =
    rw (le-leb 4 (length bs) h, ← w, lt-leb 5 n k, r.kind_is, r.message_is) refl

pub field_past_end : (bs : List ℕ) (n : ℕ) (e : ReadingError) → n ≡ get_or (words_of bs) 0 0
    → 4 ≤ length bs → 5 ≤ n → length bs < 4 * min n 8
    → IsEndOfInput e → index_refusal bs ≡ Some (refusal_of e)
unfolding index_refusal index_checks
field_past_end bs n e w h k l r =
    rw (
      le-leb 4 (length bs) h,
      ← w,
      le-leb 5 n k,
      lt-leb (4 * min n 8) (length bs) l,
      r.kind_is,
      r.message_is,
    ) refl

pub index_holds : (bs : List ℕ) (n : ℕ) → n ≡ get_or (words_of bs) 0 0 → 4 ≤ length bs → 5 ≤ n
    → 4 * min n 8 ≤ length bs → index_refusal bs ≡ None
unfolding index_refusal index_checks
index_holds bs n w h k l =
    rw (
      le-leb 4 (length bs) h,
      ← w,
      le-leb 5 n k,
      le-leb (4 * min n 8)
          (length bs) l,
    ) refl
