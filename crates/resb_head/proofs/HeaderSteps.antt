-- Which check of a header is the first that fails.
use Rattle.std.proofs.Common.{ℕ, List, [], ◌∷◌, ◌++◌, ◌≡◌, ◌<◌, ◌≤◌, length, drop, Bool, true}
use Rattle.std.proofs.Common.{false, nat_eq, Some, None, refl, ◌∙◌, get_or, codes, slice_range}
use Rattle.std.specs.Str.{bytes_eq}
use Rattle.resb_format.specs.Error.{IsInvalid, Refusal, refusal_of, first_refusal}
use Rattle.resb_format.specs.Bytes.{unit_in}
use Rattle.resb_format.specs.declared.error.ReadingError.{ReadingError}
use Rattle.resb_head.specs.HeadChecks.{info_checks, info_refusal, header_checks}
use Rattle.resb_head.specs.HeadChecks.{header_refusal}
use Rattle.std.proofs.lemmas.Bool.{lt-leb, le-leb}

pub short_info : (bs : List ℕ) (e : ReadingError) → length bs < 20
    → IsInvalid e (codes "input is too short to contain representation info")
    → info_refusal bs ≡ Some (refusal_of e)
unfolding info_refusal
short_info bs e h r = rw (lt-leb 20 (length bs) h, r.kind_is, r.message_is) refl

pub long_info : (bs : List ℕ) → 20 ≤ length bs
    → info_refusal bs ≡ first_refusal (info_checks false bs)
unfolding info_refusal
long_info bs h = rw (le-leb 20 (length bs) h) refl

-- checks of which the first ones hold, or not
pub later_refusal : (xs ys : List (Bool × Refusal)) → first_refusal xs ≡ None
    → first_refusal (xs ++ ys) ≡ first_refusal ys
later_refusal [] ys e = refl
later_refusal ((true, f) ∷ xs) ys e = later_refusal xs ys e
later_refusal ((false, f) ∷ xs) ys e = cc

pub earlier_refusal : (xs ys : List (Bool × Refusal)) (f : Refusal) → first_refusal xs ≡ Some f
    → first_refusal (xs ++ ys) ≡ Some f
earlier_refusal [] ys f e = cc
earlier_refusal ((true, g) ∷ xs) ys f e = earlier_refusal xs ys f e
earlier_refusal ((false, g) ∷ xs) ys f e = e

-- the first two checks of a header hold
pub record Begun (bs : List ℕ) : Type 0 where
  pub long : 24 ≤ length bs
  pub magic : bytes_eq (slice_range bs 2 4) (0xda ∷ 0x27 ∷ []) ≡ true

pub short_header : (any : Bool) (bs : List ℕ) (e : ReadingError) → length bs < 24
    → IsInvalid e (codes "input is too short to contain file header")
    → header_refusal any bs ≡ Some (refusal_of e)
unfolding header_refusal header_checks
short_header any bs e h r = rw (lt-leb 24 (length bs) h, r.kind_is, r.message_is) refl

pub magic_fails : (any : Bool) (bs : List ℕ) (e : ReadingError) → 24 ≤ length bs
    → bytes_eq (slice_range bs 2 4) (0xda ∷ 0x27 ∷ []) ≡ false
    → IsInvalid e (codes "magic word does not match") → header_refusal any bs ≡ Some (refusal_of e)
unfolding header_refusal header_checks
magic_fails any bs e h m r = rw (le-leb 24 (length bs) h, m, r.kind_is, r.message_is) refl

pub info_fails : (any : Bool) (bs : List ℕ) (f : Refusal) → Begun bs
    → first_refusal (info_checks any (drop 4 bs)) ≡ Some f → header_refusal any bs ≡ Some f
unfolding header_refusal header_checks
info_fails any bs f b h =
    rw (le-leb 24 (length bs) b.long, b.magic)
    (earlier_refusal (info_checks any (drop 4 bs)) _ f h)

pub size_fails : (any : Bool) (bs : List ℕ) (e : ReadingError) → Begun bs
    → first_refusal (info_checks any (drop 4 bs)) ≡ None
    → unit_in (nat_eq (get_or bs 8 0) 1) bs 0 < 24
    → IsInvalid e (codes "header size specified in file is smaller than expected")
    → header_refusal any bs ≡ Some (refusal_of e)
unfolding header_refusal header_checks
size_fails any bs e b h k r =
    rw (le-leb 24 (length bs) b.long, b.magic) (later_refusal (info_checks any (drop 4 bs)) _ h
    ∙ rw (
      lt-leb 24 (unit_in
          (nat_eq (get_or bs 8 0) 1) bs 0) k,
      r.kind_is,
      r.message_is,
    ) refl)

pub header_holds : (any : Bool) (bs : List ℕ) → Begun bs
    → first_refusal (info_checks any (drop 4 bs)) ≡ None
    → 24 ≤ unit_in (nat_eq (get_or bs 8 0) 1) bs 0 → header_refusal any bs ≡ None
unfolding header_refusal header_checks
header_holds any bs b h k =
    rw (le-leb 24 (length bs) b.long, b.magic)
    (later_refusal (info_checks any (drop 4 bs)) _ h
    ∙ rw (le-leb 24 (unit_in (nat_eq (get_or bs 8 0) 1) bs 0) k) refl)
