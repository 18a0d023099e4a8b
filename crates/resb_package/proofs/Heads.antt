-- Which check of a header is the first that fails.
use Rattle.std.proofs.Common.{ℕ, List, [], ◌∷◌, ◌≡◌, ◌<◌, ◌≤◌, length, true, false, nat_eq, get_or}
use Rattle.std.proofs.Common.{Some, None, refl, codes, slice_range}
use Rattle.std.specs.Str.{bytes_eq}
use Rattle.std.proofs.lemmas.Bool.{lt-leb, le-leb}
use Rattle.resb_format.specs.Bytes.{header_size}
use Rattle.resb_package.specs.Checks.{head_checks}
use Rattle.resb_format.specs.Error.{first_refusal}
use Rattle.resb_package.specs.declared.error.PackageError.TheVariants.{TooShort, NotData}
use Rattle.resb_package.specs.declared.error.PackageError.TheVariants.{NotLittleEndian}
use Rattle.resb_package.specs.declared.error.PackageError.TheVariants.{NotAsciiFamily, NotPackage}
use Rattle.resb_package.specs.declared.error.PackageError.TheVariants.{OtherVersion, HeaderTooSmall}

pub too_short : (bs : List ℕ) → length bs < 24 → first_refusal (head_checks bs) ≡ Some TooShort
unfolding head_checks
too_short bs h = rw (lt-leb 24 (length bs) h) refl

-- the header is long, and begins as ICU's data
pub record Begun (bs : List ℕ) : Type 0 where
  pub long : 24 ≤ length bs
  pub magic : bytes_eq (slice_range bs 2 4) (0xda ∷ 0x27 ∷ []) ≡ true

pub no_data : (bs : List ℕ) → 24 ≤ length bs
    → bytes_eq (slice_range bs 2 4) (0xda ∷ 0x27 ∷ []) ≡ false
    → first_refusal (head_checks bs) ≡ Some NotData
unfolding head_checks
no_data bs h m = rw (le-leb 24 (length bs) h, m) refl

pub not_little : (bs : List ℕ) → Begun bs → nat_eq (get_or bs 8 0) 0 ≡ false
    → first_refusal (head_checks bs) ≡ Some NotLittleEndian
unfolding head_checks
not_little bs b e = rw (le-leb 24 (length bs) b.long, b.magic, e) refl

-- and its numbers and names are of the orders that are read
pub record Native (bs : List ℕ) : Type 0 where
  pub begun : Begun bs
  pub little : nat_eq (get_or bs 8 0) 0 ≡ true
  pub ascii : nat_eq (get_or bs 9 0) 0 ≡ true

pub not_ascii : (bs : List ℕ) → Begun bs → nat_eq (get_or bs 8 0) 0 ≡ true
    → nat_eq (get_or bs 9 0) 0 ≡ false → first_refusal (head_checks bs) ≡ Some NotAsciiFamily
unfolding head_checks
not_ascii bs b l e = rw (le-leb 24 (length bs) b.long, b.magic, l, e) refl

pub not_package : (bs : List ℕ) → Native bs
    → bytes_eq (slice_range bs 12 16) (codes "CmnD") ≡ false
    → first_refusal (head_checks bs) ≡ Some NotPackage
unfolding head_checks
not_package bs n e =
    rw (le-leb 24 (length bs) n.begun.long, n.begun.magic, n.little, n.ascii, e) refl

pub other_version : (bs : List ℕ) → Native bs
    → bytes_eq (slice_range bs 12 16) (codes "CmnD") ≡ true → nat_eq (get_or bs 16 0) 1 ≡ false
    → first_refusal (head_checks bs) ≡ Some OtherVersion
unfolding head_checks
other_version bs n f e =
    rw (le-leb 24 (length bs) n.begun.long, n.begun.magic, n.little, n.ascii, f, e) refl

pub small_header : (bs : List ℕ) → Native bs
    → bytes_eq (slice_range bs 12 16) (codes "CmnD") ≡ true → nat_eq (get_or bs 16 0) 1 ≡ true
    → header_size bs < 24 → first_refusal (head_checks bs) ≡ Some HeaderTooSmall
unfolding head_checks
small_header bs n f v h =
    rw (
      le-leb 24 (length bs) n.begun.long,
      n.begun.magic,
      n.little,
      n.ascii,
      f,
      v,
      lt-leb 24 (header_size bs) h,
    ) refl

pub head_holds : (bs : List ℕ) → Native bs
    → bytes_eq (slice_range bs 12 16) (codes "CmnD") ≡ true → nat_eq (get_or bs 16 0) 1 ≡ true
    → 24 ≤ header_size bs → first_refusal (head_checks bs) ≡ None
unfolding head_checks
head_holds bs n f v h =
    rw (
      le-leb 24 (length bs) n.begun.long,
      n.begun.magic,
      n.little,
      n.ascii,
      f,
      v,
      le-leb 24 (header_size bs) h,
    ) refl
