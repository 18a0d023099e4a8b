-- Which check of the representation info is the first that fails.
use Rattle.std.proofs.Common.{ℕ, List, ◌≡◌, ◌≢◌, ◌<◌, ◌≤◌, ◌⊎◌, inl, inr, Bool, true, false}
use Rattle.std.proofs.Common.{◌||◌, nat_le, nat_eq, Some, None, refl, arith, get_or, codes}
use Rattle.std.proofs.Common.{slice_range}
use Rattle.std.specs.Str.{bytes_eq}
use Rattle.std.proofs.lemmas.Bool.{or_right, lt-leb, le-leb}
use Rattle.resb_format.specs.Error.{IsRefusal, IsInvalid, refusal_of, first_refusal}
use Rattle.resb_format.specs.declared.error.ReadingError.{ReadingError}
use Rattle.resb_format.specs.declared.error.ErrorKind.TheVariants.{UnsupportedFormat}
use Rattle.resb_head.specs.Codes.{version_bytes, endianness_number, charset_number}
use Rattle.resb_head.specs.HeadChecks.{info_checks, is_version}
use Rattle.resb_head.specs.declared.charset.CharsetFamily.{CharsetFamily}
use Rattle.resb_head.specs.declared.charset.CharsetFamily.TheVariants.{Ascii, Ebcdic}
use Rattle.resb_head.specs.declared.endianness.Endianness.{Endianness}
use Rattle.resb_head.specs.declared.endianness.Endianness.TheVariants.{Little, Big}
use Rattle.resb_head.specs.declared.version.FormatVersion.{FormatVersion}
use Rattle.resb_head.specs.declared.version.FormatVersion.TheVariants.{V1_0, V1_1, V1_2, V1_3}
use Rattle.resb_head.specs.declared.version.FormatVersion.TheVariants.{V2_0, V3_0}
use Rattle.resb_head.proofs.Lists.{bytes_eq_fails}

pub a_version : (v : FormatVersion) (bs : List ℕ) → version_bytes v ≡ bs → is_version bs ≡ true
a_version v bs e = rw (← e) (each v)
  where
    each : (v : FormatVersion) → is_version (version_bytes v) ≡ true
    each V1_0 = refl
    each V1_1 = refl
    each V1_2 = refl
    each V1_3 = refl
    each V2_0 = refl
    each V3_0 = refl

pub no_version : (bs : List ℕ) → ((v : FormatVersion) → version_bytes v ≢ bs)
    → is_version bs ≡ false
no_version bs h = rw (
  bytes_eq_fails (version_bytes V1_0) bs (h V1_0),
  bytes_eq_fails (version_bytes V1_1) bs (h V1_1),
  bytes_eq_fails (version_bytes V1_2) bs (h V1_2),
  bytes_eq_fails (version_bytes V1_3) bs (h V1_3),
  bytes_eq_fails (version_bytes V2_0) bs (h V2_0),
  bytes_eq_fails (version_bytes V3_0) bs (h V3_0),
) refl

pub endianness_small : (x : Endianness) → endianness_number x ≤ 1
endianness_small Little = omega arith
endianness_small Big = omega arith

pub charset_small : (x : CharsetFamily) → charset_number x ≤ 1
charset_small Ascii = omega arith
charset_small Ebcdic = omega arith

-- the tests of the checks of the info hold up to one of them
pub record Order (any : Bool) (bs : List ℕ) : Type 0 where
  pub known : nat_le (get_or bs 4 0) 1 ≡ true
  pub own : (any || nat_eq (get_or bs 4 0) 0) ≡ true

pub record Families (any : Bool) (bs : List ℕ) : Type 0 where
  pub order : Order any bs
  pub charset : nat_le (get_or bs 5 0) 1 ≡ true

pub record Formats (any : Bool) (bs : List ℕ) : Type 0 where
  pub families : Families any bs
  pub format : bytes_eq (slice_range bs 8 12) (codes "ResB") ≡ true

-- an order of bytes that may stand
pub order_stands : (any : Bool) (bs : List ℕ) (x : Endianness) → endianness_number x ≡ get_or bs 4 0
    → (any ≡ true) ⊎ (get_or bs 4 0 ≡ 0) → Order any bs
order_stands any bs x e (inl a) =
    record {
      known = le-leb (get_or bs 4 0) 1 (omega (arith, endianness_small x));
      own = rw a refl;
    }
order_stands any bs x e (inr z) =
    record {
      known = le-leb (get_or bs 4 0) 1 (omega arith);
      own = or_right any (nat_eq (get_or bs 4 0) 0) (rw z refl);
    }

-- a number of no order of bytes
no_order : (n : ℕ) → ((x : Endianness) → endianness_number x ≢ n) → 1 < n
no_order n h = omega (arith, h Little, h Big)

-- a number of no family of character sets
no_family : (n : ℕ) → ((x : CharsetFamily) → charset_number x ≢ n) → 1 < n
no_family n h = omega (arith, h Ascii, h Ebcdic)

pub endianness_fails : (any : Bool) (bs : List ℕ) (e : ReadingError)
    → ((x : Endianness) → endianness_number x ≢ get_or bs 4 0)
    → IsInvalid e (codes "unrecognized value for Endianness")
    → first_refusal (info_checks any bs) ≡ Some (refusal_of e)
unfolding info_checks
endianness_fails any bs e h r =
    rw (lt-leb (get_or bs 4 0) 1 (no_order (get_or bs 4 0) h), r.kind_is, r.message_is) refl

pub order_fails : (any : Bool) (bs : List ℕ) (e : ReadingError) → get_or bs 4 0 ≡ 1 → any ≡ false
    → IsRefusal e UnsupportedFormat (codes "bundle endianness does not match platform endianness")
    → first_refusal (info_checks any bs) ≡ Some (refusal_of e)
unfolding info_checks
order_fails any bs e h a r =
    rw (le-leb (get_or bs 4 0) 1 (omega arith), a, h, r.kind_is, r.message_is) refl

pub charset_fails : (any : Bool) (bs : List ℕ) (e : ReadingError) → Order any bs
    → ((x : CharsetFamily) → charset_number x ≢ get_or bs 5 0)
    → IsInvalid e (codes "unrecognized value for CharsetFamily")
    → first_refusal (info_checks any bs) ≡ Some (refusal_of e)
unfolding info_checks
charset_fails any bs e o h r =
    let over = no_family (get_or bs 5 0) h in
    rw (o.known, o.own, lt-leb (get_or bs 5 0) 1 over, r.kind_is, r.message_is) refl

pub format_fails : (any : Bool) (bs : List ℕ) (e : ReadingError) → Families any bs
    → bytes_eq (slice_range bs 8 12) (codes "ResB") ≡ false
    → IsInvalid e (codes "unexpected data format value")
    → first_refusal (info_checks any bs) ≡ Some (refusal_of e)
unfolding info_checks
format_fails any bs e f h r =
    rw (f.order.known, f.order.own, f.charset, h, r.kind_is, r.message_is) refl

pub version_fails : (any : Bool) (bs : List ℕ) (e : ReadingError) → Formats any bs
    → ((v : FormatVersion) → version_bytes v ≢ slice_range bs 12 16)
    → IsInvalid e (codes "unrecognized format version")
    → first_refusal (info_checks any bs) ≡ Some (refusal_of e)
unfolding info_checks
version_fails any bs e f h r =
    rw (
      f.families.order.known,
      f.families.order.own,
      f.families.charset,
      f.format,
      no_version (slice_range bs 12 16) h,
      r.kind_is,
      r.message_is,
    ) refl

pub all_hold : (any : Bool) (bs : List ℕ) (v : FormatVersion) → Formats any bs
    → version_bytes v ≡ slice_range bs 12 16 → first_refusal (info_checks any bs) ≡ None
unfolding info_checks
all_hold any bs v f h =
    rw (
      f.families.order.known,
      f.families.order.own,
      f.families.charset,
      f.format,
      a_version v (slice_range bs 12 16) h,
    ) refl
