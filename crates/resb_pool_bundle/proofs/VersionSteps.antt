-- Which check of what is supported is the first that fails.
use Rattle.std.proofs.Common.{ℕ, List, ◌≡◌, ◌≢◌, Bool, true, false, ◌||◌, Some, None, nat_le}
use Rattle.std.proofs.Common.{refl, ap, ◌∙◌, arith, get_or, codes, slice_range, take, drop}
use Rattle.std.proofs.Common.{◌+◌, ◌-◌, ◌<◌}
use Rattle.std.proofs.lemmas.Bool.{ne_eqb}
use Rattle.std.proofs.lemmas.List.{get_or-take, get_or-drop}
use Rattle.resb_format.specs.Error.{IsRefusal, refusal_of, first_refusal}
use Rattle.resb_format.specs.declared.error.ReadingError.{ReadingError}
use Rattle.resb_format.specs.declared.error.ErrorKind.TheVariants.{UnsupportedFormat}
use Rattle.resb_head.specs.Codes.{charset_number, version_bytes}
use Rattle.resb_head.specs.declared.charset.CharsetFamily.{CharsetFamily}
use Rattle.resb_head.specs.declared.charset.CharsetFamily.TheVariants.{Ascii, Ebcdic}
use Rattle.resb_head.specs.declared.version.FormatVersion.{FormatVersion}
use Rattle.resb_head.specs.declared.version.FormatVersion.TheVariants.{V1_0, V1_1, V1_2, V1_3}
use Rattle.resb_head.specs.declared.version.FormatVersion.TheVariants.{V2_0, V3_0}
use Rattle.resb_pool_bundle.specs.Checks.{version_checks}

-- any other family has another number
pub other_family : (x : CharsetFamily) → x ≢ Ascii → charset_number x ≢ 0
other_family Ascii h = λ e. absurd (h refl)
other_family Ebcdic h = λ e. absurd (omega (arith, e))

-- the numbers of a version, from the bytes that spell it
pub spelled_at : (v : FormatVersion) (bs : List ℕ) (i k : ℕ)
    → version_bytes v ≡ slice_range bs i (i + 4) → k < 4
    → get_or (version_bytes v) k 0 ≡ get_or bs (i + k) 0
spelled_at v bs i k e h =
    let four : i + 4 - i ≡ 4 = omega arith in
    ap (λ xs. get_or xs k 0) e ∙ ap (λ n. get_or (take n (drop i bs)) k 0) four
    ∙ get_or-take 4 (drop i bs) k 0 h ∙ get_or-drop i bs k 0

-- only version 1.0 is refused
pub version_test : FormatVersion → Bool
version_test v = nat_le 2 (get_or (version_bytes v) 0 0) || nat_le 1 (get_or (version_bytes v) 1 0)

pub test_is : (v : FormatVersion) (info : List ℕ) → version_bytes v ≡ slice_range info 12 16
    → (nat_le 2 (get_or info 12 0) || nat_le 1 (get_or info 13 0)) ≡ version_test v
unfolding version_test
test_is v info e =
    rw (
      spelled_at v info 12 0 e (omega arith),
      spelled_at v info 12 1 e (omega arith),
    ) refl

test_holds : (v : FormatVersion) → v ≢ V1_0 → version_test v ≡ true
unfolding version_test
test_holds V1_0 h = absurd (h refl)
test_holds V1_1 h = refl
test_holds V1_2 h = refl
test_holds V1_3 h = refl
test_holds V2_0 h = refl
test_holds V3_0 h = refl

pub first_fails : version_test V1_0 ≡ false
unfolding version_test
first_fails = refl

pub family_unsupported : (info : List ℕ) (e : ReadingError) → get_or info 5 0 ≢ 0
    → IsRefusal e UnsupportedFormat (codes "bundle and system character set families do not match")
    → first_refusal (version_checks info) ≡ Some (refusal_of e)
unfolding version_checks
family_unsupported info e h r = rw (ne_eqb (get_or info 5 0) 0 h, r.kind_is, r.message_is) refl

pub character_size_unsupported : (info : List ℕ) (e : ReadingError) → get_or info 5 0 ≡ 0
    → get_or info 6 0 ≢ 2
    → IsRefusal e UnsupportedFormat (codes "characters of size other than 2 are not supported")
    → first_refusal (version_checks info) ≡ Some (refusal_of e)
unfolding version_checks
character_size_unsupported info e a h r =
    rw (a, ne_eqb (get_or info 6 0) 2 h, r.kind_is, r.message_is) refl

pub version_unsupported : (info : List ℕ) (e : ReadingError) → get_or info 5 0 ≡ 0
    → get_or info 6 0 ≡ 2 → version_bytes V1_0 ≡ slice_range info 12 16
    → IsRefusal e UnsupportedFormat (codes "format version 1.0 is not supported")
    → first_refusal (version_checks info) ≡ Some (refusal_of e)
unfolding version_checks version_test
version_unsupported info e a b v r =
    rw (a, b, test_is V1_0 info v, r.kind_is, r.message_is) refl

pub version_holds : (info : List ℕ) (v : FormatVersion) → get_or info 5 0 ≡ 0
    → get_or info 6 0 ≡ 2 → version_bytes v ≡ slice_range info 12 16 → v ≢ V1_0
    → first_refusal (version_checks info) ≡ None
unfolding version_checks
version_holds info v a b e h = rw (a, b, test_is v info e, test_holds v h) refl
