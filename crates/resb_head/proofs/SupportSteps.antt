-- Which check of what is supported is the first that fails.
use Rattle.std.proofs.Common.{ℕ, List, [], ◌∷◌, ◌≡◌, ◌≢◌, Some, None}
use Rattle.std.proofs.Common.{refl, get_or, codes, slice_range}
use Rattle.resb_format.specs.Error.{IsRefusal, refusal_of, first_refusal}
use Rattle.resb_format.specs.declared.error.ReadingError.{ReadingError}
use Rattle.resb_format.specs.declared.error.ErrorKind.TheVariants.{UnsupportedFormat}
use Rattle.resb_head.specs.HeadChecks.{support_checks}
use Rattle.resb_head.proofs.Lists.{bytes_eq_fails}
use Rattle.std.proofs.lemmas.Bool.{ne_eqb}

pub family_unsupported : (info : List ℕ) (e : ReadingError) → get_or info 5 0 ≢ 0
    → IsRefusal e UnsupportedFormat (codes "bundle and system character set families do not match")
    → first_refusal (support_checks info) ≡ Some (refusal_of e)
unfolding support_checks
family_unsupported info e h r = rw (ne_eqb (get_or info 5 0) 0 h, r.kind_is, r.message_is) refl

pub character_size_unsupported : (info : List ℕ) (e : ReadingError) → get_or info 5 0 ≡ 0
    → get_or info 6 0 ≢ 2
    → IsRefusal e UnsupportedFormat (codes "characters of size other than 2 are not supported")
    → first_refusal (support_checks info) ≡ Some (refusal_of e)
unfolding support_checks
character_size_unsupported info e a h r =
    rw (a, ne_eqb (get_or info 6 0) 2 h, r.kind_is, r.message_is) refl

pub version_unsupported : (info : List ℕ) (e : ReadingError) → get_or info 5 0 ≡ 0
    → get_or info 6 0 ≡ 2
    → slice_range info 12 16 ≢ 2 ∷ 0 ∷ 0 ∷ 0 ∷ []
    → IsRefusal e UnsupportedFormat
    (codes "format versions other than 2.0 are not supported at this time")
    → first_refusal (support_checks info) ≡ Some (refusal_of e)
unfolding support_checks
version_unsupported info e a b h r =
    rw (
      a,
      b,
      bytes_eq_fails (slice_range info 12 16) (2 ∷ 0 ∷ 0 ∷ 0
          ∷ []) h,
      r.kind_is,
      r.message_is,
    )
    refl

pub support_holds : (info : List ℕ) → get_or info 5 0 ≡ 0 → get_or info 6 0 ≡ 2
    → slice_range info 12 16 ≡ 2 ∷ 0 ∷ 0 ∷ 0 ∷ [] → first_refusal (support_checks info) ≡ None
unfolding support_checks
support_holds info a b v = rw (a, b, v) refl
