-- Which check of a head is the first that fails.
use Rattle.std.proofs.Common.{ℕ, List, ◌++◌, ◌≡◌, ◌≤◌, inl, inr, length, drop, false, Some}
use Rattle.std.proofs.Common.{None, ◌∙◌, refl}
use Rattle.std.specs.Prelude.{Result, Ok, Err, MatchResult, codes}
use Rattle.std.proofs.lemmas.Bool.{cases_lt, lt-leb}
use Rattle.resb_format.specs.Error.{Refusal, refusal_of, invalid, first_refusal}
use Rattle.resb_format.specs.declared.error.ReadingError.{ReadingError}
use Rattle.resb_head.specs.HeadChecks.{header_checks, header_refusal}
use Rattle.resb_pool_bundle.specs.Checks.{version_checks, size_checks, lending_checks}
use Rattle.resb_pool_bundle.specs.Checks.{head_checks, head_refusal}
use Rattle.resb_pool_bundle.specs.declared.index.Index.{Index}
use Rattle.resb_pool_bundle.proofs.Steps.{earlier_refusal, later_refusal}

-- a file with a header is as long as one
pub long_header : (bytes : List ℕ) → header_refusal false bytes ≡ None → 24 ≤ length bytes
unfolding header_refusal header_checks
long_header bytes e = elim (cases_lt (length bytes) 24) [
  | inl h ↦
      let short : header_refusal false bytes
      ≡ Some (invalid (codes "input is too short to contain file header")) =
      rw (lt-leb 24 (length bytes) h) refl in
      cc
  | inr h ↦ h
]

pub header_answers : (bytes : List ℕ) (g : Refusal) → header_refusal false bytes ≡ Some g
    → head_refusal bytes ≡ Some g
unfolding head_refusal head_checks header_refusal
header_answers bytes g e =
    earlier_refusal (header_checks false bytes)
    (version_checks (drop 4 bytes) ++ (size_checks bytes ++ lending_checks bytes)) g e

pub behind_header : (bytes : List ℕ) → header_refusal false bytes ≡ None
    → head_refusal bytes
    ≡ first_refusal (version_checks (drop 4 bytes) ++ (size_checks bytes ++ lending_checks bytes))
unfolding head_refusal head_checks header_refusal
behind_header bytes e =
    later_refusal (header_checks false bytes)
    (version_checks (drop 4 bytes) ++ (size_checks bytes ++ lending_checks bytes)) e

pub version_answers : (bytes : List ℕ) (g : Refusal) → header_refusal false bytes ≡ None
    → first_refusal (version_checks (drop 4 bytes)) ≡ Some g → head_refusal bytes ≡ Some g
version_answers bytes g h e =
    behind_header bytes h
    ∙ earlier_refusal (version_checks (drop 4 bytes)) (size_checks bytes ++ lending_checks bytes) g
    e

-- the rest of the checks, once header and version pass theirs
pub behind_version : (bytes : List ℕ) → header_refusal false bytes ≡ None
    → first_refusal (version_checks (drop 4 bytes)) ≡ None
    → head_refusal bytes ≡ first_refusal (size_checks bytes ++ lending_checks bytes)
behind_version bytes h e =
    behind_header bytes h
    ∙ later_refusal (version_checks (drop 4 bytes)) (size_checks bytes ++ lending_checks bytes) e

pub sizes_answer : (bytes : List ℕ) (r : Result Index ReadingError)
    → head_refusal bytes ≡ first_refusal (size_checks bytes ++ lending_checks bytes)
    → MatchResult r (λ i. (first_refusal (size_checks bytes) ≡ None) × (i.bytes.now ≡ bytes))
    (λ e. first_refusal (size_checks bytes) ≡ Some (refusal_of e))
    → MatchResult r
    (λ i. (head_refusal bytes ≡ first_refusal (lending_checks bytes)) × (i.bytes.now ≡ bytes))
    (λ e. head_refusal bytes ≡ Some (refusal_of e))
sizes_answer bytes (Ok i) h m =
    (h ∙ later_refusal (size_checks bytes) (lending_checks bytes) m.0, m.1)
sizes_answer bytes (Err e) h m =
    h ∙ earlier_refusal (size_checks bytes) (lending_checks bytes) (refusal_of e) m
