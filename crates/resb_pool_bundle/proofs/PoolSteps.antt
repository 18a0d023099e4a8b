-- Which check of what a head says of pools is the first that fails, and of the pool that is given.
use Rattle.std.proofs.Common.{ℕ, List, [], ◌∷◌, ◌≡◌, ◌≢◌, ◌+◌, ◌≤◌, ◌<◌, Bool, true, false}
use Rattle.std.proofs.Common.{not, ◌&&◌, ◌||◌, ◌==◌, nat_le, Some, None, Option, refl, ◌∙◌}
use Rattle.std.proofs.Common.{codes}
use Rattle.std.specs.Prelude.{is_some, unwrap_or}
use Rattle.std.proofs.lemmas.Bool.{le-leb, lt-leb, ne_eqb, eq-eqb}
use Rattle.resb_format.specs.Error.{IsRefusal, IsInvalid, IsEndOfInput, Refusal, refusal_of}
use Rattle.resb_format.specs.Error.{invalid}
use Rattle.resb_format.specs.Error.{end_of_input, first_refusal}
use Rattle.resb_format.specs.Parts.{no_pool as nothing}
use Rattle.resb_format.specs.declared.error.ReadingError.{ReadingError}
use Rattle.resb_format.specs.declared.error.ErrorKind.TheVariants.{UnsupportedFormat}
use Rattle.resb_head.specs.File.{keys_end}
use Rattle.resb_pool_bundle.specs.Checks.{head_checks, head_refusal, lending_checks, pool_checks}
use Rattle.resb_pool_bundle.specs.Checks.{pool_refusal, pool_given_checks, refusal_with}
use Rattle.resb_pool_bundle.specs.Fields.{is_pool, uses_pool, checksum_in, limit_in, short_limit_in}
use Rattle.resb_pool_bundle.specs.Fields.{index_length}
use Rattle.resb_pool_bundle.specs.Pool.{Pool, lent_by, lent_to}
use Rattle.resb_pool_bundle.proofs.Steps.{earlier_refusal, later_refusal}

-- the checksum is there, if it is due
abbrev pub has_checksum_due : List ℕ → Bool
has_checksum_due bs = not (is_pool bs || uses_pool bs) || is_some (checksum_in bs)

-- strings of a pool stand in one that is used
abbrev pub has_pool_of_strings : List ℕ → Bool
has_pool_of_strings bs = uses_pool bs || (limit_in bs == 0 && short_limit_in bs == 0)

pub checksum_missing : (bs : List ℕ) (e : ReadingError) → has_checksum_due bs ≡ false
    → IsInvalid e (codes "pool checksum not specified")
    → first_refusal (lending_checks bs) ≡ Some (refusal_of e)
unfolding lending_checks
checksum_missing bs e h r = rw (h, r.kind_is, r.message_is) refl

pub pool_missing : (bs : List ℕ) (e : ReadingError) → has_checksum_due bs ≡ true
    → has_pool_of_strings bs ≡ false → IsInvalid e (codes "pool strings without a pool bundle")
    → first_refusal (lending_checks bs) ≡ Some (refusal_of e)
unfolding lending_checks
pool_missing bs e h k r = rw (h, k, r.kind_is, r.message_is) refl

pub lending_holds : (bs : List ℕ) → has_checksum_due bs ≡ true → has_pool_of_strings bs ≡ true
    → first_refusal (lending_checks bs) ≡ None
unfolding lending_checks
lending_holds bs h k = rw (h, k) refl

-- the checks of a pool bundle, once its head passes
behind_head : (bs : List ℕ) → head_refusal bs ≡ None
    → pool_refusal bs ≡ first_refusal ((is_pool bs, invalid (codes "file is not a pool bundle"))
    ∷ (nat_le (1 + index_length bs) (keys_end bs), end_of_input) ∷ [])
unfolding pool_refusal pool_checks head_refusal
behind_head bs h = later_refusal (head_checks bs) _ h

pub no_pool : (bs : List ℕ) (e : ReadingError) → head_refusal bs ≡ None → is_pool bs ≡ false
    → IsInvalid e (codes "file is not a pool bundle") → pool_refusal bs ≡ Some (refusal_of e)
no_pool bs e h k r = behind_head bs h ∙ rw (k, r.kind_is, r.message_is) refl

pub keys_in_index : (bs : List ℕ) (e : ReadingError) → head_refusal bs ≡ None → is_pool bs ≡ true
    → keys_end bs < 1 + index_length bs → IsEndOfInput e
    → pool_refusal bs ≡ Some (refusal_of e)
keys_in_index bs e h k l r =
    behind_head bs h
    ∙ rw (k, lt-leb (1 + index_length bs) (keys_end bs) l, r.kind_is, r.message_is) refl

pub pool_holds : (bs : List ℕ) → head_refusal bs ≡ None → is_pool bs ≡ true
    → 1 + index_length bs ≤ keys_end bs → pool_refusal bs ≡ None
pool_holds bs h k l =
    behind_head bs h ∙ rw (k, le-leb (1 + index_length bs) (keys_end bs) l) refl

-- a pool that isn't used doesn't matter
pub unused_holds : (pool : Option Pool) (bs : List ℕ) → uses_pool bs ≡ false
    → first_refusal (pool_given_checks pool bs) ≡ None
unfolding pool_given_checks
unused_holds None bs h = rw h refl
unused_holds (Some p) bs h = rw h refl

pub none_given : (bs : List ℕ) (e : ReadingError) → uses_pool bs ≡ true
    → IsRefusal e UnsupportedFormat (codes "file uses a pool bundle")
    → first_refusal (pool_given_checks None bs) ≡ Some (refusal_of e)
unfolding pool_given_checks
none_given bs e h r = rw (h, r.kind_is, r.message_is) refl

pub another_given : (p : Pool) (bs : List ℕ) (e : ReadingError) → uses_pool bs ≡ true
    → unwrap_or (checksum_in bs) 0 ≢ p.checksum
    → IsInvalid e (codes "pool bundle has another checksum")
    → first_refusal (pool_given_checks (Some p) bs) ≡ Some (refusal_of e)
unfolding pool_given_checks
another_given p bs e h k r =
    rw (
      h,
      ne_eqb (unwrap_or (checksum_in bs) 0) p.checksum k,
      r.kind_is,
      r.message_is,
    ) refl

pub right_given : (p : Pool) (bs : List ℕ) → uses_pool bs ≡ true
    → unwrap_or (checksum_in bs) 0 ≡ p.checksum
    → first_refusal (pool_given_checks (Some p) bs) ≡ None
unfolding pool_given_checks
right_given p bs h k = rw (h, eq-eqb (unwrap_or (checksum_in bs) 0) p.checksum k) refl

-- what is taken from a pool that is used, and from one that isn't
pub nothing_lent : (pool : Option Pool) (bs : List ℕ) → uses_pool bs ≡ false
    → lent_to pool bs ≡ nothing
nothing_lent None bs h = refl
nothing_lent (Some p) bs h = rw h refl

pub all_lent : (p : Pool) (bs : List ℕ) → uses_pool bs ≡ true
    → lent_to (Some p) bs ≡ lent_by bs p
all_lent p bs h = rw h refl

-- the checks of the pool that is given, once the head passes
pub behind_all : (pool : Option Pool) (bs : List ℕ) → head_refusal bs ≡ None
    → refusal_with pool bs ≡ first_refusal (pool_given_checks pool bs)
unfolding refusal_with head_refusal
behind_all pool bs h = later_refusal (head_checks bs) (pool_given_checks pool bs) h

-- the head's refusal comes first
pub head_answers : (pool : Option Pool) (bs : List ℕ) (g : Refusal) → head_refusal bs ≡ Some g
    → refusal_with pool bs ≡ Some g
unfolding refusal_with head_refusal
head_answers pool bs g h = earlier_refusal (head_checks bs) (pool_given_checks pool bs) g h

pub no_head : (bs : List ℕ) (g : Refusal) → head_refusal bs ≡ Some g → pool_refusal bs ≡ Some g
unfolding pool_refusal pool_checks head_refusal
no_head bs g h = earlier_refusal (head_checks bs) _ g h
