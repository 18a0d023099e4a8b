-- A head that is written passes each check beside its pool, and tells the parts.
use Rattle.std.proofs.Common.{◌≡◌, ℕ, ◌+◌, ◌-◌, ◌*◌, ◌/◌, ◌%◌, ◌^◌, ◌<◌, ◌≤◌, ◌&&◌, ◌||◌, ◌==◌}
use Rattle.std.proofs.Common.{not, List, [], ◌∷◌, ◌++◌, length, get_or, take, drop, Bool, true}
use Rattle.std.proofs.Common.{false}
use Rattle.std.proofs.Common.{cond, Some, None, nat_le, nat_lt, nat_eq, refl, sym, ◌∙◌, ap}
use Rattle.std.proofs.Common.{append_assoc, append-nil, length-append, arith, min, codes}
use Rattle.std.specs.Prelude.{is_some, unwrap_or}
use Rattle.std.specs.List.{All}
use Rattle.std.proofs.lemmas.Bool.{le-leb, lt-leb, eqb-true, eqb-false}
use Rattle.std.proofs.lemmas.List.{take_at, drop_at}
use Rattle.std.proofs.lemmas.List.Elements.{All-head, All-tail}
use Rattle.resb_format.specs.Bytes.{units_of, words_of, units_as_bytes, header_size}
use Rattle.resb_format.specs.Error.{Refusal, invalid, first_refusal}
use Rattle.resb_format.proofs.WordsBack.{written_length}
use Rattle.resb_head.specs.File.{body_of, root_word, field_count, keys_end, attributes}
use Rattle.resb_head.specs.File.{block_end}
use Rattle.resb_head.specs.HeadChecks.{header_checks, info_checks}
use Rattle.resb_layout.specs.Laid.{words}
use Rattle.resb_layout.specs.WrittenHead.{header_of}
use Rattle.resb_layout.proofs.BytesLemmas.{EachBelow, words_read, halves_len, halves_read}
use Rattle.resb_pool_bundle.specs.Checks.{version_checks, size_checks, lending_checks, head_checks}
use Rattle.resb_pool_bundle.specs.Checks.{pool_given_checks, refusal_with}
use Rattle.resb_pool_bundle.specs.Fields.{major, minor, index_length, attributes_in, is_pool}
use Rattle.resb_pool_bundle.specs.Fields.{uses_pool, checksum_in, block_end_in, limit_in}
use Rattle.resb_pool_bundle.specs.Fields.{short_limit_in}
use Rattle.resb_format.specs.Parts.{no_pool}
use Rattle.resb_pool_bundle.proofs.PassingFiles.{file_is}
use Rattle.resb_pool_bundle.specs.FileWith.{IsFileWith}
use Rattle.resb_pool_bundle.specs.Pool.{Pool, parts_with, block_bytes}
use Rattle.resb_pool_bundle.proofs.Steps.{later_refusal}
use Rattle.resb_lent.specs.HeadWithPool.{IsHead, head_words}
use Rattle.resb_lent.specs.HeadWithPool.{attributes_with, body_behind, parts_behind}
use Rattle.resb_lent.specs.Laws.{HeadWithPoolIsRead}
use Rattle.resb_lent.specs.declared.head_with_pool.HeadWithPool.{HeadWithPool}

-- a version's number, by whether it is that of a file to which no string is lent
abbrev number : Bool → ℕ
number none = cond none 2 3

-- a check that holds, before others that do
first : (b : Bool) (r : Refusal) → b ≡ true → cond b None (Some r) ≡ None
first true r e = refl
first false r e = cc

sizes_pass : (bs : List ℕ) → nat_le 8 (length (body_of bs)) ≡ true
    → nat_le 5 (index_length bs) ≡ true
    → nat_le (4 * (1 + min (index_length bs) 8)) (length (body_of bs)) ≡ true
    → nat_le (4 * keys_end bs) (length (body_of bs)) ≡ true
    → (nat_lt (major bs) 2 || nat_le 7 (index_length bs)) ≡ true
    → (nat_le (keys_end bs) (block_end_in bs)
    && nat_le (4 * block_end_in bs) (length (body_of bs))) ≡ true
    → first_refusal (size_checks bs) ≡ None
unfolding size_checks
sizes_pass bs a b c d e f = rw (a, b, c, d, e, f) refl

lending_pass : (bs : List ℕ)
    → (not (is_pool bs || uses_pool bs) || is_some (checksum_in bs)) ≡ true
    → (uses_pool bs || (limit_in bs == 0 && short_limit_in bs == 0)) ≡ true
    → first_refusal (lending_checks bs) ≡ None
unfolding lending_checks
lending_pass bs a b = rw (a, b) refl

given_pass : (pool : Pool) (bs : List ℕ)
    → (not (uses_pool bs) || nat_eq (unwrap_or (checksum_in bs) 0) pool.checksum) ≡ true
    → first_refusal (head_checks bs) ≡ None → IsFileWith (Some pool) bs
unfolding refusal_with pool_given_checks
given_pass pool bs a h = file_is (Some pool) bs (later_refusal (head_checks bs) _ h ∙ rw a refl)

or_true : (a b : Bool) → b ≡ true → (a || b) ≡ true
or_true true b e = refl
or_true false b e = e

true_or : (a b : Bool) → a ≡ true → (a || b) ≡ true
true_or true b e = refl
true_or false b e = cc

both_true : (a b : Bool) → a ≡ true → b ≡ true → (a && b) ≡ true
both_true true b e h = h
both_true false b e h = cc

same_eq : (m n : ℕ) → m ≡ n → nat_eq m n ≡ true
same_eq m n e = by (nat_eq m n) refl
  where
    by : (b : Bool) → nat_eq m n ≡ b → b ≡ true
    by true f = refl
    by false f = absurd (eqb-false m n f e)

size_of_header : (b : Bool) (rest : List ℕ) → header_size (header_of (number b) ++ rest) ≡ 32
unfolding units_of
size_of_header true rest = refl
size_of_header false rest = refl

behind_header : (b : Bool) (rest : List ℕ) → body_of (header_of (number b) ++ rest) ≡ rest
behind_header b rest = ap (λ n. drop n (header_of (number b) ++ rest)) (size_of_header b rest)
    ∙ drop_at (header_of (number b)) rest 32 refl

header_holds : (b : Bool) (rest : List ℕ)
    → first_refusal (header_checks false (header_of (number b) ++ rest)) ≡ None
unfolding header_checks info_checks units_of
header_holds true rest =
    first (nat_le 24 (length (header_of 2 ++ rest)))
    (invalid (codes "input is too short to contain file header"))
    (le-leb 24 (length (header_of 2 ++ rest))
    (omega (arith, length-append (header_of 2) rest)))
header_holds false rest =
    first (nat_le 24 (length (header_of 3 ++ rest)))
    (invalid (codes "input is too short to contain file header"))
    (le-leb 24 (length (header_of 3 ++ rest))
    (omega (arith, length-append (header_of 3) rest)))

version_holds : (b : Bool) (rest : List ℕ)
    → first_refusal (version_checks (drop 4 (header_of (number b) ++ rest))) ≡ None
unfolding version_checks
version_holds true rest = refl
version_holds false rest = refl

major_is : (b : Bool) (rest : List ℕ) → major (header_of (number b) ++ rest) ≡ number b
major_is true rest = refl
major_is false rest = refl

-- the bits of the limits
limit_back : (f l s : ℕ) → f < 2 ^ 12 → l < 2 ^ 28
    → (8 + 2 ^ 8 * (l % 2 ^ 24)) / 2 ^ 8
    + 2 ^ 24 * ((f + 2 ^ 12 * (l / 2 ^ 24) + 2 ^ 16 * s) / 2 ^ 12 % 2 ^ 4) ≡ l
limit_back f l s a b = omega (arith, a, b)

short_back : (f l s : ℕ) → f < 2 ^ 12 → l < 2 ^ 28
    → (f + 2 ^ 12 * (l / 2 ^ 24) + 2 ^ 16 * s) / 2 ^ 16 ≡ s
short_back f l s a b = omega (arith, a, b)

abbrev flag : Bool → ℕ
flag b = cond b 4 5

flag_small : (b : Bool) → flag b < 2 ^ 12
flag_small true = omega arith
flag_small false = omega arith

uses : (b : Bool) (l s : ℕ) → ((flag b + 2 ^ 12 * l + 2 ^ 16 * s) / 4 % 2 == 1) ≡ true
uses true l s = same_eq ((4 + 2 ^ 12 * l + 2 ^ 16 * s) / 4 % 2) 1 (omega arith)
uses false l s = same_eq ((5 + 2 ^ 12 * l + 2 ^ 16 * s) / 4 % 2) 1 (omega arith)

fits_bits : (b : Bool) (l s : ℕ) → l < 2 ^ 28 → s ≤ 65535
    → flag b + 2 ^ 12 * (l / 2 ^ 24) + 2 ^ 16 * s < 2 ^ 32
fits_bits true l s a c = omega (arith, a, c)
fits_bits false l s a c = omega (arith, a, c)

all_below : (us : List ℕ) → All (λ u. u < 2 ^ 16) us → EachBelow (2 ^ 16) us
all_below [] h = tt
all_below (u ∷ us) h = (
  All-head (λ u. u < 2 ^ 16) u us h,
  all_below us (All-tail (λ u. u < 2 ^ 16) u us h),
)

no_units : units_of [] ≡ []
unfolding units_of
no_units = refl

module _ (h : HeadWithPool) (pool : Pool) (keys us tail : List ℕ) (is : IsHead h)
    (known : h.checksum ≡ pool.checksum) (key_length : length keys ≡ 4 * h.key_words)
    (unit_length : length us ≡ 2 * h.block_words) (tail_length : length tail ≡ 4 * h.tail_words)
    (units_fit : All (λ u. u < 2 ^ 16) us) where
  abbrev none : Bool
  none = nat_eq h.limit 0

  abbrev head : List ℕ
  head = words (head_words h)

  abbrev behind : List ℕ
  behind = keys ++ (units_as_bytes us ++ tail)

  abbrev body : List ℕ
  body = body_behind h keys us tail

  abbrev file : List ℕ
  file = header_of (number none) ++ body

  words_fit : EachBelow (2 ^ 32) (head_words h)
  words_fit = (
    is.root,
    (
      omega (arith, is.limit),
      (
        omega (arith, is.end),
        (
          omega (arith, is.end),
          (
            omega (arith, is.end),
            (
              is.largest,
              (
                fits_bits h.is_locale_fallback_enabled h.limit h.short_limit is.limit is.short,
                (omega (arith, is.end), (is.checksum, tt)),
              ),
            ),
          ),
        ),
      ),
    ),
  )

  body_is : body_of file ≡ body
  body_is = behind_header none body

  word_is : (i : ℕ) → get_or (words_of (body_of file)) i 0
      ≡ get_or (head_words h ++ words_of behind) i 0
  word_is i = ap (λ ws. get_or ws i 0) (ap words_of body_is
      ∙ words_read (head_words h) behind words_fit)

  root_is : root_word file ≡ h.root
  root_is = word_is 0

  fields_are : field_count file ≡ 8 + 2 ^ 8 * (h.limit % 2 ^ 24)
  fields_are = word_is 1

  keys_end_is : keys_end file ≡ 9 + h.key_words
  keys_end_is = word_is 2

  attributes_are : attributes file ≡ attributes_with h
  attributes_are = word_is 6

  block_end_is : block_end file ≡ 9 + h.key_words + h.block_words
  block_end_is = word_is 7

  checksum_is : get_or (words_of (body_of file)) 8 0 ≡ h.checksum
  checksum_is = word_is 8

  length_is : index_length file ≡ 8
  length_is = omega (arith, fields_are)

  major_of : major file ≡ number none
  major_of = major_is none body

  head_length : length head ≡ 36
  head_length = written_length (head_words h)

  body_length : length (body_of file)
      ≡ 4 * (9 + h.key_words + h.block_words + h.tail_words)
  body_length =
      ap length body_is
      ∙ omega (
        arith,
        key_length,
        unit_length,
        tail_length,
        length-append head behind,
        length-append keys (units_as_bytes us ++ tail),
        length-append (units_as_bytes us) tail,
        head_length,
        halves_len us,
      )

  two_or_more : (b : Bool) → nat_le 2 (number b) ≡ true
  two_or_more true = refl
  two_or_more false = refl

  is_new : nat_le 2 (major file) ≡ true
  is_new = ap (nat_le 2) major_of ∙ two_or_more none

  any_version : (nat_le 2 (major file) || nat_le 2 (minor file)) ≡ true
  any_version = ap (λ b. b || nat_le 2 (minor file)) is_new

  attributes_there : attributes_in file ≡ attributes_with h
  attributes_there =
      ap (λ b. cond b (attributes file) 0)
      (λ i. nat_le 6 (length_is i) && any_version i) ∙ attributes_are

  ends_there : block_end_in file ≡ 9 + h.key_words + h.block_words
  ends_there = ap (λ b. cond b (block_end file) (keys_end file)) is_new ∙ block_end_is

  checksum_there : checksum_in file ≡ Some h.checksum
  checksum_there =
      ap (λ n. cond (nat_le 8 n) (Some (get_or (words_of (body_of file)) 8 0)) None) length_is
      ∙ ap Some checksum_is

  pool_is_used : uses_pool file ≡ true
  pool_is_used = ap (λ n. n / 4 % 2 == 1) attributes_there
      ∙ uses h.is_locale_fallback_enabled (h.limit / 2 ^ 24) h.short_limit

  by_version : (n a : ℕ) (b : Bool) → n ≡ number b → (b ≡ true → a ≡ 0)
      → cond (nat_le 3 n) a 0 ≡ a
  by_version n a true e z = ap (λ m. cond (nat_le 3 m) a 0) e ∙ sym (z refl)
  by_version n a false e z = ap (λ m. cond (nat_le 3 m) a 0) e

  limit_is : limit_in file ≡ h.limit
  limit_is =
      (λ i. cond (nat_le 3 (major file))
      (fields_are i / 2 ^ 8 + 2 ^ 24 * (attributes_there i / 2 ^ 12 % 2 ^ 4)) 0)
      ∙ ap (λ n. cond (nat_le 3 (major file)) n 0)
      (limit_back (flag h.is_locale_fallback_enabled) h.limit h.short_limit
      (flag_small h.is_locale_fallback_enabled) is.limit)
      ∙ by_version (major file) h.limit none major_of (eqb-true h.limit 0)

  short_limit_is : short_limit_in file ≡ h.short_limit
  short_limit_is =
      ap (λ n. cond (nat_le 3 (major file)) (n / 2 ^ 16) 0) attributes_there
      ∙ ap (λ n. cond (nat_le 3 (major file)) n 0)
      (short_back (flag h.is_locale_fallback_enabled) h.limit h.short_limit
      (flag_small h.is_locale_fallback_enabled) is.limit)
      ∙ by_version (major file) h.short_limit none major_of
      (λ z. is.none (eqb-true h.limit 0 z))

  sizes_hold : first_refusal (size_checks file) ≡ None
  sizes_hold =
      let size : ℕ = length (body_of file) in
      sizes_pass file (le-leb 8 size (omega (arith, body_length)))
      (le-leb 5 (index_length file) (omega (arith, length_is)))
      (le-leb (4 * (1 + min (index_length file) 8)) size (omega (arith, body_length, length_is)))
      (le-leb (4 * keys_end file) size (omega (arith, body_length, keys_end_is)))
      (or_true (nat_lt (major file) 2) (nat_le 7 (index_length file))
      (le-leb 7 (index_length file) (omega (arith, length_is))))
      (both_true (nat_le (keys_end file) (block_end_in file))
      (nat_le (4 * block_end_in file) size)
      (le-leb (keys_end file) (block_end_in file) (omega (arith, keys_end_is, ends_there)))
      (le-leb (4 * block_end_in file) size (omega (arith, ends_there, body_length))))

  lending_holds : first_refusal (lending_checks file) ≡ None
  lending_holds =
      lending_pass file
      (or_true (not (is_pool file || uses_pool file)) (is_some (checksum_in file))
      (ap (λ o. is_some o) checksum_there))
      (true_or (uses_pool file) (limit_in file == 0 && short_limit_in file == 0) pool_is_used)

  head_holds : first_refusal (head_checks file) ≡ None
  unfolding head_checks
  head_holds =
      later_refusal (header_checks false file) _ (header_holds none body)
      ∙ later_refusal (version_checks (drop 4 file)) _ (version_holds none body)
      ∙ later_refusal (size_checks file) _ sizes_hold
      ∙ lending_holds

  passes : IsFileWith (Some pool) file
  passes = given_pass pool file
      (or_true (not (uses_pool file)) (nat_eq (unwrap_or (checksum_in file) 0) pool.checksum)
      (same_eq (unwrap_or (checksum_in file) 0) pool.checksum
      (ap (λ o. unwrap_or o 0) checksum_there ∙ known))) head_holds

  front_length : length (head ++ keys) ≡ 4 * (9 + h.key_words)
  front_length = omega (arith, key_length, length-append head keys, head_length)

  body_split : body ≡ (head ++ keys) ++ (units_as_bytes us ++ tail)
  body_split = sym (append_assoc head keys (units_as_bytes us ++ tail))

  own_are : take (4 * keys_end file) (body_of file) ≡ head ++ keys
  own_are =
      (λ i. take (4 * keys_end_is i) ((body_is ∙ body_split) i))
      ∙ take_at (head ++ keys) (units_as_bytes us ++ tail) (4 * (9 + h.key_words)) front_length

  has_keys : nat_le (keys_end file) (1 + index_length file) ≡ nat_eq h.key_words 0
  has_keys = (λ i. nat_le (keys_end_is i) (1 + length_is i)) ∙ by (nat_eq h.key_words 0) refl
    where
      by : (b : Bool) → nat_eq h.key_words 0 ≡ b
          → nat_le (9 + h.key_words) 9 ≡ nat_eq h.key_words 0
      by true e = le-leb (9 + h.key_words) 9 (omega (arith, eqb-true h.key_words 0 e)) ∙ sym e
      by false e =
          let some = eqb-false h.key_words 0 e in
          lt-leb (9 + h.key_words) 9 (omega (arith, some)) ∙ sym e

  rest_is : drop (4 * keys_end file) (body_of file) ≡ units_as_bytes us ++ tail
  rest_is =
      (λ i. drop (4 * keys_end_is i) ((body_is ∙ body_split) i))
      ∙ drop_at (head ++ keys) (units_as_bytes us ++ tail) (4 * (9 + h.key_words)) front_length

  block_is : units_of (block_bytes file) ≡ us
  block_is =
      (λ i. units_of (take (4 * (ends_there i - keys_end_is i)) (rest_is i)))
      ∙ ap units_of (take_at (units_as_bytes us) tail
      (4 * (9 + h.key_words + h.block_words - (9 + h.key_words)))
      (omega (arith, halves_len us, unit_length)))
      ∙ ap units_of (sym (append-nil (units_as_bytes us)))
      ∙ halves_read us [] (all_below us units_fit)
      ∙ ap (λ l. us ++ l) no_units ∙ append-nil us

  parts_are : parts_with (Some pool) file ≡ parts_behind h pool keys us tail
  unfolding parts_with
  parts_are =
      (λ i. record {
        body = body_is i;
        keys = cond (pool_is_used i && has_keys i) [] (own_are i);
        block = block_is i;
        lent = Some (cond (pool_is_used i) (record {
          keys = pool.keys;
          block = pool.block;
          limit = limit_is i;
          short_limit = short_limit_is i;
        }) no_pool);
      })

pub head_with_pool_is_read : HeadWithPoolIsRead
head_with_pool_is_read h pool keys us tail is known a b c fit = (
  passes h pool keys us tail is known a b c fit,
  root_is h pool keys us tail is known a b c fit,
  parts_are h pool keys us tail is known a b c fit,
)
