-- A pool bundle that was made passes each check of its head, and lends just its keys and units.
use Rattle.std.proofs.Common.{◌≡◌, ℕ, ◌+◌, ◌-◌, ◌*◌, ◌/◌, ◌%◌, ◌^◌, ◌&&◌, ◌||◌, ◌==◌, not}
use Rattle.std.proofs.Common.{List, ◌++◌, length, get_or, take, drop, Bool, true, false, cond}
use Rattle.std.proofs.Common.{Some, None, nat_le, nat_lt, refl, sym, ◌∙◌, ap, append_assoc}
use Rattle.std.proofs.Common.{length-append, arith, min, codes}
use Rattle.std.specs.Prelude.{is_some, unwrap_or}
use Rattle.std.proofs.lemmas.Bool.{le-leb}
use Rattle.std.proofs.lemmas.List.{take_at, drop_at, take_all}
use Rattle.resb_format.specs.Bytes.{units_of, words_of, units_as_bytes, header_size}
use Rattle.resb_format.specs.Error.{Refusal, invalid, first_refusal}
use Rattle.resb_format.proofs.WordsBack.{written_length}
use Rattle.resb_head.specs.File.{body_of, field_count, keys_end, attributes, block_end}
use Rattle.resb_head.specs.HeadChecks.{header_checks, info_checks}
use Rattle.resb_layout.specs.Laid.{words}
use Rattle.resb_layout.specs.WrittenHead.{header_of}
use Rattle.resb_layout.proofs.BytesLemmas.{EachBelow, words_read, halves_len}
use Rattle.resb_pool_bundle.specs.Checks.{version_checks, size_checks, lending_checks, head_checks}
use Rattle.resb_pool_bundle.specs.Checks.{pool_checks, pool_refusal}
use Rattle.resb_pool_bundle.specs.Fields.{major, minor, index_length, attributes_in, is_pool}
use Rattle.resb_pool_bundle.specs.Fields.{uses_pool, checksum_in, block_end_in, limit_in}
use Rattle.resb_pool_bundle.specs.Fields.{short_limit_in}
use Rattle.resb_pool_bundle.proofs.PassingFiles.{pool_is as pool_is_one}
use Rattle.resb_pool_bundle.specs.FileWith.{IsPoolFile}
use Rattle.resb_pool_bundle.specs.Pool.{pool_of, block_bytes}
use Rattle.resb_pool_bundle.proofs.Steps.{later_refusal}
use Rattle.resb_pool_maker.specs.PoolFile.{head_words, file_of_blocks, blocks_checksum}
use Rattle.resb_pool_maker.proofs.Blocks.{units_back}

-- the number of a version with strings, or of one without
abbrev number : Bool → ℕ
number strings = cond strings 3 2

-- a check that holds, before others that do
first : (b : Bool) (r : Refusal) → b ≡ true → cond b None (Some r) ≡ None
first true r e = refl
first false r e = cc

sizes_pass : (bs : List ℕ) → nat_le 8 (length (body_of bs)) ≡ true
    → nat_le 5 (index_length bs) ≡ true
    → nat_le (4 * (1 + min (index_length bs) 8)) (length (body_of bs)) ≡ true
    → nat_le (4 * keys_end bs) (length (body_of bs)) ≡ true
    → (nat_lt (major bs) 2 || nat_le 7 (index_length bs)) ≡ true
    → (nat_le (keys_end bs) (block_end_in bs)
    && nat_le (4 * block_end_in bs) (length (body_of bs))) ≡ true
    → first_refusal (size_checks bs) ≡ None
unfolding size_checks
sizes_pass bs a b c d e f = rw (a, b, c, d, e, f) refl

lending_pass : (bs : List ℕ)
    → (not (is_pool bs || uses_pool bs) || is_some (checksum_in bs)) ≡ true
    → (uses_pool bs || (limit_in bs == 0 && short_limit_in bs == 0)) ≡ true
    → first_refusal (lending_checks bs) ≡ None
unfolding lending_checks
lending_pass bs a b = rw (a, b) refl

pool_pass : (bs : List ℕ) → first_refusal (head_checks bs) ≡ None → is_pool bs ≡ true
    → nat_le (1 + index_length bs) (keys_end bs) ≡ true → IsPoolFile bs
unfolding pool_refusal pool_checks
pool_pass bs h a b = pool_is_one bs (later_refusal (head_checks bs) _ h ∙ rw (a, b) refl)

or_true : (a b : Bool) → b ≡ true → (a || b) ≡ true
or_true true b e = refl
or_true false b e = e

both_true : (a b : Bool) → a ≡ true → b ≡ true → (a && b) ≡ true
both_true true b e h = h
both_true false b e h = cc

size_of_header : (s : Bool) (rest : List ℕ) → header_size (header_of (number s) ++ rest) ≡ 32
unfolding units_of
size_of_header true rest = refl
size_of_header false rest = refl

body_behind : (s : Bool) (rest : List ℕ) → body_of (header_of (number s) ++ rest) ≡ rest
body_behind s rest = ap (λ n. drop n (header_of (number s) ++ rest)) (size_of_header s rest)
    ∙ drop_at (header_of (number s)) rest 32 refl

-- the checks of the header and of what is supported
header_holds : (s : Bool) (rest : List ℕ)
    → first_refusal (header_checks false (header_of (number s) ++ rest)) ≡ None
unfolding header_checks info_checks units_of
header_holds true rest =
    first (nat_le 24 (length (header_of 3 ++ rest)))
    (invalid (codes "input is too short to contain file header"))
    (le-leb 24 (length (header_of 3 ++ rest)) (omega (arith, length-append (header_of 3) rest)))
header_holds false rest =
    first (nat_le 24 (length (header_of 2 ++ rest)))
    (invalid (codes "input is too short to contain file header"))
    (le-leb 24 (length (header_of 2 ++ rest)) (omega (arith, length-append (header_of 2) rest)))

version_holds : (s : Bool) (rest : List ℕ)
    → first_refusal (version_checks (drop 4 (header_of (number s) ++ rest))) ≡ None
unfolding version_checks
version_holds true rest = refl
version_holds false rest = refl

major_is : (s : Bool) (rest : List ℕ) → major (header_of (number s) ++ rest) ≡ number s
major_is true rest = refl
major_is false rest = refl

-- blocks in whole words, of numbers that fit
pub record Whole : Type 0 where
  pub strings : Bool
  pub keys : List ℕ
  pub us : List ℕ
  pub keys_whole : length keys % 4 ≡ 0
  pub units_whole : length us % 2 ≡ 0
  pub units_fit : EachBelow (2 ^ 16) us
  pub words_fit : EachBelow (2 ^ 32) (head_words keys us)

module _ (x : Whole) where
  abbrev head : List ℕ
  head = words (head_words x.keys x.us)

  abbrev behind : List ℕ
  behind = x.keys ++ units_as_bytes x.us

  abbrev body : List ℕ
  body = head ++ behind

  abbrev pub file : List ℕ
  file = file_of_blocks (number x.strings) x.keys x.us

  abbrev key_words : ℕ
  key_words = length x.keys / 4

  abbrev block_words : ℕ
  block_words = length x.us / 2

  body_is : body_of file ≡ body
  body_is = body_behind x.strings body

  word_is : (i : ℕ) → get_or (words_of (body_of file)) i 0
      ≡ get_or (head_words x.keys x.us ++ words_of behind) i 0
  word_is i = ap (λ ws. get_or ws i 0) (ap words_of body_is
      ∙ words_read (head_words x.keys x.us) behind x.words_fit)

  fields_are : field_count file ≡ 8
  fields_are = word_is 1

  keys_end_is : keys_end file ≡ 9 + key_words
  keys_end_is = word_is 2

  attributes_are : attributes file ≡ 3
  attributes_are = word_is 6

  block_end_is : block_end file ≡ 9 + key_words + block_words
  block_end_is = word_is 7

  checksum_is : get_or (words_of (body_of file)) 8 0 ≡ blocks_checksum x.keys x.us
  checksum_is = word_is 8

  length_is : index_length file ≡ 8
  length_is = ap (λ n. n % 2 ^ 8) fields_are

  major_of : major file ≡ number x.strings
  major_of = major_is x.strings body

  key_length : length x.keys ≡ 4 * key_words
  key_length = omega (arith, x.keys_whole)

  unit_length : length x.us ≡ 2 * block_words
  unit_length = omega (arith, x.units_whole)

  head_length : length head ≡ 36
  head_length = written_length (head_words x.keys x.us)

  body_length : length (body_of file) ≡ 4 * (9 + key_words + block_words)
  body_length =
      ap length body_is
      ∙ omega (
        arith,
        key_length,
        unit_length,
        length-append head behind,
        length-append x.keys (units_as_bytes x.us),
        head_length,
        halves_len x.us,
      )

  two_or_more : (s : Bool) → nat_le 2 (number s) ≡ true
  two_or_more true = refl
  two_or_more false = refl

  is_new : nat_le 2 (major file) ≡ true
  is_new = ap (nat_le 2) major_of ∙ two_or_more x.strings

  any_version : (nat_le 2 (major file) || nat_le 2 (minor file)) ≡ true
  any_version = ap (λ b. b || nat_le 2 (minor file)) is_new

  attributes_there : attributes_in file ≡ 3
  attributes_there =
      ap (λ b. cond b (attributes file) 0)
      (λ i. nat_le 6 (length_is i) && any_version i) ∙ attributes_are

  ends_there : block_end_in file ≡ 9 + key_words + block_words
  ends_there = ap (λ b. cond b (block_end file) (keys_end file)) is_new ∙ block_end_is

  checksum_there : checksum_in file ≡ Some (blocks_checksum x.keys x.us)
  checksum_there =
      ap (λ n. cond (nat_le 8 n) (Some (get_or (words_of (body_of file)) 8 0)) None) length_is
      ∙ ap Some checksum_is

  pool_is : is_pool file ≡ true
  pool_is = ap (λ n. n / 2 % 2 == 1) attributes_there

  uses_none : uses_pool file ≡ false
  uses_none = ap (λ n. n / 4 % 2 == 1) attributes_there

  no_limit : (n : ℕ) (s : Bool) → n ≡ number s
      → cond (nat_le 3 n) (8 / 2 ^ 8 + 2 ^ 24 * (3 / 2 ^ 12 % 2 ^ 4)) 0 ≡ 0
  no_limit n true e = ap (λ m. cond (nat_le 3 m) 0 0) e
  no_limit n false e = ap (λ m. cond (nat_le 3 m) 0 0) e

  limit_is : limit_in file ≡ 0
  limit_is =
      (λ i. cond (nat_le 3 (major file))
      (fields_are i / 2 ^ 8 + 2 ^ 24 * (attributes_there i / 2 ^ 12 % 2 ^ 4)) 0)
      ∙ no_limit (major file) x.strings major_of

  short_limit_is : short_limit_in file ≡ 0
  short_limit_is =
      ap (λ n. cond (nat_le 3 (major file)) (n / 2 ^ 16) 0) attributes_there
      ∙ no_limit (major file) x.strings major_of

  sizes_hold : first_refusal (size_checks file) ≡ None
  sizes_hold =
      let size : ℕ = length (body_of file) in
      sizes_pass file (le-leb 8 size (omega (arith, body_length)))
      (le-leb 5 (index_length file) (omega (arith, length_is)))
      (le-leb (4 * (1 + min (index_length file) 8)) size (omega (arith, body_length, length_is)))
      (le-leb (4 * keys_end file) size (omega (arith, body_length, keys_end_is)))
      (or_true (nat_lt (major file) 2) (nat_le 7 (index_length file))
      (le-leb 7 (index_length file) (omega (arith, length_is))))
      (both_true (nat_le (keys_end file) (block_end_in file))
      (nat_le (4 * block_end_in file) size)
      (le-leb (keys_end file) (block_end_in file) (omega (arith, keys_end_is, ends_there)))
      (le-leb (4 * block_end_in file) size (omega (arith, ends_there, body_length))))

  lending_holds : first_refusal (lending_checks file) ≡ None
  lending_holds =
      lending_pass file
      (or_true (not (is_pool file || uses_pool file)) (is_some (checksum_in file))
      (ap (λ o. is_some o) checksum_there))
      (or_true (uses_pool file) (limit_in file == 0 && short_limit_in file == 0)
      (λ i. limit_is i == 0 && short_limit_is i == 0))

  head_holds : first_refusal (head_checks file) ≡ None
  unfolding head_checks
  head_holds =
      later_refusal (header_checks false file) _ (header_holds x.strings body)
      ∙ later_refusal (version_checks (drop 4 file)) _ (version_holds x.strings body)
      ∙ later_refusal (size_checks file) _ sizes_hold
      ∙ lending_holds

  pub passes : IsPoolFile file
  passes = pool_pass file head_holds pool_is
      (le-leb (1 + index_length file) (keys_end file) (omega (arith, length_is, keys_end_is)))

  front_length : length (head ++ x.keys) ≡ 4 * (9 + key_words)
  front_length = omega (arith, key_length, length-append head x.keys, head_length)

  body_split : body ≡ (head ++ x.keys) ++ units_as_bytes x.us
  body_split = sym (append_assoc head x.keys (units_as_bytes x.us))

  keys_are : drop (4 * (1 + index_length file)) (take (4 * keys_end file) (body_of file))
      ≡ x.keys
  keys_are =
      (λ i. drop (4 * (1 + length_is i)) (take (4 * keys_end_is i) ((body_is ∙ body_split) i)))
      ∙ ap (drop 36) (take_at (head ++ x.keys) (units_as_bytes x.us) (4 * (9 + key_words))
      front_length)
      ∙ drop_at head x.keys 36 head_length

  rest_is : drop (4 * keys_end file) (body_of file) ≡ units_as_bytes x.us
  rest_is =
      (λ i. drop (4 * keys_end_is i) ((body_is ∙ body_split) i))
      ∙ drop_at (head ++ x.keys) (units_as_bytes x.us) (4 * (9 + key_words)) front_length

  block_is : units_of (block_bytes file) ≡ x.us
  block_is =
      (λ i. units_of (take (4 * (ends_there i - keys_end_is i)) (rest_is i)))
      ∙ ap units_of (take_all (4 * (9 + key_words + block_words - (9 + key_words)))
      (units_as_bytes x.us) (omega (arith, halves_len x.us, unit_length)))
      ∙ units_back x.us x.units_fit

  pub lends : pool_of file ≡ record {
    keys = x.keys;
    block = x.us;
    checksum = blocks_checksum x.keys x.us;
  }
  unfolding pool_of
  lends = λ i. record {
    keys = keys_are i;
    block = block_is i;
    checksum = unwrap_or (checksum_there i) 0;
  }
