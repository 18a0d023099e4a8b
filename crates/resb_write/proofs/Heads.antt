-- The parts of a file that is put together from its header, its words, its blocks and its tail.
use Rattle.std.proofs.Common.{None, ◌≡◌, ℕ, ◌+◌, ◌-◌, ◌*◌, ◌/◌, ◌%◌, ◌^◌, List, [], ◌∷◌, ◌++◌}
use Rattle.std.proofs.Common.{length}
use Rattle.std.proofs.Common.{get_or, take, drop, Bool, cond, refl, sym, ◌∙◌, ap, append_assoc}
use Rattle.std.proofs.Common.{append-nil, length-append, arith}
use Rattle.std.proofs.lemmas.List.{take_at, drop_at}
use Rattle.resb_format.specs.Bytes.{units_of, words_of}
use Rattle.resb_format.specs.Parts.{Parts}
use Rattle.resb_head.specs.File.{body_of, root_word, field_count, keys_end}
use Rattle.resb_head.specs.File.{body_word, attributes, block_end, parts_of, IsBundleFile}
use Rattle.resb_layout.specs.Laid.{words}
use Rattle.resb_format.specs.Bytes.{units_as_bytes, header_size}
use Rattle.resb_layout.proofs.BytesLemmas.{EachBelow, words_read, halves_read, halves_len}
use Rattle.resb_format.proofs.WordsBack.{written_length}
use Rattle.resb_layout.specs.WrittenHead.{written_header}
use Rattle.resb_write.specs.Inner.Files.{fields_of, file_of}

no_units : units_of [] ≡ []
unfolding units_of
no_units = refl

header_of : (rest : List ℕ) → header_size (written_header ++ rest) ≡ 32
unfolding units_of
header_of rest = refl

pub body_behind : (rest : List ℕ) → body_of (written_header ++ rest) ≡ rest
body_behind rest = ap (λ n. drop n (written_header ++ rest)) (header_of rest)
    ∙ drop_at written_header rest 32 refl

pub record Whole : Type 0 where
  pub root : ℕ
  pub largest : ℕ
  pub fallback : Bool
  pub keys : List ℕ
  pub us : List ℕ
  pub tail : List ℕ
  pub keys_whole : length keys % 4 ≡ 0
  pub units_whole : length us % 2 ≡ 0
  pub tail_whole : length tail % 4 ≡ 0
  pub units_fit : EachBelow (2 ^ 16) us
  pub words_fit : EachBelow (2 ^ 32) (root ∷ fields_of largest fallback keys us tail)

module _ (x : Whole) where
  abbrev pub head_words : List ℕ
  head_words = x.root ∷ fields_of x.largest x.fallback x.keys x.us x.tail

  abbrev pub head : List ℕ
  head = words head_words

  abbrev pub body : List ℕ
  body = head ++ (x.keys ++ (units_as_bytes x.us ++ x.tail))

  abbrev pub file : List ℕ
  file = file_of x.root x.largest x.fallback x.keys x.us x.tail

  abbrev pub key_words : ℕ
  key_words = length x.keys / 4

  abbrev pub block_words : ℕ
  block_words = length x.us / 2

  abbrev pub tail_words : ℕ
  tail_words = length x.tail / 4

  pub body_is : body_of file ≡ body
  body_is = body_behind body

  words_are : words_of (body_of file)
      ≡ head_words ++ words_of (x.keys ++ (units_as_bytes x.us ++ x.tail))
  words_are = ap words_of body_is
      ∙ words_read head_words (x.keys ++ (units_as_bytes x.us ++ x.tail))
      x.words_fit

  word_is : (i : ℕ) → get_or (words_of (body_of file)) i 0 ≡ get_or
      (head_words ++ words_of (x.keys ++ (units_as_bytes x.us ++ x.tail))) i 0
  word_is i = ap (λ ws. get_or ws i 0) words_are

  pub root_is : root_word file ≡ x.root
  root_is = word_is 0

  pub fields_are : field_count file ≡ 7
  fields_are = word_is 1

  pub keys_end_is : keys_end file ≡ 8 + key_words
  keys_end_is = word_is 2

  pub resources_end_is : body_word file 3 ≡ 8 + key_words + block_words + tail_words
  resources_end_is = word_is 3

  pub bundle_end_is : body_word file 4 ≡ 8 + key_words + block_words + tail_words
  bundle_end_is = word_is 4

  pub largest_is : body_word file 5 ≡ x.largest
  largest_is = word_is 5

  pub flag_is : attributes file ≡ cond x.fallback 0 1
  flag_is = word_is 6

  pub block_end_is : block_end file ≡ 8 + key_words + block_words
  block_end_is = word_is 7

  key_length : length x.keys ≡ 4 * key_words
  key_length = omega (arith, x.keys_whole)

  unit_length : length x.us ≡ 2 * block_words
  unit_length = omega (arith, x.units_whole)

  tail_length : length x.tail ≡ 4 * tail_words
  tail_length = omega (arith, x.tail_whole)

  pub head_length : length head ≡ 32
  head_length = written_length head_words

  pub body_length : length (body_of file) ≡ 4 * (8 + key_words + block_words + tail_words)
  body_length =
      ap length body_is
      ∙ omega (
        arith,
        key_length,
        unit_length,
        tail_length,
        length-append head (x.keys ++ (units_as_bytes x.us ++ x.tail)),
        length-append x.keys (units_as_bytes x.us ++ x.tail),
        length-append (units_as_bytes x.us) x.tail,
        head_length,
        halves_len x.us,
      )

  pub file_length : length file ≡ 32 + 4 * (8 + key_words + block_words + tail_words)
  file_length = omega (arith, length-append written_header body, ap length body_is, body_length)

  front_length : length (head ++ x.keys) ≡ 4 * (8 + key_words)
  front_length = omega (arith, key_length, length-append head x.keys, head_length)

  body_split : body ≡ (head ++ x.keys) ++ (units_as_bytes x.us ++ x.tail)
  body_split = sym (append_assoc head x.keys (units_as_bytes x.us ++ x.tail))

  pub keys_are : take (4 * keys_end file) (body_of file) ≡ head ++ x.keys
  keys_are = (λ i. take (4 * keys_end_is i) ((body_is ∙ body_split) i))
      ∙ take_at (head ++ x.keys) (units_as_bytes x.us ++ x.tail) (4 * (8 + key_words)) front_length

  pub behind_head : drop 32 (body_of file) ≡ x.keys ++ (units_as_bytes x.us ++ x.tail)
  behind_head = ap (drop 32) body_is
      ∙ drop_at head (x.keys ++ (units_as_bytes x.us ++ x.tail)) 32 head_length

  rest_is : drop (4 * keys_end file) (body_of file) ≡ units_as_bytes x.us ++ x.tail
  rest_is = (λ i. drop (4 * keys_end_is i) ((body_is ∙ body_split) i))
      ∙ drop_at (head ++ x.keys) (units_as_bytes x.us ++ x.tail) (4 * (8 + key_words)) front_length

  halves_long : length (units_as_bytes x.us) ≡ 4 * (8 + key_words + block_words - (8 + key_words))
  halves_long = omega (arith, halves_len x.us, unit_length)

  block_is : units_of (take (4 * (block_end file - keys_end file))
      (drop (4 * keys_end file) (body_of file))) ≡ x.us
  block_is =
      (λ i. units_of (take (4 * (block_end_is i - keys_end_is i)) (rest_is i)))
      ∙ ap units_of (take_at (units_as_bytes x.us) x.tail
      (4 * (8 + key_words + block_words - (8 + key_words))) halves_long)
      ∙ ap units_of (sym (append-nil (units_as_bytes x.us)))
      ∙ halves_read x.us [] x.units_fit
      ∙ ap (λ l. x.us ++ l) no_units ∙ append-nil x.us

  -- the parts of the file
  abbrev pub parts : Parts
  parts = record { body = body; keys = head ++ x.keys; block = x.us; lent = None }

  pub parts_are : parts_of file ≡ parts
  unfolding parts_of
  parts_are = λ i. record { body = body_is i; keys = keys_are i; block = block_is i; lent = None }

  pub is_bundle_file : IsBundleFile file
  is_bundle_file = record {
    magic = refl;
    little_endian = refl;
    ascii = refl;
    two_byte_chars = refl;
    format = refl;
    version = refl;
    header = omega (arith, header_of body);
    header_inside = omega (arith, header_of body, file_length);
    fields = omega (arith, fields_are);
    index_inside = omega (arith, fields_are, body_length);
    keys_inside = omega (arith, keys_end_is, body_length);
    blocks_ordered = omega (arith, keys_end_is, block_end_is);
    block_inside = omega (arith, block_end_is, body_length);
  }
