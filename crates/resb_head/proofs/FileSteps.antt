-- Which check of a whole file is the first that fails, and what holds where none does.
use Rattle.std.proofs.Common.{ℕ, List, [], ◌∷◌, ◌++◌, ◌≡◌, ◌+◌, ◌-◌, ◌*◌, ◌≤◌, ◌<◌, ◌⊎◌}
use Rattle.std.proofs.Common.{length, drop, min, Bool, true, false}
use Rattle.std.proofs.Common.{nat_eq, Some, None, refl, sym, ap, subst, ◌∙◌, arith, get_or}
use Rattle.std.proofs.Common.{codes, slice_range, length-drop}
use Rattle.std.proofs.lemmas.List.{get_or-drop}
use Rattle.std.proofs.lemmas.Slice.Eq.{bytes_eq-Decides}
use Rattle.resb_format.specs.Bytes.{words_of, unit_in, header_size}
use Rattle.resb_format.specs.Error.{IsInvalid, IsEndOfInput, Refusal, refusal_of, first_refusal}
use Rattle.resb_head.specs.File.{IsBundleFile, body_of}
use Rattle.resb_format.specs.declared.error.ReadingError.{ReadingError}
use Rattle.resb_head.specs.Laws.{IsHeader, BundleFilePasses}
use Rattle.resb_head.specs.HeadChecks.{header_checks, header_refusal, index_checks}
use Rattle.resb_head.specs.HeadChecks.{index_refusal, support_checks, block_checks, body_checks}
use Rattle.resb_head.specs.HeadChecks.{file_checks, file_refusal}
use Rattle.resb_head.proofs.HeaderSteps.{later_refusal, earlier_refusal}
use Rattle.resb_head.proofs.IndexSteps.{index_holds}
use Rattle.resb_head.proofs.SupportSteps.{support_holds}
use Rattle.resb_head.proofs.Passing.{all_pass, header_passes}
use Rattle.resb_head.proofs.Numbers.{two_tests_fail}
use Rattle.resb_head.proofs.Numbers.{two_tests_hold}
use Rattle.resb_head.proofs.Numbers.{two_tests_tell}
use Rattle.resb_head.proofs.Lists.{range_behind_four}
use Rattle.std.proofs.lemmas.Bool.{lt-leb, le-leb, leb-true, eqb-true}

-- where none of all fails, none of the first ones does
pub first_refusal-both : (cs bs : List (Bool × Refusal)) → first_refusal (cs ++ bs) ≡ None
    → (first_refusal cs ≡ None) × (first_refusal bs ≡ None)
first_refusal-both [] bs e = (refl, e)
first_refusal-both ((true, f) ∷ cs) bs e = first_refusal-both cs bs e
first_refusal-both ((false, f) ∷ cs) bs e = cc

-- the words of a body without its first
words_behind : (bs : List ℕ) → words_of (drop 4 bs) ≡ drop 1 (words_of bs)
unfolding words_of
words_behind [] = refl
words_behind (a ∷ []) = refl
words_behind (a ∷ b ∷ []) = refl
words_behind (a ∷ b ∷ c ∷ []) = refl
words_behind (a ∷ b ∷ c ∷ d ∷ bs) = refl

-- a word of the index is the next one of the body
pub field_behind : (body : List ℕ) (i : ℕ)
    → get_or (words_of (drop 4 body)) i 0 ≡ get_or (words_of body) (1 + i) 0
field_behind body i =
    ap (λ ws. get_or ws i 0) (words_behind body) ∙ get_or-drop 1 (words_of body) i 0

-- the checks of the blocks
pub keys_past : (body : List ℕ) (e : ReadingError) → length body < 4 * get_or (words_of body) 2 0
    → IsEndOfInput e
    → first_refusal (block_checks body) ≡ Some (refusal_of e)
unfolding block_checks
keys_past body e h r =
    rw (lt-leb (4 * get_or (words_of body) 2 0) (length body) h, r.kind_is, r.message_is) refl

pub end_missing : (body : List ℕ) (e : ReadingError) → 4 * get_or (words_of body) 2 0 ≤ length body
    → get_or (words_of body) 1 0 < 7
    → IsInvalid e (codes "offset to the end of 16-bit data not specified")
    → first_refusal (block_checks body) ≡ Some (refusal_of e)
unfolding block_checks
end_missing body e h k r =
    rw (
      le-leb (4 * get_or (words_of body) 2 0) (length body) h,
      lt-leb 7 (get_or (words_of body) 1 0) k,
      r.kind_is,
      r.message_is,
    ) refl

pub block_past : (body : List ℕ) (e : ReadingError) → 4 * get_or (words_of body) 2 0 ≤ length body
    → 7 ≤ get_or (words_of body) 1 0
    → (get_or (words_of body) 7 0 < get_or (words_of body) 2 0)
    ⊎ (length body < 4 * get_or (words_of body) 7 0)
    → IsEndOfInput e
    → first_refusal (block_checks body) ≡ Some (refusal_of e)
unfolding block_checks
block_past body e h k l r =
    rw (
      le-leb (4 * get_or (words_of body) 2 0) (length body) h,
      le-leb 7 (get_or (words_of body) 1 0) k,
      two_tests_fail (get_or (words_of body) 2 0) (get_or (words_of body) 7 0)
          (4 * get_or (words_of body) 7 0) (length body) l,
      r.kind_is,
      r.message_is,
    ) refl

pub blocks_hold : (body : List ℕ) → 4 * get_or (words_of body) 2 0 ≤ length body
    → 7 ≤ get_or (words_of body) 1 0
    → get_or (words_of body) 2 0 ≤ get_or (words_of body) 7 0
    → 4 * get_or (words_of body) 7 0 ≤ length body → first_refusal (block_checks body) ≡ None
unfolding block_checks
blocks_hold body h k l m =
    rw (
      le-leb (4 * get_or (words_of body) 2 0) (length body) h,
      le-leb 7 (get_or (words_of body) 1 0) k,
      two_tests_hold (get_or (words_of body) 2 0) (get_or (words_of body) 7 0)
          (4 * get_or (words_of body) 7 0) (length body) l m,
    ) refl

-- the checks of a body
pub root_missing : (body : List ℕ) (e : ReadingError) → length body < 4
    → IsEndOfInput e
    → first_refusal (body_checks body) ≡ Some (refusal_of e)
unfolding body_checks
root_missing body e h r = rw (lt-leb 4 (length body) h, r.kind_is, r.message_is) refl

pub index_answers : (body : List ℕ) (g : Refusal) → 4 ≤ length body
    → index_refusal (drop 4 body) ≡ Some g → first_refusal (body_checks body) ≡ Some g
unfolding body_checks index_refusal
index_answers body g h e =
    rw (le-leb 4 (length body) h)
    (earlier_refusal (index_checks (drop 4 body)) (block_checks body) g e)

pub blocks_answer : (body : List ℕ) → 4 ≤ length body → index_refusal (drop 4 body) ≡ None
    → first_refusal (body_checks body) ≡ first_refusal (block_checks body)
unfolding body_checks index_refusal
blocks_answer body h e =
    rw (le-leb 4 (length body) h)
    (later_refusal (index_checks (drop 4 body)) (block_checks body) e)

-- the checks of a file
pub header_answers : (bytes : List ℕ) (g : Refusal) → header_refusal false bytes ≡ Some g
    → file_refusal bytes ≡ Some g
unfolding file_refusal file_checks header_refusal
header_answers bytes g e =
    earlier_refusal (header_checks false bytes)
    (support_checks (drop 4 bytes) ++ body_checks (body_of bytes)) g e

pub support_answers : (bytes : List ℕ) (g : Refusal) → header_refusal false bytes ≡ None
    → first_refusal (support_checks (drop 4 bytes)) ≡ Some g → file_refusal bytes ≡ Some g
unfolding file_refusal file_checks header_refusal
support_answers bytes g h e =
    later_refusal (header_checks false bytes)
    (support_checks (drop 4 bytes) ++ body_checks (body_of bytes)) h
    ∙ earlier_refusal (support_checks (drop 4 bytes)) (body_checks (body_of bytes)) g e

pub body_answers : (bytes : List ℕ) → header_refusal false bytes ≡ None
    → first_refusal (support_checks (drop 4 bytes)) ≡ None
    → file_refusal bytes ≡ first_refusal (body_checks (body_of bytes))
unfolding file_refusal file_checks header_refusal
body_answers bytes h e =
    later_refusal (header_checks false bytes)
    (support_checks (drop 4 bytes) ++ body_checks (body_of bytes)) h
    ∙ later_refusal (support_checks (drop 4 bytes)) (body_checks (body_of bytes)) e

-- a header that is read stands in little-endian order
pub header_size_is : (bytes : List ℕ) → header_refusal false bytes ≡ None
    → unit_in (nat_eq (get_or bytes 8 0) 1) bytes 0 ≡ header_size bytes
header_size_is bytes e =
    let z : get_or bytes 8 0 ≡ 0 = ((header_passes false bytes).0 e).own_endianness refl in
    rw z refl

record IsBody (body : List ℕ) : Type 0 where
  fields : 7 ≤ get_or (words_of body) 1 0
  index_inside : 4 * (1 + min (get_or (words_of body) 1 0) 8) ≤ length body
  keys_inside : 4 * get_or (words_of body) 2 0 ≤ length body
  blocks_ordered : get_or (words_of body) 2 0 ≤ get_or (words_of body) 7 0
  block_inside : 4 * get_or (words_of body) 7 0 ≤ length body

a_body : (body : List ℕ) → first_refusal (body_checks body) ≡ None → IsBody body
unfolding body_checks index_checks block_checks
a_body body e =
    let p = all_pass (body_checks body) e in
    let c : get_or (words_of (drop 4 body)) 0 0 ≡ get_or (words_of body) 1 0 =
    field_behind body 0 in
    let l : length (drop 4 body) ≡ length body - 4 = length-drop 4 body in
    let inside = leb-true (4 * min (get_or (words_of (drop 4 body)) 0 0) 8)
    (length (drop 4 body))
    p.1.1.1.0 in
    let few = leb-true 5 (get_or (words_of (drop 4 body)) 0 0) p.1.1.0 in
    let ends = two_tests_tell (get_or (words_of body) 2 0) (get_or (words_of body) 7 0)
    (4 * get_or (words_of body) 7 0) (length body) p.1.1.1.1.1.1.0 in
    record {
      fields = leb-true 7 (get_or (words_of body) 1 0) p.1.1.1.1.1.0;
      index_inside = omega (arith, c, l, inside, few);
      keys_inside = leb-true (4 * get_or (words_of body) 2 0) (length body) p.1.1.1.1.0;
      blocks_ordered = ends.0;
      block_inside = ends.1;
    }

body_holds : (body : List ℕ) → IsBody body → first_refusal (body_checks body) ≡ None
body_holds body b =
    let c : get_or (words_of body) 1 0 ≡ get_or (words_of (drop 4 body)) 0 0 =
    sym (field_behind body 0) in
    let l : length (drop 4 body) ≡ length body - 4 = length-drop 4 body in
    let f : 7 ≤ get_or (words_of body) 1 0 = b.fields in
    let i : 4 * (1 + min (get_or (words_of body) 1 0) 8) ≤ length body = b.index_inside in
    blocks_answer body (omega arith)
    (index_holds (drop 4 body) (get_or (words_of body) 1 0) c (omega arith) (omega arith)
    (omega arith))
    ∙ blocks_hold body b.keys_inside b.fields b.blocks_ordered b.block_inside

passes_is : (bytes : List ℕ) → file_refusal bytes ≡ None → IsBundleFile bytes
unfolding file_refusal file_checks support_checks header_refusal
passes_is bytes e =
    let parts = first_refusal-both (header_checks false bytes)
    (support_checks (drop 4 bytes) ++ body_checks (body_of bytes)) e in
    let later = first_refusal-both (support_checks (drop 4 bytes)) (body_checks (body_of bytes))
    parts.1 in
    let h : IsHeader false bytes = (header_passes false bytes).0 parts.0 in
    let p = all_pass (support_checks (drop 4 bytes)) later.0 in
    let b = a_body (body_of bytes) later.1 in
    let f5 : get_or (drop 4 bytes) 5 0 ≡ get_or bytes 9 0 = get_or-drop 4 bytes 5 0 in
    let f6 : get_or (drop 4 bytes) 6 0 ≡ get_or bytes 10 0 = get_or-drop 4 bytes 6 0 in
    let l : length (body_of bytes) ≡ length bytes - header_size bytes =
    length-drop (header_size bytes) bytes in
    let s : 24 ≤ header_size bytes = subst (λ n. 24 ≤ n) (header_size_is bytes parts.0) h.size in
    record {
      magic = h.magic;
      little_endian = h.own_endianness refl;
      ascii = sym f5 ∙ eqb-true (get_or (drop 4 bytes) 5 0) 0 p.0;
      two_byte_chars = sym f6 ∙ eqb-true (get_or (drop 4 bytes) 6 0) 2 p.1.0;
      format = h.format;
      version =
          sym (range_behind_four bytes 12 16)
          ∙ (bytes_eq-Decides (slice_range (drop 4 bytes) 12 16) (2 ∷ 0 ∷ 0 ∷ 0 ∷ [])).0 p.1.1.0;
      header = s;
      header_inside = omega (arith, l, b.index_inside);
      fields = b.fields;
      index_inside = b.index_inside;
      keys_inside = b.keys_inside;
      blocks_ordered = b.blocks_ordered;
      block_inside = b.block_inside;
    }

is_passes : (bytes : List ℕ) → IsBundleFile bytes → file_refusal bytes ≡ None
is_passes bytes f =
    let z : get_or bytes 8 0 ≡ 0 = f.little_endian in
    let s : unit_in (nat_eq (get_or bytes 8 0) 1) bytes 0 ≡ header_size bytes = rw z refl in
    let h : IsHeader false bytes = record {
      long = omega (arith, f.header, f.header_inside);
      magic = f.magic;
      known_endianness = omega arith;
      own_endianness = λ _. z;
      known_charset = omega (arith, f.ascii);
      format = f.format;
      version = rw f.version refl;
      size = omega (arith, s, f.header);
    } in
    let f5 : get_or (drop 4 bytes) 5 0 ≡ get_or bytes 9 0 = get_or-drop 4 bytes 5 0 in
    let f6 : get_or (drop 4 bytes) 6 0 ≡ get_or bytes 10 0 = get_or-drop 4 bytes 6 0 in
    body_answers bytes ((header_passes false bytes).1 h)
    (support_holds (drop 4 bytes) (f5 ∙ f.ascii) (f6 ∙ f.two_byte_chars)
    (range_behind_four bytes 12 16 ∙ f.version))
    ∙ body_holds (body_of bytes) (record {
      fields = f.fields;
      index_inside = f.index_inside;
      keys_inside = f.keys_inside;
      blocks_ordered = f.blocks_ordered;
      block_inside = f.block_inside;
    })

-- a bundle file passes each check of the head
pub bundle_file_passes : BundleFilePasses
bundle_file_passes bytes = (passes_is bytes, is_passes bytes)
