-- A header is read back from the bytes that it is written as.
use Rattle.std.proofs.Common.{ℕ, zero, suc, List, [], ◌∷◌, ◌++◌, ◌≡◌, ◌^◌, ◌<◌}
use Rattle.std.proofs.Common.{◌≤◌, length, take, drop, false, nat_eq, Result, Ok, Err, refl, sym}
use Rattle.std.proofs.Common.{ap, subst, ◌∙◌, arith, get_or, codes, length-drop, length-take}
use Rattle.std.specs.Int.{to_le_bytes, w16}
use Rattle.std.proofs.lemmas.List.{get_or-drop}
use Rattle.resb_format.specs.Bytes.{units_of, unit_in}
use Rattle.resb_format.specs.Laws.{EachFits}
use Rattle.resb_format.specs.declared.error.ReadingError.{ReadingError}
use Rattle.resb_format.proofs.WordsBack.{fits_drop}
use Rattle.resb_head.specs.Codes.{endianness_number, charset_number, version_bytes}
use Rattle.resb_head.specs.Laws.{IsHeader, HeaderSurvives}
use Rattle.resb_head.specs.Head.{HeaderAt, header_bytes}
use Rattle.resb_head.specs.HeadReading.{ReadsHeader}
use Rattle.resb_head.specs.declared.head.BinHeader.{BinHeader}
use Rattle.resb_head.specs.declared.version.FormatVersion.{FormatVersion}
use Rattle.resb_head.specs.declared.version.FormatVersion.TheVariants.{V1_0, V1_1, V1_2, V1_3}
use Rattle.resb_head.specs.declared.version.FormatVersion.TheVariants.{V2_0, V3_0}
use Rattle.resb_head.proofs.Apart.{endianness_apart, charset_apart, version_apart}
use Rattle.resb_head.proofs.HeadSteps.{a_version, charset_small}
use Rattle.resb_head.proofs.Passing.{header_passes}
use Rattle.resb_head.proofs.Lists.{four_elements}
use Rattle.resb_head.proofs.Lists.{range_behind_four}
use Rattle.resb_format.proofs.Numbers.{two_bytes}

-- a unit of bytes has 16 bits
unit_fits : (bs : List ℕ) (i : ℕ) → EachFits 8 bs → get_or (units_of bs) i 0 < 2 ^ 16
unfolding units_of
unit_fits [] i h = omega arith
unit_fits (a ∷ []) i h = omega arith
unit_fits (a ∷ b ∷ bs) zero h = let f = h.0 in let g = h.1.0 in omega arith
unit_fits (a ∷ b ∷ bs) (suc i) h = unit_fits bs i h.1.1

version_length : (v : FormatVersion) → length (version_bytes v) ≡ 4
version_length V1_0 = refl
version_length V1_1 = refl
version_length V1_2 = refl
version_length V1_3 = refl
version_length V2_0 = refl
version_length V3_0 = refl

-- what is known of a header that was read
record Known (h : BinHeader) : Type 0 where
  size_fits : h.size < 2 ^ 16
  size_enough : 24 ≤ h.size
  info_fits : h.repr_info.size < 2 ^ 16
  word_fits : h.repr_info.reserved_word < 2 ^ 16
  little : endianness_number h.repr_info.endianness ≡ 0
  format : h.repr_info.data_format ≡ codes "ResB"
  dates : length h.repr_info.data_version ≡ 4

known : (bs : List ℕ) (h : BinHeader) → EachFits 8 bs → IsHeader false bs → HeaderAt h bs → Known h
known bs h fits p a =
    let z : get_or bs 8 0 ≡ 0 = p.own_endianness refl in
    let y : get_or (drop 4 bs) 4 0 ≡ 0 = get_or-drop 4 bs 4 0 ∙ z in
    let s : h.size ≡ get_or (units_of bs) 0 0 = a.size ∙ ap (λ n. unit_in (nat_eq n 1) bs 0) z in
    let i : h.repr_info.size ≡ get_or (units_of (drop 4 bs)) 0 0 =
    a.info.size ∙ ap (λ n. unit_in (nat_eq n 1) (drop 4 bs) 0) y in
    let w : h.repr_info.reserved_word ≡ get_or (units_of (drop 4 bs)) 1 0 =
    a.info.reserved_word ∙ ap (λ n. unit_in (nat_eq n 1) (drop 4 bs) 1) y in
    let l : length (take 4 (drop 20 bs)) ≡ 4 =
    length-take 4 (drop 20 bs) ∙ omega (arith, length-drop 20 bs, p.long) in
    record {
      size_fits = subst (λ n. n < 2 ^ 16) (sym s) (unit_fits bs 0 fits);
      size_enough = subst (λ n. 24 ≤ n) (sym a.size) p.size;
      info_fits = subst (λ n. n < 2 ^ 16) (sym i) (unit_fits (drop 4 bs) 0 (fits_drop 8 bs 4 fits));
      word_fits = subst (λ n. n < 2 ^ 16) (sym w) (unit_fits (drop 4 bs) 1 (fits_drop 8 bs 4 fits));
      little = a.info.endianness ∙ y;
      format = a.info.data_format ∙ range_behind_four bs 8 12 ∙ p.format;
      dates = ap length (a.info.data_version ∙ range_behind_four bs 16 20) ∙ l;
    }

-- four bytes, written out
abbrev out : List ℕ → List ℕ
out xs = get_or xs 0 0 ∷ get_or xs 1 0 ∷ get_or xs 2 0 ∷ get_or xs 3 0 ∷ []

-- the bytes of a header one by one
abbrev laid : BinHeader → List ℕ
laid h =
    to_le_bytes w16 h.size ++ 0xda ∷ 0x27 ∷ []
    ++ (to_le_bytes w16 h.repr_info.size ++ to_le_bytes w16 h.repr_info.reserved_word
    ++ endianness_number h.repr_info.endianness ∷ charset_number h.repr_info.charset_family
    ∷ h.repr_info.size_of_char ∷ h.repr_info.reserved_byte ∷ []
    ++ codes "ResB" ++ out (version_bytes h.repr_info.format_version)
    ++ out h.repr_info.data_version)

header_laid : (h : BinHeader) → Known h → header_bytes h ≡ laid h
header_laid h k =
    let f = four_elements (version_bytes h.repr_info.format_version)
    (version_length h.repr_info.format_version) in
    let g = four_elements h.repr_info.data_version k.dates in
    let start : List ℕ → List ℕ → List ℕ
    → List ℕ =
    λ x y z. to_le_bytes w16 h.size ++ 0xda ∷ 0x27 ∷ []
    ++ (to_le_bytes w16 h.repr_info.size ++ to_le_bytes w16 h.repr_info.reserved_word
    ++ endianness_number h.repr_info.endianness ∷ charset_number h.repr_info.charset_family
    ∷ h.repr_info.size_of_char ∷ h.repr_info.reserved_byte ∷ [] ++ x ++ y ++ z) in
    ap (λ x. start x (version_bytes h.repr_info.format_version) h.repr_info.data_version) k.format
    ∙ ap (λ y. start (codes "ResB") y h.repr_info.data_version) f
    ∙ ap (λ z. start (codes "ResB") (out (version_bytes h.repr_info.format_version)) z) g

laid_passes : (h : BinHeader) → Known h → IsHeader false (laid h)
unfolding units_of
laid_passes h k = record {
  long = omega arith;
  magic = refl;
  known_endianness = omega (arith, k.little);
  own_endianness = λ _. k.little;
  known_charset = charset_small h.repr_info.charset_family;
  format = refl;
  version =
      a_version h.repr_info.format_version _
      (four_elements (version_bytes h.repr_info.format_version)
      (version_length h.repr_info.format_version));
  size = rw k.little (subst (λ n. 24 ≤ n) (sym (two_bytes h.size k.size_fits)) k.size_enough);
}

-- bytes give one header
same_header : (h j : BinHeader) → Known h → HeaderAt j (laid h) → j ≡ h
unfolding units_of
same_header h j k a =
    let s : j.size ≡ h.size = a.size ∙ ap (λ n. unit_in (nat_eq n 1) (laid h) 0) k.little
    ∙ two_bytes h.size k.size_fits in
    let i : j.repr_info.size ≡ h.repr_info.size =
    a.info.size ∙ ap (λ n. unit_in (nat_eq n 1) (drop 4 (laid h)) 0) k.little
    ∙ two_bytes h.repr_info.size k.info_fits in
    let w : j.repr_info.reserved_word ≡ h.repr_info.reserved_word =
    a.info.reserved_word ∙ ap (λ n. unit_in (nat_eq n 1) (drop 4 (laid h)) 1) k.little
    ∙ two_bytes h.repr_info.reserved_word k.word_fits in
    let e : j.repr_info.endianness ≡ h.repr_info.endianness =
    endianness_apart _ _ a.info.endianness in
    let c : j.repr_info.charset_family ≡ h.repr_info.charset_family =
    charset_apart _ _ a.info.charset_family in
    let f : j.repr_info.data_format ≡ h.repr_info.data_format = a.info.data_format ∙ sym k.format in
    let v : j.repr_info.format_version ≡ h.repr_info.format_version =
    version_apart _ _
    (a.info.format_version
    ∙ sym (four_elements (version_bytes h.repr_info.format_version)
    (version_length h.repr_info.format_version))) in
    let d : j.repr_info.data_version ≡ h.repr_info.data_version =
    a.info.data_version ∙ sym (four_elements h.repr_info.data_version k.dates) in
    λ t. record {
      size = s t;
      repr_info = record {
        size = i t;
        reserved_word = w t;
        endianness = e t;
        charset_family = c t;
        size_of_char = a.info.size_of_char t;
        reserved_byte = a.info.reserved_byte t;
        data_format = f t;
        format_version = v t;
        data_version = d t;
      };
    }

reads_same : (h : BinHeader) (r : Result BinHeader ReadingError) → Known h
    → ReadsHeader false (laid h) r → r ≡ Ok h
reads_same h (Ok j) k read = ap Ok (same_header h j k read.1)
reads_same h (Err e) k read =
    let both = sym ((header_passes false (laid h)).1 (laid_passes h k)) ∙ read in absurd cc

pub header_survives : HeaderSurvives
header_survives bs h r fits read back =
    let k : Known h = known bs h fits ((header_passes false bs).0 read.0) read.1 in
    reads_same h r k (subst (λ b. ReadsHeader false b r) (header_laid h k) back)
