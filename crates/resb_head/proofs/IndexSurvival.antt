-- An index is read back as it was written, and written back as it was read.
use Rattle.std.proofs.Common.{ℕ, List, [], ◌∷◌, ◌++◌, ◌≡◌, ◌*◌, ◌≤◌, length, take}
use Rattle.std.proofs.Common.{min, nat_le, Option, Some, None, Result, Ok, Err, refl}
use Rattle.std.proofs.Common.{sym, ap, ◌∙◌, arith, get_or, length-append}
use Rattle.std.proofs.Common.{if◌then◌else◌}
use Rattle.std.specs.Option.{is_some, option_to_list}
use Rattle.std.specs.List.{flat_map}
use Rattle.std.specs.Int.{to_le_bytes, w32}
use Rattle.std.proofs.lemmas.Bool.Decides.{nat_tests}
use Rattle.std.proofs.Props.{props}
use mathlib.Core.HLevel.{Σ_prop_path}
use Rattle.resb_format.specs.Bytes.{words_of}
use Rattle.resb_format.specs.Laws.{EachFits}
use Rattle.resb_format.specs.declared.error.ReadingError.{ReadingError}
use Rattle.resb_format.proofs.Spelled.{words_length}
use Rattle.resb_format.proofs.WordsBack.{words_back, written_length, bytes_back}
use Rattle.resb_head.specs.Laws.{IndexSurvives}
use Rattle.resb_head.specs.Head.{IndexAt, field, index_words, index_bytes}
use Rattle.resb_head.specs.HeadChecks.{index_refusal}
use Rattle.resb_head.specs.HeadReading.{ReadsIndex}
use Rattle.resb_head.specs.declared.index.BinIndex.{BinIndex}
use Rattle.resb_head.proofs.IndexSteps.{index_holds}
use Rattle.resb_head.proofs.Lists.{all_words}
use Rattle.resb_head.proofs.Lists.{one_count}

-- what was read is written as it stood
same_words : (bs : List ℕ) (i : BinIndex) → IndexAt i bs
    → index_words i ≡ take (min i.field_count 8) (words_of bs)
same_words bs i a =
    let l : min i.field_count 8 ≤ length (words_of bs) = omega (arith, a.inside, words_length bs) in
    rw (
      a.bundle_attributes,
      a.data_16_bit_end,
      a.pool_checksum,
      a.keys_end,
      a.resources_end,
      a.bundle_end,
      a.largest_table_entry_count,
    )
    (sym (all_words (words_of bs) i.field_count a.field_count i.enough l))

written_back : (bs : List ℕ) (i : BinIndex) → EachFits 8 bs → ReadsIndex bs (Ok i)
    → index_bytes i ≡ take (4 * min i.field_count 8) bs
written_back bs i fits h =
    ap (flat_map (to_le_bytes w32)) (same_words bs i h.1)
    ∙ bytes_back bs (min i.field_count 8) fits h.1.inside

words_count : (i : BinIndex) → length (index_words i) ≡ min i.field_count 8
words_count i =
    let front : List ℕ = i.field_count ∷ i.keys_end ∷ i.resources_end ∷ i.bundle_end
    ∷ i.largest_table_entry_count ∷ [] in
    let a = one_count i.bundle_attributes i.field_count 5 i.attributes_there in
    let b = one_count i.data_16_bit_end i.field_count 6 i.end_there in
    let c = one_count i.pool_checksum i.field_count 7 i.checksum_there in
    let f = length-append
    (front ++ option_to_list i.bundle_attributes ++ option_to_list i.data_16_bit_end)
    (option_to_list i.pool_checksum) in
    let g = length-append (front ++ option_to_list i.bundle_attributes)
    (option_to_list i.data_16_bit_end) in
    let h = length-append front (option_to_list i.bundle_attributes) in
    omega (arith, a, b, c, f, g, h, i.enough)

abbrev all_fields : (n k r b l : ℕ) → (o p q : Option ℕ) → List ℕ
all_fields n k r b l o p q =
    n ∷ k ∷ r ∷ b ∷ l ∷ [] ++ option_to_list o ++ option_to_list p ++ option_to_list q

-- the optional fields are read back
fields_back : (n k r b l : ℕ) (o p q : Option ℕ) → is_some o ≡ nat_le 6 n → is_some p ≡ nat_le 7 n
    → is_some q ≡ nat_le 8 n
    → (let ws = all_fields n k r b l o p q in
    ((if nat_le 6 n then Some (get_or ws 5 0) else None) ≡ o)
    × ((if nat_le 7 n then Some (get_or ws 6 0) else None) ≡ p)
    × ((if nat_le 8 n then Some (get_or ws 7 0) else None) ≡ q))
fields_back n k r b l None None None e f g = (rw (← e) refl, rw (← f) refl, rw (← g) refl)
fields_back n k r b l (Some x) None None e f g = (rw (← e) refl, rw (← f) refl, rw (← g) refl)
fields_back n k r b l (Some x) (Some y) None e f g = (rw (← e) refl, rw (← f) refl, rw (← g) refl)
fields_back n k r b l (Some x) (Some y) (Some z) e f g =
    (rw (← e) refl, rw (← f) refl, rw (← g) refl)
fields_back n k r b l None (Some y) None e f g = absurd (grind (arith, nat_tests))
fields_back n k r b l None (Some y) (Some z) e f g = absurd (grind (arith, nat_tests))
fields_back n k r b l None None (Some z) e f g = absurd (grind (arith, nat_tests))
fields_back n k r b l (Some x) None (Some z) e f g = absurd (grind (arith, nat_tests))

-- the fields tell an index
abbrev Values : Type 0
Values = ℕ × ℕ × ℕ × ℕ × ℕ × Option ℕ × Option ℕ × Option ℕ

abbrev Counted : Values → Type 0
Counted v =
    (5 ≤ v.0) × (is_some v.5 ≡ nat_le 6 v.0) × (is_some v.6 ≡ nat_le 7 v.0)
    × (is_some v.7 ≡ nat_le 8 v.0)

counted_prop : (v : Values) → IsProp (Counted v)
counted_prop v = hlevel props

abbrev values : BinIndex → Values
values i = (
  i.field_count,
  i.keys_end,
  i.resources_end,
  i.bundle_end,
  i.largest_table_entry_count,
  i.bundle_attributes,
  i.data_16_bit_end,
  i.pool_checksum,
)

index_apart : (i j : BinIndex) → values i ≡ values j → i ≡ j
index_apart i j e =
    let pairs : ◌≡◌ {A = (v : Values) × Counted v}
    (values i, (i.enough, i.attributes_there, i.end_there, i.checksum_there))
    (values j, (j.enough, j.attributes_there, j.end_there, j.checksum_there)) =
    Σ_prop_path counted_prop e in
    λ t. record {
      field_count = (pairs t).0.0;
      keys_end = (pairs t).0.1;
      resources_end = (pairs t).0.2;
      bundle_end = (pairs t).0.3;
      largest_table_entry_count = (pairs t).0.4;
      bundle_attributes = (pairs t).0.5;
      data_16_bit_end = (pairs t).0.6;
      pool_checksum = (pairs t).0.7;
      enough = (pairs t).1.0;
      attributes_there = (pairs t).1.1;
      end_there = (pairs t).1.2;
      checksum_there = (pairs t).1.3;
    }

read_back : (i : BinIndex) (r : Result BinIndex ReadingError) → EachFits 32 (index_words i)
    → ReadsIndex (index_bytes i) r → r ≡ Ok i
read_back i (Err e) fits h =
    let w : i.field_count ≡ get_or (words_of (index_bytes i)) 0 0 =
    ap (λ ws. get_or ws 0 0) (sym (words_back (index_words i) fits)) in
    let l : length (index_bytes i) ≡ 4 * min i.field_count 8 =
    written_length (index_words i) ∙ ap (λ n. 4 * n) (words_count i) in
    let n : index_refusal (index_bytes i) ≡ None =
    index_holds (index_bytes i) i.field_count w (omega (arith, i.enough)) i.enough
    (omega arith) in
    let both = sym n ∙ h in absurd cc
read_back i (Ok j) fits h =
    let a : IndexAt j (index_bytes i) = h.1 in
    let w : words_of (index_bytes i) ≡ index_words i = words_back (index_words i) fits in
    let n : j.field_count ≡ i.field_count = a.field_count ∙ ap (λ ws. get_or ws 0 0) w in
    let k : j.keys_end ≡ i.keys_end = a.keys_end ∙ ap (λ ws. get_or ws 1 0) w in
    let x : j.resources_end ≡ i.resources_end = a.resources_end ∙ ap (λ ws. get_or ws 2 0) w in
    let b : j.bundle_end ≡ i.bundle_end = a.bundle_end ∙ ap (λ ws. get_or ws 3 0) w in
    let l : j.largest_table_entry_count ≡ i.largest_table_entry_count =
    a.largest_table_entry_count ∙ ap (λ ws. get_or ws 4 0) w in
    let f = fields_back i.field_count i.keys_end i.resources_end i.bundle_end
    i.largest_table_entry_count i.bundle_attributes i.data_16_bit_end i.pool_checksum
    i.attributes_there i.end_there i.checksum_there in
    let o : j.bundle_attributes ≡ i.bundle_attributes =
    a.bundle_attributes ∙ ap (λ m. field (index_bytes i) m 5) n
    ∙ ap (λ ws. if nat_le 6 i.field_count then Some (get_or ws 5 0) else None) w ∙ f.0 in
    let p : j.data_16_bit_end ≡ i.data_16_bit_end =
    a.data_16_bit_end ∙ ap (λ m. field (index_bytes i) m 6) n
    ∙ ap (λ ws. if nat_le 7 i.field_count then Some (get_or ws 6 0) else None) w ∙ f.1 in
    let q : j.pool_checksum ≡ i.pool_checksum =
    a.pool_checksum ∙ ap (λ m. field (index_bytes i) m 7) n
    ∙ ap (λ ws. if nat_le 8 i.field_count then Some (get_or ws 7 0) else None) w ∙ f.2 in
    ap Ok (index_apart j i (λ t. (n t, k t, x t, b t, l t, o t, p t, q t)))

pub index_survives : IndexSurvives
index_survives = record { read_back = read_back; written_back = written_back }
