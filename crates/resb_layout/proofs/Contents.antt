-- What stands at the word of a body: the members that it was closed with.
use Rattle.std.proofs.Common.{zero, suc, ◌≡◌, ℕ, ◌+◌, ◌*◌, ◌/◌, ◌%◌, ◌^◌, ◌<◌, List, []}
use Rattle.std.proofs.Common.{◌∷◌, ◌++◌, length, map, take, drop, Option, Some, None, option_map}
use Rattle.std.proofs.Common.{option_and_then, true, false, cond, nat_le, ◌==◌, refl}
use Rattle.std.proofs.Common.{sym, ◌∙◌, ap, append_assoc, length-append, arith}
use Rattle.std.specs.Prelude.{slice_get}
use Rattle.std.specs.Int.{to_le_bytes, w16, w32}
use Rattle.std.specs.List.{zip}
use Rattle.std.proofs.lemmas.Bool.{le-leb, ne_eqb}
use Rattle.std.proofs.lemmas.Bool.Decides.{nat_tests}
use Rattle.std.proofs.lemmas.List.{take_at, drop_at}
use Rattle.std.specs.Str.{IsUtf8}
use Rattle.resb_tree.specs.Tree.{alias, binary, integer, int_vector}
use Rattle.resb_format.specs.Bytes.{units_of, words_of, part}
use Rattle.resb_format.specs.Lookups.{wide_position}
use Rattle.resb_format.specs.Parts.{Parts, reads_older}
use Rattle.resb_format.specs.Content.{word, unit, leaf, list, entry_list, behind_count}
use Rattle.resb_format.specs.Content.{content_at, placed, empty, paired, words_at, offsets_at}
use Rattle.resb_format.specs.Content.{binary_at, int_vector_at, array_at, array16_at, table_at}
use Rattle.resb_format.specs.Content.{table16_at, table32_at, counted_text}
use Rattle.resb_format.specs.Strings.{text_of_units}
use Rattle.resb_format.specs.Units.{units}
use Rattle.resb_format.proofs.Spelled.{words_length, units_length}
use Rattle.resb_layout.specs.Laid.{Given, Laid, here, more_units, more_bytes, words, fill}
use Rattle.resb_format.specs.Bytes.{units_as_bytes}
use Rattle.resb_layout.specs.Laid.{to_data, to_word, pad, binary_body, words_body, near_table_body}
use Rattle.resb_layout.specs.Laid.{wide_table_body, path_body}
use Rattle.resb_layout.specs.Laws.{StandsIn}
use Rattle.resb_layout.proofs.BytesLemmas.{EachBelow, written_word_read, unit_read, words_read}
use Rattle.resb_layout.proofs.BytesLemmas.{halves_read}
use Rattle.resb_layout.proofs.BytesLemmas.{halves_len, words_behind, units_behind, units_small}
use Rattle.resb_pool.proofs.Utf16.{text_of_units-units}

-- a part that stands between two others
pub part_found : (xs front ys back : List ℕ) (at n : ℕ) → xs ≡ front ++ (ys ++ back)
    → at ≡ length front → n ≡ length ys → part xs at n ≡ Some ys
part_found xs front ys back at n s e f =
    let zs : List ℕ = front ++ (ys ++ back) in
    let t : nat_le (at + n) (length zs) ≡ true =
    le-leb (at + n) (length zs) (omega (
      arith,
      e,
      f,
      length-append front (ys ++ back),
      length-append ys back,
    )) in
    ap (λ l. part l at n) s
    ∙ ap (λ c. cond c (Some (take n (drop at zs))) None) t
    ∙ ap (λ l. Some (take n l)) (drop_at front (ys ++ back) at (sym e))
    ∙ ap Some (take_at ys back n (sym f))

slice_get_at : (front : List ℕ) (n : ℕ) (back : List ℕ) (at : ℕ) → at ≡ length front
    → slice_get (front ++ n ∷ back) at ≡ Some n
slice_get_at [] n back at e = ap (λ i. slice_get (n ∷ back) i) e
slice_get_at (x ∷ front) n back zero e = absurd (omega (arith, e))
slice_get_at (x ∷ front) n back (suc at) e = slice_get_at front n back at (omega (arith, e))

-- a count that stands behind a front
pub counted_found : {A : Type 0} (xs front : List ℕ) (n : ℕ) (back : List ℕ) (at : ℕ) (behind : ℕ
    → Option A) → xs ≡ front ++ n ∷ back → at ≡ length front → behind_count xs at behind ≡ behind n
counted_found xs front n back at behind s e =
    ap (λ l. behind_count l at behind) s
    ∙ ap (option_and_then behind) (slice_get_at front n back at e)

-- behind the count
pub first_part : (xs front ys back : List ℕ) (n at : ℕ) → xs ≡ front ++ n ∷ (ys ++ back)
    → at ≡ length front → n ≡ length ys → part xs (at + 1) n ≡ Some ys
first_part xs front ys back n at s e f =
    part_found xs (front ++ n ∷ []) ys back (at + 1) n (s
    ∙ sym (append_assoc front (n ∷ []) (ys ++ back))) (omega (
      arith,
      e,
      length-append front (n ∷ []),
    )) f

-- behind the count and as many others
pub second_part : (xs front ps ys back : List ℕ) (n at : ℕ)
    → xs ≡ front ++ n ∷ (ps ++ (ys ++ back)) → at ≡ length front → n ≡ length ps → n ≡ length ys
    → part xs (at + 1 + n) n ≡ Some ys
second_part xs front ps ys back n at s e f g =
    part_found xs ((front ++ n ∷ []) ++ ps) ys back (at + 1 + n) n
    (s ∙ sym (append_assoc front (n ∷ []) (ps ++ (ys ++ back)))
    ∙ sym (append_assoc (front ++ n ∷ []) ps (ys ++ back)))
    (omega (arith, e, f, length-append front (n ∷ []), length-append (front ++ n ∷ []) ps))
    g

-- the content of a word of a type with a value that isn't 0
content_placed : (p : Parts) (type value : ℕ) → type < 16 → (type == 7) ≡ false → 0 < value
    → value < 2 ^ 28 → content_at p (type * 2 ^ 28 + value) ≡ placed p type value
unfolding content_at
content_placed p type value t s h l =
    let w : ℕ = type * 2 ^ 28 + value in
    let e : w / 2 ^ 28 ≡ type = omega arith in
    let f : w % 2 ^ 28 ≡ value = omega arith in
    let z : (value == 0) ≡ false = ne_eqb value 0 (λ (q : value ≡ 0). omega (arith, q)) in
    (λ i. cond (e i == 7) (Some (leaf (integer (f i))))
    (cond (f i == 0) (empty p (e i)) (placed p (e i) (f i))))
    ∙ ap (λ c. cond c (Some (leaf (integer value)))
    (cond (value == 0) (empty p type) (placed p type value))) s
    ∙ ap (λ c. cond c (empty p type) (placed p type value)) z

-- the bytes before a body, and it and what follows
module _ (p : Parts) (g : Given) (s : Laid) (body : List ℕ)
    (stands : StandsIn p g (more_bytes s body)) where
  abbrev before : List ℕ
  before = stands.front ++ s.tail

  before_len : length before ≡ here g s
  before_len = omega (arith, length-append stands.front s.tail, stands.front_is)

  body_is : p.body ≡ before ++ (body ++ stands.bytes_behind)
  body_is =
      stands.body_is ∙ ap (λ bs. stands.front ++ bs) (append_assoc s.tail body stands.bytes_behind)
      ∙ sym (append_assoc stands.front s.tail (body ++ stands.bytes_behind))

  -- so many words before it
  pub words_are : (at : ℕ) → here g s ≡ 4 * at
      → words_of p.body ≡ words_of before ++ words_of (body ++ stands.bytes_behind)
  words_are at e = ap words_of body_is ∙ words_behind at before (body
      ++ stands.bytes_behind) (before_len ∙ e)

  pub front_words : (at : ℕ) → here g s ≡ 4 * at → at ≡ length (words_of before)
  front_words at e = omega (arith, words_length before, before_len, e)

  pub units_are : (at : ℕ) → here g s ≡ 4 * at
      → units_of p.body ≡ units_of before ++ units_of (body ++ stands.bytes_behind)
  units_are at e = ap units_of body_is ∙ units_behind (2 * at) before (body
      ++ stands.bytes_behind) (omega (arith, before_len, e))

  pub front_units : (at : ℕ) → here g s ≡ 4 * at → 2 * at ≡ length (units_of before)
  front_units at e = omega (arith, units_length before, before_len, e)

-- u32 n, n words
module _ (p : Parts) (g : Given) (s : Laid) (ws : List ℕ) (at : ℕ) (e : here g s
    ≡ 4 * at) (small : EachBelow (2 ^ 32) ws) (few : length ws < 2 ^ 32)
    (stands : StandsIn p g (more_bytes s (words_body ws))) where
  counted_words : words_of p.body ≡ words_of (before p g s (words_body ws) stands) ++ length ws
      ∷ (ws ++ words_of stands.bytes_behind)
  counted_words =
      words_are p g s (words_body ws) stands at e
      ∙ ap (λ l. words_of (before p g s (words_body ws) stands) ++ l) (
      ap words_of (append_assoc (to_le_bytes w32 (length ws)) (words ws) stands.bytes_behind)
      ∙ written_word_read (length ws) (words ws ++ stands.bytes_behind) few
      ∙ ap (λ l. length ws ∷ l) (words_read ws stands.bytes_behind small)
      )

  pub array_found : array_at p at ≡ Some (list (map word ws))
  array_found =
      counted_found (words_of p.body) _ (length ws) _ at (λ n. option_map list (words_at p (at
      + 1) n)) counted_words (front_words p g s (words_body ws) stands at e)
      ∙ ap (λ o. option_map list (option_map (map word) o))
      (first_part (words_of p.body) _ ws _ (length ws) at counted_words
      (front_words p g s (words_body ws) stands at e) refl)

  pub vector_found : int_vector_at p at ≡ Some (leaf (int_vector ws))
  vector_found =
      counted_found (words_of p.body) _ (length ws) _ at
      (λ n. option_map (λ ns. leaf (int_vector ns)) (part (words_of p.body) (at
      + 1) n)) counted_words (front_words p g s (words_body ws) stands at e)
      ∙ ap (option_map (λ ns. leaf (int_vector ns)))
      (first_part (words_of p.body) _ ws _ (length ws) at counted_words
      (front_words p g s (words_body ws) stands at e) refl)

-- u32 n, n positions, n words
module _ (p : Parts) (g : Given) (s : Laid) (ps ws : List ℕ) (at : ℕ) (e : here g s
    ≡ 4 * at) (near : EachBelow (2 ^ 32) ps) (small : EachBelow (2 ^ 32) ws)
    (few : length ps < 2 ^ 32)
    (same : length ps ≡ length ws)
    (stands : StandsIn p g (more_bytes s (wide_table_body ps ws))) where
  wide_words : words_of p.body ≡ words_of (before p g s (wide_table_body ps ws) stands)
      ++ length ps ∷ (ps ++ (ws ++ words_of stands.bytes_behind))
  wide_words =
      words_are p g s (wide_table_body ps ws) stands at e
      ∙ ap (λ l. words_of (before p g s (wide_table_body ps ws) stands) ++ l) (
      ap words_of (append_assoc (to_le_bytes w32 (length ps)) (words ps
      ++ words ws) stands.bytes_behind)
      ∙ written_word_read (length ps) ((words ps ++ words ws) ++ stands.bytes_behind) few
      ∙ ap (λ l. length ps ∷ words_of l) (append_assoc (words ps) (words ws) stands.bytes_behind)
      ∙ ap (λ l. length ps ∷ l) (words_read ps (words ws ++ stands.bytes_behind) near)
      ∙ ap (λ l. length ps ∷ (ps ++ l)) (words_read ws stands.bytes_behind small)
      )

  pub wide_found : table32_at p at
      ≡ Some (entry_list (zip (map wide_position ps) (map word ws)))
  wide_found =
      let f = front_words p g s (wide_table_body ps ws) stands at e in
      let a = first_part (words_of p.body) _ ps _ (length ps) at wide_words f refl in
      let b = second_part (words_of p.body) _ ps ws _ (length ps) at wide_words f refl same in
      counted_found (words_of p.body) _ (length ps) _ at
      (λ n. paired (option_map (map wide_position) (part (words_of p.body) (at + 1) n))
      (words_at p (at + 1 + n) n)) wide_words f
      ∙ (λ i. paired (option_map (map wide_position) (a i)) (option_map (map word) (b i)))

pad_even : (n : ℕ) → (2 + 2 * n + length (pad n)) ≡ 4 * (n / 2 + 1)
pad_even n = grind (arith, nat_tests)

-- u16 n, n positions, padding, n words
module _ (p : Parts) (g : Given) (s : Laid) (ps ws : List ℕ) (at : ℕ) (e : here g s
    ≡ 4 * at) (near : EachBelow (2 ^ 16) ps) (small : EachBelow (2 ^ 32) ws)
    (few : length ps < 2 ^ 16)
    (same : length ps ≡ length ws)
    (stands : StandsIn p g (more_bytes s (near_table_body ps ws))) where
  abbrev n : ℕ
  n = length ps

  table_units : units_of p.body ≡ units_of (before p g s (near_table_body ps ws) stands) ++ n
      ∷ (ps ++ units_of ((pad n ++ words ws) ++ stands.bytes_behind))
  table_units =
      units_are p g s (near_table_body ps ws) stands at e
      ∙ ap (λ l. units_of (before p g s (near_table_body ps ws) stands) ++ l) (
      ap units_of (append_assoc (to_le_bytes w16 n) (units_as_bytes ps
      ++ (pad n ++ words ws)) stands.bytes_behind)
      ∙ unit_read n ((units_as_bytes ps ++ (pad n ++ words ws)) ++ stands.bytes_behind) few
      ∙ ap (λ l. n ∷ units_of l) (append_assoc (units_as_bytes ps) (pad n
      ++ words ws) stands.bytes_behind)
      ∙ ap (λ l. n ∷ l) (halves_read ps ((pad n ++ words ws) ++ stands.bytes_behind) near)
      )

  -- the bytes before the descriptors
  abbrev ahead : List ℕ
  ahead = before p g s (near_table_body ps ws) stands
      ++ (to_le_bytes w16 n ++ (units_as_bytes ps ++ pad n))

  ahead_len : length ahead ≡ 4 * (at + n / 2 + 1)
  ahead_len =
      omega (
        arith,
        before_len p g s (near_table_body ps ws) stands,
        e,
        pad_even n,
        halves_len ps,
        length-append (before p g s (near_table_body ps ws) stands) (to_le_bytes w16 n
            ++ (units_as_bytes ps ++ pad n)),
        length-append (to_le_bytes w16 n) (units_as_bytes ps ++ pad n),
        length-append (units_as_bytes ps) (pad n),
      )

  ahead_is : p.body ≡ ahead ++ (words ws ++ stands.bytes_behind)
  ahead_is =
      body_is p g s (near_table_body ps ws) stands
      ∙ ap (λ l. before p g s (near_table_body ps ws) stands ++ l) (
      append_assoc (to_le_bytes w16 n) (units_as_bytes ps
      ++ (pad n ++ words ws)) stands.bytes_behind
      ∙ ap (λ l. to_le_bytes w16 n ++ l) (
      append_assoc (units_as_bytes ps) (pad n ++ words ws) stands.bytes_behind
      ∙ ap (λ l. units_as_bytes ps ++ l) (append_assoc (pad n) (words ws) stands.bytes_behind)
      ∙ sym (append_assoc (units_as_bytes ps) (pad n) (words ws ++ stands.bytes_behind))
      )
      ∙ sym (append_assoc (to_le_bytes w16 n) (units_as_bytes ps ++ pad n) (words ws
      ++ stands.bytes_behind))
      )
      ∙ sym (append_assoc (before p g s (near_table_body ps ws) stands) (to_le_bytes w16 n
      ++ (units_as_bytes ps ++ pad n)) (words ws ++ stands.bytes_behind))

  table_words : words_of p.body ≡ words_of ahead ++ (ws ++ words_of stands.bytes_behind)
  table_words =
      ap words_of ahead_is ∙ words_behind (at + n / 2 + 1) ahead (words ws
      ++ stands.bytes_behind) ahead_len
      ∙ ap (λ l. words_of ahead ++ l) (words_read ws stands.bytes_behind small)

  pub table_found : table_at p at ≡ Some (entry_list (zip ps (map word ws)))
  table_found =
      let f = front_units p g s (near_table_body ps ws) stands at e in
      let a = first_part (units_of p.body) _ ps _ n (2 * at) table_units f refl in
      let l : at + n / 2 + 1 ≡ length (words_of ahead) =
      omega (arith, words_length ahead, ahead_len) in
      let b = part_found (words_of p.body) (words_of ahead) ws (words_of stands.bytes_behind) (at
      + n / 2 + 1) n table_words l same in
      counted_found (units_of p.body) _ n _ (2 * at) (λ m. paired (part (units_of p.body) (2 * at
      + 1) m) (words_at p (at + m / 2 + 1) m)) table_units f
      ∙ (λ i. paired (a i) (option_map (map word) (b i)))

-- u32 n, n bytes, behind so much fill
module _ (p : Parts) (g : Given) (s : Laid) (bytes : List ℕ) (at : ℕ) (e : here g s
    + to_data (here g s) ≡ 4 * at) (few : length bytes < 2 ^ 32)
    (stands : StandsIn p g (more_bytes s (binary_body (here g s) bytes))) where
  abbrev filled : Laid
  filled = more_bytes s (fill (to_data (here g s)))

  abbrev data_body : List ℕ
  data_body = to_le_bytes w32 (length bytes) ++ (bytes ++ fill (to_word (length bytes)))

  abbrev filled_stands : StandsIn p g (more_bytes filled data_body)
  filled_stands = record {
    front = stands.front;
    units_behind = stands.units_behind;
    bytes_behind = stands.bytes_behind;
    front_is = stands.front_is;
    block_is = stands.block_is;
    body_is = stands.body_is ∙ ap (λ l. stands.front
        ++ (l ++ stands.bytes_behind)) (sym (append_assoc s.tail (fill (to_data (here g s)))
        data_body));
  }

  filled_here : here g filled ≡ 4 * at
  filled_here = omega (
    arith,
    e,
    length-append s.tail (fill (to_data (here g s))),
    fill_len (to_data (here g s)),
  )
    where
      fill_len : (n : ℕ) → length (fill n) ≡ n
      fill_len zero = refl
      fill_len (suc n) = omega (arith, fill_len n)

  data_words : words_of p.body ≡ words_of (before p g filled data_body filled_stands)
      ++ length bytes ∷ words_of ((bytes ++ fill (to_word (length bytes))) ++ stands.bytes_behind)
  data_words =
      words_are p g filled data_body filled_stands at filled_here
      ∙ ap (λ l. words_of (before p g filled data_body filled_stands) ++ l) (
      ap words_of (append_assoc (to_le_bytes w32 (length bytes)) (bytes
      ++ fill (to_word (length bytes))) stands.bytes_behind)
      ∙ written_word_read (length bytes) ((bytes ++ fill (to_word (length bytes)))
      ++ stands.bytes_behind) few
      )

  data_is : p.body ≡ (before p g filled data_body filled_stands ++ to_le_bytes w32 (length bytes))
      ++ (bytes ++ (fill (to_word (length bytes)) ++ stands.bytes_behind))
  data_is =
      body_is p g filled data_body filled_stands
      ∙ ap (λ l. before p g filled data_body filled_stands ++ l) (
      append_assoc (to_le_bytes w32 (length bytes)) (bytes
      ++ fill (to_word (length bytes))) stands.bytes_behind
      ∙ ap (λ l. to_le_bytes w32 (length bytes)
      ++ l) (append_assoc bytes (fill (to_word (length bytes))) stands.bytes_behind)
      )
      ∙ sym (append_assoc (before p g filled data_body filled_stands)
      (to_le_bytes w32 (length bytes)) (bytes
      ++ (fill (to_word (length bytes)) ++ stands.bytes_behind)))

  pub binary_found : binary_at p at ≡ Some (leaf (binary bytes))
  binary_found =
      let l : 4 * at + 4 ≡ length (before p g filled data_body filled_stands
      ++ to_le_bytes w32 (length bytes)) =
      omega (
        arith,
        filled_here,
        before_len p g filled data_body filled_stands,
        length-append (before p g filled data_body filled_stands)
            (to_le_bytes w32 (length bytes)),
      ) in
      counted_found (words_of p.body) _ (length bytes) _ at
      (λ n. option_map (λ b. leaf (binary b)) (part p.body (4 * at
      + 4) n)) data_words (front_words p g filled data_body filled_stands at filled_here)
      ∙ ap (option_map (λ b. leaf (binary b))) (part_found p.body _ bytes _ (4 * at
      + 4) (length bytes) data_is l refl)

-- u32 n, n units
module _ (p : Parts) (g : Given) (s : Laid) (path : List ℕ) (at : ℕ) (e : here g s
    ≡ 4 * at) (text : IsUtf8 path) (few : length (units path) < 2 ^ 32)
    (stands : StandsIn p g (more_bytes s (path_body (units path)))) where
  abbrev us : List ℕ
  us = units path

  -- what stands behind the units
  abbrev behind_path : List ℕ
  behind_path = (0 ∷ 0 ∷ pad (length us)) ++ stands.bytes_behind

  body_split : path_body us ++ stands.bytes_behind
      ≡ to_le_bytes w32 (length us) ++ (units_as_bytes us ++ behind_path)
  body_split =
      append_assoc (to_le_bytes w32 (length us)) (units_as_bytes us
      ++ 0 ∷ 0 ∷ pad (length us)) stands.bytes_behind
      ∙ ap (λ l. to_le_bytes w32 (length us) ++ l)
      (append_assoc (units_as_bytes us) (0 ∷ 0 ∷ pad (length us)) stands.bytes_behind)

  path_words : words_of p.body ≡ words_of (before p g s (path_body us) stands)
      ++ length us ∷ words_of (units_as_bytes us ++ behind_path)
  path_words =
      words_are p g s (path_body us) stands at e
      ∙ ap (λ l. words_of (before p g s (path_body us) stands) ++ l) (
      ap words_of body_split ∙ written_word_read (length us) (units_as_bytes us ++ behind_path) few
      )

  -- the bytes before the units
  abbrev ahead_of_path : List ℕ
  ahead_of_path = before p g s (path_body us) stands ++ to_le_bytes w32 (length us)

  ahead_of_path_len : length ahead_of_path ≡ 2 * (2 * at + 2)
  ahead_of_path_len = omega (
    arith,
    e,
    before_len p g s (path_body us) stands,
    length-append (before p g s (path_body us) stands) (to_le_bytes w32 (length us)),
  )

  path_units : units_of p.body ≡ units_of ahead_of_path ++ (us ++ units_of behind_path)
  path_units =
      ap units_of (body_is p g s (path_body us) stands
      ∙ ap (λ l. before p g s (path_body us) stands ++ l) body_split
      ∙ sym (append_assoc (before p g s (path_body us) stands) (to_le_bytes w32 (length us))
      (units_as_bytes us ++ behind_path)))
      ∙ units_behind (2 * at + 2) ahead_of_path (units_as_bytes us ++ behind_path) ahead_of_path_len
      ∙ ap (λ l. units_of ahead_of_path ++ l) (halves_read us behind_path (units_small path text))

  pub path_found : counted_text p at ≡ Some path
  path_found =
      let l : 2 * at + 2 ≡ length (units_of ahead_of_path) =
      omega (arith, units_length ahead_of_path, ahead_of_path_len) in
      counted_found (words_of p.body) _ (length us) _ at
      (λ n. option_and_then text_of_units (part (units_of p.body) (2 * at + 2) n)) path_words
      (front_words p g s (path_body us) stands at e)
      ∙ ap (option_and_then text_of_units) (part_found (units_of p.body) _ us _ (2 * at + 2)
      (length us) path_units l refl)
      ∙ text_of_units-units path text

-- unit n, n offsets
module _ (p : Parts) (g : Given) (s : Laid) (os : List ℕ)
    (stands : StandsIn p g (more_units s (length os ∷ os))) where
  short_units : p.block ≡ s.units ++ length os ∷ (os ++ stands.units_behind)
  short_units = stands.block_is ∙ append_assoc s.units (length os ∷ os) stands.units_behind

  pub array16_found : array16_at p (length s.units) ≡ Some (list (map unit os))
  array16_found =
      counted_found p.block s.units (length os) _ (length s.units)
      (λ n. option_map list (offsets_at p (length s.units + 1) n)) short_units refl
      ∙ ap (λ o. option_map list (option_map (map unit) o))
      (first_part p.block s.units os stands.units_behind (length os) (length s.units)
      short_units refl refl)

-- unit n, n positions, n offsets
module _ (p : Parts) (g : Given) (s : Laid) (ps os : List ℕ) (same : length os
    ≡ length ps) (stands : StandsIn p g (more_units s (length os ∷ (ps ++ os)))) where
  table16_units : p.block ≡ s.units ++ length os ∷ (ps ++ (os ++ stands.units_behind))
  table16_units =
      stands.block_is ∙ append_assoc s.units (length os ∷ (ps ++ os)) stands.units_behind
      ∙ ap (λ l. s.units ++ length os ∷ l) (append_assoc ps os stands.units_behind)

  pub table16_found : table16_at p (length s.units) ≡ Some (entry_list (zip ps (map unit os)))
  table16_found =
      let a = first_part p.block s.units ps (os
      ++ stands.units_behind) (length os) (length s.units) table16_units refl same in
      let b = second_part p.block s.units ps os stands.units_behind (length os) (length s.units)
      table16_units refl same refl in
      counted_found p.block s.units (length os) _ (length s.units)
      (λ n. paired (part p.block (length s.units + 1) n) (offsets_at p (length s.units + 1
      + n) n)) table16_units refl
      ∙ (λ i. paired (a i) (option_map (map unit) (b i)))

-- the words of these
pub word_of_array : (p : Parts) (at : ℕ) → 0 < at → at < 2 ^ 28
    → content_at p (0x8000_0000 + at) ≡ array_at p at
word_of_array p at h l = content_placed p 8 at (omega arith) refl h l

pub word_of_array16 : (p : Parts) (at : ℕ) → 0 < at → at < 2 ^ 28
    → content_at p (0x9000_0000 + at) ≡ array16_at p at
word_of_array16 p at h l = content_placed p 9 at (omega arith) refl h l

pub word_of_table : (p : Parts) (at : ℕ) → 0 < at → at < 2 ^ 28
    → content_at p (0x2000_0000 + at) ≡ table_at p at
word_of_table p at h l = content_placed p 2 at (omega arith) refl h l

pub word_of_table16 : (p : Parts) (at : ℕ) → 0 < at → at < 2 ^ 28
    → content_at p (0x5000_0000 + at) ≡ table16_at p at
word_of_table16 p at h l = content_placed p 5 at (omega arith) refl h l

pub word_of_table32 : (p : Parts) (at : ℕ) → 0 < at → at < 2 ^ 28
    → content_at p (0x4000_0000 + at) ≡ table32_at p at
word_of_table32 p at h l = content_placed p 4 at (omega arith) refl h l

pub word_of_alias : (p : Parts) (at : ℕ) → reads_older p ≡ true → 0 < at → at < 2 ^ 28
    → content_at p (0x3000_0000 + at) ≡ option_map (λ s. leaf (alias s)) (counted_text p at)
word_of_alias p at reads h l = content_placed p 3 at (omega arith) refl h l
    ∙ ap (λ c. cond c (option_map (λ s. leaf (alias s)) (counted_text p at)) None) reads

pub word_of_binary : (p : Parts) (at : ℕ) → 0 < at → at < 2 ^ 28
    → content_at p (0x1000_0000 + at) ≡ binary_at p at
word_of_binary p at h l = content_placed p 1 at (omega arith) refl h l

pub word_of_vector : (p : Parts) (at : ℕ) → 0 < at → at < 2 ^ 28
    → content_at p (0xe000_0000 + at) ≡ int_vector_at p at
word_of_vector p at h l = content_placed p 14 at (omega arith) refl h l
