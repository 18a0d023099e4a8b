-- The last entry of a name, where the entries are looked at from the last one to the first.
use Rattle.std.proofs.Common.{ℕ, List, [], ◌∷◌, ◌≡◌, ◌<◌, Option, Some, None, true, false}
use Rattle.std.proofs.Common.{zero, suc, refl, sym, ◌∙◌, ap, length, map, take, drop, get_or, arith}
use Rattle.std.proofs.Common.{if◌then◌else◌, min, ◌≤◌, ◌/◌, ◌-◌}
use Rattle.std.specs.List.{zip}
use Rattle.std.proofs.lemmas.List.{take-append-drop}
use Rattle.resb_format.specs.Content as at
use Rattle.resb_format.specs.declared.file_blocks.FileBlocks.{FileBlocks}
use Rattle.resb_format.specs.Parts.{parts_in}
use Rattle.resb_format.specs.Bytes.{units_of, words_of}
use Rattle.resb_format.proofs.Spelled.{units_length, words_length}
use Rattle.resb_read.specs.Places.{Place}
use Rattle.resb_read.specs.Leaves.{key_from}
use Rattle.resb_read.specs.Sequences.{at_entry, at_spot}
use Rattle.resb_read.specs.declared.cursor.Spot.TheVariants as spot
use Rattle.resb_read.specs.Tables.{is_text, has_name, last_from, last_named}
use Rattle.resb_read.specs.Inner.Elements.{near_entries}
use Rattle.resb_read.proofs.Ascending.{from_append}
use Rattle.resb_read.proofs.Lasts.{skipped, none_found}

-- where no entry has the name, what was found stays
found_stays : (name : List ℕ) (found : Option Place) (es : List (Place × Place))
    → last_named name es ≡ None → last_from name found es ≡ found
found_stays name found es h = skipped name found es (none_found name es h)

nth_entry : {C : Type 0} (f : ℕ × at.Member → C) (us ws : List ℕ) (n : ℕ) → n < length us
    → n < length ws
    → drop n (map f (zip us (map at.word ws)))
    ≡ f (get_or us n 0, at.word (get_or ws n 0))
    ∷ drop (suc n) (map f (zip us (map at.word ws)))
nth_entry f [] ws n h k = absurd (omega arith)
nth_entry f (u ∷ us) [] n h k = absurd (omega arith)
nth_entry f (u ∷ us) (w ∷ ws) zero h k = refl
nth_entry f (u ∷ us) (w ∷ ws) (suc n) h k = nth_entry f us ws n (omega arith) (omega arith)

drop_none : {A : Type 0} (n : ℕ) → drop {A = A} n [] ≡ []
drop_none zero = refl
drop_none (suc n) = refl

entries_end : {C : Type 0} (f : ℕ × at.Member → C) (us ws : List ℕ) (n : ℕ)
    → min (length us) (length ws) ≤ n → drop n (map f (zip us (map at.word ws))) ≡ []
entries_end f [] ws n h = drop_none n
entries_end f (u ∷ us) [] n h = drop_none n
entries_end f (u ∷ us) (w ∷ ws) zero h = absurd (omega arith)
entries_end f (u ∷ us) (w ∷ ws) (suc n) h = entries_end f us ws n (omega arith)

-- an entry that hasn't the name, before others that haven't it
unnamed : (name : List ℕ) (es : List (Place × Place)) (e : Place × Place) (n : ℕ)
    → drop n es ≡ e ∷ drop (suc n) es → has_name name e ≡ false
    → last_named name (drop (suc n) es) ≡ None → last_named name (drop n es) ≡ None
unnamed name es e n is other rest =
    ap (last_named name) is
    ∙ ap (λ b. last_from name (if b then Some e.1 else None) (drop (suc n) es)) other ∙ rest

-- an entry that has the name, before others that haven't it
named_is_last : (name : List ℕ) (es : List (Place × Place)) (e : Place × Place) (n : ℕ)
    → drop n es ≡ e ∷ drop (suc n) es → has_name name e ≡ true
    → last_named name (drop (suc n) es) ≡ None → last_named name es ≡ Some e.1
named_is_last name es e n is here rest =
    let before : Option Place = last_from name None (take n es) in
    sym (ap (last_named name) (take-append-drop n es))
    ∙ from_append name (take n es) None (drop n es)
    ∙ ap (last_from name before) is
    ∙ ap (λ b. last_from name (if b then Some e.1 else before) (drop (suc n) es)) here
    ∙ found_stays name (Some e.1) (drop (suc n) es) rest

-- entries whose keys' positions and values' words are given by bytes
module _ (name : List ℕ) (f : FileBlocks) (positions words : List ℕ) where
  abbrev es : List (Place × Place)
  es = near_entries f positions words

  -- behind all of them there is none
  pub none_named_behind : (n : ℕ) → min (length positions / 2) (length words / 4) ≤ n
      → last_named name (drop n es) ≡ None
  none_named_behind n h =
      let a = units_length positions in
      let b = words_length words in
      ap (last_named name)
      (entries_end (at_entry (parts_in f)) (units_of positions) (words_of words) n
      (omega (arith, a, b, h)))

  module _ (left position : ℕ) (some : 0 < left) (inside : left ≤ length positions / 2)
      (within : left ≤ length words / 4) (rest : last_named name (drop left es) ≡ None)
      (at_position : position ≡ get_or (units_of positions) (left - 1) 0) where
    abbrev n : ℕ
    n = left - 1

    abbrev e : Place × Place
    e = at_entry (parts_in f)
        (get_or (units_of positions) n 0, at.word (get_or (words_of words) n 0))

    is : drop n es ≡ e ∷ drop (suc n) es
    is =
        let a = units_length positions in
        let b = words_length words in
        nth_entry (at_entry (parts_in f)) (units_of positions) (words_of words) n
        (omega (arith, a, some, inside)) (omega (arith, b, some, within))

    later : last_named name (drop (suc n) es) ≡ None
    later =
        let same : suc n ≡ left = omega (arith, some) in
        ap (λ k. last_named name (drop k es)) same ∙ rest

    test : is_text name (key_from (parts_in f) (spot.Key position)) ≡ has_name name e
    test = ap (λ k. is_text name (key_from (parts_in f) (spot.Key k))) at_position

    -- the last of those that are left hasn't the name
    pub last_unnamed : is_text name (key_from (parts_in f) (spot.Key position)) ≡ false
        → last_named name (drop (left - 1) es) ≡ None
    last_unnamed other = unnamed name es e n is (sym test ∙ other) later

    -- the last of those that are left has the name
    pub found : (word : ℕ) → word ≡ get_or (words_of words) (left - 1) 0
        → is_text name (key_from (parts_in f) (spot.Key position)) ≡ true
        → Some (at_spot (parts_in f) (spot.Descriptor word)) ≡ last_named name es
    found word at_word here =
        ap (λ w. Some (at_spot (parts_in f) (spot.Descriptor w))) at_word
        ∙ sym (named_is_last name es e n is (sym test ∙ here) later)
