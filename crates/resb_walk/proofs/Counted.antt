-- Texts of the body, by the units behind their counts.
use Rattle.std.proofs.Common.{ℕ, List, [], ◌≡◌, Bool, true, false, length, Option, Some, None}
use Rattle.std.proofs.Common.{refl, sym}
use Rattle.std.proofs.Common.{ap, ◌∙◌, encode_utf8_all, subst, take, drop}
use Rattle.std.specs.Prelude.{not, option_and_then, slice_get, ◌+◌, ◌*◌, ◌/◌}
use Rattle.std.proofs.lemmas.Bool.{not-true, not-false}
use Rattle.std.specs.Char.Utf16.{has_unpaired_surrogate, utf16_lossy_chars}
use Rattle.resb_format.specs.Bytes.{units_of, words_of, part}
use Rattle.resb_format.specs.Content.{counted_text}
use Rattle.resb_format.specs.Parts.{Parts}
use Rattle.resb_format.specs.Strings.{text_of_units}
use Rattle.resb_blocks.specs.Links.{IsWellFormed}
use Rattle.resb_blocks.specs.Wide.{text_width}
use Rattle.resb_blocks.proofs.WideLemmas.{text_is_wide}
use Rattle.resb_walk.specs.BlockRefusals.{counted_units}
use Rattle.resb_walk.specs.Inner.MemberContent.{IsPartOf}
use Rattle.resb_walk.specs.Inner.Members.{text_of_bytes}
use Rattle.resb_walk.proofs.Surrogates.{no_units_no_chars}

-- no units spell the empty text
pub no_units_no_text : text_of_bytes [] ≡ []
unfolding units_of
no_units_no_text = ap encode_utf8_all (no_units_no_chars [] refl)

-- units that spell a text are well-formed, and the text is theirs
pub spelled : (us s : List ℕ) → text_of_units us ≡ Some s
    → (has_unpaired_surrogate us ≡ false) × (s ≡ encode_utf8_all (utf16_lossy_chars us))
spelled us s e = cases (has_unpaired_surrogate us) refl e
  where
    cases : (b : Bool) → has_unpaired_surrogate us ≡ b → text_of_units us ≡ Some s
        → (has_unpaired_surrogate us ≡ false) × (s ≡ encode_utf8_all (utf16_lossy_chars us))
    cases true h f = absurd (let g = rw h at f in cc)
    cases false h f =
        let g : Some (encode_utf8_all (utf16_lossy_chars us)) ≡ Some s = rw h at f in (h, cc)

-- the bytes of the text that units spell
pub spelled_width : (us s : List ℕ) → text_of_units us ≡ Some s → length s ≡ text_width us
spelled_width us s e = let h = spelled us s e in ap length h.1 ∙ text_is_wide us h.0

-- one step and then another
then_both : {A B C : Type 0} (o : Option A) (f : A → Option B) (g : B → Option C)
    → option_and_then (λ a. option_and_then g (f a)) o
    ≡ option_and_then g (option_and_then f o)
then_both None f g = refl
then_both (Some a) f g = refl

module _ (p : Parts) (v : ℕ) where
  -- the text behind a count is that of its units
  by_units : counted_text p v ≡ option_and_then text_of_units (counted_units p v)
  by_units =
      then_both (slice_get (words_of p.body) v) (λ n. part (units_of p.body) (2 * v + 2) n)
      text_of_units

  pub counted_some : (bs : List ℕ) → counted_units p v ≡ Some (units_of bs)
      → has_unpaired_surrogate (units_of bs) ≡ false → counted_text p v ≡ Some (text_of_bytes bs)
  counted_some bs e h = by_units ∙ ap (option_and_then text_of_units) e ∙ rw h refl

  pub counted_well : (bs : List ℕ) → counted_units p v ≡ Some (units_of bs)
      → true ≡ not (has_unpaired_surrogate (units_of bs))
      → counted_text p v ≡ Some (text_of_bytes bs)
  counted_well bs e h = counted_some bs e (not-true _ (sym h))

  pub counted_unpaired : (bs : List ℕ) → counted_units p v ≡ Some (units_of bs)
      → false ≡ not (has_unpaired_surrogate (units_of bs)) → counted_text p v ≡ None
  counted_unpaired bs e h =
      by_units ∙ ap (option_and_then text_of_units) e ∙ rw (not-false _ (sym h)) refl

  pub counted_none : counted_units p v ≡ None → counted_text p v ≡ None
  counted_none e = by_units ∙ ap (option_and_then text_of_units) e

  -- the units spell the text that is there
  pub counted_spells : (us s : List ℕ) → counted_units p v ≡ Some us → counted_text p v ≡ Some s
      → text_of_units us ≡ Some s
  counted_spells us s e f = sym (by_units ∙ ap (option_and_then text_of_units) e) ∙ f

  -- units of the body that are known to be well-formed
  pub counted_known : (block bs : List ℕ) → block ≡ p.body → IsPartOf p.body v bs
      → counted_units p v ≡ Some (units_of bs)
      → IsWellFormed (take (length bs / 2) (drop (2 * v + 2) (units_of block)))
      → (text : List ℕ) × (counted_text p v ≡ Some text)
  counted_known block bs e part stands well =
      let same : take (length bs / 2) (drop (2 * v + 2) (units_of block)) ≡ units_of bs =
      ap (λ xs. take (length bs / 2) (drop (2 * v + 2) (units_of xs))) e ∙ sym part.1 in
      (text_of_bytes bs, counted_some bs stands (subst IsWellFormed same well))

  -- the bytes of such a text
  pub counted_width : (block bs s : List ℕ) → block ≡ p.body → IsPartOf p.body v bs
      → counted_units p v ≡ Some (units_of bs) → counted_text p v ≡ Some s
      → length s ≡ text_width (take (length bs / 2) (drop (2 * v + 2) (units_of block)))
  counted_width block bs s e part stands text =
      let same : units_of bs ≡ take (length bs / 2) (drop (2 * v + 2) (units_of block)) =
      part.1 ∙ sym (ap (λ xs. take (length bs / 2) (drop (2 * v + 2) (units_of xs))) e) in
      spelled_width (units_of bs) s (counted_spells (units_of bs) s stands text)
      ∙ ap text_width same
