-- The text of ICU's form that a bundle is printed as is one of its name, flag and tree.
use Rattle.std.proofs.Common.{◌≡◌, ℕ, ◌+◌, ◌<◌, Bool, true, false, List, [], ◌∷◌, ◌++◌}
use Rattle.std.proofs.Common.{length, refl, sym, ◌∙◌, ap, subst, arith, Some, None}
use Rattle.std.proofs.lemmas.List.{get_or_past}
use Rattle.std.proofs.lemmas.Bool.{false≢true}
use Rattle.std.specs.Prelude.{slice_index, codes, ◌==◌, ◌&&◌}
use Rattle.std.specs.List.Sorted.{IsStrictlySortedBy}
use Rattle.std.proofs.lemmas.Bool.Decides.{nat_tests}
use Rattle.resb_icu_print.proofs.TakenTrees.{TakenIn}
use Rattle.resb_tree.specs.Tree.{Tree, table}
use Rattle.resb_tree.specs.Tree.{Entries}
use Rattle.resb_tree.specs.Maps.{text_cmp, keyed_trees}
use Rattle.resb_tree.specs.LayingOrder.{entry_keys}
use Rattle.resb_grammar.specs.Ascii as ascii
use Rattle.resb_grammar.specs.ByteRuns.{Run}
use Rattle.resb_grammar.specs.BundleText.{first_places}
use Rattle.resb_icu_grammar.specs.Bytes.{is_word}
use Rattle.resb_icu_grammar.specs.Blanks.{Blanks, none, Skip, without_a_mark, has_mark}
use Rattle.resb_icu_grammar.specs.Words.{a_row, a_word, no_fallback_type}
use Rattle.resb_icu_grammar.specs.Bundle.{Typing, without, with, IcuText}
use Rattle.resb_icu_grammar.proofs.RestRoot.{nothing_behind}
use Rattle.resb_print.specs.Printed.{root_type_on, entries_on, printed_bundle}
use Rattle.resb_print.specs.Laws.{HasNoText, PrintedIsABundle}
use Rattle.resb_print.specs.Paths.{first_found, first_cause}
use Rattle.resb_print.specs.Held.{HeldIn}
use Rattle.resb_print.proofs.Places.{From, byte_at, from_behind, from_next, at_end, from_inside}
use Rattle.resb_print.proofs.Bundles.{stands}
use Rattle.resb_print.proofs.Tracing.{nothing_found}
use Rattle.resb_tree.proofs.MapsLemmas.{map_of-keyed_trees}
use Rattle.resb_icu_print.specs.Printed.{is_bare, icu_spelling}
use Rattle.resb_icu_print.specs.Causes.{icu_tests}
use Rattle.resb_print.specs.declared.cause.Cause.{Cause}
use Rattle.resb_icu_print.proofs.Taken.{none_named, none_in_taken, no_cause}
use Rattle.resb_icu_print.proofs.Places.{solid_byte, solid_at, no_skip, white_on}
use Rattle.resb_icu_print.proofs.Strings.{word_read, bare_read, word_each, bare_words, bare_some}
use Rattle.resb_icu_print.proofs.Strings.{words_key, whole_read}
use Rattle.resb_icu_print.proofs.Groups.{root_starts, entries_at, close_line}

-- a text that begins with a word character has no mark
no_mark : (text : List ℕ) → is_word (slice_index text 0) ≡ true → has_mark text ≡ false
no_mark text h = by (slice_index text 0 == 0xef) refl
  where
    rest : Bool
    rest = slice_index text 1 == 0xbb && slice_index text 2 == 0xbf

    by : (t : Bool) → (slice_index text 0 == 0xef) ≡ t → has_mark text ≡ false
    by true e =
        let f : slice_index text 0 ≡ 0xef = grind (arith, nat_tests) in
        absurd (false≢true (sym (ap is_word f) ∙ h))
    by false e = ap (λ t. t && rest) e

bare_first : (name : List ℕ) → is_bare name ≡ true → is_word (slice_index name 0) ≡ true
bare_first name h = word_each name (bare_words name h) 0 (bare_some name h)

module _ (text : List ℕ) where
  -- what stands between the name and the `{`
  record TypedAt (place : ℕ) (fallback : Bool) (rest : List ℕ) : Type 0 where
    brace : ℕ
    typing : Typing text place brace fallback
    opens : slice_index text brace ≡ ascii.left_brace
    after : From text (brace + 1) rest

  typed_at : (fallback : Bool) {place : ℕ} {rest : List ℕ}
      → From text place (root_type_on fallback (ascii.left_brace ∷ rest))
      → TypedAt place fallback rest
  typed_at true {place} {rest} h = record {
    brace = place;
    typing = without refl;
    opens = byte_at text h;
    after = from_next text h;
  }
  typed_at false {place} {rest} h =
      let open_brace = ascii.left_brace ∷ rest in
      let a : From text (place + 1) (codes "table" ++ (codes "(nofallback)" ++ open_brace)) =
      from_next text h in
      let (solid, word, b) = word_read text (codes "table") 40 _ refl refl a in
      let c : From text (place + 1 + 5 + 12) open_brace =
      from_behind text (codes "(nofallback)") open_brace b in
      record {
        brace = place + 1 + 5 + 12;
        typing = with (place + 1 + 5 + 12) false (no_fallback_type (place + 1 + 5) (record {
          place = place + 1;
          colon = byte_at text h;
          between = no_skip text solid;
          word = word;
        }) (stands text (codes "(nofallback)") open_brace b) refl)
            (no_skip text (solid_at text c refl refl));
        opens = byte_at text c;
        after = from_next text c;
      }

  -- the text of a bundle ends behind its `}`
  end_skip : {at : ℕ} → From text at (ascii.line_feed ∷ []) → Skip text at (length text)
  end_skip {at} h =
      let f = from_next text h in
      let e : at + 1 ≡ length text = omega (arith, at_end text f, from_inside text h) in
      let z : slice_index text (length text) ≡ 0 = get_or_past text (length text) 0 (omega arith) in
      record {
        blanks = white_on text h refl (subst (Blanks text (at + 1)) e (none (at + 1)));
        solid = solid_byte text (length text) 0 z refl refl;
      }

  name_run : (name : List ℕ) → is_bare name ≡ true → Run is_word name 0 (length name)
  name_run name h = record {
    order = omega arith;
    fits = omega arith;
    each = λ k low high. word_each name (bare_words name h) k high;
    longest = ap is_word (get_or_past name (length name) 0 (omega arith));
  }

  bundle_read : (name : List ℕ) (fallback : Bool) (es : Entries) → is_bare name ≡ true
      → IsStrictlySortedBy text_cmp (entry_keys es) → HeldIn es → TakenIn es
      → From text 0 (printed_bundle icu_spelling name fallback es)
      → (keys : List (List ℕ)) × IcuText text name fallback (table es) keys
  bundle_read name fallback es bare ascend held taken h =
      let last = ascii.line_feed ∷ ascii.right_brace ∷ ascii.line_feed ∷ [] in
      let s = root_starts fallback (entries_on icu_spelling 1 es last) in
      let f : From text 0 (name ++ s.b ∷ s.more) =
      subst (λ l. From text 0 (name ++ l)) s.is h in
      let (solid, row, word, g) = bare_read text name s.b s.more bare s.stop f in
      let first : slice_index text 0 ≡ slice_index name 0 =
      name_first name (s.b ∷ s.more) f (bare_some name bare)
      in
      let t = typed_at fallback (subst (From text (0 + length name)) (sym s.is) g) in
      let r = entries_at text 1 es last (t.brace + 1) (ascii.line_feed ∷ []) ascend held taken
      (λ p e. close_line text 0 e) t.after in (
        first_places r.keys,
        record {
          first = r.first;
          last = r.to;
          entries = keyed_trees es;
          places = r.keys;
          header = record {
            begin = 0;
            start = 0;
            ends = 0 + length name;
            place = 0 + length name;
            brace = t.brace;
            begins = without_a_mark
                (no_mark text (ap is_word first ∙ bare_first name bare))
                refl;
            before = no_skip text solid;
            named = record {
              key = record {
                whole = whole_read text name s.b s.more s.stop (a_row row) g;
                verbatim = a_word row word;
                fits = words_key name (bare_words name bare);
              };
              some = bare_some name bare;
              word = name_run name bare;
            };
            between = no_skip text (solid_at text g s.stop.no_white s.stop.no_slash);
            typed = t.typing;
            opens = t.opens;
            after = r.skip;
          };
          body = r.entries;
          closes = r.brace;
          after = nothing_behind text (r.to + 1) (end_skip r.after);
          means = ap table (sym (map_of-keyed_trees es ascend));
          lists = refl;
        },
      )
    where
      name_first : (name rest : List ℕ) → From text 0 (name ++ rest) → 0 < length name
          → slice_index text 0 ≡ slice_index name 0
      name_first [] rest f l = absurd (omega (arith, l))
      name_first (b ∷ name) rest f l = byte_at text f

-- the text that a bundle is printed as is a text of ICU's form
pub printed_is_icu : (name : List ℕ) (fallback : Bool) (es : Entries) → is_bare name ≡ true
    → IsStrictlySortedBy text_cmp (entry_keys es) → HeldIn es → TakenIn es
    → (keys : List (List ℕ))
    × IcuText (printed_bundle icu_spelling name fallback es) name fallback (table es) keys
printed_is_icu name fallback es bare ascend held taken =
    bundle_read (printed_bundle icu_spelling name fallback es) name fallback es bare ascend held
    taken (record { is = refl })

-- so for what is printed of a bundle without a cause
pub printed_without_cause : PrintedIsABundle icu_tests icu_spelling IcuText
printed_without_cause = λ name fallback es held none.
    let found = nothing_found (first_found icu_tests name (table es)) none in
    let a = none_named name [] _ found in
    let b = none_in_taken [] es None a.1 in
    printed_is_icu name fallback es a.0 held.0 held.1 b.0

-- a cause is in the way of each text
pub no_text : (name : List ℕ) (f : Bool) (t : Tree) (x : Cause)
    → first_cause icu_tests name t ≡ Some x → HasNoText IcuText name f t
no_text name f t x found = λ text keys b.
    none_some x (sym (no_cause text name f t keys b) ∙ found)
  where
    none_some : (x : Cause) → None ≡ Some x → ⊥
    none_some x e = cc
