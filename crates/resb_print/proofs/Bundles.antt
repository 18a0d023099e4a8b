-- The text that a bundle is printed as is a bundle text of its name, flag and tree.
use Rattle.std.proofs.Common.{◌≡◌, ℕ, ◌+◌, Bool, true, false, List, [], ◌∷◌, ◌++◌, length}
use Rattle.std.proofs.Common.{refl, sym, ◌∙◌, ap, subst, arith, Some, drop, zero, suc}
use Rattle.std.proofs.lemmas.List.{get_or_past}
use Rattle.std.specs.Prelude.{slice_index, slice_get, codes}
use Rattle.std.proofs.Common.{None}
use Rattle.std.specs.List.Sorted.{IsStrictlySortedBy}
use Rattle.resb_print.proofs.FreeTrees.{NoQuote, FreeIn}
use Rattle.resb_tree.specs.Tree.{Tree, table}
use Rattle.resb_tree.specs.Tree.{Entries, map_of}
use Rattle.resb_tree.specs.Maps.{text_cmp}
use Rattle.resb_tree.specs.LayingOrder.{entry_keys}
use Rattle.resb_grammar.specs.Ascii as ascii
use Rattle.resb_grammar.specs.ByteRuns.{is_word}
use Rattle.resb_grammar.specs.Lexical.{Skip, Blanks, none}
use Rattle.resb_grammar.specs.Items.{a_table, keys_in}
use Rattle.resb_grammar.specs.GroupTypes.{Stands, no_fallback_type}
use Rattle.resb_grammar.specs.BundleText.{first_places, Typing, without, with, BundleText}
use Rattle.resb_print.specs.Printed.{name_on, root_type_on, entries_on, printed_bundle}
use Rattle.resb_print.specs.Printed.{plain_spelling}
use Rattle.resb_print.specs.Held.{HeldIn}
use Rattle.resb_print.specs.declared.cause.Cause.{Cause}
use Rattle.resb_print.specs.Laws.{HasNoText, PrintedIsABundle}
use Rattle.resb_print.specs.Paths.{plain_tests, first_found, first_cause}
use Rattle.resb_print.proofs.Free.{no_quote_from_none, none_in_free, no_cause}
use Rattle.resb_print.proofs.Tracing.{nothing_found}
use Rattle.resb_print.proofs.Places.{From, byte_at, from_behind, from_next, solid_at, no_skip}
use Rattle.resb_print.proofs.Places.{at_end, from_inside}
use Rattle.resb_print.proofs.Places.{run_at, range_is, white_on, solid_byte}
use Rattle.resb_print.proofs.Words.{name_text, word_each}
use Rattle.resb_print.proofs.Groups.{Starts, entries_at, nothing_gathered, close_line}
use Rattle.resb_tree.proofs.MapsLemmas.{map_of-keyed_trees}

module _ (text : List ℕ) where
  get_at : (l : List ℕ) (at b : ℕ) (rest : List ℕ) → drop at l ≡ b ∷ rest → slice_get l at ≡ Some b
  get_at [] zero b rest e = absurd (cc)
  get_at [] (suc n) b rest e = absurd (cc)
  get_at (x ∷ l) zero b rest e = let f : x ≡ b = cc in ap Some f
  get_at (x ∷ l) (suc n) b rest e = get_at l n b rest e

  -- bytes that a text goes on with stand there
  pub stands : (w : List ℕ) {at : ℕ} (rest : List ℕ) → From text at (w ++ rest) → Stands text at w
  stands [] rest h = tt
  stands (b ∷ w) {at} rest h =
      (get_at text at b (w ++ rest) h.is, stands w rest (from_next text h))

  -- what stands between the name and the `{`
  record Typed (place : ℕ) (fallback : Bool) (rest : List ℕ) : Type 0 where
    brace : ℕ
    typing : Typing text place brace fallback
    opens : slice_index text brace ≡ ascii.left_brace
    after : From text (brace + 1) rest

  typed_at : (fallback : Bool) {place : ℕ} {rest : List ℕ}
      → From text place (root_type_on fallback (ascii.left_brace ∷ rest))
      → Typed place fallback rest
  typed_at true {place} {rest} h = record {
    brace = place;
    typing = without refl;
    opens = byte_at text h;
    after = from_next text h;
  }
  typed_at false {place} {rest} h =
      let open_brace = ascii.left_brace ∷ rest in
      let a : From text (place + 1) (codes "table" ++ (codes "(nofallback)" ++ open_brace)) =
      from_next text h in
      let b : From text (place + 1 + 5) (codes "(nofallback)" ++ open_brace) =
      from_behind text (codes "table") (codes "(nofallback)" ++ open_brace) a in
      let c : From text (place + 1 + 5 + 12) open_brace =
      from_behind text (codes "(nofallback)") open_brace b in
      record {
        brace = place + 1 + 5 + 12;
        typing = with (place + 1 + 5 + 12) false (no_fallback_type (place + 1 + 5) (record {
          colon = byte_at text h;
          run = run_at text is_word (codes "table") 40 _ a (word_each (codes "table") refl) refl;
          means = sym (range_is text (codes "table") _ a);
        }) (stands (codes "(nofallback)") open_brace b) refl)
            (no_skip text (solid_at text c refl refl));
        opens = byte_at text c;
        after = from_next text c;
      }

  -- the text of a bundle ends behind its `}`
  end_skip : {at : ℕ} → From text at (ascii.line_feed ∷ []) → Skip text at (length text)
  end_skip {at} h =
      let f = from_next text h in
      let e : at + 1 ≡ length text = omega (arith, at_end text f, from_inside text h) in
      let z : slice_index text (length text) ≡ 0 = get_or_past text (length text) 0 (omega arith) in
      record {
        blanks = white_on text h refl (subst (Blanks text (at + 1)) e (none (at + 1)));
        solid = solid_byte text (length text) 0 z refl refl;
      }

  pub root_starts : (fallback : Bool) (rest : List ℕ)
      → Starts (root_type_on fallback (ascii.left_brace ∷ rest))
  root_starts true rest = record {
    b = _;
    more = _;
    is = refl;
    no_word = refl;
    no_white = refl;
    no_slash = refl;
  }
  root_starts false rest = record {
    b = _;
    more = _;
    is = refl;
    no_word = refl;
    no_white = refl;
    no_slash = refl;
  }

  bundle_read : (name : List ℕ) (fallback : Bool) (es : Entries) → NoQuote name
      → IsStrictlySortedBy text_cmp (entry_keys es) → HeldIn es → FreeIn es
      → From text 0 (printed_bundle plain_spelling name fallback es)
      → (keys : List (List ℕ)) × BundleText text name fallback (table es) keys
  bundle_read name fallback es free ascend held frees h =
      let last = ascii.line_feed ∷ ascii.right_brace ∷ ascii.line_feed ∷ [] in
      let s = root_starts fallback (entries_on plain_spelling 1 es last) in
      let f : From text 0 (name_on name (s.b ∷ s.more)) =
      subst (λ l. From text 0 (name_on name l)) s.is h in
      let (solid, (ends, named, f2)) = name_text text name s.b s.more free f s.no_word in
      let t = typed_at fallback (subst (From text ends) (sym s.is) f2) in
      let r = entries_at text 1 es (t.brace + 1) (t.brace + 1) [] last held frees
      (nothing_gathered text (t.brace + 1)) refl t.after in
      let c = close_line text 0 r.after in
      let (first, skip, items) = r.gathered.read c.place c.skip in (
        first_places (keys_in a_table r.items),
        record {
          first = first;
          last = c.place;
          items = r.items;
          header = record {
            start = 0;
            ends = ends;
            place = ends;
            brace = t.brace;
            before = no_skip text solid;
            named = named;
            between = no_skip text (solid_at text f2 s.no_white s.no_slash);
            typed = t.typing;
            opens = t.opens;
            after = skip;
          };
          body = items;
          pairs = r.pairs;
          closes = c.brace;
          after = end_skip c.after;
          means = ap table (sym (map_of-keyed_trees es ascend))
              ∙ ap (λ l. table (map_of l)) (sym r.means);
          lists = refl;
        },
      )

-- the text that a bundle is printed as is a bundle text
pub printed_is_bundle : (name : List ℕ) (fallback : Bool) (es : Entries) → NoQuote name
    → IsStrictlySortedBy text_cmp (entry_keys es) → HeldIn es → FreeIn es
    → (keys : List (List ℕ))
    × BundleText (printed_bundle plain_spelling name fallback es) name fallback (table es) keys
printed_is_bundle name fallback es free ascend held frees =
    bundle_read (printed_bundle plain_spelling name fallback es) name fallback es free ascend held
    frees (record { is = refl })

-- so for what is printed of a bundle without a cause
pub printed_without_cause : PrintedIsABundle plain_tests plain_spelling BundleText
printed_without_cause = λ name fallback es held none.
    let found = nothing_found (first_found plain_tests name (table es)) none in
    let a = no_quote_from_none _ name [] _ found in
    let b = none_in_free [] es None a.1 in
    printed_is_bundle name fallback es a.0 held.0 held.1 b.0

-- a cause is in the way of each text
pub no_text : (name : List ℕ) (f : Bool) (t : Tree) (x : Cause)
    → first_cause plain_tests name t ≡ Some x → HasNoText BundleText name f t
no_text name f t x found = λ text keys b.
    none_some x (sym (no_cause text name f t keys b) ∙ found)
  where
    none_some : (x : Cause) → None ≡ Some x → ⊥
    none_some x e = cc
