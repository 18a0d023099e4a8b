-- What stands before the root's items leads to the root.
use Rattle.std.proofs.Common.{◌≡◌, ℕ, ◌+◌, Bool, true, List, refl, subst}
use Rattle.std.specs.Prelude.{slice_index}
use Rattle.resb_grammar.specs.Ascii as ascii
use Rattle.resb_grammar.specs.Lexical.{Skip, Text}
use Rattle.resb_grammar.specs.GroupTypes.{RootType}
use Rattle.resb_grammar.specs.BundleText.{Typing, without, with, Header}
use Rattle.resb_grammar.specs.Machine.{a_text, opening, a_root_type, start, named, inside, titled}
use Rattle.resb_grammar.specs.Machine.{at_root, At}
use Rattle.resb_grammar.proofs.Lex.{neither, root_types, text_class, open_class}
use Rattle.resb_grammar.proofs.Lex.{root_type_class}
use Rattle.resb_grammar.proofs.Moves.{begin, further, byte_class, class_text, root_colon}

module _ (text : List ℕ) where
  -- a text begins with the name of its bundle
  pub name_read : (at ends to : ℕ) (name : List ℕ) → Skip text 0 at → Text text at ends name
      → Skip text ends to → At text to (named name)
  name_read at ends to name skip t skip' =
      further text at ends to start (named name) (a_text name) text_class (begin text at skip)
      (class_text text at ends name t) (name, t, refl) refl skip'

  -- after the name and its type, if it has one
  pub typed_name : (name : List ℕ) (place i brace : ℕ) (f : Bool) → RootType text place i f
      → Skip text i brace → At text place (named name)
      → At text brace (titled (record { name = name; fallback = f }))
  typed_name name place i brace f t skip at =
      further text place i brace _ _ (a_root_type f) root_type_class at
      (byte_class text root_types place ascii.colon root_type_class (root_colon text place i f t)
      refl)
      (f, t, refl) refl skip

  -- the path to the first entry
  pub header_at : (name : List ℕ) (fallback : Bool) (to : ℕ) → Header text name fallback to
      → At text to (inside (at_root (record { name = name; fallback = fallback })))
  header_at name fallback to h =
      go fallback h.place h.brace h.typed
      (name_read h.start h.ends h.place name h.before h.named h.between) h.opens h.after
    where
      go : (f : Bool) (place brace : ℕ) → Typing text place brace f → At text place (named name)
          → slice_index text brace ≡ ascii.left_brace → Skip text (brace + 1) to
          → At text to (inside (at_root (record { name = name; fallback = f })))
      go true place brace (without e) at b skip =
          let here : At text brace (named name) = subst (λ n. At text n (named name)) e at in
          further text brace (brace + 1) to _ _ opening open_class here
          (byte_class text root_types brace ascii.left_brace open_class b refl) (refl, refl) refl
          skip
      go f place brace (with i _ t skip') at b skip =
          further text brace (brace + 1) to _ _ opening open_class
          (typed_name name place i brace f t skip' at)
          (byte_class text neither brace ascii.left_brace open_class b refl) (refl, refl) refl skip
