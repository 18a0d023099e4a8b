-- Laws of types of groups and of the root, as the reader's functions use them.
use Rattle.std.proofs.Common.{◌≡◌, ◌≢◌, ℕ, suc, ◌+◌, ◌<◌, Bool, true, false, List, ◌∷◌, length}
use Rattle.std.proofs.Common.{get_or, drop, refl, sym, ap, subst, Some, drop-cons}
use Rattle.std.specs.Prelude.{slice_get, slice_index, codes}
use Rattle.resb_grammar.specs.Ascii as ascii
use Rattle.resb_grammar.specs.GroupTypes.{Stands, NoFallback}
use Rattle.resb_icu_grammar.specs.declared.group_kind.IcuKind.{IcuKind as Kind}
use Rattle.resb_icu_grammar.specs.declared.group_kind.IcuKind.TheVariants.{Table as table_kind}
use Rattle.resb_icu_grammar.specs.Blanks.{Skip}
use Rattle.resb_icu_grammar.specs.Kinds.{Names}
use Rattle.resb_icu_grammar.specs.Words.{Word, TypeName, GroupType, RootType, table_type}
use Rattle.resb_icu_grammar.specs.Words.{no_fallback_type}
use Rattle.resb_icu_grammar.specs.Expected.{instead_of}
use Rattle.resb_icu_grammar.specs.Stuck.{TypeStuck, no_type_name, no_tree}
use Rattle.resb_icu_grammar.specs.declared.expected.IcuExpected.{IcuExpected}
use Rattle.resb_icu_grammar.specs.declared.expected.IcuExpected.TheVariants as expect
use Rattle.resb_icu_text.specs.declared.error.IcuTextError.{IcuTextError}
use Rattle.resb_icu_grammar.proofs.Types.{no_type_there}
use Rattle.resb_icu_grammar.proofs.Lexical.{GroupType-one, Skip-one}

-- where the first byte is another, the bytes do not stand
pub not_there : (text xs : List ℕ) (here i : ℕ) → i < length xs
    → (slice_get text here ≡ Some (get_or xs i 0) → ⊥) → Stands text here (drop i xs) → ⊥
not_there text xs here i low never s =
    let k : Stands text here (get_or xs i 0 ∷ drop (suc i) xs) =
    subst (λ (ys : List ℕ). Stands text here ys) (drop-cons xs i 0 low) s in
    never k.0

module _ (text : List ℕ) (at : ℕ) where
  -- an error that says where no type stands
  says_stuck : (e : IcuTextError) (x : IcuExpected) → e ≡ record { position = at; expected = x }
      → TypeStuck text at x → (e.position ≡ at) × TypeStuck text at e.expected
  says_stuck e x h s = (
    ap (λ (f : IcuTextError). f.position) h,
    subst (λ (f : IcuTextError). TypeStuck text at f.expected) (sym h) s,
  )

  -- where no word stands behind the colon and blanks, no type does
  pub no_type_word : (e : IcuTextError) (place : ℕ)
      → e ≡ record { position = at; expected = expect.GroupType } → Skip text (at + 1) place
      → ((to : ℕ) (s : List ℕ) → Word text place to s → ⊥)
      → (e.position ≡ at) × TypeStuck text at e.expected
  no_type_word e place h between never =
      says_stuck e expect.GroupType h (no_type_name (λ to s n. never to s
      (subst (λ i. Word text i to s)
      (Skip-one text (at + 1) n.place place n.between between) n.word)))

  -- a word that names no type of a tree
  pub no_tree_word : (e : IcuTextError) (place to : ℕ) (s : List ℕ)
      → e ≡ record { position = at; expected = instead_of s }
      → slice_index text at ≡ ascii.colon → Skip text (at + 1) place → Word text place to s
      → ((kind : Kind) → Names s kind → ⊥) → (e.position ≡ at) × TypeStuck text at e.expected
  no_tree_word e place to s h c between w never =
      says_stuck e (instead_of s) h
      (no_tree to s (record { place = place; colon = c; between = between; word = w }) never)

  -- a table with `(nofallback)` behind it
  pub root_off : (to : ℕ) → GroupType text at to table_kind → NoFallback text to
      → RootType text at (to + 12) false
  root_off to g n =
      no_fallback_type to (subst (λ (w : List ℕ). TypeName text at to w) g.names g.stands) n refl

  -- a table without it
  pub root_on : (to : ℕ) → GroupType text at to table_kind → (NoFallback text to → ⊥)
      → RootType text at to true
  root_on to g never =
      table_type (subst (λ (w : List ℕ). TypeName text at to w) g.names g.stands) never

  -- a root's type begins with a group's
  root_group : (to : ℕ) (fallback : Bool) → RootType text at to fallback
      → (i : ℕ) × GroupType text at i table_kind
  root_group to true (table_type w never) =
      (to, record { name = codes "table"; stands = w; names = refl })
  root_group to false (no_fallback_type i w n e) =
      (i, record { name = codes "table"; stands = w; names = refl })

  -- where no group's type stands, no root's does
  pub no_root : (x : IcuExpected) → TypeStuck text at x
      → (to : ℕ) (fallback : Bool) → RootType text at to fallback → ⊥
  no_root x s to fallback r =
      let g = root_group to fallback r in no_type_there text at x s g.0 table_kind g.1

  -- where another type stands, no root's does
  pub other_root : (i : ℕ) (kind : Kind) → GroupType text at i kind → kind ≢ table_kind
      → (to : ℕ) (fallback : Bool) → RootType text at to fallback → ⊥
  other_root i kind g ne to fallback r =
      let h = root_group to fallback r in
      ne (GroupType-one text at i h.0 kind table_kind g h.1).1

-- which types stand there, and which don't
pub ruleset types_of_words = (no_type_word, no_tree_word)

pub ruleset types_of_roots = (root_off, root_on, other_root, no_root)
