-- Every key of the tree of a text in ICU's form is among its discovered keys.
use Rattle.std.proofs.Common.{◌≡◌, ℕ, List, ◌∷◌, ◌⊎◌, inl, inr, ⊎_elim, Bool, true}
use Rattle.std.proofs.Common.{false, sym, subst}
use Rattle.std.proofs.lemmas.Bool.{false≢true}
use Rattle.std.specs.Prelude.{Contains}
use Rattle.resb_tree.specs.Tree.{Tree, no_entries, trees_of, table, map_of}
use Rattle.resb_tree.specs.Keys.{is_key, is_key_in}
use Rattle.resb_icu_grammar.specs.Kinds.{Kind}
use Rattle.resb_grammar.proofs.Listed.{In, in_left, in_right, KeyOf, put_all_key}
use Rattle.resb_grammar.proofs.Numbers.{one_of_or}
use Rattle.resb_grammar.proofs.Listed.{first_place, contains}
use Rattle.resb_icu_grammar.specs.Groups.{Last, Members, no_member, string_member, group_member}
use Rattle.resb_icu_grammar.specs.Groups.{comma_behind, Entries, no_entry, one_entry, Untyped}
use Rattle.resb_icu_grammar.specs.Groups.{an_empty_array, one_string, an_array, a_table, Typed}
use Rattle.resb_icu_grammar.specs.Groups.{members, entries, leaf, Group, untyped, typed}
use Rattle.resb_icu_grammar.specs.Groups.{LeafContent, string_content, alias_content}
use Rattle.resb_icu_grammar.specs.Groups.{binary_content}
use Rattle.resb_icu_grammar.specs.Groups.{integer_content, no_numbers, numbers}
use Rattle.resb_icu_grammar.specs.Bundle.{IcuText}

leaf_listed : (text : List ℕ) (from to : ℕ) (kind : Kind) (t : Tree)
    → LeafContent text from to kind t → (k : List ℕ) → is_key k t ≡ true → ⊥
leaf_listed text from to kind t (string_content i s x y) k e = false≢true e
leaf_listed text from to kind t (alias_content i s x y) k e = false≢true e
leaf_listed text from to kind t (binary_content i s bytes x y z) k e = false≢true e
leaf_listed text from to kind t (integer_content i v x y) k e = false≢true e
leaf_listed text from to kind t (no_numbers x) k e = false≢true e
leaf_listed text from to kind t (numbers ns x) k e = false≢true e

-- a key of a table is one of its pairs, or of their trees
table_key : (k : List ℕ) (es : List (List ℕ × Tree)) → is_key k (table (map_of es)) ≡ true
    → KeyOf k es
table_key k es e = ⊎_elim (λ (w : KeyOf k es). w) (λ (w : false ≡ true). absurd (false≢true w))
    (put_all_key k es no_entries e)

mutual
  members_list : (text : List ℕ) (last : Last) (from to : ℕ) (ts : List Tree)
      (ks : List (List ℕ)) → Members text last from to ts ks → (k : List ℕ)
      → is_key_in k (trees_of ts) ≡ true → In k ks
  members_list text last from to ts ks (no_member _ _) k e = absurd (false≢true e)
  members_list text last from to ts ks (string_member _ _ i j _ s us _ x y z r) k e =
      members_list text _ j to us ks r k e
  members_list text last from to ts ks (group_member _ _ i j _ t js ls us g z r) k e =
      ⊎_elim (λ (w : is_key k t ≡ true). in_left k js ls (group_lists text from i t js g k w))
      (λ (w : is_key_in k (trees_of us) ≡ true).
      in_right k js ls (members_list text _ j to us ls r k w))
      (one_of_or (is_key k t) (is_key_in k (trees_of us)) e)
  members_list text last from to ts ks (comma_behind _ _ j _ _ _ x y z r) k e =
      members_list text _ j to ts ks r k e

  entries_list : (text : List ℕ) (from to : ℕ) (es : List (List ℕ × Tree))
      (ks : List (List ℕ)) → Entries text from to es ks → (k : List ℕ) → KeyOf k es → In k ks
  entries_list text from to es ks (no_entry _) k e = absurd e
  entries_list text from to es ks (one_entry _ i j m n _ l t fs js is x y g s r w) k e =
      ⊎_elim (λ (h : (k ≡ l) ⊎ (is_key k t ≡ true)). ⊎_elim (λ (a : k ≡ l). inl a)
      (λ (a : is_key k t ≡ true). inr (in_left k js is (group_lists text j m t js g k a))) h)
      (λ (h : KeyOf k fs). inr (in_right k js is (entries_list text n to fs is r k h))) e

  untyped_lists : (text : List ℕ) (from to : ℕ) (t : Tree) (ks : List (List ℕ))
      → Untyped text from to t ks → (k : List ℕ) → is_key k t ≡ true → In k ks
  untyped_lists text from to t ks (an_empty_array _) k e = absurd (false≢true e)
  untyped_lists text from to t ks (one_string _ i _ s x y) k e = absurd (false≢true e)
  untyped_lists text from to t ks (an_array _ _ ts _ b r) k e =
      members_list text _ from to ts ks r k e
  untyped_lists text from to t ks (a_table _ _ f es _ r) k e =
      entries_list text from to (f ∷ es) ks r k (table_key k (f ∷ es) e)

  typed_lists : (text : List ℕ) (kind : Kind) (from to : ℕ) (t : Tree) (ks : List (List ℕ))
      → Typed text kind from to t ks → (k : List ℕ) → is_key k t ≡ true → In k ks
  typed_lists text kind from to t ks (members _ _ ts _ r) k e =
      members_list text _ from to ts ks r k e
  typed_lists text kind from to t ks (entries _ _ es _ r) k e =
      entries_list text from to es ks r k (table_key k es e)
  typed_lists text kind from to t ks (leaf _ _ _ _ c) k e =
      absurd (leaf_listed text from to kind t c k e)

  group_lists : (text : List ℕ) (from to : ℕ) (t : Tree) (ks : List (List ℕ))
      → Group text from to t ks → (k : List ℕ) → is_key k t ≡ true → In k ks
  group_lists text from to t ks (untyped _ i j _ _ x y u z) k e =
      untyped_lists text i j t ks u k e
  group_lists text from to t ks (typed _ i j kind _ _ x u z) k e =
      typed_lists text kind i j t ks u k e

-- each key of a text's tree is among those that its reader hands on
pub listed : (text name : List ℕ) (fallback : Bool) (t : Tree) (ks : List (List ℕ))
    → IcuText text name fallback t ks → (k : List ℕ) → is_key k t ≡ true → Contains ks k
listed text name fallback t ks b k e = subst (λ js. Contains js k) (sym b.lists)
    (contains k _ (first_place k _ (entries_list text b.first b.last b.entries b.places b.body k
    (table_key k b.entries (subst (λ u. is_key k u ≡ true) b.means e)))))
