-- The laws of the grammar.
use Rattle.std.proofs.Common.{◌≡◌, ℕ, Bool, List, length, refl, sym, ◌∙◌, ap, subst, None, Some}
use Rattle.std.specs.Prelude.{slice_index}
use Rattle.std.specs.Option.{option_map}
use Rattle.resb_tree.specs.Tree.{Tree, binary}
use Rattle.resb_grammar.specs.Lexical.{Text}
use Rattle.resb_grammar.specs.Items.{Item, a_table, tree_in, keys_in}
use Rattle.resb_grammar.specs.Group.{hex_bytes}
use Rattle.resb_grammar.specs.BundleText.{first_places, BundleText}
use Rattle.resb_grammar.specs.Machine.{Token, a_text, a_number, opening, closing, a_comma, a_type}
use Rattle.resb_grammar.specs.Machine.{a_root_type, Title, Open, State, in_binary, filled, finished}
use Rattle.resb_grammar.specs.Machine.{next, At}
use Rattle.resb_grammar.specs.Stuck.{NoToken, IsEnd, HasDigits, expectation, Stuck, blocked}
use Rattle.resb_grammar.specs.Stuck.{no_pairs}
use Rattle.resb_grammar.specs.declared.expected.Expected.{Expected}
use Rattle.resb_grammar.specs.Token.{Means}
use Rattle.resb_grammar.proofs.Moves.{move_means, none_some}
use Rattle.resb_grammar.proofs.Unique.{Text-one, ends_once}
use Rattle.resb_grammar.proofs.Complete.{complete}

module _ (text : List ℕ) where
  -- behind the end of the root no token may stand
  pub no_token_finished : (at : ℕ) (title : Title) (xs : List Item)
      → NoToken text at (finished title xs)
  no_token_finished at title xs to u x = none_some u x.moves

  same_title : (t u : Title) (xs ys : List Item) → finished t xs ≡ finished u ys
      → (t ≡ u) × (xs ≡ ys)
  same_title t u xs ys e = (cc, cc)

  -- a text is a bundle in one way
  pub one_bundle : (name other : List ℕ) (fallback enabled : Bool) (tree root : Tree)
      (keys ks : List (List ℕ))
      → BundleText text name fallback tree keys → BundleText text other enabled root ks
      → (name ≡ other) × (fallback ≡ enabled) × (tree ≡ root) × (keys ≡ ks)
  one_bundle name other fallback enabled tree root keys ks b d =
      let p = complete text name fallback tree keys b in
      let q = complete text other enabled root ks d in
      let same = ends_once text p.tokens q.tokens (length text) (length text) _ _ p.path
      (no_token_finished (length text) (record {
        name = name;
        fallback = fallback;
      }) b.items) q.path
      (no_token_finished (length text) (record {
        name = other;
        fallback = enabled;
      }) d.items) in
      let parts = same_title _ _ _ _ same.1 in (
        ap (λ (t : Title). t.name) parts.0,
        ap (λ (t : Title). t.fallback) parts.0,
        b.means ∙ ap (tree_in a_table) parts.1 ∙ sym d.means,
        b.lists ∙ ap (λ (xs : List Item). first_places (keys_in a_table xs)) parts.1
            ∙ sym d.lists,
      )

  -- where a reading ends elsewhere, the text is no bundle
  ends_elsewhere : (at : ℕ) (s : State) → At text at s → NoToken text at s → (IsEnd text at s → ⊥)
      → (name : List ℕ) (fallback : Bool) (tree : Tree) (keys : List (List ℕ))
      → BundleText text name fallback tree keys → ⊥
  ends_elsewhere at s reached none no_end name fallback tree keys b =
      let p = complete text name fallback tree keys b in
      let same = ends_once text reached.tokens p.tokens at
      (length text) s _ reached.path none p.path
      (no_token_finished (length text) (record { name = name; fallback = fallback }) b.items) in
      no_end (subst (λ (u : State). IsEnd text at u) (sym same.1) same.0)

  -- a string that isn't pairs of hex digits leads nowhere
  pub no_pairs_token : (at to : ℕ) (o : Open) (s : List ℕ) → Text text at to s → hex_bytes s ≡ None
      → NoToken text at (in_binary o)
  no_pairs_token at to o s w e r u x = go x.token (move_means text at r (in_binary o) u x) x.moves
    where
      go : (t : Token) → Means text at r t → next (in_binary o) t ≡ Some u → ⊥
      go (a_text s') m h =
          let same : s' ≡ s = (Text-one text at r to s' s m w).1 in
          let nowhere : option_map (λ bs. filled (binary bs) o) (hex_bytes s') ≡ None = ap
          (λ n. option_map (λ bs. filled (binary bs) o) (hex_bytes n)) same
          ∙ ap (option_map (λ bs. filled (binary bs) o)) e in
          none_some u (sym nowhere ∙ h)
      go (a_number v) m h = none_some u h
      go opening m h = none_some u h
      go closing m h = none_some u h
      go a_comma m h = none_some u h
      go (a_type kind) m h = none_some u h
      go (a_root_type fallback) m h = none_some u h

  -- what gets stuck is no bundle
  pub stuck_none : (at : ℕ) (x : Expected) → Stuck text at x
      → (name : List ℕ) (fallback : Bool) (tree : Tree) (keys : List (List ℕ))
      → BundleText text name fallback tree keys → ⊥
  stuck_none at x (blocked s h) name fallback tree keys b =
      ends_elsewhere at s h.reached h.none h.no_end name fallback tree keys b
  stuck_none at x (no_pairs o to s reached w e) name fallback tree keys b =
      ends_elsewhere at (in_binary o) reached (no_pairs_token at to o s w e)
      (λ h. h) name fallback tree keys b

  -- a reading gets stuck once
  pub one_stuck : (at place : ℕ) (x y : Expected) → Stuck text at x → Stuck text place y
      → (at ≡ place) × (x ≡ y)
  one_stuck at place x y (blocked s h) (blocked u k) =
      let same = ends_once text h.reached.tokens k.reached.tokens at place s u h.reached.path h.none
      k.reached.path k.none in (
        same.0,
        ap (λ n. expectation s (slice_index text n)) same.0
            ∙ ap (λ (v : State). expectation v (slice_index text place)) same.1,
      )
  one_stuck at place x y (blocked s h) (no_pairs o to w reached t e) =
      let same = ends_once text h.reached.tokens reached.tokens at place s
      (in_binary o) h.reached.path h.none reached.path (no_pairs_token place to o w t e) in
      absurd (h.no_digits (subst (λ n. HasDigits text n s) (sym same.0)
      (subst (λ (v : State). HasDigits text place v) (sym same.1) (to, w, t))))
  one_stuck at place x y (no_pairs o to w reached t e) (blocked u k) =
      let same = ends_once text reached.tokens k.reached.tokens at place
      (in_binary o) u reached.path (no_pairs_token at to o w t e) k.reached.path k.none in
      absurd (k.no_digits (subst (λ n. HasDigits text n u) same.0
      (subst (λ (v : State). HasDigits text at v) same.1 (to, w, t))))
  one_stuck at place x y (no_pairs o to w reached t e) (no_pairs p to' w' reached' t' e') =
      let same = ends_once text reached.tokens reached'.tokens at place (in_binary o)
      (in_binary p) reached.path (no_pairs_token at to o w t e) reached'.path
      (no_pairs_token place to' p w' t' e') in
      (same.0, refl)
