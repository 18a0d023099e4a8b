-- Where a group begins, and what stands in one with a type: what the rest of the text has to be is
-- the same before and behind.
use Rattle.std.proofs.Common.{◌≡◌, ◌≢◌, ℕ, ◌+◌, List, [], ◌++◌}
use Rattle.std.proofs.Common.{subst, sym, refl}
use Rattle.std.proofs.Common.{append-nil}
use Rattle.std.specs.Prelude.{slice_index}
use Rattle.resb_grammar.specs.Ascii as ascii
use Rattle.resb_icu_grammar.specs.Kinds.{Kind, array_kind, table_kind}
use Rattle.resb_tree.specs.Tree.{Tree, array, table, trees_of, map_of}
use Rattle.resb_icu_grammar.specs.Blanks.{Skip}
use Rattle.resb_icu_grammar.specs.Groups.{TypedOpening, LeafContent, nothing}
use Rattle.resb_icu_grammar.specs.Groups.{Untyped}
use Rattle.resb_icu_grammar.specs.Groups.{Typed, members, entries, leaf, Group, untyped, typed}
use Rattle.resb_icu_grammar.specs.Inner.Rest.{Goal, RestOfMembers, RestOfEntries}
use Rattle.resb_icu_grammar.specs.Inner.Rest.{RestOfGroup}
use Rattle.resb_icu_grammar.specs.Inner.Rest.{RestOfUntyped, RestOfTyped, Same}
use Rattle.resb_icu_grammar.specs.Inner.Rest.{Never}
use Rattle.resb_icu_grammar.proofs.Lexical.{Skip-one}
use Rattle.resb_icu_grammar.proofs.Groups.{Closes}
use Rattle.resb_icu_grammar.proofs.Groups.{no_brace_colon, TypedOpening-one, LeafContent-one}
use Rattle.resb_icu_grammar.proofs.RestLists.{entries_distinct}

module _ (text : List ℕ) (goal : Goal) where
  -- a `{` begins a group without a type
  pub untyped_begins : (at i : ℕ) (ks : List (List ℕ)) → slice_index text at ≡ ascii.left_brace
      → Skip text (at + 1) i → Same (RestOfGroup text goal at ks) (RestOfUntyped text goal i ks)
  untyped_begins at i ks e s m = (there, back)
    where
      there : RestOfGroup text goal at ks m → RestOfUntyped text goal i ks m
      there h = of_group h.to h.tree h.keys h.group h.then
        where
          of_group : (to : ℕ) (t : Tree) (js : List (List ℕ)) → Group text at to t js
              → goal to t (ks ++ js) m → RestOfUntyped text goal i ks m
          of_group _ t js (untyped _ j k _ _ f z u c) g =
              record {
                to = k;
                tree = t;
                keys = js;
                content = subst (λ w. Untyped text w k t js) (Skip-one text (at + 1) j i z s) u;
                closes = c;
                then = g;
              }
          of_group _ t js (typed _ j k kind _ _ f u c) g =
              absurd (no_brace_colon text at e f.named.stands.colon)

      back : RestOfUntyped text goal i ks m → RestOfGroup text goal at ks m
      back h = record {
        to = h.to + 1;
        tree = h.tree;
        keys = h.keys;
        group = untyped at i h.to h.tree h.keys e s h.content h.closes;
        then = h.then;
      }

  -- a type, its `{` and blanks begin a group of that type
  pub typed_begins : (at i : ℕ) (kind : Kind) (ks : List (List ℕ)) → TypedOpening text at kind i
      → Same (RestOfGroup text goal at ks) (RestOfTyped text goal kind i ks)
  typed_begins at i kind ks d m = (there, back)
    where
      there : RestOfGroup text goal at ks m → RestOfTyped text goal kind i ks m
      there h = of_group h.to h.tree h.keys h.group h.then
        where
          of_group : (to : ℕ) (t : Tree) (js : List (List ℕ)) → Group text at to t js
              → goal to t (ks ++ js) m → RestOfTyped text goal kind i ks m
          of_group _ t js (untyped _ j k _ _ f z u c) g =
              absurd (no_brace_colon text at f d.named.stands.colon)
          of_group _ t js (typed _ j k other _ _ f u c) g =
              let same = TypedOpening-one text at j i other kind f d in
              record {
                to = k;
                tree = t;
                keys = js;
                content = subst (λ w. Typed text w i k t js) same.0
                    (subst (λ w. Typed text other w k t js) same.1 u);
                closes = c;
                then = g;
              }

      back : RestOfTyped text goal kind i ks m → RestOfGroup text goal at ks m
      back h = record {
        to = h.to + 1;
        tree = h.tree;
        keys = h.keys;
        group = typed at i h.to kind h.tree h.keys d h.content h.closes;
        then = h.then;
      }

  -- where neither a brace nor a type with its brace stands, no group does
  pub no_group_begins : (at : ℕ) (ks : List (List ℕ)) → slice_index text at ≢ ascii.left_brace
      → ((kind : Kind) (i : ℕ) → TypedOpening text at kind i → ⊥) → Never
      (RestOfGroup text goal at ks)
  no_group_begins at ks e f m h = of_group h.to h.tree h.keys h.group
    where
      of_group : (to : ℕ) (t : Tree) (js : List (List ℕ)) → Group text at to t js → ⊥
      of_group _ t js (untyped _ j k _ _ g z u c) = e g
      of_group _ t js (typed _ j k kind _ _ g u c) = f kind j g

  -- in `:array{` members follow
  pub array_begins : (i : ℕ) (ks : List (List ℕ))
      → Same (RestOfTyped text goal array_kind i ks) (RestOfMembers text goal nothing [] i ks)
  array_begins i ks m = (there, back)
    where
      there : RestOfTyped text goal array_kind i ks m → RestOfMembers text goal nothing [] i ks m
      there h = of_typed h.to h.tree h.keys h.content h.closes h.then
        where
          of_typed : (to : ℕ) (t : Tree) (js : List (List ℕ)) → Typed text array_kind i to t js
              → Closes text to → goal (to + 1) t (ks ++ js) m
              → RestOfMembers text goal nothing [] i ks m
          of_typed to _ js (members _ _ ts _ p) c g = record {
            to = to;
            more = ts;
            keys = js;
            members = p;
            closes = c;
            then = g;
          }
          of_typed to t js (leaf _ _ _ _ p) c g = elim p [ ]

      back : RestOfMembers text goal nothing [] i ks m → RestOfTyped text goal array_kind i ks m
      back h = record {
        to = h.to;
        tree = array (trees_of h.more);
        keys = h.keys;
        content = members i h.to h.more h.keys h.members;
        closes = h.closes;
        then = h.then;
      }

  -- in `:table{` entries follow
  pub table_begins : (i : ℕ) (ks : List (List ℕ))
      → Same (RestOfTyped text goal table_kind i ks) (RestOfEntries text goal [] i ks)
  table_begins i ks m = (there, back)
    where
      there : RestOfTyped text goal table_kind i ks m → RestOfEntries text goal [] i ks m
      there h = of_typed h.to h.tree h.keys h.content h.closes h.then
        where
          of_typed : (to : ℕ) (t : Tree) (js : List (List ℕ)) → Typed text table_kind i to t js
              → Closes text to → goal (to + 1) t (ks ++ js) m → RestOfEntries text goal [] i ks m
          of_typed to _ js (entries _ _ es _ p) c g = record {
            to = to;
            more = es;
            keys = js;
            entries = p;
            closes = c;
            distinct = entries_distinct text i to es js p;
            then = g;
          }
          of_typed to t js (leaf _ _ _ _ p) c g = elim p [ ]

      back : RestOfEntries text goal [] i ks m → RestOfTyped text goal table_kind i ks m
      back h = record {
        to = h.to;
        tree = table (map_of h.more);
        keys = h.keys;
        content = entries i h.to h.more h.keys h.entries;
        closes = h.closes;
        then = h.then;
      }

  -- in a group of another type its content follows
  pub leaf_is_group : (kind : Kind) (i to : ℕ) (t : Tree) (ks : List (List ℕ))
      → LeafContent text i to kind t → Closes text to
      → Same (RestOfTyped text goal kind i ks) (goal (to + 1) t ks)
  leaf_is_group kind i to t ks p c m = (there, back)
    where
      there : RestOfTyped text goal kind i ks m → goal (to + 1) t ks m
      there h = of_typed kind p h.to h.tree h.keys h.content h.closes h.then
        where
          of_typed : (k : Kind) → LeafContent text i to k t → (at : ℕ) (u : Tree)
              (js : List (List ℕ)) → Typed text k i at u js → Closes text at
              → goal (at + 1) u (ks ++ js) m → goal (to + 1) t ks m
          of_typed _ q at _ js (members _ _ ts _ r) d g = elim q [ ]
          of_typed _ q at _ js (entries _ _ es _ r) d g = elim q [ ]
          of_typed k q at u _ (leaf _ _ _ _ r) d g =
              let same = LeafContent-one text i at to k u t r q d c in
              subst (λ w. goal (to + 1) w ks m) same.1
              (subst (λ w. goal (w + 1) u ks m) same.0
              (subst (λ l. goal (at + 1) u l m) (append-nil ks) g))

      back : goal (to + 1) t ks m → RestOfTyped text goal kind i ks m
      back g = record {
        to = to;
        tree = t;
        keys = [];
        content = leaf kind i to t p;
        closes = c;
        then = subst (λ l. goal (to + 1) t l m) (sym (append-nil ks)) g;
      }

  -- a group of another type than array and table has content, or no meaning
  pub no_leaf : (kind : Kind) (i : ℕ) (ks : List (List ℕ)) → kind ≢ array_kind → kind ≢ table_kind
      → ((to : ℕ) (t : Tree) → LeafContent text i to kind t → Closes text to → ⊥)
      → Never (RestOfTyped text goal kind i ks)
  no_leaf kind i ks a b f m h = of_typed kind a b f h.to h.tree h.keys h.content h.closes
    where
      of_typed : (k : Kind) → k ≢ array_kind → k ≢ table_kind
          → ((to : ℕ) (t : Tree) → LeafContent text i to k t → Closes text to → ⊥)
          → (at : ℕ) (u : Tree) (js : List (List ℕ)) → Typed text k i at u js → Closes text at → ⊥
      of_typed _ a b f at _ js (members _ _ ts _ r) d = a refl
      of_typed _ a b f at _ js (entries _ _ es _ r) d = b refl
      of_typed k a b f at u _ (leaf _ _ _ _ r) d = f at u r d
