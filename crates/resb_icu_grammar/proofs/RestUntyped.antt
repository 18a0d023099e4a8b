-- What stands in a group without a type, by its first two tokens: what the rest of the text has to
-- be is the same before and behind.
use Rattle.std.proofs.Common.{◌≡◌, ◌≢◌, ℕ, ◌+◌, List, [], ◌∷◌, ◌++◌}
use Rattle.std.proofs.Common.{arith, subst, sym, refl, ◌∙◌, ap, ◌⊎◌, ⊎_elim}
use Rattle.std.proofs.Common.{append-nil}
use Rattle.std.specs.Prelude.{slice_index}
use Rattle.resb_grammar.specs.Ascii as ascii
use Rattle.resb_tree.specs.Tree.{Tree, string, array, table, trees_of, map_of}
use Rattle.resb_icu_grammar.specs.Blanks.{Skip}
use Rattle.resb_icu_grammar.specs.Words.{Text, KeyText}
use Rattle.resb_icu_grammar.specs.Groups.{nothing}
use Rattle.resb_icu_grammar.specs.Groups.{BeginsArray, with_a_group}
use Rattle.resb_icu_grammar.specs.Groups.{with_a_string}
use Rattle.resb_icu_grammar.specs.Groups.{Entries, no_entry, one_entry}
use Rattle.resb_icu_grammar.specs.Groups.{Untyped, an_empty_array, one_string, an_array, a_table}
use Rattle.resb_icu_grammar.specs.Inner.Rest.{Goal, RestOfMembers, RestOfEntries}
use Rattle.resb_icu_grammar.specs.Inner.Rest.{RestOfUntyped, Same}
use Rattle.resb_icu_grammar.specs.Inner.Rest.{Never}
use Rattle.resb_icu_grammar.proofs.Lexical.{String-one, key_string}
use Rattle.resb_icu_grammar.proofs.Groups.{Closes, no_string, string_skipped}
use Rattle.resb_icu_grammar.proofs.Groups.{group_first}
use Rattle.resb_icu_grammar.proofs.Groups.{no_array, no_string_array, no_string_table}
use Rattle.resb_icu_grammar.proofs.Groups.{no_array_table}
use Rattle.resb_icu_grammar.proofs.RestLists.{entries_distinct}

module _ (text : List ℕ) (goal : Goal) where
  -- nothing stands in an empty group without a type, which is an array
  pub empty_is_array : (i : ℕ) (ks : List (List ℕ)) → Closes text i
      → Same (RestOfUntyped text goal i ks) (goal (i + 1) (array (trees_of [])) ks)
  empty_is_array i ks c m = (there, back)
    where
      there : RestOfUntyped text goal i ks m → goal (i + 1) (array (trees_of [])) ks m
      there h = of_untyped h.to h.tree h.keys h.content h.then
        where
          of_untyped : (to : ℕ) (t : Tree) (js : List (List ℕ)) → Untyped text i to t js
              → goal (to + 1) t (ks ++ js) m → goal (i + 1) (array (trees_of [])) ks m
          of_untyped to _ js (an_empty_array _) g =
              subst (λ l. goal (i + 1) (array (trees_of [])) l m) (append-nil ks) g
          of_untyped to _ js (one_string _ j _ s p k) g = absurd (no_string text i j _ s p c refl)
          of_untyped to _ js (an_array _ _ us _ b r) g = absurd (no_array text i b c)
          of_untyped to _ js
              (a_table _ _ _ _ _ (one_entry _ j n o q _ k v _ zs _ p l x y r w)) g =
              absurd (no_string text i j _ k (key_string text i j k p) c refl)

      back : goal (i + 1) (array (trees_of [])) ks m → RestOfUntyped text goal i ks m
      back g = record {
        to = i;
        tree = array (trees_of []);
        keys = [];
        content = an_empty_array i;
        closes = c;
        then = subst (λ l. goal (i + 1) (array (trees_of [])) l m) (sym (append-nil ks)) g;
      }

  -- what begins as an array is one
  pub untyped_array : (i : ℕ) (ks : List (List ℕ)) → BeginsArray text i
      → Same (RestOfUntyped text goal i ks) (RestOfMembers text goal nothing [] i ks)
  untyped_array i ks b m = (there, back)
    where
      there : RestOfUntyped text goal i ks m → RestOfMembers text goal nothing [] i ks m
      there h = of_untyped h.to h.tree h.keys h.content h.closes h.then
        where
          of_untyped : (to : ℕ) (t : Tree) (js : List (List ℕ)) → Untyped text i to t js
              → Closes text to → goal (to + 1) t (ks ++ js) m
              → RestOfMembers text goal nothing [] i ks m
          of_untyped to _ js (an_empty_array _) c g = absurd (no_array text i b c)
          of_untyped to _ js (one_string _ j _ s p k) c g =
              absurd (no_string_array text i j to s p k c b)
          of_untyped to _ js (an_array _ _ us _ b' r) c g = record {
            to = to;
            more = us;
            keys = js;
            members = r;
            closes = c;
            then = g;
          }
          of_untyped to _ js
              (a_table _ _ _ _ _ (one_entry _ j n o q _ k v _ zs _ p l x y r w)) c g =
              absurd (no_array_table text i j n o k v zs p l x b)

      back : RestOfMembers text goal nothing [] i ks m → RestOfUntyped text goal i ks m
      back h = record {
        to = h.to;
        tree = array (trees_of h.more);
        keys = h.keys;
        content = an_array i h.to h.more h.keys b h.members;
        closes = h.closes;
        then = h.then;
      }

  -- one string and a `}` are a String
  pub untyped_string : (i j k : ℕ) (s : List ℕ) (ks : List (List ℕ)) → Text text i j s
      → Skip text j k → Closes text k
      → Same (RestOfUntyped text goal i ks) (goal (k + 1) (string s) ks)
  untyped_string i j k s ks p l c m = (there, back)
    where
      there : RestOfUntyped text goal i ks m → goal (k + 1) (string s) ks m
      there h = of_untyped h.to h.tree h.keys h.content h.closes h.then
        where
          of_untyped : (to : ℕ) (t : Tree) (js : List (List ℕ)) → Untyped text i to t js
              → Closes text to → goal (to + 1) t (ks ++ js) m → goal (k + 1) (string s) ks m
          of_untyped to _ js (an_empty_array _) d g = absurd (no_string text i j _ s p d refl)
          of_untyped to _ js (one_string _ n _ q x o) d g =
              let both = string_skipped text i n j to k q s x o p l in
              subst (λ w. goal (k + 1) (string w) ks m) both.1
              (subst (λ w. goal (w + 1) (string q) ks m) both.0
              (subst (λ w. goal (to + 1) (string q) w m) (append-nil ks) g))
          of_untyped to _ js (an_array _ _ us _ b r) d g =
              absurd (no_string_array text i j k s p l c b)
          of_untyped to _ js
              (a_table _ _ _ _ _ (one_entry _ j' n o q _ y v _ zs _ x l' z u r w)) d g =
              absurd (no_string_table text i j j' k n o s y v zs p l x l' z c)

      back : goal (k + 1) (string s) ks m → RestOfUntyped text goal i ks m
      back g = record {
        to = k;
        tree = string s;
        keys = [];
        content = one_string i j k s p l;
        closes = c;
        then = subst (λ w. goal (k + 1) (string s) w m) (sym (append-nil ks)) g;
      }

  -- a key and a group are a table
  pub untyped_table : (i j k : ℕ) (s : List ℕ) (ks : List (List ℕ)) → KeyText text i j s
      → Skip text j k → (slice_index text k ≡ ascii.left_brace) ⊎ (slice_index text k ≡ ascii.colon)
      → Same (RestOfUntyped text goal i ks) (RestOfEntries text goal [] i ks)
  untyped_table i j k s ks p l f m = (there, back)
    where
      p' : Text text i j s
      p' = key_string text i j s p

      other : (at b : ℕ) → at ≡ k → slice_index text at ≡ b → b ≢ ascii.left_brace
          → b ≢ ascii.colon → ⊥
      other at b e g x y = ⊎_elim
          (λ (w : slice_index text k ≡ ascii.left_brace).
          x (sym g ∙ ap (λ n. slice_index text n) e ∙ w))
          (λ (w : slice_index text k ≡ ascii.colon).
          y (sym g ∙ ap (λ n. slice_index text n) e ∙ w)) f

      no_such_array : BeginsArray text i → ⊥
      no_such_array (with_a_group g) = ⊎_elim
          (λ (e : slice_index text i ≡ ascii.left_brace). no_string text i j _ s p' e refl)
          (λ (e : slice_index text i ≡ ascii.colon). no_string text i j _ s p' e refl) g
      no_such_array (with_a_string n o q x y e) =
          other o _ (string_skipped text i n j o k q s x y p' l).0 e (λ w. omega arith)
          (λ w. omega arith)

      there : RestOfUntyped text goal i ks m → RestOfEntries text goal [] i ks m
      there h = of_untyped h.to h.tree h.keys h.content h.closes h.then
        where
          of_untyped : (to : ℕ) (t : Tree) (js : List (List ℕ)) → Untyped text i to t js
              → Closes text to → goal (to + 1) t (ks ++ js) m → RestOfEntries text goal [] i ks m
          of_untyped to _ js (an_empty_array _) d g = absurd (no_string text i j _ s p' d refl)
          of_untyped to _ js (one_string _ n _ q x o) d g =
              absurd (other to _ (string_skipped text i n j to k q s x o p' l).0 d
              (λ w. omega arith) (λ w. omega arith))
          of_untyped to _ js (an_array _ _ us _ b r) d g = absurd (no_such_array b)
          of_untyped to _ js (a_table _ _ e es _ r) d g = record {
            to = to;
            more = e ∷ es;
            keys = js;
            entries = r;
            closes = d;
            distinct = entries_distinct text i to (e ∷ es) js r;
            then = g;
          }

      back : RestOfEntries text goal [] i ks m → RestOfUntyped text goal i ks m
      back h = of_entries h.to h.more h.keys h.entries h.closes h.then
        where
          of_entries : (to : ℕ) (es : List (List ℕ × Tree)) (js : List (List ℕ))
              → Entries text i to es js → Closes text to
              → goal (to + 1) (table (map_of es)) (ks ++ js) m → RestOfUntyped text goal i ks m
          of_entries to _ js (no_entry _) c g = absurd (no_string text i j _ s p' c refl)
          of_entries to _ js (one_entry _ n o q r _ y v es zs js' x l' z u w a) c g = record {
            to = to;
            tree = table (map_of ((y, v) ∷ es));
            keys = js;
            content = a_table i to (y, v) es js
                (one_entry i n o q r to y v es zs js' x l' z u w a);
            closes = c;
            then = g;
          }

  -- a string and neither a `}`, a comma nor a group behind it; or a group behind what is no key
  pub no_untyped_string : (i j k : ℕ) (s : List ℕ) (ks : List (List ℕ)) → Text text i j s
      → Skip text j k → (Closes text k → ⊥) → slice_index text k ≢ ascii.comma
      → ((slice_index text k ≡ ascii.left_brace) ⊎ (slice_index text k ≡ ascii.colon)
      → KeyText text i j s → ⊥)
      → Never (RestOfUntyped text goal i ks)
  no_untyped_string i j k s ks p l a b f m h = of_untyped h.to h.tree h.keys h.content h.closes
    where
      of_untyped : (to : ℕ) (t : Tree) (js : List (List ℕ)) → Untyped text i to t js
          → Closes text to → ⊥
      of_untyped to _ js (an_empty_array _) d = no_string text i j _ s p d refl
      of_untyped to _ js (one_string _ n _ q x o) d =
          a (subst (λ w. Closes text w) (string_skipped text i n j to k q s x o p l).0 d)
      of_untyped to _ js (an_array _ _ us _ (with_a_group g) r) d = ⊎_elim
          (λ (e : slice_index text i ≡ ascii.left_brace). no_string text i j _ s p e refl)
          (λ (e : slice_index text i ≡ ascii.colon). no_string text i j _ s p e refl) g
      of_untyped to _ js (an_array _ _ us _ (with_a_string n o q x y e) r) d =
          b (subst (λ w. slice_index text w ≡ ascii.comma)
          (string_skipped text i n j o k q s x y p l).0 e)
      of_untyped to _ js (a_table _ _ _ _ _ (one_entry _ n o q r _ y v es zs js' x l' z u w c)) d
          =
          let x' : Text text i n y = key_string text i n y x in
          let both = String-one text i n j y s x' p in
          let next : o ≡ k = (string_skipped text i n j o k y s x' l' p l).0 in
          f (subst (λ w. (slice_index text w ≡ ascii.left_brace)
          ⊎ (slice_index text w ≡ ascii.colon)) next (group_first text o q v zs z))
          (subst (λ w. KeyText text i w s) both.0 (subst (λ w. KeyText text i n w) both.1 x))

  -- nothing that may stand in a group without a type stands there
  pub no_untyped : (i : ℕ) (ks : List (List ℕ)) → (Closes text i → ⊥)
      → slice_index text i ≢ ascii.left_brace → slice_index text i ≢ ascii.colon
      → ((j : ℕ) (s : List ℕ) → Text text i j s → ⊥) → Never (RestOfUntyped text goal i ks)
  no_untyped i ks a b d f m h = of_untyped h.to h.tree h.keys h.content h.closes
    where
      of_untyped : (to : ℕ) (t : Tree) (js : List (List ℕ)) → Untyped text i to t js
          → Closes text to → ⊥
      of_untyped to _ js (an_empty_array _) c = a c
      of_untyped to _ js (one_string _ n _ q x o) c = f n q x
      of_untyped to _ js (an_array _ _ us _ (with_a_group g) r) c = ⊎_elim b d g
      of_untyped to _ js (an_array _ _ us _ (with_a_string n o q x y e) r) c = f n q x
      of_untyped to _ js (a_table _ _ _ _ _ (one_entry _ n o q r _ y v es zs js' x l' z u w e)) c
          =
          f n y (key_string text i n y x)
