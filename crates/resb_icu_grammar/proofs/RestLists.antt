-- Members and entries that follow: each step of a reading among them, by what the rest of the text
-- has to be before it and behind it.
use Rattle.std.proofs.Common.{◌≡◌, ◌≢◌, ℕ, ◌+◌, true, false, List, [], ◌∷◌, ◌++◌}
use Rattle.std.proofs.Common.{arith, subst, sym, refl, ◌∙◌, ◌⊎◌, ⊎_elim}
use Rattle.std.proofs.Common.{append_assoc, append-nil}
use Rattle.std.specs.Prelude.{slice_index}
use Rattle.std.proofs.lemmas.Bool.{false≢true}
use Rattle.resb_grammar.specs.Ascii as ascii
use Rattle.resb_tree.specs.Tree.{Tree, string, array, table, trees_of, map_of}
use Rattle.resb_icu_grammar.specs.Blanks.{Skip}
use Rattle.resb_icu_grammar.specs.Words.{Text, KeyText}
use Rattle.resb_icu_grammar.specs.Groups.{Last, a_string}
use Rattle.resb_icu_grammar.specs.Groups.{a_comma, is_member, ends_in_string}
use Rattle.resb_icu_grammar.specs.Groups.{Members, no_member, string_member}
use Rattle.resb_icu_grammar.specs.Groups.{group_member, comma_behind, Entries, no_entry, one_entry}
use Rattle.resb_icu_grammar.specs.Inner.Rest.{Goal, RestOfMembers, RestOfEntries}
use Rattle.resb_icu_grammar.specs.Machine.{AreDistinct}
use Rattle.resb_icu_grammar.specs.Inner.Rest.{RestOfGroup}
use Rattle.resb_icu_grammar.specs.Inner.Rest.{AfterMember, AfterValue, Same}
use Rattle.resb_icu_grammar.specs.Inner.Rest.{Never}
use Rattle.resb_icu_grammar.proofs.Lexical.{Skip-one, key_string}
use Rattle.resb_icu_grammar.proofs.Groups.{Closes, no_string, no_group, no_both, string_skipped}
use Rattle.resb_icu_grammar.proofs.Groups.{group_first}

-- the keys of the entries of a table are distinct
pub entries_distinct : (text : List ℕ) (from to : ℕ) (es : List (List ℕ × Tree))
    (ks : List (List ℕ)) → Entries text from to es ks → AreDistinct es
entries_distinct text from to es ks (no_entry _) = tt
entries_distinct text from to es ks (one_entry _ i j m n _ k t es' zs ks' p s g s' r w) =
    (w, entries_distinct text n to es' ks' r)

-- what is distinct stays so without those before
behind_distinct : (es fs : List (List ℕ × Tree)) → AreDistinct (es ++ fs) → AreDistinct fs
behind_distinct [] fs h = h
behind_distinct (e ∷ es) fs h = behind_distinct es fs h.1

module _ (text : List ℕ) (goal : Goal) where
  -- a `}` ends an array
  pub array_ends : (last : Last) (ts : List Tree) (at : ℕ) (ks : List (List ℕ)) → Closes text at
      → Same (RestOfMembers text goal last ts at ks) (goal (at + 1) (array (trees_of ts)) ks)
  array_ends last ts at ks c m = (there, back)
    where
      there : RestOfMembers text goal last ts at ks m → goal (at + 1) (array (trees_of ts)) ks m
      there h = of_members h.to h.more h.keys h.members h.then
        where
          of_members : (to : ℕ) (us : List Tree) (js : List (List ℕ))
              → Members text last at to us js
              → goal (to + 1) (array (trees_of (ts ++ us))) (ks ++ js) m
              → goal (at + 1) (array (trees_of ts)) ks m
          of_members to us js (no_member _ _) g =
              subst (λ l. goal (at + 1) (array (trees_of ts)) l m) (append-nil ks)
              (subst (λ l. goal (at + 1) (array (trees_of l)) (ks ++ []) m) (append-nil ts) g)
          of_members to us js (string_member _ _ i j _ s _ _ e p k r) g =
              absurd (no_string text at i _ s p c refl)
          of_members to us js (group_member _ _ i j _ t zs _ _ p k r) g =
              absurd (no_group text at i _ t zs p c (λ e. omega arith) (λ e. omega arith))
          of_members to us js (comma_behind _ _ j _ _ _ e f k r) g = absurd (omega arith)

      back : goal (at + 1) (array (trees_of ts)) ks m → RestOfMembers text goal last ts at ks m
      back g = record {
        to = at;
        more = [];
        keys = [];
        members = no_member last at;
        closes = c;
        then = subst (λ l. goal (at + 1) (array (trees_of l)) (ks ++ []) m) (sym (append-nil ts))
            (subst (λ l. goal (at + 1) (array (trees_of ts)) l m) (sym (append-nil ks)) g);
      }

  -- a string is one member more
  pub string_is_member : (last : Last) (ts : List Tree) (at i j : ℕ) (s : List ℕ)
      (ks : List (List ℕ)) → ends_in_string last ≡ false → Text text at i s → Skip text i j
      → Same (RestOfMembers text goal last ts at ks)
      (RestOfMembers text goal a_string (ts ++ string s ∷ []) j ks)
  string_is_member last ts at i j s ks e p k m = (there, back)
    where
      there : RestOfMembers text goal last ts at ks m
          → RestOfMembers text goal a_string (ts ++ string s ∷ []) j ks m
      there h = of_members h.to h.more h.keys h.members h.closes h.then
        where
          of_members : (to : ℕ) (us : List Tree) (js : List (List ℕ))
              → Members text last at to us js → Closes text to
              → goal (to + 1) (array (trees_of (ts ++ us))) (ks ++ js) m
              → RestOfMembers text goal a_string (ts ++ string s ∷ []) j ks m
          of_members to us js (no_member _ _) c g = absurd (no_string text at i _ s p c refl)
          of_members to us js (string_member _ _ n o _ q vs _ f x l r) c g =
              let both = string_skipped text at n i o j q s x l p k in
              record {
                to = to;
                more = vs;
                keys = js;
                members = subst (λ w. Members text a_string w to vs js) both.0 r;
                closes = c;
                then = subst (λ l. goal (to + 1) (array (trees_of l)) (ks ++ js) m)
                    (sym (append_assoc ts (string s ∷ []) vs))
                    (subst (λ w. goal (to
                    + 1) (array (trees_of (ts ++ string w ∷ vs))) (ks ++ js) m)
                    both.1 g);
              }
          of_members to us js (group_member _ _ n o _ t zs _ _ x l r) c g =
              absurd (no_both text at i n s t zs p x)
          of_members to us js (comma_behind _ _ o _ _ _ f x l r) c g =
              absurd (no_string text at i _ s p x refl)

      back : RestOfMembers text goal a_string (ts ++ string s ∷ []) j ks m
          → RestOfMembers text goal last ts at ks m
      back h = record {
        to = h.to;
        more = string s ∷ h.more;
        keys = h.keys;
        members = string_member last at i j h.to s h.more h.keys e p k h.members;
        closes = h.closes;
        then = subst (λ l. goal (h.to + 1) (array (trees_of l)) (ks ++ h.keys) m)
            (append_assoc ts (string s ∷ []) h.more) h.then;
      }

  -- no string stands right behind a string
  pub no_second_string : (last : Last) (ts : List Tree) (at i : ℕ) (s : List ℕ)
      (ks : List (List ℕ)) → ends_in_string last ≡ true → Text text at i s
      → Never (RestOfMembers text goal last ts at ks)
  no_second_string last ts at i s ks e p m h = of_members h.to h.more h.keys h.members h.closes
    where
      of_members : (to : ℕ) (us : List Tree) (js : List (List ℕ)) → Members text last at to us js
          → Closes text to → ⊥
      of_members to us js (no_member _ _) c = no_string text at i _ s p c refl
      of_members to us js (string_member _ _ n o _ q vs _ f x l r) c = false≢true (sym f ∙ e)
      of_members to us js (group_member _ _ n o _ t zs _ _ x l r) c =
          no_both text at i n s t zs p x
      of_members to us js (comma_behind _ _ o _ _ _ f x l r) c = no_string text at i _ s p x refl

  -- a comma behind a member
  pub comma_is_passed : (last : Last) (ts : List Tree) (at j : ℕ) (ks : List (List ℕ))
      → is_member last ≡ true → slice_index text at ≡ ascii.comma → Skip text (at + 1) j
      → Same (RestOfMembers text goal last ts at ks) (RestOfMembers text goal a_comma ts j ks)
  comma_is_passed last ts at j ks e f k m = (there, back)
    where
      there : RestOfMembers text goal last ts at ks m → RestOfMembers text goal a_comma ts j ks m
      there h = of_members h.to h.more h.keys h.members h.closes h.then
        where
          of_members : (to : ℕ) (us : List Tree) (js : List (List ℕ))
              → Members text last at to us js → Closes text to
              → goal (to + 1) (array (trees_of (ts ++ us))) (ks ++ js) m
              → RestOfMembers text goal a_comma ts j ks m
          of_members to us js (no_member _ _) c g = absurd (omega arith)
          of_members to us js (string_member _ _ n o _ q vs _ x y l r) c g =
              absurd (no_string text at n _ q y f refl)
          of_members to us js (group_member _ _ n o _ t zs _ _ x l r) c g =
              absurd (no_group text at n _ t zs x f (λ w. omega arith) (λ w. omega arith))
          of_members to us js (comma_behind _ _ o _ _ _ x y l r) c g =
              record {
                to = to;
                more = us;
                keys = js;
                members = subst (λ w. Members text a_comma w to us js)
                    (Skip-one text (at + 1) o j l k) r;
                closes = c;
                then = g;
              }

      back : RestOfMembers text goal a_comma ts j ks m → RestOfMembers text goal last ts at ks m
      back h = record {
        to = h.to;
        more = h.more;
        keys = h.keys;
        members = comma_behind last at j h.to h.more h.keys e f k h.members;
        closes = h.closes;
        then = h.then;
      }

  -- a comma stands behind members alone
  pub no_other_comma : (last : Last) (ts : List Tree) (at : ℕ) (ks : List (List ℕ))
      → is_member last ≡ false → slice_index text at ≡ ascii.comma
      → Never (RestOfMembers text goal last ts at ks)
  no_other_comma last ts at ks e f m h = of_members h.to h.more h.keys h.members h.closes
    where
      of_members : (to : ℕ) (us : List Tree) (js : List (List ℕ)) → Members text last at to us js
          → Closes text to → ⊥
      of_members to us js (no_member _ _) c = omega arith
      of_members to us js (string_member _ _ n o _ q vs _ x y l r) c =
          no_string text at n _ q y f refl
      of_members to us js (group_member _ _ n o _ t zs _ _ x l r) c =
          no_group text at n _ t zs x f (λ w. omega arith) (λ w. omega arith)
      of_members to us js (comma_behind _ _ o _ _ _ x y l r) c = false≢true (sym e ∙ x)

  -- a brace or a colon begins a group, which is a member
  pub group_is_member : (last : Last) (ts : List Tree) (at : ℕ) (ks : List (List ℕ))
      → (slice_index text at ≡ ascii.left_brace) ⊎ (slice_index text at ≡ ascii.colon)
      → Same (RestOfMembers text goal last ts at ks)
      (RestOfGroup text (AfterMember text goal ts) at ks)
  group_is_member last ts at ks f m = (there, back)
    where
      other : (b : ℕ) → slice_index text at ≡ b → b ≢ ascii.left_brace → b ≢ ascii.colon → ⊥
      other b e x y = ⊎_elim (λ (w : slice_index text at ≡ ascii.left_brace). x (sym e ∙ w))
          (λ (w : slice_index text at ≡ ascii.colon). y (sym e ∙ w)) f

      no_text : (i : ℕ) (s : List ℕ) → Text text at i s → ⊥
      no_text i s p = ⊎_elim
          (λ (w : slice_index text at ≡ ascii.left_brace). no_string text at i _ s p w refl)
          (λ (w : slice_index text at ≡ ascii.colon). no_string text at i _ s p w refl) f

      there : RestOfMembers text goal last ts at ks m → RestOfGroup text
          (AfterMember text goal ts) at ks m
      there h = of_members h.to h.more h.keys h.members h.closes h.then
        where
          of_members : (to : ℕ) (us : List Tree) (js : List (List ℕ))
              → Members text last at to us js → Closes text to
              → goal (to + 1) (array (trees_of (ts ++ us))) (ks ++ js) m
              → RestOfGroup text (AfterMember text goal ts) at ks m
          of_members to us js (no_member _ _) c g =
              absurd (other _ c (λ w. omega arith) (λ w. omega arith))
          of_members to us js (string_member _ _ n o _ q vs _ x y l r) c g =
              absurd (no_text n q y)
          of_members to us js (group_member _ _ n o _ t zs js' vs x l r) c g =
              record {
                to = n;
                tree = t;
                keys = zs;
                group = x;
                then = record {
                  next = o;
                  after = l;
                  rest = record {
                    to = to;
                    more = vs;
                    keys = js';
                    members = r;
                    closes = c;
                    then = subst (λ l. goal (to + 1) (array (trees_of l)) ((ks ++ zs) ++ js') m)
                        (sym (append_assoc ts (t ∷ []) vs))
                        (subst (λ l. goal (to + 1) (array (trees_of (ts ++ t ∷ vs))) l m)
                        (sym (append_assoc ks zs js')) g);
                  };
                };
              }
          of_members to us js (comma_behind _ _ o _ _ _ x y l r) c g =
              absurd (other _ y (λ w. omega arith) (λ w. omega arith))

      back : RestOfGroup text (AfterMember text goal ts) at ks m
          → RestOfMembers text goal last ts at ks m
      back h =
          let r = h.then.rest in
          record {
            to = r.to;
            more = h.tree ∷ r.more;
            keys = h.keys ++ r.keys;
            members = group_member last at h.to h.then.next r.to h.tree h.keys r.keys r.more h.group
                h.then.after r.members;
            closes = r.closes;
            then = subst
                (λ l. goal (r.to + 1) (array (trees_of l)) (ks ++ (h.keys ++ r.keys)) m)
                (append_assoc ts (h.tree ∷ []) r.more)
                (subst (λ l. goal (r.to + 1) (array (trees_of ((ts ++ h.tree ∷ []) ++ r.more))) l m)
                (append_assoc ks h.keys r.keys) r.then);
          }

  -- where nothing of these stands, no member does
  pub no_more_members : (last : Last) (ts : List Tree) (at : ℕ) (ks : List (List ℕ))
      → (Closes text at → ⊥) → slice_index text at ≢ ascii.comma
      → slice_index text at ≢ ascii.left_brace → slice_index text at ≢ ascii.colon
      → ((i : ℕ) (s : List ℕ) → Text text at i s → ⊥)
      → Never (RestOfMembers text goal last ts at ks)
  no_more_members last ts at ks a b d e f m h = of_members h.to h.more h.keys h.members h.closes
    where
      of_members : (to : ℕ) (us : List Tree) (js : List (List ℕ)) → Members text last at to us js
          → Closes text to → ⊥
      of_members to us js (no_member _ _) c = a c
      of_members to us js (string_member _ _ n o _ q vs _ x y l r) c = f n q y
      of_members to us js (group_member _ _ n o _ t zs _ _ x l r) c =
          ⊎_elim d e (group_first text at n t zs x)
      of_members to us js (comma_behind _ _ o _ _ _ x y l r) c = b y

  -- a `}` ends a table whose keys are distinct
  pub table_ends : (es : List (List ℕ × Tree)) (at : ℕ) (ks : List (List ℕ)) → Closes text at
      → AreDistinct es → Same (RestOfEntries text goal es at ks)
      (goal (at + 1) (table (map_of es)) ks)
  table_ends es at ks c d m = (there, back)
    where
      there : RestOfEntries text goal es at ks m → goal (at + 1) (table (map_of es)) ks m
      there h = of_entries h.to h.more h.keys h.entries h.then
        where
          of_entries : (to : ℕ) (fs : List (List ℕ × Tree)) (js : List (List ℕ))
              → Entries text at to fs js
              → goal (to + 1) (table (map_of (es ++ fs))) (ks ++ js) m
              → goal (at + 1) (table (map_of es)) ks m
          of_entries to fs js (no_entry _) g =
              subst (λ l. goal (at + 1) (table (map_of es)) l m) (append-nil ks)
              (subst (λ l. goal (at + 1) (table (map_of l)) (ks ++ []) m) (append-nil es) g)
          of_entries to fs js (one_entry _ i j n o _ k t _ zs _ p l x y r w) g =
              absurd (no_string text at i _ k (key_string text at i k p) c refl)

      back : goal (at + 1) (table (map_of es)) ks m → RestOfEntries text goal es at ks m
      back g = record {
        to = at;
        more = [];
        keys = [];
        entries = no_entry at;
        closes = c;
        distinct = subst AreDistinct (sym (append-nil es)) d;
        then = subst (λ l. goal (at + 1) (table (map_of l)) (ks ++ []) m) (sym (append-nil es))
            (subst (λ l. goal (at + 1) (table (map_of es)) l m) (sym (append-nil ks)) g);
      }

  -- a table has each key once
  pub no_key_twice : (es : List (List ℕ × Tree)) (at : ℕ) (ks : List (List ℕ)) → Closes text at
      → (AreDistinct es → ⊥) → Never (RestOfEntries text goal es at ks)
  no_key_twice es at ks c d m h = of_entries h.to h.more h.keys h.entries h.distinct
    where
      of_entries : (to : ℕ) (fs : List (List ℕ × Tree)) (js : List (List ℕ))
          → Entries text at to fs js → AreDistinct (es ++ fs) → ⊥
      of_entries to fs js (no_entry _) w = d (subst AreDistinct (append-nil es) w)
      of_entries to fs js (one_entry _ i j n o _ k t _ zs _ p l x y r z) w =
          no_string text at i _ k (key_string text at i k p) c refl

  -- a key and its value are one entry more
  pub entry_begins : (es : List (List ℕ × Tree)) (at i j : ℕ) (k : List ℕ) (ks : List (List ℕ))
      → KeyText text at i k → Skip text i j
      → Same (RestOfEntries text goal es at ks)
      (RestOfGroup text (AfterValue text goal es k) j (ks ++ k ∷ []))
  entry_begins es at i j k ks p s m = (there, back)
    where
      keys_are : (q : List ℕ) (zs js : List (List ℕ))
          → ((ks ++ q ∷ []) ++ zs) ++ js ≡ ks ++ (q ∷ zs ++ js)
      keys_are q zs js =
          append_assoc (ks ++ q ∷ []) zs js ∙ append_assoc ks (q ∷ []) (zs ++ js)

      there : RestOfEntries text goal es at ks m
          → RestOfGroup text (AfterValue text goal es k) j (ks ++ k ∷ []) m
      there h = of_entries h.to h.more h.keys h.entries h.closes h.distinct h.then
        where
          of_entries : (to : ℕ) (fs : List (List ℕ × Tree)) (js : List (List ℕ))
              → Entries text at to fs js → Closes text to → AreDistinct (es ++ fs)
              → goal (to + 1) (table (map_of (es ++ fs))) (ks ++ js) m
              → RestOfGroup text (AfterValue text goal es k) j (ks ++ k ∷ []) m
          of_entries to fs js (no_entry _) c w g =
              absurd (no_string text at i _ k (key_string text at i k p) c refl)
          of_entries to fs js (one_entry _ i' j' n' o _ k' t fs' zs js' p' s' x y r z) c w g =
              let same = string_skipped text at i' i j' j k' k (key_string text at i' k' p') s'
              (key_string text at i k p) s in
              let built : RestOfGroup text (AfterValue text goal es k') j'
              (ks ++ k' ∷ []) m = record {
                to = n';
                tree = t;
                keys = zs;
                group = x;
                then = record {
                  next = o;
                  after = y;
                  rest = record {
                    to = to;
                    more = fs';
                    keys = js';
                    entries = r;
                    closes = c;
                    distinct = subst AreDistinct (sym (append_assoc es ((k', t) ∷ []) fs')) w;
                    then = subst
                        (λ l. goal (to + 1) (table (map_of l)) (((ks ++ k' ∷ []) ++ zs) ++ js') m)
                        (sym (append_assoc es ((k', t) ∷ []) fs'))
                        (subst (λ l. goal (to + 1) (table (map_of (es ++ (k', t) ∷ fs'))) l m)
                        (sym (keys_are k' zs js')) g);
                  };
                };
              } in
              subst (λ q. RestOfGroup text (AfterValue text goal es q) j (ks ++ q ∷ []) m) same.1
              (subst (λ q. RestOfGroup text (AfterValue text goal es k') q (ks ++ k' ∷ []) m) same.0
              built)

      back : RestOfGroup text (AfterValue text goal es k) j (ks ++ k ∷ []) m
          → RestOfEntries text goal es at ks m
      back h =
          let v = h.then in
          let r = v.rest in
          let distinct : AreDistinct (es ++ (k, h.tree) ∷ r.more) =
          subst AreDistinct (append_assoc es ((k, h.tree) ∷ []) r.more) r.distinct in
          record {
            to = r.to;
            more = (k, h.tree) ∷ r.more;
            keys = k ∷ h.keys ++ r.keys;
            entries = one_entry at i j h.to v.next r.to k h.tree r.more h.keys r.keys p s h.group
                v.after r.entries
                (behind_distinct es ((k, h.tree) ∷ r.more) distinct).0;
            closes = r.closes;
            distinct = distinct;
            then = subst
                (λ l. goal (r.to + 1) (table (map_of l)) (ks ++ (k ∷ h.keys ++ r.keys)) m)
                (append_assoc es ((k, h.tree) ∷ []) r.more)
                (subst (λ l. goal (r.to
                + 1) (table (map_of ((es ++ (k, h.tree) ∷ []) ++ r.more))) l m)
                (keys_are k h.keys r.keys) r.then);
          }

  -- where neither a key nor a `}` stands, no entry does
  pub no_more_entries : (es : List (List ℕ × Tree)) (at : ℕ) (ks : List (List ℕ))
      → (Closes text at → ⊥) → ((i : ℕ) (k : List ℕ) → KeyText text at i k → ⊥)
      → Never (RestOfEntries text goal es at ks)
  no_more_entries es at ks a f m h = of_entries h.to h.more h.keys h.entries h.closes
    where
      of_entries : (to : ℕ) (fs : List (List ℕ × Tree)) (js : List (List ℕ))
          → Entries text at to fs js → Closes text to → ⊥
      of_entries to fs js (no_entry _) c = a c
      of_entries to fs js (one_entry _ i j n o _ k t fs' zs js' p s x y r z) c = f i k p
