-- Files of version 2.0 that have nothing to do with pools: where their roots lead to no string of
-- the older form and to no alias, they denote the same without a pool.
use Rattle.std.proofs.Common.{◌≡◌, ℕ, List, [], ◌∷◌, Bool, true, false, Option, Some, None, ap}
use Rattle.std.proofs.Common.{refl, sym, ◌∙◌, subst, ◌⊎◌, inl, inr, ◌<◌, length, rules, ◌==◌}
use Rattle.std.proofs.Common.{zero, suc, arith, ◌≤◌, ◌-◌, cond, nat_lt}
use Rattle.std.specs.Prelude.{◌/◌, ◌%◌, ◌^◌, option_map, if◌then◌else◌, slice_index_or}
use Rattle.std.specs.List.{Contains}
use Rattle.std.proofs.lemmas.Bool.{cases_lt, lt-ltb, le-ltb}
use Rattle.std.proofs.lemmas.List.{drop_all}
use Rattle.resb_tree.specs.Tree.{Tree, string}
use Rattle.resb_format.specs.Content.{Member, Content, leaf, list, entry_list, content_at, word}
use Rattle.resb_format.specs.Content.{placed, empty, older_leaf, counted_text}
use Rattle.resb_format.specs.Denotes.{Den, den_leaf, den_list, den_entries, DenMember, den_word}
use Rattle.resb_format.specs.Denotes.{den_unit, DenEach, each_none, each_more, DenEntries}
use Rattle.resb_format.specs.Denotes.{entries_none, entries_more}
use Rattle.resb_format.specs.Lookups.{key_in, text_in, index_in, key_place_by, text_place_by}
use Rattle.resb_format.specs.Lookups.{index_by, position_in, place_behind}
use Rattle.resb_format.specs.Parts.{Parts, Lent, no_pool, beside_no_pool}
use Rattle.resb_format.specs.Strings.{key_at, text_at}
use Rattle.resb_format.specs.Types as types
use Rattle.resb_format.specs.Descriptor.{type_number}
use Rattle.resb_format.specs.declared.repr_type.ResourceReprType.TheVariants as kind
use Rattle.resb_format.proofs.Beside.{denoted_beside, key_behind}
use Rattle.resb_head.specs.File.{parts_of, root_word, Denotes}
use Rattle.resb_head.proofs.FileSteps.{bundle_file_passes}
use Rattle.resb_pool_bundle.proofs.PassingFiles.{file_is, file_passes}
use Rattle.resb_pool_bundle.specs.Laws.{OwnFilesDenoteWithoutOlder}
use Rattle.resb_pool_bundle.specs.FileWith.{DenotesWith}
use Rattle.resb_pool_bundle.specs.Older.{ReachesOlder, older_here, older_in_list, older_in_entries}
use Rattle.resb_pool_bundle.specs.Older.{FileReachesOlder}
use Rattle.resb_pool_bundle.proofs.OwnFiles.{own_files_are_the_same}

-- elements of a list with one more in front
first_of : {X : Type 0} → (x : X) (xs : List X) → Contains (x ∷ xs) x
first_of x xs = (0, omega arith, refl)

later_in : {X : Type 0} → (y : X) (xs : List X) (x : X) → Contains xs x → Contains (y ∷ xs) x
later_in y xs x c = (suc c.0, omega (arith, c.1), c.2)

text_place_is : (block : List ℕ) (i : ℕ)
    → text_place_by None block i ≡ text_place_by (Some no_pool) block i
unfolding text_place_by
text_place_is block i = search rules

index_is : (u : ℕ) → index_by None u ≡ index_by (Some no_pool) u
unfolding index_by
index_is u = search rules

-- no key stands in an empty block
no_key : (k : ℕ) → key_at [] k ≡ None
unfolding key_at
no_key k = rw (drop_all {X = ℕ} k [] (omega arith)) refl

-- none stands behind the own keys and in an empty pool
none_behind : (keys : List ℕ) (n : ℕ) → length keys ≤ position_in n
    → key_at (place_behind no_pool keys n).0 (place_behind no_pool keys n).1 ≡ None
none_behind keys n h = elim (cases_lt n (2 ^ 16)) [
  | inl near ↦ rw (lt-ltb n (2 ^ 16) near) (no_key (n - length keys))
  | inr wide ↦
      let is : position_in n ≡ n - 2 ^ 16 = rw (le-ltb n (2 ^ 16) wide) refl in
      rw (le-ltb n (2 ^ 16) wide) (either (nat_lt (n - 2 ^ 16) (2 ^ 31)) (omega (arith, h, is)))
]
  where
    either : (b : Bool) → length keys ≤ n - 2 ^ 16
        → key_at (cond {A = List ℕ × ℕ} b (keys, n - 2 ^ 16) ([], n - 2 ^ 16 - 2 ^ 31)).0
        (cond {A = List ℕ × ℕ} b (keys, n - 2 ^ 16) ([], n - 2 ^ 16 - 2 ^ 31)).1 ≡ None
    either true far = key_behind keys (n - 2 ^ 16) far
    either false far = no_key (n - 2 ^ 16 - 2 ^ 31)

-- a key beside an empty pool is the file's own
key_place_is : (keys : List ℕ) (n : ℕ) (key : List ℕ)
    → key_at (key_place_by (Some no_pool) keys n).0 (key_place_by (Some no_pool) keys n).1
    ≡ Some key
    → key_at keys (position_in n) ≡ Some key
unfolding key_place_by
key_place_is keys n key e = elim (cases_lt (position_in n) (length keys)) [
  | inl h ↦
      let place : key_place_by (Some no_pool) keys n ≡ (keys, position_in n) =
      ap (λ b. cond b (keys, position_in n) (place_behind no_pool keys n))
      (lt-ltb (position_in n) (length keys) h) in
      ap (λ r. key_at r.0 r.1) (sym place) ∙ e
  | inr h ↦
      let place : key_place_by (Some no_pool) keys n ≡ place_behind no_pool keys n =
      ap (λ b. cond b (keys, position_in n) (place_behind no_pool keys n))
      (le-ltb (position_in n) (length keys) h) in
      let none : None ≡ Some key =
      sym (none_behind keys n h) ∙ ap (λ r. key_at r.0 r.1) (sym place) ∙ e in
      absurd (cc)
]

-- the same choice of the same
same_if : (b : Bool) (x y v w : Option Content) → x ≡ v → y ≡ w
    → (if b then x else y) ≡ (if b then v else w)
same_if true x y v w h k = h
same_if false x y v w h k = k

either_truth : (b : Bool) → (b ≡ true) ⊎ (b ≡ false)
either_truth true = inl refl
either_truth false = inr refl

-- a word's type is that of a string of the older form or of an alias, or it isn't
older_cases : (type : ℕ) → (types.is_older_type type ≡ true) ⊎ (types.is_older_type type ≡ false)
older_cases type = either_truth (types.is_older_type type)

not_older : (type : ℕ) → types.is_older_type type ≡ false
    → ((type == type_number kind._String) ≡ false) × ((type == type_number kind._Alias) ≡ false)
not_older type h = search rules

module _ (body keys block : List ℕ) where
  -- the parts of a file that uses no pool
  abbrev own : Parts
  own = record { body = body; keys = keys; block = block; lent = None }

  abbrev wide : Parts
  wide = beside_no_pool own

  text_is : (i : ℕ) → text_in own i ≡ text_in wide i
  text_is i = ap (λ r. text_at r.0 r.1) (text_place_is block i)

  unit_is : (u : ℕ) → text_in own (index_in own u) ≡ text_in wide (index_in wide u)
  unit_is u = text_is (index_in own u) ∙ ap (text_in wide) (index_is u)

  key_is : (k : ℕ) (key : List ℕ) → key_in wide k ≡ Some key → key_in own k ≡ Some key
  unfolding key_place_by
  key_is k key e = key_place_is keys k key e

  same_empty : (type : ℕ) → types.is_older_type type ≡ false → empty own type ≡ empty wide type
  same_empty type h =
      let none : None ≡ older_leaf type (Some []) =
      rw ((not_older type h).0, (not_older type h).1) refl in
      same_if (type == type_number kind.Binary) _ _ _ _ refl
      (same_if (types.is_table type) _ _ _ _ refl
      (same_if (type == type_number kind.StringV2) _ _ _ _ refl
      (same_if (types.is_array type) _ _ _ _ refl
      (same_if (type == type_number kind.IntVector) _ _ _ _ refl none))))

  same_placed : (type v : ℕ) → types.is_older_type type ≡ false
      → placed own type v ≡ placed wide type v
  same_placed type v h =
      let none : None ≡ older_leaf type (counted_text wide v) =
      rw ((not_older type h).0, (not_older type h).1) refl in
      same_if (type == type_number kind.Binary) _ _ _ _ refl
      (same_if (type == type_number kind.Table) _ _ _ _ refl
      (same_if (type == type_number kind._Table32) _ _ _ _ refl
      (same_if (type == type_number kind.Table16) _ _ _ _ refl
      (same_if (type == type_number kind.StringV2) _ _ _ _
      (ap (option_map (λ s. leaf (string s))) (text_is v))
      (same_if (type == type_number kind.Array) _ _ _ _ refl
      (same_if (type == type_number kind.Array16) _ _ _ _ refl
      (same_if (type == type_number kind.IntVector) _ _ _ _ refl none)))))))

  -- what stands at a word of another type stands there without a pool too
  same_content : (w : ℕ) → types.is_older_type (w / 2 ^ 28) ≡ false
      → content_at own w ≡ content_at wide w
  unfolding content_at
  same_content w h =
      same_if (w / 2 ^ 28 == type_number kind.Int) _ _ _ _ refl
      (same_if (w % 2 ^ 28 == 0) _ _ _ _ (same_empty (w / 2 ^ 28) h)
      (same_placed (w / 2 ^ 28) (w % 2 ^ 28) h))

  -- at a word of one of the two types nothing stands without a pool
  no_content : (w : ℕ) → types.is_older_type (w / 2 ^ 28) ≡ true → content_at own w ≡ None
  unfolding content_at
  no_content w h = search (rules, h)

  -- whatever stands at a word without a pool stands there beside none
  content_kept : (w : ℕ) (c : Content) → content_at own w ≡ Some c → content_at wide w ≡ Some c
  content_kept w c e = elim (older_cases (w / 2 ^ 28)) [
    | inl h ↦ let no = no_content w h in absurd (cc)
    | inr h ↦ sym (same_content w h) ∙ e
  ]

  -- the content is the same, or the word has one of the two types
  either_content : (w : ℕ) → ReachesOlder wide w ⊎ (content_at own w ≡ content_at wide w)
  either_content w = elim (older_cases (w / 2 ^ 28)) [
    | inl h ↦ inl (older_here h)
    | inr h ↦ inr (same_content w h)
  ]

  mutual
    -- what a word denotes beside no pool it denotes without one, or it leads to one of the two
    split : {w n : ℕ} {t : Tree} → Den wide w t n → ReachesOlder wide w ⊎ Den own w t n
    split (den_leaf {w = w'} e) = elim (either_content w') [
      | inl r ↦ inl r
      | inr s ↦ inr (den_leaf (s ∙ e))
    ]
    split (den_list {w = w'} e ds) = elim (either_content w') [
      | inl r ↦ inl r
      | inr s ↦ elim (split_each ds) [
        | inl r ↦ inl (older_in_list e r.1 r.2)
        | inr own_ds ↦ inr (den_list (s ∙ e) own_ds)
      ]
    ]
    split (den_entries {w = w'} e ds) = elim (either_content w') [
      | inl r ↦ inl r
      | inr s ↦ elim (split_entries ds) [
        | inl r ↦ inl (older_in_entries e r.2 r.3)
        | inr own_ds ↦ inr (den_entries (s ∙ e) own_ds)
      ]
    ]

    split_member : {m : Member} {n : ℕ} {t : Tree} → DenMember wide m t n
        → ((v : ℕ) × (m ≡ word v) × ReachesOlder wide v) ⊎ DenMember own m t n
    split_member (den_word {w = w'} d) = elim (split d) [
      | inl r ↦ inl (w', refl, r)
      | inr own_d ↦ inr (den_word own_d)
    ]
    split_member (den_unit {u = u'} e) = inr (den_unit (unit_is u' ∙ e))

    split_each : {ms : List Member} {n : ℕ} {ts : List Tree} → DenEach wide ms ts n
        → ((v : ℕ) × Contains ms (word v) × ReachesOlder wide v) ⊎ DenEach own ms ts n
    split_each each_none = inr each_none
    split_each (each_more {m = m'} {ms = ms'} d ds) = elim (split_member d) [
      | inl r ↦ inl (r.0, subst (λ m. Contains (m' ∷ ms') m) r.1 (first_of m' ms'), r.2)
      | inr own_d ↦ elim (split_each ds) [
        | inl r ↦ inl (r.0, later_in m' ms' (word r.0) r.1, r.2)
        | inr own_ds ↦ inr (each_more own_d own_ds)
      ]
    ]

    split_entries : {es : List (ℕ × Member)} {n : ℕ} {ts : List (List ℕ × Tree)}
        → DenEntries wide es ts n
        → ((k v : ℕ) × Contains es (k, word v) × ReachesOlder wide v) ⊎ DenEntries own es ts n
    split_entries entries_none = inr entries_none
    split_entries (entries_more {m = m'} {at = at'} {es = es'} {key = key'} k d ds) =
        elim (split_member d) [
          | inl r ↦ inl (
            at',
            r.0,
            subst (λ m. Contains ((at', m') ∷ es') (at', m)) r.1 (first_of (at', m') es'),
            r.2,
          )
          | inr own_d ↦ elim (split_entries ds) [
            | inl r ↦ inl (r.0, r.1, later_in (at', m') es' (r.0, word r.1) r.2, r.3)
            | inr own_ds ↦ inr (entries_more (key_is at' key' k) own_d own_ds)
          ]
        ]

  -- a member that is a word denotes what the word does
  of_word : {m : Member} {n : ℕ} {t : Tree} → DenMember own m t n → (v : ℕ) → m ≡ word v
      → (s : Tree) × (j : ℕ) × Den own v s j
  of_word (den_word {w = w'} {n = n'} {t = t'} d) v e =
      let same : w' ≡ v = cc in (t', n', subst (λ x. Den own x t' n') same d)
  of_word (den_unit e) v same = absurd (cc)

  of_list : {ms : List Member} {n : ℕ} {ts : List Tree} → DenEach own ms ts n → (v k : ℕ)
      → k < length ms → slice_index_or ms k (word v) ≡ word v
      → (s : Tree) × (j : ℕ) × Den own v s j
  of_list each_none v k h e = absurd (omega (arith, h))
  of_list (each_more d ds) v zero h e = of_word d v e
  of_list (each_more d ds) v (suc k) h e = of_list ds v k (omega (arith, h)) e

  of_entries : {es : List (ℕ × Member)} {n : ℕ} {ts : List (List ℕ × Tree)}
      → DenEntries own es ts n → (at v k : ℕ) → k < length es
      → slice_index_or es k (at, word v) ≡ (at, word v)
      → (s : Tree) × (j : ℕ) × Den own v s j
  of_entries entries_none at v k h e = absurd (omega (arith, h))
  of_entries (entries_more key d ds) at v zero h e = of_word d v (ap (λ r. r.1) e)
  of_entries (entries_more key d ds) at v (suc k) h e = of_entries ds at v k (omega (arith, h)) e

  -- the members of a list that stands there without a pool
  in_list : {w : ℕ} {ms : List Member} → content_at wide w ≡ Some (list ms) → (n : ℕ) (t : Tree)
      → Den own w t n → (ts : List Tree) × (j : ℕ) × DenEach own ms ts j
  in_list {w} {ms} e n t (den_leaf {t = t'} f) =
      let g = content_kept w (leaf t') f in absurd (cc)
  in_list {w} {ms} e n t (den_list {n = n'} {ms = ms'} {ts = ts'} f ds) =
      let g = content_kept w (list ms') f in
      let same : ms' ≡ ms = cc in
      (ts', n', subst (λ xs. DenEach own xs ts' n') same ds)
  in_list {w} {ms} e n t (den_entries {es = es'} f ds) =
      let g = content_kept w (entry_list es') f in absurd (cc)

  in_entries : {w : ℕ} {es : List (ℕ × Member)} → content_at wide w ≡ Some (entry_list es)
      → (n : ℕ) (t : Tree) → Den own w t n
      → (ts : List (List ℕ × Tree)) × (j : ℕ) × DenEntries own es ts j
  in_entries {w} {es} e n t (den_leaf {t = t'} f) =
      let g = content_kept w (leaf t') f in absurd (cc)
  in_entries {w} {es} e n t (den_list {ms = ms'} f ds) =
      let g = content_kept w (list ms') f in absurd (cc)
  in_entries {w} {es} e n t (den_entries {n = n'} {es = es'} {ts = ts'} f ds) =
      let g = content_kept w (entry_list es') f in
      let same : es' ≡ es = cc in
      (ts', n', subst (λ xs. DenEntries own xs ts' n') same ds)

  -- what leads to one of the two denotes nothing without a pool
  not_both : {w : ℕ} → ReachesOlder wide w → (n : ℕ) (t : Tree) → Den own w t n → ⊥
  not_both (older_here {w = w'} h) n t (den_leaf e) = let no = no_content w' h in absurd (cc)
  not_both (older_here {w = w'} h) n t (den_list e ds) = let no = no_content w' h in absurd (cc)
  not_both (older_here {w = w'} h) n t (den_entries e ds) =
      let no = no_content w' h in absurd (cc)
  not_both (older_in_list {v = v'} e c r) n t d =
      let i = in_list e n t d in
      let f = of_list i.2 v' c.0 c.1 c.2 in not_both r f.1 f.0 f.2
  not_both (older_in_entries {v = v'} {k = k'} e c r) n t d =
      let i = in_entries e n t d in
      let f = of_entries i.2 k' v' c.0 c.1 c.2 in not_both r f.1 f.0 f.2

module _ (p : Parts) (unlent : p.lent ≡ None) (w n : ℕ) (t : Tree) where
  abbrev with_lent : Option Lent → Parts
  with_lent l = record { body = p.body; keys = p.keys; block = p.block; lent = l }

  without_older : Den (beside_no_pool p) w t n → ReachesOlder (beside_no_pool p) w ⊎ Den p w t n
  without_older d = elim (split p.body p.keys p.block d) [
    | inl r ↦ inl r
    | inr own_d ↦ inr (subst (λ l. Den (with_lent l) w t n) (sym unlent) own_d)
  ]

  one_alone : ReachesOlder (beside_no_pool p) w → Den p w t n → ⊥
  one_alone r d =
      not_both p.body p.keys p.block r n t (subst (λ l. Den (with_lent l) w t n) unlent d)

unlent_parts : (bytes : List ℕ) → (parts_of bytes).lent ≡ None
unfolding parts_of
unlent_parts bytes = refl

pub own_files_denote_without_older : OwnFilesDenoteWithoutOlder
own_files_denote_without_older pool bytes no_pools t n =
    let same = own_files_are_the_same pool bytes no_pools in
    let none = unlent_parts bytes in
    let w = root_word bytes in
    let wide : DenotesWith pool bytes t n → Den (beside_no_pool (parts_of bytes)) w t n =
    λ d. subst (λ p. Den p w t n) same.1 d.root in
    let reaches : FileReachesOlder pool bytes → ReachesOlder (beside_no_pool (parts_of bytes)) w =
    subst (λ p. ReachesOlder p w) same.1 in
    let back : ReachesOlder (beside_no_pool (parts_of bytes)) w → FileReachesOlder pool bytes =
    subst (λ p. ReachesOlder p w) (sym same.1) in
    let without : DenotesWith pool bytes t n → FileReachesOlder pool bytes ⊎ Denotes bytes t n =
    λ d. elim (without_older (parts_of bytes) none w n t (wide d)) [
      | inl r ↦ inl (back r)
      | inr own_d ↦ inr (record {
        head = (bundle_file_passes bytes).0 (sym same.0 ∙ file_passes pool bytes d.head);
        root = own_d;
      })
    ] in (
      without,
      (
        λ d. (
          record {
            head = file_is pool bytes (same.0 ∙ (bundle_file_passes bytes).1 d.head);
            root =
                subst (λ p. Den p w t n) (sym same.1)
                (denoted_beside (parts_of bytes) w n t none d.root);
          },
          λ r. one_alone (parts_of bytes) none w n t (reaches r) d.root,
        ),
        λ b. elim (without b.0) [ inl r ↦ absurd (b.1 r) | inr d ↦ d ],
      ),
    )
