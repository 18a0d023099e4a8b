-- What stands inside a table or an array is what stands in its tree.
use Rattle.std.proofs.Common.{ℕ, zero, suc, List, [], Bool, true, false, Option, Some, None}
use Rattle.std.proofs.Common.{◌≡◌, ◌+◌, ◌==◌, ◌⊎◌, inl, inr, map, refl, sym, ap, ◌∙◌, subst}
use Rattle.std.proofs.Common.{slice_get}
use Rattle.std.specs.Prelude.{◌/◌, ◌%◌, ◌^◌, ◌*◌, ◌&&◌, ◌||◌, option_map, option_and_then, cond}
use Rattle.std.specs.Prelude.{if◌then◌else◌}
use Rattle.std.specs.Str.{bytes_eq}
use Rattle.std.proofs.lemmas.Bool.{false≢true, or_cases, eqb-true}
use Rattle.std.proofs.lemmas.Option.{slice_get-map}
use Rattle.std.proofs.lemmas.Map.Text.{is_eq-slice_cmp}
use Rattle.std.proofs.lemmas.Slice.Eq.{bytes_eq-Decides}
use Rattle.resb_tree.specs.Inner.Dropping.{IsNoCollection}
use Rattle.resb_tree.specs.LayingOrder.{array_members}
use Rattle.resb_tree.specs.Maps.{get}
use Rattle.resb_tree.specs.Tree.{Tree, string, alias, array, table, binary, integer, int_vector}
use Rattle.resb_tree.specs.Tree.{Entries, no_entries, put, put_all, trees_of}
use Rattle.resb_tree.proofs.MapsLemmas.{get-put}
use Rattle.resb_format.specs.Bytes.{units_of, words_of, part}
use Rattle.resb_format.specs.Lookups.{key_in, text_in, wide_position}
use Rattle.resb_format.specs.Parts.{Parts, reads_older}
use Rattle.resb_format.specs.Types as types
use Rattle.resb_format.specs.Descriptor.{type_number}
use Rattle.resb_format.specs.declared.repr_type.ResourceReprType.TheVariants as kind
use Rattle.resb_format.specs.Content.{Member, word, unit, Content, leaf, list, entry_list}
use Rattle.resb_format.specs.Content.{content_at}
use Rattle.resb_format.specs.Content.{behind_count, paired, words_at, offsets_at, placed, empty}
use Rattle.resb_format.specs.Content.{counted_text, older_leaf}
use Rattle.resb_format.specs.Denotes.{Den, den_leaf, den_list, den_entries, DenMember, den_word}
use Rattle.resb_format.specs.Denotes.{den_unit, DenEach, each_none, each_more, DenEntries}
use Rattle.resb_format.specs.Denotes.{entries_none, entries_more}
use Rattle.resb_format.proofs.Mapped.{content_leaf}
use Rattle.resb_walk.specs.BlockRefusals.{reads_type}
use Rattle.resb_read.specs.Inside.{StandsAs, EntriesStand, MembersStand, NumbersStand}
use Rattle.resb_read.specs.Inside.{HasNoMembers, IsTypeOf, TypesTellTrees}
use Rattle.resb_read.specs.Leaves.{type_in}
use Rattle.resb_read.specs.Places.{Place, spot_of}
use Rattle.resb_read.specs.Resources.{DenSpot}
use Rattle.resb_read.specs.Sequences.{entries_from, members_from, at_spot, at_entry}
use Rattle.resb_read.specs.Sequences.{member_spots, content_entries}
use Rattle.resb_read.specs.Spots.{type_from}
use Rattle.resb_read.specs.Tables.{has_name, is_text, last_from, last_named}
use Rattle.resb_read.specs.declared.cursor.Spot.{Spot}
use Rattle.resb_read.specs.declared.cursor.Spot.TheVariants as spot

-- what stands at a number in a list whose elements are mapped
pub mapped_at : {A B : Type 0} (f : A → B) (xs : List A) (k : ℕ)
    → slice_get (map f xs) k ≡ option_map f (slice_get xs k)
mapped_at f xs k = slice_get-map f xs k

-- one of three that is so
first_so : (a b c : Bool) → a ≡ true → ((a || b) || c) ≡ true
first_so a b c h = ap (λ x. (x || b) || c) h

second_so : (a b c : Bool) → b ≡ true → ((a || b) || c) ≡ true
second_so true b c h = refl
second_so false b c h = ap (λ x. x || c) h

third_so : (a b c : Bool) → c ≡ true → ((a || b) || c) ≡ true
third_so true b c h = refl
third_so false true c h = refl
third_so false false c h = h

left_so : (a b : Bool) → a ≡ true → (a || b) ≡ true
left_so a b h = ap (λ x. x || b) h

right_so : (a b : Bool) → b ≡ true → (a || b) ≡ true
right_so true b h = refl
right_so false b h = h

-- the content is of the kind that the type says, and the type is read
abbrev IsTyped : Parts → ℕ → Option Content → Type 0
IsTyped p type (Some (leaf t)) = (reads_type p type ≡ true) × IsTypeOf t type
IsTyped p type (Some (list ms)) = (reads_type p type ≡ true) × (types.is_array type ≡ true)
IsTyped p type (Some (entry_list es)) = (reads_type p type ≡ true) × (types.is_table type ≡ true)
IsTyped p type None = Unit {0}

-- what holds of a number holds of the type that is it
of_number : (P : ℕ → Type 0) (type number : ℕ) → (type == number) ≡ true → P number → P type
of_number P type number h is = subst P (sym (eqb-true type number h)) is

-- types that every call reads
read_so : (p : Parts) (type : ℕ) → types.is_read_type type ≡ true → reads_type p type ≡ true
read_so p type h = ap (λ b. b || (reads_older p && types.is_older_type type)) h

read_number : (p : Parts) (type number : ℕ) → (type == number) ≡ true
    → types.is_read_type number ≡ true → reads_type p type ≡ true
read_number p type number h is =
    read_so p type (of_number (λ n. types.is_read_type n ≡ true) type number h is)

older_number : (p : Parts) (type number : ℕ) → (type == number) ≡ true → reads_older p ≡ true
    → types.is_older_type number ≡ true → reads_type p type ≡ true
older_number p type number h older is =
    let own : types.is_older_type type ≡ true =
    of_number (λ n. types.is_older_type n ≡ true) type number h is in
    right_so (types.is_read_type type) _
    (ap (λ b. b && types.is_older_type type) older ∙ own)

-- a leaf of a type that has no members
leaf_of : (p : Parts) (type number : ℕ) → (type == number) ≡ true → HasNoMembers number
    → HasNoMembers type
leaf_of p type number h is = of_number HasNoMembers type number h is

read_table : (p : Parts) (type : ℕ) → types.is_table type ≡ true → reads_type p type ≡ true
read_table p type h =
    by (or_cases (type == type_number kind.Table || type == type_number kind._Table32) _ h)
  where
    first : ((type == type_number kind.Table) ≡ true) ⊎ ((type == type_number kind._Table32) ≡ true)
        → reads_type p type ≡ true
    first (inl k) = read_number p type (type_number kind.Table) k refl
    first (inr k) = read_number p type (type_number kind._Table32) k refl

    by : ((type == type_number kind.Table || type == type_number kind._Table32) ≡ true)
        ⊎ ((type == type_number kind.Table16) ≡ true)
        → reads_type p type ≡ true
    by (inl k) = first (or_cases (type == type_number kind.Table) _ k)
    by (inr k) = read_number p type (type_number kind.Table16) k refl

read_array : (p : Parts) (type : ℕ) → types.is_array type ≡ true → reads_type p type ≡ true
read_array p type h = by (or_cases (type == type_number kind.Array) _ h)
  where
    by : ((type == type_number kind.Array) ≡ true) ⊎ ((type == type_number kind.Array16) ≡ true)
        → reads_type p type ≡ true
    by (inl k) = read_number p type (type_number kind.Array) k refl
    by (inr k) = read_number p type (type_number kind.Array16) k refl

typed_if : (p : Parts) (type : ℕ) (b : Bool) (x y : Option Content)
    → (b ≡ true → IsTyped p type x) → IsTyped p type y → IsTyped p type (if b then x else y)
typed_if p type true x y h k = h refl
typed_if p type false x y h k = k

typed_map : {A : Type 0} (p : Parts) (type : ℕ) (f : A → Content) (o : Option A)
    → ((a : A) → IsTyped p type (Some (f a))) → IsTyped p type (option_map f o)
typed_map p type f (Some a) h = h a
typed_map p type f None h = tt

typed_counted : (p : Parts) (type : ℕ) (ns : List ℕ) (i : ℕ) (behind : ℕ → Option Content)
    → ((n : ℕ) → IsTyped p type (behind n)) → IsTyped p type (behind_count ns i behind)
typed_counted p type ns i behind h = at (slice_get ns i)
  where
    at : (o : Option ℕ) → IsTyped p type (option_and_then behind o)
    at (Some n) = h n
    at None = tt

typed_paired : (p : Parts) (type : ℕ) → types.is_table type ≡ true → (ks : Option (List ℕ))
    (ms : Option (List Member)) → IsTyped p type (paired ks ms)
typed_paired p type h (Some ks) (Some ms) = (read_table p type h, h)
typed_paired p type h (Some ks) None = tt
typed_paired p type h None ms = tt

typed_older_empty : (p : Parts) (type : ℕ) → reads_older p ≡ true
    → IsTyped p type (older_leaf type (Some []))
typed_older_empty p type older =
    let old = type_number kind._String in
    typed_if p type (type == old) _ _
    (λ h. (older_number p type old h older refl, leaf_of p type old h (refl, refl, refl)))
    (typed_if p type (type == type_number kind._Alias) _ _
    (λ h. (
      older_number p type (type_number kind._Alias) h older refl,
      leaf_of p type (type_number kind._Alias) h (refl, refl, refl),
    )) tt)

typed_empty : (p : Parts) (type : ℕ) → IsTyped p type (empty p type)
typed_empty p type =
    typed_if p type (type == type_number kind.Binary) _ _
    (λ h. (
      read_number p type (type_number kind.Binary) h refl,
      leaf_of p type (type_number kind.Binary) h (refl, refl, refl),
    ))
    (typed_if p type (types.is_table type) _ _ (λ h. (read_table p type h, h))
    (typed_if p type (type == type_number kind.StringV2) _ _
    (λ h. (
      read_number p type (type_number kind.StringV2) h refl,
      leaf_of p type (type_number kind.StringV2) h (refl, refl, refl),
    ))
    (typed_if p type (types.is_array type) _ _ (λ h. (read_array p type h, h))
    (typed_if p type (type == type_number kind.IntVector) _ _
    (λ h. (read_number p type (type_number kind.IntVector) h refl, h))
    (typed_if p type (reads_older p) _ _ (typed_older_empty p type) tt)))))

typed_older : (p : Parts) (type v : ℕ) → reads_older p ≡ true
    → IsTyped p type (older_leaf type (counted_text p v))
typed_older p type v older =
    let old = type_number kind._String in
    typed_if p type (type == old) _ _
    (λ h. typed_map p type (λ x. leaf (string x)) (counted_text p v)
    (λ s. (older_number p type old h older refl, leaf_of p type old h (refl, refl, refl))))
    (typed_if p type (type == type_number kind._Alias) _ _
    (λ h. typed_map p type (λ x. leaf (alias x)) (counted_text p v)
    (λ s. (
      older_number p type (type_number kind._Alias) h older refl,
      leaf_of p type (type_number kind._Alias) h (refl, refl, refl),
    ))) tt)

typed_placed : (p : Parts) (type v : ℕ) → IsTyped p type (placed p type v)
typed_placed p type v =
    let a = type == type_number kind.Table in
    let b = type == type_number kind._Table32 in
    let c = type == type_number kind.Table16 in
    let long = type == type_number kind.Array in
    let short = type == type_number kind.Array16 in
    typed_if p type (type == type_number kind.Binary) _ _
    (λ h. typed_counted p type (words_of p.body) v _
    (λ n. typed_map p type (λ x. leaf (binary x)) (part p.body (4 * v + 4) n)
    (λ bytes. (
      read_number p type (type_number kind.Binary) h refl,
      leaf_of p type (type_number kind.Binary) h (refl, refl, refl),
    ))))
    (typed_if p type a _ _ (λ h. typed_counted p type (units_of p.body) (2 * v) _
    (λ n. typed_paired p type (first_so a b c h) (part (units_of p.body) (2 * v + 1) n)
    (words_at p (v + n / 2 + 1) n)))
    (typed_if p type b _ _ (λ h. typed_counted p type (words_of p.body) v _
    (λ n. typed_paired p type (second_so a b c h)
    (option_map (map wide_position) (part (words_of p.body) (v + 1) n))
    (words_at p (v + 1 + n) n)))
    (typed_if p type c _ _ (λ h. typed_counted p type p.block v _
    (λ n. typed_paired p type (third_so a b c h) (part p.block (v + 1) n)
    (offsets_at p (v + 1 + n) n)))
    (typed_if p type (type == type_number kind.StringV2) _ _
    (λ h. typed_map p type (λ x. leaf (string x)) (text_in p v)
    (λ s. (
      read_number p type (type_number kind.StringV2) h refl,
      leaf_of p type (type_number kind.StringV2) h (refl, refl, refl),
    )))
    (typed_if p type long _ _ (λ h. typed_counted p type (words_of p.body) v _
    (λ n. typed_map p type list (words_at p (v + 1) n)
    (λ ms. (read_number p type (type_number kind.Array) h refl, left_so long short h))))
    (typed_if p type short _ _ (λ h. typed_counted p type p.block v _
    (λ n. typed_map p type list (offsets_at p (v + 1) n)
    (λ ms. (read_number p type (type_number kind.Array16) h refl, right_so long short h))))
    (typed_if p type (type == type_number kind.IntVector) _ _
    (λ h. typed_counted p type (words_of p.body) v _
    (λ n. typed_map p type (λ x. leaf (int_vector x)) (part (words_of p.body) (v + 1) n)
    (λ ns. (read_number p type (type_number kind.IntVector) h refl, h))))
    (typed_if p type (reads_older p) _ _ (typed_older p type v) tt))))))))

typed_content : (p : Parts) (w : ℕ) → IsTyped p (w / 2 ^ 28) (content_at p w)
unfolding content_at
typed_content p w =
    let type = w / 2 ^ 28 in
    typed_if p type (type == type_number kind.Int) _ _
    (λ h. (
      read_number p type (type_number kind.Int) h refl,
      leaf_of p type (type_number kind.Int) h (refl, refl, refl),
    ))
    (typed_if p type (w % 2 ^ 28 == 0) _ _ (λ _. typed_empty p type)
    (typed_placed p type (w % 2 ^ 28)))

typed_so : (p : Parts) (w : ℕ) {x : Content} → content_at p w ≡ Some x
    → IsTyped p (type_in w) (Some x)
typed_so p w e = subst (IsTyped p (type_in w)) e (typed_content p w)

if_so : {A : Type 0} (b : Bool) (x y : A) → b ≡ true → (if b then x else y) ≡ x
if_so true x y h = refl
if_so false x y h = absurd (false≢true h)

-- two tests that follow from each other are one
both_ways : (a b : Bool) → (a ≡ true → b ≡ true) → (b ≡ true → a ≡ true) → a ≡ b
both_ways true b f g = sym (f refl)
both_ways false true f g = g refl
both_ways false false f g = refl

pub same_test : (x y : List ℕ) → bytes_eq x y ≡ bytes_eq y x
same_test x y =
    both_ways (bytes_eq x y) (bytes_eq y x)
    (λ h. (bytes_eq-Decides y x).1 (sym ((bytes_eq-Decides x y).0 h)))
    (λ h. (bytes_eq-Decides x y).1 (sym ((bytes_eq-Decides y x).0 h)))

-- a member's place denotes what the member does
member_stands : {p : Parts} {m : Member} {t : Tree} {n : ℕ} → DenMember p m t n
    → StandsAs (Some (at_spot p (spot_of m))) (Some t)
member_stands {n = n'} (den_word d) = (n', d)
member_stands (den_unit e) = (1, den_unit e)

-- an entry that is put: what stands at its name afterwards
chosen_stands : (b : Bool) (q : Place) (t : Tree) (found : Option Place) (was : Option Tree)
    → StandsAs (Some q) (Some t) → StandsAs found was
    → StandsAs (if b then Some q else found) (cond b (Some t) was)
chosen_stands true q t found was new old = new
chosen_stands false q t found was new old = old

put_stands : {p : Parts} {m : Member} {t : Tree} {n : ℕ} (name key : List ℕ) (at : ℕ)
    (found : Option Place) (before : Entries) → key_in p at ≡ Some key → DenMember p m t n
    → StandsAs found (get name before)
    → StandsAs (if has_name name (at_entry p (at, m)) then Some (at_spot p (spot_of m)) else found)
    (get name (put key t before))
put_stands {p} {m} {t} name key at found before is d old =
    let test : has_name name (at_entry p (at, m)) ≡ bytes_eq key name =
    ap (λ o. is_text name (option_map (λ (s : List ℕ). (s, 0)) o)) is in
    let after : get name (put key t before)
    ≡ cond (bytes_eq key name) (Some t) (get name before) =
    get-put name key t before
    ∙ ap (λ b. cond b (Some t) (get name before))
    (is_eq-slice_cmp name key ∙ same_test name key) in
    rw (test, after) (chosen_stands (bytes_eq key name) (at_spot p (spot_of m)) t found
    (get name before) (member_stands d) old)

entries_stand : {p : Parts} {es : List (ℕ × Member)} {ts : List (List ℕ × Tree)} {n : ℕ}
    (name : List ℕ) (found : Option Place) (before : Entries) → StandsAs found (get name before)
    → DenEntries p es ts n
    → StandsAs (last_from name found (map (at_entry p) es)) (get name (put_all before ts))
entries_stand name found before h entries_none = h
entries_stand {p = p'} name found before h
    (entries_more {m = m'} {at = at'} {key = k'} {t = t'} is d ds) =
    entries_stand name
    (if has_name name (at_entry p' (at', m')) then Some (at_spot p' (spot_of m')) else found)
    (put k' t' before) (put_stands name k' at' found before is d h) ds

each_stands : {p : Parts} {ms : List Member} {ts : List Tree} {n : ℕ} → DenEach p ms ts n
    → (k : ℕ)
    → StandsAs (slice_get (map (at_spot p) (map spot_of ms)) k)
    (slice_get (array_members (trees_of ts)) k)
each_stands each_none zero = tt
each_stands each_none (suc k) = tt
each_stands (each_more d ds) zero = member_stands d
each_stands (each_more d ds) (suc k) = each_stands ds k

-- what stands inside a tree, where a spot denotes it
abbrev IsInside : Parts → Spot → Tree → Type 0
IsInside p s (table es) =
    (places : List (Place × Place)) × (entries_from p s ≡ Some places)
    × ((name : List ℕ) → StandsAs (last_named name places) (get name es))
IsInside p s (array ts) =
    (places : List Place) × (members_from p s ≡ Some places)
    × ((k : ℕ) → StandsAs (slice_get places k) (slice_get (array_members ts) k))
IsInside p s (int_vector ns) = members_from p s ≡ Some (map (at_spot p) (map spot.Word ns))
IsInside p s (string t) = Unit {0}
IsInside p s (alias t) = Unit {0}
IsInside p s (binary t) = Unit {0}
IsInside p s (integer n) = Unit {0}

-- the members at a word whose type is that of an array or a vector
members_so : (p : Parts) (w : ℕ) (c : Content) (spots : List Spot)
    → (types.is_array (type_in w) || type_in w == type_number kind.IntVector) ≡ true
    → content_at p w ≡ Some c → member_spots (Some c) ≡ Some spots
    → members_from p (spot.Descriptor w) ≡ Some (map (at_spot p) spots)
members_so p w c spots typed is are =
    ap (option_map (map (at_spot p)))
    (if_so _ (member_spots (content_at p w)) None typed ∙ ap member_spots is ∙ are)

leaf_inside : (p : Parts) (w : ℕ) (t : Tree) → content_at p w ≡ Some (leaf t) → IsNoCollection t
    → IsInside p (spot.Descriptor w) t
leaf_inside p w (int_vector ns) e h =
    members_so p w (leaf (int_vector ns)) (map spot.Word ns)
    (right_so (types.is_array (type_in w)) _ (typed_so p w e).1) e refl
leaf_inside p w (string s) e h = tt
leaf_inside p w (alias s) e h = tt
leaf_inside p w (array ts) e h = absurd h
leaf_inside p w (table es) e h = absurd h
leaf_inside p w (binary s) e h = tt
leaf_inside p w (integer n) e h = tt

inside_word : {p : Parts} {w n : ℕ} {t : Tree} → Den p w t n → IsInside p (spot.Descriptor w) t
inside_word {p = p'} (den_leaf {w = w'} {t = t'} e) =
    leaf_inside p' w' t' e (content_leaf p' w' t' e)
inside_word {p = p'} (den_list {w = w'} {ms = ms'} e d) = (
  map (at_spot p') (map spot_of ms'),
  members_so p' w' (list ms') (map spot_of ms')
      (left_so (types.is_array (type_in w')) _ (typed_so p' w' e).1) e refl,
  each_stands d,
)
inside_word {p = p'} (den_entries {w = w'} {es = es'} e d) = (
  map (at_entry p') es',
  ap (option_map (map (at_entry p')))
      (if_so _ (content_entries (content_at p' w')) None (typed_so p' w' e).1
      ∙ ap content_entries e),
  λ name. entries_stand name None no_entries tt d,
)

-- a unit denotes a string, in which nothing stands
abbrev IsInsideUnit : Parts → Member → Tree → Type 0
IsInsideUnit p (word w) t = Unit {0}
IsInsideUnit p (unit u) t = IsInside p (spot.Unit u) t

inside_unit : {p : Parts} {m : Member} {n : ℕ} {t : Tree} → DenMember p m t n → IsInsideUnit p m t
inside_unit (den_word d) = tt
inside_unit (den_unit e) = tt

inside_spot : (p : Parts) (s : Spot) (t : Tree) (n : ℕ) → DenSpot p s t n → IsInside p s t
inside_spot p (spot.Descriptor w) t n d = inside_word d
inside_spot p (spot.Unit u) t n d = inside_unit d
inside_spot p (spot.Word w) t n d = absurd d
inside_spot p (spot.Key k) t n d = absurd d

pub entries_stand_inside : EntriesStand
entries_stand_inside p es n d = inside_spot p.parts p.at (table es) n d

pub members_stand_inside : MembersStand
members_stand_inside p ts n d = inside_spot p.parts p.at (array ts) n d

pub numbers_stand_inside : NumbersStand
numbers_stand_inside p ns n d = inside_spot p.parts p.at (int_vector ns) n d

-- the type of what a spot denotes is told, and is that of the tree
abbrev TellsType : Parts → Spot → Tree → Type 0
TellsType p s t = (type : ℕ) × (type_from p s ≡ Some type) × IsTypeOf t type

tells_word : {p : Parts} {w n : ℕ} {t : Tree} → Den p w t n → TellsType p (spot.Descriptor w) t
tells_word {p = p'} (den_leaf {w = w'} e) =
    (type_in w', if_so _ (Some (type_in w')) None (typed_so p' w' e).0, (typed_so p' w' e).1)
tells_word {p = p'} (den_list {w = w'} e d) =
    (type_in w', if_so _ (Some (type_in w')) None (typed_so p' w' e).0, (typed_so p' w' e).1)
tells_word {p = p'} (den_entries {w = w'} e d) =
    (type_in w', if_so _ (Some (type_in w')) None (typed_so p' w' e).0, (typed_so p' w' e).1)

-- the same of a unit
abbrev TellsUnit : Parts → Member → Tree → Type 0
TellsUnit p (word w) t = Unit {0}
TellsUnit p (unit u) t = TellsType p (spot.Unit u) t

tells_unit : {p : Parts} {m : Member} {n : ℕ} {t : Tree} → DenMember p m t n → TellsUnit p m t
tells_unit (den_word d) = tt
tells_unit (den_unit e) = ((type_number kind.StringV2), refl, (refl, refl, refl))

tells_spot : (p : Parts) (s : Spot) (t : Tree) (n : ℕ) → DenSpot p s t n → TellsType p s t
tells_spot p (spot.Descriptor w) t n d = tells_word d
tells_spot p (spot.Unit u) t n d = tells_unit d
tells_spot p (spot.Word w) t n d = absurd d
tells_spot p (spot.Key k) t n d = absurd d

pub types_tell_trees : TypesTellTrees
types_tell_trees p t n d = tells_spot p.parts p.at t n d
