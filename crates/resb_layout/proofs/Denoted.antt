-- What is laid out is denoted: member by member, and then by the content of its own word.
use Rattle.std.proofs.Common.{zero, suc, ◌≡◌, ℕ, ◌+◌, ◌-◌, ◌*◌, ◌/◌, ◌%◌, ◌^◌, ◌<◌, ◌≤◌, List, []}
use Rattle.std.proofs.Common.{◌∷◌, ◌++◌, length, map, Some, true, false, cond}
use Rattle.std.proofs.Common.{◌==◌, option_map, nat_le, refl, sym, ◌∙◌, ap, subst, arith}
use Rattle.std.proofs.Common.{◌⊎◌, inl, inr, ◌||◌, None, Bool}
use Rattle.std.specs.Prelude.{All}
use Rattle.std.specs.List.{zip, list_all}
use Rattle.std.specs.List.Sorted.{IsStrictlySortedBy}
use Rattle.std.proofs.lemmas.Bool.{and_parts, or_parts, leb-true, ne_eqb}
use Rattle.std.proofs.lemmas.Option.{none-some}
use Rattle.std.proofs.lemmas.List.{length-map}
use Rattle.resb_tree.specs.Aliases.{has_alias, has_alias_in, has_alias_of}
use Rattle.resb_tree.specs.Tree.{Tree, string, alias, array, table, binary, integer, int_vector}
use Rattle.resb_tree.specs.Tree.{Trees, no_trees, more_trees, Entries, no_entries, entry, trees_of}
use Rattle.resb_tree.specs.Tree.{map_of, tree_count, trees_count, entries_count}
use Rattle.resb_tree.specs.Maps.{keyed_trees, text_cmp}
use Rattle.resb_format.specs.Lookups.{key_in, wide_position}
use Rattle.resb_format.specs.Parts.{Parts, reads_older}
use Rattle.resb_format.specs.Content.{Member, word, unit, leaf, list, entry_list, content_at}
use Rattle.resb_format.specs.Content.{placed, empty}
use Rattle.resb_format.specs.Denotes.{Den, den_leaf, den_list, den_entries, DenMember, den_word}
use Rattle.resb_format.specs.Denotes.{den_unit, DenEach, each_none as none_denoted}
use Rattle.resb_format.specs.Denotes.{each_more as more_denoted, DenEntries, entries_none}
use Rattle.resb_format.specs.Denotes.{entries_more}
use Rattle.resb_layout.specs.Laid.{Given, Laid, here, more_units, to_data, words_body}
use Rattle.resb_layout.specs.Laid.{near_table_body, wide_table_body, is_short_by, are_short_by}
use Rattle.resb_layout.specs.Laid.{offsets_by, nears_by, near_by, short_by}
use Rattle.resb_layout.specs.Laid.{ClosesArrayBy, short_array, long_array}
use Rattle.resb_layout.specs.Laid.{ClosesTableBy, short_table}
use Rattle.resb_layout.specs.Laid.{long_table, wide_table, entry_trees, ArePlaced, LaysBy}
use Rattle.resb_layout.specs.Laid.{lays_integer, lays_string, lays_no_path, lays_path}
use Rattle.resb_layout.specs.Laid.{lays_no_bytes, lays_bytes, lays_no_numbers, lays_numbers}
use Rattle.resb_layout.specs.Laid.{lays_no_members, lays_members, lays_no_entries, lays_entries}
use Rattle.resb_layout.specs.Laid.{LaysEachBy, each_none, each_more}
use Rattle.resb_tree.specs.LayingOrder.{entry_keys}
use Rattle.resb_layout.specs.Laid.{word_of_string}
use Rattle.resb_layout.specs.Laws.{IsRead, StandsIn, ReadsAliasesOf, ReadsOlderOf, LaidIsDenoted}
use Rattle.resb_pool.specs.declared.packing.Packing.{Packing}
use Rattle.resb_pool.specs.declared.packing.Packing.TheVariants.{Plain, Compact}
use Rattle.resb_layout.proofs.StringWords.{word_cases, word_below, word_offset}
use Rattle.resb_layout.proofs.BytesLemmas.{EachBelow}
use Rattle.resb_layout.proofs.Grows.{grows, grows_each, by_bytes, parts_stood, units_stay}
use Rattle.resb_layout.proofs.Contents.{array_found, vector_found, wide_found, table_found}
use Rattle.resb_layout.proofs.Contents.{binary_found, array16_found, table16_found, path_found}
use Rattle.resb_layout.proofs.Contents.{word_of_array, word_of_alias}
use Rattle.resb_layout.proofs.Contents.{word_of_array16, word_of_table, word_of_table16}
use Rattle.resb_layout.proofs.Contents.{word_of_table32, word_of_binary, word_of_vector}
use Rattle.resb_tree.proofs.MapsLemmas.{map_of-keyed_trees}
use Rattle.resb_layout.proofs.Forms.{offsets_many, nears_many, offsets_are, nears_are}
use Rattle.std.proofs.Common.{Option}
use Rattle.resb_layout.specs.Laid.{Lends}

abbrev list_of : Trees → List Tree
list_of no_trees = []
list_of (more_trees t ts) = t ∷ list_of ts

trees_back : (ts : Trees) → trees_of (list_of ts) ≡ ts
trees_back no_trees = refl
trees_back (more_trees t ts) = ap (λ us. more_trees t us) (trees_back ts)

each_below : (n : ℕ) (xs : List ℕ) → All (λ x. x < n) xs → EachBelow n xs
each_below n [] h = tt
each_below n (x ∷ xs) h = (
  h 0 0 (omega arith),
  each_below n xs (λ k d l. h (suc k) d (omega (arith, l))),
)

near_below : (n : ℕ) (ps : List ℕ) → 65535 < n → list_all (λ p. nat_le p 65535) ps ≡ true
    → EachBelow n ps
near_below n [] h e = tt
near_below n (p ∷ ps) h e =
    let both = and_parts _ _ e in
    (omega (arith, h, leb-true p 65535 both.0), near_below n ps h both.1)

array_word : {lent : Option Lends} {g : Given} {s : Laid} {ws : List ℕ} {e : Laid} {w : ℕ}
    → ClosesArrayBy lent g s ws e w → (w < 2 ^ 32) × (0x6fff_ffff < w)
array_word (short_array k l) = (omega arith, omega arith)
array_word (long_array at k e l n) = (omega arith, omega arith)

table_word : {lent : Option Lends} {g : Given} {s : Laid} {ps ws : List ℕ} {e : Laid} {w : ℕ}
    → ClosesTableBy lent g s ps ws e w → (w < 2 ^ 32) × (w < 0x6000_0000) × (0 < w)
table_word (short_table n k l) = (omega arith, omega arith, omega arith)
table_word (long_table at n k e l) = (omega arith, omega arith, omega arith)
table_word (wide_table at n e l q r) = (omega arith, omega arith, omega arith)

-- a word has 32 bits
word_small : {lent : Option Lends} {g : Given} {s e : Laid} {t : Tree} {w : ℕ}
    → LaysBy lent g s t e w → w < 2 ^ 32
word_small (lays_integer h) = omega arith
word_small {g = g'} (lays_string {k = k'} h l) = omega (arith, l, word_below g'.packing k')
word_small lays_no_path = omega arith
word_small (lays_path at some u n e l) = omega arith
word_small lays_no_bytes = omega arith
word_small (lays_bytes at some n e l) = omega arith
word_small lays_no_numbers = omega arith
word_small (lays_numbers at some n a e l) = omega arith
word_small lays_no_members = omega arith
word_small (lays_members h some c) = (array_word c).0
word_small lays_no_entries = omega arith
word_small (lays_entries ps p h some c) = (table_word c).0

words_small : {lent : Option Lends} {g : Given} {s e : Laid} {ts : Trees} {ws : List ℕ}
    → LaysEachBy lent g s ts e ws
    → EachBelow (2 ^ 32) ws
words_small each_none = tt
words_small (each_more h k) = (word_small h, words_small k)

-- members and words are as many
words_many : {lent : Option Lends} {g : Given} {s e : Laid} {ts : Trees} {ws : List ℕ}
    → LaysEachBy lent g s ts e ws
    → length ws ≡ length (list_of ts)
words_many each_none = refl
words_many (each_more h k) = ap suc (words_many k)

record IsString (g : Given) (t : Tree) (w : ℕ) : Type 0 where
  text : List ℕ
  is : t ≡ string text
  offset : g.offset text ≡ Some (w - 0x6000_0000)

-- a word in this range is a string's, and so is 0
string_word : {lent : Option Lends} {g : Given} {s e : Laid} {t : Tree} {w : ℕ}
    → LaysBy lent g s t e w → (0 < w → 0x6000_0000 ≤ w) → w ≤ 0x6fff_ffff → IsString g t w
string_word (lays_integer h) a b = absurd (omega arith)
string_word {lent = lent} {g = g} (lays_string {text = text} {k = k} h l) a b =
    record { text = text; is = refl; offset = h ∙ ap Some (sym (word_offset g.packing k)) }
string_word lays_no_path a b = absurd (omega (arith, a (omega arith)))
string_word (lays_path at some u n e l) a b = absurd (omega (arith, a (omega arith)))
string_word lays_no_bytes a b = absurd (omega (arith, a (omega arith)))
string_word (lays_bytes at some n e l) a b = absurd (omega (arith, a (omega arith)))
string_word lays_no_numbers a b = absurd (omega arith)
string_word (lays_numbers at some n c e l) a b = absurd (omega arith)
string_word lays_no_members a b = absurd (omega arith)
string_word (lays_members h some c) a b = let far = (array_word c).1 in absurd (omega (arith, far))
string_word lays_no_entries a b = absurd (omega (arith, a (omega arith)))
string_word (lays_entries ps p h some c) a b =
    let r = table_word c in
    absurd (omega (arith, r.1, a r.2))

pub record IsShortWord (lent : Option Lends) (w : ℕ) : Type 0 where
  pub low : 0 < w → 0x6000_0000 ≤ w
  pub high : w ≤ 0x6fff_ffff
  pub short : short_by lent (w - 0x6000_0000) ≤ 65535

-- a unit tells index 0
short_zero : (lent : Option Lends) → short_by lent (0 - 0x6000_0000) ≡ 0
short_zero None = refl
short_zero (Some l) = refl

not_zero : (v : ℕ) (b : Bool) → ((suc v == 0) || b) ≡ b
not_zero v b = ap (λ c. c || b) (ne_eqb (suc v) 0 (λ (q : suc v ≡ 0). omega (arith, q)))

pub short_word : (lent : Option Lends) (w : ℕ) → is_short_by lent w ≡ true → IsShortWord lent w
short_word lent zero e = record {
  low = λ some. absurd (omega (arith, some));
  high = omega arith;
  short = omega (arith, short_zero lent);
}
short_word None (suc v) e =
    let w : ℕ = suc v in
    let both = and_parts _ _ (sym (not_zero v _) ∙ e) in
    let low : 0x6000_0000 ≤ w = leb-true 0x6000_0000 w both.0 in
    let high : w ≤ 0x6000_ffff = leb-true w 0x6000_ffff both.1 in
    record { low = λ some. low; high = omega (arith, high); short = omega (arith, low, high) }
short_word (Some l) (suc v) e =
    let w : ℕ = suc v in
    let both = and_parts _ _ (sym (not_zero v _) ∙ e) in
    let rest = and_parts _ _ both.1 in
    record {
      low = λ some. leb-true 0x6000_0000 w both.0;
      high = leb-true w 0x6fff_ffff rest.0;
      short = leb-true (short_by (Some l) (w - 0x6000_0000)) 65535 rest.1;
    }

pub all_short : (lent : Option Lends) (ws : List ℕ) → are_short_by lent ws ≡ true
    → list_all (is_short_by lent) ws ≡ true
all_short None ws e = (and_parts _ _ e).1
all_short (Some l) ws e = (and_parts _ _ e).1

module _ (p : Parts) (lent : Option Lends) (g : Given) (read : IsRead p lent g) where
  short_member : {s e : Laid} {t : Tree} {w : ℕ} → LaysBy lent g s t e w
      → is_short_by lent w ≡ true
      → DenMember p (unit (short_by lent (w - 0x6000_0000))) t (tree_count t)
  short_member {w = w} h e =
      let k = short_word lent w e in
      let i = string_word h k.low k.high in
      subst (λ t. DenMember p (unit (short_by lent (w - 0x6000_0000))) t (tree_count t)) (sym i.is)
      (den_unit (read.short_texts i.text (w - 0x6000_0000) i.offset k.short))

  -- strings alone
  each_short : {s e : Laid} {ts : Trees} {ws : List ℕ} → LaysEachBy lent g s ts e ws
      → list_all (is_short_by lent) ws ≡ true
      → DenEach p (map unit (map (λ w. short_by lent (w - 0x6000_0000)) ws)) (list_of ts)
      (trees_count ts)
  each_short each_none e = none_denoted
  each_short (each_more h k) e = let both = and_parts _ _ e in
      more_denoted (short_member h both.0) (each_short k both.1)

  short_each : {s e : Laid} {ts : Trees} {ws : List ℕ} → LaysEachBy lent g s ts e ws
      → list_all (is_short_by lent) ws ≡ true
      → DenEach p (map unit (offsets_by lent ws)) (list_of ts) (trees_count ts)
  short_each {ts = ts'} {ws = ws'} h e =
      subst (λ os. DenEach p (map unit os) (list_of ts') (trees_count ts'))
      (sym (offsets_are lent ws')) (each_short h e)

  -- the keys stand at their positions
  keys_at : (ks : List (List ℕ)) (ps : List ℕ) → map g.position ks ≡ map Some ps
      → map (key_in p) (map wide_position ps) ≡ map Some ks
  keys_at [] [] e = refl
  keys_at [] (q ∷ ps) e = absurd (let no : ⊥ = cc in no)
  keys_at (k ∷ ks) [] e = absurd (let no : ⊥ = cc in no)
  keys_at (k ∷ ks) (q ∷ ps) e =
      let first : g.position k ≡ Some q = cc in
      let rest : map g.position ks ≡ map Some ps = cc in
      λ i. read.keys k q first i ∷ keys_at ks ps rest i

  near_at : (ks : List (List ℕ)) (ps : List ℕ) → map g.position ks ≡ map Some ps
      → list_all (λ q. nat_le q 65535) (map (near_by lent) ps) ≡ true
      → map (key_in p) (map (near_by lent) ps) ≡ map Some ks
  near_at [] [] e h = refl
  near_at [] (q ∷ ps) e h = absurd (let no : ⊥ = cc in no)
  near_at (k ∷ ks) [] e h = absurd (let no : ⊥ = cc in no)
  near_at (k ∷ ks) (q ∷ ps) e h =
      let first : g.position k ≡ Some q = cc in
      let rest : map g.position ks ≡ map Some ps = cc in
      let both = and_parts _ _ h in
      λ i. read.near_keys k q first (leb-true (near_by lent q) 65535 both.0) i
      ∷ near_at ks ps rest both.1 i

  nears_at : (ks : List (List ℕ)) (ps : List ℕ) → map g.position ks ≡ map Some ps
      → list_all (λ q. nat_le q 65535) (nears_by lent ps) ≡ true
      → map (key_in p) (nears_by lent ps) ≡ map Some ks
  nears_at ks ps e h =
      ap (map (key_in p)) (nears_are lent ps)
      ∙ near_at ks ps e (ap (list_all (λ q. nat_le q 65535)) (sym (nears_are lent ps)) ∙ h)

module _ (p : Parts) where
  none_keyed : (ms : List Member) (n : ℕ) → DenEach p ms [] n → DenEntries p (zip [] ms) [] n
  none_keyed ms n none_denoted = entries_none

  -- the texts of the keys at these positions
  keyed : (es : Entries) (ps : List ℕ) (ms : List Member) (n : ℕ)
      → map (key_in p) ps ≡ map Some (entry_keys es) → DenEach p ms (list_of (entry_trees es)) n
      → DenEntries p (zip ps ms) (keyed_trees es) n
  keyed no_entries [] ms n e d = none_keyed ms n d
  keyed no_entries (q ∷ ps) ms n e d = absurd (let no : ⊥ = cc in no)
  keyed (entry k t es) [] ms n e d = absurd (let no : ⊥ = cc in no)
  keyed (entry k t es) (q ∷ ps) ms n e d =
      let first : key_in p q ≡ Some k = cc in
      let rest : map (key_in p) ps ≡ map Some (entry_keys es) = cc in
      one_and_more first (λ ms j h. keyed es ps ms j rest h) ms n d
    where
      one_and_more : key_in p q ≡ Some k → ((ms : List Member) (j : ℕ)
          → DenEach p ms (list_of (entry_trees es)) j → DenEntries p (zip ps ms) (keyed_trees es) j)
          → (ms : List Member) (n : ℕ) → DenEach p ms (t ∷ list_of (entry_trees es)) n
          → DenEntries p (zip (q ∷ ps) ms) ((k, t) ∷ keyed_trees es) n
      one_and_more key later ms n (more_denoted {k = k'} {ms = ms'} a b) =
          entries_more key a (later ms' k' b)

positions_many : (g : Given) (ks : List (List ℕ)) (ps : List ℕ) → map g.position ks ≡ map Some ps
    → length ks ≡ length ps
positions_many g ks ps e = sym (length-map ks g.position) ∙ ap length e ∙ length-map ps Some

none_ascend : IsStrictlySortedBy text_cmp []
unfolding IsStrictlySortedBy
none_ascend = tt

members_many : (es : Entries) → length (entry_keys es) ≡ length (list_of (entry_trees es))
members_many no_entries = refl
members_many (entry k t es) = ap suc (members_many es)

pub members_count : (es : Entries) → trees_count (entry_trees es) ≡ entries_count es
members_count no_entries = refl
members_count (entry k t es) = ap (λ n. tree_count t + n) (members_count es)

-- an alias is not among trees, or it is read
abbrev EachReadsAliases : Parts → Trees → Type 0
EachReadsAliases p ts = (has_alias_in ts ≡ false) ⊎ (reads_older p ≡ true)

alias_read : (p : Parts) (path : List ℕ) → ReadsAliasesOf p (alias path) → reads_older p ≡ true
alias_read p path (inl none) = absurd (let no : ⊥ = cc in no)
alias_read p path (inr reads) = reads

first_reads : (p : Parts) (t : Tree) (ts : Trees) → EachReadsAliases p (more_trees t ts)
    → ReadsAliasesOf p t
first_reads p t ts (inl none) = inl (or_parts (has_alias t) (has_alias_in ts) none).0
first_reads p t ts (inr reads) = inr reads

rest_reads : (p : Parts) (t : Tree) (ts : Trees) → EachReadsAliases p (more_trees t ts)
    → EachReadsAliases p ts
rest_reads p t ts (inl none) = inl (or_parts (has_alias t) (has_alias_in ts) none).1
rest_reads p t ts (inr reads) = inr reads

values_alias : (es : Entries) → has_alias_in (entry_trees es) ≡ has_alias_of es
values_alias no_entries = refl
values_alias (entry k t es) = ap (λ b. has_alias t || b) (values_alias es)

values_read : (p : Parts) (es : Entries) → ReadsAliasesOf p (table es)
    → EachReadsAliases p (entry_trees es)
values_read p es (inl none) = inl (values_alias es ∙ none)
values_read p es (inr reads) = inr reads

module _ (p : Parts) (lent : Option Lends) (g : Given) (read : IsRead p lent g)
    (compact_reads : g.packing ≡ Compact → g.offset [] ≡ Some 0 → reads_older p ≡ true) where
  some_here : (s : Laid) (at : ℕ) → here g s ≡ 4 * at → 0 < at
  some_here s at e = omega (arith, e, read.base)

  some_filled : (n m at : ℕ) → 0 < n → n + m ≡ 4 * at → 0 < at
  some_filled n m at h e = omega (arith, e, h)

  one_and_more : (n : ℕ) → 1 + n ≡ n + 1
  one_and_more n = omega arith

  as_array : (w : ℕ) (ms : List Member) (ts : Trees) → content_at p w ≡ Some (list ms)
      → DenEach p ms (list_of ts) (trees_count ts) → Den p w (array ts) (trees_count ts + 1)
  as_array w ms ts e d =
      subst (λ us. Den p w (array us) (trees_count ts + 1)) (trees_back ts)
      (subst (λ n. Den p w (array (trees_of (list_of ts))) n) (one_and_more (trees_count ts))
      (den_list e d))

  as_table : (w : ℕ) (ps : List ℕ) (ms : List Member) (es : Entries)
      → IsStrictlySortedBy text_cmp (entry_keys es)
      → map (key_in p) ps ≡ map Some (entry_keys es)
      → content_at p w ≡ Some (entry_list (zip ps ms))
      → DenEach p ms (list_of (entry_trees es)) (trees_count (entry_trees es))
      → Den p w (table es) (entries_count es + 1)
  as_table w ps ms es ascend keys e d =
      let ds : DenEntries p (zip ps ms) (keyed_trees es) (entries_count es) =
      subst (λ n. DenEntries p (zip ps ms) (keyed_trees es) n) (members_count es)
      (keyed p es ps ms (trees_count (entry_trees es)) keys d) in
      subst (λ fs. Den p w (table fs) (entries_count es + 1)) (map_of-keyed_trees es ascend)
      (subst (λ n. Den p w (table (map_of (keyed_trees es))) n) (one_and_more (entries_count es))
      (den_entries e ds))

  abbrev to_data_of : Laid → ℕ
  to_data_of s = to_data (here g s)

  some_base : (s : Laid) → 0 < here g s
  some_base s = omega (arith, read.base)

  integer_word : (n : ℕ) → n < 2 ^ 28 → content_at p (0x7000_0000 + n) ≡ Some (leaf (integer n))
  unfolding content_at
  integer_word n h =
      let e : (0x7000_0000 + n) / 2 ^ 28 ≡ 7 = omega arith in
      let f : (0x7000_0000 + n) % 2 ^ 28 ≡ n = omega arith in
      λ i. cond (e i == 7) (Some (leaf (integer (f i))))
      (cond (f i == 0) (empty p (e i)) (placed p (e i) (f i)))

  no_path : reads_older p ≡ true → content_at p 0x3000_0000 ≡ Some (leaf (alias []))
  unfolding content_at
  no_path reads = ap (λ c. cond c (Some (leaf (alias []))) None) reads

  no_bytes : content_at p 0x1000_0000 ≡ Some (leaf (binary []))
  unfolding content_at
  no_bytes = refl

  no_numbers : content_at p 0xe000_0000 ≡ Some (leaf (int_vector []))
  unfolding content_at
  no_numbers = refl

  empty_array_stands : content_at p 0x8000_0000 ≡ Some (list [])
  unfolding content_at
  empty_array_stands = refl

  empty_table_stands : content_at p 0x2000_0000 ≡ Some (entry_list [])
  unfolding content_at
  empty_table_stands = refl

  -- the empty text alone stands at unit 0
  string_plain : (text : List ℕ) (k : ℕ) → g.offset text ≡ Some k → k < 2 ^ 28
      → content_at p (0x6000_0000 + k) ≡ Some (leaf (string text))
  unfolding content_at
  string_plain text zero h l = ap (λ s. Some (leaf (string s))) (sym (read.empty text h))
  string_plain text (suc k) h l =
      let e : (0x6000_0000 + suc k) / 2 ^ 28 ≡ 6 = omega arith in
      let f : (0x6000_0000 + suc k) % 2 ^ 28 ≡ suc k = omega arith in
      let z : (suc k == 0) ≡ false = ne_eqb (suc k) 0 (λ (q : suc k ≡ 0). omega (arith, q)) in
      (λ i. cond (e i == 7) (Some (leaf (integer (f i))))
      (cond (f i == 0) (empty p (e i)) (placed p (e i) (f i))))
      ∙ ap (λ c. cond c (empty p 6) (placed p 6 (suc k))) z
      ∙ ap (option_map (λ s. leaf (string s))) (read.texts text (suc k) h)

  -- where aliases are read, word 0 is the empty text's
  no_text : reads_older p ≡ true → content_at p 0 ≡ Some (leaf (string []))
  unfolding content_at
  no_text reads = ap (λ c. cond c (Some (leaf (string []))) None) reads

  string_leaf : (text : List ℕ) (k : ℕ) → g.offset text ≡ Some k → k < 2 ^ 28
      → content_at p (word_of_string g.packing k) ≡ Some (leaf (string text))
  string_leaf text k h l = elim (word_cases g.packing k) [
    | inl e ↦ ap (content_at p) e ∙ string_plain text k h l
    | inr e ↦
        let none : text ≡ [] = read.empty text (h ∙ ap Some e.1) in
        ap (content_at p) e.2
        ∙ no_text (compact_reads e.0 (ap g.offset (sym none) ∙ h ∙ ap Some e.1))
        ∙ ap (λ s. Some (leaf (string s))) (sym none)
  ]

  array_denoted : (s : Laid) (ts : Trees) (ws : List ℕ) (e : Laid) (w : ℕ) → 0 < length s.units
      → ClosesArrayBy lent g s ws e w → StandsIn p g e → EachBelow (2 ^ 32) ws
      → (StandsIn p g s → DenEach p (map word ws) (list_of ts) (trees_count ts))
      → (list_all (is_short_by lent) ws ≡ true
      → DenEach p (map unit (offsets_by lent ws)) (list_of ts) (trees_count ts))
      → Den p w (array ts) (trees_count ts + 1)
  array_denoted s ts ws e w u (short_array h l) i small long short =
      let os : List ℕ = offsets_by lent ws in
      let n : length ws ≡ length os = sym (offsets_many lent ws) in
      let j : StandsIn p g (more_units s (length os ∷ os)) =
      subst (λ k. StandsIn p g (more_units s (k ∷ os))) n i in
      as_array (0x9000_0000
      + length s.units) (map unit os) ts (word_of_array16 p (length s.units) u l
      ∙ array16_found p g s os j) (short (all_short lent ws h))
  array_denoted s ts ws e w u (long_array at h f l n) i small long short =
      as_array (0x8000_0000 + at) (map word ws) ts
      (word_of_array p at (some_here s at f) l ∙ array_found p g s ws at f small n i)
      (long (parts_stood (by_bytes s (words_body ws)) i))

  table_denoted : (s : Laid) (es : Entries) (ps ws : List ℕ) (e : Laid) (w : ℕ)
      → 0 < length s.units → ClosesTableBy lent g s ps ws e w → StandsIn p g e
      → ArePlaced g (entry_keys es) ps → length ps ≡ length ws → EachBelow (2 ^ 32) ws
      → (StandsIn p g s
      → DenEach p (map word ws) (list_of (entry_trees es)) (trees_count (entry_trees es)))
      → (list_all (is_short_by lent) ws ≡ true
      → DenEach p (map unit (offsets_by lent ws)) (list_of (entry_trees es))
      (trees_count (entry_trees es)))
      → Den p w (table es) (entries_count es + 1)
  table_denoted s es ps ws e w u (short_table near h l) i q same small long short =
      let qs : List ℕ = nears_by lent ps in
      let os : List ℕ = offsets_by lent ws in
      let n : length ws ≡ length os = sym (offsets_many lent ws) in
      let j : StandsIn p g (more_units s (length os ∷ (qs ++ os))) =
      subst (λ k. StandsIn p g (more_units s (k ∷ (qs ++ os)))) n i in
      as_table (0x5000_0000
      + length s.units) qs (map unit os) es q.ascend
      (nears_at p lent g read (entry_keys es) ps q.positions (and_parts _ _ near).1)
      (word_of_table16 p (length s.units) u l
      ∙ table16_found p g s qs os (sym n ∙ sym same ∙ sym (nears_many lent ps)) j)
      (short (all_short lent ws h))
  table_denoted s es ps ws e w u (long_table at near h f l) i q same small long short =
      let qs : List ℕ = nears_by lent ps in
      let both = and_parts _ _ near in
      let few : length qs < 2 ^ 16 = omega (arith, leb-true (length qs) 65535 both.0) in
      as_table (0x2000_0000 + at) qs (map word ws) es q.ascend
      (nears_at p lent g read (entry_keys es) ps q.positions both.1)
      (word_of_table p at (some_here s at f) l
      ∙ table_found p g s qs ws at f (near_below (2 ^ 16) qs (omega arith) both.1) small few
      (nears_many lent ps ∙ same) i)
      (long (parts_stood (by_bytes s (near_table_body qs ws)) i))
  table_denoted s es ps ws e w u (wide_table at near f l n a) i q same small long short =
      as_table (0x4000_0000 + at) (map wide_position ps) (map word ws) es q.ascend
      (keys_at p lent g read (entry_keys es) ps q.positions)
      (word_of_table32 p at (some_here s at f) l
      ∙ wide_found p g s ps ws at f (each_below (2 ^ 32) ps a) small n same i)
      (long (parts_stood (by_bytes s (wide_table_body ps ws)) i))

  mutual
    pub denoted : {s e : Laid} {t : Tree} {w : ℕ} → ReadsAliasesOf p t → 0 < length s.units
        → LaysBy lent g s t e w → StandsIn p g e → Den p w t (tree_count t)
    denoted r u (lays_integer {n = n} h) i = den_leaf (integer_word n h)
    denoted r u (lays_string {text = text} {k = k} h l) i = den_leaf (string_leaf text k h l)
    denoted r u lays_no_path i = den_leaf (no_path (alias_read p [] r))
    denoted r u (lays_path {s = s'} {path = path'} at some text n e l) i =
        den_leaf (word_of_alias p at (alias_read p path' r) (some_here s' at e) l
        ∙ ap (option_map (λ s. leaf (alias s))) (path_found p g s' path' at e text n i))
    denoted r u lays_no_bytes i = den_leaf no_bytes
    denoted r u (lays_bytes {s = s'} {bytes = bytes'} at some n e l) i =
        let z : 0 < at = some_filled (here g s') (to_data_of s') at (some_base s') e in
        den_leaf (word_of_binary p at z l ∙ binary_found p g s' bytes' at e n i)
    denoted r u lays_no_numbers i = den_leaf no_numbers
    denoted r u (lays_numbers {s = s'} {ns = ns'} at some n a e l) i =
        den_leaf (word_of_vector p at (some_here s' at e) l
        ∙ vector_found p g s' ns' at e (each_below (2 ^ 32) ns' a) n i)
    denoted r u lays_no_members i = as_array 0x8000_0000 [] no_trees empty_array_stands none_denoted
    denoted {e = e'} r u (lays_members {s = s'} {mid = m'} {ts = ts'} {ws = ws'} {w = w'} h some
        c) i =
        array_denoted m' ts' ws' e' w' (units_stay (grows_each h) u) c i (words_small h)
        (λ k. denoted_each r u h k) (λ k. short_each p lent g read h k)
    denoted r u lays_no_entries i =
        as_table 0x2000_0000 [] [] no_entries none_ascend refl empty_table_stands none_denoted
    denoted {e = e'} r u (lays_entries {s = s'} {mid = m'} {es = es'} {ws = ws'} {w =
        w'} ps q h some c) i =
        let same : length ps ≡ length ws' = sym (positions_many g (entry_keys es') ps q.positions)
        ∙ members_many es' ∙ sym (words_many h) in
        table_denoted m' es' ps ws' e' w' (units_stay (grows_each h) u) c i q same (words_small h)
        (λ k. denoted_each (values_read p es' r) u h k) (λ k. short_each p lent g read h k)

    denoted_each : {s e : Laid} {ts : Trees} {ws : List ℕ} → EachReadsAliases p ts
        → 0 < length s.units → LaysEachBy lent g s ts e ws → StandsIn p g e
        → DenEach p (map word ws) (list_of ts) (trees_count ts)
    denoted_each r u each_none i = none_denoted
    denoted_each r u (each_more {t = t'} {ts = ts'} h k) i =
        let first = first_reads p t' ts' r in
        more_denoted (den_word (denoted first u h (parts_stood (grows_each k) i)))
        (denoted_each (rest_reads p t' ts' r) (units_stay (grows h) u) k i)

-- a tree that is laid is what its word denotes
pub laid_is_denoted : LaidIsDenoted
laid_is_denoted lent p g before after t w read older u h i = by g.packing refl older
  where
    by : (q : Packing) → g.packing ≡ q → ReadsOlderOf q (g.offset []) p t → Den p w t (tree_count t)
    by Plain e aliases = denoted p lent g read (λ c. absurd (apart (sym e ∙ c))) aliases u h i
      where
        apart : Plain ≡ Compact → ⊥
        apart c = cc
    by Compact e (aliases, reads) = denoted p lent g read (λ c has. elim reads [
      | inl none ↦ absurd (none-some 0 (sym none ∙ has))
      | inr r ↦ r
    ]) aliases u h i
