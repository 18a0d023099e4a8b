-- What is put together is the file of its tree.
use Rattle.std.proofs.Common.{◌≡◌, ℕ, ◌+◌, ◌-◌, ◌*◌, ◌%◌, ◌^◌, ◌<◌, ◌≤◌, List, [], ◌∷◌, ◌++◌}
use Rattle.std.proofs.Common.{length, get_or, Option, Some, None, Bool, true, false}
use Rattle.std.proofs.Common.{cond, refl, sym, ◌∙◌, ap, subst, append_assoc, append-nil}
use Rattle.std.proofs.Common.{length-append, inl, inr, arith, MatchOption}
use Rattle.std.specs.List.{Contains}
use Rattle.resb_pool.specs.Pool.{Off}
use Rattle.std.specs.List.{All}
use Rattle.std.specs.Str.{IsUtf8}
use Rattle.std.proofs.lemmas.List.{take_at}
use Rattle.std.proofs.lemmas.List.Elements.{All-contains}
use Rattle.std.proofs.lemmas.List.Sums.{sum_by-cons}
use Rattle.std.specs.Option.{option_or}
use Rattle.resb_tree.specs.Tree.{Tree, string, alias, array, table, binary, integer, int_vector}
use Rattle.resb_tree.specs.Tree.{Entries, no_entries, entry, entries_len, tree_count}
use Rattle.resb_format.specs.Strings.{text_at, key_at}
use Rattle.resb_format.specs.Parts.{Parts, beside_no_pool, reads_older}
use Rattle.resb_head.specs.File.{root_word, parts_of, keys_end, block_end}
use Rattle.resb_format.specs.Denotes.{Den}
use Rattle.resb_pool.specs.Plan.{IsPlanBy}
use Rattle.resb_pool.proofs.IsRead.{pool_is_read}
use Rattle.resb_pool.proofs.ReadBack.{text_at-zero}
use Rattle.resb_layout.specs.Laid.{Given, Laid, LaysBy, fill}
use Rattle.resb_format.specs.Bytes.{units_as_bytes}
use Rattle.resb_format.specs.Lookups.{key_place_by, text_place_by, index_by, text_in}
use Rattle.resb_format.proofs.Beside.{near_position, wide_position_back}
use Rattle.resb_layout.specs.Laws.{IsRead, StandsIn, ReadsOlderOf}
use Rattle.resb_layout.proofs.BytesLemmas.{EachBelow, halves_len}
use Rattle.resb_layout.proofs.Grows.{grows}
use Rattle.resb_layout.proofs.Denoted.{laid_is_denoted}
use Rattle.resb_layout.proofs.Paid.{laid_is_paid}
use Rattle.resb_tree.specs.LayingOrder.{laying_order, texts_of, values_of}
use Rattle.resb_write.specs.Inner.Room.{HasRoomFor}
use Rattle.resb_layout.specs.KeyBlock.{used, key_bytes, padded}
use Rattle.resb_layout.specs.CompactKeys.{keys_by, key_block_by, key_position_by}
use Rattle.resb_tree.specs.LayingOrder.{keys_of}
use Rattle.resb_layout.specs.PlainSize.{held_size, resources_size, list_size}
use Rattle.resb_layout.specs.TreeFaults.{key_fault, tree_fault}
use Rattle.resb_layout.specs.WrittenHead.{written_header}
use Rattle.resb_layout.specs.Written.{even, tail_start, BlocksBy, WrittenBy}
use Rattle.resb_layout.specs.Written.{LacksEmpty}
use Rattle.resb_pool.specs.declared.packing.Packing.{Packing}
use Rattle.resb_pool.specs.declared.packing.Packing.TheVariants.{Plain, Compact}
use Rattle.resb_tree.specs.Aliases.{has_alias}
use Rattle.resb_write.specs.Inner.Gathered.{entry_count_of, largest_of}
use Rattle.resb_write.specs.Inner.Files.{file_of, fields_of}
use Rattle.resb_write.specs.Inner.Sizes.{size_fault}
use Rattle.resb_write.proofs.PackedKeys.{packed_room, key_placed, used_there}
use Rattle.resb_write.proofs.Room.{small_sizes, used_room, length-padded}
use Rattle.resb_write.proofs.Known.{no_nul}
use Rattle.resb_write.proofs.Blocks.{key_read_at, even_is, even_long, each_below, below_even}
use Rattle.resb_write.proofs.Blocks.{largest_laid}
use Rattle.resb_write.proofs.Beside.{read_beside, stands_beside}
use Rattle.resb_write.proofs.Heads as heads
use Rattle.resb_write.proofs.Heads.{Whole}

entries_values : (es : Entries) → entries_len es ≡ length (values_of es)
entries_values no_entries = refl
entries_values (entry k t es) = omega (arith, entries_values es)

-- the largest table is bounded by the plain size
pub largest_room : (ts : List Tree) → largest_of ts ≤ resources_size ts
largest_room [] = omega arith
largest_room (t ∷ ts) = omega (
  arith,
  by t,
  largest_room ts,
  sum_by-cons (λ (u : Tree). 16 + held_size u) t ts,
)
  where
    by : (u : Tree) → entry_count_of u ≤ held_size u
    by (string s) = omega arith
    by (alias s) = omega arith
    by (array us) = omega arith
    by (table es) = omega (arith, entries_values es)
    by (binary s) = omega arith
    by (integer n) = omega arith
    by (int_vector ns) = omega arith

-- what is known when a file is put together
pub record Made (q : Packing) (t : Tree) (ks : List (List ℕ)) : Type 0 where
  pub pool : List ℕ
  pub offset : List ℕ → Option ℕ
  pub laid : Laid
  pub root : ℕ
  pub utf8 : All IsUtf8 (used (keys_of t) ks)
  pub faultless : key_fault (keys_of t) (used (keys_of t) ks) ≡ None
  pub small : list_size ks + resources_size (laying_order t) < 2 ^ 28
  pub plan : IsPlanBy q (texts_of t) pool offset
  pub base : ℕ
  pub base_is : base ≡ 32 + length (key_block_by q t ks) + 2 *
      (length laid.units + length laid.units % 2)
  pub lays : LaysBy None
      (record { position = key_position_by q t ks; offset = offset; base = base; packing = q })
      (record { units = pool; tail = [] }) t laid root
  pub room : HasRoomFor base laid []
  pub units_fit : (k : ℕ) → get_or laid.units k 0 < 2 ^ 16
  pub root_fits : root < 2 ^ 32

-- where aliases are read, so is the empty string of a compact file
older_read : (q : Packing) (empty : Option ℕ) (p : Parts) (t : Tree) → reads_older p ≡ true
    → ReadsOlderOf q empty p t
older_read Plain empty p t reads = inr reads
older_read Compact empty p t reads = (inr reads, inr reads)

-- a text that wasn't given has no offset
not_given : (q : Packing) (S : List (List ℕ)) (us : List ℕ) (offset : List ℕ → Option ℕ)
    → IsPlanBy q S us offset
    → (s : List ℕ) → (Contains S s → ⊥) → offset s ≡ None
not_given q S us offset plan s lacks = by (offset s) refl (plan.offsets s)
  where
    by : (o : Option ℕ) → offset s ≡ o → MatchOption o (Contains S s → ⊥) (λ k. Contains S s
        × Off q S plan.records s k) → offset s ≡ None
    by None e h = e
    by (Some k) e h = absurd (lacks h.0)

alone_read : (q : Packing) (t : Tree) (us : List ℕ) (offset : List ℕ → Option ℕ) (p : Parts)
    → IsPlanBy q (texts_of t) us offset → has_alias t ≡ false → LacksEmpty q t
    → ReadsOlderOf q (offset []) p t
alone_read Plain t us offset p plan none lacks = inl none
alone_read Compact t us offset p plan none lacks =
    (inl none, inl (not_given Compact (texts_of t) us offset plan [] lacks))

module _ (q : Packing) (t : Tree) (ks : List (List ℕ)) (m : Made q t ks) (largest : ℕ)
    (fallback : Bool) (largest_is : largest ≡ largest_of (laying_order t)) where
  abbrev given : Given
  given = record {
    position = key_position_by q t ks;
    offset = m.offset;
    base = m.base;
    packing = q;
  }

  abbrev js : List (List ℕ)
  js = used (keys_of t) ks

  abbrev own : List (List ℕ)
  own = keys_by q js

  abbrev block : List ℕ
  block = padded (key_bytes own)

  keys_small : length (key_bytes own) < 2 ^ 28
  keys_small = omega (arith, packed_room q js, used_room (keys_of t) ks, m.small)

  abbrev us : List ℕ
  us = even m.laid.units

  flag_room : (b : Bool) → cond b 0 1 < 2 ^ 32
  flag_room true = omega arith
  flag_room false = omega arith

  block_whole : length block % 4 ≡ 0
  block_whole = omega (arith, length-padded (key_bytes own))

  units_whole : length us % 2 ≡ 0
  units_whole = omega (arith, even_long m.laid.units)

  base_whole : m.base % 4 ≡ 0
  base_whole = omega (arith, m.base_is, length-padded (key_bytes own))

  tail_whole : length m.laid.tail % 4 ≡ 0
  tail_whole = omega (arith, m.room.aligned, base_whole)

  words_fit : EachBelow (2 ^ 32) (m.root ∷ fields_of largest fallback block us m.laid.tail)
  words_fit =
      let k = length-padded (key_bytes own) in
      let b = even_long m.laid.units in (
        m.root_fits,
        (
          omega arith,
          (
            omega (arith, keys_small, k),
            (
              omega (arith, keys_small, k, b, m.room.units, m.room.bytes),
              (
                omega (arith, keys_small, k, b, m.room.units, m.room.bytes),
                (
                  omega (arith, largest_is, largest_room (laying_order t), m.small),
                  (flag_room fallback, (omega (arith, keys_small, k, b, m.room.units), tt)),
                ),
              ),
            ),
          ),
        ),
      )

  abbrev whole : Whole
  whole = record {
    root = m.root;
    largest = largest;
    fallback = fallback;
    keys = block;
    us = us;
    tail = m.laid.tail;
    keys_whole = block_whole;
    units_whole = units_whole;
    tail_whole = tail_whole;
    units_fit = below_even m.laid.units (each_below (2 ^ 16) m.laid.units m.units_fit);
    words_fit = words_fit;
  }

  abbrev pub file : List ℕ
  file = file_of m.root largest fallback block us m.laid.tail

  abbrev parts : Parts
  parts = heads.parts whole

  more : (pad : List ℕ) × (even m.laid.units ≡ m.laid.units ++ pad)
  more = even_is m.laid.units

  begins : m.laid.units ≡ m.pool ++ (grows m.lays).units
  begins = (grows m.lays).units_are

  block_begins : us ≡ m.pool ++ ((grows m.lays).units ++ more.0)
  block_begins = more.1 ∙ ap (λ l. l ++ more.0) begins
      ∙ append_assoc m.pool (grows m.lays).units more.0

  pool_first : (rest : List ℕ) × (m.pool ≡ 0 ∷ rest)
  pool_first = (_, m.plan.pool.units)

  key_is_read : (k : List ℕ) (at : ℕ) → key_position_by q t ks k ≡ Some at
      → key_at parts.keys at ≡ Some k
  key_is_read k at e =
      let h = key_placed q js k at e in
      ap (key_at parts.keys) (sym h.is)
      ∙ key_read_at 32 (heads.head whole) (fill ((4 - length (key_bytes own) % 4) % 4))
      (key_bytes own) (heads.head_length whole) k h.place h.stands
      (All-contains IsUtf8 js k m.utf8 h.given)
      (no_nul (keys_of t) js m.faultless k (used_there (keys_of t) ks k h.given))

  text_is_read : (s : List ℕ) (k : ℕ) → m.offset s ≡ Some k → text_in parts k ≡ Some s
  unfolding text_place_by
  text_is_read s k e = ap (λ l. text_at l k) block_begins
      ∙ (pool_is_read q (texts_of t) m.pool m.offset m.plan s k e).1
      ((grows m.lays).units ++ more.0)

  first_is_empty : text_in parts 0 ≡ Some []
  unfolding text_place_by
  first_is_empty = ap (λ l. text_at l 0) (block_begins
      ∙ ap (λ l. l ++ ((grows m.lays).units ++ more.0)) pool_first.1)
      ∙ text_at-zero (pool_first.0 ++ ((grows m.lays).units ++ more.0))

  only_empty : (s : List ℕ) → m.offset s ≡ Some 0 → s ≡ []
  only_empty s e =
      let same : Some s ≡ Some [] = sym (text_is_read s 0 e) ∙ first_is_empty in
      let is : s ≡ [] = cc in is

  is_read : IsRead parts None given
  unfolding key_place_by text_place_by index_by
  is_read = record {
    keys = λ k at e. ap (key_at parts.keys) (wide_position_back at) ∙ key_is_read k at e;
    near_keys = λ k at e near. ap (key_at parts.keys) (near_position at (omega (arith, near)))
        ∙ key_is_read k at e;
    texts = text_is_read;
    short_texts = λ s k e short. text_is_read s k e;
    empty = only_empty;
    base = omega (arith, m.base_is);
    aligned = base_whole;
  }

  front : List ℕ
  front = (heads.head whole ++ block) ++ units_as_bytes us

  stands : StandsIn parts given m.laid
  unfolding front
  stands = record {
    front = front;
    units_behind = more.0;
    bytes_behind = [];
    front_is = omega (
      arith,
      length-append (heads.head whole ++ block) (units_as_bytes us),
      length-append (heads.head whole) block,
      heads.head_length whole,
      halves_len us,
      even_long m.laid.units,
      m.base_is,
    );
    block_is = more.1;
    body_is = sym (append_assoc (heads.head whole) block (units_as_bytes us ++ m.laid.tail))
        ∙ sym (append_assoc (heads.head whole ++ block) (units_as_bytes us) m.laid.tail)
        ∙ ap (λ l. ((heads.head whole ++ block) ++ units_as_bytes us)
        ++ l) (sym (append-nil m.laid.tail));
  }

  pool_long : 0 < length m.pool
  pool_long = omega (arith, ap length pool_first.1)

  denoted_in : (p : Parts) → IsRead p None given → StandsIn p given m.laid
      → ReadsOlderOf q (m.offset []) p t
      → Den p m.root t (tree_count t)
  denoted_in p read inside older =
      laid_is_denoted None p given (record {
        units = m.pool;
        tail =
            [];
      }) m.laid t m.root read older
      pool_long m.lays inside

  -- what the root denotes in these parts, the file's root word does in those that are the same
  at_root : (p q : Parts) → p ≡ q → Den q m.root t (tree_count t)
      → Den p (root_word file) t (tree_count t)
  at_root p q e d =
      subst (λ r. Den r (root_word file) t (tree_count t)) (sym e)
      (subst (λ w. Den q w t (tree_count t)) (sym (heads.root_is whole)) d)

  few : 2 * tree_count t ≤ 2 * length m.laid.units + length m.laid.tail
  few = omega (
    arith,
    laid_is_paid None given (record { units = m.pool; tail = [] }) m.laid t m.root m.lays,
    pool_long,
  )

  start : tail_start block m.laid ≡ m.base
  start = omega (arith, even_long m.laid.units, m.base_is)

  given_is : ◌≡◌ {A = Given} given (record {
    position = key_position_by q t ks;
    offset = m.offset;
    base = tail_start (key_block_by q t ks) m.laid;
    packing = q;
  })
  given_is = λ i. record {
    position = key_position_by q t ks;
    offset = m.offset;
    base = sym start i;
    packing = q;
  }

  blocks : BlocksBy q t ks
  blocks = record {
    pool = m.pool;
    offset = m.offset;
    laid = m.laid;
    root = m.root;
    is_pool = m.plan;
    lays = subst (λ h. LaysBy None h (record { units = m.pool; tail = [] }) t m.laid m.root)
        given_is m.lays;
  }

  no_fault : tree_fault t ks ≡ None
  no_fault =
      ap (λ o. option_or o (size_fault (laying_order t))) m.faultless
      ∙ small_sizes (laying_order t) (omega (arith, m.small))

  pub written : WrittenBy q file t fallback ks
  unfolding blocks
  written = record {
    faultless = no_fault;
    tree = record {
      head = heads.is_bundle_file whole;
      root = at_root (beside_no_pool (parts_of file)) (beside_no_pool parts)
          (ap beside_no_pool (heads.parts_are whole))
          (denoted_in (beside_no_pool parts)
          (read_beside parts.body parts.keys parts.block given is_read)
          (stands_beside parts.body parts.keys parts.block given stands)
          (older_read q (m.offset []) (beside_no_pool parts) t refl));
    };
    alone = λ none lacks. record {
      head = heads.is_bundle_file whole;
      root = at_root (parts_of file) parts (heads.parts_are whole)
          (denoted_in parts is_read stands
          (alone_read q t m.pool m.offset parts m.plan none lacks));
    };
    within_budget = omega (
      arith,
      heads.file_length whole,
      few,
      even_long m.laid.units,
      tail_whole,
      units_whole,
    );
    index = record {
      header = take_at written_header (heads.body whole) 32 refl;
      fields = heads.fields_are whole;
      resources = omega (arith, heads.resources_end_is whole, heads.body_length whole);
      bundle = omega (arith, heads.bundle_end_is whole, heads.body_length whole);
      largest = heads.largest_is whole ∙ largest_is ∙ largest_laid t;
      no_fallback = heads.flag_is whole;
    };
    blocks = blocks;
    root = heads.root_is whole;
    keys_end = omega (arith, heads.keys_end_is whole, block_whole);
    block_end = omega (
      arith,
      heads.block_end_is whole,
      block_whole,
      units_whole,
    );
    body = heads.behind_head whole;
  }
