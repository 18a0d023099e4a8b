-- What is put together over a pool is the file of its tree.
use Rattle.std.proofs.Common.{◌≡◌, ℕ, zero, suc, ◌+◌, ◌*◌, ◌/◌, ◌%◌, ◌^◌, ◌<◌, ◌≤◌, List, []}
use Rattle.std.proofs.Common.{◌∷◌, ◌++◌, length, get_or, Option, Some, None, Bool, true}
use Rattle.std.proofs.Common.{false, cond, nat_eq, ◌⊎◌, inl, inr, refl, sym, ◌∙◌, ap, subst}
use Rattle.std.proofs.Common.{append_assoc, append-nil, length-append, arith, map}
use Rattle.std.specs.Prelude.{slice_get}
use Rattle.std.specs.List.{All, Contains}
use Rattle.std.specs.Option.{is_none, option_or}
use Rattle.std.specs.Str.{IsUtf8}
use Rattle.std.specs.Cmp.Lexicographic.{bytes_decides}
use Rattle.std.proofs.lemmas.Bool.{ne_eqb, true≢false}
use Rattle.std.proofs.lemmas.List.Elements.{All-nil, All-cons, All-contains}
use Rattle.resb_tree.specs.Tree.{Tree, tree_count}
use Rattle.resb_tree.specs.LayingOrder.{laying_order, keys_of, texts_of}
use Rattle.resb_tree.specs.Keys.{same_text}
use Rattle.resb_format.specs.Bytes.{units_as_bytes}
use Rattle.resb_format.specs.Denotes.{Den}
use Rattle.resb_format.specs.Parts.{Parts, Lent, reads_older}
use Rattle.resb_format.specs.Strings.{key_at}
use Rattle.resb_format.proofs.WordsBack.{written_length}
use Rattle.resb_head.specs.File.{root_word}
use Rattle.resb_pool_bundle.specs.Pool.{Pool, parts_with}
use Rattle.resb_pool_bundle.specs.FileWith.{IsFileWith, DenotesWith}
use Rattle.resb_pool.specs.declared.packing.Packing.{Packing}
use Rattle.resb_pool.specs.declared.packing.Packing.TheVariants.{Plain, Compact}
use Rattle.resb_layout.specs.CompactKeys.{keys_by}
use Rattle.resb_layout.specs.Laid.{Given, Lends, words, fill, to_word}
use Rattle.resb_layout.specs.Laws.{IsRead, StandsIn, ReadsOlderOf}
use Rattle.resb_layout.specs.KeyBlock.{used, is_among, key_bytes, padded}
use Rattle.resb_layout.specs.PlainSize.{list_size, resources_size}
use Rattle.resb_layout.specs.TreeFaults.{key_fault, tree_fault}
use Rattle.resb_layout.specs.Written.{even}
use Rattle.resb_layout.proofs.BytesLemmas.{EachBelow, halves_len}
use Rattle.resb_layout.proofs.Denoted.{laid_is_denoted}
use Rattle.resb_layout.proofs.Grows.{grows}
use Rattle.resb_layout.proofs.Paid.{laid_is_paid}
use Rattle.resb_lent.specs.Laws.{KeysStand, lends_to}
use Rattle.resb_lent.specs.PlanWithPool.{StandAt}
use Rattle.resb_lent.specs.HeadWithPool.{IsHead, head_words, head_bytes}
use Rattle.resb_lent.specs.HeadWithPool.{parts_behind}
use Rattle.resb_lent.specs.declared.head_with_pool.HeadWithPool.{HeadWithPool}
use Rattle.resb_lent.proofs.HeadRead.{head_with_pool_is_read}
use Rattle.resb_lent.proofs.ReadBeside.{lent_is_read}
use Rattle.resb_write.specs.WrittenWith.{BlocksWithBy, WrittenWithBy, own_keys_of}
use Rattle.resb_write.specs.WrittenWith.{key_block_beside}
use Rattle.resb_write.specs.WrittenWith.{position_beside, own_end_of, tail_start_beside, head_of}
use Rattle.resb_write.specs.Inner.Room.{HasRoomFor}
use Rattle.resb_write.specs.Inner.Sizes.{size_fault}
use Rattle.resb_write.proofs.Blocks.{key_read_at, even_is, even_long, each_below, below_even}
use Rattle.resb_write.proofs.Distinct.{contains_among}
use Rattle.resb_write.proofs.Keys.{StandsAt}
use Rattle.resb_write.proofs.KeysBeside.{filter_room}
use Rattle.resb_write.proofs.PackedKeys.{packed_room, used_there}
use Rattle.resb_write.proofs.PlacedBeside.{Stands, placed_beside, stands_inside}
use Rattle.resb_write.proofs.Known.{no_nul}
use Rattle.resb_write.proofs.Lists.{any_member}
use Rattle.resb_write.proofs.Room.{small_sizes, used_room, length-padded}

all_below : (us : List ℕ) → EachBelow (2 ^ 16) us → All (λ u. u < 2 ^ 16) us
all_below [] h = All-nil (λ u. u < 2 ^ 16)
all_below (u ∷ us) h = All-cons (λ v. v < 2 ^ 16) u us h.0 (all_below us h.1)

-- where no key is the file's own, its keys end at 0
ends_at : (front : List ℕ) → length front ≡ 36 → (js : List (List ℕ))
    → length (cond (nat_eq (length (padded (key_bytes js)) / 4) 0) [] (front
    ++ padded (key_bytes js))) ≡ own_end_of js
ends_at front long [] = refl
ends_at front long (j ∷ js) =
    let block = padded (key_bytes (j ∷ js)) in
    let some : length block / 4 ≡ 0 → ⊥ = λ e. omega (
      arith,
      e,
      length-padded (key_bytes (j ∷ js)),
      length-append (j ++ 0 ∷ []) (key_bytes js),
      length-append j (0 ∷ []),
    ) in
    ap (λ b. length (cond b [] (front ++ block))) (ne_eqb (length block / 4) 0 some)
    ∙ length-append front block ∙ ap (λ n. n + length block) long

-- the same index at the same place
at_place : (f : List ℕ → Option ℕ) (S : List (List ℕ)) (is : List ℕ) → map f S ≡ map Some is
    → (s : List ℕ) (i : ℕ) → f s ≡ Some i → Contains S s
    → (n : ℕ) × (slice_get S n ≡ Some s) × (slice_get is n ≡ Some i)
at_place f [] is e s i h c = absurd (omega (arith, c.1))
at_place f (t ∷ S) [] e s i h c = absurd (omega (arith, ap length e))
at_place f (t ∷ S) (j ∷ is) e s i h (zero, lt, same) =
    let g : f t ≡ Some j = cc in
    let k : Some j ≡ Some i = sym g ∙ ap f same ∙ h in
    (0, ap Some same, k)
at_place f (t ∷ S) (j ∷ is) e s i h (suc n, lt, same) =
    let g : map f S ≡ map Some is = cc in
    let r = at_place f S is g s i h (n, omega (arith, lt), same) in
    (suc r.0, r.1, r.2)

among_contains : (S : List (List ℕ)) (s : List ℕ) → is_among S s ≡ true → Contains S s
among_contains S s e =
    let m = any_member (same_text s) S e in
    subst (Contains S) (sym ((bytes_decides s m.0).0 m.2)) m.1

-- a text is one of these, or none
pub one_or_none : (S : List (List ℕ)) (s : List ℕ) → Contains S s ⊎ (Contains S s → ⊥)
one_or_none S s = by (is_among S s) refl
  where
    by : (b : Bool) → is_among S s ≡ b → Contains S s ⊎ (Contains S s → ⊥)
    by true e = inl (among_contains S s e)
    by false e = inr (λ c. true≢false (sym (contains_among S s c) ∙ e))

-- a file over a pool reads what is of the older form
older : (q : Packing) (empty : Option ℕ) (p : Parts) (t : Tree) → reads_older p ≡ true
    → ReadsOlderOf q empty p t
older Plain empty p t e = inr e
older Compact empty p t e = (inr e, inr e)

module _ (q : Packing) (pool : Pool) (t : Tree) (ks : List (List ℕ)) (b : BlocksWithBy q pool t ks)
    (fallback : Bool) where
  abbrev all : List (List ℕ)
  all = used (keys_of t) ks

  abbrev js : List (List ℕ)
  js = own_keys_of q b.place t ks

  abbrev block : List ℕ
  block = key_block_beside q b.place t ks

  abbrev us : List ℕ
  us = even b.laid.units

  abbrev head : HeadWithPool
  head = head_of fallback b

  abbrev front : List ℕ
  front = words (head_words head)

  abbrev parts : Parts
  parts = parts_behind head pool block us b.laid.tail

  abbrev lent : Lent
  lent = record {
    keys = pool.keys;
    block = pool.block;
    limit = b.limit;
    short_limit = b.short;
  }

  abbrev base : ℕ
  base = tail_start_beside block b.laid

  abbrev given : Given
  given = record {
    position = position_beside q b.place all js;
    offset = b.offset;
    base = base;
    packing = q;
  }

  abbrev lends : Lends
  lends = record { own_end = own_end_of js; limit = b.limit; short_limit = b.short }

  abbrev pub file : List ℕ
  file = head_bytes head ++ (block ++ (units_as_bytes us ++ b.laid.tail))

  front_long : length front ≡ 36
  front_long = written_length (head_words head)

  stand_at : StandAt (texts_of t) b.indexes b.offset
  stand_at s i e = by (one_or_none (texts_of t) s)
    where
      by : Contains (texts_of t) s ⊎ (Contains (texts_of t) s → ⊥)
          → (n : ℕ) × (slice_get (texts_of t) n ≡ Some s) × (slice_get b.indexes n ≡ Some i)
      by (inl c) = at_place b.offset (texts_of t) b.indexes b.offsets s i e c
      by (inr none) =
          let f : None ≡ Some i = sym (b.others s none) ∙ e in
          cc

  keys_are : (n : ℕ) → n < length (key_bytes js) → parts.keys ≡ front ++ block
  keys_are n some =
      let full : length block / 4 ≡ 0 → ⊥ = λ e. omega (
        arith,
        e,
        some,
        length-padded (key_bytes js),
      ) in
      ap (λ c. cond c [] (front ++ block)) (ne_eqb (length block / 4) 0 full)

  keys_long : length parts.keys ≡ own_end_of js
  keys_long = ends_at front front_long js

  lends_are : ◌≡◌ {A = Lends} (lends_to parts lent) lends
  lends_are = λ i. record { own_end = keys_long i; limit = b.limit; short_limit = b.short }

  more : (pad : List ℕ) × (us ≡ b.laid.units ++ pad)
  more = even_is b.laid.units

  block_begins : us ≡ b.units ++ ((grows b.lays).units ++ more.0)
  block_begins = more.1 ∙ ap (λ l. l ++ more.0) (grows b.lays).units_are
      ∙ append_assoc b.units (grows b.lays).units more.0

  first_unit : (rest : List ℕ) × (b.units ≡ 0 ∷ rest)
  first_unit = (_, b.plan.plan.pool.units)

  block_whole : length block % 4 ≡ 0
  block_whole = omega (arith, length-padded (key_bytes js))

  units_whole : length us % 2 ≡ 0
  units_whole = omega (arith, even_long b.laid.units)

  base_whole : base % 4 ≡ 0
  base_whole = omega (arith, block_whole, units_whole)

  own_end_small : (ls : List (List ℕ)) → length (padded (key_bytes ls)) ≤ 2 ^ 29
      → own_end_of ls ≤ 2 ^ 31
  own_end_small [] h = omega arith
  own_end_small (l ∷ ls) h = omega (arith, h)

  module _ (faultless : key_fault (keys_of t) (used (keys_of t) ks) ≡ None)
      (utf8 : All IsUtf8 all) (small : list_size ks + resources_size (laying_order t) < 2 ^ 28)
      (room : HasRoomFor base b.laid []) (units_fit : (k : ℕ) → get_or b.laid.units k 0 < 2 ^ 16)
      (is : IsHead head) where
    keys_small : length (key_bytes js) < 2 ^ 28
    keys_small = omega (
      arith,
      filter_room (λ k. is_none (b.place k)) (keys_by q all),
      packed_room q all,
      used_room (keys_of t) ks,
      small,
    )

    few : length parts.keys ≤ 2 ^ 31
    few = omega (
      arith,
      keys_long,
      own_end_small js (omega (arith, keys_small, length-padded (key_bytes js))),
    )

    tail_whole : length b.laid.tail % 4 ≡ 0
    tail_whole = omega (arith, room.aligned, base_whole)

    own_read : (k : List ℕ) (n : ℕ) → Contains all k → StandsAt (key_bytes js) k n
        → (36 + n < length parts.keys) × (key_at parts.keys (36 + n) ≡ Some k)
    own_read k n c e =
        let inside = stands_inside (key_bytes js) k n e in
        let here = keys_are n inside in (
          omega (
            arith,
            ap length here,
            length-append front block,
            front_long,
            inside,
            length-padded (key_bytes js),
          ),
          ap (λ l. key_at l (36 + n)) here
              ∙ key_read_at 36 front (fill (to_word (length (key_bytes js)))) (key_bytes js)
              front_long k n e (All-contains IsUtf8 all k utf8 c)
              (no_nul (keys_of t) all faultless k (used_there (keys_of t) ks k c)),
        )

    keys_stand : KeysStand parts lent given.position
    keys_stand k at e = by (placed_beside pool.keys b.place all utf8 k at q (b.places k) e)
      where
        by : Stands pool.keys all js k at → ((at < length parts.keys)
            × (key_at parts.keys at ≡ Some k))
            ⊎ ((n : ℕ) × (at ≡ n + 2 ^ 31) × (key_at lent.keys n ≡ Some k))
        by (inl o) = inl (subst (λ m. (m < length parts.keys) × (key_at parts.keys m ≡ Some k))
            o.is (own_read k o.place o.given o.stands))
        by (inr p) = inr p

    is_read : IsRead parts (Some lends) given
    is_read = subst (λ l. IsRead parts (Some l) given) lends_are
        (lent_is_read q parts lent given (texts_of t) b.units b.indexes
        ((grows b.lays).units ++ more.0) refl few keys_stand b.plan.texts b.plan block_begins
        stand_at (omega arith) base_whole)

    stands : StandsIn parts given b.laid
    stands = record {
      front = (front ++ block) ++ units_as_bytes us;
      units_behind = more.0;
      bytes_behind = [];
      front_is = omega (
        arith,
        length-append (front ++ block) (units_as_bytes us),
        length-append front block,
        front_long,
        halves_len us,
      );
      block_is = more.1;
      body_is = sym (append_assoc front block (units_as_bytes us ++ b.laid.tail))
          ∙ sym (append_assoc (front ++ block) (units_as_bytes us) b.laid.tail)
          ∙ ap (λ l. ((front ++ block) ++ units_as_bytes us) ++ l)
          (sym (append-nil b.laid.tail));
    }

    units_long : 0 < length b.units
    units_long = omega (arith, ap length first_unit.1)

    denoted : Den parts b.root t (tree_count t)
    denoted = laid_is_denoted (Some lends) parts given (record { units = b.units; tail = [] })
        b.laid t b.root is_read (older q (b.offset []) parts t refl) units_long b.lays stands

    is_file : IsFileWith (Some pool) file × (root_word file ≡ b.root)
        × (parts_with (Some pool) file ≡ parts)
    is_file = head_with_pool_is_read head pool block us b.laid.tail is refl
        (omega (arith, block_whole)) (omega (arith, units_whole)) (omega (arith, tail_whole))
        (all_below us (below_even b.laid.units (each_below (2 ^ 16) b.laid.units units_fit)))

    denotes : DenotesWith (Some pool) file t (tree_count t)
    denotes = record {
      head = is_file.0;
      root = subst (λ p. Den p (root_word file) t (tree_count t)) (sym is_file.2)
          (subst (λ w. Den parts w t (tree_count t)) (sym is_file.1) denoted);
    }

    paid : 2 * tree_count t ≤ 2 * length b.laid.units + length b.laid.tail
    paid = omega (
      arith,
      laid_is_paid (Some lends) given (record { units = b.units; tail = [] }) b.laid t b.root
          b.lays,
      units_long,
    )

    no_fault : tree_fault t ks ≡ None
    no_fault =
        ap (λ o. option_or o (size_fault (laying_order t))) faultless
        ∙ small_sizes (laying_order t) (omega (arith, small))

    pub written_with : WrittenWithBy q pool file t fallback ks
    written_with = record {
      faultless = no_fault;
      tree = denotes;
      within_budget = omega (
        arith,
        paid,
        length-append (head_bytes head) (block ++ (units_as_bytes us ++ b.laid.tail)),
        length-append block (units_as_bytes us ++ b.laid.tail),
        length-append (units_as_bytes us) b.laid.tail,
        halves_len us,
        even_long b.laid.units,
      );
      blocks = b;
      file = refl;
    }
