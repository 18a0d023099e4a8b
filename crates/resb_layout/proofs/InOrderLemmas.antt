-- The bodies of a laid tree stand one right behind another.
use Rattle.std.proofs.Common.{◌≡◌, ℕ, ◌+◌, ◌*◌, ◌%◌, ◌<◌, List, [], ◌∷◌, ◌++◌, length}
use Rattle.std.proofs.Common.{refl, sym, ap}
use Rattle.std.proofs.Common.{◌∙◌, subst, append_assoc, append-nil, length-append, arith}
use Rattle.std.proofs.Common.{◌⊎◌, inl, inr, Bool, true, false, cond, nat_eq}
use Rattle.std.proofs.lemmas.Bool.{eqb-true, eqb-false}
use Rattle.std.specs.Int.{to_le_bytes, w16, w32}
use Rattle.std.proofs.lemmas.List.{length-replicate}
use Rattle.resb_tree.specs.Tree.{Tree, alias, array, table, binary, int_vector, Trees, Entries}
use Rattle.resb_tree.specs.Tree.{no_entries, entry}
use Rattle.resb_tree.specs.LayingOrder.{laying_order, laying_each, laying_values}
use Rattle.resb_format.proofs.WordsBack.{written_length}
use Rattle.resb_layout.specs.Laid.{Given, Laid, more_units, more_bytes, here, words, pad}
use Rattle.resb_format.specs.Bytes.{units_as_bytes}
use Rattle.resb_layout.specs.Laid.{to_data, to_word, fill, offsets_by}
use Rattle.resb_layout.specs.Laid.{nears_by, words_body, near_table_body}
use Rattle.resb_layout.specs.Laid.{wide_table_body, binary_body, path_body, entry_trees}
use Rattle.resb_format.specs.Units.{units}
use Rattle.resb_layout.specs.Laid.{ClosesArrayBy, short_array, long_array, ClosesTableBy}
use Rattle.resb_layout.specs.Laid.{short_table, long_table, wide_table, LaysBy, lays_integer}
use Rattle.resb_layout.specs.Laid.{lays_string, lays_no_path, lays_path, lays_no_bytes}
use Rattle.resb_layout.specs.Laid.{lays_bytes, lays_no_numbers}
use Rattle.resb_layout.specs.Laid.{lays_numbers, lays_no_members, lays_members, lays_no_entries}
use Rattle.resb_layout.specs.Laid.{lays_entries, LaysEachBy, each_none, each_more}
use Rattle.resb_layout.specs.InOrder.{TailBody, tail_path, tail_bytes, tail_numbers, tail_array}
use Rattle.resb_layout.specs.InOrder.{tail_table}
use Rattle.resb_layout.specs.InOrder.{tail_wide_table, FillsTail, tail_ends, tail_without}
use Rattle.resb_layout.specs.InOrder.{tail_with, BlockBody, block_array, block_table, FillsBlock}
use Rattle.resb_layout.specs.InOrder.{block_ends, block_without, block_with}
use Rattle.resb_layout.specs.Laws.{StandsInOrder, LaidInOrder}
use Rattle.resb_layout.proofs.BytesLemmas.{halves_len}
use Rattle.resb_layout.proofs.Forms.{offsets_many}
use Rattle.std.proofs.Common.{Option}
use Rattle.resb_layout.specs.Laid.{Lends}

tail_join : {at : ℕ} {ts us : List Tree} {bs cs : List ℕ} → FillsTail at ts bs
    → FillsTail (at + length bs) us cs → FillsTail at (ts ++ us) (bs ++ cs)
tail_join {us = us} {cs = cs} (tail_ends {at = at'}) k =
    let e : at' + 0 ≡ at' = omega arith in subst (λ n. FillsTail n us cs) e k
tail_join (tail_without h) k = tail_without (tail_join h k)
tail_join {us = us} {cs = cs}
    (tail_with {at = at'} {t = t'} {ts = ts'} {body = b'} {bytes = bs'} word body h) k =
    let e : at' + length (b' ++ bs') ≡ at' + length b' + length bs' =
    omega (arith, length-append b' bs') in
    subst (λ xs. FillsTail at' (t' ∷ (ts' ++ us)) xs) (sym (append_assoc b' bs' cs))
    (tail_with word body (tail_join h (subst (λ n. FillsTail n us cs) e k)))

block_join : {ts us : List Tree} {xs ys : List ℕ} → FillsBlock ts xs → FillsBlock us ys
    → FillsBlock (ts ++ us) (xs ++ ys)
block_join block_ends k = k
block_join (block_without h) k = block_without (block_join h k)
block_join {us = us} {ys = ys} (block_with {t = t'} {ts = ts'} {body = b'} {us = xs'} body h) k =
    subst (λ xs. FillsBlock (t' ∷ (ts' ++ us)) xs) (sym (append_assoc b' xs' ys))
    (block_with body (block_join h k))

module _ (g : Given) where
  -- no resources
  none : (s : Laid) → here g s % 4 ≡ 0 → StandsInOrder g s s []
  none s word = record {
    bytes = [];
    units = [];
    bytes_are = sym (append-nil s.tail);
    units_are = sym (append-nil s.units);
    tail = tail_ends;
    block = block_ends;
    whole = word;
  }

  -- a resource that takes nothing
  nothing : (s : Laid) (t : Tree) → here g s % 4 ≡ 0 → StandsInOrder g s s (t ∷ [])
  nothing s t word = record {
    bytes = [];
    units = [];
    bytes_are = sym (append-nil s.tail);
    units_are = sym (append-nil s.units);
    tail = tail_without tail_ends;
    block = block_without block_ends;
    whole = word;
  }

  -- a resource whose body stands in the tail
  in_tail : (s : Laid) (t : Tree) (body : List ℕ) → here g s % 4 ≡ 0 → TailBody (here g s) t body
      → (here g s + length body) % 4 ≡ 0 → StandsInOrder g s (more_bytes s body) (t ∷ [])
  in_tail s t body word is whole =
      let e : here g s + length body ≡ g.base + length (s.tail ++ body) =
      omega (arith, length-append s.tail body) in
      record {
        bytes = body ++ [];
        units = [];
        bytes_are = ap (λ bs. s.tail ++ bs) (sym (append-nil body));
        units_are = sym (append-nil s.units);
        tail = tail_with word is tail_ends;
        block = block_without block_ends;
        whole = subst (λ n. n % 4 ≡ 0) e whole;
      }

  -- a resource whose body stands in the block
  in_block : (s : Laid) (t : Tree) (us : List ℕ) → here g s % 4 ≡ 0 → BlockBody t us
      → StandsInOrder g s (more_units s us) (t ∷ [])
  in_block s t us word is = record {
    bytes = [];
    units = us ++ [];
    bytes_are = sym (append-nil s.tail);
    units_are = ap (λ vs. s.units ++ vs) (sym (append-nil us));
    tail = tail_without tail_ends;
    block = block_with is block_ends;
    whole = word;
  }

  -- resources behind others
  joined_in_order : {s m e : Laid} {ts us : List Tree} → StandsInOrder g s m ts
      → StandsInOrder g m e us → StandsInOrder g s e (ts ++ us)
  joined_in_order {s} {m} {e} {ts} {us} h k =
      let at : here g m ≡ here g s + length h.bytes =
      omega (arith, ap length h.bytes_are, length-append s.tail h.bytes) in
      record {
        bytes = h.bytes ++ k.bytes;
        units = h.units ++ k.units;
        bytes_are = k.bytes_are ∙ ap (λ bs. bs ++ k.bytes) h.bytes_are
            ∙ append_assoc s.tail h.bytes k.bytes;
        units_are = k.units_are ∙ ap (λ bs. bs ++ k.units) h.units_are
            ∙ append_assoc s.units h.units k.units;
        tail = tail_join h.tail (subst (λ n. FillsTail n us k.bytes) at k.tail);
        block = block_join h.block k.block;
        whole = k.whole;
      }

-- each body ends at a word
words_whole : (at : ℕ) (ws : List ℕ) → at % 4 ≡ 0 → (at + length (words_body ws)) % 4 ≡ 0
words_whole at ws word =
    omega (
      arith,
      word,
      written_length ws,
      length-append (to_le_bytes w32 (length ws)) (words ws),
    )

wide_whole : (at : ℕ) (ps ws : List ℕ) → at % 4 ≡ 0 → (at + length (wide_table_body ps ws)) % 4 ≡ 0
wide_whole at ps ws word =
    omega (
      arith,
      word,
      written_length ws,
      written_length ps,
      length-append (to_le_bytes w32 (length ps)) (words ps ++ words ws),
      length-append (words ps) (words ws),
    )

-- the padding behind n positions: none where they are odd in number
pub pad_long : (n : ℕ) → ((n % 2 ≡ 0) × (length (pad n) ≡ 2)) ⊎ ((n % 2 ≡ 1) × (length (pad n) ≡ 0))
pad_long n = by (nat_eq (n % 2) 0) refl
  where
    by : (b : Bool) → nat_eq (n % 2) 0 ≡ b → ((n % 2 ≡ 0) × (length (pad n) ≡ 2))
        ⊎ ((n % 2 ≡ 1) × (length (pad n) ≡ 0))
    by true e = inl (
      eqb-true (n % 2) 0 e,
      ap (λ b. length {A = ℕ} (cond b (0xaa ∷ 0xaa ∷ []) [])) e,
    )
    by false e = (let ne = eqb-false (n % 2) 0 e in
        inr (omega (arith, ne), ap (λ b. length {A = ℕ} (cond b (0xaa ∷ 0xaa ∷ []) [])) e))

near_long : (ps ws : List ℕ)
    → length (near_table_body ps ws)
    ≡ 2 + (2 * length ps + (length (pad (length ps)) + 4 * length ws))
near_long ps ws =
    omega (
      arith,
      written_length ws,
      halves_len ps,
      length-append (to_le_bytes w16 (length ps)) (units_as_bytes ps
          ++ (pad (length ps) ++ words ws)),
      length-append (units_as_bytes ps) (pad (length ps) ++ words ws),
      length-append (pad (length ps)) (words ws),
    )

near_whole : (at : ℕ) (ps ws : List ℕ) → at % 4 ≡ 0
    → (at + length (near_table_body ps ws)) % 4 ≡ 0
near_whole at ps ws word =
    elim (pad_long (length ps)) [
      | inl p ↦ omega (arith, word, near_long ps ws, p.0, p.1)
      | inr p ↦ omega (arith, word, near_long ps ws, p.0, p.1)
    ]

pub path_long : (us : List ℕ)
    → length (path_body us) ≡ 6 + (2 * length us + length (pad (length us)))
path_long us =
    omega (
      arith,
      halves_len us,
      length-append (to_le_bytes w32 (length us)) (units_as_bytes us ++ 0 ∷ 0 ∷ pad (length us)),
      length-append (units_as_bytes us) (0 ∷ 0 ∷ pad (length us)),
    )

path_whole : (at : ℕ) (us : List ℕ) → at % 4 ≡ 0 → (at + length (path_body us)) % 4 ≡ 0
path_whole at us word =
    elim (pad_long (length us)) [
      | inl p ↦ omega (arith, word, path_long us, p.0, p.1)
      | inr p ↦ omega (arith, word, path_long us, p.0, p.1)
    ]

binary_whole : (at : ℕ) (bytes : List ℕ) → (at + length (binary_body at bytes)) % 4 ≡ 0
binary_whole at bytes =
    let n = length bytes in
    let l : length (binary_body at bytes) ≡ to_data at + (4 + (n + to_word n)) =
    omega (
      arith,
      length-append (fill (to_data at)) (to_le_bytes w32 n ++ (bytes ++ fill (to_word n))),
      length-append (to_le_bytes w32 n) (bytes ++ fill (to_word n)),
      length-append bytes (fill (to_word n)),
      length-replicate {A = ℕ} (to_data at) 0xaa,
      length-replicate {A = ℕ} (to_word n) 0xaa,
    ) in
    omega (arith, l)

module _ (lent : Option Lends) (g : Given) where
  array_in_order : {s : Laid} {ws : List ℕ} {e : Laid} {w : ℕ} (ts : Trees) → here g s % 4 ≡ 0
      → 0 < length ws → ClosesArrayBy lent g s ws e w → StandsInOrder g s e (array ts ∷ [])
  array_in_order {s} {ws} ts word some (short_array h l) =
      in_block g s (array ts) (length ws ∷ offsets_by lent ws) word
      (block_array (length ws) (offsets_by lent ws) (sym (offsets_many lent ws)) some)
  array_in_order {s} {ws} ts word some (long_array at h k l n) =
      in_tail g s (array ts) (words_body ws) word (tail_array ws some)
      (words_whole (here g s) ws word)

  table_in_order : {s : Laid} {ps ws : List ℕ} {e : Laid} {w : ℕ} (es : Entries) → here g s % 4 ≡ 0
      → 0 < length ws → ClosesTableBy lent g s ps ws e w → StandsInOrder g s e (table es ∷ [])
  table_in_order {s} {ps} {ws} es word some (short_table n h l) =
      in_block g s (table es) (length ws ∷ (nears_by lent ps ++ offsets_by lent ws)) word
      (block_table (length ws) (nears_by lent ps) (offsets_by lent ws)
      (sym (offsets_many lent ws)) some)
  table_in_order {s} {ps} {ws} es word some (long_table at n h k l) =
      in_tail g s (table es) (near_table_body (nears_by lent ps) ws) word
      (tail_table (nears_by lent ps) ws some)
      (near_whole (here g s) (nears_by lent ps) ws word)
  table_in_order {s} {ps} {ws} es word some (wide_table at n k l q r) =
      in_tail g s (table es) (wide_table_body ps ws) word (tail_wide_table ps ws some)
      (wide_whole (here g s) ps ws word)

-- the members of a table in laying order
pub laying_each-entry_trees : (es : Entries) → laying_each (entry_trees es) ≡ laying_values es
laying_each-entry_trees no_entries = refl
laying_each-entry_trees (entry k t es) = ap (λ ts. laying_order t
    ++ ts) (laying_each-entry_trees es)

mutual
  in_order : {lent : Option Lends} {g : Given} {s e : Laid} {t : Tree} {w : ℕ}
      → LaysBy lent g s t e w → here g s % 4 ≡ 0
      → StandsInOrder g s e (laying_order t)
  in_order {lent = lent} {g = g} (lays_integer {s = s'} h) word = nothing g s' _ word
  in_order {lent = lent} {g = g} (lays_string {s = s'} h l) word = nothing g s' _ word
  in_order {lent = lent} {g = g} (lays_no_path {s = s'}) word = nothing g s' _ word
  in_order {lent = lent} {g = g} (lays_path {s = s'} {path = p'} at some u n e l) word =
      in_tail g s' (alias p') (path_body (units p')) word (tail_path some)
      (path_whole (here g s') (units p') word)
  in_order {lent = lent} {g = g} (lays_no_bytes {s = s'}) word = nothing g s' _ word
  in_order {lent = lent} {g = g} (lays_bytes {s = s'} {bytes = b'} at some n e l) word =
      in_tail g s' (binary b') (binary_body (here g s') b') word (tail_bytes some)
      (binary_whole (here g s') b')
  in_order {lent = lent} {g = g} (lays_no_numbers {s = s'}) word = nothing g s' _ word
  in_order {lent = lent} {g = g} (lays_numbers {s = s'} {ns = n'} at some n a e l) word =
      in_tail g s' (int_vector n') (words_body n') word (tail_numbers some)
      (words_whole (here g s') n' word)
  in_order {lent = lent} {g = g} (lays_no_members {s = s'}) word = nothing g s' _ word
  in_order {lent = lent} {g = g} (lays_members {ts = ts'} h some c) word =
      let k = each_in_order h word in
      joined_in_order g k (array_in_order lent g ts' k.whole some c)
  in_order {lent = lent} {g = g} (lays_no_entries {s = s'}) word = nothing g s' _ word
  in_order {lent = lent} {g = g} {s = s} (lays_entries {mid = m'} {es = es'} ps p h some c) word =
      let k = each_in_order h word in
      joined_in_order g (subst (StandsInOrder g s m') (laying_each-entry_trees es') k)
      (table_in_order lent g es' k.whole some c)

  each_in_order : {lent : Option Lends} {g : Given} {s e : Laid} {ts : Trees} {ws : List ℕ}
      → LaysEachBy lent g s ts e ws
      → here g s % 4 ≡ 0 → StandsInOrder g s e (laying_each ts)
  each_in_order {lent = lent} {g = g} (each_none {s = s'}) word = none g s' word
  each_in_order {lent = lent} {g = g} (each_more h k) word =
      let first = in_order h word in joined_in_order g first (each_in_order k first.whole)

-- the resources of a tree are laid in laying order
pub laid_in_order : LaidInOrder
laid_in_order lent g before after t w word h = in_order h word
