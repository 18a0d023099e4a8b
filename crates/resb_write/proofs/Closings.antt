-- What was appended closes an array or a table, and takes no more than there is room for.
use Rattle.std.proofs.Common.{◌≡◌, ℕ, zero, suc, ◌+◌, ◌*◌, ◌/◌, ◌%◌, ◌^◌, ◌<◌, ◌≤◌, List, [], ◌∷◌}
use Rattle.std.proofs.Common.{◌++◌, length, Option, true, false, inl, inr, refl, sym}
use Rattle.std.proofs.Common.{◌∙◌, ap, subst, append_assoc, length-append, arith}
use Rattle.std.specs.Int.{to_le_bytes, w16, w32}
use Rattle.std.specs.List.{All}
use Rattle.std.specs.Str.{IsUtf8}
use Rattle.resb_tree.specs.Tree.{alias, binary, int_vector}
use Rattle.resb_layout.specs.Laid.{LaysBy, lays_path, lays_bytes, lays_numbers, fill, to_word}
use Rattle.resb_layout.specs.Laid.{to_data, binary_body, Given, Lends, Laid, ClosesArrayBy}
use Rattle.resb_layout.specs.Laid.{short_array, long_array, ClosesTableBy, short_table}
use Rattle.resb_layout.specs.Laid.{long_table, wide_table}
use Rattle.resb_layout.specs.Laid.{here, words, words_body, path_body, near_table_body}
use Rattle.resb_layout.specs.Laid.{wide_table_body, pad, are_short_by, more_bytes, are_near}
use Rattle.resb_layout.specs.Laid.{nears_by, offsets_by}
use Rattle.resb_format.specs.Bytes.{units_as_bytes}
use Rattle.resb_format.specs.Units.{units}
use Rattle.resb_layout.proofs.BytesLemmas.{halves_len}
use Rattle.resb_layout.proofs.Forms.{offsets_many}
use Rattle.resb_format.proofs.WordsBack.{written_length}
use Rattle.resb_layout.proofs.InOrderLemmas.{pad_long, path_long}

pub body_long : (ws : List ℕ) → length (words_body ws) ≡ 4 + 4 * length ws
body_long ws = omega (
  arith,
  written_length ws,
  length-append (to_le_bytes w32 (length ws))
      (words ws),
)

module _ (lent : Option Lends) (g : Given) (s : Laid) (ws : List ℕ) where
  pub array_in_units : (us : List ℕ) (w at : ℕ) → are_short_by lent ws ≡ true
      → length s.units < 2 ^ 28
      → us ≡ (s.units ++ length ws ∷ []) ++ offsets_by lent ws → at ≡ length s.units
      → w ≡ 0x9000_0000 + at
      → ClosesArrayBy lent g s ws (record { units = us; tail = s.tail }) w
  array_in_units us w at short room e a v =
      subst (λ x. ClosesArrayBy lent g s ws (record { units = x; tail = s.tail }) w)
      (sym (append_assoc s.units (length ws ∷ []) (offsets_by lent ws)) ∙ sym e)
      (subst (ClosesArrayBy lent g s ws (record {
        units = s.units ++ length ws ∷ offsets_by lent ws;
        tail =
            s.tail;
      })) (sym (v ∙ ap (λ k. 0x9000_0000 + k) a)) (short_array short room))

  pub array_in_tail : (bs : List ℕ) (w at : ℕ) → are_short_by lent ws ≡ false → here g s ≡ 4 * at
      → at < 2 ^ 28 → length ws < 2 ^ 32 → bs ≡ s.tail ++ words_body ws → w ≡ 0x8000_0000 + at
      → ClosesArrayBy lent g s ws (record { units = s.units; tail = bs }) w
  array_in_tail bs w at long a room n e v =
      subst (λ x. ClosesArrayBy lent g s ws (record { units = s.units; tail = x }) w) (sym e)
      (subst (ClosesArrayBy lent g s ws (record {
        units = s.units;
        tail = s.tail ++ words_body ws;
      }))
      (sym v) (long_array at long a room n))

pub units_taken : (lent : Option Lends) (us vs ws : List ℕ) → vs ≡
    (us ++ length ws ∷ []) ++ offsets_by lent ws
    → length vs ≡ length us + (length ws + 1)
units_taken lent us vs ws e = omega (
  arith,
  ap length e,
  length-append (us ++ length ws ∷ [])
      (offsets_by lent ws),
  length-append us (length ws ∷ []),
  one (length ws),
  offsets_many lent ws,
)
  where
    one : (n : ℕ) → length {A = ℕ} (n ∷ []) ≡ 1
    one n = refl

pub tail_taken : (bs cs ws : List ℕ) → cs ≡ bs ++ words_body ws
    → length cs ≡ length bs + (4 + 4 * length ws)
tail_taken bs cs ws e = omega (arith, ap length e, length-append bs (words_body ws), body_long ws)

module _ (lent : Option Lends) (g : Given) (s : Laid) (ps ws : List ℕ) where
  pub table_in_units : (us : List ℕ) (w at : ℕ) → are_near (nears_by lent ps) ≡ true
      → are_short_by lent ws ≡ true
      → length s.units < 2 ^ 28
      → us ≡ s.units ++ length ws ∷ (nears_by lent ps ++ offsets_by lent ws) → at ≡ length s.units
      → w ≡ 0x5000_0000 + at
      → ClosesTableBy lent g s ps ws (record { units = us; tail = s.tail }) w
  table_in_units us w at near short room e a v =
      subst (λ x. ClosesTableBy lent g s ps ws (record { units = x; tail = s.tail }) w) (sym e)
      (subst (ClosesTableBy lent g s ps ws (record {
        units = s.units ++ length ws ∷ (nears_by lent ps ++ offsets_by lent ws);
        tail = s.tail;
      })) (sym (v ∙ ap (λ k. 0x5000_0000 + k) a)) (short_table near short room))

  pub table_in_tail : (bs : List ℕ) (w at : ℕ) → are_near (nears_by lent ps) ≡ true
      → are_short_by lent ws ≡ false
      → here g s ≡ 4 * at → at < 2 ^ 28 → bs ≡ s.tail ++ near_table_body (nears_by lent ps) ws
      → w ≡ 0x2000_0000 + at
      → ClosesTableBy lent g s ps ws (record { units = s.units; tail = bs }) w
  table_in_tail bs w at near long a room e v =
      subst (λ x. ClosesTableBy lent g s ps ws (record { units = s.units; tail = x }) w) (sym e)
      (subst (ClosesTableBy lent g s ps ws (more_bytes s (near_table_body (nears_by lent ps) ws)))
      (sym v) (long_table at near long a room))

  pub table_is_wide : (bs : List ℕ) (w at : ℕ) → are_near (nears_by lent ps) ≡ false → here g s
      ≡ 4 * at
      → at < 2 ^ 28 → length ps < 2 ^ 32 → All (λ p. p < 2 ^ 32) ps
      → bs ≡ s.tail ++ wide_table_body ps ws → w ≡ 0x4000_0000 + at
      → ClosesTableBy lent g s ps ws (record { units = s.units; tail = bs }) w
  table_is_wide bs w at far a room n small e v =
      subst (λ x. ClosesTableBy lent g s ps ws (record { units = s.units; tail = x }) w) (sym e)
      (subst (ClosesTableBy lent g s ps ws (record {
        units = s.units;
        tail =
            s.tail ++ wide_table_body ps ws;
      })) (sym v) (wide_table at far a room n small))

pub wide_taken : (bs cs ps ws : List ℕ) → length ps ≡ length ws
    → cs ≡ bs ++ wide_table_body ps ws → length cs ≡ length bs + (4 + 8 * length ws)
wide_taken bs cs ps ws n e =
    let count : length (to_le_bytes w32 (length ps)) ≡ 4 = refl in
    omega (
      arith,
      n,
      count,
      ap length e,
      length-append bs (wide_table_body ps ws),
      length-append (to_le_bytes w32 (length ps)) (words ps ++ words ws),
      length-append (words ps) (words ws),
      written_length ps,
      written_length ws,
    )

-- an even number of positions is padded, so that whole words are taken
pub table_taken : (bs cs ps ws : List ℕ) → length ps ≡ length ws → cs ≡ bs ++ near_table_body ps ws
    → (length cs ≤ length bs + (8 * length ws + 32)) × (length cs % 4 ≡ length bs % 4)
table_taken bs cs ps ws n e =
    let a = length-append bs (near_table_body ps ws) in
    let b = length-append (to_le_bytes w16 (length ps))
    (units_as_bytes ps ++ (pad (length ps) ++ words ws)) in
    let d = length-append (units_as_bytes ps) (pad (length ps) ++ words ws) in
    let f = length-append (pad (length ps)) (words ws) in
    let two : length (to_le_bytes w16 (length ps)) ≡ 2 = refl in
    elim (pad_long (length ps)) [
      | inl p ↦ (
        omega (arith, ap length e, a, b, d, f, two, halves_len ps, written_length ws, p.1, n),
        omega (arith, ap length e, a, b, d, f, two, halves_len ps, written_length ws, p.0, p.1, n),
      )
      | inr p ↦ (
        omega (arith, ap length e, a, b, d, f, two, halves_len ps, written_length ws, p.1, n),
        omega (arith, ap length e, a, b, d, f, two, halves_len ps, written_length ws, p.0, p.1, n),
      )
    ]

-- an even number of a path's units is padded
pub path_taken : (bs cs us : List ℕ) → cs ≡ bs ++ path_body us
    → (length cs ≤ length bs + (8 * ((length us + 3) / 4) + 32))
    × (length cs % 4 ≡ length bs % 4)
path_taken bs cs us e =
    let a = length-append bs (path_body us) in
    elim (pad_long (length us)) [
      | inl p ↦ (
        omega (arith, ap length e, a, path_long us, p.1),
        omega (arith, ap length e, a, path_long us, p.0, p.1),
      )
      | inr p ↦ (
        omega (arith, ap length e, a, path_long us, p.1),
        omega (arith, ap length e, a, path_long us, p.0, p.1),
      )
    ]

-- one byte more
fill_more : (n : ℕ) → fill (suc n) ≡ fill n ++ 0xaa ∷ []
fill_more zero = refl
fill_more (suc n) = ap (λ l. 0xaa ∷ l) (fill_more n)

pub fill_next : (n : ℕ) → fill (n + 1) ≡ fill n ++ 0xaa ∷ []
fill_next n = let e : n + 1 ≡ suc n = omega arith in ap fill e ∙ fill_more n

module _ (lent : Option Lends) (g : Given) (s : Laid) where
  pub numbers_laid : (ns bs : List ℕ) (w at : ℕ) → 0 < length ns → length ns < 2 ^ 32
      → All (λ n. n < 2 ^ 32) ns → here g s ≡ 4 * at → at < 2 ^ 28 → bs ≡ s.tail ++ words_body ns
      → w ≡ 0xe000_0000 + at
      → LaysBy lent g s (int_vector ns) (record { units = s.units; tail = bs }) w
  numbers_laid ns bs w at some many small a room e v =
      subst (λ x. LaysBy lent g s (int_vector ns) (record { units = s.units; tail = x }) w) (sym e)
      (subst (LaysBy lent g s (int_vector ns) (record {
        units = s.units;
        tail = s.tail ++ words_body
            ns;
      }))
      (sym v) (lays_numbers at some many small a room))

  pub path_laid : (path bs : List ℕ) (w at : ℕ) → 0 < length path → IsUtf8 path
      → length (units path) < 2 ^ 32 → here g s ≡ 4 * at → at < 2 ^ 28
      → bs ≡ s.tail ++ path_body (units path) → w ≡ 0x3000_0000 + at
      → LaysBy lent g s (alias path) (record { units = s.units; tail = bs }) w
  path_laid path bs w at some text few a room e v =
      subst (λ x. LaysBy lent g s (alias path) (record { units = s.units; tail = x }) w) (sym e)
      (subst (LaysBy lent g s (alias path) (more_bytes s (path_body (units path)))) (sym v)
      (lays_path at some text few a room))

  pub bytes_laid : (xs bs : List ℕ) (w at : ℕ) → 0 < length xs → length xs < 2 ^ 32
      → here g s + to_data (here g s) ≡ 4 * at → at < 2 ^ 28
      → bs ≡ (((s.tail ++ fill (to_data (here g s))) ++ to_le_bytes w32 (length xs)) ++ xs) ++ fill
      (to_word (length xs)) → w ≡ 0x1000_0000 + at
      → LaysBy lent g s (binary xs) (record { units = s.units; tail = bs }) w
  bytes_laid xs bs w at some many a room e v =
      let d : List ℕ = fill (to_data (here g s)) in
      let n : List ℕ = to_le_bytes w32 (length xs) in
      let p : List ℕ = fill (to_word (length xs)) in
      let f : s.tail ++ binary_body (here g s) xs ≡ bs =
      sym (e ∙ append_assoc ((s.tail ++ d) ++ n) xs p ∙ append_assoc (s.tail ++ d) n (xs ++ p)
      ∙ append_assoc s.tail d (n ++ (xs ++ p))) in
      subst (λ x. LaysBy lent g s (binary xs) (record { units = s.units; tail = x }) w) f
      (subst (LaysBy lent g s (binary xs) (record {
        units = s.units;
        tail =
            s.tail ++ binary_body (here g s) xs;
      })) (sym v) (lays_bytes at some many a room))
