-- A bundle and a list of keys leave one file.
use Rattle.std.proofs.Common.{◌≡◌, ℕ, zero, suc, ◌+◌, ◌*◌, ◌<◌, ◌≤◌, List, [], ◌++◌}
use Rattle.std.proofs.Common.{length, get_or, take, drop, Bool, refl, sym, ◌∙◌, ap}
use Rattle.std.proofs.Common.{subst, length-append, arith, None}
use Rattle.std.specs.List.{flat_map}
use Rattle.std.specs.Int.{to_le_bytes, w32}
use Rattle.std.proofs.lemmas.List.{take-append-drop, length-take-le}
use Rattle.resb_tree.specs.Tree.{Tree}
use Rattle.resb_format.specs.Bytes.{words_of}
use Rattle.resb_format.specs.Laws.{EachFits}
use Rattle.resb_head.specs.File.{body_of}
use Rattle.resb_format.proofs.WordsBack.{bytes_back, fits_drop}
use Rattle.resb_format.proofs.Spelled.{words_length}
use Rattle.resb_pool.proofs.OnePool.{one_pool}
use Rattle.resb_layout.specs.Laid.{Given, Laid, LaysBy}
use Rattle.resb_format.specs.Bytes.{units_as_bytes}
use Rattle.resb_layout.proofs.Once.{one_layout}
use Rattle.resb_tree.specs.LayingOrder.{texts_of}
use Rattle.resb_write.proofs.OneBlock.{one_block}
use Rattle.resb_layout.specs.KeyBlock.{keys_start}
use Rattle.resb_layout.specs.CompactKeys.{key_block_by, key_position_by}
use Rattle.resb_layout.specs.WrittenHead.{written_header}
use Rattle.resb_layout.specs.Written.{even, tail_start, BlocksBy, block_bytes, WrittenBy}
use Rattle.resb_pool.specs.declared.packing.Packing.{Packing}
use Rattle.resb_write.specs.Laws.{OneFile}
use Rattle.resb_write.proofs.Heads.{body_behind}
use Rattle.resb_write.proofs.Lists.{same_front}

module _ (q : Packing) (t : Tree) (ks : List (List ℕ)) (x y : BlocksBy q t ks) where
  pool_is : x.pool ≡ y.pool
  pool_is = (one_pool q (texts_of t) x.pool y.pool x.offset y.offset x.is_pool y.is_pool).0

  offset_is : x.offset ≡ y.offset
  offset_is = (one_pool q (texts_of t) x.pool y.pool x.offset y.offset x.is_pool y.is_pool).1

  abbrev given : BlocksBy q t ks → Given
  given b = record {
    position = key_position_by q t ks;
    offset = b.offset;
    base = tail_start (key_block_by q t ks) b.laid;
    packing = q;
  }

  abbrev start : BlocksBy q t ks → Laid
  start b = record { units = b.pool; tail = [] }

  units_are : x.laid.units ≡ y.laid.units
  units_are = one_block None (given x) (given y) (start x) (start y) x.laid y.laid t x.root y.root
      refl refl
      offset_is pool_is x.lays y.lays

  base_is : tail_start (key_block_by q t ks) x.laid ≡ tail_start (key_block_by q t ks) y.laid
  base_is = ap (λ us. keys_start + length (key_block_by q t ks) + 2 * length (even us)) units_are

  given_is : ◌≡◌ {A = Given} (given x) (given y)
  given_is = λ i. record {
    position = key_position_by q t ks;
    offset = offset_is i;
    base = base_is i;
    packing = q;
  }

  start_is : ◌≡◌ {A = Laid} (start x) (start y)
  start_is = λ i. record { units = pool_is i; tail = [] }

  moved : LaysBy None (given y) (start y) t x.laid x.root
  moved = subst (λ s. LaysBy None (given y) s t x.laid x.root) start_is
      (subst (λ g. LaysBy None g (start x) t x.laid x.root) given_is x.lays)

  laid_is : x.laid ≡ y.laid
  laid_is = (one_layout None (given y) (start y) x.laid y.laid t x.root y.root moved y.lays).0

  pub root_same : x.root ≡ y.root
  root_same = (one_layout None (given y) (start y) x.laid y.laid t x.root y.root moved y.lays).1

  pub start_same : tail_start (key_block_by q t ks) x.laid ≡ tail_start (key_block_by q t ks) y.laid
  start_same = base_is

  pub bytes_same : block_bytes x ≡ block_bytes y
  bytes_same = ap (λ s. key_block_by q t ks ++ (units_as_bytes (even s.units) ++ s.tail)) laid_is

module _ (q : Packing) (a : List ℕ) (t : Tree) (fallback : Bool) (ks : List (List ℕ))
    (w : WrittenBy q a t fallback ks) where
  whole : a ≡ written_header ++ drop 32 a
  whole = sym (take-append-drop 32 a) ∙ ap (λ l. l ++ drop 32 a) w.index.header

  body_is : body_of a ≡ drop 32 a
  body_is = ap body_of whole ∙ body_behind (drop 32 a)

  long : 32 ≤ length (body_of a)
  long = omega (arith, w.keys_end, w.tree.head.keys_inside)

  split : body_of a ≡ take 32 (body_of a) ++ block_bytes w.blocks
  split = sym (take-append-drop 32 (body_of a)) ∙ ap (λ l. take 32 (body_of a) ++ l) w.body

  body_long : length (body_of a) ≡ 32 + length (block_bytes w.blocks)
  body_long =
      let e = ap length (take-append-drop 32 (body_of a)) in
      omega (
        arith,
        e,
        length-append (take 32 (body_of a)) (drop 32 (body_of a)),
        ap length w.body,
        long,
        length-take-le 32 (body_of a) long,
      )

module _ (q : Packing) (a b : List ℕ) (t : Tree) (fallback : Bool) (ks : List (List ℕ))
    (fa : EachFits 8 a) (fb : EachFits 8 b) (x : WrittenBy q a t fallback ks)
    (y : WrittenBy q b t fallback ks) where
  bytes_are : block_bytes x.blocks ≡ block_bytes y.blocks
  bytes_are = bytes_same q t ks x.blocks y.blocks

  long_same : length (body_of a) ≡ length (body_of b)
  long_same = omega (
    arith,
    body_long q a t fallback ks x,
    body_long q b t fallback ks y,
    ap length bytes_are,
  )

  word_same : (i : ℕ) → i < 8 → get_or (words_of (body_of a)) i 0 ≡ get_or (words_of (body_of b)) i
      0
  word_same zero h = x.root ∙ root_same q t ks x.blocks y.blocks ∙ sym y.root
  word_same (suc zero) h = x.index.fields ∙ sym y.index.fields
  word_same (suc (suc zero)) h = omega (arith, x.keys_end, y.keys_end)
  word_same (suc (suc (suc zero))) h = omega (
    arith,
    x.index.resources,
    y.index.resources,
    long_same,
  )
  word_same (suc (suc (suc (suc zero)))) h =
      omega (arith, x.index.bundle, y.index.bundle, long_same)
  word_same (suc (suc (suc (suc (suc zero))))) h = x.index.largest ∙ sym y.index.largest
  word_same (suc (suc (suc (suc (suc (suc zero)))))) h = x.index.no_fallback
      ∙ sym y.index.no_fallback
  word_same (suc (suc (suc (suc (suc (suc (suc zero))))))) h =
      omega (arith, x.block_end, y.block_end, start_same q t ks x.blocks y.blocks)
  word_same (suc (suc (suc (suc (suc (suc (suc (suc i)))))))) h = absurd (omega (arith, h))

  fits_body : (c : List ℕ) → EachFits 8 c → (w : WrittenBy q c t fallback ks)
      → EachFits 8 (body_of c)
  fits_body c f w = subst (EachFits 8) (sym (body_is q c t fallback ks w)) (fits_drop 8 c 32 f)

  head_of : (c : List ℕ) → EachFits 8 c → (w : WrittenBy q c t fallback ks)
      → take 32 (body_of c) ≡ flat_map (to_le_bytes w32) (take 8 (words_of (body_of c)))
  head_of c f w = sym (bytes_back (body_of c) 8 (fits_body c f w)
      (omega (arith, long q c t fallback ks w)))

  head_same : take 32 (body_of a) ≡ take 32 (body_of b)
  head_same =
      head_of a fa x
      ∙ ap (flat_map (to_le_bytes w32)) (same_front 8 (words_of (body_of a)) (words_of (body_of b))
      (omega (arith, words_length (body_of a), long q a t fallback ks x))
      (omega (arith, words_length (body_of b), long q b t fallback ks y)) word_same)
      ∙ sym (head_of b fb y)

  pub same_file : a ≡ b
  same_file =
      whole q a t fallback ks x
      ∙ ap (λ l. written_header ++ l) (sym (body_is q a t fallback ks x) ∙ split q a t fallback ks x
      ∙ (λ i. head_same i ++ bytes_are i) ∙ sym (split q b t fallback ks y)
      ∙ body_is q b t fallback ks y)
      ∙ sym (whole q b t fallback ks y)

pub one_file : OneFile
one_file q a b t fallback ks fa fb x y = same_file q a b t fallback ks fa fb x y
