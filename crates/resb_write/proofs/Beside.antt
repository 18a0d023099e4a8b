-- What is read in parts that use no pool is read beside an empty one too.
use Rattle.std.proofs.Common.{◌≡◌, ℕ, ◌<◌, List, length, Some, None, cond}
use Rattle.std.proofs.Common.{option_and_then, inl, inr, sym, ◌∙◌, ap, rules}
use Rattle.std.proofs.lemmas.Bool.{cases_lt, lt-ltb}
use Rattle.std.proofs.lemmas.List.{drop_all}
use Rattle.resb_format.specs.Lookups.{key_place_by, text_place_by, index_by, place_behind}
use Rattle.resb_format.specs.Lookups.{key_in, text_in, position_in, wide_position}
use Rattle.resb_format.specs.Parts.{Parts, no_pool, beside_no_pool}
use Rattle.resb_format.specs.Strings.{key_at, before_zero, if_utf8, text_at}
use Rattle.resb_layout.specs.Laid.{Given, Laid}
use Rattle.resb_layout.specs.Laws.{IsRead, StandsIn}

-- no key stands behind the last byte
key_inside : (keys : List ℕ) (at : ℕ) (k : List ℕ) → key_at keys at ≡ Some k → at < length keys
unfolding key_at
key_inside keys at k e = elim (cases_lt at (length keys)) [
  | inl h ↦ h
  | inr h ↦ absurd (let n : None ≡ Some k =
      sym (ap (λ l. option_and_then if_utf8 (before_zero l)) (drop_all at keys h)) ∙ e in
      let no : ⊥ = cc in
      no)
]

-- the place of a position, and that of an index, beside an empty pool
own_place : (keys : List ℕ) (n : ℕ) → position_in n < length keys
    → key_place_by (Some no_pool) keys n ≡ (keys, position_in n)
unfolding key_place_by
own_place keys n h =
    ap (λ b. cond b (keys, position_in n) (place_behind no_pool keys n))
    (lt-ltb (position_in n) (length keys) h)

own_text : (block : List ℕ) (i : ℕ) → text_place_by (Some no_pool) block i ≡ (block, i)
unfolding text_place_by
own_text block i = search rules

own_index : (u : ℕ) → index_by (Some no_pool) u ≡ u
unfolding index_by
own_index u = search rules

module _ (body keys block : List ℕ) (g : Given) where
  abbrev alone : Parts
  alone = record { body = body; keys = keys; block = block; lent = None }

  own_key : (k : List ℕ) (n : ℕ) → key_in alone n ≡ Some k
      → key_in (beside_no_pool alone) n ≡ Some k
  unfolding key_place_by
  own_key k n here =
      ap (λ p. key_at p.0 p.1) (own_place keys n (key_inside keys (position_in n) k here)) ∙ here

  own_text_in : (s : List ℕ) (k : ℕ) → text_in alone k ≡ Some s
      → text_in (beside_no_pool alone) k ≡ Some s
  unfolding text_place_by
  own_text_in s k here = ap (λ p. text_at p.0 p.1) (own_text block k) ∙ here

  pub read_beside : IsRead alone None g → IsRead (beside_no_pool alone) None g
  unfolding key_place_by index_by
  read_beside r = record {
    keys = λ k at e. own_key k (wide_position at) (r.keys k at e);
    near_keys = λ k at e near. own_key k at (r.near_keys k at e near);
    texts = λ s k e. own_text_in s k (r.texts s k e);
    short_texts = λ s k e short. ap (text_in (beside_no_pool alone)) (own_index k)
        ∙ own_text_in s k (r.texts s k e);
    empty = r.empty;
    base = r.base;
    aligned = r.aligned;
  }

  pub stands_beside : {s : Laid} → StandsIn alone g s → StandsIn (beside_no_pool alone) g s
  stands_beside h = record {
    front = h.front;
    units_behind = h.units_behind;
    bytes_behind = h.bytes_behind;
    front_is = h.front_is;
    block_is = h.block_is;
    body_is = h.body_is;
  }
