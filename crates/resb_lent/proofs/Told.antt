-- A file beside a pool tells the pool's keys by their places.
use Rattle.std.proofs.Common.{ℕ, List, ◌≡◌, ◌+◌, ◌-◌, ◌<◌, ◌≤◌, ◌^◌, length, Some, true, false}
use Rattle.std.proofs.Common.{ap, ◌∙◌, arith, cond, nat_lt}
use Rattle.std.proofs.lemmas.Bool.{lt-ltb, le-ltb}
use Rattle.resb_format.specs.Lookups.{key_place_by, key_in, wide_position, position_in}
use Rattle.resb_format.specs.Lookups.{place_behind}
use Rattle.resb_format.proofs.Beside.{near_position, wide_position_back}
use Rattle.resb_format.specs.Parts.{Parts, Lent}
use Rattle.resb_format.specs.Strings.{key_at}
use Rattle.resb_lent.specs.Laws.{LentKeyIsTold}

far_place : (l : Lent) (keys : List ℕ) (at : ℕ) → length keys ≤ 2 ^ 31
    → key_place_by (Some l) keys (wide_position (at + 2 ^ 31)) ≡ (l.keys, at)
unfolding key_place_by
far_place l keys at h =
    let n : ℕ = wide_position (at + 2 ^ 31) in
    let back : position_in n ≡ at + 2 ^ 31 = wide_position_back (at + 2 ^ 31) in
    let behind : nat_lt (position_in n) (length keys) ≡ false =
    le-ltb (position_in n) (length keys) (omega (arith, back, h)) in
    let wide : nat_lt n (2 ^ 16) ≡ false = le-ltb n (2 ^ 16) (omega arith) in
    let far : nat_lt (n - 2 ^ 16) (2 ^ 31) ≡ false = le-ltb (n - 2 ^ 16) (2 ^ 31) (omega arith) in
    let place : n - 2 ^ 16 - 2 ^ 31 ≡ at = omega arith in
    ap (λ b. cond b (keys, position_in n) (place_behind l keys n)) behind
    ∙ ap (λ b. cond b (l.keys, n - length keys)
    (cond (nat_lt (n - 2 ^ 16) (2 ^ 31)) (keys, n - 2 ^ 16) (l.keys, n - 2 ^ 16 - 2 ^ 31))) wide
    ∙ ap (λ b. cond b (keys, n - 2 ^ 16) (l.keys, n - 2 ^ 16 - 2 ^ 31)) far
    ∙ ap (λ m. (l.keys, m)) place

near_place : (l : Lent) (keys : List ℕ) (at : ℕ) → at + length keys < 2 ^ 16
    → key_place_by (Some l) keys (at + length keys) ≡ (l.keys, at)
unfolding key_place_by
near_place l keys at h =
    let n : ℕ = at + length keys in
    let same : position_in n ≡ n = near_position n h in
    let behind : nat_lt (position_in n) (length keys) ≡ false =
    le-ltb (position_in n) (length keys) (omega (arith, same)) in
    let near : nat_lt n (2 ^ 16) ≡ true = lt-ltb n (2 ^ 16) h in
    let place : n - length keys ≡ at = omega arith in
    ap (λ b. cond b (keys, position_in n) (place_behind l keys n)) behind
    ∙ ap (λ b. cond b (l.keys, n - length keys)
    (cond (nat_lt (n - 2 ^ 16) (2 ^ 31)) (keys, n - 2 ^ 16) (l.keys, n - 2 ^ 16 - 2 ^ 31))) near
    ∙ ap (λ m. (l.keys, m)) place

-- what is read at a place of the pool's keys is told by that place
pub told_there : (p : Parts) (l : Lent) (key : List ℕ) (at : ℕ) → p.lent ≡ Some l
    → length p.keys ≤ 2 ^ 31 → key_at l.keys at ≡ Some key
    → (key_in p (wide_position (at + 2 ^ 31)) ≡ Some key)
    × (at + length p.keys < 2 ^ 16 → key_in p (at + length p.keys) ≡ Some key)
told_there p l key at lent few reads = (
  told (wide_position (at + 2 ^ 31)) (far_place l p.keys at few),
  λ near. told (at + length p.keys) (near_place l p.keys at near),
)
  where
    told : (k : ℕ) → key_place_by (Some l) p.keys k ≡ (l.keys, at) → key_in p k ≡ Some key
    told k e =
        let place : key_place_by p.lent p.keys k ≡ (l.keys, at) =
        ap (λ o. key_place_by o p.keys k) lent ∙ e in
        ap (λ r. key_at r.0 r.1) place ∙ reads

pub lent_key_is_told : LentKeyIsTold
lent_key_is_told p l key at lent few w = told_there p l key at lent few w.reads
