-- What gifts come to, of the bundles that gave them.
use Rattle.std.proofs.Common.{◌≡◌, ℕ, List, [], ◌∷◌, ◌++◌, Bool, false, refl, ap, ◌∙◌}
use Rattle.std.specs.List.{flat_map, list_any}
use Rattle.std.specs.Prelude.{◌||◌}
use Rattle.std.specs.String.{string_bytes}
use Rattle.std.specs.declared.alloc.Global.{Global}
use Rattle.std.specs.declared.string.String.{String}
use Rattle.std.proofs.Common.{filter, cond, true}
use Rattle.resb_layout.specs.CompactKeys.{keys_by}
use Rattle.resb_layout.specs.TreeFaults.{has_nul}
use Rattle.resb_pool.specs.declared.packing.Packing.{Packing}
use Rattle.resb_pool.specs.declared.packing.Packing.TheVariants.{Plain, Compact}
use Rattle.resb_pool_maker.specs.Holding.{bytes_each, IsGift, AreGifts, no_gifts, more_gifts}
use Rattle.resb_pool_maker.specs.Inner.Given.{gift_keys, gift_records}
use Rattle.resb_pool_maker.specs.PoolOf.{Bundle, used_keys, GiveRecords, give_none, give_more}
use Rattle.resb_pool_maker.specs.declared.gathering.Gift.{Gift}
use Rattle.resb_pool_maker.proofs.Joining.{or_false}

none_appended : (p : List ℕ → Bool) (ks js : List (List ℕ)) → list_any p ks ≡ false
    → list_any p js ≡ false → list_any p (ks ++ js) ≡ false
none_appended p [] js h k = k
none_appended p (i ∷ ks) js h k =
    let both = or_false (p i) (list_any p ks) h in
    ap (λ b. b || list_any p (ks ++ js)) both.0 ∙ none_appended p ks js both.1 k

pub any_string : (ss : List (String Global))
    → list_any (λ (s : String Global). has_nul (string_bytes s)) ss
    ≡ list_any has_nul (bytes_each ss)
any_string [] = refl
any_string (s ∷ ss) = ap (λ b. has_nul (string_bytes s) || b) (any_string ss)

pub keys_given : (q : Packing) {bs : List Bundle} {gs : List Gift} → AreGifts bs gs
    → gift_keys q gs ≡ flat_map (λ b. keys_by q (used_keys b)) bs
keys_given q no_gifts = refl
keys_given q (more_gifts g gs) = λ i. keys_by q (g.keys i) ++ keys_given q gs i

pub records_given : {bs : List Bundle} {gs : List Gift} → AreGifts bs gs
    → GiveRecords bs (gift_records gs)
records_given no_gifts = give_none
records_given (more_gifts g gs) = give_more g.records (records_given gs)

-- a key that may be left out before others
none_before : (p : List ℕ → Bool) (k : List ℕ) (ks : List (List ℕ)) (b : Bool) → p k ≡ false
    → list_any p ks ≡ false → list_any p (cond b (k ∷ ks) ks) ≡ false
none_before p k ks true h e = ap (λ b. b || list_any p ks) h ∙ e
none_before p k ks false h e = e

none_filtered : (p f : List ℕ → Bool) (ks : List (List ℕ)) → list_any p ks ≡ false
    → list_any p (filter f ks) ≡ false
none_filtered p f [] h = refl
none_filtered p f (k ∷ ks) h =
    let both = or_false (p k) (list_any p ks) h in
    none_before p k (filter f ks) (f k) both.0 (none_filtered p f ks both.1)

-- what none of some keys has, none of those has that the packing keeps
pub none_kept : (q : Packing) (p : List ℕ → Bool) (ks : List (List ℕ)) → list_any p ks ≡ false
    → list_any p (keys_by q ks) ≡ false
none_kept Plain p ks h = h
none_kept Compact p ks h = none_filtered p _ ks h

-- no key that is given holds U+0000
pub plain_given : (q : Packing) {bs : List Bundle} {gs : List Gift} → AreGifts bs gs
    → list_any has_nul (flat_map (λ b. keys_by q (used_keys b)) bs) ≡ false
plain_given q no_gifts = refl
plain_given q (more_gifts {b = b} {bs = bs} g gs) =
    none_appended has_nul (keys_by q (used_keys b)) (flat_map (λ b. keys_by q (used_keys b)) bs)
    (none_kept q has_nul (used_keys b) g.plain) (plain_given q gs)

-- a gift more
pub gift_added : {bs : List Bundle} {gs : List Gift} (b : Bundle) (g : Gift) → AreGifts bs gs
    → IsGift b g → AreGifts (bs ++ b ∷ []) (gs ++ g ∷ [])
gift_added b g no_gifts h = more_gifts h no_gifts
gift_added b g (more_gifts k gs) h = more_gifts k (gift_added b g gs h)
