-- What the keys in a compact file's key block are, by law.
--     StandsIn block k        the key stands in the block, with a zero byte behind it
--     AreLeast js ks          the keys ks hold the keys js, and no block that does is shorter
--     KeptAreLeast            so the keys that a compact file keeps hold all
use Rattle.std.specs.Prelude.{◌≡◌, ◌≢◌, ◌≤◌, ℕ, List, ◌∷◌, ◌++◌, length, All, AllPairs, Contains}
use Rattle.resb_layout.specs.CompactKeys.{kept}
use Rattle.resb_layout.specs.KeyBlock.{key_bytes}
use Rattle.resb_pool.specs.Records.{EachOnce, EndsWith}

-- somewhere in the bytes stands the key, with a zero byte right behind it
pub record StandsIn (block k : List ℕ) : Type 0 where
  pub before : List ℕ
  pub behind : List ℕ
  pub is : block ≡ before ++ (k ++ 0 ∷ behind)

-- neither of two keys is the end of the other
abbrev pub AreApart : List ℕ → List ℕ → Type 0
AreApart j k = (EndsWith j k → ⊥) × (EndsWith k j → ⊥)

-- some of the keys js, of which none is the end of another; each of the keys lies in one of them;
-- and a block of bytes in which each of the keys stands is no shorter than one that has only these,
-- each with its zero byte
pub record AreLeast (js ks : List (List ℕ)) : Type 0 where
  pub among : (k : List ℕ) → Contains ks k → Contains js k
  pub apart : AllPairs AreApart ks
  pub hold : (k : List ℕ) → Contains js k → (j : List ℕ) × Contains ks j × EndsWith j k
  pub least : (block : List ℕ) → All (StandsIn block) js → length (key_bytes ks) ≤ length block

-- of keys without a zero byte, each of which is listed once, those are least that a compact file
-- keeps
abbrev pub KeptAreLeast : Type 0
KeptAreLeast = (js : List (List ℕ)) → EachOnce js → All (All (λ b. b ≢ 0)) js → AreLeast js (kept js)
