-- Which `{` and which `}` of a text are partners, whatever the code counts.
--     Balanced f text from to      each brace between two places has its partner there
--     ArePartners f text p q       a `{` and a `}` are partners
--     IsInnermost f text found     the innermost `{` without a partner, if there is one
-- Only bytes among tokens are braces here: in quotes and in comments there are none.
use Rattle.std.specs.Prelude.{◌≡◌, ◌<◌, ℕ, suc, true, List, length, slice_index, Option, Some, None}
use Rattle.resb_grammar.specs.Ascii.{left_brace, right_brace}
use Rattle.resb_diagnostics.specs.Braces.{Form, mode_in}

-- this byte stands at a place of the text, among tokens
pub record IsAmongTokens {M : Type 0} (f : Form M) (text : List ℕ) (byte n : ℕ) : Type 0 where
  pub fits : n < length text
  pub tokens : f.has_tokens (mode_in f text n) ≡ true
  pub stands : slice_index text n ≡ byte

-- a `{` stands at a place
abbrev pub Opens : {M : Type 0} → Form M → List ℕ → ℕ → Type 0
Opens f text n = IsAmongTokens f text left_brace n

-- a `}` stands at a place
abbrev pub Closes : {M : Type 0} → Form M → List ℕ → ℕ → Type 0
Closes f text n = IsAmongTokens f text right_brace n

-- from one place on and before another each brace has its partner: there is nothing; or a byte that
-- is no brace, and more of that kind; or a `{`, what is of that kind, a `}`, and more of that kind
pub data Balanced {M : Type 0} (f : Form M) (text : List ℕ) : ℕ → ℕ → Type 0 where
  nothing : (n : ℕ) → Balanced f text n n
  another : (n to : ℕ) → (Opens f text n → ⊥) → (Closes f text n → ⊥)
      → Balanced f text (suc n) to → Balanced f text n to
  group : (n m to : ℕ) → Opens f text n → Balanced f text (suc n) m → Closes f text m
      → Balanced f text (suc m) to → Balanced f text n to

-- the `{` at one place and the `}` at another are partners: each brace between has its own
pub record ArePartners {M : Type 0} (f : Form M) (text : List ℕ) (p q : ℕ) : Type 0 where
  pub opens : Opens f text p
  pub between : Balanced f text (suc p) q
  pub closes : Closes f text q

-- the `{` at a place has a partner, which stands behind it
abbrev pub HasPartner : {M : Type 0} → Form M → List ℕ → ℕ → Type 0
HasPartner f text p = (q : ℕ) × ArePartners f text p q

-- the innermost `{` without a partner stands at this place: each `{` behind it has one; or there is
-- none: each `{` has a partner
abbrev pub IsInnermost : {M : Type 0} → Form M → List ℕ → Option ℕ → Type 0
IsInnermost f text (Some p) =
    Opens f text p × (HasPartner f text p → ⊥)
    × ((q : ℕ) → p < q → Opens f text q → HasPartner f text q)
IsInnermost f text None = (q : ℕ) → Opens f text q → HasPartner f text q
