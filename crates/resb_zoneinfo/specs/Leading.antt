-- Where a link of a list leads.
use Rattle.std.specs.Prelude.{ℕ, ℤ, pos, ◌≡◌, ◌≤◌, ◌⊎◌, List, Some, length, slice_get}
use Rattle.resb_zoneinfo.specs.declared.checking.ZoneError.{ZoneError}
use Rattle.resb_zoneinfo.specs.declared.checking.ZoneError.TheVariants as error
use Rattle.resb_zoneinfo.specs.declared.linked.Linked.{Linked}
use Rattle.resb_zoneinfo.specs.declared.linked.Linked.TheVariants.{Link, Value}

-- a value stands at a place of a list
abbrev pub IsValueAt : {T : Type 0} → List (Linked T) → ℕ → T → Type 0
IsValueAt members k t = slice_get members k ≡ Some (Value t)

-- a link stands at a place of a list
abbrev pub IsLinkAt : {T : Type 0} → List (Linked T) → ℕ → ℤ → Type 0
IsLinkAt members k x = slice_get members k ≡ Some (Link x)

-- a value stands at a place, or a link to the place of a value
abbrev pub LeadsTo : {T : Type 0} → List (Linked T) → ℕ → T → Type 0
LeadsTo members k t =
    IsValueAt members k t ⊎ ((j : ℕ) × IsLinkAt members k (pos j) × IsValueAt members j t)

-- a link stands at a place that leads to no value
pub record IsLost {T : Type 0} (members : List (Linked T)) (k : ℕ) : Type 0 where
  pub link : ℤ
  pub there : IsLinkAt members k link
  pub lost : (j : ℕ) (t : T) → link ≡ pos j → IsValueAt members j t → ⊥

-- a place is beyond the list, or a link stands there that leads to no value
abbrev pub LeadsNowhere : {T : Type 0} → List (Linked T) → ℕ → ZoneError → Type 0
LeadsNowhere members k error.NoZone = length members ≤ k
LeadsNowhere members k error.Link = IsLost members k
LeadsNowhere members k _ = ⊥
