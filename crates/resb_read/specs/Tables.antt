-- The values of a table by their keys.
--     key_of e                the text of an entry's key, and what it takes: nothing
--     last_named name es      where the value of the last entry of this name stands
--     IsLastNamed name es p   the same as a relation; `LastOfAName` says that the two agree
--     HasEntry name es p      one of the entries has this name, and its value stands there
--     Ascend es               each key is a text, and above the one before
--     keys_ascend es          the same as a test; `AscendIsTold` says that the two agree
--     price_of es             what is paid before all keys are read
--     ReadsFound, CountsFound, RefusesFound
--                             what is read of a value that may be missing
--     RefusesTable p left left' e
--                             why no table is read at a place
use Rattle.std.specs.Prelude.{ℕ, List, [], ◌∷◌, ◌++◌, Bool, true, false, Option, Some, None, length}
use Rattle.std.specs.Prelude.{◌≡◌, ◌<◌, ◌+◌, ◌/◌, ◌==◌, ◌⊎◌, ◌↔◌, drop, if◌then◌else◌}
use Rattle.std.specs.List.{position_or_len}
use Rattle.std.specs.Str.{bytes_eq}
use Rattle.std.specs.Ordering.{nat_cmp, is_lt}
use Rattle.std.specs.Cmp.Lexicographic.{slice_cmp}
use Rattle.std.specs.declared.cmp.Ordering.TheVariants.{Less}
use Rattle.resb_format.specs.declared.error.ReadingError.{ReadingError}
use Rattle.resb_walk.specs.Refusals.{IsSpent}
use Rattle.resb_format.specs.Parts.{Parts}
use Rattle.resb_format.specs.Lookups.{key_place}
use Rattle.resb_read.specs.Places.{Place}
use Rattle.resb_read.specs.Leaves.{key_from, ReadsKey}
use Rattle.resb_read.specs.PlaceRefusals.{entries_refusal_from}
use Rattle.resb_read.specs.RefusedReadings.{RefusesAs, RefusesThere, RefusesInside}
use Rattle.resb_read.specs.Sequences.{entries_at}
use Rattle.resb_read.specs.Inner.Elements.{entry_places}
use Rattle.resb_read.specs.declared.cursor.Spot.{Spot}
use Rattle.resb_read.specs.declared.cursor.Spot.TheVariants as spot
use Rattle.resb_read.specs.declared.tables.TableView.{TableView}

-- the places of a table's keys and values
abbrev pub view_entries : TableView → List (Place × Place)
view_entries t = entry_places t.file t.entries

-- what is read of an entry's key, and takes nothing; nothing, if it is no text
abbrev pub key_of : Place × Place → Option (List ℕ × ℕ)
key_of e = key_from e.0.parts e.0.at

-- a key is this text; one that can't be read is none
abbrev pub is_text : List ℕ → Option (List ℕ × ℕ) → Bool
is_text name (Some t) = bytes_eq t.0 name
is_text name None = false

-- an entry's key is this text
abbrev pub has_name : List ℕ → Place × Place → Bool
has_name name e = is_text name (key_of e)

-- each entry of the name takes the place of what was found before
abbrev pub last_from : List ℕ → Option Place → List (Place × Place) → Option Place
last_from name found [] = found
last_from name found (e ∷ es) = last_from name (if has_name name e then Some e.1 else found) es

-- where the value of the last entry of this name stands, if there is one
abbrev pub last_named : List ℕ → List (Place × Place) → Option Place
last_named name es = last_from name None es

-- this text is read as the entry's key
abbrev pub IsNamed : List ℕ → Place × Place → Type 0
IsNamed name e = (n : ℕ) × ReadsKey e.0 name n

-- one of the entries has this name, and its value stands at this place
pub record HasEntry (name : List ℕ) (es : List (Place × Place)) (value : Place) : Type 0 where
  pub before : List (Place × Place)
  pub key : Place
  pub after : List (Place × Place)
  pub are : es ≡ before ++ (key, value) ∷ after
  pub named : IsNamed name (key, value)

-- no entry has this name
abbrev pub NoneNamed : List ℕ → List (Place × Place) → Type 0
NoneNamed name [] = Unit {0}
NoneNamed name (e ∷ es) = (IsNamed name e → ⊥) × NoneNamed name es

-- an entry has this name and its value stands at this place, and no entry behind it has the name
abbrev pub IsLastNamed : List ℕ → List (Place × Place) → Place → Type 0
IsLastNamed name es value = (entry : HasEntry name es value) × NoneNamed name entry.after

-- a value is found for a name exactly where it is the last of that name, and none exactly where no
-- entry has the name
abbrev pub LastOfAName : Type 0
LastOfAName =
    (name : List ℕ) (es : List (Place × Place))
    → ((p : Place) → (last_named name es ≡ Some p) ↔ IsLastNamed name es p)
    × ((last_named name es ≡ None) ↔ NoneNamed name es)

-- one text stands before another, byte by byte
abbrev pub IsBelow : List ℕ → List ℕ → Type 0
IsBelow s t = slice_cmp nat_cmp s t ≡ Less

-- the first key is above this text, and each key above the one before
abbrev pub AscendAbove : List ℕ → List (Place × Place) → Type 0
AscendAbove low [] = Unit {0}
AscendAbove low (e ∷ es) =
    (t : List ℕ × ℕ) × (key_of e ≡ Some t) × IsBelow low t.0 × AscendAbove t.0 es

-- each key is a text, and above the one before, byte by byte
abbrev pub Ascend : List (Place × Place) → Type 0
Ascend [] = Unit {0}
Ascend (e ∷ es) = (t : List ℕ × ℕ) × (key_of e ≡ Some t) × AscendAbove t.0 es

-- the text of a key, if there is one
abbrev pub text_or_empty : Option (List ℕ × ℕ) → List ℕ
text_or_empty (Some t) = t.0
text_or_empty None = []

-- a key is a text, and above this one
abbrev pub is_above : List ℕ → Option (List ℕ × ℕ) → Bool
is_above low (Some t) = is_lt (slice_cmp nat_cmp low t.0)
is_above low None = false

-- `AscendAbove` as a test
abbrev pub keys_ascend_above : List ℕ → List (Place × Place) → Bool
keys_ascend_above low [] = true
keys_ascend_above low (e ∷ es) =
    if is_above low (key_of e) then keys_ascend_above (text_or_empty (key_of e)) es else false

-- the first key is a text, and the others ascend from it on
abbrev pub keys_ascend_from : Option (List ℕ × ℕ) → List (Place × Place) → Bool
keys_ascend_from (Some t) es = keys_ascend_above t.0 es
keys_ascend_from None es = false

-- `Ascend` as a test
abbrev pub keys_ascend : List (Place × Place) → Bool
keys_ascend [] = true
keys_ascend (e ∷ es) = keys_ascend_from (key_of e) es

-- the test is true exactly where the keys ascend
abbrev pub AscendIsTold : Type 0
AscendIsTold = (es : List (Place × Place)) → (keys_ascend es ≡ true) ↔ Ascend es

-- how many bytes stand from a key's place to the next zero byte, or to the key block's end
abbrev pub size_at : Parts → Spot → ℕ
size_at p (spot.Key k) = position_or_len (λ b. b == 0) (drop (key_place p k).1 (key_place p k).0)
size_at p s = 0

-- what is paid before all keys of entries are read: of each, one for each 16 of its bytes
abbrev pub price_of : List (Place × Place) → ℕ
price_of [] = 0
price_of (e ∷ es) = size_at e.0.parts e.0.at / 16 + price_of es

-- there is no place and no value, which costs nothing; or the value is read at the place
abbrev pub ReadsFound : {X : Type 0} → (Place → X → ℕ → Type 0) → Option Place → Option X → ℕ
    → Type 0
ReadsFound reads None None n = n ≡ 0
ReadsFound reads (Some p) (Some x) n = reads p x n
ReadsFound reads _ _ n = ⊥

-- there is no place, which costs nothing; or some value is read there, with this count
abbrev pub CountsFound : (Place → ℕ → Type 0) → Option Place → ℕ → Type 0
CountsFound counts None n = n ≡ 0
CountsFound counts (Some p) n = counts p n

-- there is a place, and no value is read there
abbrev pub RefusesFound : (Place → ℕ → Type 0) → (Place → ℕ → ℕ → ReadingError → Type 0)
    → Option Place → ℕ → ℕ → ReadingError → Type 0
RefusesFound counts refuses None left left' e = ⊥
RefusesFound counts refuses (Some p) left left' e = RefusesThere counts refuses p left left' e

-- these entries can't be paid for, and nothing was taken
pub record RefusesPaying (es : List (Place × Place)) (left left' : ℕ) (e : ReadingError)
    : Type 0 where
  pub spent : IsSpent e
  pub lacks : left < length es
  pub kept : left' ≡ left

-- no table is read: no entries stand there, or the budget is spent, and the whole is refused; or
-- one is paid for the table, and its entries can't be paid for
abbrev pub RefusesTable : Place → ℕ → ℕ → ReadingError → Type 0
RefusesTable p left left' e =
    ((entries_at p ≡ None ⊎ left ≡ 0) × RefusesAs entries_refusal_from p left left' e)
    ⊎ RefusesInside (entries_at p) RefusesPaying left left' e
