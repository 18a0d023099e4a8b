-- Bodies of resources: where a word leads, and what the words of the body there are. (ICU's
-- `uresdata.h`: resource types.)
--     body_role w, place_in w     the kind of the body that a word leads to, and its first word
--     role_in f r p i             the role that a body of this kind gives to a word
--     member_count f r p, member_in f r p k       the words of resources in it
--     Reached f w                 the root leads to this word
use Rattle.std.specs.Prelude.{ℕ, ◌+◌, ◌-◌, ◌/◌, ◌%◌, ◌^◌, ◌<◌, Bool, ◌==◌, ◌&&◌, ◌||◌, nat_le}
use Rattle.std.specs.Prelude.{nat_lt, true, false, if◌then◌else◌}
use Rattle.resb_swap.specs.Numbers.{Numbered, unit_in, word_in}
use Rattle.resb_swap.specs.Collation.{holds_data, parts_in, part_role}
use Rattle.resb_swap.specs.declared.role.Role.{Role}
use Rattle.resb_swap.specs.declared.role.Role.TheVariants as role

-- the type that a word names, in its upper 4 bits
abbrev pub type_in : ℕ → ℕ
type_in w = w / 2 ^ 28

-- the value of a word, in its lower 28 bits: the first word of a body, where it leads to one
abbrev pub place_in : ℕ → ℕ
place_in w = w % 2 ^ 28

-- a number that names a type: one of ten, or the vector's
abbrev pub is_type : ℕ → Bool
is_type t = nat_le t 9 || t == 14

-- the kind of a type's bodies; the other types have none behind the 16-bit block
abbrev pub role_of_type : ℕ → Role
role_of_type t =
    if t == 0 then role.Text else if t == 1 then role.Binary else if t == 2 then role.Table
    else if t == 3 then role.Text else if t == 4 then role.Table32 else if t == 8 then role.Array
    else if t == 14 then role.Vector else role.Free

-- the kind of the body that a word leads to; the value 0 leads to none
unfoldable pub body_role : ℕ → Role
body_role w = if place_in w == 0 then role.Free else role_of_type (type_in w)

-- the kind of a body, which is the role of its first word alone
abbrev pub is_start : Role → Bool
is_start role.Text = true
is_start role.Binary = true
is_start role.Table = true
is_start role.Table32 = true
is_start role.Array = true
is_start role.Vector = true
is_start _ = false

-- the number that a body begins with: a unit in a table, else a word
abbrev pub count_in : Numbered → Role → ℕ → ℕ
count_in f role.Table p = unit_in f p
count_in f _ p = word_in f p

-- the role of the words behind the first that are no resources
abbrev pub middle_role : Role → Role
middle_role role.Text = role.Units
middle_role role.Binary = role.Bytes
middle_role role.Table = role.Units
middle_role _ = role.Words

-- how many of these there are: units and bytes are filled up to words, and a table has one key
-- position in its first word
abbrev pub middle_of : Role → ℕ → ℕ
middle_of role.Text n = (n + 1) / 2
middle_of role.Binary n = (n + 3) / 4
middle_of role.Table n = n / 2
middle_of role.Table32 n = n
middle_of role.Vector n = n
middle_of _ n = 0

-- how many words of resources follow these
abbrev pub members_of : Role → ℕ → ℕ
members_of role.Table n = n
members_of role.Table32 n = n
members_of role.Array n = n
members_of _ n = 0

-- how many words of a body stand between its first one and its members
abbrev pub middle_count : Numbered → Role → ℕ → ℕ
middle_count f r p = middle_of r (count_in f r p)

-- how many resources stand in a body
abbrev pub member_count : Numbered → Role → ℕ → ℕ
member_count f r p = members_of r (count_in f r p)

-- the word where a body's members begin
abbrev pub members_from : Numbered → Role → ℕ → ℕ
members_from f r p = p + 1 + middle_count f r p

-- the number i is one of n numbers from a place on
abbrev pub is_among : ℕ → ℕ → ℕ → Bool
is_among from n i = nat_le from i && nat_lt i (from + n)

-- the role of word k behind the first one, before the members: in a collation's data by its parts
unfoldable pub middle_at : Numbered → Role → ℕ → ℕ → Role
middle_at f role.Binary p k =
    if holds_data f p then part_role (parts_in f (p + 1)) k else role.Bytes
middle_at f r p k = middle_role r

-- the role that a body gives to word i: that of members, that of what stands before them, or the
-- kind of the body for its first word; other words are not its own
unfoldable pub role_in : Numbered → Role → ℕ → ℕ → Role
role_in f r p i =
    if is_among (members_from f r p) (member_count f r p) i then role.Words
    else if is_among (p + 1) (middle_count f r p) i then middle_at f r p (i - (p + 1))
    else if is_among p 1 i then r
    else role.Free

-- the word of member k of a body
abbrev pub member_in : Numbered → Role → ℕ → ℕ → ℕ
member_in f r p k = word_in f (members_from f r p + k)

module _ (f : Numbered) where
  -- the root's word is reached, and each member of a body to which a word leads that is reached
  pub data Reached : ℕ → Type 0 where
    reached_root : Reached (word_in f 0)
    reached_member : {w : ℕ} (k : ℕ) → Reached w → k < member_count f (body_role w) (place_in w)
        → Reached (member_in f (body_role w) (place_in w) k)
