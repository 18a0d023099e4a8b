-- For what the warnings of a text are due, apart from the walk by which `warned` finds them.
--     IsDue text n reason place   a warning is due at a place, by what the first n bytes are
use Rattle.std.specs.Prelude.{◌≡◌, ◌<◌, ◌⊎◌, ℕ, ℤ, true, false, List, [], ◌∷◌, ◌++◌, Contains}
use Rattle.std.specs.Prelude.{slice_index, Some}
use Rattle.resb_grammar.specs.Ascii.{quote}
use Rattle.resb_diagnostics.specs.Braces.{plain_form, backslash}
use Rattle.resb_diagnostics.specs.Partners.{IsAmongTokens}
use Rattle.resb_diagnostics.specs.Pieces.{PlacedText, a_string, closing, a_comma, piece_at}
use Rattle.resb_diagnostics.specs.Groups.{GroupItem, string_item, OpenGroup, pair_keys}
use Rattle.resb_diagnostics.specs.Items.{IsRightBefore, IsOpenFrom, IsOpenAt}
use Rattle.resb_diagnostics.specs.Warnings.{is_array, is_octal, unsigned, cut, is_negative}
use Rattle.resb_diagnostics.specs.Warnings.{number_of}
use Rattle.resb_diagnostics.specs.declared.named.Named.TheVariants as named
use Rattle.resb_diagnostics.specs.declared.warning.Reason.{Reason}
use Rattle.resb_diagnostics.specs.declared.warning.Reason.TheVariants as reason
use Rattle.resb_diagnostics.specs.declared.warning.Warning.{Warning}
use Rattle.resb_diagnostics.specs.IcuKeys.{icu_piece_at}

-- a byte stands nowhere between two places
abbrev pub NoneBetween : ℕ → List ℕ → ℕ → ℕ → Type 0
NoneBetween byte text from to = (k : ℕ) → from < k → k < to → slice_index text k ≡ byte → ⊥

-- a backslash stands at a place, and is the first one behind the quote with which a string begins
-- that doesn't end before it
pub record IsFirstBackslash (text : List ℕ) (n : ℕ) : Type 0 where
  pub from : ℕ
  pub order : from < n
  pub begins : IsAmongTokens plain_form text quote from
  pub goes_on : NoneBetween quote text from n
  pub stands : slice_index text n ≡ backslash
  pub first : NoneBetween backslash text from n

-- a string that begins at a place ends in the first n bytes
pub record IsString (text : List ℕ) (n place : ℕ) (string : PlacedText) (at : ℕ) : Type 0 where
  pub within : at < n
  pub ends : piece_at text at ≡ Some (a_string string)
  pub begins : string.place ≡ place

-- the piece before a string that begins at a place is a string too
pub record IsInRow (text : List ℕ) (n place : ℕ) : Type 0 where
  pub string : PlacedText
  pub at : ℕ
  pub stands : IsString text n place string at
  pub other : PlacedText
  pub before : IsRightBefore (piece_at text) at (a_string other)

-- the first of these keys that has these bytes stands at a place
pub record IsFirstWith (bytes : List ℕ) (keys : List PlacedText) (place : ℕ) : Type 0 where
  pub before : List PlacedText
  pub key : PlacedText
  pub after : List PlacedText
  pub parts : keys ≡ before ++ key ∷ after
  pub same : key.bytes ≡ bytes
  pub stands : key.place ≡ place
  pub none : (k : PlacedText) → Contains before k → k.bytes ≡ bytes → ⊥

-- of these keys one stands at a place, and the first equal one before it at another
pub record IsRepeated (keys : List PlacedText) (place first : ℕ) : Type 0 where
  pub before : List PlacedText
  pub key : PlacedText
  pub after : List PlacedText
  pub parts : keys ≡ before ++ key ∷ after
  pub stands : key.place ≡ place
  pub other : IsFirstWith key.bytes before first

-- a `}` stands at a place, and this is the group that it ends: the one that is open there, or the
-- text itself, where no `{` is
pub record EndsAt (text : List ℕ) (at : ℕ) (group : OpenGroup) : Type 0 where
  pub closes : piece_at text at ≡ Some (closing at)
  pub is_open : IsOpenAt (piece_at text) at group

-- a group isn't `:array`, and pairs of a key and a group stand in it, with these keys
pub record HasKeys (group : OpenGroup) (keys : List PlacedText) : Type 0 where
  pub no_array : is_array group.named ≡ false
  pub pairs : pair_keys group.items ≡ Some keys

-- a key of a group of pairs stands at a place, and the first equal one before it in that group at
-- another
pub record Repeats (group : OpenGroup) (place first : ℕ) : Type 0 where
  pub keys : List PlacedText
  pub has : HasKeys group keys
  pub repeated : IsRepeated keys place first

-- the same of a group whose `}` is one of the first n bytes
pub record RepeatsKey (text : List ℕ) (n place first : ℕ) : Type 0 where
  pub at : ℕ
  pub within : at < n
  pub group : OpenGroup
  pub ends : EndsAt text at group
  pub repeats : Repeats group place first

-- a comma stands at a place, and right in the group that is open there, or in the text itself, only
-- pairs of a key and a group stand before it
pub record IsBehindPairs (text : List ℕ) (n place : ℕ) : Type 0 where
  pub within : place < n
  pub stands : piece_at text place ≡ Some (a_comma place)
  pub group : OpenGroup
  pub is_open : IsOpenAt (piece_at text) place group
  pub key : PlacedText
  pub keys : List PlacedText
  pub has : HasKeys group (key ∷ keys)

-- a group without a type that ends in the first n bytes has pairs of a key and a group, and behind
-- these one string alone, which begins at a place
pub record IsLone (text : List ℕ) (n place : ℕ) : Type 0 where
  pub at : ℕ
  pub within : at < n
  pub group : OpenGroup
  pub ends : EndsAt text at group
  pub no_type : group.named ≡ named.Nothing
  pub string : PlacedText
  pub begins : string.place ≡ place
  pub pairs : List GroupItem
  pub items : group.items ≡ string_item string ∷ pairs
  pub key : PlacedText
  pub keys : List PlacedText
  pub has : pair_keys pairs ≡ Some (key ∷ keys)

-- at a place a group ends that has no type, in which nothing stands, and which stands in a group
pub record IsEmpty (text : List ℕ) (n place : ℕ) : Type 0 where
  pub within : place < n
  pub closes : piece_at text place ≡ Some (closing place)
  pub from : ℕ
  pub group : OpenGroup
  pub is_open : IsOpenFrom (piece_at text) from place group
  pub no_type : group.named ≡ named.Nothing
  pub items : group.items ≡ []
  pub outer_from : ℕ
  pub outer : OpenGroup
  pub around : IsOpenFrom (piece_at text) outer_from from outer

-- a string that begins at a place, right in a group of numbers, is one that other readers take for
-- an octal number
pub record IsOctal (text : List ℕ) (n place : ℕ) : Type 0 where
  pub string : PlacedText
  pub at : ℕ
  pub stands : IsString text n place string at
  pub group : OpenGroup
  pub is_open : IsOpenAt (piece_at text) at group
  pub numbers : (group.named ≡ named.Integer) ⊎ (group.named ≡ named.IntVector)
  pub octal : is_octal (unsigned string.bytes) ≡ true

-- a string that begins at a place, right in a group of one integer, is a number that 28 bits don't
-- hold, of which this is kept
pub record IsCut (text : List ℕ) (n : ℕ) (kept : ℤ) (place : ℕ) : Type 0 where
  pub string : PlacedText
  pub at : ℕ
  pub stands : IsString text n place string at
  pub group : OpenGroup
  pub is_open : IsOpenAt (piece_at text) at group
  pub integer : group.named ≡ named.Integer
  pub is_cut : cut (is_negative string.bytes) (number_of (unsigned string.bytes)) ≡ Some kept

-- a warning for this reason is due at a place, for the pieces whose last byte is one of the first n
-- of a text
abbrev pub IsDue : List ℕ → ℕ → Reason → ℕ → Type 0
IsDue text n (reason.RepeatedKey first) place = RepeatsKey text n place first
IsDue text n reason.Backslash place = (place < n) × IsFirstBackslash text place
IsDue text n reason.StringsInRow place = IsInRow text n place
IsDue text n reason.CommaBehindPairs place = IsBehindPairs text n place
IsDue text n reason.LoneString place = IsLone text n place
IsDue text n reason.EmptyGroup place = IsEmpty text n place
IsDue text n reason.LeadingZero place = IsOctal text n place
IsDue text n (reason.CutNumber kept) place = IsCut text n kept place
IsDue text n reason.JoinedOverLine place = ⊥
IsDue text n reason.UnquotedGroup place = ⊥
IsDue text n reason.OctalNumber place = ⊥
IsDue text n reason.UnknownEscape place = ⊥
IsDue text n reason.TextBehind place = ⊥
IsDue text n reason.MixedQuotes place = ⊥

-- a key that a warning is about stands in the innermost group that is open behind the first n bytes
-- of a text of ICU's form, with one before it that is spelled the same
pub record RepeatsIcuKey (text : List ℕ) (n : ℕ) (w : Warning) : Type 0 where
  pub group : OpenGroup
  pub is_open : IsOpenAt (icu_piece_at text) n group
  pub first : ℕ
  pub reason : w.reason ≡ reason.RepeatedKey first
  pub repeats : Repeats group w.place first
