-- Laws of braces, groups and warnings: what the words of the contracts say, apart from the walks by
-- which they say it.
use Rattle.std.specs.Prelude.{◌≡◌, ◌≢◌, ◌<◌, ◌≤◌, ◌↔◌, ℕ, true, AllPairs, List, Option}
use Rattle.std.specs.Prelude.{Contains, length}
use Rattle.resb_diagnostics.specs.Braces.{plain_form, icu_form, innermost_open, innermost_icu_open}
use Rattle.resb_diagnostics.specs.Partners.{IsInnermost, ArePartners}
use Rattle.resb_diagnostics.specs.Clues.{long_string_in, outdent_in}
use Rattle.resb_diagnostics.specs.Hints.{IsLastLong, IsFirstOutdent}
use Rattle.resb_diagnostics.specs.Pieces.{piece_at}
use Rattle.resb_diagnostics.specs.Groups.{OpenGroup, groups_at}
use Rattle.resb_diagnostics.specs.IcuKeys.{icu_piece_at, icu_groups_at, icu_repeated}
use Rattle.resb_diagnostics.specs.Items.{IsOpenAt, IsGroup, IsIcuGroup, EndsGroups}
use Rattle.resb_diagnostics.specs.Warnings.{is_first_backslash, warned}
use Rattle.resb_diagnostics.specs.IcuCauses.{IsIcuDue}
use Rattle.resb_diagnostics.specs.IcuWarnings.{icu_warned}
use Rattle.resb_diagnostics.specs.Causes.{IsFirstBackslash, IsDue, RepeatsIcuKey}
use Rattle.resb_diagnostics.specs.declared.warning.Warning.{Warning}

-- the brace that is found is the innermost one without a partner
abbrev pub FindsInnermost : Type 0
FindsInnermost = (text : List ℕ) → IsInnermost plain_form text (innermost_open text)

-- the same in a text of ICU's form
abbrev pub FindsIcuInnermost : Type 0
FindsIcuInnermost = (text : List ℕ) → IsInnermost icu_form text (innermost_icu_open text)

-- a text has one innermost brace without a partner, or has none
abbrev pub OneInnermost : Type 0
OneInnermost =
    (text : List ℕ) (a b : Option ℕ) → IsInnermost plain_form text a
    → IsInnermost plain_form text b → a ≡ b

-- the same in a text of ICU's form
abbrev pub OneIcuInnermost : Type 0
OneIcuInnermost =
    (text : List ℕ) (a b : Option ℕ) → IsInnermost icu_form text a
    → IsInnermost icu_form text b → a ≡ b

-- a `{` has at most one partner
abbrev pub OnePartner : Type 0
OnePartner =
    (text : List ℕ) (p q r : ℕ) → ArePartners plain_form text p q
    → ArePartners plain_form text p r → q ≡ r

-- the same in a text of ICU's form
abbrev pub OneIcuPartner : Type 0
OneIcuPartner =
    (text : List ℕ) (p q r : ℕ) → ArePartners icu_form text p q → ArePartners icu_form text p r
    → q ≡ r

-- the string that is found is the last one that has a line feed before a place
abbrev pub FindsLongString : Type 0
FindsLongString =
    (text : List ℕ) (n : ℕ) → IsLastLong plain_form text n (long_string_in plain_form text n)

-- the same in a text of ICU's form
abbrev pub FindsIcuLongString : Type 0
FindsIcuLongString =
    (text : List ℕ) (n : ℕ) → IsLastLong icu_form text n (long_string_in icu_form text n)

-- the line that is found is the first of so many bytes of a text that is indented too little
abbrev pub FindsOutdent : Type 0
FindsOutdent =
    (text : List ℕ) (n : ℕ) → n ≤ length text
    → IsFirstOutdent plain_form text n (outdent_in plain_form text n)

-- the same in a text of ICU's form
abbrev pub FindsIcuOutdent : Type 0
FindsIcuOutdent =
    (text : List ℕ) (n : ℕ) → n ≤ length text
    → IsFirstOutdent icu_form text n (outdent_in icu_form text n)

-- the innermost group that is open at a place is the one between whose braces the place stands
abbrev pub KnowsGroups : Type 0
KnowsGroups =
    (text : List ℕ) (n : ℕ) (g : OpenGroup)
    → ((groups_at text n).inner ≡ g) ↔ IsOpenAt (piece_at text) n g

-- the same in a text of ICU's form, where a string in quotes is taken at its first quote
abbrev pub KnowsIcuGroups : Type 0
KnowsIcuGroups =
    (text : List ℕ) (n : ℕ) (g : OpenGroup)
    → ((icu_groups_at text n).inner ≡ g) ↔ IsOpenAt (icu_piece_at text) n g

-- a `{` and a `}` are partners exactly where they are the braces of a group
abbrev pub PartnersAreGroups : Type 0
PartnersAreGroups =
    (text : List ℕ) (p q : ℕ) → ArePartners plain_form text p q ↔ IsGroup text p q

-- the same in a text of ICU's form
abbrev pub IcuPartnersAreGroups : Type 0
IcuPartnersAreGroups =
    (text : List ℕ) (p q : ℕ) → ArePartners icu_form text p q ↔ IsIcuGroup text p q

-- the test of a first backslash holds where one stands, and nowhere else
abbrev pub FindsFirstBackslash : Type 0
FindsFirstBackslash =
    (text : List ℕ) (n : ℕ) → (is_first_backslash text n ≡ true) ↔ IsFirstBackslash text n

-- a warning is told of the first n bytes of a text exactly where it is due for what stands in them
abbrev pub TellsWhatIsDue : Type 0
TellsWhatIsDue =
    (text : List ℕ) (n : ℕ) (w : Warning)
    → Contains (warned text n) w ↔ IsDue text n w.reason w.place

-- where each `}` of the first n bytes ends a group, no warning is told of them twice
abbrev pub TellsOnce : Type 0
TellsOnce =
    (text : List ℕ) (n : ℕ) → EndsGroups text n → AllPairs (λ v w. v ≢ w) (warned text n)

-- of two warnings of the first n bytes of a text of ICU's form the one that is told first stands
-- before the other
abbrev pub TellsIcuInOrder : Type 0
TellsIcuInOrder =
    (text : List ℕ) (n : ℕ) → AllPairs (λ v w. v.place < w.place) (icu_warned text n)

-- no warning of the first n bytes of a text of ICU's form is told twice
abbrev pub TellsIcuOnce : Type 0
TellsIcuOnce = (text : List ℕ) (n : ℕ) → AllPairs (λ v w. v ≢ w) (icu_warned text n)

-- a key is told of the innermost group that is open behind the first n bytes of a text of ICU's
-- form exactly where one that is spelled the same stands before it there
abbrev pub TellsIcuRepeats : Type 0
TellsIcuRepeats =
    (text : List ℕ) (n : ℕ) (w : Warning)
    → Contains (icu_repeated text n) w ↔ RepeatsIcuKey text n w

-- of two keys that are told of such a group the one that is told first stands before the other
abbrev pub TellsIcuRepeatsInOrder : Type 0
TellsIcuRepeatsInOrder =
    (text : List ℕ) (n : ℕ) → AllPairs (λ v w. v.place < w.place) (icu_repeated text n)

-- no key of the innermost group that is open there is told twice
abbrev pub TellsIcuRepeatsOnce : Type 0
TellsIcuRepeatsOnce = (text : List ℕ) (n : ℕ) → AllPairs (λ v w. v ≢ w) (icu_repeated text n)

-- a warning is told of the first n bytes of a text of ICU's form exactly where it is due for what
-- stands in them
abbrev pub TellsWhatIsIcuDue : Type 0
TellsWhatIsIcuDue =
    (text : List ℕ) (n : ℕ) (w : Warning)
    → Contains (icu_warned text n) w ↔ IsIcuDue text n w.reason w.place
