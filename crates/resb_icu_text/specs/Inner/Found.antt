-- A string that was found in a text, of which nothing is made yet.
use Rattle.std.specs.Prelude.{◌≡◌, ◌+◌, ◌*◌, ◌<◌, ◌≤◌, ◌↔◌, ℕ, Bool, true, false, List, ◌∷◌}
use Rattle.std.specs.Prelude.{◌++◌, length, IsTrue}
use Rattle.resb_grammar.specs.Ascii as ascii
use Rattle.resb_icu_text.specs.Inner.Reach.{reach}
use Rattle.resb_icu_grammar.specs.Bytes.{are_key_bytes}
use Rattle.resb_icu_grammar.specs.Blanks.{Skip}
use Rattle.resb_icu_grammar.specs.Pieces.{Joined}
use Rattle.resb_icu_grammar.specs.Unquoted.{UnquotedRow}
use Rattle.resb_icu_grammar.specs.Words.{Part, Text, another_follows, KeyText, Verbatim}
use Rattle.resb_icu_text.specs.Lexemes.{bytes_said, may_be_key, stands_whole}
use Rattle.resb_icu_text.specs.declared.strings.Said.{Said}
use Rattle.resb_icu_text.specs.declared.strings.Found.{Found}
use Rattle.resb_icu_text.specs.declared.strings.Stands.{Stands}
use Rattle.resb_icu_text.specs.declared.strings.Stands.TheVariants as the

-- it has several parts
abbrev pub is_of_parts : Stands → Bool
is_of_parts (the.InParts n) = true
is_of_parts _ = false

-- how many bytes it says
abbrev pub length_of : Stands → ℕ
length_of (the.Whole s) = length s.now
length_of (the.InPieces n) = n
length_of (the.InRow n) = n
length_of (the.InParts n) = n

-- it may be a key
abbrev pub fits_key : Stands → Bool
fits_key (the.Whole s) = are_key_bytes s.now
fits_key (the.InPieces n) = false
fits_key (the.InRow n) = false
fits_key (the.InParts n) = false

-- it is a slice of the text
abbrev pub is_whole : Stands → Bool
is_whole (the.Whole s) = true
is_whole (the.InPieces n) = false
is_whole (the.InRow n) = false
is_whole (the.InParts n) = false

-- a string of several parts stands between these places
pub record OfParts (text : List ℕ) (from to : ℕ) (said : List ℕ) : Type 0 where
  pub mid : ℕ
  pub next : ℕ
  pub first : List ℕ
  pub later : List ℕ
  pub part : Part text from mid first
  pub after : Skip text mid next
  pub more : another_follows text from first next ≡ true
  pub rest : Text text next to later
  pub means : said ≡ first ++ ascii.space ∷ later

-- what it says: the slice, or what the quoted pieces, unquoted strings or parts between these places
-- say
abbrev pub Shows : List ℕ → ℕ → ℕ → List ℕ → Stands → Type 0
Shows text from end said (the.Whole s) = s.now ≡ said
Shows text from end said (the.InPieces n) = (n ≡ length said) × Joined text from end said
Shows text from end said (the.InRow n) = (n ≡ length said) × UnquotedRow text from end said
Shows text from end said (the.InParts n) = (n ≡ length said) × OfParts text from end said

-- a part of a string stands there, and blanks behind it; it says no more bytes than it has, and a
-- reading that looked at it has looked up to its place, and then behind the blanks
pub record IsPart (text : List ℕ) (from : ℕ) (f : Found) : Type 0 where
  pub said : List ℕ
  pub shows : Shows text from f.end said f.stands
  pub part : Part text from f.end said
  pub slice : IsTrue (is_whole f.stands) ↔ Verbatim text from f.end said
  pub blanks : Skip text f.end f.next
  pub after : from < f.end
  pub order : f.end ≤ f.next
  pub fits : f.next ≤ length text
  pub counted : length said ≡ length_of f.stands
  pub short : length said + from ≤ f.end
  pub here : reach text from ≡ from
  pub low : f.next ≤ reach text f.next
  pub high : reach text f.next ≤ length text

-- a string stands there, whether it may be a key, and blanks behind it; it says no more bytes than
-- it has, and a reading that looked at it has looked up to its place, and then behind the blanks
pub record IsFound (text : List ℕ) (from : ℕ) (f : Found) : Type 0 where
  pub said : List ℕ
  pub shows : Shows text from f.end said f.stands
  pub string : Text text from f.end said
  pub key : IsTrue (fits_key f.stands) ↔ KeyText text from f.end said
  pub slice : IsTrue (is_whole f.stands) ↔ Verbatim text from f.end said
  pub blanks : Skip text f.end f.next
  pub after : from < f.end
  pub order : f.end ≤ f.next
  pub fits : f.next ≤ length text
  pub counted : length said ≡ length_of f.stands
  pub short : length said + from ≤ f.end
  pub here : reach text from ≡ from
  pub low : f.next ≤ reach text f.next
  pub high : reach text f.next ≤ length text

-- this is what it says, whole or put together
pub record IsSaid (text : List ℕ) (from : ℕ) (f : Found) (s : Said) : Type 0 where
  pub bytes : (is : IsFound text from f) → bytes_said s ≡ is.said
  pub key : may_be_key s ≡ fits_key f.stands
  pub whole : stands_whole s ≡ is_whole f.stands

-- how many turns it takes to make it, of so many bytes: two for each of what is put together
abbrev pub turns_to_make : ℕ → Stands → ℕ
turns_to_make bytes (the.Whole s) = 0
turns_to_make bytes (the.InPieces n) = 2 * bytes
turns_to_make bytes (the.InRow n) = 2 * bytes
turns_to_make bytes (the.InParts n) = 2 * bytes
