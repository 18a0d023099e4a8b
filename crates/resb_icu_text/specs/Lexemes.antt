-- What a string's answer says.
use Rattle.std.specs.Prelude.{◌<◌, ◌≤◌, ◌↔◌, ℕ, Bool, true, false, List, length}
use Rattle.std.specs.Prelude.{IsTrue}
use Rattle.std.specs.String.{string_bytes}
use Rattle.resb_icu_grammar.specs.Bytes.{are_key_bytes}
use Rattle.resb_icu_grammar.specs.Blanks.{Skip}
use Rattle.resb_icu_grammar.specs.Words.{Text, KeyText, Verbatim}
use Rattle.resb_icu_text.specs.declared.strings.Said.{Said}
use Rattle.resb_icu_text.specs.declared.strings.Said.TheVariants as the
use Rattle.resb_icu_text.specs.declared.strings.Lexeme.{Lexeme}

-- the bytes that it says
abbrev pub bytes_said : Said → List ℕ
bytes_said (the.Slice s) = s.now
bytes_said (the.Built s) = string_bytes s

-- it may be a key
abbrev pub may_be_key : Said → Bool
may_be_key (the.Slice s) = are_key_bytes s.now
may_be_key (the.Built s) = false

-- what it says stands in the text as it is, and is a slice of it
abbrev pub stands_whole : Said → Bool
stands_whole (the.Slice s) = true
stands_whole (the.Built s) = false

-- a string stands there, with what it says, whether it may be a key, and blanks behind it
pub record IsLexeme (text : List ℕ) (from : ℕ) (l : Lexeme) : Type 0 where
  pub string : Text text from l.end (bytes_said l.said)
  pub key : IsTrue (may_be_key l.said) ↔ KeyText text from l.end (bytes_said l.said)
  pub slice : IsTrue (stands_whole l.said) ↔ Verbatim text from l.end (bytes_said l.said)
  pub blanks : Skip text l.end l.next
  pub after : from < l.end
  pub order : l.end ≤ l.next
  pub fits : l.next ≤ length text
