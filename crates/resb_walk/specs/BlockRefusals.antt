-- What is answered where nothing stands at a place of a file: a kind and a message.
--     Says f e                      the error has this kind and message
--     block_text_refusal block u    where no text stands at unit u of the 16-bit block
--     block_key_refusal keys k      where no key stands at byte k of the key block
--     counted_refusal p v           where no text stands behind a count, at word v of the body
--     reads_type p n                whether the type is read
--     word_refusal p w              where nothing stands at the word w
use Rattle.std.specs.Prelude.{◌≡◌, ◌==◌, ◌&&◌, ◌||◌, ◌+◌, ◌*◌, ◌/◌, ◌%◌, ◌^◌, nat_lt, ℕ, List}
use Rattle.std.specs.Prelude.{length, drop, Bool, Option, is_some, codes, if◌then◌else◌}
use Rattle.resb_format.specs.Bytes.{units_of, words_of, part}
use Rattle.resb_format.specs.Content.{behind_count}
use Rattle.resb_format.specs.Error.{Refusal, invalid, unsupported, end_of_input, refusal_of}
use Rattle.resb_format.specs.Parts.{Parts, reads_older}
use Rattle.resb_format.specs.Lookups.{key_place, text_place}
use Rattle.resb_format.specs.Types as types
use Rattle.resb_format.specs.Descriptor.{type_number}
use Rattle.resb_format.specs.declared.repr_type.ResourceReprType.TheVariants as kind
use Rattle.resb_format.specs.StringMessage.{string_message}
use Rattle.resb_format.specs.Strings.{string_at, before_zero}
use Rattle.resb_format.specs.declared.error.ReadingError.{ReadingError}

-- the error is this refusal, by kind and message
abbrev pub Says : Refusal → ReadingError → Type 0
Says f e = refusal_of e ≡ f

-- why no text stands at a unit: no string, or one whose surrogates have no partners
abbrev pub block_text_refusal : List ℕ → ℕ → Refusal
block_text_refusal block u =
    if is_some (string_at block u) then invalid (codes "string resource is not valid UTF-16")
    else invalid (string_message block u)

-- why no key stands at a position: it lies past the block, no zero byte is behind it, or the bytes
-- before that one are no text
abbrev pub block_key_refusal : List ℕ → ℕ → Refusal
block_key_refusal keys k =
    if nat_lt (length keys) k then
    invalid (codes "unexpected end of data while deserializing key")
    else if is_some (before_zero (drop k keys)) then invalid (codes "key string is not valid UTF-8")
    else invalid (codes "unterminated key string")

-- why no text stands at an index
abbrev pub text_refusal_in : Parts → ℕ → Refusal
text_refusal_in p i = block_text_refusal (text_place p i).0 (text_place p i).1

-- why no key stands at a position
abbrev pub key_refusal_in : Parts → ℕ → Refusal
key_refusal_in p k = block_key_refusal (key_place p k).0 (key_place p k).1

-- the units behind the count at a word of the body, if they lie inside
abbrev pub counted_units : Parts → ℕ → Option (List ℕ)
counted_units p v =
    behind_count (words_of p.body) v (λ n. part (units_of p.body) (2 * v + 2) n)

-- why no text stands behind a count: count or units lie outside the body, or surrogates of the
-- units have no partners
abbrev pub counted_refusal : Parts → ℕ → Refusal
counted_refusal p v =
    if is_some (counted_units p v) then invalid (codes "string resource is not valid UTF-16")
    else end_of_input

-- the type is read: a string of the older form or an alias only where those are
abbrev pub reads_type : Parts → ℕ → Bool
reads_type p n = types.is_read_type n || (reads_older p && types.is_older_type n)

-- types whose value leads to a count and what is counted
abbrev pub is_counted_type : ℕ → Bool
is_counted_type n =
    ((n == type_number kind.Binary || types.is_table n) || types.is_array n)
    || n == type_number kind.IntVector

-- strings of the older form and aliases, where they aren't read; or a number that names no type
abbrev pub unread_type_refusal : ℕ → Refusal
unread_type_refusal type =
    if types.is_older_type type then unsupported (codes "resource type is not supported")
    else invalid (codes "unrecognized value for ResourceReprType")

-- what is said where nothing stands at a value of a type: of a string or an alias the fault of its
-- text, of others that the input ends
abbrev pub value_refusal : Parts → ℕ → ℕ → Refusal
value_refusal p type v =
    if type == type_number kind.StringV2 then text_refusal_in p v
    else if is_counted_type type then end_of_input
    else if reads_older p && types.is_older_type type then counted_refusal p v
    else unread_type_refusal type

-- what is said where a word leads to nothing
abbrev pub word_refusal : Parts → ℕ → Refusal
word_refusal p w = value_refusal p (w / 2 ^ 28) (w % 2 ^ 28)
