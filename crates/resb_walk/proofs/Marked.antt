-- Strings with a marker, by where their units begin and how many there are.
use Rattle.std.proofs.Common.{refl, ℕ, List, ◌≡◌, ◌+◌, ◌≤◌, length, take, drop, get_or}
use Rattle.std.proofs.Common.{Some, Ok, Err}
use Rattle.std.proofs.Common.{Option, false, encode_utf8_all, sym, ◌∙◌, subst}
use Rattle.std.specs.Prelude.{Result, IfSome, MatchResult}
use Rattle.std.specs.Result.{result_ok}
use Rattle.std.specs.Char.Utf16.{has_unpaired_surrogate, utf16_lossy_chars}
use Rattle.resb_format.specs.Bytes.{part}
use Rattle.resb_format.specs.declared.error.ReadingError.{ReadingError}
use Rattle.resb_format.specs.Strings.{string_from, string_at, text_at}
use Rattle.resb_format.proofs.StringsIn.{at_marker}
use Rattle.resb_format.proofs.Inside.{part_in}
use Rattle.resb_blocks.specs.Wide.{text_width}
use Rattle.resb_walk.proofs.Counted.{spelled_width}

-- where the units behind a marker lie inside the block, they are those of the string
pub marked_here : (Q : ReadingError → Type 0) (us : List ℕ) (u first : ℕ)
    (r : Result (ℕ × ℕ) ReadingError) (o : Option (ℕ × ℕ)) → first ≡ get_or us u 0
    → MatchResult r (λ p. string_from us u first ≡ part us p.0 p.1) Q → o ≡ result_ok r
    → IfSome o (λ p. p.0 + p.1 ≤ length us → string_at us u ≡ Some (take p.1 (drop p.0 us)))
marked_here Q us u first (Ok p) o e h i =
    subst (λ z. IfSome z (λ q. q.0 + q.1 ≤ length us
    → string_at us u ≡ Some (take q.1 (drop q.0 us)))) (sym i)
    (λ l. at_marker us u first e ∙ h ∙ part_in us p.0 p.1 l)
marked_here Q us u first (Err x) o e h i =
    subst (λ z. IfSome z (λ q. q.0 + q.1 ≤ length us
    → string_at us u ≡ Some (take q.1 (drop q.0 us)))) (sym i) tt

-- a string whose units are known to be well-formed
pub known_is_text : (block : List ℕ) (u i n : ℕ) → i + n ≤ length block
    → (i + n ≤ length block → string_at block u ≡ Some (take n (drop i block)))
    → has_unpaired_surrogate (take n (drop i block)) ≡ false
    → (text : List ℕ) × (text_at block u ≡ Some text)
unfolding text_at
known_is_text block u i n l at well =
    (encode_utf8_all (utf16_lossy_chars (take n (drop i block))), rw (at l, well) refl)

-- the bytes of the text of such a string
pub marked_width : (block : List ℕ) (u i n : ℕ) (s : List ℕ)
    → string_at block u ≡ Some (take n (drop i block)) → text_at block u ≡ Some s
    → length s ≡ text_width (take n (drop i block))
unfolding text_at
marked_width block u i n s at e = spelled_width (take n (drop i block)) s (rw at at e)
