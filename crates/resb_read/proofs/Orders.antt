-- How bytes stand to others from a place of both on, one byte at a time.
use Rattle.std.proofs.Common.{ℕ, List, [], ◌∷◌, ◌≡◌, ◌+◌, ◌<◌, ◌≤◌, ◌==◌, if◌then◌else◌}
use Rattle.std.proofs.Common.{sym, ◌∙◌, ap, drop, length, arith, ◌≢◌, get_or}
use Rattle.std.proofs.lemmas.List.{drop_more, drop_all}
use Rattle.std.specs.Ordering.{nat_cmp}
use Rattle.std.specs.declared.cmp.Ordering.TheVariants.{Less, Equal, Greater}
use Rattle.resb_read.specs.Inner.Naming.{order_ended}

both_first : (ws bs : List ℕ) (n : ℕ) → n < length ws → n < length bs
    → order_ended (drop n ws) (drop n bs)
    ≡ order_ended (get_or ws n 0 ∷ drop (n + 1) ws) (get_or bs n 0 ∷ drop (n + 1) bs)
both_first ws bs n h k =
    ap (λ l. order_ended l (drop n bs)) (drop_more ws n 0 h)
    ∙ ap (order_ended (get_or ws n 0 ∷ drop (n + 1) ws)) (drop_more bs n 0 k)

pub order_zero : (ws bs : List ℕ) (n : ℕ) → n < length ws → n < length bs → get_or bs n 0 ≡ 0
    → order_ended (drop n ws) (drop n bs) ≡ Greater
order_zero ws bs n h k e =
    both_first ws bs n h k
    ∙ ap (λ b. order_ended (get_or ws n 0 ∷ drop (n + 1) ws) (b ∷ drop (n + 1) bs)) e

unlike : (w b : ℕ) (ws bs : List ℕ) → w ≢ b → order_ended (w ∷ ws) (b ∷ bs) ≡ nat_cmp w b
unlike w b ws bs k = grind arith

pub order_differs : (ws bs : List ℕ) (n : ℕ) → n < length ws → n < length bs
    → get_or ws n 0 ≢ get_or bs n 0
    → order_ended (drop n ws) (drop n bs) ≡ nat_cmp (get_or ws n 0) (get_or bs n 0)
order_differs ws bs n h k d =
    both_first ws bs n h k
    ∙ unlike (get_or ws n 0) (get_or bs n 0) (drop (n + 1) ws) (drop (n + 1) bs) d

alike : (w b : ℕ) (ws bs : List ℕ) → b ≢ 0 → w ≡ b
    → order_ended (w ∷ ws) (b ∷ bs) ≡ order_ended ws bs
alike w b ws bs h k = grind arith

pub order_more : (ws bs : List ℕ) (n : ℕ) → n < length ws → n < length bs
    → get_or bs n 0 ≢ 0 → get_or ws n 0 ≡ get_or bs n 0
    → order_ended (drop (n + 1) ws) (drop (n + 1) bs) ≡ order_ended (drop n ws) (drop n bs)
order_more ws bs n h k e d =
    sym (both_first ws bs n h k
    ∙ alike (get_or ws n 0) (get_or bs n 0) (drop (n + 1) ws) (drop (n + 1) bs) e d)

pub order_past : (ws bs : List ℕ) (n : ℕ) → length bs ≤ n
    → order_ended (drop n ws) (drop n bs) ≡ Greater
order_past ws bs n h = ap (order_ended (drop n ws)) (drop_all n bs h)

last_first : (ws bs : List ℕ) (n : ℕ) → length ws ≤ n → n < length bs
    → order_ended (drop n ws) (drop n bs) ≡ (if get_or bs n 0 == 0 then Equal else Less)
last_first ws bs n h k =
    ap (λ l. order_ended l (drop n bs)) (drop_all n ws h)
    ∙ ap (order_ended []) (drop_more bs n 0 k)

pub order_ends : (ws bs : List ℕ) (n : ℕ) → length ws ≤ n → n < length bs → get_or bs n 0 ≡ 0
    → order_ended (drop n ws) (drop n bs) ≡ Equal
order_ends ws bs n h k e = last_first ws bs n h k ∙ ap (λ b. if b == 0 then Equal else Less) e

below : (b : ℕ) → b ≢ 0 → (if b == 0 then Equal else Less) ≡ Less
below b h = grind arith

pub order_below : (ws bs : List ℕ) (n : ℕ) → length ws ≤ n → n < length bs → get_or bs n 0 ≢ 0
    → order_ended (drop n ws) (drop n bs) ≡ Less
order_below ws bs n h k e = last_first ws bs n h k ∙ below (get_or bs n 0) e

pub ruleset steps =
    (order_zero, order_differs, order_more, order_past, order_ends, order_below)
