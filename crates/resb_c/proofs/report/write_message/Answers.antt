-- What is printed, cut, stands at the front of the zeros.
use Rattle.std.proofs.Common.{ℕ, List, ◌≡◌, ◌∙◌, ap, subst, inl, inr, Result}
use Rattle.std.proofs.Common.{Ok, Err, take, replicate}
use Rattle.resb_c.specs.Calls.{IsMessage, Fills}
use Rattle.resb_c.proofs.report.write_message.Goals as goal
use Rattle.resb_format.proofs.Lists.{take_within}

-- a text that is filled in is the message of a fault that prints it
is_message : (printed text out : List ℕ) (r : Result ℕ ℕ) → text ≡ printed
    → Fills (take 255 text) (replicate 256 0) out r → IsMessage printed out
is_message printed text out (Ok n) told filled =
    inl (n, subst (λ t. Fills (take 255 t) (replicate 256 0) out (Ok n)) told filled)
is_message printed text out (Err n) told filled = inr filled.2

-- src/report.rt:22:1
pub returns-in-Ok : goal.returns-in-Ok
returns-in-Ok c =
    let bytes : List ℕ = c.as_bytes-bytes.result.now in
    let cut : take c.min.result bytes ≡ take 255 bytes =
    ap (λ n. take n bytes) c.min.ensures ∙ take_within bytes 255 in
    let front = cut ∙ ap (take 255) c.as_bytes-bytes.ensures.value in
    is_message _ _ _ c.fill.result c.in-Ok.ensures.ok
    (subst (λ t. Fills t (replicate 256 0) c.fill.new.out c.fill.result) front c.fill.ensures)
