use Rattle.std.proofs.Common.{◌≡◌, ℕ, List, ◌++◌, ◌∙◌, ap, append_assoc, refl}
use Rattle.std.proofs.Common.{Bool, true, false, not, if◌then◌else◌}
use Rattle.std.proofs.lemmas.Result.{on_ok_weaker}
use Rattle.resb_head.specs.Head.{index_words}
use Rattle.resb_layout.specs.Laid.{words}
use Rattle.resb_layout.specs.WrittenHead.{header_of}
use Rattle.resb_lent.specs.HeadWithPool.{version_with}
use Rattle.resb_lent.proofs.head_with_pool.HeadWithPool.append_to.Goals as goal

three : {b c d : List ℕ} (a h r i : List ℕ) → b ≡ a ++ h → c ≡ b ++ r → d ≡ c ++ i
    → d ≡ a ++ (h ++ (r ++ i))
three a h r i f g k =
    k ∙ ap (λ l. l ++ i) (g ∙ ap (λ l. l ++ r) f) ∙ append_assoc (a ++ h) r i
    ∙ append_assoc a h (r ++ i)

-- 3 where a choice is no, said the other way round
second_else_third : (b : Bool) → ◌≡◌ {A = ℕ} (if not b then 3 else 2) (if b then 2 else 3)
second_else_third true = refl
second_else_third false = refl

pub returns : goal.returns
returns c =
    let head = header_of (version_with c.args.self.now.limit) in
    on_ok_weaker c.append_to.result (λ h.
    three c.args.file.now.items head _ (words (index_words c.index-index.result))
    (c.in_ok-append_header.ensures
    ∙ ap (λ n. c.args.file.now.items ++ header_of n) (second_else_third _))
    c.in_ok-extend_from_slice.ensures.items h
    ∙ ap (λ l. c.args.file.now.items ++ (head ++ (l ++ words (index_words c.index-index.result))))
    c.to_le_bytes.ensures
    ∙ ap (λ ws. c.args.file.now.items ++ (head ++ words ws)) c.index-index.ensures)
    c.append_to.ensures
