-- The parts of a file, one behind the other.
use Rattle.std.proofs.Common.{◌≡◌, ℕ, List, [], ◌++◌, length, ◌∙◌, ap, append_assoc}
use Rattle.std.proofs.Common.{arith}
use Rattle.std.specs.Int.{to_le_bytes, w32}
use Rattle.std.specs.List.{flat_map}
use Rattle.resb_format.specs.Bytes.{units_as_bytes}
use Rattle.resb_layout.specs.WrittenHead.{written_header}
use Rattle.resb_layout.specs.Written.{even}
use Rattle.resb_write.specs.Inner.Files.{keys_in_file}
use Rattle.resb_write.proofs.file.assemble.Goals as goal

front : {a b c d : List ℕ} (h r i : List ℕ) → a ≡ [] → b ≡ a ++ h → c ≡ b ++ r → d ≡ c ++ i
    → d ≡ h ++ (r ++ i)
front h r i e f g k =
    k ∙ ap (λ l. l ++ i) (g ∙ ap (λ l. l ++ r) (f ∙ ap (λ l. l ++ h) e)) ∙ append_assoc h r i

built : {a b c d : List ℕ} (h x k u t : List ℕ) → a ≡ h ++ x → b ≡ a ++ k → c ≡ b ++ u → d ≡ c ++ t
    → d ≡ h ++ (x ++ (k ++ (u ++ t)))
built h x k u t e f g m =
    m ∙ ap (λ l. l ++ t) (g ∙ ap (λ l. l ++ u) (f ∙ ap (λ l. l ++ k) e))
    ∙ append_assoc (h ++ x ++ k) u t ∙ append_assoc (h ++ x) k (u ++ t)
    ∙ append_assoc h x (k ++ (u ++ t))

pub append_block-requires : goal.append_block-requires
append_block-requires c =
    let root = to_le_bytes w32 c.args.parts.now.root in
    let index = ap (flat_map (to_le_bytes w32)) c.index_of-index.ensures in
    let all = front _ _ _ c.in_ok-file.ensures.items c.in_ok-append_header.ensures
    c.in_ok-extend_from_slice.ensures.items c.in_ok-append_to.ensures in
    let long = ap length (all ∙ (λ i. written_header ++ (c.to_le_bytes.ensures i ++ index i))) in
    omega (arith, long)

pub returns-clause-file : goal.returns-clause-file
returns-clause-file c =
    let index = ap (flat_map (to_le_bytes w32)) c.index_of-index.ensures in
    let begun = front _ _ _ c.in_ok-file.ensures.items c.in_ok-append_header.ensures
    c.in_ok-extend_from_slice.ensures.items c.in_ok-append_to.ensures in
    let all = built written_header _ _ _ _ begun c.in_ok-append_block.ensures
    c.in_ok-append_units.ensures.appends c.in_ok-extend_from_slice-2.ensures.items in
    all ∙ (λ i. written_header ++ ((c.to_le_bytes.ensures i ++ index i)
    ++ (keys_in_file c.args.parts.now ++ (units_as_bytes (even (c.deref.ensures.value i))
    ++ c.deref-2.ensures.value i))))
