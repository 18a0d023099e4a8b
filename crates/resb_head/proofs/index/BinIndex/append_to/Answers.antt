-- The fields stand one behind the other.
use Rattle.std.proofs.Common.{ℕ, List, ◌++◌, ◌≡◌, Option, ap, sym, ◌∙◌, append_assoc}
use Rattle.std.specs.Int.{to_le_bytes, w32}
use Rattle.std.specs.List.{flat_map}
use Rattle.std.specs.Option.{option_to_list}
use Rattle.std.proofs.lemmas.Grind.{flat_map-append}
use Rattle.resb_head.proofs.index.BinIndex.append_to.Goals as goal

appended_twice : (o p xs ys q : List ℕ) → p ≡ o ++ xs → q ≡ p ++ ys → q ≡ o ++ (xs ++ ys)
appended_twice o p xs ys q e f = f ∙ ap (λ l. l ++ ys) e ∙ append_assoc o xs ys

abbrev bytes : Option ℕ → List ℕ
bytes o = flat_map (to_le_bytes w32) (option_to_list o)

three : (x y z : Option ℕ)
    → (bytes x ++ bytes y) ++ bytes z
    ≡ flat_map (to_le_bytes w32) ((option_to_list x ++ option_to_list y) ++ option_to_list z)
three x y z =
    ap (λ l. l ++ bytes z)
    (sym (flat_map-append (to_le_bytes w32) (option_to_list x) (option_to_list y)))
    ∙ sym (flat_map-append (to_le_bytes w32) (option_to_list x ++ option_to_list y)
    (option_to_list z))

pub returns : goal.returns
returns c =
    let o = c.args.bytes.now.items in
    let i = c.args.self.now in
    let e1 = c.in_ok-append_word.ensures in
    let e2 = appended_twice o _ _ _ _ e1 c.in_ok-append_word-2.ensures in
    let e3 = appended_twice o _ _ _ _ e2 c.in_ok-append_word-3.ensures in
    let e4 = appended_twice o _ _ _ _ e3 c.in_ok-append_word-4.ensures in
    let e5 = appended_twice o _ _ _ _ e4 c.in_ok-append_word-5.ensures in
    let e6 = appended_twice o _ _ _ _ e5 c.in_ok-append_field.ensures in
    let e7 = appended_twice o _ _ _ _ e6 c.in_ok-append_field-2.ensures in
    let e8 = appended_twice o _ _ _ _ e7 c.in_ok-append_field-3.ensures in
    e8 ∙ ap (λ l.
    o ++ (to_le_bytes w32 i.field_count
    ++ (to_le_bytes w32 i.keys_end
    ++ (to_le_bytes w32 i.resources_end
    ++ (to_le_bytes w32 i.bundle_end ++ (to_le_bytes w32 i.largest_table_entry_count ++ l))))))
    (three i.bundle_attributes i.data_16_bit_end i.pool_checksum)
