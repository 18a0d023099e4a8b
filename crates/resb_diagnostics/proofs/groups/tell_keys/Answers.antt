-- One key more is told of, if it stands before, or has its first place here.
use Rattle.std.proofs.Common.{◌≡◌, ◌∙◌, ◌++◌, ◌∷◌, [], ◌+◌, take, drop, ap, sym, arith}
use Rattle.std.proofs.Common.{get_or, nat_eq, cond, Some, None, append-nil}
use Rattle.std.specs.Prelude.{map}
use Rattle.std.specs.Cmp.Lexicographic.{pointwise}
use Rattle.std.proofs.lemmas.List.{map-append, take_more, drop_more}
use Rattle.std.proofs.lemmas.Map.Text.{hash_map_updates_str}
use Rattle.indexmap.specs.IndexMap.{get_by}
use Rattle.resb_diagnostics.specs.Warnings.{of_key, of_keys, first_place}
use Rattle.resb_diagnostics.specs.Inner.Looks.{placed_text_of}
use Rattle.resb_diagnostics.specs.declared.text_pieces.StringAt.{StringAt}
use Rattle.resb_diagnostics.proofs.KeysLemmas.{keys_told, first_stays, first_moves}
use Rattle.resb_diagnostics.proofs.groups.tell_keys.Goals as goal
use Rattle.resb_diagnostics.proofs.groups.tell_keys.Goals.{in-Some+in_ok-push-in-Some}
use Rattle.resb_diagnostics.proofs.groups.tell_keys.Goals.{in-None+in_ok-insert-in-None}

pub loop-key-preserved : goal.loop-key-preserved
loop-key-preserved c =
    let xs = c.args.keys.now in
    let i = c.loop-key.key-index in
    let d : StringAt = record { content = record { ref_ptr = (0, 0); now = [] }; place = 0 } in
    let x = get_or xs i d in
    let k = placed_text_of x in
    let before = map placed_text_of (take i xs) in
    let after = map placed_text_of (drop (i + 1) xs) in
    let found = c.loop-key.found.items in
    let t : map placed_text_of (take (i + 1) xs) ≡ before ++ k ∷ [] =
    ap (map placed_text_of) (take_more xs i d (omega arith))
    ∙ map-append placed_text_of (take i xs) (x ∷ []) in
    let r : map placed_text_of (drop i xs) ≡ k ∷ after =
    ap (map placed_text_of) (drop_more xs i d (omega arith)) in
    let told = ap (λ l. found ++ of_keys before l) (sym r) ∙ c.loop-key.invariant.found in
    elim c.match-get.branch [
      | in-Some+in_ok-push-in-Some w ↦
          let have : first_place k.bytes before ≡ Some w.in-Some.first.now =
          sym (c.loop-key.invariant.seen k.bytes) ∙ sym w.in-Some.ensures.value in
          record {
            found = ap (λ b. c.match-get.found.items ++ of_keys b after) t
                ∙ keys_told found c.match-get.found.items _ before after k told
                (ap (λ v. v.items) w.found-is ∙ w.in_ok-push-in-Some.ensures.items
                ∙ ap (λ o. found ++ of_key k.place o) (sym have));
            seen = λ q. ap (λ m. get_by (λ j. pointwise nat_eq q j.now) m) w.seen-is
                ∙ c.loop-key.invariant.seen q
                ∙ sym (first_stays q before k w.in-Some.first.now have)
                ∙ ap (first_place q) (sym t);
          }
      | in-None+in_ok-insert-in-None w ↦
          let have : first_place k.bytes before ≡ None =
          sym (c.loop-key.invariant.seen k.bytes) ∙ sym w.in-None.ensures.value in
          record {
            found = ap (λ b. c.match-get.found.items ++ of_keys b after) t
                ∙ keys_told found c.match-get.found.items _ before after k told
                (ap (λ v. v.items) w.found-is ∙ sym (append-nil found)
                ∙ ap (λ o. found ++ of_key k.place o) (sym have));
            seen = λ q. ap (λ m. get_by (λ j. pointwise nat_eq q j.now) m) w.seen-is
                ∙ hash_map_updates_str k.bytes c.loop-key.seen w.insert.new.self _
                w.in_ok-insert-in-None.ensures.updates q
                ∙ ap (cond (pointwise nat_eq k.bytes q) (Some k.place))
                (c.loop-key.invariant.seen q)
                ∙ sym (first_moves q before k have) ∙ ap (first_place q) (sym t);
          }
    ]
