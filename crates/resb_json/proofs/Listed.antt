-- A table's entries, whose keys ascend, are the members of its object one behind the other.
use Rattle.std.specs.Prelude.{◌≡◌, ℕ, List, ◌&&◌, Bool, true, false, T}
use Rattle.std.specs.Ordering.{ordering_reverse, is_lt}
use Rattle.std.specs.Cmp.Lexicographic.{nat_list_cmp_total}
use Rattle.std.specs.FinMap.Entries as fin
use Rattle.std.proofs.Common.{Ordering, Less, Equal, Greater, refl, sym, ap, ◌∙◌}
use Rattle.serde_json.specs.Data.{Data, Members, no_members, member, put}
use Rattle.resb_tree.specs.Tree.{Entries, no_entries, entry}
use Rattle.resb_tree.specs.Maps.{IsMap, text_cmp, keyed_trees}
use Rattle.resb_json.specs.Json.{json_of, entries_json}
use Rattle.resb_json.specs.Inner.Jobs.{listed_json}

-- members one behind the other
abbrev join : Members → Members → Members
join no_members ns = ns
join (member k d ms) ns = member k d (join ms ns)

join_none : (ms : Members) → join ms no_members ≡ ms
join_none no_members = refl
join_none (member k d ms) = ap (member k d) (join_none ms)

join_assoc : (ls ms ns : Members) → join (join ls ms) ns ≡ join ls (join ms ns)
join_assoc no_members ms ns = refl
join_assoc (member k d ls) ms ns = ap (member k d) (join_assoc ls ms ns)

-- the key is above those of the members
abbrev IsAbove : List ℕ → Members → Type 0
IsAbove k no_members = Unit {0}
IsAbove k (member l d ms) = (text_cmp k l ≡ Greater) × IsAbove k ms

-- so is each key of the entries
abbrev AreAbove : Entries → Members → Type 0
AreAbove no_entries ms = Unit {0}
AreAbove (entry k t es) ms = IsAbove k ms × AreAbove es ms

-- what is put at such a key comes last
put_last : (k : List ℕ) (d : Data) (ms : Members) → IsAbove k ms
    → put k d ms ≡ join ms (member k d no_members)
put_last k d no_members h = refl
put_last k d (member l e ms) h = rw h.0 (ap (member l e) (put_last k d ms h.1))

above_last : (k l : List ℕ) (d : Data) (ms : Members) → IsAbove l ms → text_cmp k l ≡ Less
    → IsAbove l (join ms (member k d no_members))
above_last k l d no_members h e =
    (nat_list_cmp_total.antisymm l k ∙ ap ordering_reverse e, tt)
above_last k l d (member m f ms) h e = (h.0, above_last k l d ms h.1 e)

is_less : (o : Ordering) → T (is_lt o) → o ≡ Less
is_less Less h = refl
is_less Equal h = absurd h
is_less Greater h = absurd h

both_parts : (a b : Bool) → T (a && b) → T a × T b
both_parts true b h = (tt, h)
both_parts false b h = absurd h

-- keys above another are above it where it is put last
all_above : (k : List ℕ) (d : Data) (es : Entries) (ms : Members) → AreAbove es ms
    → T (fin.below_all text_cmp k (keyed_trees es))
    → AreAbove es (join ms (member k d no_members))
all_above k d no_entries ms h b = tt
all_above k d (entry l t es) ms h b =
    let parts = both_parts (is_lt (text_cmp k l)) _ b in (
      above_last k l d ms h.0 (is_less (text_cmp k l) parts.0),
      all_above k d es ms h.1 parts.1,
    )

put_behind : (ms : Members) (es : Entries) → AreAbove es ms → IsMap es
    → entries_json ms es ≡ join ms (listed_json es)
put_behind ms no_entries h sorted = sym (join_none ms)
put_behind ms (entry k t es) h sorted =
    let parts = both_parts (fin.below_all text_cmp k (keyed_trees es)) _ sorted in
    let last = join ms (member k (json_of t) no_members) in
    ap (λ ns. entries_json ns es) (put_last k (json_of t) ms h.0)
    ∙ put_behind last es (all_above k (json_of t) es ms h.1 parts.0) parts.1
    ∙ join_assoc ms (member k (json_of t) no_members) (listed_json es)

none_above : (es : Entries) → AreAbove es no_members
none_above no_entries = tt
none_above (entry k t es) = (tt, none_above es)

-- a table is put one entry behind the other
pub put_is_listed : (es : Entries) → IsMap es → entries_json no_members es ≡ listed_json es
put_is_listed es sorted = put_behind no_members es (none_above es) sorted
