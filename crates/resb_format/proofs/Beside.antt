-- What a file denotes that uses no pool, it denotes beside an empty pool too.
use Rattle.std.proofs.Common.{◌≡◌, ℕ, List, Bool, true, false, Option, Some, None, ap}
use Rattle.std.proofs.Common.{refl, ◌∙◌, subst, inl, inr, ◌≤◌, ◌<◌, length, rules, ◌==◌, cond}
use Rattle.std.proofs.Common.{◌+◌, ◌-◌, arith}
use Rattle.std.specs.Prelude.{◌/◌, ◌%◌, ◌^◌, option_map, if◌then◌else◌}
use Rattle.std.proofs.lemmas.Bool.{cases_lt, lt-ltb}
use Rattle.std.proofs.lemmas.Bool.Decides.{nat_tests}
use Rattle.std.proofs.lemmas.List.{drop_all}
use Rattle.resb_tree.specs.Tree.{Tree, string}
use Rattle.resb_format.specs.Lookups.{key_in, text_in, index_in, key_place_by, text_place_by}
use Rattle.resb_format.specs.Lookups.{index_by, position_in, place_behind, wide_position}
use Rattle.resb_format.specs.Parts.{Parts, Lent, no_pool, beside_no_pool}
use Rattle.resb_format.specs.Strings.{key_at, text_at}
use Rattle.resb_format.specs.Types as types
use Rattle.resb_format.specs.Descriptor.{type_number}
use Rattle.resb_format.specs.declared.repr_type.ResourceReprType.TheVariants as kind
use Rattle.resb_format.specs.Content.{Member, Content, leaf, list, entry_list, content_at}
use Rattle.resb_format.specs.Content.{placed, empty}
use Rattle.resb_format.specs.Denotes.{Den, den_leaf, den_list, den_entries, DenMember, den_word}
use Rattle.resb_format.specs.Denotes.{den_unit, DenEach, each_none, each_more, DenEntries}
use Rattle.resb_format.specs.Denotes.{entries_none, entries_more}

text_place_is : (block : List ℕ) (i : ℕ)
    → text_place_by (Some no_pool) block i ≡ text_place_by None block i
unfolding text_place_by
text_place_is block i = search rules

index_is : (u : ℕ) → index_by (Some no_pool) u ≡ index_by None u
unfolding index_by
index_is u = search rules

-- nothing stands behind the own keys
pub key_behind : (keys : List ℕ) (k : ℕ) → length keys ≤ k → key_at keys k ≡ None
unfolding key_at
key_behind keys k h = rw (drop_all k keys h) refl

key_place_is : (keys : List ℕ) (n : ℕ) (key : List ℕ) → key_at keys (position_in n) ≡ Some key
    → key_place_by (Some no_pool) keys n ≡ key_place_by None keys n
unfolding key_place_by
key_place_is keys n key e = elim (cases_lt (position_in n) (length keys)) [
  | inl h ↦ ap (λ b. cond b (keys, position_in n) (place_behind no_pool keys n))
      (lt-ltb (position_in n) (length keys) h)
  | inr h ↦ let none = key_behind keys (position_in n) h in absurd (cc)
]

-- the position that a number is, of 16 and of 32 bits
pub near_position : (k : ℕ) → k < 2 ^ 16 → position_in k ≡ k
near_position k h = grind (arith, nat_tests)

pub wide_position_back : (k : ℕ) → position_in (wide_position k) ≡ k
wide_position_back k = grind (arith, nat_tests)

-- what the first finds, the second finds too
abbrev Keeps : Option Content → Option Content → Type 0
Keeps x y = (c : Content) → x ≡ Some c → y ≡ Some c

keeps_if : (b : Bool) (x y v w : Option Content) → Keeps x v → Keeps y w
    → Keeps (if b then x else y) (if b then v else w)
keeps_if true x y v w h k = h
keeps_if false x y v w h k = k

keeps_same : (x : Option Content) → Keeps x x
keeps_same x c e = e

keeps_equal : (x y : Option Content) → y ≡ x → Keeps x y
keeps_equal x y same c e = same ∙ e

keeps_none : (y : Option Content) → Keeps None y
keeps_none y c e = absurd (cc)

module _ (body keys block : List ℕ) where
  -- the parts of a file that uses no pool
  abbrev own : Parts
  own = record { body = body; keys = keys; block = block; lent = None }

  abbrev wide : Parts
  wide = beside_no_pool own

  text_is : (i : ℕ) → text_in wide i ≡ text_in own i
  text_is i = ap (λ r. text_at r.0 r.1) (text_place_is block i)

  unit_is : (u : ℕ) → text_in wide (index_in wide u) ≡ text_in own (index_in own u)
  unit_is u = ap (text_in wide) (index_is u) ∙ text_is (index_in own u)

  key_is : (k : ℕ) (key : List ℕ) → key_in own k ≡ Some key → key_in wide k ≡ Some key
  unfolding key_place_by
  key_is k key e = ap (λ r. key_at r.0 r.1) (key_place_is keys k key e) ∙ e

  keeps_empty : (type : ℕ) → Keeps (empty own type) (empty wide type)
  keeps_empty type =
      keeps_if (type == type_number kind.Binary) _ _ _ _ (keeps_same _)
      (keeps_if (types.is_table type) _ _ _ _ (keeps_same _)
      (keeps_if (type == type_number kind.StringV2) _ _ _ _ (keeps_same _)
      (keeps_if (types.is_array type) _ _ _ _ (keeps_same _)
      (keeps_if (type == type_number kind.IntVector) _ _ _ _ (keeps_same _) (keeps_none _)))))

  keeps_placed : (type v : ℕ) → Keeps (placed own type v) (placed wide type v)
  keeps_placed type v =
      keeps_if (type == type_number kind.Binary) _ _ _ _ (keeps_same _)
      (keeps_if (type == type_number kind.Table) _ _ _ _ (keeps_same _)
      (keeps_if (type == type_number kind._Table32) _ _ _ _ (keeps_same _)
      (keeps_if (type == type_number kind.Table16) _ _ _ _ (keeps_same _)
      (keeps_if (type == type_number kind.StringV2) _ _ _ _
      (keeps_equal _ _ (ap (option_map (λ s. leaf (string s))) (text_is v)))
      (keeps_if (type == type_number kind.Array) _ _ _ _ (keeps_same _)
      (keeps_if (type == type_number kind.Array16) _ _ _ _ (keeps_same _)
      (keeps_if (type == type_number kind.IntVector) _ _ _ _ (keeps_same _) (keeps_none _))))))))

  content_is : (w : ℕ) → Keeps (content_at own w) (content_at wide w)
  unfolding content_at
  content_is w =
      keeps_if (w / 2 ^ 28 == type_number kind.Int) _ _ _ _ (keeps_same _)
      (keeps_if (w % 2 ^ 28 == 0) _ _ _ _ (keeps_empty (w / 2 ^ 28))
      (keeps_placed (w / 2 ^ 28) (w % 2 ^ 28)))

  mutual
    denoted : {w n : ℕ} {t : Tree} → Den own w t n → Den wide w t n
    denoted (den_leaf {w = w'} {t = t'} e) = den_leaf (content_is w' (leaf t') e)
    denoted (den_list {w = w'} {ms = ms'} e d) =
        den_list (content_is w' (list ms') e) (denoted_each d)
    denoted (den_entries {w = w'} {es = es'} e d) =
        den_entries (content_is w' (entry_list es') e) (denoted_entries d)

    denoted_member : {m : Member} {n : ℕ} {t : Tree} → DenMember own m t n → DenMember wide m t n
    denoted_member (den_word d) = den_word (denoted d)
    denoted_member (den_unit {u = u'} e) = den_unit (unit_is u' ∙ e)

    denoted_each : {ms : List Member} {n : ℕ} {ts : List Tree} → DenEach own ms ts n
        → DenEach wide ms ts n
    denoted_each each_none = each_none
    denoted_each (each_more d ds) = each_more (denoted_member d) (denoted_each ds)

    denoted_entries : {es : List (ℕ × Member)} {n : ℕ} {ts : List (List ℕ × Tree)}
        → DenEntries own es ts n → DenEntries wide es ts n
    denoted_entries entries_none = entries_none
    denoted_entries (entries_more {at = at'} {key = key'} k d ds) =
        entries_more (key_is at' key' k) (denoted_member d) (denoted_entries ds)

-- whatever a word denotes without a pool, it denotes beside an empty one
pub denoted_beside : (p : Parts) (w n : ℕ) (t : Tree) → p.lent ≡ None → Den p w t n
    → Den (beside_no_pool p) w t n
denoted_beside p w n t e d =
    let with_lent : Option Lent → Parts =
    λ l. record { body = p.body; keys = p.keys; block = p.block; lent = l } in
    denoted p.body p.keys p.block (subst (λ l. Den (with_lent l) w t n) e d)

-- where nothing is said of a pool, keys and texts are looked up among the file's own
pub looked_up_alone : (p : Parts) (k i : ℕ) → p.lent ≡ None
    → (k < 2 ^ 16 → key_in p k ≡ key_at p.keys k)
    × (key_in p (wide_position k) ≡ key_at p.keys k)
    × (text_in p i ≡ text_at p.block i)
unfolding key_place_by text_place_by
looked_up_alone p k i e = (
  λ near. alone k ∙ ap (key_at p.keys) (near_position k near),
  alone (wide_position k) ∙ ap (key_at p.keys) (wide_position_back k),
  ap (λ l. text_at (text_place_by l p.block i).0 (text_place_by l p.block i).1) e,
)
  where
    alone : (n : ℕ) → key_in p n ≡ key_at p.keys (position_in n)
    alone n = ap (λ l. key_at (key_place_by l p.keys n).0 (key_place_by l p.keys n).1) e
