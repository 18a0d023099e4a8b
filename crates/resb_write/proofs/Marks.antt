-- The marks of resources that were counted, as a stack.
use Rattle.std.proofs.Common.{◌≡◌, ℕ, ◌+◌, ◌-◌, ◌*◌, ◌≤◌, ◌&&◌, List, [], ◌∷◌, ◌++◌, length, map}
use Rattle.std.proofs.Common.{take, Option}
use Rattle.std.proofs.Common.{drop, Bool, true, false, nat_le, nat_lt, if◌then◌else◌, refl, sym}
use Rattle.std.proofs.Common.{◌∙◌, ap, append-nil, arith}
use Rattle.std.specs.List.{list_all}
use Rattle.std.proofs.Math.Seq.{drop-append_seam, take-append_seam}
use Rattle.std.proofs.lemmas.List.{length-append, length-map, map-append, map_push}
use Rattle.std.proofs.lemmas.List.Folds.{list_all-map}
use Rattle.resb_tree.specs.Tree.{Tree, string, alias, array, table, binary, integer, int_vector}
use Rattle.resb_tree.specs.Tree.{Trees, Entries}
use Rattle.resb_tree.specs.LayingOrder.{array_members, values_of, children, entry_keys}
use Rattle.resb_layout.specs.Laid.{Given, Lends, are_near, nears_by, short_by}
use Rattle.resb_write.specs.Inner.Room.{GivesInTurn, most_units}
use Rattle.resb_write.specs.Inner.Counted.{fits_unit, is_near, are_near_strings, short_units}
use Rattle.resb_write.specs.Inner.Counted.{own_units, are_set_behind, CountsOne}
use Rattle.resb_write.specs.declared.sites.Coming.{Coming}
use Rattle.resb_write.proofs.Counting.{near_keys}
use Rattle.resb_write.proofs.KeyViews.{keys_values}
use Rattle.resb_write.proofs.PlacesLeft.{behind_string, string_left, table_known, table_left}

module _ (lent : Option Lends) (g : Given) (below ts : List Tree) (n : ℕ) (marks : List Bool)
    (many : length ts ≡ n)
    (are : marks ≡ map (is_near lent g) (below ++ ts)) where
  seam : length marks - n ≡ length (map (is_near lent g) below)
  seam = omega (
    arith,
    ap length are,
    length-map (below ++ ts) (is_near lent g),
    length-append below ts,
    length-map below (is_near lent g),
    many,
  )

  marks_of_both : marks ≡ map (is_near lent g) below ++ map (is_near lent g) ts
  marks_of_both = are ∙ map-append (is_near lent g) below ts

  pub all_near : are_set_behind n marks ≡ are_near_strings lent g ts
  all_near =
      let last : drop (length marks - n) marks ≡ map (is_near lent g) ts =
      (λ i. drop (seam i) (marks_of_both i))
      ∙ drop-append_seam (map (is_near lent g) below) (map (is_near lent g) ts) in
      let all : list_all (λ mark. mark) (drop (length marks - n) marks) ≡ list_all
      (is_near lent g) ts =
      ap (list_all (λ mark. mark)) last ∙ list_all-map (λ mark. mark) (is_near lent g) ts in
      (λ i. nat_le (sym many i) 65535 && all i)

  pub under : take (length marks - n) marks ≡ map (is_near lent g) below
  under = (λ i. take (seam i) (marks_of_both i))
      ∙ take-append_seam (map (is_near lent g) below) (map (is_near lent g) ts)

put : (lent : Option Lends) (g : Given) (below : List Tree) (t : Tree) (b : Bool) → is_near lent g t
    ≡ b
    → map (is_near lent g) below ++ b ∷ [] ≡ map (is_near lent g) (below ++ t ∷ [])
put lent g below t b e = ap (λ k. map (is_near lent g) below ++ k ∷ []) (sym e)
    ∙ sym (map_push (is_near lent g) below t)

module _ (lent : Option Lends) (g : Given) (rest below : List Tree) (ps os : List ℕ) (new : Coming)
    (marks out : List Bool) (n : ℕ) where
  pub string_one : (s : List ℕ) → GivesInTurn g ps os (string s ∷ rest)
      → marks ≡ map (is_near lent g) (below ++ []) → n ≡ 0 → new.positions.now ≡ ps
      → ((k : ℕ) (ks : List ℕ) → os ≡ k ∷ ks → (out ≡ marks ++ nat_le (short_by lent k) 65535 ∷ [])
      × (new.offsets.now ≡ ks)) → CountsOne lent g (string s) rest below n new out
  string_one s h e z keeps f =
      let b = behind_string g ps os s rest h in
      let r = f b.first b.more b.is in
      record {
        units = z;
        stack = r.0 ∙ ap (λ l. l ++ nat_le (short_by lent b.first) 65535 ∷ [])
            (e ∙ ap (map (is_near lent g)) (append-nil below))
            ∙ put lent g below (string s) (nat_le (short_by lent b.first) 65535) (ap (fits_unit
            (short_by lent)) b.known);
        left = string_left g ps os s rest b.first new.positions.now new.offsets.now
            (b.is ∙ ap (λ l. b.first ∷ l) (sym r.1)) keeps h;
      }

  pub other_one : (t : Tree) → children t ≡ [] → own_units lent g t ≡ 0 → is_near lent g t ≡ false
      → GivesInTurn g new.positions.now new.offsets.now rest
      → marks ≡ map (is_near lent g) (below ++ children t)
      → (n ≡ 0) × (out ≡ marks ++ false ∷ []) → CountsOne lent g t rest below n new out
  other_one t none zero far left e r = record {
    units = r.0 ∙ sym zero;
    stack = r.1 ∙ ap (λ l. l ++ false ∷ []) (e ∙ ap (λ l. map (is_near lent g) (below ++ l)) none
        ∙ ap (map (is_near lent g)) (append-nil below)) ∙ put lent g below t false far;
    left = left;
  }

  pub array_one : (ts : Trees) (k : ℕ) → length (array_members ts) ≡ k
      → GivesInTurn g new.positions.now new.offsets.now rest
      → marks ≡ map (is_near lent g) (below ++ array_members ts)
      → (n ≡ short_units (are_set_behind k marks) k 1)
      × (out ≡ take (length marks - k) marks ++ false ∷ [])
      → CountsOne lent g (array ts) rest below n new out
  array_one ts k many left e r = record {
    units = r.0 ∙ (λ i. short_units (all_near lent g below (array_members ts) k marks many e i)
        (sym many i) 1);
    stack = r.1 ∙ ap (λ l. l ++ false ∷ []) (under lent g below (array_members ts) k marks many e)
        ∙ put lent g below (array ts) false refl;
    left = left;
  }

  pub table_one : (es : Entries) (qs : List ℕ) (k : ℕ) → length (entry_keys es) ≡ k
      → length qs ≡ k → qs ≡ take k ps → new.positions.now ≡ drop k ps → new.offsets.now ≡ os
      → GivesInTurn g ps os (table es ∷ rest)
      → marks ≡ map (is_near lent g) (below ++ values_of es)
      → (n ≡ short_units (are_set_behind (length qs) marks && are_near (nears_by lent qs))
      (length qs) 2)
      × (out ≡ take (length marks - length qs) marks ++ false ∷ [])
      → CountsOne lent g (table es) rest below n new out
  table_one es qs k many long taken left keeps h e r =
      let l : length (values_of es) ≡ length qs = sym (keys_values es) ∙ many ∙ sym long in
      let near = near_keys lent g (entry_keys es) qs (table_known g ps os es rest k many qs taken h)
      in
      record {
        units = r.0 ∙ (λ i. short_units (all_near lent g below (values_of es)
            (length qs) marks l e i
            && sym near i) (sym l i) 2);
        stack = r.1 ∙ ap (λ l. l ++ false ∷ []) (under lent g below (values_of es)
            (length qs) marks l e)
            ∙ put lent g below (table es) false refl;
        left = table_left g ps os es rest k many new.positions.now new.offsets.now left keeps h;
      }

few : (b : Bool) (n each : ℕ) → each * n ≤ 2 * n → short_units b n each ≤ 2 * n + 1
few b n each h = by (b && nat_lt 0 n) refl
  where
    by : (d : Bool) → (b && nat_lt 0 n) ≡ d → short_units b n each ≤ 2 * n + 1
    by true e = omega (arith, ap (λ k. if k then each * n + 1 else 0) e, h)
    by false e = omega (arith, ap (λ k. if k then each * n + 1 else 0) e)

-- no body takes more units than there is room for
pub own_few : (lent : Option Lends) (g : Given) (t : Tree) → own_units lent g t ≤ most_units t
own_few lent g (string s) = omega arith
own_few lent g (array ts) = few (are_near_strings lent g (array_members ts)) (length
    (array_members ts)) 1
    (omega arith)
own_few lent g (table es) = few _ (length (values_of es)) 2 (omega arith)
own_few lent g (alias s) = omega arith
own_few lent g (binary s) = omega arith
own_few lent g (integer n) = omega arith
own_few lent g (int_vector ns) = omega arith
