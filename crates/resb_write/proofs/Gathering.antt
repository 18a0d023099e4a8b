-- What one more resource adds to what is gathered.
use Rattle.std.proofs.Common.{◌≡◌, ℕ, ◌+◌, ◌-◌, ◌^◌, ◌≤◌, min, max, List, [], ◌∷◌, ◌++◌, length}
use Rattle.std.proofs.Common.{Some, None, Bool, true, false, cond, ◌||◌, nat_le, refl, sym, ◌∙◌, ap}
use Rattle.std.proofs.Common.{append-nil, arith}
use Rattle.std.specs.List.{list_any, flat_map, sum_by}
use Rattle.std.specs.Option.{option_or}
use Rattle.std.proofs.Math.Bool.{or-false}
use Rattle.std.proofs.lemmas.List.Concat.{flat_map-append}
use Rattle.std.proofs.lemmas.List.Folds.{list_any-append}
use Rattle.std.proofs.lemmas.List.Sums.{sum_by-append, sum_by-cons}
use Rattle.resb_tree.specs.Tree.{Tree, string, alias, array, table, binary, integer, int_vector}
use Rattle.resb_tree.specs.Tree.{Entries, no_entries, entry, entries_len}
use Rattle.resb_format.specs.Units.{units}
use Rattle.resb_pool.specs.Plan.{nows, first_too_long}
use Rattle.resb_tree.specs.LayingOrder.{text_in, values_of}
use Rattle.resb_layout.specs.PlainSize.{held_size, resources_size}
use Rattle.resb_layout.specs.TreeFaults.{is_over_32_bits}
use Rattle.resb_write.specs.Inner.Gathered.{entry_count_of, largest_of, units_in, bytes_in}
use Rattle.resb_write.specs.Inner.Gathered.{other_size, Gathered}
use Rattle.resb_write.specs.declared.contents.Contents.{Contents}
use Rattle.resb_write.proofs.Lists.{or_assoc, or_none}

pub largest-push : (ts : List Tree) (t : Tree)
    → largest_of (ts ++ t ∷ []) ≡ max (largest_of ts) (entry_count_of t)
largest-push [] t = omega arith
largest-push (u ∷ ts) t = omega (arith, largest-push ts t)

first-cons : (s : List ℕ) (ss : List (List ℕ))
    → first_too_long (s ∷ ss) ≡ option_or (first_too_long (s ∷ [])) (first_too_long ss)
first-cons s ss = by (nat_le (length (units s)) 4294967295)
  where
    by : (b : Bool) → cond b (first_too_long ss) (Some (length (units s))) ≡ option_or
        (cond b None (Some (length (units s)))) (first_too_long ss)
    by true = refl
    by false = refl

pub first-append : (ss rs : List (List ℕ))
    → first_too_long (ss ++ rs) ≡ option_or (first_too_long ss) (first_too_long rs)
first-append [] rs = refl
first-append (s ∷ ss) rs =
    first-cons s (ss ++ rs) ∙ ap (option_or (first_too_long (s ∷ []))) (first-append ss rs)
    ∙ or_assoc (first_too_long (s ∷ [])) (first_too_long ss) (first_too_long rs)
    ∙ ap (λ o. option_or o (first_too_long rs)) (sym (first-cons s ss))

size-push : (ts : List Tree) (t : Tree)
    → sum_by (λ (u : Tree). 16 + other_size u) (ts ++ t ∷ [])
    ≡ sum_by (λ (u : Tree). 16 + other_size u) ts + (16 + other_size t)
size-push ts t = sum_by-append (λ (u : Tree). 16 + other_size u) ts (t ∷ [])
    ∙ omega (arith, sum_by-cons (λ (u : Tree). 16 + other_size u) t [])

pub flat-push : (f : Tree → List (List ℕ)) (ts : List Tree) (t : Tree)
    → flat_map f (ts ++ t ∷ []) ≡ flat_map f ts ++ f t
flat-push f ts t = flat_map-append f ts (t ∷ []) ∙ ap (λ l. flat_map f ts ++ l) (append-nil (f t))

-- what a resource adds
pub record Adds (old new : Contents) (t : Tree) : Type 0 where
  pub texts : nows new.texts.items ≡ nows old.texts.items ++ text_in t
  pub size : new.size ≡ min (old.size + (16 + other_size t)) (2 ^ 64 - 1)
  pub bytes : min new.text_bytes (2 ^ 64 - 1)
      ≡ min (old.text_bytes + bytes_in (text_in t)) (2 ^ 64 - 1)
  pub within : units_in (text_in t) ≤ bytes_in (text_in t)
  pub largest : new.largest_table ≡ max old.largest_table (entry_count_of t)
  pub too_long : new.too_long ≡ option_or old.too_long (first_too_long (text_in t))
  pub over : new.has_count_over_32_bits ≡ (old.has_count_over_32_bits || is_over_32_bits t)

module _ (old new : Contents) (t : Tree) (a : Adds old new t) (ts : List Tree) (g : Gathered ts old)
  where
    pub added : Gathered (ts ++ t ∷ []) new
    added = record {
      texts_are = a.texts ∙ ap (λ l. l ++ text_in t) g.texts_are ∙ sym (flat-push text_in ts t);
      size_is = omega (arith, a.size, g.size_is, size-push ts t);
      bytes_are = omega (
        arith,
        a.bytes,
        g.bytes_are,
        ap bytes_in (flat-push text_in ts t),
        sum_by-append (λ (s : List ℕ). length s) (flat_map text_in ts) (text_in t),
      );
      bytes_suffice = omega (
        arith,
        a.within,
        g.bytes_suffice,
        ap bytes_in (flat-push text_in ts t),
        ap units_in (flat-push text_in ts t),
        sum_by-append (λ (s : List ℕ). length s) (flat_map text_in ts) (text_in t),
        sum_by-append (λ (s : List ℕ). length (units s)) (flat_map text_in ts) (text_in t),
      );
      largest_is = a.largest ∙ ap (λ n. max n (entry_count_of t)) g.largest_is
          ∙ sym (largest-push ts t);
      too_long_is = a.too_long ∙ ap (λ o. option_or o (first_too_long (text_in t))) g.too_long_is
          ∙ sym (first-append (flat_map text_in ts) (text_in t))
          ∙ ap first_too_long (sym (flat-push text_in ts t));
      over_is = a.over ∙ ap (λ b. b || is_over_32_bits t) g.over_is
          ∙ ap (λ b. list_any is_over_32_bits ts || b) (sym (or-false (is_over_32_bits t)))
          ∙ sym (list_any-append is_over_32_bits ts (t ∷ []));
    }

pub no_bytes_gathered : bytes_in [] ≡ 0
no_bytes_gathered = refl

pub no_units_gathered : units_in [] ≡ 0
no_units_gathered = refl

-- a resource with no entry and no text
module _ (old new : Contents) (t : Tree) (n : ℕ) (b : Bool)
    (no_text : text_in t ≡ []) (no_entries : entry_count_of t ≡ 0) (held : other_size t ≡ n)
    (over : is_over_32_bits t ≡ b) where
  pub adds_plain : new ≡ record old {
    size = min (old.size + (16 + n)) (2 ^ 64 - 1);
    has_count_over_32_bits = old.has_count_over_32_bits || b;
  } → Adds old new t
  adds_plain e = record {
    texts = ap (λ c. nows c.texts.items) e ∙ sym (append-nil (nows old.texts.items))
        ∙ ap (λ l. nows old.texts.items ++ l) (sym no_text);
    size = ap (λ c. c.size) e ∙ ap (λ m. min (old.size + (16 + m)) (2 ^ 64 - 1)) (sym held);
    bytes = omega (arith, ap (λ c. c.text_bytes) e, ap bytes_in no_text, no_bytes_gathered);
    within = omega (
      arith,
      ap units_in no_text,
      ap bytes_in no_text,
      no_units_gathered,
      no_bytes_gathered,
    );
    largest = omega (arith, ap (λ c. c.largest_table) e, no_entries);
    too_long = ap (λ c. c.too_long) e ∙ sym (or_none old.too_long)
        ∙ ap (λ l. option_or old.too_long (first_too_long l)) (sym no_text);
    over = ap (λ c. c.has_count_over_32_bits) e
        ∙ ap (λ x. old.has_count_over_32_bits || x) (sym over);
  }

pub one_bytes : (s : List ℕ) → bytes_in (s ∷ []) ≡ length s
one_bytes s = omega (arith, sum_by-cons (λ (r : List ℕ). length r) s [])

pub one_units : (s : List ℕ) → units_in (s ∷ []) ≡ length (units s)
one_units s = omega (arith, sum_by-cons (λ (r : List ℕ). length (units r)) s [])

pub plain_integer : (old new : Contents)
    → new ≡ record old { size = min (old.size + (16 + 0)) (2 ^ 64 - 1) }
    → new ≡ record old {
      size = min (old.size + (16 + 0)) (2 ^ 64 - 1);
      has_count_over_32_bits =
          old.has_count_over_32_bits || false;
    }
plain_integer old new e = e ∙ (λ i. record old {
  size = min (old.size + (16 + 0)) (2 ^ 64 - 1);
  has_count_over_32_bits = sym (or-false old.has_count_over_32_bits) i;
})

-- the plain size of resources: what they hold that is no string, and the units of the strings
pub sizes_split : (ts : List Tree) → resources_size ts
    ≡ sum_by (λ (t : Tree). 16 + other_size t) ts + units_in (flat_map text_in ts)
sizes_split [] = refl
sizes_split (t ∷ ts) = omega (
  arith,
  sizes_split ts,
  sum_by-cons (λ (u : Tree). 16 + other_size u) t ts,
  sum_by-cons (λ (u : Tree). 16 + held_size u) t ts,
  sum_by-append (λ (s : List ℕ). length (units s)) (text_in t) (flat_map text_in ts),
  own t,
)
  where
    own : (u : Tree) → held_size u ≡ other_size u + units_in (text_in u)
    own (string s) = omega (arith, sum_by-cons (λ (r : List ℕ). length (units r)) s [])
    own (alias s) = omega arith
    own (array us) = omega arith
    own (table es) = omega arith
    own (binary s) = omega arith
    own (integer n) = omega arith
    own (int_vector ns) = omega arith

pub entries_long : (es : Entries) → entries_len es ≡ length (values_of es)
entries_long no_entries = refl
entries_long (entry k t es) = omega (arith, entries_long es)
