-- Steps in laying order lay a tree.
use Rattle.std.proofs.Common.{◌≡◌, ℕ, ◌-◌, ◌<◌, ◌≤◌, take, drop, List}
use Rattle.std.proofs.Common.{[], ◌∷◌, ◌++◌, length, refl, sym, ◌∙◌, ap, subst, append_assoc}
use Rattle.std.proofs.Common.{append-nil, arith, Option}
use Rattle.resb_tree.specs.Tree.{Tree, string, alias, array, table, binary, integer, int_vector}
use Rattle.resb_tree.specs.Tree.{Trees, no_trees, more_trees, Entries, no_entries, entry, trees_of}
use Rattle.resb_layout.specs.Laid.{Given, Lends, Laid, LaysBy, LaysEachBy, each_none, each_more}
use Rattle.resb_layout.specs.Laid.{lays_members, lays_no_members, lays_entries, lays_no_entries}
use Rattle.resb_layout.specs.Laid.{ClosesArrayBy, ClosesTableBy, ArePlaced, entry_trees}
use Rattle.resb_tree.specs.LayingOrder.{entry_keys}
use Rattle.resb_tree.specs.LayingOrder.{array_members, values_of, children, laying_order}
use Rattle.resb_tree.specs.LayingOrder.{laying_each}
use Rattle.resb_tree.specs.LayingOrder.{laying_values}
use Rattle.resb_write.specs.Inner.StackSteps.{LaysNext, LaysRow, row_none, row_more}
use Rattle.std.proofs.lemmas.List.{nil_from_length}
use Rattle.resb_tree.proofs.LayingOrderLemmas.{trees_of-array_members}
use Rattle.resb_write.proofs.Lists.{same_parts, split_stack}

module _ (lent : Option Lends) (g : Given) where
  pub record Split (s : Laid) (ws : List ℕ) (t : Tree) (rest : List Tree) (e : Laid)
      (ys : List ℕ) : Type 0 where
    pub mid : Laid
    pub word : ℕ
    pub lays : LaysBy lent g s t mid word
    pub goes : LaysRow lent g mid (ws ++ word ∷ []) rest e ys

  pub record SplitEach (s : Laid) (ws : List ℕ) (ts : List Tree) (rest : List Tree) (e : Laid)
      (ys : List ℕ) : Type 0 where
    pub mid : Laid
    pub words : List ℕ
    pub lays : LaysEachBy lent g s (trees_of ts) mid words
    pub many : length words ≡ length ts
    pub goes : LaysRow lent g mid (ws ++ words) rest e ys

  -- the step of a resource whose members are laid
  last_step : (s mid e : Laid) (ws words ys : List ℕ) (t : Tree) (rest : List Tree)
      → LaysEachBy lent g s (trees_of (children t)) mid words → length words ≡ length (children t)
      → LaysRow lent g mid (ws ++ words) (t ∷ rest) e ys → Split s ws t rest e ys
  last_step s mid e ws words ys t rest h n (row_more {m} {xs} k more) =
      let r = same_parts ws words k.below k.members k.taken (n ∙ sym k.many) in
      record {
        mid = m;
        word = k.word;
        lays = k.closes s (subst (LaysEachBy lent g s (trees_of (children t)) mid) r.1 h);
        goes = subst (λ l. LaysRow lent g m l rest e ys) (k.put ∙ ap (λ l. l ++ k.word ∷ [])
            (sym r.0))
            more;
      }

  leaf : (s e : Laid) (ws ys : List ℕ) (t : Tree) (rest : List Tree) → children t ≡ []
      → LaysRow lent g s ws (t ∷ rest) e ys → Split s ws t rest e ys
  leaf s e ws ys t rest n h =
      last_step s s e ws [] ys t rest (subst (λ ts. LaysEachBy lent g s (trees_of ts) s []) (sym n)
      each_none) (sym (ap length n)) (subst (λ l. LaysRow lent g s l (t ∷ rest) e ys)
      (sym (append-nil ws)) h)

  mutual
    steps_tree : (t : Tree) (s e : Laid) (ws ys : List ℕ) (rest : List Tree)
        → LaysRow lent g s ws (laying_order t ++ rest) e ys → Split s ws t rest e ys
    steps_tree (string x) s e ws ys rest h = leaf s e ws ys (string x) rest refl h
    steps_tree (alias x) s e ws ys rest h = leaf s e ws ys (alias x) rest refl h
    steps_tree (binary x) s e ws ys rest h = leaf s e ws ys (binary x) rest refl h
    steps_tree (integer n) s e ws ys rest h = leaf s e ws ys (integer n) rest refl h
    steps_tree (int_vector x) s e ws ys rest h = leaf s e ws ys (int_vector x) rest refl h
    steps_tree (array ts) s e ws ys rest h =
        let k = steps_each ts s e ws ys (array ts ∷ rest)
        (subst (λ l. LaysRow lent g s ws l e ys) (append_assoc (laying_each ts)
        (array ts ∷ []) rest)
        h) in
        last_step s k.mid e ws k.words ys (array ts) rest k.lays k.many k.goes
    steps_tree (table es) s e ws ys rest h =
        let k = steps_values es s e ws ys (table es ∷ rest)
        (subst (λ l. LaysRow lent g s ws l e ys) (append_assoc (laying_values es)
        (table es ∷ []) rest)
        h) in
        last_step s k.mid e ws k.words ys (table es) rest k.lays k.many k.goes

    steps_each : (ts : Trees) (s e : Laid) (ws ys : List ℕ) (rest : List Tree)
        → LaysRow lent g s ws (laying_each ts ++ rest) e ys → SplitEach s ws
        (array_members ts) rest e ys
    steps_each no_trees s e ws ys rest h = record {
      mid = s;
      words = [];
      lays = each_none;
      many =
          refl;
      goes = subst (λ l. LaysRow lent g s l rest e ys) (sym (append-nil ws)) h;
    }
    steps_each (more_trees t ts) s e ws ys rest h =
        let a = steps_tree t s e ws ys (laying_each ts ++ rest)
        (subst (λ l. LaysRow lent g s ws l e ys)
        (append_assoc (laying_order t) (laying_each ts) rest) h) in
        let b = steps_each ts a.mid e (ws ++ a.word ∷ []) ys rest a.goes in
        record {
          mid = b.mid;
          words = a.word ∷ b.words;
          lays = each_more a.lays b.lays;
          many = omega (arith, b.many);
          goes = subst (λ l. LaysRow lent g b.mid l rest e ys) (append_assoc ws
              (a.word ∷ []) b.words)
              b.goes;
        }

    steps_values : (es : Entries) (s e : Laid) (ws ys : List ℕ) (rest : List Tree)
        → LaysRow lent g s ws (laying_values es ++ rest) e ys → SplitEach s ws
        (values_of es) rest e ys
    steps_values no_entries s e ws ys rest h = record {
      mid = s;
      words = [];
      lays =
          each_none;
      many = refl;
      goes = subst (λ l. LaysRow lent g s l rest e ys) (sym (append-nil ws)) h;
    }
    steps_values (entry k t es) s e ws ys rest h =
        let a = steps_tree t s e ws ys (laying_values es ++ rest)
        (subst (λ l. LaysRow lent g s ws l e ys)
        (append_assoc (laying_order t) (laying_values es) rest) h)
        in
        let b = steps_values es a.mid e (ws ++ a.word ∷ []) ys rest a.goes in
        record {
          mid = b.mid;
          words = a.word ∷ b.words;
          lays = each_more a.lays b.lays;
          many = omega (arith, b.many);
          goes = subst (λ l. LaysRow lent g b.mid l rest e ys) (append_assoc ws
              (a.word ∷ []) b.words)
              b.goes;
        }

-- nothing is left
none_laid : (lent : Option Lends) (g : Given) (s e : Laid) (ws ys : List ℕ)
    → LaysRow lent g s ws [] e ys → (s ≡ e) × (ws ≡ ys)
none_laid lent g s e ws ys row_none = (refl, refl)

pub steps_lay_trees : (lent : Option Lends) (g : Given) (s e : Laid) (t : Tree) (xs : List ℕ)
    → LaysRow lent g s [] (laying_order t) e xs → (w : ℕ) × (xs ≡ w ∷ []) × LaysBy lent g s t e w
steps_lay_trees lent g s e t xs h =
    let k = steps_tree lent g t s e [] xs []
    (subst (λ l. LaysRow lent g s [] l e xs) (sym (append-nil (laying_order t))) h) in
    let z = none_laid lent g k.mid e (k.word ∷ []) xs k.goes in
    (k.word, sym z.1, subst (λ m. LaysBy lent g s t m k.word) z.0 k.lays)

pub array_step : (lent : Option Lends) (g : Given) (s e : Laid) (ws xs vs : List ℕ) (ts : Trees)
    (w n : ℕ)
    → n ≡ length (array_members ts) → n ≤ length ws → vs ≡ drop (length ws - n) ws → 0 < n
    → ClosesArrayBy lent g s vs e w → xs ≡ take (length ws - n) ws ++ w ∷ []
    → LaysNext lent g s ws (array ts) e xs
array_step lent g s e ws xs vs ts w n c h v some k p =
    let q = split_stack ws n h in
    record {
      below = take (length ws - n) ws;
      members = vs;
      word = w;
      taken = q.0 ∙ ap (λ l. take (length ws - n) ws ++ l) (sym v);
      many = ap length v ∙ q.1 ∙ c;
      put = p;
      closes = λ before l. lays_members
          (subst (λ us. LaysEachBy lent g before us s vs) (trees_of-array_members ts) l)
          (omega (arith, ap length v, q.1)) k;
    }

pub empty_array_step : (lent : Option Lends) (g : Given) (s : Laid) (ws xs : List ℕ) (w : ℕ) → w
    ≡ 0x8000_0000
    → xs ≡ take (length ws - 0) ws ++ w ∷ [] → LaysNext lent g s ws (array no_trees) s xs
empty_array_step lent g s ws xs w e p =
    let q = split_stack ws 0 (omega arith) in
    record {
      below = take (length ws - 0) ws;
      members = [];
      word = w;
      taken = q.0
          ∙ ap (λ l. take (length ws - 0) ws ++ l) (nil_from_length (drop (length ws - 0) ws) q.1);
      many = refl;
      put = p;
      closes = λ before l. subst (λ b. LaysBy lent g b (array no_trees) s w) (sym (none_back l))
          (subst (LaysBy lent g s (array no_trees) s) (sym e) lays_no_members);
    }
  where
    none_back : {before : Laid} → LaysEachBy lent g before no_trees s [] → before ≡ s
    none_back each_none = refl

values_back : (es : Entries) → trees_of (values_of es) ≡ entry_trees es
values_back no_entries = refl
values_back (entry k t es) = ap (more_trees t) (values_back es)

pub table_step : (lent : Option Lends) (g : Given) (s e : Laid) (ws xs vs ps : List ℕ)
    (es : Entries) (w n : ℕ)
    → n ≡ length (values_of es) → n ≤ length ws → vs ≡ drop (length ws - n) ws → 0 < n
    → ArePlaced g (entry_keys es) ps → ClosesTableBy lent g s ps vs e w
    → xs ≡ take (length ws - n) ws ++ w ∷ [] → LaysNext lent g s ws (table es) e xs
table_step lent g s e ws xs vs ps es w n c h v some a k p =
    let q = split_stack ws n h in
    record {
      below = take (length ws - n) ws;
      members = vs;
      word = w;
      taken = q.0 ∙ ap (λ l. take (length ws - n) ws ++ l) (sym v);
      many = ap length v ∙ q.1 ∙ c;
      put = p;
      closes = λ before l. lays_entries ps a (subst (λ us. LaysEachBy lent g before us s vs)
          (values_back es) l) (omega (arith, ap length v, q.1)) k;
    }

-- a resource with nothing inside takes no word, and puts its own
pub leaf_step : (lent : Option Lends) (g : Given) (s e : Laid) (ws xs : List ℕ) (t : Tree) (w : ℕ)
    → children t ≡ []
    → LaysBy lent g s t e w → xs ≡ ws ++ w ∷ [] → LaysNext lent g s ws t e xs
leaf_step lent g s e ws xs t w none l p =
    record {
      below = ws;
      members = [];
      word = w;
      taken = sym (append-nil ws);
      many = sym (ap length none);
      put = p;
      closes = λ before h. subst (λ b. LaysBy lent g b t e w)
          (sym (same (trees_of (children t)) (ap trees_of none) h)) l;
    }
  where
    same : {before : Laid} (ts : Trees) → ts ≡ no_trees → LaysEachBy lent g before ts s [] → before
        ≡ s
    same ts f each_none = refl

pub empty_table_step : (lent : Option Lends) (g : Given) (s : Laid) (ws xs : List ℕ) (w : ℕ) → w
    ≡ 0x2000_0000
    → xs ≡ take (length ws - 0) ws ++ w ∷ [] → LaysNext lent g s ws (table no_entries) s xs
empty_table_step lent g s ws xs w e p =
    let q = split_stack ws 0 (omega arith) in
    leaf_step lent g s s ws xs (table no_entries) w refl (subst (LaysBy lent g s
    (table no_entries) s) (sym e)
    lays_no_entries)
    (p ∙ ap (λ l. l ++ w ∷ []) (sym (q.0
    ∙ ap (λ l. take (length ws - 0) ws ++ l) (nil_from_length (drop (length ws - 0) ws) q.1)
    ∙ append-nil (take (length ws - 0) ws))))
