-- What each step does to the candidates for keys of the open groups.
use Rattle.std.proofs.Common.{◌≡◌, ℕ, ◌<◌, ◌≤◌, Bool, true, false, List, [], ◌∷◌, ◌++◌}
use Rattle.std.proofs.Common.{length, refl, sym, ◌∙◌, ap, subst, arith, append_assoc, append-nil}
use Rattle.std.specs.Prelude.{slice_index_or, if◌then◌else◌}
use Rattle.std.proofs.lemmas.Bool.{false≢true}
use Rattle.std.proofs.lemmas.List.{map-append, map_push, get_or-set_other, length-set}
use Rattle.resb_tree.specs.Tree.{Tree}
use Rattle.resb_grammar.specs.KeyLists.{listed_keys}
use Rattle.resb_grammar.specs.Items.{Term, string_term, group_term, Item, plain, before_comma}
use Rattle.resb_grammar.specs.Items.{Shape, a_string, a_table, an_array, shape_of, tree_in, keys_in}
use Rattle.resb_grammar.specs.Items.{item_keys, term_keys, inner_keys, is_pairs}
use Rattle.resb_grammar.specs.Machine.{Body, table_body, array_body, untyped_body, Frame, with_item}
use Rattle.resb_grammar.specs.Machine.{new_frame, shape_in, closed}
use Rattle.resb_grammar.specs.Inner.Half.{is_half_behind, is_half}
use Rattle.resb_grammar.proofs.HalfLemmas.{half-pairs, half-group, no_comma}
use Rattle.resb_text.specs.declared.discovered.Keys.{Keys}
use Rattle.resb_text.specs.Inner.Discovered.{GroupText, AllBelow, without, texts, left, group_count}
use Rattle.resb_text.specs.Inner.Discovered.{is_dropped_in, OpensGroup, AddsCandidate, DropsGroup}
use Rattle.resb_text.specs.Inner.Discovered.{ListsCandidates}
use Rattle.resb_text.specs.Inner.Frames.{may_be_table, left_after, NumberedFrame, with_number}
use Rattle.resb_text.specs.Inner.Frames.{IsFrom, HoldsCandidates, HoldsKeys, AreSettled, AreOpen}
use Rattle.resb_text.specs.Inner.Frames.{none, one_more, FrameView, view_of_frame, ClosesKeys}
use Rattle.resb_text.specs.Inner.Frames.{frames_in, IsTableWhole}
use Rattle.resb_text.proofs.DiscoveredLemmas.{without-append, without-own, without-other}
use Rattle.resb_text.proofs.DiscoveredLemmas.{without-without}
use Rattle.resb_text.proofs.FramesLemmas.{table_is_pairs}

-- a group whose last item has a comma behind it
abbrev pub comma_frame : Frame → Term → List Item → Frame
comma_frame f m xs = record { body = f.body; items = before_comma m ∷ xs }

abbrev cand : List ℕ → ℕ → GroupText
cand s n = record { text = s; group = n }

texts-append : (xs ys : List GroupText) → texts (xs ++ ys) ≡ texts xs ++ texts ys
texts-append = map-append (λ c. c.text)

-- candidates that a removal leaves as they are, and more behind them
without-behind : (h : ℕ) (xs ys : List GroupText) → without h xs ≡ xs
    → without h (xs ++ ys) ≡ xs ++ without h ys
without-behind h xs ys e = without-append h xs ys ∙ ap (λ cs. cs ++ without h ys) e

below-snoc : (limit n : ℕ) (s : List ℕ) (cs : List GroupText) → n < limit → AllBelow limit cs
    → AllBelow limit (cs ++ cand s n ∷ [])
below-snoc limit n s cs lt below =
    λ h le. without-behind h cs (cand s n ∷ []) (below h le)
    ∙ ap (λ ds. cs ++ ds) (without-other h n s (omega arith))

half_shorter : (m : Term) (f : Bool) (xs : List Item) → is_half_behind m f xs ≡ true
    → is_half xs ≡ true
half_shorter (string_term s) false xs h = half-pairs xs h
half_shorter (group_term t ks) false xs h = (half-group xs h).0
half_shorter (string_term s) true xs h = cc
half_shorter (group_term t ks) true xs h = cc

-- what may be a table with one item more may be one without it
may_shorter : (b : Body) (m : Term) (f : Bool) (xs : List Item)
    → may_be_table b (record { term = m; comma = f } ∷ xs) ≡ true → may_be_table b xs ≡ true
may_shorter table_body m f xs h = half_shorter m f xs h
may_shorter array_body m f xs h = h
may_shorter untyped_body m f xs h = half_shorter m f xs h

-- with a comma it can't
may_comma : (b : Body) (m : Term) (xs : List Item) → may_be_table b (before_comma m ∷ xs) ≡ true
    → ⊥
may_comma table_body m xs h = no_comma m xs h
may_comma array_body m xs h = false≢true h
may_comma untyped_body m xs h = no_comma m xs h

module _ (n : ℕ) (f : Frame) where
  from_string : (s : List ℕ) (own : List GroupText) → IsFrom (with_number n f) own
      → IsFrom (with_number n (with_item (string_term s) f)) (own ++ cand s n ∷ [])
  from_string s own x = record {
    whole = λ h.
        map_push (λ c. c.text) own (cand s n)
        ∙ ap (λ ks. ks ++ s ∷ []) (x.whole (may_shorter f.body (string_term s) false f.items h));
    rest =
        ap texts (without-append n own (cand s n ∷ [])
        ∙ ap (λ cs. without n own ++ cs) (without-own n s) ∙ append-nil (without n own))
        ∙ x.rest ∙ sym (append-nil (item_keys inner_keys f.items));
    later =
        λ h lt. without-behind h own (cand s n ∷ []) (x.later h lt)
        ∙ ap (λ cs. own ++ cs) (without-other h n s (omega arith));
  }

  -- a string behind which the group can't be a table
  pub from_item : (s : List ℕ) → may_be_table f.body (plain (string_term s) ∷ f.items) ≡ false
      → (own : List GroupText) → IsFrom (with_number n f) own
      → IsFrom (with_number n (with_item (string_term s) f)) own
  from_item s no_table own x = record {
    whole = λ h. absurd (false≢true (sym no_table ∙ h));
    rest = x.rest ∙ sym (append-nil (item_keys inner_keys f.items));
    later = x.later;
  }

  -- a group with its candidates, all of greater numbers
  from_group : (t : Tree) (ks : List (List ℕ)) (cs : List GroupText)
      → ((h : ℕ) → h ≤ n → without h cs ≡ cs) → texts cs ≡ ks → (own : List GroupText)
      → IsFrom (with_number n f) own
      → IsFrom (with_number n (with_item (group_term t ks) f)) (own ++ cs)
  from_group t ks cs later is own x = record {
    whole = λ h.
        texts-append own cs
        ∙ (λ i. x.whole (may_shorter f.body (group_term t ks) false f.items h) i ++ is i);
    rest =
        ap texts (without-append n own cs ∙ ap (λ ds. without n own ++ ds) (later n (omega arith)))
        ∙ texts-append (without n own) cs ∙ (λ i. x.rest i ++ is i);
    later =
        λ h lt. without-behind h own cs (x.later h lt)
        ∙ ap (λ ds. own ++ ds) (later h (omega arith));
  }

  -- a group without keys
  pub from_leaf : (t : Tree) (own : List GroupText) → IsFrom (with_number n f) own
      → IsFrom (with_number n (with_item (group_term t []) f)) own
  from_leaf t own x =
      subst (IsFrom (with_number n (with_item (group_term t []) f))) (append-nil own)
      (from_group t [] [] (λ h le. refl) refl own x)

  -- a comma behind the last item
  pub from_comma : (m : Term) (k : Bool) (xs : List Item)
      → f.items ≡ record { term = m; comma = k } ∷ xs → (own : List GroupText)
      → IsFrom (with_number n f) own → IsFrom (with_number n (comma_frame f m xs)) own
  from_comma m k xs i own x = record {
    whole = λ h. absurd (may_comma f.body m xs h);
    rest = x.rest ∙ ap (item_keys inner_keys) i;
    later = x.later;
  }

-- the innermost group has other items, and the same candidates
frame_changed : {n : ℕ} {f e : Frame} {gs : List NumberedFrame} {cs : List GroupText}
    → ((own : List GroupText) → IsFrom (with_number n f) own → IsFrom (with_number n e) own)
    → HoldsCandidates (with_number n f ∷ gs) cs → HoldsCandidates (with_number n e ∷ gs) cs
frame_changed change (one_more _ gs before own cs outer apart x e) =
    one_more _ gs before own cs outer apart (change own x) e

holds_string : {n : ℕ} {f : Frame} {gs : List NumberedFrame} (s : List ℕ) {cs : List GroupText}
    → HoldsCandidates (with_number n f ∷ gs) cs
    → HoldsCandidates (with_number n (with_item (string_term s) f) ∷ gs) (cs ++ cand s n ∷ [])
holds_string {n} {f} s (one_more _ gs before own _ outer apart x e) =
    one_more _ gs before (own ++ cand s n ∷ []) _ outer apart (from_string n f s own x)
    (ap (λ ds. ds ++ cand s n ∷ []) e ∙ append_assoc before own (cand s n ∷ []))

holds_new : (n : ℕ) (b : Body) (gs : List NumberedFrame) (cs : List GroupText)
    → HoldsCandidates gs cs → AllBelow n cs
    → HoldsCandidates (with_number n (new_frame b) ∷ gs) cs
holds_new n b gs cs x apart =
    one_more _ gs cs [] cs x apart
    (record { whole = λ h. refl; rest = refl; later = λ h l. refl })
    (sym (append-nil cs))

one_string : (xs : List Item) (s : List ℕ) → shape_of xs ≡ a_string s → item_keys inner_keys xs ≡ []
one_string [] s e = cc
one_string (x ∷ []) s e = go x.term x.comma e
  where
    go : (m : Term) (f : Bool) → shape_of (record { term = m; comma = f } ∷ []) ≡ a_string s
        → item_keys inner_keys (record { term = m; comma = f } ∷ []) ≡ []
    go (string_term w) false e = refl
    go (string_term w) true e = cc
    go (group_term t ks) f e = cc
one_string (x ∷ y ∷ xs) s e = no (is_pairs (x ∷ y ∷ xs)) e
  where
    no : (b : Bool) → (if b then a_table else an_array) ≡ a_string s
        → item_keys inner_keys (x ∷ y ∷ xs) ≡ []
    no true e = cc
    no false e = cc

-- the keys of a closed group
keys_closed : (b : Body) (xs : List Item) (n : ℕ) (own : List GroupText) (sh : Shape)
    → shape_in b xs ≡ sh → (b ≡ table_body → is_pairs xs ≡ true)
    → (may_be_table b xs ≡ true → texts own ≡ item_keys term_keys xs)
    → texts (without n own) ≡ item_keys inner_keys xs → texts (left_after sh n own) ≡ keys_in sh xs
keys_closed b xs n own an_array e pairs whole rest = rest
keys_closed table_body xs n own a_table e pairs whole rest =
    whole (half-pairs xs (pairs refl))
keys_closed untyped_body xs n own a_table e pairs whole rest =
    whole (half-pairs xs (table_is_pairs untyped_body xs e pairs))
keys_closed array_body xs n own a_table e pairs whole rest = cc
keys_closed table_body xs n own (a_string s) e pairs whole rest = cc
keys_closed array_body xs n own (a_string s) e pairs whole rest = cc
keys_closed untyped_body xs n own (a_string s) e pairs whole rest = rest ∙ one_string xs s e

after-append : (sh : Shape) (n : ℕ) (xs ys : List GroupText) → without n xs ≡ xs
    → left_after sh n (xs ++ ys) ≡ xs ++ left_after sh n ys
after-append a_table n xs ys h = refl
after-append an_array n xs ys h = without-behind n xs ys h
after-append (a_string s) n xs ys h = without-behind n xs ys h

-- a group without candidates has none once another group is closed
after_keeps : (sh : Shape) (n h : ℕ) (xs : List GroupText) → without h xs ≡ xs
    → without h (left_after sh n xs) ≡ left_after sh n xs
after_keeps a_table n h xs e = e
after_keeps an_array n h xs e = without-without h n xs ∙ ap (without n) e
after_keeps (a_string s) n h xs e = without-without h n xs ∙ ap (without n) e

-- the innermost group is closed
holds_closed : (n m : ℕ) (f outer : Frame) (gs : List NumberedFrame) (cs : List GroupText) → m < n
    → IsTableWhole f
    → HoldsCandidates (with_number n f ∷ with_number m outer ∷ gs) cs
    → HoldsCandidates (with_number m (with_item (closed f) outer) ∷ gs)
    (left_after (shape_in f.body f.items) n cs)
holds_closed n m f outer gs cs lt pairs
    (one_more _ _ _ own _ (one_more _ _ before mine among around below y i) apart x e) =
    let shape = shape_in f.body f.items in
    one_more _ gs before (mine ++ left_after shape n own) _ around below
    (from_group m outer (tree_in shape f.items) (keys_in shape f.items) (left_after shape n own)
    (λ h le. after_keeps shape n h own (x.later h (omega arith)))
    (keys_closed f.body f.items n own shape refl pairs x.whole x.rest) mine y)
    (ap (left_after shape n) e ∙ after-append shape n among own (apart n (omega arith))
    ∙ ap (λ ds. ds ++ left_after shape n own) i ∙ append_assoc before mine _)

-- the keys of the root
holds_root : (n : ℕ) (f : Frame) (cs : List GroupText) → f.body ≡ table_body
    → is_pairs f.items ≡ true → HoldsCandidates (with_number n f ∷ []) cs
    → texts cs ≡ item_keys term_keys f.items
holds_root n f cs b pairs (one_more _ _ _ own _ none apart x e) =
    ap texts e
    ∙ x.whole (ap (λ k. may_be_table k f.items) b ∙ half-pairs f.items pairs)

dropped_same : (k l : Keys) → l.is_dropped ≡ k.is_dropped → (g : ℕ)
    → is_dropped_in l g ≡ is_dropped_in k g
dropped_same k l e g = ap (λ ds. slice_index_or ds.items g false) e

-- groups stay open where no flag of theirs changes
open_same : (k l : Keys) (limit : ℕ) (gs : List NumberedFrame)
    → ((g : ℕ) → g < limit → is_dropped_in l g ≡ is_dropped_in k g) → AreOpen k limit gs
    → AreOpen l limit gs
open_same k l limit [] e x = tt
open_same k l limit (g ∷ gs) e x = (
  x.0,
  e g.number x.0 ∙ x.1,
  open_same k l g.number gs (λ h lt. e h (let m = x.0 in omega arith)) x.2,
)

-- what was settled stays so
settled_on : (k l : Keys) {settled : List GroupText} {bound : ℕ} → l.listed ≡ k.listed
    → group_count k ≤ group_count l → AreSettled k settled bound → AreSettled l settled bound
settled_on k l e more x = record {
  listed = ap listed_keys e ∙ x.listed;
  apart = x.apart;
  bounded = let b = x.bounded in omega (arith, b, more);
}

-- the innermost group gets an item without candidates, or a comma
pub keys_changed : {k : Keys} {n : ℕ} {f e : Frame} {gs : List NumberedFrame}
    → ((own : List GroupText) → IsFrom (with_number n f) own → IsFrom (with_number n e) own)
    → HoldsKeys k (with_number n f) gs → HoldsKeys k (with_number n e) gs
keys_changed change x = record {
  settled = x.settled;
  bound = x.bound;
  are_settled = x.are_settled;
  inner = x.inner;
  holds = frame_changed change x.holds;
  within = x.within;
  are_open = x.are_open;
}

module _ (k l : Keys) where
  -- the innermost group gets a string that may be a key
  pub keys_string : {n : ℕ} (f : Frame) (s : List ℕ) {gs : List NumberedFrame}
      → AddsCandidate s n k l → HoldsKeys k (with_number n f) gs
      → HoldsKeys l (with_number n (with_item (string_term s) f)) gs
  keys_string {n} f s {gs} adds x =
      let had = x.settled ++ left k in
      let now : x.settled ++ left l ≡ had ++ cand s n ∷ [] =
      ap (λ cs. x.settled ++ cs) adds.added
      ∙ sym (append_assoc x.settled (left k) (cand s n ∷ [])) in
      let same : group_count l ≡ group_count k = ap (λ v. length v.items) adds.dropped in
      record {
        settled = x.settled;
        bound = x.bound;
        are_settled = settled_on k l adds.listed (omega (arith, same)) x.are_settled;
        inner = x.inner;
        holds = rw now (holds_string s x.holds);
        within = rw (now, same) (below-snoc (group_count k) n s had x.are_open.0 x.within);
        are_open = rw same (open_same k l (group_count k) (with_number n f ∷ gs)
            (λ g lt. dropped_same k l adds.dropped g) x.are_open);
      }

  -- a group is opened
  pub keys_open : {g : ℕ} (outer : NumberedFrame) (gs : List NumberedFrame) (b : Body)
      → OpensGroup g k l → HoldsKeys k outer gs
      → HoldsKeys l (with_number (group_count k) (new_frame b)) (outer ∷ gs)
  keys_open outer gs b opens x = record {
    settled = x.settled;
    bound = x.bound;
    are_settled = settled_on k l opens.listed (omega (arith, opens.groups)) x.are_settled;
    inner = (x.are_settled.bounded, x.inner);
    holds = rw opens.stays (holds_new (group_count k) b (outer ∷ gs) _ x.holds x.within);
    within = rw opens.stays (λ h le. x.within h (omega (arith, opens.groups)));
    are_open = (
      omega (arith, opens.groups),
      opens.flags (group_count k) ∙ opens.fresh,
      open_same k l (group_count k) (outer ∷ gs) (λ g lt. opens.flags g) x.are_open,
    );
  }

  -- the innermost group is closed
  pub keys_close : {n : ℕ} (m : ℕ) (f outer : Frame) (gs : List NumberedFrame) {look : FrameView}
      → look ≡ view_of_frame (with_number n f) → ClosesKeys look k l → IsTableWhole f
      → HoldsKeys k (with_number n f) (with_number m outer ∷ gs)
      → HoldsKeys l (with_number m (with_item (closed f) outer)) gs
  keys_close {n} m f outer gs {look} e closes pairs x =
      let number : look.number ≡ n = ap (λ (v : FrameView). v.number) e in
      let open_now = x.are_open in
      let top = open_now.0 in
      let inner = open_now.2 in
      let rest = open_same k l n (with_number m outer ∷ gs)
      (λ g lt. closes.others g (omega (arith, number))) inner in
      let lt = inner.0 in
      let shape = shape_in f.body f.items in
      let all_left : x.settled ++ left l ≡ left_after shape n (x.settled ++ left k) =
      ap (λ cs. x.settled ++ cs) (closes.rest n f e)
      ∙ sym (after-append shape n x.settled (left k) (x.are_settled.apart n x.inner.0)) in
      record {
        settled = x.settled;
        bound = x.bound;
        are_settled = settled_on k l closes.listed (omega (arith, closes.groups)) x.are_settled;
        inner = x.inner.1;
        holds = rw all_left (holds_closed n m f outer gs _ lt pairs x.holds);
        within = rw all_left (λ h le. after_keeps shape n h _
            (x.within h (omega (arith, closes.groups))));
        are_open = (omega (arith, lt, top, closes.groups), rest.1, rest.2);
      }

  -- where the root alone is open, all candidates that are left are keys
  pub keys_settle : (g : NumberedFrame) → ListsCandidates k l → HoldsKeys k g [] → HoldsKeys l g []
  keys_settle g lists x =
      let same : group_count l ≡ group_count k = ap (λ v. length v.items) lists.dropped in
      let settled = x.settled ++ left k in
      let all : settled ++ left l ≡ settled =
      ap (λ cs. settled ++ cs) lists.empty ∙ append-nil settled in
      record {
        settled = settled;
        bound = group_count k;
        are_settled = record {
          listed = lists.listed x.settled x.are_settled.listed;
          apart = x.within;
          bounded = omega (arith, same);
        };
        inner = tt;
        holds = rw all x.holds;
        within = rw (all, same) x.within;
        are_open = rw same (open_same k l (group_count k) (g ∷ [])
            (λ h lt. dropped_same k l lists.dropped h) x.are_open);
      }

-- the root is opened
pub keys_root : (k : Keys) (n : ℕ) → n < group_count k → is_dropped_in k n ≡ false → left k ≡ []
    → listed_keys k.listed ≡ [] → HoldsKeys k (with_number n (new_frame table_body)) []
keys_root k n lt open_now empty none_listed = record {
  settled = [];
  bound = 0;
  are_settled = record { listed = none_listed; apart = λ h le. refl; bounded = omega arith };
  inner = tt;
  holds = rw empty (holds_new n table_body [] [] none (λ h le. refl));
  within = rw empty (λ h le. refl);
  are_open = (lt, open_now, tt);
}

-- its keys, once it is closed
pub root_keys : {k : Keys} {n : ℕ} {f : Frame} (gs : List NumberedFrame) → frames_in gs ≡ []
    → (x : HoldsKeys k (with_number n f) gs) → f.body ≡ table_body → is_pairs f.items ≡ true
    → texts (x.settled ++ left k) ≡ item_keys term_keys f.items
root_keys {n = n} {f = f} [] e x b pairs = holds_root n f _ b pairs x.holds
root_keys (g ∷ gs) e x b pairs = cc

-- a group that is dropped as it is closed, since it turns out to be no table
pub dropped_closes : (look : FrameView) (k l : Keys) (shape : Shape) → DropsGroup look.number k l
    → ((n : ℕ) (f : Frame) → look ≡ view_of_frame (with_number n f)
    → shape ≡ shape_in f.body f.items)
    → ((n : ℕ) (cs : List GroupText) → left_after shape n cs ≡ without n cs) → ClosesKeys look k l
dropped_closes look k l shape drops is no_table = record {
  rest = λ n f e.
      drops.others ∙ ap (λ j. without j (left k)) (ap (λ (v : FrameView). v.number) e)
      ∙ sym (no_table n (left k)) ∙ ap (λ s. left_after s n (left k)) (is n f e);
  others = λ g ne. ap (λ ds. slice_index_or ds g false) drops.dropped
      ∙ get_or-set_other k.is_dropped.items look.number g true false ne;
  groups = ap length drops.dropped ∙ length-set k.is_dropped.items look.number true;
  listed = drops.listed;
}
