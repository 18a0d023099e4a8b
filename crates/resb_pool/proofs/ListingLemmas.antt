-- Strings whose texts are listed in their own room: what the next one does.
use Rattle.std.proofs.Common.{◌≡◌, ℕ, ◌+◌, ◌<◌, ◌≤◌, List, [], ◌∷◌, ◌++◌, length, get_or, take}
use Rattle.std.proofs.Common.{drop}
use Rattle.std.proofs.Common.{Bor, refl, sym, ◌∙◌, ap, subst, arith}
use Rattle.std.specs.Prelude.{slice_set, slice_index}
use Rattle.std.specs.Str.{IsUtf8}
use Rattle.std.specs.Vec.{with_item}
use Rattle.std.proofs.lemmas.List.{drop_more, drop-set-lt, length-set, length-take-le, get_or-take}
use Rattle.std.proofs.lemmas.List.{get_or_default}
use Rattle.std.proofs.lemmas.List.{take_more_set, map_push}
use Rattle.resb_format.specs.Units.{units, size}
use Rattle.resb_pool.specs.Plan.{nows}
use Rattle.resb_pool.specs.Inner.Placing.{AreTexts, AreTurns, indexed_text}
use Rattle.resb_pool.specs.Inner.Firsts.{IsFirst}
use Rattle.resb_pool.specs.Inner.Listing.{IsListing}
use Rattle.resb_pool.specs.declared.listed_texts.Listing.{Listing}
use Rattle.resb_pool.specs.declared.measure.Measure.{Measure}
use Rattle.resb_pool.proofs.FirstTurns.{IsTaken, taken_again, taken_first, first_so_far}
use Rattle.resb_pool.proofs.Interning.{counted, length-nows, text_nows}
use Rattle.resb_pool.proofs.TextLoops.{blank, nows-take}

-- of no strings
pub no_texts : AreTexts [] [] []
no_texts = record {
  utf8 = λ i d l. absurd (omega (arith, l));
  once = tt;
  same = λ s. (λ x. x, λ x. x);
  len = refl;
  measured = λ i d l. absurd (omega (arith, l));
}

pub no_turns : AreTurns [] [] []
no_turns = record { texts = refl; within = λ i d l. absurd (omega (arith, l)); few = omega arith }

-- two lists that are the same from a place on have the same there, and behind it
split_at : {X : Type 0} (xs ys : List X) (n : ℕ) (d : X) → n < length xs → n < length ys
    → drop n xs ≡ drop n ys → (get_or xs n d ≡ get_or ys n d) × (drop (n + 1) xs ≡ drop (n + 1) ys)
split_at xs ys n d l k e =
    let s = sym (drop_more xs n d l) ∙ e ∙ drop_more ys n d k in
    (cc, cc)

-- the string of number n is t, the text of index i, and is not yet counted
pub record IsNext (xs : List (Bor (List ℕ))) (fs : List ℕ) (n : ℕ) (t : List ℕ) (l : Listing)
    (i : ℕ) : Type 0 where
  pub strings_len : length l.strings.items ≡ length xs
  pub order_len : length l.order.items ≡ length xs
  pub within : l.count ≤ n + 1
  pub left : drop (n + 1) l.strings.items ≡ drop (n + 1) xs
  pub unread : drop (n + 1) l.order.items ≡ drop (n + 1) fs
  pub taken : IsTaken (nows (take n xs)) t (nows (take l.count l.strings.items)) l.measures.items
      (take n l.order.items) i

module _ (xs : List (Bor (List ℕ))) (fs : List ℕ) (n : ℕ) (l : Listing) (h : IsListing xs fs n l)
    (less : n < length xs) where
  strings_on : (get_or l.strings.items n blank ≡ get_or xs n blank)
      × (drop (n + 1) l.strings.items ≡ drop (n + 1) xs)
  strings_on = split_at l.strings.items xs n blank (omega (arith, less, h.strings_len)) less h.left

  order_on : (get_or l.order.items n 0 ≡ get_or fs n 0)
      × (drop (n + 1) l.order.items ≡ drop (n + 1) fs)
  order_on = split_at l.order.items fs n 0 (omega (arith, less, h.order_len))
      (omega (arith, less, h.firsts_len)) h.unread

  pub string_here : get_or l.strings.items n blank ≡ get_or xs n blank
  string_here = strings_on.0

  pub text_here : (t : Bor (List ℕ)) → t ≡ get_or l.strings.items n t
      → t.now ≡ indexed_text (nows xs) n
  text_here t e = ap (λ (z : Bor (List ℕ)). z.now)
      (e ∙ get_or_default l.strings.items n t blank (omega (arith, less, h.strings_len))
      ∙ string_here) ∙ text_nows xs n less

  pub first_here : get_or l.order.items n 0 ≡ get_or fs n 0
  first_here = order_on.0

  turns_len : length (take n l.order.items) ≡ n
  turns_len = length-take-le n l.order.items (omega (arith, less, h.order_len))

  module _ (first : IsFirst (nows xs) n (slice_index fs n)) (v : Bor (List ℕ)) (u : IsUtf8 v.now)
      (is : v.now ≡ indexed_text (nows xs) n) where
    same_text : v.now ≡ (get_or xs n blank).now
    same_text = is ∙ sym (text_nows xs n less)

    first_copy : IsFirst (nows (take n xs) ++ v.now ∷ []) (length (nows (take n xs)))
        (get_or fs n 0)
    first_copy = subst (λ t. IsFirst (nows (take n xs) ++ t ∷ []) (length (nows (take n xs)))
        (get_or fs n 0)) (sym same_text) (first_so_far xs n (get_or fs n 0) less first)

    pub known_next : get_or l.order.items n 0 < n
        → IsNext xs fs n v.now l (get_or l.order.items (get_or l.order.items n 0) 0)
    known_next b =
        let f = get_or fs n 0 in
        let k = get_or l.order.items n 0 in
        let c : f < n = omega (arith, b, first_here) in
        record {
          strings_len = h.strings_len;
          order_len = h.order_len;
          within = omega (arith, h.within);
          left = strings_on.1;
          unread = order_on.1;
          taken = subst (IsTaken (nows (take n xs)) v.now
              (nows (take l.count l.strings.items)) l.measures.items (take n l.order.items))
              (get_or-take n l.order.items f 0 c
              ∙ ap (λ j. get_or l.order.items j 0) (sym first_here))
              (taken_again (nows (take n xs)) (nows (take l.count l.strings.items)) l.measures.items
              (take n l.order.items) h.texts h.turns v.now f first_copy u
              (omega (arith, c, turns_len)));
        }

    pub new_next : n ≤ get_or l.order.items n 0 → (m : Measure)
        → m.unit_count ≡ length (units v.now) → m.size ≡ size v.now → m.total ≡ 0 → (k : Listing)
        → k.strings.items ≡ slice_set l.strings.items l.count v → k.count ≡ l.count + 1
        → k.measures.items ≡ l.measures.items ++ m ∷ [] → k.order.items ≡ l.order.items
        → IsNext xs fs n v.now k l.count
    new_next b m p q z k e f g o =
        let ss = l.strings.items in
        let T = nows (take l.count ss) in
        let fewer : l.count < length ss = omega (arith, less, h.within, h.strings_len) in
        let grown : nows (take k.count k.strings.items) ≡ T ++ v.now ∷ [] =
        ap (λ j. nows (take j k.strings.items)) f
        ∙ ap (λ (zs : List (Bor (List ℕ))). nows (take (l.count + 1) zs)) e
        ∙ ap nows (take_more_set ss l.count v fewer)
        ∙ map_push (λ (y : Bor (List ℕ)). y.now) (take l.count ss) v in
        record {
          strings_len = ap length e ∙ length-set ss l.count v ∙ h.strings_len;
          order_len = ap length o ∙ h.order_len;
          within = omega (arith, f, h.within);
          left = ap (drop (n + 1)) e
              ∙ drop-set-lt (n + 1) ss l.count v (omega (arith, h.within)) ∙ strings_on.1;
          unread = ap (drop (n + 1)) o ∙ order_on.1;
          taken = subst (λ ts. IsTaken (nows (take n xs)) v.now
              (nows (take k.count k.strings.items)) k.measures.items (take n ts) l.count) (sym o)
              (taken_first (nows (take n xs)) T l.measures.items (take n l.order.items) h.texts
              h.turns v.now (get_or fs n 0) first_copy u
              (omega (arith, b, turns_len, first_here)) m p q z
              (nows (take k.count k.strings.items)) k.measures.items l.count grown g
              (sym (length-nows (take l.count ss)
              ∙ length-take-le l.count ss (omega (arith, fewer)))));
        }

-- the string is counted with its text, and its index put in its place
pub listed_on : (xs : List (Bor (List ℕ))) (fs : List ℕ) (n : ℕ) (t : List ℕ) (l : Listing) (i : ℕ)
    → n < length xs → t ≡ indexed_text (nows xs) n → length fs ≡ length xs
    → IsNext xs fs n t l i → (old new : Measure) → old ≡ get_or l.measures.items i old
    → new.unit_count ≡ old.unit_count → new.size ≡ old.size → new.total ≡ old.total + old.size
    → IsListing xs fs (n + 1) (record {
      strings = l.strings;
      count = l.count;
      measures = with_item l.measures i new;
      order = with_item l.order n i;
    })
listed_on xs fs n t l i less is len h old new o a b c =
    let D = nows (take n xs) in
    let T = nows (take l.count l.strings.items) in
    let os = l.order.items in
    let more : nows (take (n + 1) xs) ≡ D ++ t ∷ [] = nows-take xs n blank less
    ∙ ap (λ z. D ++ z ∷ []) (text_nows xs n less ∙ sym is) in
    record {
      strings_len = h.strings_len;
      order_len = length-set os n i ∙ h.order_len;
      firsts_len = len;
      within = h.within;
      left = h.left;
      unread = drop-set-lt (n + 1) os n i (omega arith) ∙ h.unread;
      texts = subst (λ d. AreTexts d T (slice_set l.measures.items i new)) (sym more)
          (counted D t T l.measures.items h.taken.ready i h.taken.within h.taken.stands old o new
          a b c);
      turns = subst (λ d. AreTurns d T (take (n + 1) (slice_set os n i))) (sym more)
          (subst (AreTurns (D ++ t ∷ []) T)
          (sym (take_more_set os n i (omega (arith, less, h.order_len)))) h.taken.turned);
    }
