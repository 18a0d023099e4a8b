-- What an iteration adds to the records, and what texts that hold the same say of one another.
use Rattle.std.proofs.Common.{◌≡◌, ◌<◌, ℕ, List, [], ◌∷◌, ◌++◌, length, None, ◌⊎◌, inl, inr, ◌↔◌}
use Rattle.std.proofs.Common.{sym, ap, subst, arith}
use Rattle.std.specs.List.{All, Contains}
use Rattle.std.specs.Map.{lookup}
use Rattle.std.specs.Borrow.{Bor}
use Rattle.std.specs.HashMap.{HashMap}
use Rattle.resb_pool.specs.Plan.{at_text}
use Rattle.std.specs.Str.{bytes_eq}
use Rattle.std.proofs.lemmas.List.Elements.{Contains-append_left, Contains-push}
use Rattle.std.proofs.lemmas.List.Elements.{Contains-push_cases}
use Rattle.resb_pool.specs.Records.{IsRecord, IsRecords}
use Rattle.resb_pool.specs.Container.{IsContainer, IsTop, MayHold}
use Rattle.resb_pool.specs.declared.packing.Packing.{Packing}
use Rattle.resb_pool.specs.declared.packing.Packing.TheVariants.{Plain, Compact}
use Rattle.resb_pool.specs.Inner.Placing.{indexed_text, LiesAt, AreRecordsAmong}
use Rattle.resb_pool.specs.Inner.Placing.{AreContainers, AreHidden}
use Rattle.std.proofs.lemmas.Bool.{cases_lt}
use Rattle.std.proofs.lemmas.List.{get_or_default}
use Rattle.resb_pool.proofs.Distinct.{distinct_push}
use Rattle.resb_pool.proofs.TextLists.{TextList}

-- records and containers are the same for lists that hold the same texts
module _ (T S : TextList) (e : (s : List ℕ) → Contains T s ↔ Contains S s) where
  pub record_from : (s : List ℕ) → IsRecord T s → IsRecord S s
  record_from s h = record {
    given = (e s).0 h.given;
    nonempty = h.nonempty;
    alone = elim h.alone [ inl m ↦ inl m | inr only ↦ inr (λ t c. only t ((e t).1 c)) ];
  }

  pub record_to : (s : List ℕ) → IsRecord S s → IsRecord T s
  record_to s h = record {
    given = (e s).1 h.given;
    nonempty = h.nonempty;
    alone = elim h.alone [ inl m ↦ inl m | inr only ↦ inr (λ t c. only t ((e t).0 c)) ];
  }

  pub top_from : (s : List ℕ) → IsTop (Contains T) s → IsTop (Contains S) s
  top_from s h = record {
    given = (e s).0 h.given;
    nonempty = h.nonempty;
    alone = λ t c. h.alone t ((e t).1 c);
  }

  pub top_to : (s : List ℕ) → IsTop (Contains S) s → IsTop (Contains T) s
  top_to s h = record {
    given = (e s).1 h.given;
    nonempty = h.nonempty;
    alone = λ t c. h.alone t ((e t).0 c);
  }

  holds_from : (way : Packing) (s r : List ℕ) → MayHold way T s r → MayHold way S s r
  holds_from Plain s r h = tt
  holds_from Compact s r h = elim h [ inl same ↦ inl same | inr top ↦ inr (top_from r top) ]

  holds_to : (way : Packing) (s r : List ℕ) → MayHold way S s r → MayHold way T s r
  holds_to Plain s r h = tt
  holds_to Compact s r h = elim h [ inl same ↦ inl same | inr top ↦ inr (top_to r top) ]

  pub container_from : (way : Packing) (s r : List ℕ) → IsContainer way T s r
      → IsContainer way S s r
  container_from way s r h = record {
    own = record_from r h.own;
    ends = h.ends;
    holds = holds_from way s r h.holds;
    greatest = λ q x y z. h.greatest q (record_to q x) y (holds_to way s q z);
  }

  -- what is hidden among the texts of one list is among those of the other
  pub hidden_from : (way : Packing) (hs : List ℕ) → AreHidden way (Contains T) T hs
      → AreHidden way (Contains S) T hs
  hidden_from Plain hs h = h
  hidden_from Compact hs h = record {
    within = h.within;
    each = λ i l r. elim (h.each i l r) [
      | inl t ↦ inl (top_from (indexed_text T i) t.0, t.1)
      | inr n ↦ inr (λ t. n.0 (top_to (indexed_text T i) t), n.1)
    ];
  }

  pub records_from : (rs : TextList) → IsRecords T rs → IsRecords S rs
  records_from rs h = record {
    once = h.once;
    just =
        λ s. (λ x. record_from s ((h.just s).0 x), λ x. (h.just s).1 (record_to s x));
  }

module _ (S D E : TextList) (t : List ℕ) (e : E ≡ D ++ t ∷ []) where
  in_more : (s : List ℕ) → Contains D s → Contains E s
  in_more s h = subst (λ (l : TextList). Contains l s) (sym e) (Contains-append_left D (t ∷ []) s h)

  last_in : Contains E t
  last_in = subst (λ (l : TextList). Contains l t) (sym e) (Contains-push D t)

  more_cases : (s : List ℕ) → Contains E s → Contains D s ⊎ (t ≡ s)
  more_cases s h = Contains-push_cases D t s (subst (λ (l : TextList). Contains l s) e h)

  module _ (rs : TextList) (h : AreRecordsAmong S D rs) where
    pub listed_keep : (IsRecord S t → Contains D t) → AreRecordsAmong S E rs
    listed_keep back = record {
      once = h.once;
      sound = λ s x. let y = h.sound s x in (y.0, in_more s y.1);
      complete = λ s r x. elim (more_cases s x) [
        | inl y ↦ h.complete s r y
        | inr q ↦
            subst (Contains rs) q (h.complete t (subst (IsRecord S) (sym q) r)
            (back (subst (IsRecord S) (sym q) r)))
      ];
    }

    pub listed_push : (Contains D t → ⊥) → IsRecord S t → AreRecordsAmong S E (rs ++ t ∷ [])
    listed_push fresh r = record {
      once = distinct_push rs t h.once (λ x. fresh (h.sound t x).1);
      sound = λ s x. elim (Contains-push_cases rs t s x) [
        | inl y ↦
            (let z = h.sound s y in (z.0, in_more s z.1))
        | inr q ↦
            (subst (IsRecord S) q r, subst (Contains E) q last_in)
      ];
      complete = λ s q x. elim (more_cases s x) [
        | inl y ↦
            Contains-append_left rs (t ∷ []) s (h.complete s q y)
        | inr z ↦
            subst (Contains (rs ++ t ∷ [])) z (Contains-push rs t)
      ];
    }

pub records_all : (S rs : TextList) → AreRecordsAmong S S rs → IsRecords S rs
records_all S rs h = record {
  once = h.once;
  just =
      λ s. (λ x. (h.sound s x).0, λ x. h.complete s x x.given);
}

-- an empty map has no text
pub at_empty : {V H : Type 0} (m : HashMap (Bor (List ℕ)) V H) (q : List ℕ) → m.entries ≡ []
    → at_text m q ≡ None
at_empty m q e = ap (lookup (λ k. bytes_eq q k.now)) e

-- a text that isn't empty and lies in itself is a record
pub lies_in_itself : (way : Packing) (T : TextList) (i r : ℕ) → LiesAt way T i r → r ≡ i
    → (length (indexed_text T i) ≡ 0 → ⊥)
    → IsRecord T (indexed_text T i)
lies_in_itself way T i r at e full =
    let pos : 0 < length (indexed_text T i) = elim (cases_lt 0 (length (indexed_text T i))) [
      | inl p ↦ p
      | inr z ↦
          absurd (full (omega (arith, z)))
    ] in
    subst (λ n. IsRecord T (indexed_text T n)) e (at.container pos).own

-- each text lies in one of them
pub within_texts : (way : Packing) (T : TextList) (hs : List ℕ) → AreContainers way T hs
    → All (λ h. h < length hs) hs
within_texts way T hs c i d l =
    let m : i < length T = omega (arith, l, c.len) in
    let w = (c.lies i m).within in
    omega (arith, get_or_default hs i 0 d l, w, c.len)

-- and each hidden one is one of them
pub hidden_within : (way : Packing) (A : List ℕ → Type 0) (T : TextList) (hidden : List ℕ)
    → AreHidden way A T hidden → All (λ h. h < length T) hidden
hidden_within Plain A T hidden e i d l = absurd (omega (arith, l, ap length e))
hidden_within Compact A T hidden all i d l = all.within i d l
