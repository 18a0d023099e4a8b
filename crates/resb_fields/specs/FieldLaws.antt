-- The two laws of fields and records, from those of their parts alone: the count of every reading
-- is a count, and there is at most one.
use Rattle.std.specs.Prelude.{◌≡◌, ◌+◌, ℕ, List, [], ◌∷◌, Option, Some, None, length}
use Rattle.std.proofs.Common.{sym, ◌∙◌, ap, subst, arith}
use Rattle.std.proofs.lemmas.Option.{same_Some}
use Rattle.resb_read.specs.Places.{Place}
use Rattle.resb_read.specs.Tables.{last_named, ReadsFound, CountsFound}
use Rattle.resb_fields.specs.Fields.{Entry, ReadsRequired, CountsRequired, ReadsOr}
use Rattle.resb_fields.specs.Fields.{ReadsNone, ReadsNext, CountsNext, ReadsRecord, CountsRecord}

module _ {X : Type 0} (reads : Place → X → ℕ → Type 0) (counts : Place → ℕ → Type 0)
    (counted : (p : Place) (x : X) (n : ℕ) → reads p x n → counts p n) where
  pub required_counted : (o : Option Place) (x : X) (n : ℕ) → ReadsRequired reads o x n
      → CountsRequired counts o n
  required_counted (Some p) x n h = counted p x n h
  required_counted None x n h = absurd h

  pub maybe_counted : (o : Option Place) (x : Option X) (n : ℕ) → ReadsFound reads o x n
      → CountsFound counts o n
  maybe_counted None (Some x) n h = absurd h
  maybe_counted None None n h = h
  maybe_counted (Some p) (Some x) n h = counted p x n h
  maybe_counted (Some p) None n h = absurd h

  pub or_counted : (default : X → Type 0) (o : Option Place) (x : X) (n : ℕ)
      → ReadsOr default reads o x n → CountsFound counts o n
  or_counted default (Some p) x n h = counted p x n h
  or_counted default None x n h = h.1

module _ (counts : Place → ℕ → Type 0)
    (one : (p : Place) (m n : ℕ) → counts p m → counts p n → m ≡ n) where
  pub required_one : (o : Option Place) (m n : ℕ) → CountsRequired counts o m
      → CountsRequired counts o n → m ≡ n
  required_one (Some p) m n h k = one p m n h k
  required_one None m n h k = absurd h

  pub maybe_one : (o : Option Place) (m n : ℕ) → CountsFound counts o m → CountsFound counts o n
      → m ≡ n
  maybe_one (Some p) m n h k = one p m n h k
  maybe_one None m n h k = h ∙ sym k

-- where no field and no name is left there is one count
pub none_one : (names : List (List ℕ)) (m n : ℕ) → ReadsNone names m → ReadsNone names n → m ≡ n
none_one names m n h k = h.1 ∙ sym k.1

module _ {X Y : Type 0} (ra : Option Place → X → ℕ → Type 0)
    (rb : List (List ℕ) → List Entry → Y → ℕ → Type 0) (ca : Option Place → ℕ → Type 0)
    (cb : List (List ℕ) → List Entry → ℕ → Type 0)
    (ha : (o : Option Place) (x : X) (n : ℕ) → ra o x n → ca o n)
    (hb : (names : List (List ℕ)) (es : List Entry) (y : Y) (n : ℕ) → rb names es y n
    → cb names es n) where
  pub next_counted : (names : List (List ℕ)) (es : List Entry) (x : X) (y : Y) (n : ℕ)
      → ReadsNext ra rb names es x y n → CountsNext ca cb names es n
  next_counted [] es x y n h = absurd h
  next_counted (name ∷ names) es x y n (a, b, h, k, e) =
      (a, b, ha (last_named name es) x a h, hb names es y b k, e)

module _ (ca : Option Place → ℕ → Type 0) (cb : List (List ℕ) → List Entry → ℕ → Type 0)
    (oa : (o : Option Place) (m n : ℕ) → ca o m → ca o n → m ≡ n)
    (ob : (names : List (List ℕ)) (es : List Entry) (m n : ℕ) → cb names es m → cb names es n
    → m ≡ n) where
  pub next_one : (names : List (List ℕ)) (es : List Entry) (m n : ℕ)
      → CountsNext ca cb names es m → CountsNext ca cb names es n → m ≡ n
  next_one [] es m n h k = absurd h
  next_one (name ∷ names) es m n (a, b, h, k, e) (a', b', h', k', e') =
      let f : a ≡ a' = oa (last_named name es) a a' h h' in
      let g : b ≡ b' = ob names es b b' k k' in omega arith

module _ {F R : Type 0} (reads : List (List ℕ) → List Entry → F → ℕ → Type 0)
    (counts : List (List ℕ) → List Entry → ℕ → Type 0)
    (counted : (names : List (List ℕ)) (es : List Entry) (x : F) (n : ℕ) → reads names es x n
    → counts names es n) where
  pub record_counted : (names : List (List ℕ)) (made : F → R) (p : Place) (r : R) (n : ℕ)
      → ReadsRecord reads names made p r n → CountsRecord counts names p n
  record_counted names made p r n h =
      record {
        places = h.places;
        total = h.total;
        are = h.are;
        each = counted names h.places h.fields h.total h.each;
        count = h.count;
      }

module _ (counts : List (List ℕ) → List Entry → ℕ → Type 0)
    (one : (names : List (List ℕ)) (es : List Entry) (m n : ℕ) → counts names es m
    → counts names es n → m ≡ n) where
  pub record_one : (names : List (List ℕ)) (p : Place) (m n : ℕ) → CountsRecord counts names p m
      → CountsRecord counts names p n → m ≡ n
  record_one names p m n h k =
      let same : h.places ≡ k.places = same_Some _ _ (sym h.are ∙ k.are) in
      let moved = subst (λ es. counts names es h.total) same h.each in
      let e : h.total ≡ k.total = one names k.places h.total k.total moved k.each in
      let l : length h.places ≡ length k.places = ap length same in
      let f : m ≡ 1 + length h.places + h.total = h.count in
      let g : n ≡ 1 + length k.places + k.total = k.count in omega arith

-- whatever is read of a first field and of the others has its count, where each of them has one
pub counted_next : {X Y : Type 0} {ra : Option Place → X → ℕ → Type 0}
    {rb : List (List ℕ) → List Entry → Y → ℕ → Type 0} {ca : Option Place → ℕ → Type 0}
    {cb : List (List ℕ) → List Entry → ℕ → Type 0}
    → ((o : Option Place) (x : X) (n : ℕ) → ra o x n → ca o n)
    → ((names : List (List ℕ)) (es : List Entry) (y : Y) (n : ℕ) → rb names es y n
    → cb names es n)
    → (names : List (List ℕ)) (es : List Entry) (z : X × Y) (n : ℕ)
    → ReadsNext ra rb names es z.0 z.1 n → CountsNext ca cb names es n
counted_next {X} {Y} {ra} {rb} {ca} {cb} ha hb names es z n =
    next_counted ra rb ca cb ha hb names es z.0 z.1 n

-- where no field is left, what is read of none has its count
pub counted_end : (names : List (List ℕ)) (es : List Entry) (u : Unit {0}) (n : ℕ)
    → ReadsNone names n → ReadsNone names n
counted_end names es u n h = h

-- a first field and the others have one count, where each of them has one
pub one_next : {ca : Option Place → ℕ → Type 0} {cb : List (List ℕ) → List Entry → ℕ → Type 0}
    → ((o : Option Place) (m n : ℕ) → ca o m → ca o n → m ≡ n)
    → ((names : List (List ℕ)) (es : List Entry) (m n : ℕ) → cb names es m → cb names es n
    → m ≡ n)
    → (names : List (List ℕ)) (es : List Entry) (m n : ℕ)
    → CountsNext ca cb names es m → CountsNext ca cb names es n → m ≡ n
one_next {ca} {cb} oa ob = next_one ca cb oa ob

-- where no field is left there is one count
pub one_end : (names : List (List ℕ)) (es : List Entry) (m n : ℕ)
    → ReadsNone names m → ReadsNone names n → m ≡ n
one_end names es = none_one names
