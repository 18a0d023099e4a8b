-- What is known of texts while they are placed. T are distinct texts; each goes by its index there.
--     AreTexts S T ms         T are the texts of S, and ms their measures
--     AreTurns S T is         the strings S are the texts of the indexes is, one by one
--     LiesAt way T i r        the text i lies in the text r, in a file that is packed this way
--     AreContainers way T cs  each text lies in the one that cs has at its index
--     AreHidden way A T hs    hs are the records that save nothing, among all texts A
--     lying_in cs ms q        what all copies that lie in the text q would take
--     AreEnds T rs done es    es says where each record done closes
use Rattle.std.specs.Prelude.{◌≡◌, ℕ, zero, suc, ◌+◌, ◌-◌, ◌*◌, ◌^◌, ◌<◌, ◌≤◌, List, []}
use Rattle.std.specs.Prelude.{◌∷◌, length}
use Rattle.std.specs.Prelude.{map, All, Contains, ◌⊎◌}
use Rattle.std.specs.Prelude.{◌↔◌, sum_by, nat_eq, slice_index, slice_index_or, if◌then◌else◌}
use Rattle.std.specs.Cmp.Lexicographic.{slice_cmp}
use Rattle.std.specs.Ordering.{nat_cmp, ordering_then}
use Rattle.std.specs.Str.{bytes_eq, IsUtf8}
use Rattle.std.specs.declared.cmp.Ordering.{Ordering}
use Rattle.resb_format.specs.Units.{units, size}
use Rattle.resb_pool.specs.Records.{IsRecord, EachOnce}
use Rattle.resb_pool.specs.Container.{IsContainer, IsTop}
use Rattle.resb_pool.specs.Order.{start_cmp}
use Rattle.resb_pool.specs.Pool.{ClosesAt}
use Rattle.resb_pool.specs.declared.measure.Measure.{Measure}
use Rattle.resb_pool.specs.declared.packing.Packing.{Packing}
use Rattle.resb_pool.specs.declared.packing.Packing.TheVariants.{Plain, Compact}
use Rattle.resb_pool.specs.declared.records.Record.{Record}

-- the text of index i
abbrev pub indexed_text : List (List ℕ) → ℕ → List ℕ
indexed_text T i = slice_index_or T i []

-- what the copies of t in S would take as records of their own
abbrev pub copies : List (List ℕ) → List ℕ → ℕ
copies S t = sum_by (λ s. if bytes_eq t s then size s else 0) S

pub record IsMeasure (S : List (List ℕ)) (t : List ℕ) (m : Measure) : Type 0 where
  pub units_is : m.unit_count ≡ length (units t)
  pub size_is : m.size ≡ size t
  pub total_is : m.total ≡ copies S t

abbrev pub AreMeasures : List (List ℕ) → List (List ℕ) → List Measure → Type 0
AreMeasures S T ms = (i : ℕ) (d : Measure) → i < length T
    → IsMeasure S (indexed_text T i) (slice_index_or ms i d)

pub record AreTexts (S T : List (List ℕ)) (ms : List Measure) : Type 0 where
  pub utf8 : All IsUtf8 S
  pub once : EachOnce T
  pub same : (s : List ℕ) → Contains T s ↔ Contains S s
  pub len : length ms ≡ length T
  pub measured : AreMeasures S T ms

-- the texts of these indexes are those of S, one by one; T has no more texts than S
pub record AreTurns (S T : List (List ℕ)) (turns : List ℕ) : Type 0 where
  pub texts : map (indexed_text T) turns ≡ S
  pub within : All (λ i. i < length T) turns
  pub few : length T ≤ length turns

-- in its container; the empty text lies in itself
pub record LiesAt (way : Packing) (T : List (List ℕ)) (i r : ℕ) : Type 0 where
  pub within : r < length T
  pub container : 0 < length (indexed_text T i)
      → IsContainer way T (indexed_text T i) (indexed_text T r)
  pub itself : IsRecord T (indexed_text T i) → r ≡ i
  pub empty : length (indexed_text T i) ≡ 0 → r ≡ i

-- cs say, for each text, in which one it lies
pub record AreContainers (way : Packing) (T : List (List ℕ)) (cs : List ℕ) : Type 0 where
  pub len : length cs ≡ length T
  pub lies : (i : ℕ) → i < length T → LiesAt way T i (slice_index cs i)

-- the text i, if it's a record, is among hs just where another text of A ends with it
abbrev pub IsToldHidden : (List ℕ → Type 0) → List (List ℕ) → List ℕ → ℕ → Type 0
IsToldHidden A T hs i =
    IsRecord T (indexed_text T i) → (IsTop A (indexed_text T i) × (Contains hs i → ⊥))
    ⊎ ((IsTop A (indexed_text T i) → ⊥) × Contains hs i)

-- of the records of T, hs has just those that another text of A ends with
pub record AreAllHidden (A : List ℕ → Type 0) (T : List (List ℕ)) (hs : List ℕ) : Type 0 where
  pub within : All (λ h. h < length T) hs
  pub each : (i : ℕ) → i < length T → IsToldHidden A T hs i

-- hs are the records that save nothing: none in a plain file, and in a compact one those that
-- another text of A ends with
abbrev pub AreHidden : Packing → (List ℕ → Type 0) → List (List ℕ) → List ℕ → Type 0
AreHidden Plain A T hs = hs ≡ []
AreHidden Compact A T hs = AreAllHidden A T hs

abbrev pub lying_in : List ℕ → List Measure → ℕ → ℕ
lying_in [] ms q = 0
lying_in (c ∷ cs) [] q = 0
lying_in (c ∷ cs) (m ∷ ms) q = (if nat_eq c q then m.total else 0) + lying_in cs ms q

-- rs are the records among the texts done, each once
pub record AreRecordsAmong (S done rs : List (List ℕ)) : Type 0 where
  pub once : EachOnce rs
  pub sound : (s : List ℕ) → Contains rs s → IsRecord S s × Contains done s
  pub complete : (s : List ℕ) → IsRecord S s → Contains done s → Contains rs s

-- the text of a record
abbrev pub record_text : List (List ℕ) → Record → List ℕ
record_text T r = indexed_text T r.index

-- the texts of records, in the order of these
abbrev pub record_texts : List (List ℕ) → List Record → List (List ℕ)
record_texts T rs = map (record_text T) rs

-- each text's sizes, and that its own record is among what lies in it
pub record AreSums (T : List (List ℕ)) (ms : List Measure) (sums : List ℕ) : Type 0 where
  pub measured : length ms ≡ length T
  pub len : length sums ≡ length T
  pub units_is : (i : ℕ) (d : Measure) → i < length T
      → (slice_index_or ms i d).unit_count ≡ length (units (indexed_text T i))
  pub size_is : (i : ℕ) (d : Measure) → i < length T
      → (slice_index_or ms i d).size ≡ size (indexed_text T i)
  pub own : (i : ℕ) → i < length T → IsRecord T (indexed_text T i)
      → size (indexed_text T i) ≤ slice_index sums i

-- bytes
abbrev pub AreBytes : List ℕ → Type 0
AreBytes bs = (i : ℕ) → slice_index bs i < 256

-- a number in front of the first n bytes; 0 stands in the place of those that aren't there
abbrev pub front_bytes : ℕ → ℕ → List ℕ → ℕ
front_bytes number zero bs = number
front_bytes number (suc n) [] = front_bytes (number * 256) n []
front_bytes number (suc n) (b ∷ bs) = front_bytes (number * 256 + b) n bs

-- the record of a text with its units, and with what it saves
pub record IsRecordOf (T : List (List ℕ)) (sums : List ℕ) (r : Record) : Type 0 where
  pub within : r.index < length T
  pub units_is : r.unit_count ≡ length (units (record_text T r))
  pub saved_is : r.saved + size (record_text T r) ≡ slice_index sums r.index
  pub front_is : r.front ≡ front_bytes 0 8 (record_text T r)
  pub next_is : front_bytes 0 12 (record_text T r) ≡ r.front * 0x1_0000_0000 + r.next
  pub bytes : AreBytes (record_text T r)

-- the order of records: by their texts' units, then by what is saved, the most first, then by their
-- texts from the start
abbrev pub record_cmp : Packing → List (List ℕ) → Record → Record → Ordering
record_cmp way T x y = ordering_then (nat_cmp x.unit_count y.unit_count)
    (ordering_then (nat_cmp y.saved x.saved)
    (start_cmp way (record_text T x) (record_text T y)))

-- the order of records' texts: by their first bytes, and then by themselves
abbrev pub bytes_cmp : List (List ℕ) → Record → Record → Ordering
bytes_cmp T x y = ordering_then (nat_cmp x.front y.front)
    (ordering_then (nat_cmp x.next y.next)
    (slice_cmp nat_cmp (record_text T x) (record_text T y)))

-- the order of records, where their texts compare so
abbrev pub fronted_cmp : List (List ℕ) → Record → Record → Ordering
fronted_cmp T x y = ordering_then (nat_cmp x.unit_count y.unit_count)
    (ordering_then (nat_cmp y.saved x.saved) (bytes_cmp T x y))

-- where each record done closes; 0 for what is no record
pub record AreEnds (T : List (List ℕ)) (rs done : List Record) (es : List ℕ) : Type 0 where
  pub closes : All (λ r. ClosesAt (record_texts T rs) (record_text T r) (slice_index es r.index))
      done
  pub others : (i : ℕ) → All (λ r. r.index ≡ i → ⊥) done → slice_index es i ≡ 0

-- where a text of measure m that lies in c stands, by where its record closes
abbrev pub offset_by : List ℕ → ℕ → Measure → ℕ
offset_by es c m = slice_index es c + 1 - m.size

-- the texts that lie in cs stand at os
pub record AreOffsets (cs : List ℕ) (ms : List Measure) (es os : List ℕ) : Type 0 where
  pub len : length os ≡ length cs
  pub each : (i : ℕ) (d : Measure) → i < length cs
      → slice_index os i ≡ offset_by es (slice_index cs i) (slice_index_or ms i d)

-- the record c closes far enough for a text of measure m
pub record ClosesWithin (es : List ℕ) (c : ℕ) (m : Measure) : Type 0 where
  pub within : c < length es
  pub reaches : m.size ≤ slice_index es c + 1
  pub small : slice_index es c < 2 ^ 28

-- the record in which each text lies closes far enough for it
abbrev pub AllClose : List ℕ → List Measure → List ℕ → Type 0
AllClose cs ms es = (i : ℕ) (d : Measure) → i < length cs
    → ClosesWithin es (slice_index cs i) (slice_index_or ms i d)
