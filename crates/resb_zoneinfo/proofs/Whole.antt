-- What a whole file lacks where the fields of its table are refused, and what is said of its root
-- where the file is read alone.
use Rattle.std.proofs.Common.{ℕ, List, ◌≡◌, ◌+◌, Some, length, sym, ap, subst, ◌∙◌, inl, inr}
use Rattle.std.proofs.Common.{arith, ◌≤◌, None, Result, Ok, Err}
use Rattle.std.specs.Result.{IfErr}
use Rattle.std.proofs.lemmas.Option.{same_Some}
use Rattle.resb.specs.File.{budget}
use Rattle.resb.specs.Error.{refusal_of}
use Rattle.resb.specs.Places.{Place}
use Rattle.resb.specs.PoolBundleChecks.{refusal_with}
use Rattle.resb.specs.Roots.{HoldsAt, RefusesAt, place_of_root}
use Rattle.resb.specs.WithPool.{over}
use Rattle.resb.specs.Sequences.{entries_at}
use Rattle.resb.specs.Fields.{Entry, CountsRecord}
use Rattle.resb.specs.Reading.{Lacks, LacksOrMemory}
use Rattle.resb.specs.declared.binary.ReadingError.{ReadingError}
use Rattle.resb.proofs.RefusedFiles.{passing_is_file, refused_is_none}

lacks_record : (counts : List (List ℕ) → List Entry → ℕ → Type 0) (names : List (List ℕ))
    (p : Place) (es : List Entry) (left inside : ℕ) → entries_at p ≡ Some es
    → inside + 1 + length es ≡ left → Lacks (counts names es) inside
    → Lacks (CountsRecord counts names p) left
lacks_record counts names p es left inside are paid lacks n h small =
    let same : h.places ≡ es = same_Some _ _ (sym h.are ∙ are) in
    let long : length h.places ≡ length es = ap length same in
    let whole : n ≡ 1 + length h.places + h.total = h.count in
    lacks h.total (subst (λ places. counts names places h.total) same h.each)
    (omega (arith, long, whole, paid, small))

pub record_refused : (counts : List (List ℕ) → List Entry → ℕ → Type 0)
    (names : List (List ℕ)) (p : Place) (es : List Entry) (left inside : ℕ) (e : ReadingError)
    → entries_at p ≡ Some es → inside + 1 + length es ≡ left
    → LacksOrMemory (counts names es) inside e → LacksOrMemory (CountsRecord counts names p) left e
record_refused counts names p es left inside e are paid (inl memory) = inl memory
record_refused counts names p es left inside e are paid (inr lacks) =
    inr (lacks_record counts names p es left inside are paid lacks)

-- this holds of the place of the root
pub rooted : (P : Place → Type 0) (bytes : List ℕ) (p : Place) → refusal_with None bytes ≡ None
    → p ≡ place_of_root (over None bytes) → P p → HoldsAt P (over None bytes)
rooted P bytes p none same h =
    record { head = passing_is_file None bytes none; root = subst P same h }

-- no count that can be paid for stands at the root
lacks_there : (counts : Place → ℕ → Type 0) (bytes : List ℕ) (p : Place) (left : ℕ)
    (e : ReadingError) → p ≡ place_of_root (over None bytes) → left ≡ budget bytes
    → LacksOrMemory (counts p) left e
    → LacksOrMemory (λ n. HoldsAt (λ q. counts q n) (over None bytes)) (budget bytes) e
lacks_there counts bytes p left e same all (inl m) = inl m
lacks_there counts bytes p left e same all (inr lacks) =
    inr (λ n h paid. lacks n (subst (λ q. counts q n) (sym same) h.root) (omega (arith, all, paid)))

-- what is refused at the root
pub refused_there : {X : Type 0} (counts : Place → ℕ → Type 0)
    (refuses : Place → ℕ → ℕ → ReadingError → Type 0) (bytes : List ℕ) (p : Place)
    (left left' : ℕ) (r : Result X ReadingError) → refusal_with None bytes ≡ None
    → p ≡ place_of_root (over None bytes) → left ≡ budget bytes
    → IfErr r (λ e. (left' ≤ left) × LacksOrMemory (counts p) left e)
    → IfErr r (refuses p left left')
    → IfErr r (λ e.
    LacksOrMemory (λ n. HoldsAt (λ q. counts q n) (over None bytes)) (budget bytes) e
    × RefusesAt refuses (over None bytes) e)
refused_there counts refuses bytes p left left' (Ok x) none same all a b = tt
refused_there counts refuses bytes p left left' (Err e) none same all (falls, a) b = (
  lacks_there counts bytes p left e same all a,
  inr (
    left',
    rooted (λ q. refuses q (budget bytes) left' e) bytes p none same
        (subst (λ n. refuses p n left' e) all b),
  ),
)

-- what is refused for its head
pub refused_head : (counts : Place → ℕ → Type 0) (refuses : Place → ℕ → ℕ → ReadingError → Type 0)
    (bytes : List ℕ) (e : ReadingError) → refusal_with None bytes ≡ Some (refusal_of e)
    → LacksOrMemory (λ n. HoldsAt (λ q. counts q n) (over None bytes)) (budget bytes) e
    × RefusesAt refuses (over None bytes) e
refused_head counts refuses bytes e fault =
    (inr (λ n h paid. refused_is_none None bytes (refusal_of e) fault h.head), inl fault)
