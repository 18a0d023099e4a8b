-- The laws of links: a reading has its count, and a place has at most one.
use Rattle.std.specs.Prelude.{ℕ, pos, negsuc, ◌≡◌, ◌-◌, ◌^◌}
use Rattle.std.proofs.Common.{sym, ◌∙◌, inl, inr}
use Rattle.std.proofs.lemmas.Option.{same_Some}
use Rattle.resb.specs.Places.{Place}
use Rattle.resb.specs.TypeLaws.{signed_counted, signed_one}
use Rattle.resb_zoneinfo.specs.Linked.{IsInteger, IsOther, ReadsLinked, CountsLinked}
use Rattle.resb_zoneinfo.specs.declared.linked.Linked.{Linked}
use Rattle.resb_zoneinfo.specs.declared.linked.Linked.TheVariants.{Link, Value}

-- what stands at a place is not both
pub not_both : (p : Place) → IsInteger p → IsOther p → ⊥
not_both p is (t, other, differs) = differs (same_Some _ _ (sym other ∙ is))

-- what is read as a link or a value has its count
pub linked_counted : {T : Type 0} (reads : Place → T → ℕ → Type 0) (counts : Place → ℕ → Type 0)
    (counted : (p : Place) (x : T) (n : ℕ) → reads p x n → counts p n)
    (p : Place) (x : Linked T) (n : ℕ) → ReadsLinked reads p x n → CountsLinked counts p n
linked_counted reads counts counted p (Link x) n (is, h) =
    inl (is, signed_counted (negsuc (2 ^ 31 - 1)) (pos (2 ^ 31 - 1)) p x n h)
linked_counted reads counts counted p (Value x) n (is, h) = inr (is, counted p x n h)

-- a link or a value has one count
pub linked_one : (counts : Place → ℕ → Type 0)
    (one : (p : Place) (m n : ℕ) → counts p m → counts p n → m ≡ n)
    (p : Place) (m n : ℕ) → CountsLinked counts p m → CountsLinked counts p n → m ≡ n
linked_one counts one p m n (inl (a, h)) (inl (b, k)) =
    signed_one (negsuc (2 ^ 31 - 1)) (pos (2 ^ 31 - 1)) p m n h k
linked_one counts one p m n (inl (a, h)) (inr (b, k)) = absurd (not_both p a b)
linked_one counts one p m n (inr (a, h)) (inl (b, k)) = absurd (not_both p b a)
linked_one counts one p m n (inr (a, h)) (inr (b, k)) = one p m n h k
