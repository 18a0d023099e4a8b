-- One record more is listed: the steps of `records_in`.
use Rattle.std.proofs.Common.{ℕ, List, [], ◌∷◌, ◌++◌, ◌≡◌, ◌+◌, ◌≤◌, ◌^◌, ◌⊎◌, inl, inr, length}
use Rattle.std.proofs.Common.{sym, ap, ◌∙◌, subst, arith}
use Rattle.std.specs.List.{All, Contains}
use Rattle.std.specs.String.{string_bytes}
use Rattle.std.proofs.lemmas.List.{map_push}
use Rattle.std.proofs.lemmas.List.Elements.{All-push, Contains-push, Contains-append_left}
use Rattle.resb_format.specs.Units.{size}
use Rattle.resb_lent.specs.LentTexts.{StandsAt, Reaches, at_end, past}
use Rattle.resb_lent.specs.Inner.Listed.{IsRecordAt, IsListed, ListsRecords, ListsUpTo}
use Rattle.resb_lent.specs.Entries.{pairs}
use Rattle.resb_lent.specs.Entries.{pair_of}
use Rattle.resb_lent.specs.declared.lent_record.LentRecord.{LentRecord}
use Rattle.resb_lent.proofs.Standing.{one_record, reaches_next}

pub none_listed : (block : List ℕ) (es : List LentRecord) → es ≡ [] → ListsUpTo block es 1
none_listed block es e = record {
  sound = λ i d l. absurd (omega (arith, l, ap length e));
  reached = at_end;
  complete = λ r p h s. inr h;
}

pub one_listed : (block : List ℕ) (es more : List LentRecord) (e : LentRecord) (at : ℕ)
    → more ≡ es ++ e ∷ [] → ListsUpTo block es at → IsRecordAt block at e
    → ListsUpTo block more e.end
one_listed block es more e at m was is = record {
  sound = subst (All (IsListed block)) (sym m) (All-push (IsListed block) es e was.sound own);
  reached = subst (Reaches block 1) (sym is.end)
      (reaches_next block text 1 at was.reached is.stands);
  complete = λ r p h s. elim (was.complete r p h s) [
    | inl c ↦ inl (within r p c)
    | inr t ↦ last r p t s
  ];
}
  where
    text : List ℕ
    text = string_bytes e.text

    same : at ≡ e.at
    same = sym is.place

    own : IsListed block e
    own = record {
      reached = subst (Reaches block 1) same was.reached;
      own = subst (λ n. IsRecordAt block n e) same is;
    }

    all : pairs more ≡ pairs es ++ pair_of e ∷ []
    all = ap pairs m ∙ map_push pair_of es e

    within : (r : List ℕ) (p : ℕ) → Contains (pairs es) (r, p) → Contains (pairs more) (r, p)
    within r p c = subst (λ (l : List (List ℕ × ℕ)). Contains l (r, p)) (sym all)
        (Contains-append_left (pairs es) (pair_of e ∷ []) (r, p) c)

    here : (r : List ℕ) → StandsAt block at r → Contains (pairs more) (r, at)
    here r s =
        let f : pair_of e ≡ (r, at) =
        ap (λ t. (t, e.at)) (one_record block at text r is.stands s)
        ∙ ap (λ n. (r, n)) is.place in
        subst (λ (l : List (List ℕ × ℕ)). Contains l (r, at)) (sym all)
        (subst (Contains (pairs es ++ pair_of e ∷ [])) f (Contains-push (pairs es) (pair_of e)))

    last : (r : List ℕ) (p : ℕ) → Reaches block at p → StandsAt block p r
        → Contains (pairs more) (r, p) ⊎ Reaches block e.end p
    last r p at_end s = inl (here r s)
    last r p (past q k rest) s =
        let f : at + size q ≡ e.end =
        ap (λ t. at + size t) (one_record block at q text k is.stands) ∙ sym is.end in
        inr (subst (λ n. Reaches block n p) f rest)

-- where none stands at the next place, all are listed
pub all_listed : (block : List ℕ) (es : List LentRecord) (at : ℕ) → ListsUpTo block es at
    → ((r : List ℕ) → StandsAt block at r → ⊥) → ListsRecords block es
all_listed block es at was none = record {
  sound = was.sound;
  complete = λ r p h s. elim (was.complete r p h s) [
    | inl c ↦ c
    | inr t ↦ absurd (behind r p t s)
  ];
}
  where
    behind : (r : List ℕ) (p : ℕ) → Reaches block at p → StandsAt block p r → ⊥
    behind r p at_end s = none r s
    behind r p (past q k rest) s = none q k

pub none_far : (block r : List ℕ) (at : ℕ) → 2 ^ 28 ≤ at → StandsAt block at r → ⊥
none_far block r at l s = omega (arith, l, s.near)
