-- A plan among some texts is one among the same texts as another list or fact tells them.
use Rattle.std.proofs.Common.{ℕ, List, inl, inr, ◌↔◌, Option}
use Rattle.resb_pool.specs.Container.{IsTop}
use Rattle.resb_pool.specs.Plan.{IsPlanAmong}
use Rattle.resb_pool.specs.Pool.{Saved, Precedes, fewer_units, saves_more, smaller_text}
use Rattle.resb_pool.specs.declared.packing.Packing.{Packing}
use Rattle.resb_pool.specs.declared.packing.Packing.TheVariants.{Plain, Compact}

module _ (A B : List ℕ → Type 0) (same : (t : List ℕ) → A t ↔ B t) where
  top_among : (r : List ℕ) → IsTop A r → IsTop B r
  top_among r h = record {
    given = (same r).0 h.given;
    nonempty = h.nonempty;
    alone = λ t b. h.alone t ((same t).1 b);
  }

  top_back : (r : List ℕ) → IsTop B r → IsTop A r
  top_back r h = record {
    given = (same r).1 h.given;
    nonempty = h.nonempty;
    alone = λ t a. h.alone t ((same t).0 a);
  }

  module _ (way : Packing) (S : List (List ℕ)) where
    saved_among : (r : List ℕ) (n : ℕ) → Saved way A S r n → Saved way B S r n
    saved_among r n h = by way h
      where
        by : (w : Packing) → Saved w A S r n → Saved w B S r n
        by Plain x = x
        by Compact x = elim x [
          | inl y ↦ inl (top_among r y.0, y.1)
          | inr y ↦ inr (λ t. y.0 (top_back r t), y.1)
        ]

    precedes_among : (r q : List ℕ) → Precedes way A S r q → Precedes way B S r q
    precedes_among r q (fewer_units h) = fewer_units h
    precedes_among r q (saves_more m n e a b l) =
        saves_more m n e (saved_among r m a) (saved_among q n b) l
    precedes_among r q (smaller_text n e a b l) =
        smaller_text n e (saved_among r n a) (saved_among q n b) l

    pub plan_among : (us : List ℕ) (offset : List ℕ → Option ℕ) → IsPlanAmong way A S us offset
        → IsPlanAmong way B S us offset
    plan_among us offset p = record {
      texts = p.texts;
      short = p.short;
      room = p.room;
      records = p.records;
      pool = record {
        records = p.pool.records;
        ordered = λ k l. precedes_among _ _ (p.pool.ordered k l);
        units = p.pool.units;
      };
      offsets = p.offsets;
    }
