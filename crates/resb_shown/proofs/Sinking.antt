-- A text on its way into a writer: what the writer gained of it, and what is still to come.
use Rattle.std.specs.Prelude.{◌≡◌, ◌<◌, ◌+◌, ℕ, List, [], ◌++◌, length, Option}
use Rattle.std.specs.Prelude.{Result, Ok, Err, OnErr, IfErr, ◌≢◌}
use Rattle.std.specs.Io.KnownBytes.{Appends, Keeps}
use Rattle.std.proofs.Common.{refl, sym, ap, subst, ◌∙◌, arith, append_assoc, append-nil, inr}
use Rattle.std.proofs.lemmas.List.{length-append}
use Rattle.std.proofs.KnownBytes.{Appends-nil, Appends-trans, Appends-kept}
use Rattle.std.specs.IoError.{error_kind}
use Rattle.std.specs.declared.io.Error.{Error}
use Rattle.std.specs.declared.io.ErrorKind.TheVariants.{Interrupted}
use Rattle.resb_shown.specs.Sink.{AppendsPart, AppendsLess, FailsWriting}

-- the writer gained a text but for its rest
pub record Gained (old now : Option (List ℕ)) (text rest : List ℕ) : Type 0 where
  pub part : List ℕ
  pub is : text ≡ part ++ rest
  pub gained : Appends old now part

-- at first nothing is gained
pub gained_none : (old : Option (List ℕ)) (text : List ℕ) → Gained old old text text
gained_none old text = record { part = []; is = refl; gained = Appends-nil old }

-- what is written next comes off the rest
pub gained_more : (old now new : Option (List ℕ)) (text rest bytes left : List ℕ)
    → Gained old now text rest → rest ≡ bytes ++ left → Appends now new bytes
    → Gained old new text left
gained_more old now new text rest bytes left h e f = record {
  part = h.part ++ bytes;
  is = h.is ∙ ap (λ l. h.part ++ l) e ∙ sym (append_assoc h.part bytes left);
  gained = Appends-trans old now new h.part bytes h.gained f;
}

-- a writer that keeps what it has has gained no more
pub gained_still : (old now new : Option (List ℕ)) (text rest : List ℕ)
    → Gained old now text rest → Keeps now new → Gained old new text rest
gained_still old now new text rest h f = record {
  part = h.part;
  is = h.is;
  gained = Appends-kept old now new h.part h.gained f;
}

-- with nothing left, the text is gained
pub gained_all : (old new : Option (List ℕ)) (text rest : List ℕ) → Gained old new text rest
    → rest ≡ [] → Appends old new text
gained_all old new text rest h e =
    let f : text ≡ h.part = h.is ∙ ap (λ l. h.part ++ l) e ∙ append-nil h.part in
    let P : List ℕ → Type 0 = λ l. Appends old new l in
    subst P (sym f) h.gained

-- and else a part of it
pub gained_part : (old new : Option (List ℕ)) (text rest : List ℕ) → Gained old new text rest
    → AppendsPart old new text
gained_part old new text rest h =
    record { part = h.part; rest = rest; is = h.is; gained = h.gained }

-- more than one that is more than nothing
longer : (a b : ℕ) → 0 < a → 0 < a + b
longer a b h = omega arith

-- a part of what is left, behind what was gained
pub gained_further : (old now new : Option (List ℕ)) (text rest bytes left : List ℕ)
    → Gained old now text rest → rest ≡ bytes ++ left → AppendsLess now new bytes
    → AppendsLess old new text
gained_further old now new text rest bytes left h e f =
    let all : Gained old new text (f.rest ++ left) =
    gained_more old now new text rest f.part (f.rest ++ left) h
    (e ∙ ap (λ l. l ++ left) f.is ∙ append_assoc f.part f.rest left) f.gained in
    record {
      part = all.part;
      rest = f.rest ++ left;
      is = all.is;
      left = rw (length-append f.rest left) (longer (length f.rest) (length left) f.left);
      gained = all.gained;
    }

-- where a writer fails at some of a text, that one isn't written
pub fails_further : {T : Type 0} (r : Result T Error) (old now new : Option (List ℕ))
    (text rest bytes left : List ℕ) → Gained old now text rest → rest ≡ bytes ++ left
    → OnErr r (AppendsLess now new bytes) → IfErr r (λ e. error_kind e ≢ Interrupted)
    → IfErr r (FailsWriting old new text)
fails_further (Ok x) old now new text rest bytes left h is less kind = tt
fails_further (Err e) old now new text rest bytes left h is less kind =
    inr (gained_further old now new text rest bytes left h is less, kind)

-- what is gained but for some of it is a part
pub less_part : (old new : Option (List ℕ)) (text : List ℕ) → AppendsLess old new text
    → AppendsPart old new text
less_part old new text h = record { part = h.part; rest = h.rest; is = h.is; gained = h.gained }

-- what holds, holds of an error too
pub on_err_holds : {T E P : Type 0} (r : Result T E) → P → OnErr r P
on_err_holds (Ok x) h = tt
on_err_holds (Err e) h = h
