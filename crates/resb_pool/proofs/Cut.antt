-- A cut moves.
use Rattle.std.proofs.Common.{rules, ◌≡◌, ℕ, List, [], ◌∷◌, ◌++◌, length, take, true}
use Rattle.std.proofs.Common.{reverse, sym, ◌∙◌, ap, subst, append-nil, append_assoc}
use Rattle.std.proofs.Common.{encode_utf8, refl, ◌≤◌, arith, drop}
use Rattle.std.specs.Char.{IsScalar}
use Rattle.std.specs.Str.{IsUtf8, chars, all_scalars, encode_utf8_all as encodes}
use Rattle.std.proofs.Math.Seq.{take-append_seam}
use Rattle.std.proofs.lemmas.Str.{IsUtf8-encode, IsUtf8-append, IsUtf8-nil}
use Rattle.std.proofs.lemmas.Str.{encodes-chars, encodes-append, chars-append, chars-encodes}
use Rattle.std.proofs.lemmas.List.{reverse-append, reverse-reverse, take-append-drop}
use Rattle.resb_pool.specs.Inner.Extends.{Extends}
use Rattle.resb_pool.specs.Inner.Cuts.{chars_backwards, IsCut, IsShared, ShareEnd}
use Rattle.resb_pool.specs.Records.{EndsWith}
use Rattle.std.proofs.Math.Seq.{take-append_seam}
use Rattle.std.proofs.lemmas.Str.{IsCharBoundary-at_seam, IsUtf8-take}

-- what stands before a text's tail is a text
pub rest_utf8 : (t xs ys : List ℕ) → t ≡ xs ++ ys → IsUtf8 t → IsUtf8 ys → IsUtf8 xs
rest_utf8 t xs ys e u v =
    let w : IsUtf8 (take (length xs) t) =
    IsUtf8-take t (length xs) u (IsCharBoundary-at_seam t xs ys e v) in
    let f : take (length xs) t ≡ xs = rw e (take-append_seam xs ys) in
    subst IsUtf8 f w

-- the whole text is the front
pub cut_whole : (t x : List ℕ) → IsUtf8 t → x ≡ t → IsCut t x []
cut_whole t x u e = record {
  is = sym e ∙ sym (append-nil x);
  rest_utf8 = subst IsUtf8 (sym e) u;
  tail_utf8 = IsUtf8-nil;
}

-- the last character of the front goes over to the tail
pub cut_more : (t x y tail : List ℕ) (c : ℕ) → IsCut t x tail → x ≡ y ++ encode_utf8 c → IsScalar c
    → IsCut t y (encode_utf8 c ++ tail)
cut_more t x y tail c h e s = record {
  is = h.is ∙ ap (λ l. l ++ tail) e ∙ append_assoc y (encode_utf8 c) tail;
  rest_utf8 = rest_utf8 x y (encode_utf8 c) e h.rest_utf8 (IsUtf8-encode c s);
  tail_utf8 = IsUtf8-append (encode_utf8 c) tail (IsUtf8-encode c s) h.tail_utf8;
}

pub key_cut : (t f s : List ℕ) → IsCut t f s
    → chars_backwards t ≡ chars_backwards s ++ chars_backwards f
key_cut t f s h = ap chars_backwards h.is ∙ ap reverse (chars-append f s h.rest_utf8)
    ∙ reverse-append (chars f) (chars s)

pub cut_extends : (t f s : List ℕ) → IsCut t f s → Extends (chars_backwards t) (chars_backwards s)
cut_extends t f s h = record { rest = chars_backwards f; is = key_cut t f s h }

pub chars_encode : (c : ℕ) → IsScalar c → chars (encode_utf8 c) ≡ c ∷ []
chars_encode c s =
    let u : IsUtf8 (encode_utf8 c) = IsUtf8-encode c s in
    ap chars (sym (append-nil (encode_utf8 c))) ∙ chars-encodes (c ∷ []) (one_scalar c s)
  where
    one_scalar : (c : ℕ) → IsScalar c → all_scalars (c ∷ []) ≡ true
    one_scalar c s = search rules

pub key_last : (x y : List ℕ) (c : ℕ) → IsCut x y (encode_utf8 c) → IsScalar c
    → chars_backwards x ≡ c ∷ chars_backwards y
key_last x y c h s = key_cut x y (encode_utf8 c) h
    ∙ ap (λ l. reverse l ++ chars_backwards y) (chars_encode c s)

pub text_of_key : (t : List ℕ) → IsUtf8 t → t ≡ encodes (reverse (chars_backwards t))
text_of_key t u = sym (ap encodes (reverse-reverse (chars t)) ∙ encodes-chars t u)

pub key_same : (s t : List ℕ) → IsUtf8 s → IsUtf8 t → chars_backwards s ≡ chars_backwards t → s ≡ t
key_same s t u v e = text_of_key s u ∙ ap (λ l. encodes (reverse l)) e ∙ sym (text_of_key t v)

-- where a text's characters go on from those of s, the text is cut before s
pub cut_back : (t s : List ℕ) → IsUtf8 t → IsUtf8 s
    → Extends (chars_backwards t) (chars_backwards s) → (w : List ℕ)
    × IsCut t w s
cut_back t s u v h =
    let w = encodes (reverse h.rest) in
    let e : t ≡ w ++ s =
    text_of_key t u ∙ ap (λ l. encodes (reverse l)) h.is
    ∙ ap encodes (reverse-append (chars_backwards s) h.rest)
    ∙ encodes-append (reverse h.rest) (reverse (chars_backwards s))
    ∙ ap (λ l. w ++ l) (sym (text_of_key s v)) in
    (w, record { is = e; rest_utf8 = rest_utf8 t w s e u v; tail_utf8 = v })

-- the front is cut again
pub cut_deeper : (t w s x z : List ℕ) → IsCut t w s → IsCut w x z → IsCut t x (z ++ s)
cut_deeper t w s x z h k = record {
  is = h.is ∙ ap (λ l. l ++ s) k.is ∙ append_assoc x z s;
  rest_utf8 = k.rest_utf8;
  tail_utf8 = IsUtf8-append z s k.tail_utf8 h.tail_utf8;
}

-- of what is left, an end that both share is left out too
pub shared_deeper : (s t x y u v : List ℕ) → IsShared s t x y → IsShared x y u v → IsShared s t u v
shared_deeper s t x y u v h k = record {
  tail = k.tail ++ h.tail;
  left = cut_deeper s x h.tail u k.tail h.left k.left;
  right = cut_deeper t y h.tail v k.tail h.right k.right;
}

pub ends_extends : (t s : List ℕ) → IsUtf8 t → IsUtf8 s → EndsWith t s
    → Extends (chars_backwards t) (chars_backwards s)
ends_extends t s u v h = cut_extends t h.front s (record {
  is = h.is;
  rest_utf8 =
      rest_utf8 t h.front s h.is u v;
  tail_utf8 = v;
})

pub extends_ends : (t s : List ℕ) → IsUtf8 t → IsUtf8 s
    → Extends (chars_backwards t) (chars_backwards s) → EndsWith t s
extends_ends t s u v h = (let w = cut_back t s u v h in record { front = w.0; is = w.1.is })

-- an end of both is what they share
pub shared_end : (s t x y z : List ℕ) → IsUtf8 t → IsCut s x z → t ≡ y ++ z → IsShared s t x y
shared_end s t x y z u h e = record {
  tail = z;
  left = h;
  right = record {
    is = e;
    rest_utf8 = rest_utf8 t y z e u h.tail_utf8;
    tail_utf8 = h.tail_utf8;
  };
}

-- nothing is an end of both
pub nothing_shared : (s t : List ℕ) → IsUtf8 s → IsUtf8 t → IsShared s t s t
nothing_shared s t u v = record {
  tail = [];
  left = cut_whole s s u refl;
  right = cut_whole t t v refl;
}

-- a list in two, by what each part is
pub in_parts : (xs u z : List ℕ) (n : ℕ) → u ≡ take n xs → z ≡ drop n xs → xs ≡ u ++ z
in_parts xs u z n e f =
    sym (take-append-drop n xs) ∙ ap (λ l. l ++ drop n xs) (sym e) ∙ ap (λ l. u ++ l) (sym f)

-- of bytes too nothing is an end of both
pub no_end : (xs ys : List ℕ) → ShareEnd xs ys xs ys
no_end xs ys = record { tail = []; left = sym (append-nil xs); right = sym (append-nil ys) }

-- and more is, if what is left ends with the same
pub more_end : (xs ys us vs u v z : List ℕ) → ShareEnd xs ys us vs → us ≡ u ++ z → vs ≡ v ++ z
    → ShareEnd xs ys u v
more_end xs ys us vs u v z h e f = record {
  tail = z ++ h.tail;
  left = h.left ∙ ap (λ l. l ++ h.tail) e ∙ append_assoc u z h.tail;
  right = h.right ∙ ap (λ l. l ++ h.tail) f ∙ append_assoc v z h.tail;
}

-- a list that is cut at two places
cut_twice : (us tail a e : List ℕ) → us ++ tail ≡ a ++ e → length us ≤ length a
    → (t : List ℕ) × (tail ≡ t ++ e)
cut_twice [] tail a e q l = (a, q)
cut_twice (u ∷ us) tail [] e q l = absurd (omega (arith, l))
cut_twice (u ∷ us) tail (x ∷ a) e q l =
    let r : us ++ tail ≡ a ++ e = cc in cut_twice us tail a e r (omega (arith, l))

-- a part of the end that both share
pub end_within : (xs ys us vs a e : List ℕ) → ShareEnd xs ys us vs → xs ≡ a ++ e
    → length us ≤ length a → (b : List ℕ) × (ys ≡ b ++ e)
end_within xs ys us vs a e h is l =
    let t = cut_twice us h.tail a e (sym h.left ∙ is) l in
    (vs ++ t.0, h.right ∙ ap (λ z. vs ++ z) t.1 ∙ sym (append_assoc vs t.0 e))
