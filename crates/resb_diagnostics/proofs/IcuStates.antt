-- What the last token of a text of ICU's form says of the tokens before a place.
use Rattle.std.proofs.Common.{◌≡◌, ◌∙◌, ℕ, zero, suc, ◌<◌, ◌≤◌, Bool, true, false, List}
use Rattle.std.proofs.Common.{refl, sym, ap, subst, arith, ⊎_elim, Option, Some, None}
use Rattle.std.specs.Prelude.{slice_range, not, if◌then◌else◌}
use Rattle.std.proofs.lemmas.Bool.{cases_lt, false≢true}
use Rattle.std.proofs.lemmas.Option.{none-some}
use Rattle.resb_grammar.proofs.Numbers.{places_meet}
use Rattle.resb_diagnostics.specs.Groups.{named_by}
use Rattle.resb_diagnostics.specs.Items.{IsRightBefore, IsLastBefore}
use Rattle.resb_diagnostics.specs.IcuWarnings.{icu_token_at, is_behind_colon, is_string, line_ended}
use Rattle.resb_diagnostics.specs.IcuWarnings.{is_digit}
use Rattle.resb_diagnostics.specs.IcuWarnings.{behind_plain_word, last_named, behind_icu_token}
use Rattle.resb_diagnostics.specs.IcuWarnings.{behind_some, icu_last_at}
use Rattle.resb_diagnostics.specs.IcuCauses.{is_sign, start_of, type_of, is_integer_or_array}
use Rattle.resb_diagnostics.specs.IcuCauses.{is_some_string}
use Rattle.resb_diagnostics.specs.IcuCauses.{HasBegun, IsBehindOpening, IsFirstIn, IsFirstInteger}
use Rattle.resb_diagnostics.specs.IcuCauses.{Row, begins, silent, goes_on, BeginsRow}
use Rattle.resb_diagnostics.specs.declared.named.Named.{Named}
use Rattle.resb_diagnostics.specs.declared.named.Named.TheVariants as named
use Rattle.resb_diagnostics.specs.declared.icu_tokens.IcuToken.{IcuToken}
use Rattle.resb_diagnostics.specs.declared.icu_tokens.IcuToken.TheVariants as token
use Rattle.resb_diagnostics.specs.declared.icu_tokens.IcuLast.{IcuLast}
use Rattle.resb_diagnostics.proofs.ItemsLemmas.{last_on, last_one}
use Rattle.resb_diagnostics.proofs.IcuStateLemmas.{State, at_start, behind_type, in_integers}
use Rattle.resb_diagnostics.proofs.IcuStateLemmas.{in_group, in_first, in_member, elsewhere}
use Rattle.resb_diagnostics.proofs.IcuStateLemmas.{state_of, string_on, type_on, open_on}
use Rattle.resb_diagnostics.proofs.IcuStateLemmas.{named_state, open_state}
use Rattle.resb_diagnostics.proofs.IcuStateLemmas.{close_state, step_string, kind, string_kind}
use Rattle.resb_diagnostics.proofs.IcuStateLemmas.{sign_kind, string_no_type, right_on}
use Rattle.resb_diagnostics.proofs.IcuStateLemmas.{right_off, right_here, is_here, type_same}
use Rattle.resb_diagnostics.proofs.IcuStateLemmas.{start_stays, state_number, array_is_other}
use Rattle.resb_diagnostics.proofs.IcuStateLemmas.{types_are_either}

module _ (text : List ℕ) where
  begun_on : (n : ℕ) → HasBegun text n → HasBegun text (suc n)
  begun_on n h = record {
    at = h.at;
    before = omega (arith, h.before);
    sign = h.sign;
    stands = h.stands;
    is_one = h.is_one;
  }

  begun_by : (m n : ℕ) → m ≤ n → HasBegun text m → HasBegun text n
  begun_by m n low h = record {
    at = h.at;
    before = omega (arith, low, h.before);
    sign = h.sign;
    stands = h.stands;
    is_one = h.is_one;
  }

  begun_off : (n : ℕ) (o : Option IcuToken) → icu_token_at text n ≡ o → kind o ≤ 2
      → HasBegun text (suc n) → HasBegun text n
  begun_off n o e low h =
      ⊎_elim (λ (w : h.at < n). record {
        at = h.at;
        before = w;
        sign = h.sign;
        stands = h.stands;
        is_one = h.is_one;
      })
      (λ (w : n ≤ h.at). let same : h.at ≡ n = omega (arith, w, h.before) in
      let k = sign_kind h.sign h.is_one in
      let t = ap kind (sym h.stands ∙ ap (icu_token_at text) same ∙ e) in
      absurd (omega (arith, low, k, t))) (cases_lt h.at n)

  -- the token before a place is no `{`
  pub not_opening : (n : ℕ) (o l : Option IcuToken) → IsLastBefore (icu_token_at text) n o
      → (kind o ≡ 3 → ⊥) → IsBehindOpening text n l → ⊥
  not_opening n o l b isnt h =
      isnt (ap kind (last_one (icu_token_at text) n o (Some (token.Open h.place)) b h.opens))

  -- one token stands before the last `{`
  pub one_opening : (n : ℕ) (a b : Option IcuToken) → IsBehindOpening text n a
      → IsBehindOpening text n b → a ≡ b
  one_opening n a b h k =
      let same : h.opens.at ≡ k.opens.at = places_meet h.opens.at k.opens.at
      (λ w. none-some (token.Open k.place)
      (sym (h.opens.none k.opens.at w k.opens.before) ∙ k.opens.ends))
      (λ w. none-some (token.Open h.place)
      (sym (k.opens.none h.opens.at w h.opens.before) ∙ h.opens.ends)) in
      last_one (icu_token_at text) k.opens.at a b
      (subst (λ i. IsLastBefore (icu_token_at text) i a) same h.before) k.before

  opening_on : (n : ℕ) (l : Option IcuToken) → IsBehindOpening text n l
      → icu_token_at text n ≡ None → IsBehindOpening text (suc n) l
  opening_on n l h e = record {
    place = h.place;
    opens = right_on (icu_token_at text) n (token.Open h.place) h.opens e;
    begun = h.begun;
    before = h.before;
  }

  opening_off : (n : ℕ) (l : Option IcuToken) → IsBehindOpening text (suc n) l
      → icu_token_at text n ≡ None → IsBehindOpening text n l
  opening_off n l h e = record {
    place = h.place;
    opens = right_off (icu_token_at text) n (token.Open h.place) h.opens e;
    begun = h.begun;
    before = h.before;
  }

  first_off : (n : ℕ) → IsFirstIn text (suc n) → icu_token_at text n ≡ None
      → IsFirstIn text n
  first_off n h e =
      record { last = h.last; opening = opening_off n h.last h.opening e; neither = h.neither }

  integer_off : (n : ℕ) → IsFirstInteger text (suc n) → icu_token_at text n ≡ None
      → IsFirstInteger text n
  integer_off n h e =
      record { last = h.last; opening = opening_off n h.last h.opening e; integer = h.integer }

  -- behind a `{` what stands before it
  opened_here : (n m : ℕ) (l : Option IcuToken) → icu_token_at text n ≡ Some (token.Open m)
      → HasBegun text n → IsLastBefore (icu_token_at text) n l → IsBehindOpening text (suc n) l
  opened_here n m l e b before = record {
    place = m;
    opens = right_here (icu_token_at text) n (token.Open m) e;
    begun = b;
    before = before;
  }

  begun_here : (n m : ℕ) (l : Option IcuToken) → icu_token_at text n ≡ Some (token.Open m)
      → IsBehindOpening text (suc n) l → HasBegun text n
  begun_here n m l e h =
      subst (HasBegun text)
      (is_here (icu_token_at text) n (token.Open m) (token.Open h.place) e h.opens) h.begun

  before_here : (n m : ℕ) (l : Option IcuToken) → icu_token_at text n ≡ Some (token.Open m)
      → IsBehindOpening text (suc n) l → IsLastBefore (icu_token_at text) n l
  before_here n m l e h =
      subst (λ i. IsLastBefore (icu_token_at text) i l)
      (is_here (icu_token_at text) n (token.Open m) (token.Open h.place) e h.opens) h.before

  pub begun_opening : (n : ℕ) (l : Option IcuToken) → IsBehindOpening text n l → HasBegun text n
  begun_opening n l h =
      let low = h.opens.before in begun_by h.opens.at n (omega (arith, low)) h.begun

  -- what is known behind each state
  pub record IsElsewhere (n : ℕ) : Type 0 where
    pub begun : HasBegun text n
    pub last : Option IcuToken
    pub before : IsLastBefore (icu_token_at text) n last
    pub no_string : is_some_string text last ≡ false
    pub neither : is_integer_or_array (type_of text last) ≡ false
    pub no_first : IsFirstIn text n → ⊥
    pub no_integer : IsFirstInteger text n → ⊥

  pub record IsType (n : ℕ) (t : Named) : Type 0 where
    pub begun : HasBegun text n
    pub last : IcuToken
    pub before : IsLastBefore (icu_token_at text) n (Some last)
    pub no_string : is_string text last ≡ false
    pub word : kind (Some last) ≡ 2
    pub names : type_of text (Some last) ≡ t

  pub record IsRow (n : ℕ) (joined : Option ℕ) : Type 0 where
    pub from : ℕ
    pub begins : BeginsRow text from
    pub row : Row text from n joined

  abbrev pub Shows : ℕ → State → Type 0
  Shows n at_start = HasBegun text n → ⊥
  Shows n (behind_type t) = IsType n t
  Shows n in_integers = IsFirstInteger text n
  Shows n in_group = IsFirstIn text n
  Shows n (in_first joined) = (r : IsRow n joined) × IsFirstIn text r.from
  Shows n (in_member joined) = (r : IsRow n joined) × (IsFirstIn text r.from → ⊥)
  Shows n elsewhere = IsElsewhere n

  -- a row has a last string
  pub record LastString (n : ℕ) : Type 0 where
    pub string : IcuToken
    pub before : IsRightBefore (icu_token_at text) n string
    pub is_one : is_string text string ≡ true

  pub row_last : (from n : ℕ) (joined : Option ℕ) → Row text from n joined → LastString n
  row_last from n joined (begins t e s) = record {
    string = t;
    before = right_here (icu_token_at text) from t e;
    is_one = s;
  }
  row_last from n joined (silent m _ r e) =
      let h = row_last from m joined r in record {
        string = h.string;
        before = right_on (icu_token_at text) m h.string h.before e;
        is_one = h.is_one;
      }
  row_last from n joined (goes_on m _ t r e s) = record {
    string = t;
    before = right_here (icu_token_at text) m t e;
    is_one = s;
  }

  pub row_order : (from n : ℕ) (joined : Option ℕ) → Row text from n joined → from < n
  row_order from n joined (begins t e s) = omega arith
  row_order from n joined (silent m _ r e) =
      let h = row_order from m joined r in omega (arith, h)
  row_order from n joined (goes_on m j t r e s) =
      let h = row_order from m j r in omega (arith, h)

  row_begun : (n : ℕ) (joined : Option ℕ) → IsRow n joined → HasBegun text n
  row_begun n joined r =
      let h = row_order r.from n joined r.row in
      begun_by r.from n (omega (arith, h)) r.begins.begun

  -- behind a place where no token stands
  quiet : (n : ℕ) (s : State) → icu_token_at text n ≡ None → Shows n s → Shows (suc n) s
  quiet n at_start e h = λ b. h (begun_off n None e (omega arith) b)
  quiet n (behind_type t) e h = record {
    begun = begun_on n h.begun;
    last = h.last;
    before = right_on (icu_token_at text) n h.last h.before e;
    no_string = h.no_string;
    word = h.word;
    names = h.names;
  }
  quiet n in_integers e h = record {
    last = h.last;
    opening = opening_on n h.last h.opening e;
    integer = h.integer;
  }
  quiet n in_group e h = record {
    last = h.last;
    opening = opening_on n h.last h.opening e;
    neither = h.neither;
  }
  quiet n (in_first joined) e h =
      (record { from = h.0.from; begins = h.0.begins; row = silent n joined h.0.row e }, h.1)
  quiet n (in_member joined) e h =
      (record { from = h.0.from; begins = h.0.begins; row = silent n joined h.0.row e }, h.1)
  quiet n elsewhere e h = record {
    begun = begun_on n h.begun;
    last = h.last;
    before = last_on (icu_token_at text) n None h.last e h.before;
    no_string = h.no_string;
    neither = h.neither;
    no_first = λ f. h.no_first (first_off n f e);
    no_integer = λ f. h.no_integer (integer_off n f e);
  }

  -- a row begins
  abbrev row_here : (n : ℕ) (t : IcuToken) (l : Option IcuToken) → icu_token_at text n ≡ Some t
      → is_string text t ≡ true → HasBegun text n → IsLastBefore (icu_token_at text) n l
      → is_some_string text l ≡ false → IsRow (suc n) None
  row_here n t l e s b before isnt = record {
    from = n;
    begins = record { begun = b; last = l; before = before; no_string = isnt };
    row = begins t e s;
  }

  -- behind a string
  string_shows : (n : ℕ) (s : State) (t : IcuToken) → icu_token_at text n ≡ Some t
      → is_string text t ≡ true → Shows n s
      → Shows (suc n) (string_on s (line_ended text (start_of t)) (start_of t))
  string_shows n at_start t e is h =
      λ b. h (begun_off n (Some t) e (string_kind text t is) b)
  string_shows n (behind_type k) t e is h = (
    row_here n t (Some h.last) e is h.begun h.before h.no_string,
    λ f. not_opening n (Some h.last) f.last h.before
        (λ o. let w = h.word in omega (arith, o, w)) f.opening,
  )
  string_shows n in_integers t e is h = (
    row_here n t (Some (token.Open h.opening.place)) e is (begun_opening n h.last h.opening)
        h.opening.opens refl,
    λ f. let same = one_opening n f.last h.last f.opening h.opening in
        false≢true (sym f.neither
        ∙ ap is_integer_or_array (ap (type_of text) same ∙ h.integer)),
  )
  string_shows n in_group t e is h = (
    row_here n t (Some (token.Open h.opening.place)) e is (begun_opening n h.last h.opening)
        h.opening.opens refl,
    h,
  )
  string_shows n (in_first joined) t e is h =
      let row = goes_on n joined t h.0.row e is in
      (record { from = h.0.from; begins = h.0.begins; row = row }, h.1)
  string_shows n (in_member joined) t e is h =
      let row = goes_on n joined t h.0.row e is in
      (record { from = h.0.from; begins = h.0.begins; row = row }, h.1)
  string_shows n elsewhere t e is h =
      (row_here n t h.last e is h.begun h.before h.no_string, h.no_first)

  -- behind a token that is neither a string nor a `{`, and names no list
  elsewhere_here : (n : ℕ) (t : IcuToken) → icu_token_at text n ≡ Some t
      → HasBegun text (suc n) → is_string text t ≡ false
      → is_integer_or_array (type_of text (Some t)) ≡ false → (kind (Some t) ≡ 3 → ⊥)
      → IsElsewhere (suc n)
  elsewhere_here n t e b s l isnt =
      let r = right_here (icu_token_at text) n t e in record {
        begun = b;
        last = Some t;
        before = r;
        no_string = s;
        neither = l;
        no_first = λ f. not_opening (suc n) (Some t) f.last r isnt f.opening;
        no_integer = λ f. not_opening (suc n) (Some t) f.last r isnt f.opening;
      }

  sign_here : (n : ℕ) (t : IcuToken) → icu_token_at text n ≡ Some t → is_sign t ≡ true
      → HasBegun text (suc n)
  sign_here n t e s =
      record { at = n; before = omega arith; sign = t; stands = e; is_one = s }

  -- the root's `{`, or that of an array
  other_opening : (n m : ℕ) → icu_token_at text n ≡ Some (token.Open m)
      → (IsFirstIn text (suc n) → ⊥) → (IsFirstInteger text (suc n) → ⊥)
      → IsElsewhere (suc n)
  other_opening n m e first integer = record {
    begun = sign_here n (token.Open m) e refl;
    last = Some (token.Open m);
    before = right_here (icu_token_at text) n (token.Open m) e;
    no_string = refl;
    neither = refl;
    no_first = first;
    no_integer = integer;
  }

  -- a `{` that is neither the root's, nor behind a type of a list
  group_opening : (n m : ℕ) → icu_token_at text n ≡ Some (token.Open m) → HasBegun text n
      → (o : Option IcuToken) → IsLastBefore (icu_token_at text) n o
      → is_integer_or_array (type_of text o) ≡ false → IsFirstIn text (suc n)
  group_opening n m e b o before l =
      record { last = o; opening = opened_here n m o e b before; neither = l }

  open_shows : (n m : ℕ) (s : State) → icu_token_at text n ≡ Some (token.Open m) → Shows n s
      → ((t : Named) → s ≡ behind_type t → is_integer_or_array t ≡ true)
      → Shows (suc n) (open_on s)
  open_shows n m at_start e h k =
      other_opening n m e (λ f. h (begun_here n m f.last e f.opening))
      (λ f. h (begun_here n m f.last e f.opening))
  open_shows n m (behind_type named.Integer) e h k = record {
    last = Some h.last;
    opening = opened_here n m (Some h.last) e h.begun h.before;
    integer = h.names;
  }
  open_shows n m (behind_type named.Array) e h k =
      other_opening n m e
      (λ f. let same = last_one (icu_token_at text) n f.last (Some h.last)
      (before_here n m f.last e f.opening) h.before in
      false≢true (sym f.neither ∙ ap is_integer_or_array (ap (type_of text) same ∙ h.names)))
      (λ f. let same = last_one (icu_token_at text) n f.last (Some h.last)
      (before_here n m f.last e f.opening) h.before in
      array_is_other (sym h.names ∙ sym (ap (type_of text) same) ∙ f.integer))
  open_shows n m (behind_type named.Nothing) e h k =
      absurd (false≢true (k named.Nothing refl))
  open_shows n m (behind_type named.IntVector) e h k =
      absurd (false≢true (k named.IntVector refl))
  open_shows n m (behind_type named.Another) e h k =
      absurd (false≢true (k named.Another refl))
  open_shows n m in_integers e h k =
      group_opening n m e (begun_opening n h.last h.opening) (Some (token.Open h.opening.place))
      h.opening.opens refl
  open_shows n m in_group e h k =
      group_opening n m e (begun_opening n h.last h.opening) (Some (token.Open h.opening.place))
      h.opening.opens refl
  open_shows n m (in_first joined) e h k =
      let l = row_last h.0.from n joined h.0.row in
      group_opening n m e (row_begun n joined h.0) (Some l.string) l.before
      (string_no_type text l.string l.is_one)
  open_shows n m (in_member joined) e h k =
      let l = row_last h.0.from n joined h.0.row in
      group_opening n m e (row_begun n joined h.0) (Some l.string) l.before
      (string_no_type text l.string l.is_one)
  open_shows n m elsewhere e h k = group_opening n m e h.begun h.last h.before h.neither

  -- behind a type
  type_begun : (n from to : ℕ) (t : Named)
      → icu_token_at text n ≡ Some (token.Word from to) → is_behind_colon text from ≡ true
      → named_by (slice_range text from to) ≡ t → HasBegun text n
      → Shows (suc n) (type_on t elsewhere)
  type_begun n from to t e c k b = by t k
    where
      names : (u : Named) → named_by (slice_range text from to) ≡ u
          → type_of text (Some (token.Word from to)) ≡ u
      names u w = ap (λ d. if d then named_by (slice_range text from to) else named.Nothing) c
          ∙ w

      is_type : (u : Named) → named_by (slice_range text from to) ≡ u → IsType (suc n) u
      is_type u w = record {
        begun = begun_on n b;
        last = token.Word from to;
        before = right_here (icu_token_at text) n (token.Word from to) e;
        no_string = ap not c;
        word = refl;
        names = names u w;
      }

      other : (u : Named) → named_by (slice_range text from to) ≡ u → is_integer_or_array u ≡ false
          → IsElsewhere (suc n)
      other u w l =
          elsewhere_here n (token.Word from to) e (begun_on n b) (ap not c)
          (ap is_integer_or_array (names u w) ∙ l) (λ o. omega (arith, o))

      by : (u : Named) → named_by (slice_range text from to) ≡ u
          → Shows (suc n) (type_on u elsewhere)
      by named.Integer w = is_type named.Integer w
      by named.Array w = is_type named.Array w
      by named.Nothing w = other named.Nothing w refl
      by named.IntVector w = other named.IntVector w refl
      by named.Another w = other named.Another w refl

  type_shows : (n from to : ℕ) (s : State)
      → icu_token_at text n ≡ Some (token.Word from to) → is_behind_colon text from ≡ true
      → Shows n s → Shows (suc n) (type_on (named_by (slice_range text from to)) s)
  type_shows n from to at_start e c h =
      subst (Shows (suc n)) (sym (start_stays (named_by (slice_range text from to))))
      (λ b. h (begun_off n (Some (token.Word from to)) e (omega arith) b))
  type_shows n from to (behind_type k) e c h =
      subst (Shows (suc n))
      (sym (type_same (named_by (slice_range text from to)) (behind_type k)
      (λ w. omega (arith, ap state_number w))))
      (type_begun n from to (named_by (slice_range text from to)) e c refl (h.begun))
  type_shows n from to in_integers e c h =
      subst (Shows (suc n))
      (sym (type_same (named_by (slice_range text from to)) in_integers
      (λ w. omega (arith, ap state_number w))))
      (type_begun n from to (named_by (slice_range text from to)) e c refl
      (begun_opening n h.last h.opening))
  type_shows n from to in_group e c h =
      subst (Shows (suc n))
      (sym (type_same (named_by (slice_range text from to)) in_group
      (λ w. omega (arith, ap state_number w))))
      (type_begun n from to (named_by (slice_range text from to)) e c refl
      (begun_opening n h.last h.opening))
  type_shows n from to (in_first joined) e c h =
      subst (Shows (suc n))
      (sym (type_same (named_by (slice_range text from to)) (in_first joined)
      (λ w. omega (arith, ap state_number w))))
      (type_begun n from to (named_by (slice_range text from to)) e c refl (row_begun n joined h.0))
  type_shows n from to (in_member joined) e c h =
      subst (Shows (suc n))
      (sym (type_same (named_by (slice_range text from to)) (in_member joined)
      (λ w. omega (arith, ap state_number w))))
      (type_begun n from to (named_by (slice_range text from to)) e c refl (row_begun n joined h.0))
  type_shows n from to elsewhere e c h =
      subst (Shows (suc n))
      (sym (type_same (named_by (slice_range text from to)) elsewhere
      (λ w. omega (arith, ap state_number w))))
      (type_begun n from to (named_by (slice_range text from to)) e c refl (h.begun))

  -- what the token at a place leads to
  token_shows : (n : ℕ) (t : IcuToken) (l : IcuLast) → icu_token_at text n ≡ Some t
      → Shows n (state_of l) → Shows (suc n) (state_of (behind_icu_token text t l))
  token_shows n (token.Piece m) l e h =
      subst (Shows (suc n)) (sym (step_string text (token.Piece m) l refl))
      (string_shows n (state_of l) (token.Piece m) e refl h)
  token_shows n (token.Word from to) l e h = by (is_behind_colon text from) refl
    where
      w : IcuToken
      w = token.Word from to

      by : (b : Bool) → is_behind_colon text from ≡ b
          → Shows (suc n) (state_of (behind_icu_token text (token.Word from to) l))
      by true c =
          subst (Shows (suc n))
          (sym (ap (λ b. state_of (if b then last_named (named_by (slice_range text from to)) l
          else behind_plain_word from (line_ended text from)
          (is_digit (slice_range text from to)) l)) c
          ∙ named_state (named_by (slice_range text from to)) l))
          (type_shows n from to (state_of l) e c h)
      by false c =
          subst (Shows (suc n)) (sym (step_string text (token.Word from to) l (ap not c)))
          (string_shows n (state_of l) (token.Word from to) e (ap not c) h)
  token_shows n (token.Open m) l e h =
      subst (Shows (suc n)) (sym (open_state m l))
      (open_shows n m (state_of l) e h (types_are_either l))
  token_shows n token.Close l e h =
      subst (Shows (suc n)) (sym (close_state l))
      (elsewhere_here n token.Close e (sign_here n token.Close e refl) refl refl
      (λ o. omega (arith, o)))
  token_shows n token.Comma l e h =
      elsewhere_here n token.Comma e (sign_here n token.Comma e refl) refl refl
      (λ o. omega (arith, o))

  some_shows : (n : ℕ) (o : Option IcuToken) → icu_token_at text n ≡ o
      → Shows n (state_of (icu_last_at text n))
      → Shows (suc n) (state_of (behind_some text o (icu_last_at text n)))
  some_shows n None e h = quiet n (state_of (icu_last_at text n)) e h
  some_shows n (Some t) e h = token_shows n t (icu_last_at text n) e h

  pub shows : (n : ℕ) → Shows n (state_of (icu_last_at text n))
  shows zero = λ b. let low = b.before in omega (arith, low)
  shows (suc n) = some_shows n (icu_token_at text n) refl (shows n)
