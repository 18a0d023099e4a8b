-- Typed groups among the items of an open group.
use Rattle.std.proofs.Common.{◌≡◌, ◌≢◌, ◌+◌, ◌≤◌, ℕ, Bool, true, false, List, [], refl, sym, ◌∙◌}
use Rattle.std.proofs.Common.{ap, subst, arith, length, Some, inl, inr, ⊎_elim}
use Rattle.std.specs.Prelude.{not, slice_index}
use Rattle.std.proofs.lemmas.Bool.{false≢true}
use Rattle.resb_text.proofs.StepsLemmas.{type_in_table}
use Rattle.resb_grammar.specs.declared.group_kind.Kind.{Kind}
use Rattle.resb_grammar.specs.declared.group_kind.Kind.TheVariants.{
  String as string_kind,
  Array as array_kind,
  Table as table_kind,
  Binary as binary_kind,
  Integer as integer_kind,
  IntVector as vector_kind,
}
use Rattle.resb_grammar.specs.Ascii as ascii
use Rattle.resb_tree.specs.Tree.{Tree}
use Rattle.resb_grammar.specs.Lexical.{Skip}
use Rattle.resb_grammar.specs.GroupTypes.{GroupType, TypedOpening}
use Rattle.resb_grammar.specs.Group.{LeafContent, string_content, binary_content, integer_content}
use Rattle.resb_grammar.specs.Group.{vector_content}
use Rattle.resb_grammar.specs.Limit.{begun_bytes, leaf_bytes, Makes}
use Rattle.resb_grammar.specs.declared.limit.Limit.{Limit}
use Rattle.resb_grammar.specs.declared.limit.Weights.{Weights}
use Rattle.resb_grammar.specs.Inner.Content.{content_bytes}
use Rattle.resb_grammar.specs.declared.group_kind.Kind.{Kind as CodeKind}
use Rattle.resb_grammar.specs.declared.group_kind.Kind.TheVariants as kinds
use Rattle.resb_grammar.proofs.Making.{makes_on, makes_more, opening_made, begun_made}
use Rattle.resb_grammar.proofs.Making.{content_made, BeforeBrace}
use Rattle.resb_grammar.specs.Items.{Item, group_term}
use Rattle.resb_grammar.specs.Machine as machine
use Rattle.resb_grammar.specs.Machine.{Body, table_body, array_body, untyped_body, Token, a_text}
use Rattle.resb_grammar.specs.Machine.{a_number, opening, closing, a_comma, a_type, a_root_type}
use Rattle.resb_grammar.specs.Machine.{State, inside, typed, with_term, within, is_key_place}
use Rattle.resb_grammar.specs.Machine.{in_body, next}
use Rattle.resb_grammar.specs.Stuck.{expectation, expected_in, NoToken}
use Rattle.resb_text.specs.Inner.Failing.{StuckAfter, FailsAfter}
use Rattle.resb_text.specs.Inner.Leaf.{LeafGroup, LeafStops, LeafKeeps}
use Rattle.resb_text.specs.Inner.Frames.{StandsFor}
use Rattle.resb_text.specs.Inner.Quota.{KeepsQuota, TakesBytes, RunsOver}
use Rattle.resb_text.specs.Refusal.{want_of_memory}
use Rattle.resb_text.specs.Inner.Steps.{takes_group, Among, Stops, TypedOpeningFails}
use Rattle.resb_text.specs.declared.frames.Open.{Open}
use Rattle.resb_text.specs.declared.quota.Quota.{Quota}
use Rattle.resb_grammar.specs.declared.expected.Expected.TheVariants as expect
use Rattle.resb_text.specs.declared.error.TextParserError.{TextParserError}
use Rattle.resb_grammar.proofs.Moves.{none_some, no_text_colon}
use Rattle.resb_grammar.proofs.Complete.{MayOpen, type_next}
use Rattle.resb_text.proofs.HeaderReading.{error_at, stuck_in}
use Rattle.resb_text.proofs.StepsLemmas.{Leads, none_there, stuck_here, group_like, not_group_like}
use Rattle.resb_text.proofs.NoTokens.{no_token}
use Rattle.resb_text.proofs.QuotaLemmas.{quota_kept, quota_over}
use Rattle.resb_grammar.proofs.Numbers.{plus_no_bytes}

may_open : (b : Body) (xs : List Item) → takes_group b (is_key_place xs) ≡ true → MayOpen b xs
may_open table_body xs h = go (is_key_place xs) h
  where
    go : (k : Bool) → not k ≡ true → k ≡ false
    go false e = refl
    go true e = absurd (false≢true e)
may_open array_body xs h = tt
may_open untyped_body xs h = tt

colon_expected : (b : Body) (k : Bool) → takes_group b k ≡ true
    → expect.TypeName ≡ expected_in b k ascii.colon
colon_expected table_body true h = absurd (false≢true h)
colon_expected table_body false h = refl
colon_expected array_body k h = refl
colon_expected untyped_body k h = refl

-- a type that holds items begins a group
begins : (w : Weights) (kind : Kind) (body : Body)
    → ((o : machine.Open) → machine.begun_as kind o ≡ inside (within body o))
    → machine.Open → w.group ≡ begun_bytes w kind
begins w array_kind body opens o = refl
begins w table_kind body opens o = refl
begins w string_kind body opens o = let e = opens o in cc
begins w binary_kind body opens o = let e = opens o in cc
begins w integer_kind body opens o = let e = opens o in cc
begins w vector_kind body opens o = let e = opens o in cc

-- a type that holds no items begins none
leaf_kind : (w : Weights) {text : List ℕ} {from to : ℕ} {kind : Kind} {t : Tree}
    → LeafContent text from to kind t → begun_bytes w kind ≡ 0
leaf_kind w (string_content i s t skip) = refl
leaf_kind w (binary_content i s bytes t e skip) = refl
leaf_kind w (integer_content i v t skip) = refl
leaf_kind w (vector_content ns v) = refl

-- nor does one that is neither an array nor a table
pub no_items_begun : (w : Weights) (kind : CodeKind) → (kind ≢ kinds.Array) × (kind ≢ kinds.Table)
    → begun_bytes w kind ≡ 0
no_items_begun w kinds.String other = refl
no_items_begun w kinds.Array other = absurd (other.0 refl)
no_items_begun w kinds.Table other = absurd (other.1 refl)
no_items_begun w kinds.Binary other = refl
no_items_begun w kinds.Integer other = refl
no_items_begun w kinds.IntVector other = refl

module _ (text : List ℕ) where
  -- what a colon begins, if anything
  pub only_types : (at : ℕ) (o : machine.Open) → slice_index text at ≡ ascii.colon
      → ((to : ℕ) (kind : Kind) (u : State) → GroupType text at to kind → Leads o (a_type kind) u
      → ⊥)
      → NoToken text at (inside o)
  only_types at o colon never =
      none_there text at ascii.colon o (sym colon)
      (λ to s u t h. no_text_colon text at to s t colon)
      (λ e u h. absurd (omega (arith, e))) (λ e u h. absurd (omega (arith, e)))
      (λ e u h. absurd (omega (arith, e))) (λ e to kind u g h. never to kind u g h)

  -- no type stands here
  pub no_type : (at : ℕ) → slice_index text at ≡ ascii.colon
      → ((to : ℕ) (kind : Kind) → GroupType text at to kind → ⊥)
      → TypedOpeningFails text at (error_at at expect.TypeName)
  no_type at colon never o may w n made =
      stuck_in text at (inside o) expect.TypeName made
      (only_types at o colon (λ to kind u g h. never to kind g)) (λ h. h) (λ h. h) same
    where
      same : expect.TypeName ≡ expectation (inside o) (slice_index text at)
      same =
          colon_expected o.frame.body (is_key_place o.frame.items) may
          ∙ sym (ap (expected_in o.frame.body (is_key_place o.frame.items)) colon)

  -- no `{` after a type
  pub no_type_brace : (at ends brace : ℕ) (kind : Kind) → GroupType text at ends kind
      → Skip text ends brace → slice_index text brace ≢ ascii.left_brace
      → TypedOpeningFails text at (error_at brace expect.LeftBrace)
  no_type_brace at ends brace kind g skip never o may w n made =
      stuck_in text brace (typed kind o) expect.LeftBrace
      (makes_on text n n at ends brace (inside o) (typed kind o) (a_type kind) made
      (plus_no_bytes n) g
      (type_next o.title o.frame.body o.frame.items o.around kind
      (may_open o.frame.body o.frame.items may)) skip)
      (no_token text brace (typed kind o) (λ to m u is. none_some u)
      (λ to m u is. none_some u) (λ u is e. never is) (λ u is. none_some u)
      (λ u is. none_some u) (λ to m u is. none_some u) (λ to m u is. none_some u))
      (λ h. h) (λ h. h) refl

module _ {B X : Type 0} {tree : B → X → Tree} {held : B → X → Bool} {text : List ℕ} {limit : Limit}
    {here : ℕ × ℕ} {c : Open B X} {q : Quota} (x : Among tree held text limit here c q) where
  -- a typed group may stand here
  abbrev MayStand : Type 0
  MayStand = takes_group x.open_groups.frame.body (is_key_place x.open_groups.frame.items) ≡ true

  -- no type may stand here
  pub type_refused : {e : TextParserError} → here.1 ≡ ascii.colon
      → ((o : machine.Open) → StandsFor tree held c o
      → e ≡ error_at here.0 (expectation (inside o) here.1))
      → takes_group x.open_groups.frame.body (is_key_place x.open_groups.frame.items) ≡ false
      → Stops text limit q e
  type_refused colon is denied =
      stuck_here x is (only_types text here.0 x.open_groups (sym x.byte ∙ colon)
      (λ to kind u g. not_group_like x.open_groups.frame.body _
      (λ b. in_body b x.open_groups (a_type kind)) _ u (type_in_table x.open_groups kind _) denied))

  -- no type and `{` stand here
  pub opening_refused : {e : TextParserError} → MayStand → TypedOpeningFails text here.0 e
      → Stops text limit q e
  opening_refused may fails = record {
    fails = inr (fails x.open_groups may limit.weights q.made x.made);
    keeps = x.keeps;
  }

  -- a type leads to its `{`
  type_moves : (kind : Kind) → MayStand
      → next (inside x.open_groups) (a_type kind) ≡ Some (typed kind x.open_groups)
  type_moves kind may =
      group_like x.open_groups.frame.body _ (λ b. in_body b x.open_groups (a_type kind)) _
      (type_in_table x.open_groups kind _) refl refl may

  -- a group is weighed as by the quota's own weights
  group_same : q.limit.weights.group ≡ limit.weights.group
  group_same = ap (λ (l : Limit). l.weights.group) x.keeps.same

  -- a group that holds items is opened
  pub typed_group_opened : {d : Open B X} {r : Quota} {first : ℕ × ℕ} {asked : ℕ} (kind : Kind)
      {body : Body} → MayStand → TypedOpening text here.0 kind first.0 → first.0 ≤ length text
      → first.1 ≡ slice_index text first.0
      → ((o : machine.Open) → machine.begun_as kind o ≡ inside (within body o))
      → ((o : machine.Open) → StandsFor tree held c o → StandsFor tree held d (within body o))
      → asked ≡ q.limit.weights.group → TakesBytes q r asked
      → Among tree held text limit first d r
  typed_group_opened {d} {r} {first} kind {body} may begin fits byte opens then same takes =
      let adds = begins limit.weights kind body opens x.open_groups in
      record {
        open_groups = within body x.open_groups;
        shows = then x.open_groups x.shows;
        made =
            subst (λ (s : State). Makes limit.weights text r.made first.0 s) (opens x.open_groups)
            (begun_made text q.made r.made here.0 first.0 kind x.open_groups begin
            (type_moves kind may) x.made
            (omega (arith, takes.made, same, group_same, adds)));
        within = fits;
        byte = byte;
        keeps = quota_kept x.keeps takes;
      }

  -- such a group makes more than the limit
  pub opened_over : {r : Quota} {e : TextParserError} {first asked : ℕ} (kind : Kind) {body : Body}
      → MayStand → TypedOpening text here.0 kind first
      → ((o : machine.Open) → machine.begun_as kind o ≡ inside (within body o))
      → asked ≡ q.limit.weights.group → RunsOver q r asked → e ≡ want_of_memory
      → Stops text limit r e
  opened_over {r} {e} {first} kind {body} may begin opens same over none = record {
    fails = inl none;
    keeps =
        quota_over x.keeps over (λ more.
        let adds = begins limit.weights kind body opens x.open_groups in
        makes_more text q.made limit begin.brace (begin.brace + 1) (typed kind x.open_groups) _
        opening
        (opening_made text q.made here.0 first kind x.open_groups begin (type_moves kind may)
        x.made)
        (begin.opens, refl) refl (omega (arith, more, same, group_same, adds)));
  }

  -- a group that holds no items has begun, for which nothing is made yet
  leaf_begun : {first : ℕ} {kind : Kind} → MayStand → TypedOpening text here.0 kind first
      → begun_bytes limit.weights kind ≡ 0
      → Makes limit.weights text q.made first (machine.begun_as kind x.open_groups)
  leaf_begun {first} {kind} may begin none =
      begun_made text q.made q.made here.0 first kind x.open_groups begin (type_moves kind may)
      x.made (plus_no_bytes q.made ∙ ap (λ k. q.made + k) (sym none))

  -- a group that holds no items is refused
  pub leaf_refused : {e : TextParserError} {first : ℕ} {kind : Kind} {r : Quota} → MayStand
      → TypedOpening text here.0 kind first → begun_bytes limit.weights kind ≡ 0
      → LeafStops text first kind q r e
      → LeafKeeps text first kind q r → Stops text limit r e
  leaf_refused {e} {first} {kind} {r} may begin none fails kept =
      let begun : Makes q.limit.weights text q.made first (machine.begun_as kind x.open_groups) =
      subst (λ (l : Limit).
      Makes l.weights text q.made first (machine.begun_as kind x.open_groups))
      (sym x.keeps.same) (leaf_begun may begin none) in
      record {
        fails =
            subst (λ (l : Limit). FailsAfter l.weights text r.made e) x.keeps.same
            (⊎_elim (λ (h : e ≡ want_of_memory). inl h)
            (λ (h : (o : machine.Open)
            → Makes q.limit.weights text q.made first (machine.begun_as kind o)
            → StuckAfter q.limit.weights text r.made e). inr (h x.open_groups begun)) fails);
        keeps =
            subst (λ (l : Limit). KeepsQuota text l q → KeepsQuota text l r) x.keeps.same
            (kept x.open_groups begun) x.keeps;
      }

  -- a group that holds no items, up to its `}`
  before_brace : {first next : ℕ} {kind : Kind} {t : Tree} → MayStand
      → TypedOpening text here.0 kind first → (leaf : LeafGroup text first next kind t)
      → BeforeBrace limit.weights text q.made leaf.ends t x.open_groups
  before_brace {first} {next} {kind} {t} may begin leaf =
      content_made text q.made first leaf.ends kind t x.open_groups leaf.content
      (leaf_begun may begin (leaf_kind limit.weights leaf.content))

  -- its `}` makes as much by the weights of a quota that was taken from
  leaf_same : {m : Quota} {n : ℕ} (t : Tree) → TakesBytes q m n
      → leaf_bytes m.limit.weights t ≡ leaf_bytes limit.weights t
  leaf_same t content =
      ap (λ (l : Limit). leaf_bytes l.weights t) (content.same ∙ x.keeps.same)

  -- it is one item more
  pub leaf_added : {d : Open B X} {m r : Quota} {first asked : ℕ} {to : ℕ × ℕ} {kind : Kind}
      {t : Tree} → MayStand → TypedOpening text here.0 kind first
      → LeafGroup text first to.0 kind t → to.0 ≤ length text → to.1 ≡ slice_index text to.0
      → ((o : machine.Open) → StandsFor tree held c o → StandsFor tree held d (with_term
      (group_term t []) o))
      → TakesBytes q m (content_bytes t) → asked ≡ leaf_bytes m.limit.weights t
      → TakesBytes m r asked
      → Among tree held text limit to d r
  leaf_added {d} {m} {r} {first} {asked} {to} {kind} {t} may begin leaf fits byte then content same
      takes =
      let b = before_brace may begin leaf in
      let adds = b.adds in
      let own = leaf_same t content in
      record {
        open_groups = with_term (group_term t []) x.open_groups;
        shows = then x.open_groups x.shows;
        made =
            makes_on text (q.made + content_bytes t) r.made leaf.ends (leaf.ends + 1) to.0 b.state _
            closing b.made (omega (arith, takes.made, content.made, same, own, adds))
            (leaf.closes.brace, refl) b.moves leaf.closes.after;
        within = fits;
        byte = byte;
        keeps = quota_kept (quota_kept x.keeps content) takes;
      }

  -- it makes more than the limit
  pub leaf_over : {m r : Quota} {e : TextParserError} {first to asked : ℕ} {kind : Kind} {t : Tree}
      → MayStand → TypedOpening text here.0 kind first → LeafGroup text first to kind t
      → TakesBytes q m (content_bytes t) → asked ≡ leaf_bytes m.limit.weights t → RunsOver m r asked
      → e ≡ want_of_memory → Stops text limit r e
  leaf_over {m} {r} {e} {first} {to} {asked} {kind} {t} may begin leaf content same over none =
      record {
        fails = inl none;
        keeps =
            quota_over (quota_kept x.keeps content) over (λ more.
            let b = before_brace may begin leaf in
            let adds = b.adds in
            let own = leaf_same t content in
            makes_more text (q.made + content_bytes t) limit leaf.ends (leaf.ends + 1) b.state _
            closing b.made (leaf.closes.brace, refl) b.moves
            (omega (arith, more, content.made, same, own, adds)));
      }
