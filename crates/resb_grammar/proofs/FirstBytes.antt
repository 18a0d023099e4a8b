-- Where a token may stand in a state, its first byte tells which token it is.
use Rattle.std.proofs.Common.{◌≡◌, ℕ, Bool, List, refl, sym, ◌∙◌, ap, subst, Some}
use Rattle.std.specs.Prelude.{slice_index}
use Rattle.resb_grammar.specs.Ascii as ascii
use Rattle.resb_grammar.specs.GroupTypes.{Kind}
use Rattle.resb_grammar.specs.Machine.{Token, Means, a_text, a_number, opening, closing, a_comma}
use Rattle.resb_grammar.specs.Machine.{a_type, a_root_type, Body, table_body, array_body}
use Rattle.resb_grammar.specs.Machine.{untyped_body, Open, at_start, after_lone_comma, after_number}
use Rattle.resb_grammar.specs.Machine.{after_comma, State, start, named, titled, inside, typed}
use Rattle.resb_grammar.specs.Machine.{in_string, in_binary, in_integer, filled, in_vector}
use Rattle.resb_grammar.specs.Machine.{finished, in_body, next}
use Rattle.resb_grammar.proofs.Lex.{Mode, neither, numbers, root_types, mode, Class}
use Rattle.resb_grammar.proofs.Lex.{text_class, number_class, open_class, close_class}
use Rattle.resb_grammar.proofs.Lex.{comma_class, type_class, root_type_class, class_in, Lex}
use Rattle.resb_grammar.proofs.Moves.{byte_class, class_text, class_number, none_some, root_colon}

text_mode : (s u : State) (w : List ℕ) → next s (a_text w) ≡ Some u → mode s ≡ neither
text_mode start u w e = refl
text_mode (named name) u w e = none_some u e
text_mode (titled title) u w e = refl
text_mode (inside o) u w e = refl
text_mode (typed kind o) u w e = refl
text_mode (in_string o) u w e = refl
text_mode (in_binary o) u w e = refl
text_mode (in_integer o) u w e = none_some u e
text_mode (filled t o) u w e = refl
text_mode (in_vector at_start ns o) u w e = none_some u e
text_mode (in_vector after_lone_comma ns o) u w e = refl
text_mode (in_vector after_number ns o) u w e = refl
text_mode (in_vector after_comma ns o) u w e = none_some u e
text_mode (finished title items) u w e = refl

-- no number stands right in a group
pub no_number_in_body : {A : Type 0} (b : Body) (o : Open) (v : ℕ) (u : State)
    → in_body b o (a_number v) ≡ Some u → A
no_number_in_body table_body o v u e = none_some u e
no_number_in_body array_body o v u e = none_some u e
no_number_in_body untyped_body o v u e = none_some u e

number_mode : (s u : State) (v : ℕ) → next s (a_number v) ≡ Some u → mode s ≡ numbers
number_mode start u v e = none_some u e
number_mode (named name) u v e = none_some u e
number_mode (titled title) u v e = none_some u e
number_mode (inside o) u v e = no_number_in_body o.frame.body o v u e
number_mode (typed kind o) u v e = none_some u e
number_mode (in_string o) u v e = none_some u e
number_mode (in_binary o) u v e = none_some u e
number_mode (in_integer o) u v e = refl
number_mode (filled t o) u v e = none_some u e
number_mode (in_vector at_start ns o) u v e = refl
number_mode (in_vector after_lone_comma ns o) u v e = none_some u e
number_mode (in_vector after_number ns o) u v e = none_some u e
number_mode (in_vector after_comma ns o) u v e = refl
number_mode (finished title items) u v e = none_some u e

type_mode : (s u : State) (kind : Kind) → next s (a_type kind) ≡ Some u → mode s ≡ neither
type_mode start u k e = refl
type_mode (named name) u k e = none_some u e
type_mode (titled title) u k e = refl
type_mode (inside o) u k e = refl
type_mode (typed kind o) u k e = refl
type_mode (in_string o) u k e = refl
type_mode (in_binary o) u k e = refl
type_mode (in_integer o) u k e = none_some u e
type_mode (filled t o) u k e = refl
type_mode (in_vector at_start ns o) u k e = none_some u e
type_mode (in_vector after_lone_comma ns o) u k e = refl
type_mode (in_vector after_number ns o) u k e = refl
type_mode (in_vector after_comma ns o) u k e = none_some u e
type_mode (finished title items) u k e = refl

-- nor does a type of the root
pub no_root_type_in_body : {A : Type 0} (b : Body) (o : Open) (f : Bool) (u : State)
    → in_body b o (a_root_type f) ≡ Some u → A
no_root_type_in_body table_body o f u e = none_some u e
no_root_type_in_body array_body o f u e = none_some u e
no_root_type_in_body untyped_body o f u e = none_some u e

root_type_mode : (s u : State) (f : Bool) → next s (a_root_type f) ≡ Some u → mode s ≡ root_types
root_type_mode start u f e = none_some u e
root_type_mode (named name) u f e = refl
root_type_mode (titled title) u f e = none_some u e
root_type_mode (inside o) u f e = no_root_type_in_body o.frame.body o f u e
root_type_mode (typed kind o) u f e = none_some u e
root_type_mode (in_string o) u f e = none_some u e
root_type_mode (in_binary o) u f e = none_some u e
root_type_mode (in_integer o) u f e = none_some u e
root_type_mode (filled t o) u f e = none_some u e
root_type_mode (in_vector at_start ns o) u f e = none_some u e
root_type_mode (in_vector after_lone_comma ns o) u f e = none_some u e
root_type_mode (in_vector after_number ns o) u f e = none_some u e
root_type_mode (in_vector after_comma ns o) u f e = none_some u e
root_type_mode (finished title items) u f e = none_some u e

open_in : (m : Mode) → class_in m ascii.left_brace ≡ open_class
open_in neither = refl
open_in numbers = refl
open_in root_types = refl

close_in : (m : Mode) → class_in m ascii.right_brace ≡ close_class
close_in neither = refl
close_in numbers = refl
close_in root_types = refl

comma_in : (m : Mode) → class_in m ascii.comma ≡ comma_class
comma_in neither = refl
comma_in numbers = refl
comma_in root_types = refl

module _ (text : List ℕ) where
  as_lex : (from to : ℕ) (t : Token) (c k : Class) → c ≡ k → Lex k text from to t
      → Lex c text from to t
  as_lex from to t c k e h = subst (λ (x : Class). Lex x text from to t) (sym e) h

  in_mode : (from : ℕ) (m k : Mode) (c : Class) → m ≡ k → class_in k (slice_index text from) ≡ c
      → class_in m (slice_index text from) ≡ c
  in_mode from m k c e h = ap (λ (x : Mode). class_in x (slice_index text from)) e ∙ h

  -- a token that may stand in this state is of the class that the byte there has
  pub lex_of : (from to : ℕ) (s u : State) (t : Token) → Means text from to t → next s t ≡ Some u
      → Lex (class_in (mode s) (slice_index text from)) text from to t
  lex_of from to s u (a_text w) m e =
      as_lex from to (a_text w) _ text_class
      (in_mode from (mode s) neither text_class (text_mode s u w e) (class_text text from to w m))
      (w, m, refl)
  lex_of from to s u (a_number v) m e =
      as_lex from to (a_number v) _ number_class (in_mode from (mode s) numbers number_class
      (number_mode s u v e) (class_number text from to v m)) (
        v,
        m,
        refl,
      )
  lex_of from to s u opening m e =
      as_lex from to opening _ open_class
      (byte_class text (mode s) from ascii.left_brace open_class m.0 (open_in (mode s))) (m.1, refl)
  lex_of from to s u closing m e =
      as_lex from to closing _ close_class
      (byte_class text (mode s) from ascii.right_brace close_class m.0 (close_in (mode s)))
      (m.1, refl)
  lex_of from to s u a_comma m e =
      as_lex from to a_comma _ comma_class
      (byte_class text (mode s) from ascii.comma comma_class m.0 (comma_in (mode s))) (m.1, refl)
  lex_of from to s u (a_type kind) m e =
      as_lex from to (a_type kind) _ type_class (in_mode from (mode s) neither type_class
      (type_mode s u kind e)
      (byte_class text neither from ascii.colon type_class m.stands.colon refl)) (
        kind,
        m,
        refl,
      )
  lex_of from to s u (a_root_type f) m e =
      as_lex from to (a_root_type f) _ root_type_class
      (in_mode from (mode s) root_types root_type_class (root_type_mode s u f e)
      (byte_class text root_types from ascii.colon root_type_class
      (root_colon text from to f m) refl)) (
        f,
        m,
        refl,
      )
