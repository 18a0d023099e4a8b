-- The machine that reads a text: its tokens, its states, what a token leads to, and its readings.
pub use Rattle.resb_grammar.specs.Token.{Token, a_text, a_number, opening, closing, a_comma, a_type}
pub use Rattle.resb_grammar.specs.Token.{a_root_type, Means}
pub use Rattle.resb_grammar.specs.State.{Body, table_body, array_body, untyped_body, Frame, Title}
pub use Rattle.resb_grammar.specs.State.{Open, VectorStage, at_start, after_lone_comma}
pub use Rattle.resb_grammar.specs.State.{after_number, after_comma, State, start, named, titled}
pub use Rattle.resb_grammar.specs.State.{inside, typed, in_string, in_binary, in_integer, filled}
pub use Rattle.resb_grammar.specs.State.{in_vector, finished}
pub use Rattle.resb_grammar.specs.Next.{shape_in, closed, with_item, with_term, new_frame}
pub use Rattle.resb_grammar.specs.Next.{at_root, within, leave, is_group, is_key_place}
pub use Rattle.resb_grammar.specs.Next.{with_comma, in_table, in_list, in_body, begun_as}
pub use Rattle.resb_grammar.specs.Next.{with_leaf, next_in_vector, next}
pub use Rattle.resb_grammar.specs.Paths.{Move, TokenStep, Path, begun, went, At}
