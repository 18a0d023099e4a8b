use Rattle.std.proofs.Common.{◌≡◌, ◌∙◌, inr}
use Rattle.std.proofs.lemmas.Result.{IfErr-weaker}
use Rattle.std.specs.Int.{to_le_bytes, w32}
use Rattle.std.specs.List.{flat_map}
use Rattle.resb_read.proofs.words.from_words.Goals as goal

pub returns-clause-read : goal.returns-clause-read
returns-clause-read g c =
    let laid : c.as_slice-bytes.result.now ≡ flat_map (to_le_bytes w32) c.args.words.now =
    c.as_slice-bytes.ensures.value ∙ c.in_ok-lay_words.ensures.lays in
    rw laid at c.from_bytes.ensures.read

pub returns-clause-refused : goal.returns-clause-refused
returns-clause-refused g c =
    let laid : c.as_slice-bytes.result.now ≡ flat_map (to_le_bytes w32) c.args.words.now =
    c.as_slice-bytes.ensures.value ∙ c.in_ok-lay_words.ensures.lays in
    rw laid at c.from_bytes.ensures.refused

pub returns-clause-head : goal.returns-clause-head
returns-clause-head g c =
    let laid : c.as_slice-bytes.result.now ≡ flat_map (to_le_bytes w32) c.args.words.now =
    c.as_slice-bytes.ensures.value ∙ c.in_ok-lay_words.ensures.lays in
    IfErr-weaker c.from_bytes.result _ _ (λ e h. inr h) (rw laid at c.from_bytes.ensures.head)

pub returns-clause-says : goal.returns-clause-says
returns-clause-says g c =
    let laid : c.as_slice-bytes.result.now ≡ flat_map (to_le_bytes w32) c.args.words.now =
    c.as_slice-bytes.ensures.value ∙ c.in_ok-lay_words.ensures.lays in
    IfErr-weaker c.from_bytes.result _ _ (λ e h. inr h) (rw laid at c.from_bytes.ensures.says)
