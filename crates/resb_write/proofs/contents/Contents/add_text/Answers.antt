-- Each part of what is gathered, once a text is added.
use Rattle.std.proofs.Common.{◌≡◌, ◌+◌, ◌-◌, ◌^◌, ◌++◌, ◌∷◌, [], length, min, ◌∙◌, ap, arith}
use Rattle.std.specs.Option.{option_or}
use Rattle.resb_format.proofs.TextUnits.{units_within}
use Rattle.resb_pool.specs.Plan.{nows}
use Rattle.resb_pool.proofs.TextLoops.{nows-push}
use Rattle.resb_write.specs.declared.contents.Contents.{Contents}
use Rattle.resb_write.proofs.contents.Contents.add_text.Goals as goal

pub returns : goal.returns
returns c =
    let old = c.args.self.now in
    let e = c.add_size.ensures in
    let long = ap (λ (x : Contents). x.too_long) e ∙ c.or-self.ensures
    ∙ ap (option_or old.too_long) c.excessive_len.ensures in
    let bytes : c.saturating_add-self.result
    ≡ min (old.text_bytes + length c.args.text.now) (2 ^ 64 - 1)
    = omega (arith, c.saturating_add-self.ensures, ap (λ (x : Contents). x.text_bytes) e) in (
      nows-push c.add_size.new.self.texts.items c.push.new.self.items c.args.text
          c.in_ok-push.ensures.items
          ∙ ap (λ (x : Contents). nows x.texts.items ++ c.args.text.now ∷ []) e,
      units_within c.args.text.now c.utf8.text,
      λ i. record {
        texts = c.push.new.self;
        size = ap (λ (x : Contents). x.size) e i;
        text_bytes = bytes i;
        largest_table = ap (λ (x : Contents). x.largest_table) e i;
        too_long = long i;
        has_count_over_32_bits = ap (λ (x : Contents). x.has_count_over_32_bits) e i;
      },
    )
