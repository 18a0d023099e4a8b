use Rattle.resb_icu_text.proofs.strings.Found.text.Goals as goal

pub returns-in-Slice-clause-says : goal.returns-in-Slice-clause-says
returns-in-Slice-clause-says c =
    let s = rw c.in-Slice.is at c.in_ok-slice.ensures.says in (s.whole, s.bytes)

pub returns-in-Built-clause-says : goal.returns-in-Built-clause-says
returns-in-Built-clause-says c =
    let s = rw c.in-Built.is at c.in_ok-slice.ensures.says in (s.whole, s.bytes)
