use Rattle.std.proofs.Common.{◌≡◌, ◌%◌, length, arith}
use Rattle.std.proofs.lemmas.Result.{err_from_is_err_and}
use Rattle.resb_format.specs.Views.{word_bytes}
use Rattle.resb_read.specs.Places.{place_of}
use Rattle.resb_read.proofs.Taking.{bytes_taken}
use Rattle.resb_read.proofs.Viewing.{no_items, even_words}
use Rattle.resb_read.proofs.cursor.Cursor.pairs.Goals as goal

pub returns-in_err-words : goal.returns-in_err-words
returns-in_err-words c =
    let e = err_from_is_err_and c.from_residual.result c.from_residual.ensures.1 in
    let h = c.in_err-words.ensures in
    rw (e.1, e.2) (
      h.0,
      (λ n (x, (fits, there)) paid.
          (let whole : length x % 8 ≡ 0 = fits in h.1 n (x, (omega arith, there)) paid)),
      h.2,
    )

pub returns-in_err-view : goal.returns-in_err-view
returns-in_err-view c =
    let e = err_from_is_err_and c.from_residual-in_err-view.result
    c.from_residual-in_err-view.ensures.1 in
    let (n, (fits, there), paid) = c.in_ok-words.ensures in
    let odd = c.in_err-view.ensures.0 in
    rw (e.1, e.2) (
      omega (arith, paid),
      (λ m (x, (whole, same)) k.
          odd (even_words _ (word_bytes c.in_ok-words.words) x n m there same whole)),
      (
        no_items (place_of c.args.self) c.args.walk.now c.words.new.walk
            (word_bytes c.in_ok-words.words) n c.in_err-view.field-0.0 there paid
            c.in_err-view.ensures.1,
        bytes_taken (place_of c.args.self) (word_bytes c.in_ok-words.words) n c.args.walk.now
            c.words.new.walk there paid,
      ),
    )
