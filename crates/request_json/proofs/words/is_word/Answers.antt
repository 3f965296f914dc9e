use Rattle.std.proofs.Common.{◌≡◌, length, ap, sym, ◌∙◌, arith}
use Rattle.request_json.proofs.Permitting.{fits-shape}
use Rattle.request_json.proofs.words.is_word.Goals as goal

pub returns-then-len-ge1-clause-word : goal.returns-then-len-ge1-clause-word
returns-then-len-ge1-clause-word c = λ e. record {
  text = c.len.ensures.text;
  nonempty = λ none.
      let empty : length c.args.text.now ≡ 0 = ap length none in
      let count = c.len.ensures.length in
      let more = c.if-len-ge1.true in
      omega (arith, empty, count, more);
  fits = (fits-shape c.args.shape.now c.args.text.now).0 (sym c.fits_shape.ensures ∙ e);
}
