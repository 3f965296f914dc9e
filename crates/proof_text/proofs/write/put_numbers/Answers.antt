use Rattle.std.proofs.Common.{◌≤◌, ◌++◌, ◌∙◌, arith, decimal, refl, string_bytes}
use Rattle.std.proofs.lemmas.List.{get_or_default}
use Rattle.std.proofs.lemmas.List.Elements.{All-more}
use Rattle.proof_text.specs.declared.limits.TheConstants.{MOST_NUMBER}
use Rattle.proof_text.proofs.Joined.{grown-more, grown-two}
use Rattle.proof_text.proofs.write.put_numbers.Goals as goal

pub loop-number-preserved : goal.loop-number-preserved
loop-number-preserved c =
    let numbers = c.args.numbers.now in
    let i = c.loop-number.number-index in
    let n = c.from.result in
    let between = c.args.between.now in
    let both = grown-two (string_bytes c.loop-number.text) (string_bytes c.push_str.new.self) (string_bytes c.put_number.new.text) between (decimal n) (between ++ decimal n) c.in_ok-push_str.ensures.bytes c.in_ok-put_number.ensures refl in
    record {
      text = grown-more (λ m. between ++ decimal m) numbers i n (string_bytes c.args.text.now) (string_bytes c.loop-number.text) (string_bytes c.put_number.new.text) c.loop-number-test.true (c.from.ensures ∙ get_or_default numbers i 0 n c.loop-number-test.true) c.loop-number.invariant.text both;
      small = All-more (λ m. m ≤ MOST_NUMBER) numbers i 0 c.loop-number-test.true c.loop-number.invariant.small (omega (arith, c.type_inv.numbers i));
    }
