use Rattle.std.proofs.Common.{arith}
use Rattle.call_cases.proofs.asked.asked_of_tests.Goals as goal

pub asked_word-requires-clause-case : goal.asked_word-requires-clause-case
asked_word-requires-clause-case c =
    let count = c.requires.count in
    record {
      sound = c.requires.sound;
      suit = c.requires.suit;
      count = count;
      range = λ n b given. omega (arith, count, c.in_ok-path.ensures n b given);
      other = λ n b given. omega (arith, count, c.in_ok-other.ensures n b given);
    }
