use Rattle.std.proofs.Common.{arith, rules}
use Rattle.hot_words.proofs.WordNumbers.{number_other, number_parsed}
use Rattle.hot_words.proofs.numbers.read_number.Goals as goal

-- a word with a byte that is no digit gives no number
pub returns-then-not-all_digits : goal.returns-then-not-all_digits
returns-then-not-all_digits c =
    record { value = number_other c.args.word.now c.all_digits.result (rw c.as_bytes.ensures.value at c.all_digits.ensures) (search rules) }

-- a word of digits gives its value, where that fits 64 bits
pub returns : goal.returns
returns c = record {
  value = rw c.ok.ensures.value (number_parsed c.args.word.now c.all_digits.result c.parse.result (rw c.as_bytes.ensures.value at c.all_digits.ensures) (search rules) (omega arith) c.parse.ensures.value.0);
}
