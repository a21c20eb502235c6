use Rattle.memory.proofs.Memory.{filled_zeroed}
use Rattle.memory.proofs.clear.Goals as goal

pub returns : goal.returns
returns c =
    record {
      numbers_zero = filled_zeroed (rw c.numbers_needed.ensures at c.fill.ensures);
      words_zero = rw c.words_needed.ensures at c.zero_words.ensures;
    }
