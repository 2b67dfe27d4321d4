use Rattle.std.proofs.Common.{rules}
use Rattle.observer.specs.Words.{word_of}
use Rattle.observer.proofs.words.word_for.Goals as goal

pub returns-in-true-true : goal.returns-in-true-true
unfolding word_of
returns-in-true-true c = search rules

pub returns-in-true-false : goal.returns-in-true-false
unfolding word_of
returns-in-true-false c = search rules

pub returns-in-false-true : goal.returns-in-false-true
unfolding word_of
returns-in-false-true c = search rules

pub returns-in-false-false : goal.returns-in-false-false
unfolding word_of
returns-in-false-false c = search rules
