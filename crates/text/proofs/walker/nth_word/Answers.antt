-- `text::walker::nth_word` meets its contract.
use Rattle.text.proofs.Walking.{get_or-words}
use Rattle.text.proofs.walker.nth_word.Goals as goal

-- no word is left past n words
pub returns-in_default : goal.returns-in_default
returns-in_default g c =
    rw (get_or-words _ _ _ _ _ _ c.after_words-rest.ensures c.new.ensures c.take.ensures, c.in_default.is)

-- the first word past them
pub returns : goal.returns
returns g c =
    rw (c.within.ensures, get_or-words _ _ _ _ _ _ c.after_words-rest.ensures c.new.ensures c.take.ensures, c.in-Some.is)
